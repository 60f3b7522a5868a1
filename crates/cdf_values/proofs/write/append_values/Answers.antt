use Rattle.cdf_values.proofs.Common.{[], ap, append_assoc, drop, arith, length, length-drop, meant, notation_of, sym, take, text_by, ◌%◌, ◌++◌, ◌<◌, ◌∙◌, ◌∷◌, ◌≡◌, ◌≤◌}
use Rattle.cdf_values.proofs.NotationLemmas.{has_size}
use Rattle.cdf_values.proofs.WriteLemmas.{led, begins, goes_on, not_none, some_bytes, some_part, still_whole, whole_texts}
use Rattle.cdf_values.proofs.write.append_values.Goals as goal

pub split_at-requires : goal.split_at-requires
split_at-requires c =
    let len = length c.args.bytes.now in
    let size = c.text_size-size.result in
    let some : 0 < size = omega (arith, some_bytes c.args.t c.args.elems c.requires.some, c.text_size-size.ensures.value) in
    let whole : len % size ≡ 0 = ap (λ n. len % n) c.text_size-size.ensures.value ∙ whole_texts c.args.t c.args.elems len c.requires.whole in
    some_part size len some whole (not_none len c.if-is_empty.ensures)

pub append_text-requires : goal.append_text-requires
append_text-requires c =
    has_size c.args.t (meant c.notation_of-notation.result) (length c.split_at.result.0.now) c.notation_of-notation.ensures (rw c.split_at.ensures.front_len c.text_size-size.ensures.fits)

pub append_text-requires-in-loop-rest : goal.append_text-requires-in-loop-rest
append_text-requires-in-loop-rest c =
    has_size c.args.t (meant c.notation_of-notation.result) (length c.split_at-in-loop-rest.result.0.now) c.notation_of-notation.ensures (rw c.split_at-in-loop-rest.ensures.front_len c.text_size-size.ensures.fits)

pub loop-rest-init : goal.loop-rest-init
loop-rest-init c =
    let bytes = c.args.bytes.now in
    let len = length bytes in
    let t = c.args.t in
    let size = c.text_size-size.result in
    let some : 0 < size = omega (arith, some_bytes t c.args.elems c.requires.some, c.text_size-size.ensures.value) in
    let whole : len % size ≡ 0 = ap (λ n. len % n) c.text_size-size.ensures.value ∙ whole_texts t c.args.elems len c.requires.whole in
    let long : size ≤ len = some_part size len some whole (not_none len c.if-is_empty.ensures) in
    let old = c.args.text.now.items in
    let first : c.append_text.new.text.items ≡ old ++ text_by (notation_of t) (take size bytes) =
    c.in_ok-append_text.ensures ∙ ap (λ n. old ++ text_by n c.split_at.result.0.now) c.notation_of-notation.ensures ∙ ap (λ l. old ++ text_by (notation_of t) l) c.split_at.ensures.front in
    record {
      whole = ap (λ l. length l % size) c.split_at.ensures.back ∙ ap (λ n. n % size) (length-drop size bytes) ∙ still_whole size len whole long;
      same = ap (λ l. l ++ led t size c.split_at.result.1.now) first ∙ ap (λ l. (old ++ text_by (notation_of t) (take size bytes)) ++ led t size l) c.split_at.ensures.back
          ∙ append_assoc old (text_by (notation_of t) (take size bytes)) (led t size (drop size bytes)) ∙ ap (λ l. old ++ l) (begins t c.args.elems size bytes c.text_size-size.ensures.value some long);
    }

pub split_at-requires-in-loop-rest : goal.split_at-requires-in-loop-rest
split_at-requires-in-loop-rest c =
    let len = length c.loop-rest.rest.now in
    let size = c.text_size-size.result in
    let some : 0 < size = omega (arith, some_bytes c.args.t c.args.elems c.requires.some, c.text_size-size.ensures.value) in
    some_part size len some c.loop-rest.invariant.whole (not_none len c.loop-rest-test.ensures)

pub loop-rest-preserved : goal.loop-rest-preserved
loop-rest-preserved c =
    let rest = c.loop-rest.rest.now in
    let len = length rest in
    let old = c.loop-rest.text.items in
    let t = c.args.t in
    let size = c.text_size-size.result in
    let some : 0 < size = omega (arith, some_bytes t c.args.elems c.requires.some, c.text_size-size.ensures.value) in
    let whole : len % size ≡ 0 = c.loop-rest.invariant.whole in
    let long : size ≤ len = some_part size len some whole (not_none len c.loop-rest-test.ensures) in
    let blank : c.push.new.self.items ≡ old ++ (32 ∷ []) = c.in_ok-push.ensures.items in
    let next : c.append_text-in-loop-rest.new.text.items ≡ (old ++ (32 ∷ [])) ++ text_by (notation_of t) (take size rest) =
    c.in_ok-append_text-2.ensures ∙ ap (λ n. c.push.new.self.items ++ text_by n c.split_at-in-loop-rest.result.0.now) c.notation_of-notation.ensures ∙ ap (λ l. l ++ text_by (notation_of t) c.split_at-in-loop-rest.result.0.now) blank
    ∙ ap (λ l. (old ++ (32 ∷ [])) ++ text_by (notation_of t) l) c.split_at-in-loop-rest.ensures.front in
    record {
      whole = ap (λ l. length l % size) c.split_at-in-loop-rest.ensures.back ∙ ap (λ n. n % size) (length-drop size rest) ∙ still_whole size len whole long;
      same = ap (λ l. l ++ led t size c.split_at-in-loop-rest.result.1.now) next
          ∙ ap (λ l. ((old ++ (32 ∷ [])) ++ text_by (notation_of t) (take size rest)) ++ led t size l) c.split_at-in-loop-rest.ensures.back
          ∙ sym (goes_on t size old rest some long) ∙ c.loop-rest.invariant.same;
    }
