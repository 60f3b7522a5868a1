use Rattle.cdf_attrs.proofs.Common.{Added, Attrs, IsBody, List, None, [], adr_body, adrs, ap, ap₂, arith, fine_has_no_zeros, fine_is_short, good_eof, good_is_sound, last_got, last_or, length, scope_code, shape, subst, sym, type_of_body, ℕ, ◌++◌, ◌∙◌, ◌∷◌, ◌≡◌}
use Rattle.cdf_attrs.proofs.AttributeChain.{attribute_members, has_attribute_chain, few_attributes}
use Rattle.cdf_attrs.proofs.AttributesRead.{counted_is}
use Rattle.cdf_attrs.proofs.Created.{follows, names_now, places_now}
use Rattle.cdf_attrs.proofs.NewAdr.{body_made, length-body}
use Rattle.cdf_attrs.proofs.creating.make.Goals as goal

pub overflow_cast-num : goal.overflow_cast-num
overflow_cast-num g c =
    let b = g.A.Area.image c.args.area.now in
    let few = few_attributes b (shape b) (good_is_sound b c.requires.good).has_shape in
    let count : c.len-num.result ≡ length (adrs (shape b)) = omega (arith, c.len-num.ensures, ap length c.requires.places, c.args.places.now.ok.0) in
    omega (arith, count, few, c.requires.room, c.requires.limit)

pub append_record-requires-clause-sound : goal.append_record-requires-clause-sound
append_record-requires-clause-sound g c = good_is_sound _ c.requires.good

pub append_record-requires-clause-eof : goal.append_record-requires-clause-eof
append_record-requires-clause-eof g c = good_eof _ c.requires.good

pub append_record-requires-clause-chain : goal.append_record-requires-clause-chain
append_record-requires-clause-chain g c = has_attribute_chain _ _ (good_is_sound (g.A.Area.image c.args.area.now) c.requires.good).has_shape

pub append_record-requires-clause-last : goal.append_record-requires-clause-last
append_record-requires-clause-last g c =
    let b = g.A.Area.image c.args.area.now in
    c.copied-last.ensures ∙ c.last.ensures.value ∙ last_got c.deref.result.now ∙ ap (last_or None) (c.deref.ensures.value ∙ c.requires.places ∙ sym (attribute_members b (shape b) (good_is_sound b c.requires.good).has_shape))

pub append_record-requires-clause-body : goal.append_record-requires-clause-body
append_record-requires-clause-body g c =
    let b = g.A.Area.image c.args.area.now in
    let count : c.len-num.result ≡ length (adrs (shape b)) = omega (arith, c.len-num.ensures, ap length c.requires.places, c.args.places.now.ok.0) in
    let bytes : c.deref-2.result.now ≡ adr_body (scope_code c.args.scope) (length (adrs (shape b))) c.args.name.now = c.deref-2.ensures.value ∙ c.in_ok-bytes.ensures ∙ ap₂ (λ (x n : ℕ). adr_body x n c.args.name.now) c.code_of.ensures count in
    subst IsBody (sym bytes) (body_made (scope_code c.args.scope) (length (adrs (shape b))) c.args.name.now (fine_is_short c.args.name.now c.requires.named)).1

pub append_record-requires-clause-kind : goal.append_record-requires-clause-kind
append_record-requires-clause-kind g c =
    let b = g.A.Area.image c.args.area.now in
    let count : c.len-num.result ≡ length (adrs (shape b)) = omega (arith, c.len-num.ensures, ap length c.requires.places, c.args.places.now.ok.0) in
    let bytes : c.deref-2.result.now ≡ adr_body (scope_code c.args.scope) (length (adrs (shape b))) c.args.name.now = c.deref-2.ensures.value ∙ c.in_ok-bytes.ensures ∙ ap₂ (λ (x n : ℕ). adr_body x n c.args.name.now) c.code_of.ensures count in
    ap type_of_body bytes ∙ (body_made (scope_code c.args.scope) (length (adrs (shape b))) c.args.name.now (fine_is_short c.args.name.now c.requires.named)).0

pub append_record-requires-clause-few : goal.append_record-requires-clause-few
append_record-requires-clause-few g c =
    let b = g.A.Area.image c.args.area.now in
    let few = few_attributes b (shape b) (good_is_sound b c.requires.good).has_shape in
    omega (arith, counted_is b c.requires.good, few, c.requires.room, c.requires.limit)

pub append_record-requires-clause-room : goal.append_record-requires-clause-room
append_record-requires-clause-room g c =
    let b = g.A.Area.image c.args.area.now in
    let count : c.len-num.result ≡ length (adrs (shape b)) = omega (arith, c.len-num.ensures, ap length c.requires.places, c.args.places.now.ok.0) in
    let bytes : c.deref-2.result.now ≡ adr_body (scope_code c.args.scope) (length (adrs (shape b))) c.args.name.now = c.deref-2.ensures.value ∙ c.in_ok-bytes.ensures ∙ ap₂ (λ (x n : ℕ). adr_body x n c.args.name.now) c.code_of.ensures count in
    omega (arith, ap length bytes, length-body (scope_code c.args.scope) (length (adrs (shape b))) c.args.name.now (fine_is_short c.args.name.now c.requires.named), c.requires.room)

pub returns-clause-follows : goal.returns-clause-follows
returns-clause-follows g c =
    let b = g.A.Area.image c.args.area.now in
    let few = few_attributes b (shape b) (good_is_sound b c.requires.good).has_shape in
    let count : c.len-num.result ≡ length (adrs (shape b)) = omega (arith, c.len-num.ensures, ap length c.requires.places, c.args.places.now.ok.0) in
    let bytes : c.deref-2.result.now ≡ adr_body (scope_code c.args.scope) (length (adrs (shape b))) c.args.name.now = c.deref-2.ensures.value ∙ c.in_ok-bytes.ensures ∙ ap₂ (λ (x n : ℕ). adr_body x n c.args.name.now) c.code_of.ensures count in
    let added = subst (λ (x : List ℕ). Added b (g.A.Area.image c.append_record.new.area) Attrs x c.in_ok-place.place) bytes c.in_ok-place.ensures.added in
    follows c.args.name.now c.args.scope c.requires.good (fine_is_short c.args.name.now c.requires.named) (fine_has_no_zeros c.args.name.now c.requires.named) (omega (arith, few, c.requires.room, c.requires.limit)) added c.requires.named c.requires.free (omega (arith, c.requires.room, c.requires.limit))

pub returns-clause-names : goal.returns-clause-names
returns-clause-names g c =
    let b = g.A.Area.image c.args.area.now in
    let few = few_attributes b (shape b) (good_is_sound b c.requires.good).has_shape in
    let count : c.len-num.result ≡ length (adrs (shape b)) = omega (arith, c.len-num.ensures, ap length c.requires.places, c.args.places.now.ok.0) in
    let bytes : c.deref-2.result.now ≡ adr_body (scope_code c.args.scope) (length (adrs (shape b))) c.args.name.now = c.deref-2.ensures.value ∙ c.in_ok-bytes.ensures ∙ ap₂ (λ (x n : ℕ). adr_body x n c.args.name.now) c.code_of.ensures count in
    let added = subst (λ (x : List ℕ). Added b (g.A.Area.image c.append_record.new.area) Attrs x c.in_ok-place.place) bytes c.in_ok-place.ensures.added in
    names_now c.args.name.now c.args.scope c.requires.good (fine_is_short c.args.name.now c.requires.named) (fine_has_no_zeros c.args.name.now c.requires.named) (omega (arith, few, c.requires.room, c.requires.limit)) added

pub returns-clause-places : goal.returns-clause-places
returns-clause-places g c =
    let b = g.A.Area.image c.args.area.now in
    let few = few_attributes b (shape b) (good_is_sound b c.requires.good).has_shape in
    let count : c.len-num.result ≡ length (adrs (shape b)) = omega (arith, c.len-num.ensures, ap length c.requires.places, c.args.places.now.ok.0) in
    let bytes : c.deref-2.result.now ≡ adr_body (scope_code c.args.scope) (length (adrs (shape b))) c.args.name.now = c.deref-2.ensures.value ∙ c.in_ok-bytes.ensures ∙ ap₂ (λ (x n : ℕ). adr_body x n c.args.name.now) c.code_of.ensures count in
    let added = subst (λ (x : List ℕ). Added b (g.A.Area.image c.append_record.new.area) Attrs x c.in_ok-place.place) bytes c.in_ok-place.ensures.added in
    c.in_ok-push.ensures.items ∙ ap (λ (xs : List ℕ). xs ++ c.in_ok-place.place ∷ []) c.requires.places ∙ sym (places_now c.args.name.now c.args.scope c.requires.good (fine_is_short c.args.name.now c.requires.named) (fine_has_no_zeros c.args.name.now c.requires.named) (omega (arith, few, c.requires.room, c.requires.limit)) added)
