use Rattle.std.proofs.Common.{◌∙◌, ℕ, List, ap, map, subst, sym}
use Rattle.std.proofs.lemmas.List.{length-map}
use Rattle.std.specs.Io.KnownBytes.{Appends}
use Rattle.std.specs.List.{zip}
use Rattle.cdf_store.specs.Written.{AppendsFront}
use Rattle.cdf_tap.specs.Meanings.{kinds_of, left_of, others_of, texts_of}
use Rattle.cdf_walk.proofs.Shows.{all_left_of, all_others, all_told}
use Rattle.cdf_walk.proofs.reporting.report.Goals as goal

pub returns-in-Ok-write_texts-clause-all : goal.returns-in-Ok-write_texts-clause-all
returns-in-Ok-write_texts-clause-all g c =
    let name = c.args.name.now in
    let taps = c.show_all.new.taps.items in
    let long = c.in-Ok.ensures.count ∙ sym (length-map taps (λ b. (goal.Tap-dyn g (b.vtable, b.value)).meaning b.value)) in
    let told = ap (λ l. texts_of name (map (λ b. (goal.Tap-dyn g (b.vtable, b.value)).meaning b.value) l)) c.deref.ensures.value ∙ all_told name _ _ _ c.in-Ok.ended.items c.in-Ok.ensures.all long in
    subst (λ (text : List ℕ). Appends (g.O.Sink.written c.args.out.now) (g.O.Sink.written c.write_texts.new.out) text) told c.in-Ok-write_texts.ensures.all

pub returns-in-Ok-write_texts-clause-left : goal.returns-in-Ok-write_texts-clause-left
returns-in-Ok-write_texts-clause-left g c =
    let now = map (λ b. (goal.Tap-dyn g (b.vtable, b.value)).meaning b.value) c.show_all.new.taps.items in
    ap kinds_of (c.drop_ended.ensures ∙ ap (λ l. left_of (zip now l)) c.deref-in-Ok-write_texts.ensures.value) ∙ all_left_of c.args.name.now _ _ now c.in-Ok.ended.items c.in-Ok.ensures.all

pub returns-in-Ok-write_texts-clause-others : goal.returns-in-Ok-write_texts-clause-others
returns-in-Ok-write_texts-clause-others g c =
    let now = map (λ b. (goal.Tap-dyn g (b.vtable, b.value)).meaning b.value) c.show_all.new.taps.items in
    ap (others_of c.args.name.now) (c.drop_ended.ensures ∙ ap (λ l. left_of (zip now l)) c.deref-in-Ok-write_texts.ensures.value) ∙ all_others c.args.name.now _ _ now c.in-Ok.ended.items c.in-Ok.ensures.all

pub returns-clause-part : goal.returns-clause-part
returns-clause-part g c =
    let name = c.args.name.now in
    let taps = c.show_all.new.taps.items in
    let long = c.in-Ok.ensures.count ∙ sym (length-map taps (λ b. (goal.Tap-dyn g (b.vtable, b.value)).meaning b.value)) in
    let told = ap (λ l. texts_of name (map (λ b. (goal.Tap-dyn g (b.vtable, b.value)).meaning b.value) l)) c.deref.ensures.value ∙ all_told name _ _ _ c.in-Ok.ended.items c.in-Ok.ensures.all long in
    subst (λ (text : List ℕ). AppendsFront (g.O.Sink.written c.args.out.now) (g.O.Sink.written c.write_texts.new.out) text) told c.in-Err.ensures.part
