use Rattle.cdf_attrs.proofs.Common.{Known, ap, arith, edit_more, refl, start, sym, ◌∙◌}
use Rattle.cdf_attrs.proofs.DroppedChains.{all_done, at_index, drops_more, keeps_same}
use Rattle.cdf_attrs.proofs.KnownAttributes.{names_known, none_known, places_known}
use Rattle.cdf_attrs.proofs.attrs.Attrs.drop_var.Goals as goal

pub loop-adr-init : goal.loop-adr-init
loop-adr-init g c = record { good = c.requires.good; keeps = keeps_same refl; dropped = λ found kind_is num_is. start _ found c.requires.good; area = record { frame = refl; faults = refl } }

pub drop_from-requires-clause-adr : goal.drop_from-requires-clause-adr
drop_from-requires-clause-adr g c =
    let are = c.deref-adr-items.ensures.value ∙ ap (λ (k : Known). k.places) c.self.view_is ∙ c.requires.known.places_are in
    at_index c.deref-adr-items.result.now _ c.loop-adr.adr-index (are ∙ sym c.loop-adr.invariant.keeps.places) c.loop-adr-test.true

pub loop-adr-preserved : goal.loop-adr-preserved
loop-adr-preserved g c =
    let are = c.deref-adr-items.ensures.value ∙ ap (λ (k : Known). k.places) c.self.view_is ∙ c.requires.known.places_are in
    let call = c.in_ok-drop_from.ensures in
    record {
      good = call.good;
      keeps = let one = c.loop-adr.invariant.keeps in let two = call.keeps in record { names = two.names ∙ one.names; places = two.places ∙ one.places; long = two.long ∙ one.long };
      dropped = drops_more c.requires.good c.requires.short are c.loop-adr-test.true refl c.loop-adr.invariant.good c.loop-adr.invariant.keeps c.loop-adr.invariant.dropped call.global call.dropped;
      area = edit_more c.loop-adr.invariant.area call.area;
    }

pub returns-clause-dropped : goal.returns-clause-dropped
returns-clause-dropped g c =
    let are = c.deref-adr-items.ensures.value ∙ ap (λ (k : Known). k.places) c.self.view_is ∙ c.requires.known.places_are in
    λ found kind_is num_is. all_done c.deref-adr-items.result.now c.loop-adr.adr-index are (omega (arith, c.loop-adr-test.false, c.loop-adr.auto.adr-index-end)) (c.loop-adr.invariant.dropped found kind_is num_is)

pub returns-clause-known : goal.returns-clause-known
returns-clause-known g c =
    let keeps = c.loop-adr.invariant.keeps in
    none_known _ _ _ _ (names_known c.requires.known c.self.view_is ∙ sym keeps.names) (places_known c.requires.known c.self.view_is ∙ sym keeps.places) c.clear.ensures.items

pub returns-clause-stays : goal.returns-clause-stays
returns-clause-stays g c = none_known _ _ _ _ (names_known c.requires.known c.self.view_is) (places_known c.requires.known c.self.view_is) c.clear.ensures.items

pub returns-in_err-drop_from-clause-stays : goal.returns-in_err-drop_from-clause-stays
returns-in_err-drop_from-clause-stays g c = none_known _ _ _ _ (names_known c.requires.known c.self.view_is) (places_known c.requires.known c.self.view_is) c.clear.ensures.items
