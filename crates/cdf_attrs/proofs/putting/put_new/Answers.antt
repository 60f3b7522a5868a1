use Rattle.cdf_attrs.proofs.Common.{KnownEntries, List, ap, slice_index, sym, ℕ, ◌∙◌}
use Rattle.cdf_attrs.proofs.EntryPut.{begins_at, numbered}
use Rattle.cdf_attrs.proofs.putting.put_new.Goals as goal

pub bounds-as_slice-i : goal.bounds-as_slice-i
bounds-as_slice-i g c = rw (c.as_slice.ensures.value ∙ ap (λ (e : KnownEntries). e.places) c.entries.view_is) (numbered c.requires.good c.requires.ready c.in-Some.i (sym c.find.ensures ∙ c.in-Some.is)).0

pub read_old-requires : goal.read_old-requires
read_old-requires g c = rw (c.as_slice.ensures.value ∙ ap (λ (e : KnownEntries). e.places) c.entries.view_is) (begins_at c.requires.good c.requires.ready c.in-Some.i (numbered c.requires.good c.requires.ready c.in-Some.i (sym c.find.ensures ∙ c.in-Some.is)).0)

pub put_over-requires : goal.put_over-requires
put_over-requires g c =
    let at = numbered c.requires.good c.requires.ready c.in-Some.i (sym c.find.ensures ∙ c.in-Some.is) in
    let is = c.in_ok-old.ensures.place ∙ ap (λ (xs : List ℕ). slice_index xs c.in-Some.i) (c.as_slice.ensures.value ∙ ap (λ (e : KnownEntries). e.places) c.entries.view_is) in
    rw (c.in_ok-old.ensures.area.image, c.in_ok-old.ensures.area.frame) (record {
      good = c.requires.good;
      ready = c.requires.ready;
      old = record {
        within = at.0;
        place_is = is;
        number_is = rw is at.1;
        size_is = rw c.in_ok-old.ensures.place c.in_ok-old.ensures.size;
        reserved_is = rw c.in_ok-old.ensures.place c.in_ok-old.ensures.reserved;
        bytes = rw c.in_ok-old.ensures.place c.in_ok-old.ensures.bytes;
      };
    })
