use Rattle.cdf_attrs.proofs.Common.{All, EntryKind, FitsSigned, IsEntryOf, IsGreatest, KnownEntries, List, None, RemovedAs, ap, before, cast_signed, cast_unsigned, edit_done, edit_once, entries_chain, good_is_sound, last_got, last_or, length, members_of, pos, remove, signed_limit, slice_index, slice_index_or, subst, sym, take, to_z-of_z, ℕ, ℤ, ◌<◌, ◌∙◌, ◌≡◌, ◌≤◌}
use Rattle.std.proofs.Common.{w32}
use Rattle.cdf_attrs.proofs.EntryTakenAt.{of_entry, all_from, left_fits, left_small, left_written, stands_behind, index_same}
use Rattle.cdf_attrs.proofs.GreatestNumber.{greatest_fits}
use Rattle.cdf_attrs.proofs.NumberBounds.{bound_left}
use Rattle.cdf_attrs.proofs.removing.remove_at.Goals as goal

pub overflow_cast-count : goal.overflow_cast-count
overflow_cast-count g c =
    let left = c.remove.ensures.items ∙ ap (λ (e : KnownEntries). remove e.numbers c.args.i) c.left.view_is in
    let count = c.len-count.ensures ∙ sym c.deref-2.ensures.len ∙ ap (λ (xs : List ℕ). length xs) (c.deref-2.ensures.value ∙ left) in
    subst (λ (n : ℕ). FitsSigned w32 (pos n)) (sym count) (left_fits c.requires.good (of_entry c.requires.entry) c.args.entries c.requires.chain c.requires.known c.args.i c.requires.within c.requires.short)

pub greatest_number-greatest-requires : goal.greatest_number-greatest-requires
greatest_number-greatest-requires g c =
    let left = c.deref-2.ensures.value ∙ c.remove.ensures.items ∙ ap (λ (e : KnownEntries). remove e.numbers c.args.i) c.left.view_is in
    subst (λ (xs : List ℕ). All (λ n. n ≤ signed_limit) xs) (sym left) (all_from (λ n. n ≤ signed_limit) (remove c.args.entries.numbers c.args.i) (left_small c.requires.good (of_entry c.requires.entry) c.args.entries c.requires.chain c.requires.known c.args.i c.requires.within))

pub remove_entry-requires-clause-sound : goal.remove_entry-requires-clause-sound
remove_entry-requires-clause-sound g c = good_is_sound (g.A.Area.image c.args.area.now) c.requires.good

-- the entry that was taken away
place_is : (entries : KnownEntries) (places : List ℕ) (i place : ℕ) → places ≡ entries.places → i < length entries.places → place ≡ slice_index_or places i place → place ≡ slice_index entries.places i
place_is entries places i place same within is = is ∙ ap (λ (xs : List ℕ). slice_index_or xs i place) same ∙ index_same entries.places i place within

pub remove_entry-requires-clause-entry : goal.remove_entry-requires-clause-entry
remove_entry-requires-clause-entry g c =
    let place = place_is c.args.entries c.left.inside.places.items c.args.i c.remove-place.result (ap (λ (e : KnownEntries). e.places) c.left.view_is) c.requires.within c.remove-place.ensures.value in
    subst (IsEntryOf (g.A.Area.image c.args.area.now) c.args.kind c.args.adr) (sym place) c.requires.entry

pub remove_entry-requires-clause-behind : goal.remove_entry-requires-clause-behind
remove_entry-requires-clause-behind g c =
    let b = g.A.Area.image c.args.area.now in
    let same = ap (λ (e : KnownEntries). e.places) c.left.view_is in
    let place = place_is c.args.entries c.left.inside.places.items c.args.i c.remove-place.result same c.requires.within c.remove-place.ensures.value in
    c.copied-behind.ensures ∙ c.last.ensures.value ∙ last_got (take c.args.i c.deref.result.now) ∙ ap (λ (xs : List ℕ). last_or None (take c.args.i xs)) (c.deref.ensures.value ∙ same)
    ∙ stands_behind c.requires.good (of_entry c.requires.entry) c.args.entries c.requires.chain c.requires.known c.args.i c.requires.within
    ∙ ap (λ (m : ℕ). last_or None (before m (members_of b (entries_chain c.args.kind c.args.adr)))) (sym place)

taken_as : (b now : List ℕ) (kind : EntryKind) (adr m place : ℕ) (count greatest : ℤ) → m ≡ place → FitsSigned w32 greatest → RemovedAs b now kind adr m count (cast_signed w32 (cast_unsigned w32 greatest)) → RemovedAs b now kind adr place count greatest
taken_as b now kind adr m place count greatest same fits removed = subst (λ (z : ℤ). RemovedAs b now kind adr place count z) (to_z-of_z w32 greatest fits) (subst (λ (x : ℕ). RemovedAs b now kind adr x count (cast_signed w32 (cast_unsigned w32 greatest))) same removed)

pub returns-clause-removed : goal.returns-clause-removed
returns-clause-removed g c =
    let b = g.A.Area.image c.args.area.now in
    let left = c.remove.ensures.items ∙ ap (λ (e : KnownEntries). remove e.numbers c.args.i) c.left.view_is in
    let count = c.len-count.ensures ∙ sym c.deref-2.ensures.len ∙ ap (λ (xs : List ℕ). length xs) (c.deref-2.ensures.value ∙ left) in
    let place = place_is c.args.entries c.left.inside.places.items c.args.i c.remove-place.result (ap (λ (e : KnownEntries). e.places) c.left.view_is) c.requires.within c.remove-place.ensures.value in
    let greatest = subst (λ (xs : List ℕ). IsGreatest xs c.greatest_number-greatest.result) (c.deref-2.ensures.value ∙ left) c.greatest_number-greatest.ensures in
    let fits = greatest_fits (remove c.args.entries.numbers c.args.i) c.greatest_number-greatest.result (left_small c.requires.good (of_entry c.requires.entry) c.args.entries c.requires.chain c.requires.known c.args.i c.requires.within) greatest in
    record {
      count = cast_signed w32 c.len-count.result;
      greatest = c.greatest_number-greatest.result;
      count_is = ap (λ (n : ℕ). cast_unsigned w32 (cast_signed w32 n)) count ∙ left_written c.requires.good (of_entry c.requires.entry) c.args.entries c.requires.chain c.requires.known c.args.i c.requires.within c.requires.short;
      greatest_is = greatest;
      removed = taken_as b (g.A.Area.image c.remove_entry.new.area) c.args.kind c.args.adr c.remove-place.result (slice_index c.args.entries.places c.args.i) (cast_signed w32 c.len-count.result) c.greatest_number-greatest.result place fits c.in_ok-remove_entry.ensures.removed;
    }

pub returns-clause-area : goal.returns-clause-area
returns-clause-area g c = edit_done (edit_once c.in_ok-remove_entry.ensures.area)

pub invariant_of-left : goal.invariant_of-left
invariant_of-left g c = bound_left c.left.inside.bound c.left.inside.numbers.items c.remove.new.self.items c.args.i c.remove.ensures.items c.left.invariant
