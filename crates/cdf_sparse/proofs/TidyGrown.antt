-- A leaf more makes no empty node, and neither does a block that is placed anew; where blocks and new nodes stand says nothing of whether an index is tidy.
-- Widened entries stay tidy: First and Last play no part in it.
use Rattle.cdf_cuts.proofs.Common.{Bool, Entries, IsNode, Leaf, List, Nodes, None, Option, Range, Some, [], ap, block, entry_count, false, if◌then◌else◌, lower, no_entry, no_node, node, refl, subst, sym, true, ℕ, ◌==◌, ◌∷◌, ◌≡◌}
use Rattle.std.specs.Prelude.{max, nat_le, nat_lt}
use Rattle.cdf_edits.proofs.Index.OneDescent.{grown_is}
use Rattle.cdf_edits.specs.Commands.PutSteps.{leaf_step}
use Rattle.cdf_edits.specs.Index.Blocks.{ranges_of}
unfoldable use Rattle.cdf_edits.specs.Index.Grown.{with_leaf, with_lower, with_place, with_place_in}
use Rattle.cdf_edits.specs.Index.Grown.{chain_reaches, index_cut_closed, index_cut_open, kept_closed, kept_open, leads_down, past, reaches, room_of_new, split_off, upto, with_block, with_both, with_entry, with_ranges}
use Rattle.cdf_edits.specs.Index.Written.{block_need, stays_put}
use Rattle.cdf_edits.specs.Space.Acts.{Act, Gave, Took}
use Rattle.cdf_format.specs.Fields.{size_at}
use Rattle.cdf_format.specs.Index.{leaf}
use Rattle.std.specs.List.{flat_map}
use Rattle.cdf_sparse.proofs.TidyCut.{cut_is_tidy}
use Rattle.cdf_puts.specs.TidyIndex.{HasEntry}
unfoldable use Rattle.cdf_puts.specs.TidyIndex.{EntriesTidy, IsTidy}

-- what holds on both sides of a test holds of either
either_way : {A : Type 0} (P : A → Type 0) (p : Bool) (a b : A) → P a → P b → P (if p then a else b)
either_way P true a b x y = x
either_way P false a b x y = y

-- ---- entries of a node

-- an entry at its place among the entries of a node
upto_has : (new : Leaf) (es : Entries) → HasEntry (upto new es)
upto_has new no_entry = tt
upto_has new (block f l place packed es) = either_way HasEntry (nat_le f new.first) (block f l place packed (upto new es)) (with_block new no_entry) tt tt
upto_has new (lower f l ns es) = either_way HasEntry (nat_le f new.first) (lower f l ns (upto new es)) (with_block new no_entry) tt tt

both_has : (es fs : Entries) → HasEntry es → HasEntry (with_both es fs)
both_has no_entry fs h = absurd h
both_has (block f l place packed es) fs h = tt
both_has (lower f l ns es) fs h = tt

upto_tidy : (new : Leaf) (es : Entries) → EntriesTidy es → EntriesTidy (upto new es)
unfolding EntriesTidy
upto_tidy new no_entry t = tt
upto_tidy new (block f l place packed es) t = either_way EntriesTidy (nat_le f new.first) (block f l place packed (upto new es)) (with_block new no_entry) (upto_tidy new es t) tt
upto_tidy new (lower f l ns es) t = either_way EntriesTidy (nat_le f new.first) (lower f l ns (upto new es)) (with_block new no_entry) (t.0, t.1, upto_tidy new es t.2) tt

past_tidy : (f : ℕ) (es : Entries) → EntriesTidy es → EntriesTidy (past f es)
unfolding EntriesTidy
past_tidy f no_entry t = tt
past_tidy f (block first l place packed es) t = either_way EntriesTidy (nat_le first f) (past f es) (block first l place packed es) (past_tidy f es t) t
past_tidy f (lower first l ns es) t = either_way EntriesTidy (nat_le first f) (past f es) (lower first l ns es) (past_tidy f es t.2) t

both_tidy : (es fs : Entries) → EntriesTidy es → EntriesTidy fs → EntriesTidy (with_both es fs)
unfolding EntriesTidy
both_tidy no_entry fs t u = u
both_tidy (block f l place packed es) fs t u = both_tidy es fs t u
both_tidy (lower f l ns es) fs t u = (t.0, t.1, both_tidy es fs t.2 u)

-- entries that go to a new node, where there are some
counted_has : (es : Entries) → (entry_count es == 0) ≡ false → HasEntry es
counted_has no_entry e = absurd cc
counted_has (block f l place packed es) e = tt
counted_has (lower f l ns es) e = tt

-- the entry of a leaf comes into a node with room; else a node comes behind it, which gets an entry at least
module _ (new : Leaf) (at place room : ℕ) (es : Entries) (more : Nodes) where
  split_tidy : (none : Bool) → (entry_count (past new.first es) == 0) ≡ none → HasEntry es → EntriesTidy es → IsTidy more → IsTidy (if none then node place room es (node at (room_of_new new.first room es) (with_block new no_entry) more) else node place room (upto new es) (node at (room_of_new new.first room es) (past new.first es) more))
  unfolding IsTidy EntriesTidy
  split_tidy true e h t m = (h, t, (tt, tt, m))
  split_tidy false e h t m = (upto_has new es, upto_tidy new es t, (counted_has (past new.first es) e, past_tidy new.first es t, m))

  entry_tidy : HasEntry es → EntriesTidy es → IsTidy more → IsTidy (with_entry new at place room es more)
  unfolding IsTidy
  entry_tidy h t m =
      let none = entry_count (past new.first es) == 0 in
      let new_room = room_of_new new.first room es in
      let wide = node place room (with_both (upto new es) (past new.first es)) more in
      let split = if none then node place room es (node at new_room (with_block new no_entry) more) else node place room (upto new es) (node at new_room (past new.first es) more) in
      either_way IsTidy (nat_lt (entry_count es) room) wide split (both_has (upto new es) (past new.first es) (upto_has new es), both_tidy (upto new es) (past new.first es) (upto_tidy new es t) (past_tidy new.first es t), m) (split_tidy none refl h t m)

-- ---- a leaf is added

leaf_node : (new : Leaf) (at : ℕ) (ns : Nodes) → IsNode (with_leaf new at ns)
unfolding with_leaf
leaf_node new at no_node = tt
leaf_node new at (node place room es more) =
    let on = node place room es (with_leaf new at more) in
    let down = node place room (with_lower new at es) more in
    let here = with_entry new at place room es more in
    let wide = node place room (with_both (upto new es) (past new.first es)) more in
    let new_room = room_of_new new.first room es in
    let none = node place room es (node at new_room (with_block new no_entry) more) in
    let some = node place room (upto new es) (node at new_room (past new.first es) more) in
    let split = if entry_count (past new.first es) == 0 then none else some in
    either_way IsNode (chain_reaches new.first more) on (if leads_down new.first false es then down else here) tt
    (either_way IsNode (leads_down new.first false es) down here tt
    (either_way IsNode (nat_lt (entry_count es) room) wide split tt (either_way IsNode (entry_count (past new.first es) == 0) none some tt tt)))

lower_has : (new : Leaf) (at : ℕ) (es : Entries) → HasEntry es → HasEntry (with_lower new at es)
unfolding with_lower
lower_has new at no_entry h = absurd h
lower_has new at (block f l place packed es) h = tt
lower_has new at (lower f l ns es) h = either_way HasEntry (reaches new.first es) (lower f l ns (with_lower new at es)) (lower f (max l new.last) (with_leaf new at ns) es) tt tt

mutual
  unfolding IsTidy EntriesTidy with_leaf with_lower

  pub grown_is_tidy : (new : Leaf) (at : ℕ) (index : Nodes) → IsTidy index → IsTidy (with_leaf new at index)
  grown_is_tidy new at no_node t = (tt, tt, tt)
  grown_is_tidy new at (node place room es more) t =
      let on = node place room es (with_leaf new at more) in
      let down = node place room (with_lower new at es) more in
      let here = with_entry new at place room es more in
      either_way IsTidy (chain_reaches new.first more) on (if leads_down new.first false es then down else here) (t.0, t.1, grown_is_tidy new at more t.2)
      (either_way IsTidy (leads_down new.first false es) down here (lower_has new at es t.0, grown_below_tidy new at es t.1, t.2) (entry_tidy new at place room es more t.0 t.1 t.2))

  pub grown_below_tidy : (new : Leaf) (at : ℕ) (entries : Entries) → EntriesTidy entries → EntriesTidy (with_lower new at entries)
  grown_below_tidy new at no_entry t = tt
  grown_below_tidy new at (block f l place packed es) t = grown_below_tidy new at es t
  grown_below_tidy new at (lower f l ns es) t =
      either_way EntriesTidy (reaches new.first es) (lower f l ns (with_lower new at es)) (lower f (max l new.last) (with_leaf new at ns) es) (t.0, t.1, grown_below_tidy new at es t.2) (leaf_node new at ns, grown_is_tidy new at ns t.1, t.2)

-- each of some ranges gets a leaf
pub ranges_tidy : (ranges : List Range) (index : Nodes) → IsTidy index → IsTidy (with_ranges index ranges)
ranges_tidy [] index t = t
ranges_tidy (r ∷ more) index t = ranges_tidy more (with_leaf (leaf r.first r.last 0 false) 0 index) (grown_is_tidy (leaf r.first r.last 0 false) 0 index t)

-- records from a first to a last are cut: later ones keep their numbers, or they close up
pub opened_is_tidy : (first last : ℕ) (index : Nodes) → IsTidy (index_cut_open first last index)
opened_is_tidy first last index = ranges_tidy (flat_map (split_off first last) (ranges_of index)) _ (cut_is_tidy false (kept_open first last) index)

pub closed_is_tidy : (first last : ℕ) (index : Nodes) → IsTidy (index_cut_closed first last index)
closed_is_tidy first last index = cut_is_tidy true (kept_closed first last) index

-- ---- a block is placed anew

placed_node : (new : Leaf) (ns : Nodes) → IsNode ns → IsNode (with_place new ns)
unfolding with_place
placed_node new no_node h = h
placed_node new (node place room es more) h = tt

placed_has : (new : Leaf) (es : Entries) → HasEntry es → HasEntry (with_place_in new es)
unfolding with_place_in
placed_has new no_entry h = h
placed_has new (block f l place packed es) h = either_way HasEntry (f == new.first) (with_block new es) (block f l place packed (with_place_in new es)) tt tt
placed_has new (lower f l ns es) h = tt

mutual
  unfolding IsTidy EntriesTidy with_place with_place_in

  pub placed_is_tidy : (new : Leaf) (index : Nodes) → IsTidy index → IsTidy (with_place new index)
  placed_is_tidy new no_node t = tt
  placed_is_tidy new (node place room es more) t = (placed_has new es t.0, placed_in_tidy new es t.1, placed_is_tidy new more t.2)

  pub placed_in_tidy : (new : Leaf) (entries : Entries) → EntriesTidy entries → EntriesTidy (with_place_in new entries)
  placed_in_tidy new no_entry t = tt
  placed_in_tidy new (block f l place packed es) t = either_way EntriesTidy (f == new.first) (with_block new es) (block f l place packed (with_place_in new es)) t (placed_in_tidy new es t)
  placed_in_tidy new (lower f l ns es) t = (placed_node new ns t.0, placed_is_tidy new ns t.1, placed_in_tidy new es t.2)

-- the step of a put that writes the records of one leaf
pub step_is_tidy : (b now : List ℕ) (rle : Bool) (vdr : ℕ) (index : Nodes) (old : Option Leaf) (new : Leaf) (at : ℕ) → IsTidy index → IsTidy (leaf_step b now rle vdr index old new at).0
step_is_tidy b now rle vdr index None new at t = subst IsTidy (sym (ap (λ (g : Nodes × ℕ). g.0) (grown_is new at index))) (grown_is_tidy new at index t)
step_is_tidy b now rle vdr index (Some old) new at t = either_way (λ (g : Nodes × List Act). IsTidy g.0) (stays_put b now rle vdr old new) (index, []) (with_place new index, Took new.place (block_need now vdr new) ∷ Gave old.place (size_at b old.place) ∷ []) t (placed_is_tidy new index t)
