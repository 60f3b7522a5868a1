-- An image goes on to one in which the block of one leaf is another one: what a step of a put asks of all else.
use Rattle.cdf_blocks.proofs.Common.{Bool, In, IsOneOf, Leaf, List, Nodes, [], ap, cases_eq, eq-eqb, inl, inr, length, refl, room_at, sym, top_chain, true, used_count, ℕ, ◌<◌, ◌∙◌, ◌∷◌, ◌≡◌, ◌≢◌, ◌≤◌}
unfoldable use Rattle.cdf_blocks.proofs.Common.{leaves_of, nodes_of}
use Rattle.cdf_puts.proofs.GoesKeep.{each_own, goes_keep}
use Rattle.cdf_edits.proofs.Edits.Common.{each}
use Rattle.cdf_edits.proofs.Commands.KeptRecords.{Stood, keeps_stood}
use Rattle.cdf_edits.proofs.Common.{Act, AllKeep, Allowance, Allowances, Field, FreedStay, Good, Keeps, Kind, Option, Range, Stays, VariableShape, no_fields, number, owned, range, range_at, shape, space_fields, variable_records, vdr_vxr_head, vdr_vxr_tail}
use Rattle.cdf_edits.proofs.Edits.Common.{StandsAmong, same_as_itself}
use Rattle.cdf_edits.proofs.Edits.LeafPieces.{one_place}
use Rattle.cdf_edits.proofs.Edits.PlainLeaves.{leaves_apart}
use Rattle.cdf_edits.specs.Commands.Allowances.{anything_if}
use Rattle.cdf_edits.specs.Commands.PutSteps.{Goes, step_changes}
use Rattle.cdf_edits.specs.Index.Written.{EntryIs, NodeSpareStays, is_taken_at, last_node, top_stays, was_unused}
use Rattle.cdf_format.proofs.NameRules.{bytes_eq-same}
use Rattle.cdf_index.proofs.OwnRecords as of_own
use Rattle.cdf_puts.proofs.GoesThen.{own_there}
use Rattle.cdf_puts.specs.Going.{GoesOn, found_in}
use Rattle.cdf_blocks.specs.Replaced.{stage}
use Rattle.std.proofs.Common.{false, if◌then◌else◌}
use Rattle.std.specs.List.{list_any}

abbrev pub heads : List Field
heads = vdr_vxr_head ∷ vdr_vxr_tail ∷ []

-- no node of these is taken
none_taken : (acts : List Act) (ms : List ℕ) → ((m : ℕ) → In m ms → is_taken_at acts m ≡ false) → list_any (is_taken_at acts) ms ≡ false
none_taken acts [] out = refl
none_taken acts (m ∷ ms) out = rw (out m (inl refl), none_taken acts ms (λ x i. out x (inr i))) refl

-- the top chain stays
pub chain_stays : (acts : List Act) (before after : Nodes) → top_chain after ≡ top_chain before → ((m : ℕ) → In m (top_chain before) → is_taken_at acts m ≡ false) → top_stays acts before before after ≡ true
chain_stays acts before after same out = rw (same, bytes_eq-same (top_chain before), none_taken acts (top_chain before) out) refl

module _ {b now : List ℕ} {kind : Kind} {before : List VariableShape} {own own' : VariableShape} {after : List VariableShape} {acts : List Act} (good : Good b) (at : StandsAmong b kind before own after) (g : GoesOn b now kind before own own' after acts) (old : Leaf) (one : IsOneOf (leaves_of own.index) old) (gdr : Stays b now (shape b).gdr space_fields) (descriptor : Stays b now own.vdr (vdr_vxr_head ∷ vdr_vxr_tail ∷ []))
    (blocks : (l : Leaf) → IsOneOf (leaves_of own.index) l → l.place ≢ old.place → Stood b now l.place) (cprs : (m : ℕ) → In m own.cpr → Stood b now m) (changes : Range → Bool) (is : changes (range old.first old.last) ≡ true) where
  abbrev may : Allowances
  may = step_changes b (found_in b kind before own) changes

  abbrev own_may : ℕ → Allowance
  own_may m = may.variables kind (length before) m

  abbrev block_may : Range → Allowance
  block_may r = anything_if (changes r)

  allowed : (m : ℕ) (o : Option Range) → range_at (shape b) (found_in b kind before own) m ≡ o → own_may m ≡ of_own.by_range b kind heads block_may m o
  allowed m o e = let same = same_as_itself kind in let number = eq-eqb (length before) (length before) refl in rw (same, number, e)

  block_keeps : (l : Leaf) → IsOneOf (leaves_of own.index) l → Keeps b now l.place (block_may (range l.first l.last))
  block_keeps l i = elim (cases_eq l.place old.place) [
    | inl e ↦ (let q = one_place (leaves_of own.index) (leaves_apart good at) l old i one e in rw (q, is) tt)
    | inr ne ↦ keeps_stood b now l.place (blocks l i ne) (block_may (range l.first l.last))
  ]

  own_keeps : (m : ℕ) → In m (variable_records own) → Keeps b now m (own_may m)
  own_keeps = each_own (λ (m : ℕ). Keeps b now m (own_may m)) own (rw (of_own.descriptor_allowed (found_in b kind before own) good at refl heads block_may own_may allowed) descriptor)
      (λ m i. rw (of_own.node_allowed (found_in b kind before own) good at refl heads block_may own_may allowed m i) tt)
      (λ l i. rw (of_own.block_allowed (found_in b kind before own) good at refl heads block_may own_may allowed l i) (block_keeps l i))
      (λ m i. keeps_stood b now m (cprs m i) (own_may m))

  keeps : AllKeep b now may acts (owned b (shape b))
  keeps = goes_keep good at g may gdr own_keeps

  pub goes_by_step : ((m : ℕ) → In m (nodes_of own'.index) → (i : ℕ) → used_count now m ≤ i → i < room_at now m → EntryIs b now m i (was_unused b (nodes_of own.index) acts m i)) → ((m : ℕ) → In m (nodes_of own'.index) → NodeSpareStays b now acts m) → top_stays acts own.index own.index own'.index ≡ true → number now own'.vdr vdr_vxr_tail ≡ number b own.vdr vdr_vxr_tail
      → FreedStay b now no_fields acts → (done : List Act) (next to : ℕ) → Goes (found_in b kind before own) (stage b own done next) (stage now own' acts to) changes
  goes_by_step unused spare top tail freed done next to = record {
    good = g.good;
    stands = own_there g.good g.among;
    acts_follow = g.follow;
    keeps = keeps;
    unused = each (λ m. (i : ℕ) → used_count now m ≤ i → i < room_at now m → EntryIs b now m i (was_unused b (nodes_of own.index) acts m i)) (nodes_of own'.index) unused;
    spare = each (NodeSpareStays b now acts) (nodes_of own'.index) spare;
    tail = tail ∙ sym (ap (λ (p : Bool). if p then number b own.vdr vdr_vxr_tail else last_node own'.index) top);
    freed = freed;
  }
