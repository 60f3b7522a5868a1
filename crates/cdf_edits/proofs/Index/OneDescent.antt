-- One way down an index gives what two ways give: the index with a leaf more, and how many entries the node has that this needs.
use Rattle.std.specs.Prelude.{◌≡◌, ℕ, max, Bool, true, false, if◌then◌else◌}
use Rattle.cdf_edits.proofs.Common.{Entries, Leaf, Nodes, ap, block, lower, no_entry, no_node, node, refl}
use Rattle.cdf_edits.specs.Commands.PutSteps.{grown, grown_below}
use Rattle.cdf_edits.specs.Index.Grown.{chain_reaches, leads_down, reaches, with_leaf, with_lower, new_room, new_room_below}

either_pair : {A : Type 0} (p : Bool) {x y : A × ℕ} {a a' : A} {n n' : ℕ} → x ≡ (a, n) → y ≡ (a', n') → (if p then x else y) ≡ (if p then a else a', if p then n else n')
either_pair true e f = e
either_pair false e f = f

mutual
  unfolding grown grown_below with_leaf with_lower new_room new_room_below

  pub grown_is : (new : Leaf) (at : ℕ) (nodes : Nodes) → grown new at nodes ≡ (with_leaf new at nodes, new_room new.first nodes)
  grown_is new at no_node = refl
  grown_is new at (node place room entries more) =
      either_pair (chain_reaches new.first more) (ap (λ (g : Nodes × ℕ). (node place room entries g.0, g.1)) (grown_is new at more))
      (either_pair (leads_down new.first false entries) (ap (λ (g : Entries × ℕ). (node place room g.0 more, g.1)) (grown_below_is new at entries)) refl)

  pub grown_below_is : (new : Leaf) (at : ℕ) (entries : Entries) → grown_below new at entries ≡ (with_lower new at entries, new_room_below new.first entries)
  grown_below_is new at no_entry = refl
  grown_below_is new at (block first last place packed entries) = ap (λ (g : Entries × ℕ). (block first last place packed g.0, g.1)) (grown_below_is new at entries)
  grown_below_is new at (lower first last nodes entries) =
      either_pair (reaches new.first entries) (ap (λ (g : Entries × ℕ). (lower first last nodes g.0, g.1)) (grown_below_is new at entries))
      (ap (λ (g : Nodes × ℕ). (lower first (max last new.last) g.0 entries, g.1)) (grown_is new at nodes))
