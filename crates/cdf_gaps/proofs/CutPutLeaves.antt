-- The leaves that a put writes once a cut is made, the blocks that the cut left, and VXRtail: as of a put that cuts first.
use Rattle.cdf_edits.proofs.Common.{[], Act, Bool, Each, Leaf, List, None, Nodes, Some, Variable, arith, bytes_eq, false, find, if◌then◌else◌, last_or, leaves_of, list_any, nodes_of, not, refl, subst, sym, taken, true, unwrap_or, ℕ, ◌&&◌, ◌++◌, ◌==◌, ◌||◌, ◌∷◌, ◌≡◌, In}
use Rattle.cdf_edits.proofs.Edits.LeafPieces.{each_of, of_each}
use Rattle.cdf_edits.specs.Commands.Puts.{PutsLeaves, TakesFirst, TakesNode}
use Rattle.cdf_edits.specs.Index.Cut.{IsPlaced, Part, StaysWhole, is_whole}
use Rattle.cdf_edits.specs.Index.Grown.{new_room, with_leaf}
use Rattle.cdf_edits.specs.Index.Written.{block_need, is_taken_at, last_node, top_chain, top_stays}
use Rattle.cdf_format.proofs.Tests.{same_of_bytes_eq}
use Rattle.cdf_leaves.proofs.TopChain.{chain_in}
use Rattle.cdf_puts.proofs.PutNodes.{taken_both}
use Rattle.std.proofs.Math.Path.{transport}

-- ---- the leaves that are written

-- of a variable of which no block is packed, a put writes them so from whichever image it starts
puts_from : (b mid last : List ℕ) (vdr : ℕ) (leaves : List Leaf) → PutsLeaves b last false vdr leaves ≡ PutsLeaves mid last false vdr leaves
puts_from b mid last vdr [] = refl
puts_from b mid last vdr (new ∷ more) = λ k index acts after. elim (find (λ (old : Leaf). old.first == new.first) (leaves_of index)) [
  | None ↦ TakesFirst (block_need last vdr new) (λ place rest. (place ≡ new.place) × TakesNode (new_room new.first index) (λ at left. puts_from b mid last vdr more k (with_leaf new at index) left after) rest) acts
  | Some old ↦ (new.place ≡ old.place) × puts_from b mid last vdr more k index acts after
]

pub puts_any : (b mid last : List ℕ) (rle : Bool) (vdr : ℕ) (leaves : List Leaf) (index : Nodes) (acts : List Act) (after : Nodes) → rle ≡ false → PutsLeaves mid last false vdr leaves index acts after → PutsLeaves b last rle vdr leaves index acts after
puts_any b mid last rle vdr leaves index acts after e p = rw e (transport (λ k. sym (puts_from b mid last vdr leaves) k index acts after) p)

-- ---- the blocks that are left

or_true : (p : Bool) → (p || true) ≡ true
or_true true = refl
or_true false = refl

-- of a variable of which no block is packed, each stays in its place, and is not freed
pub placed_all : (b last : List ℕ) (v : Variable) (vdr : ℕ) (kept : Part) (acts : List Act) (olds news : List Leaf) → v.rle ≡ false → Each (λ old. Each (StaysWhole v kept acts old) news) olds → Each (λ old. Each (IsPlaced b last v vdr kept acts old) news) olds
placed_all b last v vdr kept acts olds news e stay =
    each_of (λ old. Each (IsPlaced b last v vdr kept acts old) news) olds (λ old i. each_of (IsPlaced b last v vdr kept acts old) news (λ new j part.
    let s = of_each (StaysWhole v kept acts old) news new (of_each (λ (o : Leaf). Each (StaysWhole v kept acts o) news) olds old stay i) j part (rw e (or_true (is_whole old new))) in
    rw (e, or_true (is_whole old new)) (s.0, s.2)))

-- ---- VXRtail

abbrev last_of : List ℕ → ℕ
last_of xs = unwrap_or (last_or None xs) 0

-- a cut says it by the top chain before and behind it, and so does a put
tail_both : (x y z : List ℕ) (out : Bool) (first mid last : ℕ) → (bytes_eq y z ≡ true → out ≡ false) → mid ≡ (if bytes_eq x y then first else last_of y) → last ≡ (if bytes_eq y z then mid else last_of z) → last ≡ (if bytes_eq x y && (bytes_eq y z && not out) then first else last_of z)
tail_both x y z out first mid last none p q = grind (arith, p, q, none, same_of_bytes_eq y z)

none_taken_in : (acts : List Act) (xs : List ℕ) → ((m : ℕ) → In m xs → is_taken_at acts m ≡ false) → list_any (is_taken_at acts) xs ≡ false
none_taken_in acts [] f = refl
none_taken_in acts (x ∷ xs) f = grind (arith, f, none_taken_in acts xs)

pub tail_then : (cut put : List Act) (before middle after : Nodes) (first mid last : ℕ) → taken cut ≡ [] → ((m : ℕ) → In m (nodes_of middle) → is_taken_at put m ≡ false) → mid ≡ (if bytes_eq (top_chain before) (top_chain middle) then first else last_node middle) → last ≡ (if bytes_eq (top_chain middle) (top_chain after) then mid else last_node after)
    → last ≡ (if top_stays (cut ++ put) before middle after then first else last_node after)
tail_then cut put before middle after first mid last gives apart p q =
    let none_of : (m : ℕ) → In m (nodes_of middle) → is_taken_at (cut ++ put) m ≡ false = λ m i. (let c : is_taken_at cut m ≡ false = rw gives refl in rw (taken_both cut put m, c, apart m i) refl) in
    let none = λ (e : bytes_eq (top_chain middle) (top_chain after) ≡ true). none_taken_in (cut ++ put) (top_chain after) (λ m i. none_of m (chain_in middle m (subst (In m) (sym (same_of_bytes_eq (top_chain middle) (top_chain after) e)) i))) in
    tail_both (top_chain before) (top_chain middle) (top_chain after) (list_any (is_taken_at (cut ++ put)) (top_chain after)) first mid last none p q
