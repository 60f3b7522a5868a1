-- The rules on the chains of an image, put together, and the record in which they begin.
use Rattle.cdf_structure.proofs.Common.{AreLong, AreTiles, Hold, Hold-append, IsBroken, IsBroken-after, IsBroken-before, List, arith, fixed_size, is_a, is_a-in, is_a-type, length, link_rows, member_rows, size_at, subst, tile_lies, true, unused_rows, ℕ, ◌+◌, ◌≡◌, ◌≤◌}

module _ (b ts : List ℕ) where
  pub links_hold : Hold (member_rows b ts) → Hold (unused_rows b ts) → Hold (link_rows b ts)
  links_hold members unused = Hold-append (member_rows b ts) (unused_rows b ts) members unused

  pub members_break : (rule place : ℕ) → IsBroken (member_rows b ts) rule place → IsBroken (link_rows b ts) rule place
  members_break rule place p = IsBroken-before (member_rows b ts) (unused_rows b ts) rule place p

  pub unused_breaks : (rule place : ℕ) → IsBroken (unused_rows b ts) rule place → IsBroken (link_rows b ts) rule place
  unused_breaks rule place p = IsBroken-after (member_rows b ts) (unused_rows b ts) rule place p

-- the Global Descriptor Record is a record, with all its fields
pub gdr_ends : (b tiles : List ℕ) (gdr : ℕ) → AreTiles b 8 (length b) tiles → AreLong b tiles → is_a b tiles 2 gdr ≡ true → gdr + 84 ≤ length b
gdr_ends b tiles gdr tiled long is =
    let tile = is_a-in b tiles 2 gdr is in
    let wide : 84 ≤ size_at b gdr = subst (λ (type : ℕ). fixed_size type ≤ size_at b gdr) (is_a-type b tiles 2 gdr is) (long gdr tile) in
    let ends = (tile_lies b 8 (length b) tiles gdr tiled tile).high in
    omega arith
