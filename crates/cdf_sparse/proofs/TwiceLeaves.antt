-- Records were cut open: a leaf that loses none of them stays, and the leaf of later records has a block of the size that it needs.
use Rattle.cdf_cuts.proofs.Common.{Leaf, List, Range, [], ap, arith, false, inl, inr, kept_by, le-ltb, leaves_of, lt-ltb, range, refl, subst, sym, true, true≢false, ℕ, ◌*◌, ◌+◌, ◌-◌, ◌<◌, ◌∙◌, ◌∷◌, ◌≡◌, ◌≤◌, ◌⊎◌, Nodes}
use Rattle.std.proofs.Common.{max, min, take}
use Rattle.cdf_edits.proofs.Common.{Act, Good, Kind, VariableShape, Variable, record_bytes, shape, variable_of}
use Rattle.cdf_edits.proofs.Edits.ActsThen.{taken-gave}
use Rattle.cdf_edits.proofs.Edits.LeafPieces.{IsOneOf}
use Rattle.cdf_edits.proofs.Edits.LeafRecords.{count_is}
use Rattle.cdf_edits.proofs.Edits.PlainLeaves.{PlainLeaf, own_rules, plain_leaf}
use Rattle.cdf_edits.proofs.Edits.StandsAmong.{StandsAmong}
use Rattle.cdf_edits.specs.Index.Blocks.{left_of}
use Rattle.cdf_edits.specs.Index.Grown.{kept_open, new_room}
use Rattle.cdf_edits.specs.Index.Written.{block_need, is_taken_at}
use Rattle.cdf_edits.specs.Space.Acts.{Among, gave, taken}
use Rattle.cdf_format.specs.Index.{leaf}
use Rattle.cdf_format.specs.Records.{linked_size, vvr_bytes}
use Rattle.cdf_index.proofs.LeafRules.{index_order}
use Rattle.cdf_index.specs.Adding.{leaf_acts}
use Rattle.cdf_index.specs.Order.{InOrder}
use Rattle.cdf_model.specs.Limits.{record_number_limit}
use Rattle.cdf_puts.proofs.GoesThen.{later_size, later_loose}
use Rattle.cdf_puts.proofs.LeafCounts.{one_of_leaves}
use Rattle.cdf_cuts.proofs.CutOpen.{open_order}
use Rattle.cdf_cuts.proofs.CutStay.{LeftOf, from_left, nodes_left, to_left}
use Rattle.cdf_cuts.proofs.CutLeaves.{IsLeft}
use Rattle.cdf_cuts.specs.Planning.{opening}
use Rattle.cdf_gaps.proofs.CutPutBytes.{taken_behind}
use Rattle.cdf_sparse.specs.Opening.{OneDivided, RecordsOpened, freed_opening, index_opened, opening_acts}

pub same_leaf : (l m : Leaf) → m.place ≡ l.place → m.packed ≡ l.packed → range m.first m.last ≡ range l.first l.last → m ≡ l
same_leaf l m p q r = λ i. record { first = (r i).first; last = (r i).last; place = p i; packed = q i }

-- of a block at most one range stays in it
one_only : (rs more : List Range) (r : Range) → take 1 rs ≡ r ∷ more → more ≡ []
one_only [] more r e = absurd cc
one_only (x ∷ rs) more r e = let q : x ∷ [] ≡ r ∷ more = e in cc

-- all of it, where it loses no record
pub all_kept : (first last f l : ℕ) → first ≤ last → f ≤ l → (l < first) ⊎ (last < f) → kept_open first last (range f l) ≡ range f l ∷ []
all_kept first last f l order le (inl lt) =
    let begins : f < first = omega (arith, lt, le) in
    let end : min l (first - 1) ≡ l = omega (arith, lt) in
    rw (lt-ltb f first begins) (ap (λ (n : ℕ). range f n ∷ []) end)
all_kept first last f l order le (inr lt) =
    let late : first ≤ f = omega (arith, lt, order) in
    let ends : last < l = omega (arith, lt, le) in
    let begin : max f (last + 1) ≡ f = omega (arith, lt) in
    rw (le-ltb f first late, lt-ltb last l ends) (ap (λ (n : ℕ). range n l ∷ []) begin)

module _ {b mid : List ℕ} {kind : Kind} {before : List VariableShape} {own own' : VariableShape} {after : List VariableShape} {first last : ℕ} {takes : List Act} (good : Good b) (at : StandsAmong b kind before own after) (order : first ≤ last) (x : RecordsOpened b mid kind before own own' after first last takes) where
  abbrev v : Variable
  v = variable_of b own

  abbrev size : ℕ
  size = record_bytes b own.vdr

  abbrev leaves : List Leaf
  leaves = leaves_of own.index

  abbrev leaves' : List Leaf
  leaves' = leaves_of own'.index

  abbrev opened : Nodes
  opened = index_opened own first last

  abbrev acts : List Act
  acts = opening_acts b own first last takes

  pub opened_order : InOrder 0 record_number_limit opened
  opened_order = open_order first last order 0 record_number_limit own.index (index_order b (shape b).records own.vdr own.index (own_rules good at).1)

  opened_left : LeftOf (opening first last) leaves (leaves_of opened)
  opened_left = nodes_left (opening first last) own.index

  plain : (l : Leaf) → IsOneOf leaves l → PlainLeaf b size l
  plain l i = plain_leaf good at x.loose l i

  pub plain_mid : (m : Leaf) → IsOneOf leaves' m → PlainLeaf mid size m
  plain_mid m i = subst (λ (n : ℕ). PlainLeaf mid n m) (later_size good at x.goes) (plain_leaf x.goes.good x.goes.among (later_loose good at x.goes x.loose) m i)

  -- a leaf of the index of which each block keeps what stays is one by then
  pub among_opened : (l : Leaf) → IsOneOf (leaves_of opened) l → IsOneOf leaves' l
  among_opened l i = elim x.divided [
    | inl n ↦ subst (λ (ns : Nodes). IsOneOf (leaves_of ns) l) (sym n.index_is) i
    | inr d ↦ subst (λ (ns : Nodes). IsOneOf (leaves_of ns) l) (sym d.index_is) ((one_of_leaves (leaf (last + 1) d.old.last d.place false) d.at 0 record_number_limit opened opened_order l).1 (inr i))
  ]

  -- ---- a leaf that loses no record

  -- what is left of it is all of it
  whole_left : (l m : Leaf) → IsOneOf leaves l → (l.last < first) ⊎ (last < l.first) → IsLeft (opening first last) l m → m ≡ l
  whole_left l m i side left =
      let both : range l.first l.last ∷ [] ≡ range m.first m.last ∷ left.more = sym (all_kept first last l.first l.last order (plain l i).ordered side) ∙ left.kept_is in
      let same : range m.first m.last ≡ range l.first l.last = cc in
      same_leaf l m left.place_is left.packed_is same

  some_kept : (l : Leaf) → IsOneOf leaves l → (l.last < first) ⊎ (last < l.first) → kept_by (opening first last) (range l.first l.last) ≡ [] → ⊥
  some_kept l i side none = let q : range l.first l.last ∷ [] ≡ [] = sym (all_kept first last l.first l.last order (plain l i).ordered side) ∙ none in absurd cc

  pub stays_opened : (l : Leaf) → IsOneOf leaves l → (l.last < first) ⊎ (last < l.first) → IsOneOf leaves' l
  stays_opened l i side =
      let o = to_left (opening first last) leaves (leaves_of opened) opened_left l i (some_kept l i side) in
      subst (IsOneOf leaves') (whole_left l o.0 i side o.1.1) (among_opened o.0 o.1.0)

  -- ---- what is taken

  pub taken_opening : taken acts ≡ taken takes
  taken_opening = taken_behind (gave b (freed_opening own first last)) takes (taken-gave b (freed_opening own first last))

  -- a block that stays is not taken
  not_taken : (m : Leaf) → IsOneOf (leaves_of opened) m → is_taken_at acts m.place ≡ false
  not_taken m i =
      let o = from_left (opening first last) leaves (leaves_of opened) opened_left m i in
      let none = one_only (left_of first last (range o.0.first o.0.last)) o.1.1.more (range m.first m.last) o.1.1.kept_is in
      (x.kept o.0 m o.1.0 (among_opened m i) (o.1.1.kept_is ∙ ap (λ (rs : List Range). range m.first m.last ∷ rs) none)).stays

  new_need : (d : OneDivided b own first last own'.index takes) (new : Leaf) → IsOneOf leaves' new → new ≡ leaf (last + 1) d.old.last d.place false → block_need mid own'.vdr new ≡ max linked_size (vvr_bytes ((d.old.last - last) * size))
  new_need d new j e =
      let y = plain_mid new j in
      let begins : new.first ≡ last + 1 = ap (λ (m : Leaf). m.first) e in
      let ends : new.last ≡ d.old.last = ap (λ (m : Leaf). m.last) e in
      let count : new.last + 1 - new.first ≡ d.old.last - last = omega (arith, begins, ends) in
      rw (y.plain, count_is new y.small y.ordered, later_size good at x.goes, count) refl

  -- the block of a new leaf is taken, with the bytes that it needs
  pub taken_new : (new : Leaf) → IsOneOf leaves' new → is_taken_at acts new.place ≡ true → Among (new.place, block_need mid own'.vdr new) (taken acts)
  taken_new new j is_new = elim x.divided [
    | inl n ↦ (let none : taken acts ≡ [] = taken_opening ∙ ap taken n.takes_are in absurd (true≢false (sym (rw none at is_new))))
    | inr d ↦
        let new_leaf = leaf (last + 1) d.old.last d.place false in
        let is : taken acts ≡ taken (leaf_acts d.place (max linked_size (vvr_bytes ((d.old.last - last) * size))) (new_room (last + 1) opened) d.at) = taken_opening ∙ ap taken d.takes_are in
        elim ((one_of_leaves new_leaf d.at 0 record_number_limit opened opened_order new).0 (subst (λ (ns : Nodes). IsOneOf (leaves_of ns) new) d.index_is j)) [
          | inl e ↦ (let place : new.place ≡ d.place = ap (λ (m : Leaf). m.place) e in let need = new_need d new j e in rw is (inl (λ i. (place i, need i))))
          | inr i ↦ absurd (true≢false (sym is_new ∙ not_taken new i))
        ]
  ]
