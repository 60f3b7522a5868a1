-- The records from a first to a last were cut out of the index of a variable, and later ones keep their numbers: what is stored of each other record stays, and of a record that goes nothing is stored.
use Rattle.cdf_cuts.proofs.Common.{Leaf, List, Nodes, None, Range, Some, [], ap, arith, cases_lt, false, inl, inr, leaves_of, option_map, range, refl, subst, suc, sym, ℕ, ◌*◌, ◌+◌, ◌-◌, ◌<◌, ◌∙◌, ◌∷◌, ◌≡◌, ◌≤◌, ◌⊎◌}
use Rattle.std.proofs.Common.{drop, find, take}
use Rattle.std.specs.Prelude.{max, min}
use Rattle.cdf_edits.proofs.Common.{Act, Good, Kind, Variable, VariableShape, covers, plain_bytes, record_bytes, record_number_limit, same_Some, shape, stored_bytes, variable_of}
use Rattle.cdf_edits.proofs.Edits.LeafPieces.{IsOneOf, find_covering}
use Rattle.cdf_edits.proofs.Edits.LeafRecords.{Ascending}
use Rattle.cdf_edits.proofs.Edits.PlainLeaves.{leaves_ascend, own_rules}
use Rattle.cdf_edits.proofs.Edits.StandsAmong.{StandsAmong}
use Rattle.cdf_edits.specs.Index.Cut.{IsPart}
use Rattle.cdf_edits.specs.Index.Cut.{part_bytes}
use Rattle.cdf_edits.specs.Index.Grown.{kept_open, split_off}
use Rattle.cdf_format.specs.Index.{leaf}
use Rattle.cdf_index.proofs.LeafRules.{index_order}
use Rattle.cdf_index.specs.Order.{InOrder}
use Rattle.cdf_puts.proofs.CoveringRanges.{some_or_none}
use Rattle.cdf_puts.proofs.LeafCounts.{one_of_leaves}
use Rattle.cdf_puts.proofs.PutBytes.{found_covering}
use Rattle.cdf_cuts.proofs.CutLeaves.{IsLeft}
use Rattle.cdf_cuts.proofs.CutOpen.{open_order}
use Rattle.cdf_cuts.proofs.CutStay.{LeftOf, from_left, nodes_left, to_left}
use Rattle.cdf_cuts.specs.Planning.{opening}
use Rattle.cdf_sparse.specs.Opening.{RecordsOpened, index_opened}
use Rattle.cdf_sparse.proofs.OpenParts.{kept_back, kept_front, kept_none, record_of_part, same_range, some_kept, split_back}

module _ {b mid : List ℕ} {kind : Kind} {before : List VariableShape} {own own' : VariableShape} {after : List VariableShape} {first last : ℕ} {takes : List Act} (good : Good b) (at : StandsAmong b kind before own after) (order : first ≤ last) (x : RecordsOpened b mid kind before own own' after first last takes) where
  abbrev v : Variable
  v = variable_of b own

  abbrev size : ℕ
  size = record_bytes b own.vdr

  abbrev leaves : List Leaf
  leaves = leaves_of own.index

  abbrev leaves' : List Leaf
  leaves' = leaves_of own'.index

  abbrev rest : Nodes
  rest = index_opened own first last

  left : LeftOf (opening first last) leaves (leaves_of rest)
  left = nodes_left (opening first last) own.index

  rest_order : InOrder 0 record_number_limit rest
  rest_order = open_order first last order 0 record_number_limit own.index (index_order b (shape b).records own.vdr own.index (own_rules good at).1)

  ascend : Ascending 0 (suc record_number_limit) leaves
  ascend = leaves_ascend good at

  ascend_mid : Ascending 0 (suc record_number_limit) leaves'
  ascend_mid = leaves_ascend x.goes.good x.goes.among

  in_mid : (m : Leaf) → IsOneOf (leaves_of rest) m → IsOneOf leaves' m
  in_mid m i = elim x.divided [
    | inl n ↦ subst (λ (y : Nodes). IsOneOf (leaves_of y) m) (sym n.index_is) i
    | inr o ↦ subst (λ (y : Nodes). IsOneOf (leaves_of y) m) (sym o.index_is) ((one_of_leaves (leaf (last + 1) o.old.last o.place false) o.at 0 record_number_limit rest rest_order m).1 (inr i))
  ]

  -- a leaf has records of a leaf that was there, with their bytes
  record PartIn (l : Leaf) (f t : ℕ) : Type 0 where
    m : Leaf
    there : IsOneOf leaves' m
    first_is : m.first ≡ f
    last_is : m.last ≡ t
    bytes : plain_bytes mid own'.vdr m ≡ part_bytes b v own'.vdr l m

  kept_as : (l : Leaf) → IsOneOf leaves l → (f t : ℕ) → kept_open first last (range l.first l.last) ≡ range f t ∷ [] → (m : Leaf) → IsOneOf (leaves_of rest) m → IsLeft (opening first last) l m → PartIn l f t
  kept_as l i f t e m j k =
      let s = same_range first last l m f t e k in
      record { m = m; there = in_mid m j; first_is = ap (λ (r : Range). r.first) s; last_is = ap (λ (r : Range). r.last) s; bytes = (x.kept l m i (in_mid m j) (e ∙ ap (λ (r : Range). r ∷ []) (sym s))).written.plain_is }

  kept_leaf : (l : Leaf) → IsOneOf leaves l → (f t : ℕ) → kept_open first last (range l.first l.last) ≡ range f t ∷ [] → PartIn l f t
  kept_leaf l i f t e =
      let k = to_left (opening first last) leaves (leaves_of rest) left l i (some_kept first last l f t e) in
      kept_as l i f t e k.0 k.1.0 k.1.1

  divided_leaf : (l : Leaf) → IsOneOf leaves l → l.first < first → last < l.last → PartIn l (last + 1) l.last
  divided_leaf l i lt up = elim x.divided [
    | inl n ↦ absurd (n.none l i (record { begins = lt; ends = up }))
    | inr o ↦
        let d = o.is_divided in
        let same : o.old ≡ l = same_Some o.old l (sym (find_covering first 0 (suc record_number_limit) leaves ascend o.old o.is_one (omega (arith, d.begins)) (omega (arith, d.ends))) ∙ find_covering first 0 (suc record_number_limit) leaves ascend l i (omega arith) (omega arith)) in
        let new : Leaf = leaf (last + 1) o.old.last o.place false in
        let there : IsOneOf leaves' new = subst (λ (y : Nodes). IsOneOf (leaves_of y) new) (sym o.index_is) ((one_of_leaves new o.at 0 record_number_limit rest rest_order new).1 (inl refl)) in
        let first_is : max l.first (last + 1) ≡ last + 1 = omega arith in
        let ends : o.old.last ≡ l.last = ap (λ (y : Leaf). y.last) same in
        let part : IsPart (split_off first last) l new = split_back first last l.first l.last lt up ∙ (λ j. range (first_is j) (sym ends j) ∷ []) in
        record { m = new; there = there; first_is = refl; last_is = ends; bytes = (x.split l new i there part).written.plain_is }
  ]

  -- ---- what is stored

  stored_part : (l : Leaf) → IsOneOf leaves l → (f t k : ℕ) → PartIn l f t → l.first ≤ f → f ≤ k → k ≤ t → t ≤ l.last → stored_bytes mid own'.vdr size leaves' k ≡ stored_bytes b own.vdr size leaves k
  stored_part l i f t k p a c e u =
      let m = p.m in
      let is : plain_bytes mid own'.vdr m ≡ take ((t + 1 - f) * size) (drop ((f - l.first) * size) (plain_bytes b own.vdr l)) =
      p.bytes ∙ (λ j. take ((p.last_is j + 1 - p.first_is j) * size) (drop ((p.first_is j - l.first) * size) (plain_bytes b (x.goes.vdr_is j) l))) in
      ap (option_map _) (find_covering k 0 (suc record_number_limit) leaves' ascend_mid m p.there (omega (arith, p.first_is)) (omega (arith, p.last_is)))
      ∙ (λ j. Some (take size (drop ((k - p.first_is j) * size) (is j)))) ∙ ap Some (record_of_part l.first f t k size (plain_bytes b own.vdr l) a c e)
      ∙ sym (ap (option_map _) (find_covering k 0 (suc record_number_limit) leaves ascend l i (omega arith) (omega arith)))

  -- what has a record has it of a leaf that had it, and the record does not go
  record Came (k : ℕ) : Type 0 where
    l : Leaf
    there : IsOneOf leaves l
    low : l.first ≤ k
    high : k ≤ l.last
    out : (k < first) ⊎ (last < k)

  came_as : (k : ℕ) (l m : Leaf) → IsOneOf leaves l → IsLeft (opening first last) l m → m.first ≤ k → k ≤ m.last → Came k
  came_as k l m i is low high = elim (cases_lt l.first first) [
    | inl lt ↦
        let s = same_range first last l m l.first (min l.last (first - 1)) (kept_front first last l.first l.last lt) is in
        let f = ap (λ (y : Range). y.first) s in
        let t = ap (λ (y : Range). y.last) s in
        record { l = l; there = i; low = omega (arith, f); high = omega (arith, t); out = inl (omega (arith, t, lt)) }
    | inr ge ↦ elim (cases_lt last l.last) [
      | inl lt ↦
          let s = same_range first last l m (max l.first (last + 1)) l.last (kept_back first last l.first l.last ge lt) is in
          let f = ap (λ (y : Range). y.first) s in
          let t = ap (λ (y : Range). y.last) s in
          record { l = l; there = i; low = omega (arith, f); high = omega (arith, t); out = inr (omega (arith, f)) }
      | inr le ↦ (let q : range m.first m.last ∷ is.more ≡ [] = sym is.kept_is ∙ kept_none first last l.first l.last ge le in absurd cc)
    ]
  ]

  came_kept : (k : ℕ) (m : Leaf) → IsOneOf (leaves_of rest) m → m.first ≤ k → k ≤ m.last → Came k
  came_kept k m i low high = let r = from_left (opening first last) leaves (leaves_of rest) left m i in came_as k r.0 m r.1.0 r.1.1 low high

  came : (k : ℕ) (m : Leaf) → IsOneOf leaves' m → m.first ≤ k → k ≤ m.last → Came k
  came k m i low high = elim x.divided [
    | inl n ↦ came_kept k m (subst (λ (y : Nodes). IsOneOf (leaves_of y) m) n.index_is i) low high
    | inr o ↦
        let new : Leaf = leaf (last + 1) o.old.last o.place false in
        elim ((one_of_leaves new o.at 0 record_number_limit rest rest_order m).0 (subst (λ (y : Nodes). IsOneOf (leaves_of y) m) o.index_is i)) [
          | inl q ↦
              let f = ap (λ (y : Leaf). y.first) q in
              let t = ap (λ (y : Leaf). y.last) q in
              let d = o.is_divided in
              record { l = o.old; there = o.is_one; low = omega (arith, f, d.begins, order, low); high = omega (arith, t, high); out = inr (omega (arith, f, low)) }
          | inr j ↦ came_kept k m j low high
        ]
  ]

  pub stored_outside : (k : ℕ) → (k < first) ⊎ (last < k) → stored_bytes mid own'.vdr size leaves' k ≡ stored_bytes b own.vdr size leaves k
  stored_outside k side = elim (some_or_none (find (λ (leaf : Leaf). covers k (range leaf.first leaf.last)) leaves)) [
    | inl y ↦
        let l = y.0 in
        let o = found_covering k leaves l y.1 in
        elim side [
          | inl lt ↦
              let begins : l.first < first = omega (arith, o.1.0, lt) in
              stored_part l o.0 l.first (min l.last (first - 1)) k (kept_leaf l o.0 l.first (min l.last (first - 1)) (kept_front first last l.first l.last begins)) (omega arith) o.1.0 (omega (arith, o.1.1, lt)) (omega arith)
          | inr up ↦
              let ends : last < l.last = omega (arith, o.1.1, up) in
              elim (cases_lt l.first first) [
                | inl lt ↦ stored_part l o.0 (last + 1) l.last k (divided_leaf l o.0 lt ends) (omega (arith, lt, order)) (omega (arith, up)) o.1.1 (omega arith)
                | inr ge ↦ stored_part l o.0 (max l.first (last + 1)) l.last k (kept_leaf l o.0 (max l.first (last + 1)) l.last (kept_back first last l.first l.last ge ends)) (omega arith) (omega (arith, up, o.1.0)) o.1.1 (omega arith)
              ]
        ]
    | inr none ↦ elim (some_or_none (find (λ (leaf : Leaf). covers k (range leaf.first leaf.last)) leaves')) [
      | inl y ↦
          let o = found_covering k leaves' y.0 y.1 in
          let c = came k y.0 o.0 o.1.0 o.1.1 in
          let q : Some c.l ≡ None = sym (find_covering k 0 (suc record_number_limit) leaves ascend c.l c.there c.low c.high) ∙ none in
          absurd cc
      | inr gone ↦ ap (option_map _) gone ∙ sym (ap (option_map _) none)
    ]
  ]

  pub stored_inside : (k : ℕ) → first ≤ k → k ≤ last → stored_bytes mid own'.vdr size leaves' k ≡ None
  stored_inside k low high = elim (some_or_none (find (λ (leaf : Leaf). covers k (range leaf.first leaf.last)) leaves')) [
    | inl y ↦
        let o = found_covering k leaves' y.0 y.1 in
        let c = came k y.0 o.0 o.1.0 o.1.1 in
        absurd (elim c.out [ inl lt ↦ omega (arith, lt, low) | inr lt ↦ omega (arith, lt, high) ])
    | inr gone ↦ ap (option_map _) gone
  ]
