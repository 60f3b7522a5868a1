-- The records of a leaf behind those that go get a new block: the leaves then, the blocks, and what is stored as each record.
use Rattle.cdf_edits.proofs.Common.{Act, Good, Kind, Leaf, List, None, Nodes, Range, Some, Stays, Variable, VariableShape, [], ap, append-nil, arith, false, inl, inr, leaves_of, plain_bytes, range, record_bytes, record_number_limit, refl, shape, stored_bytes, subst, suc, sym, variable_of, ℕ, ◌+◌, ◌-◌, ◌<◌, ◌∙◌, ◌∷◌, ◌≡◌, ◌≤◌, ◌⊎◌}
use Rattle.std.specs.Prelude.{max}
use Rattle.cdf_edits.proofs.Edits.Common.{StandsAmong}
use Rattle.cdf_edits.proofs.Edits.LeafPieces.{IsOneOf, find_covering}
use Rattle.cdf_edits.proofs.Edits.PlainLeaves.{leaves_ascend, own_rules}
use Rattle.cdf_edits.proofs.Index.OneDescent.{grown_is}
use Rattle.cdf_edits.specs.Commands.PutSteps.{Stage}
use Rattle.cdf_edits.specs.Index.Grown.{split_off, with_leaf}
use Rattle.cdf_index.proofs.LeafRules.{index_order}
use Rattle.cdf_packed_deletes.proofs.LeafKinds.{IsBoth}
use Rattle.cdf_packed_deletes.proofs.PartPieces.{part, piece_of_part}
use Rattle.cdf_packed_deletes.specs.Steps.{SplitsOff, bytes_of_parts}
use Rattle.cdf_put_steps.proofs.BlockKept.{plain_kept, stays_kept}
use Rattle.cdf_put_steps.proofs.RecordPieces.{piece}
use Rattle.cdf_put_steps.proofs.StepKeeps.{block_unchanged}
use Rattle.cdf_put_steps.proofs.StepStored.{leaf_of, stored_by}
use Rattle.cdf_puts.proofs.CoveringRanges.{some_or_none}
use Rattle.cdf_puts.proofs.LeafCounts.{one_of_leaves}
use Rattle.cdf_puts.proofs.PutBytes.{found_covering}
use Rattle.cdf_puts.specs.Going.{GoesOn, found_in}
use Rattle.cdf_sparse.proofs.OpenParts.{split_back}

module _ {b : List ℕ} {kind : Kind} {before : List VariableShape} {own : VariableShape} {after : List VariableShape} (good : Good b) (at : StandsAmong b kind before own after) (first last : ℕ) (from to : Stage) (acts : List Act) (goes : GoesOn b from.image kind before own from.own after acts) (old : Leaf) (there : IsOneOf (leaves_of own.index) old) (both : IsBoth first last old)
    (step : SplitsOff (found_in b kind before own) old (range (last + 1) old.last) (bytes_of_parts b (variable_of b own) own.vdr old (split_off first last (range old.first old.last))) from to) (one : GoesOn from.image to.image kind before from.own to.own after to.acts) (order : first ≤ suc last) where
  abbrev v : Variable
  v = variable_of b own

  abbrev size : ℕ
  size = record_bytes b own.vdr

  abbrev olds : List Leaf
  olds = leaves_of from.own.index

  abbrev news : List Leaf
  news = leaves_of to.own.index

  abbrev new : Leaf
  new = step.new

  pub new_first : step.new.first ≡ last + 1
  new_first = ap (λ (r : Range). r.first) step.range_is

  pub new_last : step.new.last ≡ old.last
  new_last = ap (λ (r : Range). r.last) step.range_is

  grows : to.own.index ≡ with_leaf new step.at from.own.index
  grows = ap (λ (x : Nodes × List Act). x.0) step.step ∙ ap (λ (x : Nodes × ℕ). x.0) (grown_is new step.at from.own.index)

  ones : (l : Leaf) → (IsOneOf (leaves_of (with_leaf new step.at from.own.index)) l → (l ≡ new) ⊎ IsOneOf olds l) × ((l ≡ new) ⊎ IsOneOf olds l → IsOneOf (leaves_of (with_leaf new step.at from.own.index)) l)
  ones l = one_of_leaves new step.at 0 record_number_limit from.own.index (index_order from.image (shape from.image).records from.own.vdr from.own.index (own_rules goes.good goes.among).1) l

  pub from_split : (m : Leaf) → IsOneOf (leaves_of to.own.index) m → (m ≡ step.new) ⊎ IsOneOf (leaves_of from.own.index) m
  from_split m i = (ones m).0 (subst (λ (ns : Nodes). IsOneOf (leaves_of ns) m) grows i)

  pub to_split : (l : Leaf) → (l ≡ step.new) ⊎ IsOneOf (leaves_of from.own.index) l → IsOneOf (leaves_of to.own.index) l
  to_split l i = subst (λ (ns : Nodes). IsOneOf (leaves_of ns) l) (sym grows) ((ones l).1 i)

  pub split_block : (l : Leaf) → IsOneOf (leaves_of from.own.index) l → Stays from.image to.image l.place []
  split_block l i = block_unchanged from.image to.image (found_in b kind before own) (λ (r : Range). false) to.acts goes.good goes.among refl step.goes.keeps l i refl

  -- ---- what is stored

  found_old : (j : ℕ) (l : Leaf) → IsOneOf olds l → l.first ≤ j → j ≤ l.last → leaf_of j olds ≡ Some l
  found_old j l i f t = find_covering j 0 (suc record_number_limit) olds (leaves_ascend goes.good goes.among) l i f t

  found_new : (j : ℕ) (l : Leaf) → IsOneOf news l → l.first ≤ j → j ≤ l.last → leaf_of j news ≡ Some l
  found_new j l i f t = find_covering j 0 (suc record_number_limit) news (leaves_ascend one.good one.among) l i f t

  pub stored_beside : (k : ℕ) → (k ≤ last) ⊎ (old.last < k) → stored_bytes to.image to.own.vdr (record_bytes b own.vdr) (leaves_of to.own.index) k ≡ stored_bytes from.image from.own.vdr (record_bytes b own.vdr) (leaves_of from.own.index) k
  stored_beside k out = elim (some_or_none (leaf_of k olds)) [
    | inl y ↦
        let l = y.0 in
        let o = found_covering k olds l y.1 in
        let plain = plain_kept goes.good goes.among l o.0 one (stays_kept goes.good goes.among l o.0 (split_block l o.0)) in
        ap (stored_by to.image to.own.vdr size k) (found_new k l (to_split l (inr o.0)) o.1.0 o.1.1) ∙ ap (λ (xs : List ℕ). Some (piece size (k - l.first) xs)) plain ∙ sym (ap (stored_by from.image from.own.vdr size k) y.1)
    | inr gone ↦ elim (some_or_none (leaf_of k news)) [
      | inr none ↦ ap (stored_by to.image to.own.vdr size k) none ∙ sym (ap (stored_by from.image from.own.vdr size k) gone)
      | inl y ↦
          let o = found_covering k news y.0 y.1 in
          elim (from_split y.0 o.0) [
            | inl q ↦ absurd (within (subst (λ (z : Leaf). z.first ≤ k) q o.1.0) (subst (λ (z : Leaf). k ≤ z.last) q o.1.1))
            | inr i ↦ (let q : Some y.0 ≡ None = sym (found_old k y.0 i o.1.0 o.1.1) ∙ gone in absurd cc)
          ]
    ]
  ]
    where
      within : new.first ≤ k → k ≤ new.last → ⊥
      within f t = elim out [ inl le ↦ omega (arith, f, new_first, le) | inr lt ↦ omega (arith, t, new_last, lt) ]

  abbrev plain_old : List ℕ
  plain_old = plain_bytes b own.vdr old

  split_is : split_off first last (range old.first old.last) ≡ range (last + 1) old.last ∷ []
  split_is =
      let m : max old.first (last + 1) ≡ last + 1 = omega (arith, both.0, order) in
      split_back first last old.first old.last both.0 both.1 ∙ ap (λ (n : ℕ). range n old.last ∷ []) m

  bytes_are : bytes_of_parts b v own.vdr old (range (last + 1) old.last ∷ []) ≡ part size (last + 1 - old.first) (old.last + 1 - (last + 1)) plain_old
  bytes_are = append-nil (part size (last + 1 - old.first) (old.last + 1 - (last + 1)) plain_old)

  plain_new : plain_bytes to.image to.own.vdr new ≡ part size (last + 1 - old.first) (old.last + 1 - (last + 1)) plain_old
  plain_new = ap (λ (vdr : ℕ). plain_bytes to.image vdr new) one.vdr_is ∙ step.written.plain_is ∙ ap (bytes_of_parts b v own.vdr old) split_is ∙ bytes_are

  pub stored_split : (k : ℕ) → last < k → k ≤ old.last → stored_bytes to.image to.own.vdr (record_bytes b own.vdr) (leaves_of to.own.index) k ≡ stored_bytes b own.vdr (record_bytes b own.vdr) (leaves_of own.index) k
  stored_split k low high =
      let at_new : k - new.first ≡ k - (last + 1) = ap (λ (n : ℕ). k - n) new_first in
      let shift : last + 1 - old.first + (k - (last + 1)) ≡ k - old.first = omega (arith, both.0, order, low) in
      ap (stored_by to.image to.own.vdr size k) (found_new k new (to_split new (inl refl)) (omega (arith, new_first, low)) (omega (arith, new_last, high)))
      ∙ (λ i. Some (piece size (at_new i) (plain_new i))) ∙ ap Some (piece_of_part size (last + 1 - old.first) (old.last + 1 - (last + 1)) (k - (last + 1)) plain_old (omega (arith, low, high)))
      ∙ ap (λ (n : ℕ). Some (piece size n plain_old)) shift ∙ sym (ap (stored_by b own.vdr size k) (find_covering k 0 (suc record_number_limit) (leaves_of own.index) (leaves_ascend good at) old there (omega (arith, both.0, order, low)) high))
