-- The record that is found next in an index.
use Rattle.cdf_var_records.proofs.Common.{Ascending, Each, Good, HasIndex, IsVdr, Kind, List, Nodes, None, Option, Some, VariableShape, [], ap, arith, bound_is, either, extent, firsts_of, index_at, inl, inr, item_at, leaf_in, leaf_of, least_first_past, leaves_of, leb, ltb, max_rec_at, min, nat_tests, next_first, next_past, none_begins, number, record_number_limit, refl, seen, shape, subst, suc, sym, unwrap_or, variable_at, variables, vdr_vxr_head, vdrs, ℕ, ◌+◌, ◌-◌, ◌<◌, ◌^◌, ◌∙◌, ◌∷◌, ◌≡◌, ◌≤◌}
use Rattle.cdf_edits.proofs.Common.{In, Leaf, cases_lt, filter, fold}
use Rattle.cdf_edits.proofs.Edits.VdrEdited.{in_middle}
use Rattle.cdf_format.specs.Records.{vdr_max_rec}
use Rattle.cdf_index.specs.declared.nodes.Leaf.{Leaf as ReadLeaf}
use Rattle.cdf_model.specs.Spots.{from_number}
pub use Rattle.cdf_var_records.proofs.LeafItems.{recs_rise}
use Rattle.cdf_var_records.proofs.LeafItems.{in_order, leaf_there, missed, rise, same_leaf}
use Rattle.cdf_var_records.proofs.NextItem.{next_from, none_from}
use Rattle.cdf_var_records.proofs.PadSites.{own}
use Rattle.cdf_var_records.proofs.PutRoomCount.{IsBehind, leaves_behind}
use Rattle.cdf_var_records.proofs.RecordForms.{among, has_index}
use Rattle.cdf_puts.specs.Starts.{InTopChain, IsKnownStart}
use Rattle.cdf_var_records.specs.Next.{HasLeaf, IsFirst, IsReader, NoneIn, leaves_at}
use Rattle.cdf_var_records.specs.declared.next.Located.{Located}
use Rattle.cdf_var_records.specs.declared.next.RecordReader.{RecordReader}
use Rattle.std.specs.Prelude.{IfSome}

-- ---- leaves in order

-- no leaf has a record between one that none has and the next First
gap : (at k next : ℕ) (xs : List Leaf) → leaf_of at xs ≡ None → Each (IsBehind at (next - 1)) xs → at ≤ k → k < next → leaf_of k xs ≡ None
gap at k next [] none behind le lt = refl
gap at k next (x ∷ xs) none behind le lt = grind (arith, nat_tests, gap at k next xs, none, behind.0, behind.1)

beyond : (k low upto : ℕ) (xs : List Leaf) → Ascending low upto xs → upto ≤ k → leaf_of k xs ≡ None
beyond k low upto [] a le = refl
beyond k low upto (x ∷ xs) a le = grind (arith, nat_tests, beyond k (suc x.last) upto xs a.3, a.0, a.1, a.2)

-- ---- the least First past a record

least_stays : (k i : ℕ) (fs : List ℕ) → i ≤ k → fold min i (filter (ltb k) fs) ≡ i
least_stays k i [] le = refl
least_stays k i (f ∷ fs) le = grind (arith, nat_tests, least_stays k (min i f) fs, least_stays k i fs le)

-- the next First is greater
pub goes_on : (k first : ℕ) (nodes : Nodes) → Some first ≡ least_first_past k nodes → k < first
goes_on k first nodes is = elim (either (leb k record_number_limit)) [
  | inl t ↦ let past = next_past k (firsts_of nodes) (grind (arith, nat_tests, t)) in let same = bound_is nodes k (Some first) is in omega arith
  | inr t ↦ let stays = least_stays k (record_number_limit + 1) (firsts_of nodes) (grind (arith, nat_tests, t)) in grind (arith, nat_tests, stays, is)
]

module _ (nodes : Nodes) where
  abbrev leaves : List Leaf
  leaves = leaves_of nodes

  behind : (at : ℕ) (next : Option ℕ) (n : ℕ) → next ≡ least_first_past at nodes → n ≡ unwrap_or next (record_number_limit + 1) → at < n → leaf_of at leaves ≡ None → NoneIn leaves at n
  behind at next n is e some none k le less =
      let bound : n ≡ next_first at (firsts_of nodes) = e ∙ bound_is nodes at next is in
      gap at k n leaves none (leaves_behind at (n - 1) nodes (none_begins at (n - 1) (firsts_of nodes) (omega arith))) le less

  -- up to the next First
  pub more : (from at first : ℕ) → NoneIn leaves from at → leaf_of at leaves ≡ None → Some first ≡ least_first_past at nodes → NoneIn leaves from first
  more from at first so none is k low less = elim (cases_lt k at) [
    | inl lt ↦ so k low lt
    | inr le ↦ behind at (Some first) first is refl (goes_on at first nodes is) none k le less
  ]

module _ {b : List ℕ} {head : ℕ} (has : HasIndex b head) where
  abbrev tree : Nodes
  tree = index_at b head

  -- where there is no next First, no leaf has a record behind
  pub no_more : (from at end : ℕ) → NoneIn (leaves_of tree) from at → leaf_of at (leaves_of tree) ≡ None → None ≡ least_first_past at tree → NoneIn (leaves_of tree) from end
  no_more from at end so none is k low less = elim (cases_lt k at) [
    | inl lt ↦ so k low lt
    | inr le ↦ elim (cases_lt k (record_number_limit + 1)) [
      | inl small ↦ behind tree at None (record_number_limit + 1) is refl (omega arith) none k le small
      | inr great ↦ beyond k 0 (suc record_number_limit) (leaves_of tree) (rise has) (omega arith)
    ]
  ]

-- ---- the records of a variable

-- MaxRec has 31 bits
pub few_records : (b : List ℕ) (vdr : ℕ) → extent (max_rec_at b vdr) ≤ 2 ^ 31
few_records b vdr = elim (either (ltb (number b vdr vdr_max_rec) (2 ^ 31))) [
  | inl t ↦ rw t (grind (arith, nat_tests, t))
  | inr t ↦ rw t (omega arith)
]

module _ {b : List ℕ} {kind : Kind} {vdr : ℕ} (good : Good b) (v : IsVdr b kind vdr) where
  abbrev recs : List (ℕ × List ℕ)
  recs = (variable_at b vdr).recs

  abbrev most : ℕ
  most = extent (max_rec_at b vdr)

  abbrev leaves_there : List Leaf
  leaves_there = leaves_at b vdr

  -- the VDR is one of the image
  pub vdr_there : In vdr (vdrs (variables (shape b)))
  vdr_there =
      let all = among good v in
      subst (λ (vs : List VariableShape). In vdr (vdrs vs)) (sym all.all) (in_middle all.front (own good v) all.rest)

  -- a leaf that is kept has each of its records
  pub kept_leaf : (leaf : ReadLeaf) → HasLeaf leaves_there leaf → (k : ℕ) → leaf.first ≤ k → k ≤ leaf.last → leaf_of k leaves_there ≡ Some (seen leaf)
  kept_leaf leaf has k from up = same_leaf has.0 k 0 (suc record_number_limit) leaves_there (seen leaf) (in_order good v) has.1 from up

  pub none_left : (from end : ℕ) → end ≡ most → NoneIn leaves_there from end → from_number from recs ≡ []
  none_left from end is none = none_from from 0 recs (recs_rise good v) (λ k low. missed good v k (λ lt. none k low (omega arith)))

  pub comes_next : (from at : ℕ) (bytes : List ℕ) → from ≤ at → NoneIn leaves_there from at → Some bytes ≡ item_at at recs → from_number from recs ≡ (at, bytes) ∷ from_number (at + 1) recs
  comes_next from at bytes le none is = next_from from at 0 bytes recs (recs_rise good v) is le (λ k low less. missed good v k (λ lt. none k low less))

  -- a record that is stored is up to MaxRec
  pub up_to_max_rec : (k : ℕ) (bytes : List ℕ) → item_at k recs ≡ Some bytes → k < most
  up_to_max_rec k bytes is = elim (cases_lt k most) [
    | inl lt ↦ lt
    | inr le ↦ absurd (gone (missed good v k (λ lt. absurd (omega arith)) ∙ is))
  ]
    where
      gone : None ≡ Some bytes → ⊥
      gone q = cc

  -- ---- as they are read

  module _ {late now : List ℕ} {head : ℕ} (same : late ≡ b) (stays : now ≡ b) (is : head ≡ number late vdr vdr_vxr_head) where
    head_is : head ≡ number b vdr vdr_vxr_head
    head_is = is ∙ ap (λ (x : List ℕ). number x vdr vdr_vxr_head) same

    tree_same : index_at now head ≡ index_at b (number b vdr vdr_vxr_head)
    tree_same = let h = head_is in λ i. index_at (stays i) (h i)

    pub leaves_same : leaves_of (index_at now head) ≡ leaves_there
    leaves_same = ap (λ (nodes : Nodes). leaves_of nodes) tree_same

    pub index_there : HasIndex now head
    index_there = subst (λ (x : List ℕ). HasIndex x head) (sym stays) (subst (HasIndex b) (sym head_is) (has_index good v))

    pub known_there : (known : Option ℕ) → IsKnownStart b vdr known → InTopChain (index_at now head) known
    known_there known k = subst (λ (nodes : Nodes). InTopChain nodes known) (sym tree_same) k

-- ---- what a reader finds

module _ {b : List ℕ} {reader : RecordReader} (good : Good b) (r : IsReader b reader) where
  abbrev place : ℕ
  place = reader.form.place.vdr

  pub first_kept : (leaf : ReadLeaf) (from : ℕ) → reader.leaf ≡ Some leaf → (leaf.first ≤ from) × (from ≤ leaf.last) → from < reader.extent → IsFirst (leaves_at b place) from reader.extent (record { num = from; leaf = leaf })
  first_kept leaf from kept has lt = record {
    least = omega arith;
    inside = lt;
    none = λ k low less. absurd (omega arith);
    has = kept_leaf good r.is_form.is_vdr leaf (subst (λ (o : Option ReadLeaf). IfSome o (HasLeaf (leaves_at b place))) kept r.leaf_is) from has.0 has.1;
  }

  -- the leaf that was found has the record
  pub located_in : {from : ℕ} {found : Located} → IsFirst (leaves_at b place) from reader.extent found → Some (seen found.leaf) ≡ leaf_in b place found.num
  located_in {found = found} first = sym (leaf_there good r.is_form.is_vdr found.num (subst (λ (n : ℕ). found.num < n) r.extent_is first.inside) ∙ first.has)
