-- The leaves of a variable: where its blocks stand, and what an index needs of them.
use Rattle.std.proofs.Common.{Bool, List, [], ap, arith, eq-eqb, false, inl, inr, length, map, refl, suc, true, ℕ, ◌%◌, ◌++◌, ◌+◌, ◌<◌, ◌^◌, ◌||◌, ◌∙◌, ◌∷◌, ◌≡◌, ◌≤◌, ◌⊎◌}
use Rattle.std.proofs.lemmas.Bool.{and_from}
use Rattle.std.specs.Prelude.{if◌then◌else◌, nat_le, ◌&&◌, ◌==◌}
use Rattle.cdf_model.specs.DataSet.{Variable, extent}
use Rattle.cdf_model.specs.Limits.{record_number_limit}
use Rattle.cdf_model.specs.Types.{size_of}
use Rattle.cdf_format.proofs.Members.{either, is_in-true}
use Rattle.cdf_format.specs.Chains.{is_a, is_in, is_linkable}
use Rattle.cdf_format.specs.Fields.{size_at, type_at}
unfoldable use Rattle.cdf_format.specs.Index.{entry_leaves, lower_nodes}
use Rattle.cdf_format.specs.Index.{Leaf, leaf}
unfoldable use Rattle.cdf_format.specs.IndexOf.{Names}
use Rattle.cdf_format.specs.IndexRules.{is_block}
use Rattle.cdf_format.specs.RecordTypes.{cvvr_type, vvr_type, vxr_type}
use Rattle.cdf_format.specs.Shape.{Each}
use Rattle.cdf_format.specs.Tiles.{In}
use Rattle.cdf_edits.specs.Index.Blocks.{block_count, record_length}
use Rattle.cdf_edits.specs.Space.Placing.{IsBody, type_of_body}
use Rattle.cdf_writer.specs.Bodies.{cvvr_body, vvr_body, whole_record}
use Rattle.cdf_writer.specs.Groups.{first_number, goes_on, grouped, grouped_on, last_number}
use Rattle.cdf_writer.specs.Laying.{block_body, blocks_of, blocks_ranged, is_packed, laid, laid_size, plain_of_block}
use Rattle.cdf_writer.specs.Packing.{packed_of}
use Rattle.cdf_writer.proofs.BlocksRead.{P, VdrMeans, cvvr_made, number_small, vvr_made}
use Rattle.cdf_writer.proofs.GroupLemmas.{Ascend, IsGroup}
use Rattle.cdf_writer.proofs.IndexTree.{Item, ItemFits, NamedFrom, leaf_item, said, tree}
unfoldable use Rattle.cdf_writer.proofs.Ordered.{AreInOrder}
use Rattle.cdf_writer.proofs.Stands.{IsRecord, Standing, Stands, places, size-cons, standing, stands_parts}
use Rattle.cdf_writer.specs.declared.bodies.NodeEntry.{NodeEntry}

module _ (little : Bool) (v : Variable) where
  abbrev pub leaf_of : ℕ → List (ℕ × List ℕ) → Leaf
  leaf_of place group = leaf (first_number group) (last_number group) place (is_packed v.rle (plain_of_block little v group))

  abbrev pub past_block : ℕ → List (ℕ × List ℕ) → ℕ
  past_block place group = place + length (whole_record (block_body little v group))

  abbrev pub leaves : ℕ → List (List (ℕ × List ℕ)) → List Leaf
  leaves place [] = []
  leaves place (group ∷ more) = leaf_of place group ∷ leaves (past_block place group) more

  abbrev pub items : ℕ → List (List (ℕ × List ℕ)) → List Item
  items place groups = map leaf_item (leaves place groups)

  pub said_items : (place : ℕ) (groups : List (List (ℕ × List ℕ))) → map said (items place groups) ≡ blocks_ranged little v place groups
  said_items place [] = refl
  said_items place (g ∷ groups) = ap (λ (l : List NodeEntry). record { first = first_number g; last = last_number g; place = place } ∷ l) (said_items (past_block place g) groups)

  pub leaves_back : (place : ℕ) (groups : List (List (ℕ × List ℕ))) → entry_leaves (tree (items place groups)) ≡ leaves place groups
  unfolding entry_leaves
  leaves_back place [] = refl
  leaves_back place (g ∷ groups) = ap (λ (l : List Leaf). leaf_of place g ∷ l) (leaves_back (past_block place g) groups)

  pub no_lower : (place : ℕ) (groups : List (List (ℕ × List ℕ))) → lower_nodes (tree (items place groups)) ≡ []
  unfolding lower_nodes
  no_lower place [] = refl
  no_lower place (g ∷ groups) = no_lower (past_block place g) groups

  pub leaf_places : (place : ℕ) (groups : List (List (ℕ × List ℕ))) → places place (map (block_body little v) groups) ≡ map (λ leaf. leaf.place) (leaves place groups)
  leaf_places place [] = refl
  leaf_places place (g ∷ groups) = ap (λ (l : List ℕ). place ∷ l) (leaf_places (past_block place g) groups)

  pub count_items : (place : ℕ) (groups : List (List (ℕ × List ℕ))) → length (items place groups) ≡ length groups
  count_items place [] = refl
  count_items place (g ∷ groups) = ap suc (count_items (past_block place g) groups)

  block_made : (g : List (ℕ × List ℕ)) → ((type_of_body (block_body little v g) ≡ vvr_type) ⊎ (type_of_body (block_body little v g) ≡ cvvr_type)) × ((type_of_body (block_body little v g) == cvvr_type) ≡ is_packed v.rle (plain_of_block little v g)) × IsBody (block_body little v g)
  block_made g =
      let x = plain_of_block little v g in
      by x (is_packed v.rle x)
    where
      by : (x : List ℕ) (p : Bool) → ((type_of_body (if p then cvvr_body (packed_of x) else vvr_body x) ≡ vvr_type) ⊎ (type_of_body (if p then cvvr_body (packed_of x) else vvr_body x) ≡ cvvr_type)) × ((type_of_body (if p then cvvr_body (packed_of x) else vvr_body x) == cvvr_type) ≡ p) × IsBody (if p then cvvr_body (packed_of x) else vvr_body x)
      by x true = let m = cvvr_made (packed_of x) in (inr m.0, rw m.0 refl, m.1)
      by x false = let m = vvr_made x in (inl m.0, rw m.0 refl, m.1)

  pub blocks_made : (groups : List (List (ℕ × List ℕ))) → Each IsBody (map (block_body little v) groups)
  blocks_made [] = tt
  blocks_made (g ∷ groups) = ((block_made g).2, blocks_made groups)

  -- that they stand
  abbrev pub BlocksStand : List ℕ → ℕ → List (List (ℕ × List ℕ)) → Type 0
  BlocksStand b place [] = Unit {0}
  BlocksStand b place (g ∷ groups) = Standing b place (block_body little v g) × BlocksStand b (past_block place g) groups

  pub blocks_stand : (b : List ℕ) (place : ℕ) (groups : List (List (ℕ × List ℕ))) → Each IsRecord (map (block_body little v) groups) → Stands b place (laid (map (block_body little v) groups)) → BlocksStand b place groups
  blocks_stand b place [] are s = tt
  blocks_stand b place (g ∷ groups) are s =
      let parts = stands_parts (whole_record (block_body little v g)) (laid (map (block_body little v) groups)) s in
      (standing (block_body little v g) are.0 parts.0, blocks_stand b (past_block place g) groups are.1 parts.1)

  no_vxr : (b rs : List ℕ) (m : ℕ) → (type_at b m ≡ vvr_type) ⊎ (type_at b m ≡ cvvr_type) → is_linkable b rs vxr_type m ≡ false
  no_vxr b rs m (inl e) = let t : (type_at b m == vxr_type) ≡ false = rw e refl in none (is_in m rs) (type_at b m == vxr_type) (nat_le 28 (size_at b m)) t
    where
      none : (p q r : Bool) → q ≡ false → ((p && q) && r) ≡ false
      none p q r e = grind arith
  no_vxr b rs m (inr e) = let t : (type_at b m == vxr_type) ≡ false = rw e refl in none (is_in m rs) (type_at b m == vxr_type) (nat_le 28 (size_at b m)) t
    where
      none : (p q r : Bool) → q ≡ false → ((p && q) && r) ≡ false
      none p q r e = grind arith

  pub named : (b rs : List ℕ) (place : ℕ) (groups : List (List (ℕ × List ℕ))) → BlocksStand b place groups → NamedFrom b rs 0 (items place groups)
  unfolding Names
  named b rs place [] s = λ deep le. tt
  named b rs place (g ∷ groups) s =
      let m = block_made g in
      let typed : (type_at b place ≡ vvr_type) ⊎ (type_at b place ≡ cvvr_type) = elim m.0 [ inl e ↦ inl (s.0.type_is ∙ e) | inr e ↦ inr (s.0.type_is ∙ e) ] in
      let packed : (type_at b place == cvvr_type) ≡ is_packed v.rle (plain_of_block little v g) = ap (λ (t : ℕ). t == cvvr_type) s.0.type_is ∙ m.1 in
      λ deep le. (no_vxr b rs place typed, packed, named b rs (past_block place g) groups s.1 deep le)

  pub have_blocks : (b rs : List ℕ) (place : ℕ) (groups : List (List (ℕ × List ℕ))) → BlocksStand b place groups → ((m : ℕ) → In m (map (λ (l : Leaf). l.place) (leaves place groups)) → In m rs) → Each (λ l. is_block b rs l.place ≡ true) (leaves place groups)
  have_blocks b rs place [] s sub = tt
  have_blocks b rs place (g ∷ groups) s sub =
      let m = block_made g in
      let i = is_in-true place rs (sub place (inl refl)) in (
        elim m.0 [
          | inl e ↦ first (is_a b rs vvr_type place) (is_a b rs cvvr_type place) (and_from _ _ i (eq-eqb (type_at b place) vvr_type (s.0.type_is ∙ e)))
          | inr e ↦ second (is_a b rs vvr_type place) (is_a b rs cvvr_type place) (and_from _ _ i (eq-eqb (type_at b place) cvvr_type (s.0.type_is ∙ e)))
        ],
        have_blocks b rs (past_block place g) groups s.1 (λ k j. sub k (inr j)),
      )
    where
      first : (p q : Bool) → p ≡ true → (p || q) ≡ true
      first p q e = grind arith

      second : (p q : Bool) → q ≡ true → (p || q) ≡ true
      second p q e = grind arith

  abbrev pub Groups : List (List (ℕ × List ℕ)) → Type 0
  Groups groups = Each (IsGroup (P v) (block_count v)) groups

  module _ (even : record_length v % size_of v.type ≡ 0) (b : List ℕ) (vdr : ℕ) (means : VdrMeans b vdr little v) (small : extent v.max_rec ≤ 2147483647) where
    pub ordered : (low place : ℕ) (groups : List (List (ℕ × List ℕ))) → Groups groups → Ascend (P v) (block_count v) low groups → AreInOrder low record_number_limit (tree (items place groups))
    unfolding AreInOrder
    ordered low place [] g a = tt
    ordered low place (x ∷ groups) g a = let n = number_small v little even b vdr means small x g.0 in (a.0, n.0, n.1, ordered (suc (last_number x)) (past_block place x) groups g.1 a.1)

    pub fit : (place : ℕ) (groups : List (List (ℕ × List ℕ))) → Groups groups → place + laid_size (map (block_body little v) groups) < 256 ^ 8 → Each ItemFits (items place groups)
    fit place [] g lt = tt
    fit place (x ∷ groups) g lt =
        let n = number_small v little even b vdr means small x g.0 in
        let n0 = n.0 in
        let n1 = n.1 in
        let s = size-cons (block_body little v x) (map (block_body little v) groups) in
        (record { first_fits = small4 (first_number x) (omega arith); last_fits = small4 (last_number x) (omega arith); place_fits = omega arith }, fit (past_block place x) groups g.1 (omega arith))
      where
        small4 : (k : ℕ) → k ≤ 2147483646 → k < 256 ^ 4
        small4 k le = omega arith

few_groups : {A : Type 0} (joins : List A → A → Bool) (group xs : List A) → length (grouped_on joins group xs) ≤ suc (length xs)
few_groups joins group [] = omega arith
few_groups joins group (a ∷ more) = elim (either (joins group a)) [
  | inl e ↦ let r = few_groups joins (group ++ a ∷ []) more in rw e (omega arith)
  | inr e ↦ let r = few_groups joins (a ∷ []) more in rw e (omega arith)
]

pub few_blocks : (v : Variable) → length (blocks_of v) ≤ length v.recs
few_blocks v = by v.recs
  where
    by : (xs : List (ℕ × List ℕ)) → length (grouped (goes_on (block_count v)) xs) ≤ length xs
    by [] = omega arith
    by (x ∷ xs) = few_groups (goes_on (block_count v)) (x ∷ []) xs
