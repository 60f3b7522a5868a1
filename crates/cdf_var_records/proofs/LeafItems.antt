-- The records of a variable of a good image, each by the leaf of its index that has it.
use Rattle.cdf_var_records.proofs.Common.{Ascending, Bool, Good, HasIndex, IsVdr, Kind, List, Nodes, None, Option, Some, Variable, [], ap, arith, extent, good_is_sound, if◌then◌else◌, index_at, inl, inr, item_at, le-ltb, leaf_in, leaf_of, leaves_ascend, leaves_of, lt-ltb, max_rec_at, nat_lt, nat_tests, option_map, record_number_limit, record_of_leaf, refl, shape, stored_record, suc, sym, true, false, variable_at, ℕ, ◌<◌, ◌∙◌, ◌∷◌, ◌≡◌, ◌≤◌}
use Rattle.cdf_edits.proofs.Common.{Leaf as TreeLeaf, cases_lt}
use Rattle.cdf_edits.proofs.Edits.LeafRecords.{rising_records}
use Rattle.cdf_edits.proofs.Edits.NumberedItems.{Rising}
use Rattle.cdf_var_records.proofs.NextItem.{Misses}
use Rattle.cdf_var_records.proofs.PadSites.{own}
use Rattle.cdf_var_records.proofs.RecordForms.{among, has_index, image, index_is, variable_is}
use Rattle.cdf_var_records.specs.Next.{leaves_at}

-- ---- leaves in order

pub leaf_low : (k low upto : ℕ) (xs : List TreeLeaf) (l : TreeLeaf) → Ascending low upto xs → leaf_of k xs ≡ Some l → low ≤ l.first
leaf_low k low upto [] l a e = absurd cc
leaf_low k low upto (x ∷ xs) l a e = grind (arith, nat_tests, leaf_low k (suc x.last) upto xs l a.3, a.0, a.1, e)

-- a leaf that has a record has each other of its own
pub same_leaf : (r k low upto : ℕ) (xs : List TreeLeaf) (l : TreeLeaf) → Ascending low upto xs → leaf_of r xs ≡ Some l → l.first ≤ k → k ≤ l.last → leaf_of k xs ≡ Some l
same_leaf r k low upto [] l a e from up = absurd cc
same_leaf r k low upto (x ∷ xs) l a e from up = grind (arith, nat_tests, same_leaf r k (suc x.last) upto xs l a.3, leaf_low r (suc x.last) upto xs l a.3, a.0, a.1, e)

-- those of an index are in order
pub rise : {b : List ℕ} {head : ℕ} → HasIndex b head → Ascending 0 (suc record_number_limit) (leaves_of (index_at b head))
rise {b = b} {head = head} has = leaves_ascend 0 record_number_limit (index_at b head) has.order (omega arith)

-- ---- a variable of a good image

map_if : {A B : Type 0} (p : Bool) (f : A → B) (o : Option A) → (if p then option_map f o else None) ≡ option_map f (if p then o else None)
map_if true f o = refl
map_if false f o = refl

module _ {b : List ℕ} {kind : Kind} {vdr : ℕ} (good : Good b) (v : IsVdr b kind vdr) where
  abbrev recs : List (ℕ × List ℕ)
  recs = (variable_at b vdr).recs

  abbrev most : ℕ
  most = extent (max_rec_at b vdr)

  abbrev leaves_there : List TreeLeaf
  leaves_there = leaves_at b vdr

  pub in_index : (rec : ℕ) → leaf_of rec (leaves_of (own good v).index) ≡ leaf_of rec leaves_there
  in_index rec = ap (λ (nodes : Nodes). leaf_of rec (leaves_of nodes)) (sym (index_is good v))

  pub in_order : Ascending 0 (suc record_number_limit) leaves_there
  in_order = rise (has_index good v)

  pub recs_rise : Rising 0 recs
  recs_rise = rising_records b vdr leaves_there in_order

  -- a record that is stored is one of those of its leaf
  pub by_leaf : (rec : ℕ) → item_at rec recs ≡ option_map (record_of_leaf b vdr rec) (leaf_in b vdr rec)
  by_leaf rec =
      let g = among good v in
      ap (λ (w : Variable). item_at rec w.recs) (variable_is good v)
      ∙ stored_record b (shape b) g.front (own good v) g.rest (image good v) (good_is_sound b good) g.all rec
      ∙ ap (λ (l : Option TreeLeaf). if nat_lt rec most then option_map (record_of_leaf b vdr rec) l else None) (in_index rec)
      ∙ map_if (nat_lt rec most) (record_of_leaf b vdr rec) (leaf_of rec leaves_there)

  -- the leaf of a record up to MaxRec
  pub leaf_there : (k : ℕ) → k < most → leaf_in b vdr k ≡ leaf_of k leaves_there
  leaf_there k lt = rw (lt-ltb k most lt) refl

  -- a record that no leaf has, or past MaxRec
  pub missed : (k : ℕ) → (k < most → leaf_of k leaves_there ≡ None) → Misses k recs
  missed k none =
      let gone : None ≡ leaf_in b vdr k = elim (cases_lt k most) [
        | inl lt ↦ sym (leaf_there k lt ∙ none lt)
        | inr le ↦ rw (le-ltb k most le) refl
      ] in
      ap (option_map (record_of_leaf b vdr k)) gone ∙ sym (by_leaf k)
