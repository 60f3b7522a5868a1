-- What a good image gives for the calls by which records are cut out at the end of an index of which no node is empty, and what they come to.
use Rattle.cdf_index.proofs.Common.{Ascending, EntrySet, Good, HasIndex, IsOneOf, Kind, Leaf, List, NodeFits, NodeInside, Nodes, None, Option, Some, StandsAmong, VariableShape, [], ap, arith, image_limit, index_at, inl, inr, leaves_of, length, linkable-in, nodes_of, nodes_stand, number, record_number_limit, subst, suc, sym, tiles, vdr_vxr_head, vxr_type, ℕ, ◌-◌, ◌<◌, ◌∙◌, ◌∷◌, ◌≡◌, ◌≤◌}
use Rattle.cdf_cuts.proofs.CutCalls.{index_is}
use Rattle.cdf_cuts.proofs.Rewriting.{inside_of}
use Rattle.cdf_cuts.specs.Past.{CutPast, cut_off}
use Rattle.cdf_edits.proofs.Edits.LeafPieces.{each_of}
use Rattle.cdf_edits.proofs.Frame.OwnerAlone.{Each-in}
use Rattle.cdf_format.specs.Shape.{Each, is_compressed}
use Rattle.cdf_index.proofs.LeavesAscend.{leaves_ascend}
use Rattle.cdf_puts.specs.TidyIndex.{IsTidy}
use Rattle.cdf_trim.proofs.EndCut.{end_cut, nothing_cut}
use Rattle.cdf_trim.proofs.EndShape.{Begins}
use Rattle.cdf_trim.specs.LastEntry.{NamesLast}
use Rattle.cdf_trim.specs.Trimming.{KeepsBlocks}
use Rattle.cdf_trim.specs.declared.last_entry.LastEntry.{LastEntry}
use Rattle.std.specs.List.{last_or}
use Rattle.std.specs.Option.{unwrap_or}
use Rattle.std.proofs.Common.{false}

-- ---- the last leaf ends last

last_end : (n upto : ℕ) (y x : Leaf) (ys : List Leaf) → n ≤ y.last → Ascending (suc y.last) upto ys → last_or (Some y) ys ≡ Some x → n ≤ x.last
last_end n upto y x [] le a e = subst (λ (l : Leaf). n ≤ l.last) (ap (λ (o : Option Leaf). unwrap_or o y) e) le
last_end n upto y x (z ∷ zs) le a e = last_end n upto z x zs (let begins = a.0 in let ends = a.1 in omega arith) a.3 e

ends_last : (low upto : ℕ) (o : Option Leaf) (xs : List Leaf) (x : Leaf) → Ascending low upto xs → last_or o xs ≡ Some x → (l : Leaf) → IsOneOf xs l → l.last ≤ x.last
ends_last low upto o [] x a e l i = absurd i
ends_last low upto o (y ∷ ys) x a e l (inl q) = subst (λ (m : Leaf). m.last ≤ x.last) q (last_end y.last upto y x ys (omega arith) a.3 e)
ends_last low upto o (y ∷ ys) x a e l (inr i) = ends_last (suc y.last) upto (Some y) ys x a.3 e l i

-- and it begins last
last_begin : (n upto : ℕ) (y x : Leaf) (ys : List Leaf) → n ≤ y.first → y.first ≤ y.last → Ascending (suc y.last) upto ys → last_or (Some y) ys ≡ Some x → n ≤ x.first
last_begin n upto y x [] le o a e = subst (λ (l : Leaf). n ≤ l.first) (ap (λ (o : Option Leaf). unwrap_or o y) e) le
last_begin n upto y x (z ∷ zs) le o a e = last_begin n upto z x zs (let begins = a.0 in omega arith) a.1 a.3 e

begins_last : (low upto : ℕ) (o : Option Leaf) (xs : List Leaf) (x : Leaf) → Ascending low upto xs → last_or o xs ≡ Some x → (l : Leaf) → IsOneOf xs l → l.first ≤ x.first
begins_last low upto o [] x a e l i = absurd i
begins_last low upto o (y ∷ ys) x a e l (inl q) = subst (λ (m : Leaf). m.first ≤ x.first) q (last_begin y.first upto y x ys (omega arith) a.1 a.3 e)
begins_last low upto o (y ∷ ys) x a e l (inr i) = begins_last (suc y.last) upto (Some y) ys x a.3 e l i

ordered : (low upto : ℕ) (xs : List Leaf) → Ascending low upto xs → (l : Leaf) → IsOneOf xs l → l.first ≤ l.last
ordered low upto [] a l i = absurd i
ordered low upto (y ∷ ys) a l (inl q) = subst (λ (m : Leaf). m.first ≤ m.last) q a.1
ordered low upto (y ∷ ys) a l (inr i) = ordered (suc y.last) upto ys a.3 l i

-- ---- where each block stays

module _ {b : List ℕ} {head : ℕ} (has : HasIndex b head) (first : ℕ) where
  ascends : Ascending 0 (suc record_number_limit) (leaves_of (index_at b head))
  ascends = leaves_ascend 0 record_number_limit (index_at b head) has.order (omega arith)

  pub none_goes : leaves_of (index_at b head) ≡ [] → KeepsBlocks first (index_at b head)
  none_goes none = subst (Each (Begins first)) (sym none) tt

  module _ (e : LastEntry) (names : NamesLast b (index_at b head) e) where
    pub none_reaches : e.leaf.last < first → KeepsBlocks first (index_at b head)
    none_reaches lt = each_of (Begins first) (leaves_of (index_at b head)) (λ l i.
        let le = ends_last 0 (suc record_number_limit) None (leaves_of (index_at b head)) _ ascends names.leaf_is l i in
        let o = ordered 0 (suc record_number_limit) (leaves_of (index_at b head)) ascends l i in
        omega arith)

    pub each_begins : e.leaf.first < first → KeepsBlocks first (index_at b head)
    each_begins lt = each_of (Begins first) (leaves_of (index_at b head)) (λ l i. let le = begins_last 0 (suc record_number_limit) None (leaves_of (index_at b head)) _ ascends names.leaf_is l i in omega arith)

-- ---- the node of the last entry

pub last_inside : {b : List ℕ} {head : ℕ} → HasIndex b head → {e : LastEntry} → NamesLast b (index_at b head) e → NodeInside b e.node
last_inside {b = b} {head = head} has {e = e} names =
    inside_of (tiles b) has.tiled (linkable-in b (tiles b) vxr_type e.node (nodes_stand b (tiles b) 8 (index_at b head) has.index.has_nodes e.node names.is_node)) (Each-in (NodeFits b) (nodes_of (index_at b head)) has.fits e.node names.is_node)

-- ---- what is left

module _ {b : List ℕ} (good : Good b) {kind : Kind} {before : List VariableShape} {own : VariableShape} {after : List VariableShape} {vdr : ℕ} (among : StandsAmong b kind before own after) (is : own.vdr ≡ vdr) (short : length b ≤ image_limit) (tidy : IsTidy (index_at b (number b vdr vdr_vxr_head))) (first : ℕ) (unpacked : is_compressed b vdr ≡ false) where
  loose : is_compressed b own.vdr ≡ false
  loose = ap (is_compressed b) is ∙ unpacked

  here : index_at b (number b vdr vdr_vxr_head) ≡ own.index
  here = (index_is b good among is).1

  tidy_own : IsTidy own.index
  tidy_own = subst IsTidy here tidy

  pub trims_none : leaves_of (index_at b (number b vdr vdr_vxr_head)) ≡ [] → CutPast b b kind before own (cut_off own first) after first
  trims_none none =
      let no : leaves_of own.index ≡ [] = ap (λ (ns : Nodes). leaves_of ns) (sym here) ∙ none in
      nothing_cut good among short tidy_own loose first (λ l i. absurd (subst (λ (xs : List Leaf). IsOneOf xs l) no i))

  module _ (e : LastEntry) (names : NamesLast b (index_at b (number b vdr vdr_vxr_head)) e) where
    names_own : NamesLast b own.index e
    names_own = subst (λ (ns : Nodes). NamesLast b ns e) here names

    pub trims_nothing : e.leaf.last < first → CutPast b b kind before own (cut_off own first) after first
    trims_nothing lt =
        let ascend = leaves_ascend 0 record_number_limit own.index (rw here at (index_is b good among is).0.order) (omega arith) in
        nothing_cut good among short tidy_own loose first (λ l i. let le = ends_last 0 (suc record_number_limit) None (leaves_of own.index) _ ascend names_own.leaf_is l i in omega arith)

    pub trims_end : {now : List ℕ} → e.leaf.first < first → first ≤ e.leaf.last → EntrySet b now e.node e.number e.leaf.first (first - 1) e.leaf.at → CutPast b now kind before own (cut_off own first) after first
    trims_end lt le set = end_cut good among short tidy_own loose first e names_own lt le set
