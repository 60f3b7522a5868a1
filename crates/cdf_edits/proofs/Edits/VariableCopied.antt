-- A variable whose VDR stands at another place, or is another where it is, and whose other records an edit leaves: its links, its content and its rules.
use Rattle.cdf_edits.proofs.Common.{Each, Edit, HasVariable, Hold, In, In-append_left, In-append_right, IsSound, Leaf, LeafFits, List, Mark, NodeFits, Shape, VariableFits, VariableShape, [], arith, cpr_link, cpr_of, has_name, if◌then◌else◌, index_rows, inl, inr, integer4, is_compressed, is_named_apart, leaves_of, name_in, nodes_of, number, pad_at, records_vary, refl, size_at, size_kept, subst, sym, true, type_kept, variable_of, variable_rows, vdr_blocking_factor, vdr_end, vdr_name, vdr_vxr_head, ℕ, ◌++◌, ◌∙◌, ◌∷◌, ◌≡◌, ◌≤◌}
use Rattle.cdf_edits.proofs.Edits.InRecords.{places_of, index_both, index_rows_both, leaves_fit_both, cprs_both}
use Rattle.cdf_edits.proofs.Edits.RecordFrame.{cpr_own, index_records}
use Rattle.cdf_edits.proofs.Frame.LinksStay.{SameHeads, index_kept}
use Rattle.cdf_edits.proofs.Frame.Meaning.{FileSame, Kept}
use Rattle.cdf_edits.proofs.Frame.OwnerAlone.{Each-in}
use Rattle.cdf_edits.proofs.Frame.VdrCopied.{VdrCopied, block_fits_copied, cpr_link_copied, index_link_copied, plain_copied, variable_copied}
use Rattle.cdf_edits.proofs.Frame.SoundStays.{block_kept, nodes_fit_kept, cprs_kept}
use Rattle.cdf_edits.proofs.Rules.OfIndexes.{index_rules_copied}
use Rattle.cdf_edits.proofs.Rules.OfVdrCopied.{cpr_stays, variable_rules_copied}

-- its nodes, its blocks and its parameters
module _ (own : VariableShape) where
  pub node_behind : (m : ℕ) → In m (nodes_of own.index) → In m (index_records own)
  node_behind m i = In-append_left m (nodes_of own.index ++ places_of (leaves_of own.index)) own.cpr (In-append_left m (nodes_of own.index) (places_of (leaves_of own.index)) i)

  pub block_behind : (m : ℕ) → In m (places_of (leaves_of own.index)) → In m (index_records own)
  block_behind m i = In-append_left m (nodes_of own.index ++ places_of (leaves_of own.index)) own.cpr (In-append_right m (nodes_of own.index) (places_of (leaves_of own.index)) i)

  pub cpr_behind : (m : ℕ) → In m own.cpr → In m (index_records own)
  cpr_behind m i = In-append_right m (nodes_of own.index ++ places_of (leaves_of own.index)) own.cpr i

module _ {b now : List ℕ} {s : Shape} {new : List ℕ} {marks : List Mark} {reborn : List ℕ} (sound : IsSound b s) (e : Edit b now s.records new marks reborn) (file : FileSame b now) (own : VariableShape) (has : HasVariable b s.records own) (fits : VariableFits b s.records own)
    (stand : (m : ℕ) → In m (index_records own) → In m s.records) (kept : (m : ℕ) → In m (index_records own) → Kept b now m) {v' : ℕ} (k : VdrCopied b now own.vdr v') (packed : is_compressed now v' ≡ is_compressed b own.vdr) where
  heads : (records : List ℕ) → ((m : ℕ) → In m (index_records own) → In m records) → SameHeads b now (index_records own) records
  heads records sub = record {
    sizes = λ m i. let x = kept m i in size_kept b now m x.same (let l = x.long in omega arith);
    types = λ m i. let x = kept m i in type_kept b now m x.same x.long;
    sub = sub;
  }

  pub links_copied : HasVariable now new (record own { vdr = v' })
  links_copied =
      let mine = index_records own in
      let link = cpr_link_copied file k in
      let cpr : cpr_of now v' ≡ cpr_of b own.vdr = λ i. if packed i then link i ∷ [] else [] in
      let index = index_both b s.records mine (number b own.vdr vdr_vxr_head) own.index (λ m i. (stand m (node_behind own m i), node_behind own m i)) (λ m i. (stand m (block_behind own m i), block_behind own m i)) has.indexed in
      record {
        indexed = index_kept b now mine new (heads new (λ m i. e.sub m (stand m i))) (number b own.vdr vdr_vxr_head) (number now v' vdr_vxr_head) own.index index (index_link_copied file k)
            (λ m i. kept m (node_behind own m i)) (Each-in (NodeFits b) (nodes_of own.index) fits.1) (block_behind own);
        packed_by = cpr ∙ has.packed_by;
      }

  pub content_copied : variable_of now (record own { vdr = v' }) ≡ record (variable_of b own) { name = name_in now v' vdr_name; vary = records_vary now v'; rle = is_compressed now v'; blocking = integer4 now v' vdr_blocking_factor; pad = pad_at now v' }
  content_copied = variable_copied file own (record own { vdr = v' }) s.records k refl (λ m i. kept m (block_behind own m i)) fits.2

  pub index_rules_stay : Hold (index_rows b s.records own.vdr own.index) → Hold (index_rows now new v' own.index)
  index_rules_stay rules =
      let mine = index_records own in
      let there : Hold (index_rows b mine own.vdr own.index) = subst Hold (sym (index_rows_both b s.records mine own.vdr own.index (λ m i. (stand m (block_behind own m i), block_behind own m i)))) rules in
      subst Hold (sym (index_rows_both now mine new v' own.index (λ m i. (block_behind own m i, e.sub m (stand m (block_behind own m i))))))
      (index_rules_copied b now mine (heads mine (λ m i. i)) file (λ m i. sound.has_shape.fixed m (stand m i)) own.vdr v' packed (plain_copied file k) own.index (λ m i. kept m (node_behind own m i)) (Each-in (NodeFits b) (nodes_of own.index) fits.1)
      (λ m i. kept m (block_behind own m i)) there)

  cpr_mine : is_compressed b own.vdr ≡ true → In (cpr_link b own.vdr) (index_records own)
  cpr_mine c = cpr_behind own (cpr_link b own.vdr) (cpr_own has c)

  pub rules_stay : (ids ids' : List ℕ) → Hold (variable_rows b s.records ids own.vdr) → has_name now v' vdr_name ≡ true → is_named_apart now ids' v' ≡ true → vdr_end now v' ≤ size_at now v' → size_at b own.vdr ≤ size_at now v' → Hold (variable_rows now new ids' v')
  rules_stay ids ids' rules named apart ends larger =
      variable_rules_copied file k larger s.records new ids ids' rules named apart ends packed
      (λ c is. cpr_stays b now s.records new (cpr_link b own.vdr) is (kept (cpr_link b own.vdr) (cpr_mine c)) (e.sub (cpr_link b own.vdr) (stand (cpr_link b own.vdr) (cpr_mine c))))

  leaves_fit_copied : (leaves : List Leaf) → ((m : ℕ) → In m (places_of leaves) → Kept b now m) → Each (LeafFits b (index_records own) own.vdr) leaves → Each (LeafFits now new v') leaves
  leaves_fit_copied [] still f = tt
  leaves_fit_copied (leaf ∷ more) still f = (
    (block_kept b now (index_records own) new file (heads new (λ m i. e.sub m (stand m i))) leaf.place f.0.0, block_fits_copied file k leaf leaf.packed (still leaf.place (inl refl)) f.0.1),
    leaves_fit_copied more (λ m i. still m (inr i)) f.1,
  )

  pub fits_copied : vdr_end now v' ≤ size_at now v' → VariableFits now new (record own { vdr = v' })
  fits_copied ends =
      let mine = index_records own in
      let same = heads new (λ m i. e.sub m (stand m i)) in (
        ends,
        nodes_fit_kept b now mine new file same (nodes_of own.index) (λ m i. kept m (node_behind own m i)) fits.1,
        leaves_fit_copied (leaves_of own.index) (λ m i. kept m (block_behind own m i)) (leaves_fit_both b s.records mine own.vdr (leaves_of own.index) (λ m i. (stand m (block_behind own m i), block_behind own m i)) fits.2),
        cprs_kept b now mine new file same own.cpr (cprs_both b s.records mine own.cpr (λ m i. (stand m (cpr_behind own m i), cpr_behind own m i)) fits.3),
      )
