-- What stands behind a variable once its last block and its index are appended.
use Rattle.std.proofs.Common.{List, ap, ap₂, append_assoc, length, subst, sym, ℕ, ◌++◌, ◌∙◌, ◌≡◌}
use Rattle.std.proofs.lemmas.List.{length-append}
use Rattle.std.specs.Prelude.{Ok}
use Rattle.std.specs.declared.result.Result.{Result}
use Rattle.cdf_area.specs.Frame.{Frame}
use Rattle.cdf_model.specs.Limits.{level_limit}
use Rattle.cdf_writer.specs.Laying.{index_bodies, index_root, laid}
use Rattle.cdf_writer.specs.Progress.{all_leaves, closed, finished_bodies, finished_nodes, finished_place, finished_root, group_bodies, nodes_start, vdr_made}
use Rattle.cdf_writer.specs.Stops.{Writes}
use Rattle.cdf_writer.specs.declared.appending.WriteStop.{WriteStop}
use Rattle.cdf_writer.specs.declared.bodies.NodeEntry.{NodeEntry}
use Rattle.cdf_writer.specs.declared.progress.FileState.{FileState}
use Rattle.cdf_writer.specs.declared.progress.OpenVariable.{OpenVariable}
use Rattle.cdf_writer.proofs.Stands.{laid-append}
use Rattle.cdf_writer.proofs.Writing.{writes_both}

module _ (v next : OpenVariable) (b mid : List ℕ) (closed_is : next ≡ closed v (length b)) (blocks_are : mid ≡ b ++ laid (group_bodies v)) where
  pub mid_long : length mid ≡ nodes_start v (length b)
  mid_long = ap length blocks_are ∙ length-append b (laid (group_bodies v))

  leaves_are : next.leaves ≡ all_leaves v (length b)
  leaves_are = ap (λ (x : OpenVariable). x.leaves) closed_is

  pub nodes_are : index_bodies level_limit (length mid) next.leaves ≡ finished_nodes v (length b)
  nodes_are = ap₂ (λ (n : ℕ) (l : List NodeEntry). index_bodies level_limit n l) mid_long leaves_are

  root_is : index_root level_limit (length mid) next.leaves ≡ finished_root v (length b)
  root_is = ap₂ (λ (n : ℕ) (l : List NodeEntry). index_root level_limit n l) mid_long leaves_are

  module _ (last : List ℕ) (nodes_behind : last ≡ mid ++ laid (index_bodies level_limit (length mid) next.leaves)) where
    pub last_is : last ≡ b ++ laid (finished_bodies v (length b))
    last_is =
        nodes_behind
        ∙ ap₂ (λ (m : List ℕ) (n : List (List ℕ)). m ++ laid n) blocks_are nodes_are
        ∙ append_assoc b (laid (group_bodies v)) (laid (finished_nodes v (length b)))
        ∙ ap (λ (l : List ℕ). b ++ l) (sym (laid-append (group_bodies v) (finished_nodes v (length b))))

    pub last_long : length last ≡ finished_place v (length b)
    last_long = ap length last_is ∙ length-append b (laid (finished_bodies v (length b)))

    pub made_is : (file : FileState) (root : ℕ) → root ≡ index_root level_limit (length mid) next.leaves → vdr_made file (length last) root next ≡ vdr_made file (finished_place v (length b)) (finished_root v (length b)) v
    made_is file root e =
        ap₂ (λ (end r : ℕ). vdr_made file end r next) last_long (e ∙ root_is) ∙ ap (λ (x : OpenVariable). vdr_made file (finished_place v (length b)) (finished_root v (length b)) x) closed_is

-- the last block and the index, one call after the other
module _ {A U : Type 0} (image_of : A → List ℕ) (frame_of : A → Frame U) (faults_of : A → ℕ) (v next : OpenVariable) (old mid new : A) where
  pub nodes_write : (leaves : List NodeEntry) (r : Result ℕ WriteStop) → next ≡ closed v (length (image_of old)) → image_of mid ≡ image_of old ++ laid (group_bodies v) → leaves ≡ next.leaves
      → Writes {T = Unit {0}} image_of frame_of faults_of (length (image_of old)) old mid (group_bodies v) (Ok tt)
      → Writes image_of frame_of faults_of (length (image_of mid)) mid new (index_bodies level_limit (length (image_of mid)) leaves) r
      → Writes image_of frame_of faults_of (length (image_of old)) old new (finished_bodies v (length (image_of old))) r
  nodes_write leaves r closed_is blocks_are same a b =
      let size = length (image_of old) in
      let nodes : index_bodies level_limit (length (image_of mid)) leaves ≡ finished_nodes v size =
      ap (λ (l : List NodeEntry). index_bodies level_limit (length (image_of mid)) l) same ∙ nodes_are v next (image_of old) (image_of mid) closed_is blocks_are in
      writes_both image_of frame_of faults_of size old mid new (group_bodies v) (finished_nodes v size) tt r a
      (subst (λ (l : List (List ℕ)). Writes image_of frame_of faults_of (length (image_of mid)) mid new l r) nodes b)
