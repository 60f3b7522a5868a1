-- The nodes of a level, one more at a time.
use Rattle.std.proofs.Common.{List, [], ap, ap₂, append_assoc, arith, drop, length, refl, sym, take, ℕ, ◌++◌, ◌+◌, ◌∙◌, ◌∷◌, ◌≡◌, ◌≤◌}
use Rattle.cdf_writer.specs.Bodies.{vxr_body, whole_record}
use Rattle.cdf_writer.specs.Laying.{first_in, laid, last_in, naming, node_bodies, nodes_over}
use Rattle.cdf_writer.specs.Stops.{CutAt}
use Rattle.cdf_writer.specs.declared.appending.WriteStop.{WriteStop}
use Rattle.cdf_writer.specs.declared.bodies.NodeEntry.{NodeEntry}
use Rattle.cdf_writer.proofs.NodeGroups.{bodies_first, naming_first}
use Rattle.cdf_writer.proofs.Stands.{size-cons}
use Rattle.cdf_writer.proofs.Writing.{cut_first, cut_last, cut_same}

module _ (here node left : List NodeEntry) (some : 1 ≤ length here) (node_is : node ≡ take 64 here) (left_is : left ≡ drop 64 here) where
  parts : node_bodies here ≡ vxr_body node ∷ node_bodies left
  parts = bodies_first here some ∙ ap₂ (λ (n l : List NodeEntry). vxr_body n ∷ node_bodies l) (sym node_is) (sym left_is)

  pub level_image : (b now whole : List ℕ) → now ≡ b ++ whole_record (vxr_body node) → b ++ laid (node_bodies here) ≡ whole → now ++ laid (node_bodies left) ≡ whole
  level_image b now whole e h =
      ap (λ (l : List ℕ). l ++ laid (node_bodies left)) e ∙ append_assoc b (whole_record (vxr_body node)) (laid (node_bodies left)) ∙ ap (λ (l : List (List ℕ)). b ++ laid l) (sym parts) ∙ h

  pub level_named : (named now whole : List NodeEntry) (entry : NodeEntry) (place next : ℕ) → now ≡ named ++ entry ∷ [] → entry ≡ record { first = first_in node; last = last_in node; place = place } → next ≡ place + length (whole_record (vxr_body node))
      → named ++ naming place (nodes_over here) ≡ whole → now ++ naming next (nodes_over left) ≡ whole
  level_named named now whole entry place next e is at h =
      let one : naming place (nodes_over here) ≡ record { first = first_in node; last = last_in node; place = place } ∷ naming (place + length (whole_record (vxr_body node))) (nodes_over left) =
      naming_first place here some
      ∙ ap₂ (λ (n l : List NodeEntry). record { first = first_in n; last = last_in n; place = place } ∷ naming (place + length (whole_record (vxr_body n))) (nodes_over l)) (sym node_is) (sym left_is) in
      ap₂ (λ (l : List NodeEntry) (p : ℕ). l ++ naming p (nodes_over left)) e at
      ∙ append_assoc named (entry ∷ []) (naming (place + length (whole_record (vxr_body node))) (nodes_over left))
      ∙ ap (λ (x : NodeEntry). named ++ x ∷ naming (place + length (whole_record (vxr_body node))) (nodes_over left)) is
      ∙ ap (λ (l : List NodeEntry). named ++ l) (sym one)
      ∙ h

  pub level_cut : (limit size : ℕ) (stop : WriteStop) → CutAt limit size (vxr_body node ∷ []) stop → CutAt limit size (node_bodies here) stop
  level_cut limit size stop c = cut_same refl refl (sym parts) stop (cut_first limit size (vxr_body node ∷ []) (node_bodies left) stop c)

  pub level_rest : (limit size next : ℕ) (stop : WriteStop) → next ≡ size + length (whole_record (vxr_body node)) → CutAt limit next (node_bodies left) stop → CutAt limit size (node_bodies here) stop
  level_rest limit size next stop e c =
      let long : next ≡ size + length (laid (vxr_body node ∷ [])) = omega (arith, e, size-cons (vxr_body node) []) in
      cut_same refl refl (sym parts) stop (cut_last limit size (vxr_body node ∷ []) (node_bodies left) stop (cut_same refl long refl stop c))
