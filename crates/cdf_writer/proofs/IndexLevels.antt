-- The nodes of an index, one level more.
use Rattle.std.proofs.Common.{Bool, List, [], ap, ap₂, append-nil, append_assoc, arith, false, length, refl, subst, suc, sym, true, zero, ℕ, ◌++◌, ◌+◌, ◌-◌, ◌<◌, ◌∙◌, ◌∷◌, ◌≡◌, ◌≤◌}
use Rattle.std.proofs.lemmas.Bool.{lt-ltb}
use Rattle.std.proofs.lemmas.List.{length-append}
use Rattle.std.specs.Prelude.{if◌then◌else◌, nat_lt}
use Rattle.cdf_writer.specs.Bodies.{vxr_body, whole_record}
use Rattle.cdf_writer.specs.Laying.{index_bodies, index_root, laid, laid_size, link_if, naming, node_bodies, nodes_over, uppers}
use Rattle.cdf_writer.specs.declared.bodies.NodeEntry.{NodeEntry}
use Rattle.cdf_writer.proofs.Stands.{laid-append}

naming_long : (place : ℕ) (nodes : List (List NodeEntry)) → length (naming place nodes) ≡ length nodes
naming_long place [] = refl
naming_long place (node ∷ more) = ap suc (naming_long (place + length (whole_record (vxr_body node))) more)

not_more : (k : ℕ) → k ≤ 1 → nat_lt 1 k ≡ false
not_more k le = grind (arith, le)

less : (n : ℕ) → n ≡ suc n - 1
less n = omega arith

module _ (place : ℕ) (entries : List NodeEntry) where
  abbrev behind : ℕ
  behind = place + laid_size (node_bodies entries)

  pub none : (most : ℕ) → most ≡ 0 → index_bodies most place entries ≡ []
  none zero e = refl
  none (suc n) e = absurd (cc e)

  pub root_none : (most : ℕ) → most ≡ 0 → index_root most place entries ≡ 0
  root_none zero e = refl
  root_none (suc n) e = absurd (cc e)

  pub deeper : (most : ℕ) → (most ≡ 0 → ⊥) → 1 < length (uppers place entries) → index_bodies most place entries ≡ node_bodies entries ++ index_bodies (most - 1) behind (uppers place entries)
  deeper zero ne lt = absurd (ne refl)
  deeper (suc n) ne lt =
      ap (λ (b : Bool). if b then node_bodies entries ++ index_bodies n behind (uppers place entries) else node_bodies entries) (lt-ltb 1 (length (nodes_over entries)) (omega (arith, lt, naming_long place (nodes_over entries))))
      ∙ ap (λ (k : ℕ). node_bodies entries ++ index_bodies k behind (uppers place entries)) (less n)

  pub top : (most : ℕ) → (most ≡ 0 → ⊥) → length (uppers place entries) ≤ 1 → index_bodies most place entries ≡ node_bodies entries
  top zero ne le = absurd (ne refl)
  top (suc n) ne le = ap (λ (b : Bool). if b then node_bodies entries ++ index_bodies n behind (uppers place entries) else node_bodies entries) (not_more (length (nodes_over entries)) (omega (arith, le, naming_long place (nodes_over entries))))

  pub root_deeper : (most : ℕ) → (most ≡ 0 → ⊥) → 1 < length (uppers place entries) → index_root most place entries ≡ index_root (most - 1) behind (uppers place entries)
  root_deeper zero ne lt = absurd (ne refl)
  root_deeper (suc n) ne lt =
      ap (λ (b : Bool). if b then index_root n behind (uppers place entries) else link_if place entries) (lt-ltb 1 (length (nodes_over entries)) (omega (arith, lt, naming_long place (nodes_over entries))))
      ∙ ap (λ (k : ℕ). index_root k behind (uppers place entries)) (less n)

  pub root_top : (most : ℕ) → (most ≡ 0 → ⊥) → length (uppers place entries) ≤ 1 → index_root most place entries ≡ link_if place entries
  root_top zero ne le = absurd (ne refl)
  root_top (suc n) ne le = ap (λ (b : Bool). if b then index_root n behind (uppers place entries) else link_if place entries) (not_more (length (nodes_over entries)) (omega (arith, le, naming_long place (nodes_over entries))))

  -- the nodes of the first level stand first
  pub record FirstLevel (most : ℕ) : Type 0 where
    pub rest : List (List ℕ)
    pub are : index_bodies most place entries ≡ node_bodies entries ++ rest

  pub first_level : (most : ℕ) → (most ≡ 0 → ⊥) → FirstLevel most
  first_level zero ne = absurd (ne refl)
  first_level (suc n) ne = let r = of (nat_lt 1 (length (nodes_over entries))) in record { rest = r.0; are = r.1 }
    where
      of : (b : Bool) → (rest : List (List ℕ)) × ((if b then node_bodies entries ++ index_bodies n behind (uppers place entries) else node_bodies entries) ≡ node_bodies entries ++ rest)
      of true = (index_bodies n behind (uppers place entries), refl)
      of false = ([], sym (append-nil (node_bodies entries)))

-- the nodes of one level are appended, which these entries name
module _ (b mid : List ℕ) (entries above : List NodeEntry) (most : ℕ) (some : most ≡ 0 → ⊥) (mid_is : mid ≡ b ++ laid (node_bodies entries)) (above_is : above ≡ uppers (length b) entries) where
  mid_at : length mid ≡ length b + laid_size (node_bodies entries)
  mid_at = ap length mid_is ∙ length-append b (laid (node_bodies entries))

  pub above_bodies : 1 < length above → index_bodies most (length b) entries ≡ node_bodies entries ++ index_bodies (most - 1) (length mid) above
  above_bodies lt =
      deeper (length b) entries most some (subst (λ (l : List NodeEntry). 1 < length l) above_is lt)
      ∙ ap₂ (λ (p : ℕ) (l : List NodeEntry). node_bodies entries ++ index_bodies (most - 1) p l) (sym mid_at) (sym above_is)

  pub above_root : 1 < length above → index_root most (length b) entries ≡ index_root (most - 1) (length mid) above
  above_root lt =
      root_deeper (length b) entries most some (subst (λ (l : List NodeEntry). 1 < length l) above_is lt)
      ∙ ap₂ (λ (p : ℕ) (l : List NodeEntry). index_root (most - 1) p l) (sym mid_at) (sym above_is)

  pub above_image : (now : List ℕ) → 1 < length above → now ≡ mid ++ laid (index_bodies (most - 1) (length mid) above) → now ≡ b ++ laid (index_bodies most (length b) entries)
  above_image now lt e =
      let nodes = node_bodies entries in
      let others = index_bodies (most - 1) (length mid) above in
      e
      ∙ ap (λ (l : List ℕ). l ++ laid others) mid_is
      ∙ append_assoc b (laid nodes) (laid others)
      ∙ ap (λ (l : List ℕ). b ++ l) (sym (laid-append nodes others) ∙ ap laid (sym (above_bodies lt)))

  pub alone_bodies : length above ≤ 1 → index_bodies most (length b) entries ≡ node_bodies entries
  alone_bodies le = top (length b) entries most some (subst (λ (l : List NodeEntry). length l ≤ 1) above_is le)

  pub alone_root : length above ≤ 1 → index_root most (length b) entries ≡ link_if (length b) entries
  alone_root le = root_top (length b) entries most some (subst (λ (l : List NodeEntry). length l ≤ 1) above_is le)
