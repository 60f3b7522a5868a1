-- A command that is not on variables leaves the index of each.
use Rattle.cdf_edits.proofs.Common.{Act, AllKeep, Allowances, AreTiles, Each, Each-split, Field, HasShape, HasVariable, In, In-append, In-append_left, In-append_right, IsIndex, IsSound, Keeps, Kind, List, NodeFits, OneVariable, Only, Owner, R, Shape, Unused, VariableFits, VariableShape, Z, [], allowance, ap, arith, ap₂, byte, cpr_of, fixed_size, has_bit, if◌then◌else◌, inl, inr, leaves_of, length, linkable-in, linkable-type, nodes_of, nodes_stand, number, number_kept, owned, owned_by, owned_by_attributes, owned_by_variables, refl, shape, shapes_of, size_at, size_kept, subst, suc, sym, tile_lies, type_at, type_kept, unused_records, variable_records, variables, vdr_type, vdrs, vxr_type, ℕ, ◌++◌, ◌+◌, ◌-◌, ◌∙◌, ◌∷◌, ◌≡◌, ◌≤◌}
use Rattle.cdf_edits.proofs.Commands.ChainsStay.{AllKeep-split}
use Rattle.cdf_edits.proofs.Frame.LinksStay.{SameHeads, index_kept}
use Rattle.cdf_edits.proofs.Frame.Meaning.{Kept}
use Rattle.cdf_edits.proofs.Frame.OwnerAlone.{Each-in, blocks_stand}
use Rattle.cdf_edits.proofs.Frame.OwnIndex.{blocks_of, index_own}
use Rattle.cdf_format.proofs.IndexLemmas.{index_unique}
use Rattle.cdf_format.specs.Records.{vdr_cpr_or_spr_offset, vdr_flags, vdr_vxr_head}

-- a record that has to stay whole has its bytes
kept_whole : (b now ts : List ℕ) (m : ℕ) → AreTiles b 8 (length b) ts → In m ts → Keeps b now m (Only []) → Kept b now m
kept_whole b now ts m tiled i keeps =
    let l = tile_lies b 8 (length b) ts m tiled i in
    record {
      same = record { each = λ p low high. let at : m + (p - m) ≡ p = omega arith in subst (λ (x : ℕ). byte now x ≡ byte b x) at (keeps.same (p - m) (omega arith) tt) };
      inside = l.high;
      long = l.long;
    }

-- ---- one variable

-- each of its records stays whole
pub record StaysWhole (b now : List ℕ) (v : VariableShape) : Type 0 where
  pub each : (m : ℕ) → In m (variable_records v) → Keeps b now m (Only [])

module _ {b now : List ℕ} {s : Shape} (h : HasShape b s) (h' : HasShape now (shape now)) (kind : Kind) where
  module _ {v : VariableShape} (has : HasVariable b s.records v) (fits : VariableFits b s.records v) (stands : In v.vdr s.records) (typed : type_at b v.vdr ≡ vdr_type kind) (stay : StaysWhole b now v) where
    abbrev own : List ℕ
    own = variable_records v

    abbrev nodes : List ℕ
    nodes = nodes_of v.index

    abbrev blocks : List ℕ
    blocks = blocks_of (leaves_of v.index)

    node_own : (m : ℕ) → In m nodes → In m own
    node_own m i = inr (In-append_left m (nodes ++ blocks) v.cpr (In-append_left m nodes blocks i))

    block_own : (m : ℕ) → In m blocks → In m own
    block_own m i = inr (In-append_left m (nodes ++ blocks) v.cpr (In-append_right m nodes blocks i))

    node_stands : (m : ℕ) → In m nodes → In m s.records
    node_stands m i = linkable-in b s.records vxr_type m (nodes_stand b s.records 8 v.index has.indexed.has_nodes m i)

    block_stands : (m : ℕ) → In m blocks → In m s.records
    block_stands = blocks_stand b s.records v.vdr (leaves_of v.index) fits.2

    -- its VDR, its nodes and its blocks
    abbrev linked : List ℕ
    linked = v.vdr ∷ nodes ++ blocks

    linked_own : (m : ℕ) → In m linked → In m own
    linked_own m (inl e) = inl e
    linked_own m (inr i) = inr (In-append_left m (nodes ++ blocks) v.cpr i)

    linked_stands : (m : ℕ) → In m linked → In m s.records
    linked_stands m (inl e) = subst (λ (x : ℕ). In x s.records) (sym e) stands
    linked_stands m (inr i) = elim (In-append m nodes blocks i) [ inl n ↦ node_stands m n | inr l ↦ block_stands m l ]

    kept : (m : ℕ) → In m linked → Kept b now m
    kept m i = kept_whole b now s.records m h.tiled (linked_stands m i) (stay.each m (linked_own m i))

    heads : SameHeads b now linked (shape now).records
    heads = record {
      sizes = λ m i. let k = kept m i in size_kept b now m k.same (let l = k.long in omega arith);
      types = λ m i. let k = kept m i in type_kept b now m k.same k.long;
      sub = λ m i. (stay.each m (linked_own m i)).stands;
    }

    vdr_long : 340 ≤ size_at b v.vdr
    vdr_long = let l = h.fixed v.vdr stands in long_vdr kind (subst (λ (t : ℕ). fixed_size t ≤ size_at b v.vdr) typed l)
      where
        long_vdr : (k : Kind) → fixed_size (vdr_type k) ≤ size_at b v.vdr → 340 ≤ size_at b v.vdr
        long_vdr R l = l
        long_vdr Z l = omega arith

    field_kept : (f : Field) → f.place + f.width ≤ 340 → number now v.vdr f ≡ number b v.vdr f
    field_kept f fits = number_kept b now v.vdr (kept v.vdr (inl refl)).same f (let l = vdr_long in omega arith)

    index_now : IsIndex now (shape now).records (number now v.vdr vdr_vxr_head) v.index
    index_now =
        index_kept b now linked (shape now).records heads (number b v.vdr vdr_vxr_head) (number now v.vdr vdr_vxr_head) v.index
        (index_own b s.records linked (number b v.vdr vdr_vxr_head) v.index has.indexed (λ m i. inr (In-append_left m nodes blocks i)) block_stands (λ m i. inr (In-append_right m nodes blocks i)))
        (field_kept vdr_vxr_head (omega arith)) (λ m i. kept m (inr (In-append_left m nodes blocks i))) (Each-in (NodeFits b) nodes fits.1) (λ m i. inr (In-append_right m nodes blocks i))

    cpr_kept : cpr_of now v.vdr ≡ cpr_of b v.vdr
    cpr_kept =
        let flags = field_kept vdr_flags (omega arith) in
        let link = field_kept vdr_cpr_or_spr_offset (omega arith) in
        λ i. if has_bit (flags i) 2 then link i ∷ [] else []

    pub variable_same : (v' : VariableShape) → v'.vdr ≡ v.vdr → HasVariable now (shape now).records v' → v' ≡ v
    variable_same v' e has' =
        let there : IsIndex now (shape now).records (number now v.vdr vdr_vxr_head) v'.index = subst (λ (x : ℕ). IsIndex now (shape now).records (number now x vdr_vxr_head) v'.index) e has'.indexed in
        let index = index_unique now (shape now).records (length now) v.vdr vdr_vxr_head v'.index v.index h'.tiled there index_now in
        let cpr : v'.cpr ≡ v.cpr = sym has'.packed_by ∙ ap (cpr_of now) e ∙ cpr_kept ∙ has.packed_by in
        λ i. record { vdr = e i; index = index i; cpr = cpr i }

  -- ---- all of a kind

  pub variables_same : (vs vs' : List VariableShape) → vdrs vs' ≡ vdrs vs → Each (HasVariable b s.records) vs → Each (VariableFits b s.records) vs → ((m : ℕ) → In m (vdrs vs) → In m s.records × (type_at b m ≡ vdr_type kind)) → Each (StaysWhole b now) vs → Each (HasVariable now (shape now).records) vs' → vs' ≡ vs
  variables_same [] [] e has fits stand stay has' = refl
  variables_same [] (v' ∷ vs') e has fits stand stay has' = absurd cc
  variables_same (v ∷ vs) [] e has fits stand stay has' = absurd cc
  variables_same (v ∷ vs) (v' ∷ vs') e has fits stand stay has' =
      let here = stand v.vdr (inl refl) in
      ap₂ (λ (x : VariableShape) (xs : List VariableShape). x ∷ xs)
      (variable_same has.0 fits.0 here.0 here.1 stay.0 v' (first e) has'.0)
      (variables_same vs vs' (rest e) has.1 fits.1 (λ m i. stand m (inr i)) stay.1 has'.1)
    where
      first : v'.vdr ∷ vdrs vs' ≡ v.vdr ∷ vdrs vs → v'.vdr ≡ v.vdr
      first same = cc same

      rest : v'.vdr ∷ vdrs vs' ≡ v.vdr ∷ vdrs vs → vdrs vs' ≡ vdrs vs
      rest same = cc same

-- ---- by what a command may change

module _ (b now : List ℕ) (may : Allowances) (acts : List Act) where
  all_whole : (owner : Owner) (places : List ℕ) → ((place : ℕ) → allowance b (shape b) may acts place owner ≡ Only []) → AllKeep b now may acts (owned_by owner places) → (m : ℕ) → In m places → Keeps b now m (Only [])
  all_whole owner [] whole keeps m i = absurd i
  all_whole owner (place ∷ places) whole keeps m (inl e) = subst (λ (x : ℕ). Keeps b now x (Only [])) (sym e) (subst (Keeps b now place) (whole place) keeps.0)
  all_whole owner (place ∷ places) whole keeps m (inr i) = all_whole owner places whole keeps.1 m i

  each_whole : (kind : Kind) (n : ℕ) (vs : List VariableShape) → ((n place : ℕ) → may.variables kind n place ≡ Only []) → AllKeep b now may acts (owned_by_variables kind n vs) → Each (StaysWhole b now) vs
  each_whole kind n [] whole keeps = tt
  each_whole kind n (v ∷ vs) whole keeps =
      let parts = AllKeep-split b now may acts (owned_by (OneVariable kind n) (variable_records v)) (owned_by_variables kind (suc n) vs) keeps in
      (record { each = all_whole (OneVariable kind n) (variable_records v) (whole n) parts.0 }, each_whole kind (suc n) vs whole parts.1)

-- every record of each variable stays whole
pub record LeavesVariables (may : Allowances) : Type 0 where
  pub whole : (kind : Kind) (n place : ℕ) → may.variables kind n place ≡ Only []

module _ (b now : List ℕ) (may : Allowances) (acts : List Act) (sound : IsSound b (shape b)) (h' : HasShape now (shape now)) (keeps : AllKeep b now may acts (owned b (shape b))) (leaves : LeavesVariables may) where
  abbrev h : HasShape b (shape b)
  h = sound.has_shape

  of_kind : (kind : Kind) → AllKeep b now may acts (owned_by_variables kind 0 (shapes_of (shape b) kind))
  of_kind kind =
      let as_ = owned_by_attributes 0 (shape b).attributes in
      let rs = owned_by_variables R 0 (shape b).r_variables in
      let zs = owned_by_variables Z 0 (shape b).z_variables in
      let all = AllKeep-split b now may acts ((as_ ++ rs) ++ zs) (owned_by Unused (unused_records b (shape b))) keeps.1.1 in
      let first = AllKeep-split b now may acts (as_ ++ rs) zs all.0 in
      by_kind kind (AllKeep-split b now may acts as_ rs first.0).1 first.1
    where
      by_kind : (k : Kind) → AllKeep b now may acts (owned_by_variables R 0 (shape b).r_variables) → AllKeep b now may acts (owned_by_variables Z 0 (shape b).z_variables) → AllKeep b now may acts (owned_by_variables k 0 (shapes_of (shape b) k))
      by_kind R r z = r
      by_kind Z r z = z

  part : (P : VariableShape → Type 0) (s : Shape) (kind : Kind) → Each P (variables s) → Each P (shapes_of s kind)
  part P s R all = (Each-split P s.r_variables s.z_variables all).0
  part P s Z all = (Each-split P s.r_variables s.z_variables all).1

  stand : (kind : Kind) (m : ℕ) → In m (vdrs (shapes_of (shape b) kind)) → In m (shape b).records × (type_at b m ≡ vdr_type kind)
  stand R m i = let ok = h.r_chain.linkable m i in (linkable-in b (shape b).records _ m ok, linkable-type b (shape b).records _ m ok)
  stand Z m i = let ok = h.z_chain.linkable m i in (linkable-in b (shape b).records _ m ok, linkable-type b (shape b).records _ m ok)

  pub shapes_same : ((kind : Kind) → vdrs (shapes_of (shape now) kind) ≡ vdrs (shapes_of (shape b) kind)) → (kind : Kind) → shapes_of (shape now) kind ≡ shapes_of (shape b) kind
  shapes_same places kind =
      variables_same h h' kind (shapes_of (shape b) kind) (shapes_of (shape now) kind) (places kind) (part (HasVariable b (shape b).records) (shape b) kind h.have_variables) (part (VariableFits b (shape b).records) (shape b) kind sound.variables_fit) (stand kind)
      (each_whole b now may acts kind 0 (shapes_of (shape b) kind) (leaves.whole kind) (of_kind kind)) (part (HasVariable now (shape now).records) (shape now) kind h'.have_variables)
