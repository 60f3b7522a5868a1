-- Variables whose records an edit leaves stay, and keep their rules, whatever records an image has beside.
use Rattle.cdf_edits.proofs.Common.{Away, Each, Each-split, Edit, HasShape, HasVariable, Hold, Hold-append, Hold-split, In, In-append, In-append_left, In-append_right, IsSound, Leaf, LeafFits, List, Mark, NodeFits, Row, Shape, Variable, VariableFits, VariableShape, VariableStays, [], all_unmarked, ap, arith, avoided, both, cpr_link, cpr_type, cvvr_type, either, ended, fixed_size, flat_map, index_rows, index_types, indexes_shape_rows, inl, inr, is_a, is_a-in, is_a-type, is_block, is_compressed, is_in, is_linkable, is_named_apart, keeps_index_records, leaves_of, linkable-in, linkable-type, name_in, nodes_of, nodes_stand, number, r_vdr_type, refl, size_at, subst, sym, true, type_at, variable_records, variable_rows, variable_types, variables, variables_shape_rows, vdr_name, vdr_num, vdrs, vdrs_append, vvr_type, vxr_type, z_vdr_type, ℕ, ◌&&◌, ◌++◌, ◌==◌, ◌∙◌, ◌∷◌, ◌≡◌, ◌≤◌, ◌⊎◌}
use Rattle.cdf_edits.proofs.Frame.OwnerAlone.{Each-in}
use Rattle.cdf_edits.proofs.Rules.OfIndexes.{index_rules_kept}
use Rattle.cdf_edits.proofs.Frame.Meaning.{FileSame, Kept, KeptButLink, but_link}
use Rattle.cdf_edits.proofs.Frame.VdrCopied.{cpr_link_copied}
use Rattle.cdf_edits.proofs.Frame.VdrKept.{vdr_kept, field_same, compressed_same, end_kept}
use Rattle.cdf_edits.proofs.Frame.OwnersApart.{flat-append, all_variable_records, vdrs_stand}
use Rattle.cdf_edits.proofs.Frame.LinksStay.{SameHeads}
use Rattle.cdf_edits.proofs.Space.UsedRecords.{apart}
use Rattle.cdf_edits.proofs.Frame.SoundStays.{nodes_fit_kept, leaves_fit_kept, cprs_kept}
use Rattle.cdf_edits.proofs.Frame.FileSound.{variables_stand}
use Rattle.cdf_edits.proofs.Rules.OfVariables.{variable_rows_same}
use Rattle.cdf_edits.proofs.Edits.RecordFrame.{VariableLives, cpr_own, index_records, kept_away, kept_but_link, own_heads, node_own, block_own, variable_stays}
use Rattle.cdf_edits.proofs.Edits.InRecords.{places_of, variable_rows_both, index_rows_both, leaves_fit_both, cprs_both}
use Rattle.cdf_edits.proofs.Edits.MarkLemmas.{or_cases, avoided-avoids, ended-avoids, all_unmarked-away}

-- ---- the types of the records of variables

is_typed : (b types : List ℕ) (m type : ℕ) → type_at b m ≡ type → is_in type types ≡ true → is_in (type_at b m) types ≡ true
is_typed b types m type e i = ap (λ (t : ℕ). is_in t types) e ∙ i

blocks_typed : (b records : List ℕ) (vdr : ℕ) (leaves : List Leaf) → Each (LeafFits b records vdr) leaves → (m : ℕ) → In m (places_of leaves) → is_block b records m ≡ true
blocks_typed b records vdr [] f m i = absurd i
blocks_typed b records vdr (leaf ∷ more) f m (inl e) = subst (λ (x : ℕ). is_block b records x ≡ true) (sym e) f.0.0
blocks_typed b records vdr (leaf ∷ more) f m (inr i) = blocks_typed b records vdr more f.1 m i

vdr_of_type : (b : List ℕ) (s : Shape) → IsSound b s → (m : ℕ) → In m (vdrs (variables s)) → (type_at b m ≡ r_vdr_type) ⊎ (type_at b m ≡ z_vdr_type)
vdr_of_type b s sound m i = elim (In-append m (vdrs s.r_variables) (vdrs s.z_variables) (subst (λ (x : List ℕ). In m x) (vdrs_append s.r_variables s.z_variables) i)) [
  | inl j ↦ inl (linkable-type b s.records r_vdr_type m (sound.has_shape.r_chain.linkable m j))
  | inr j ↦ inr (linkable-type b s.records z_vdr_type m (sound.has_shape.z_chain.linkable m j))
]

-- nodes, blocks and parameters
pub index_typed : (b : List ℕ) (s : Shape) (v : VariableShape) → HasVariable b s.records v → VariableFits b s.records v → (m : ℕ) → In m (index_records v) → is_in (type_at b m) index_types ≡ true
index_typed b s v has fits m k = elim (In-append m (nodes_of v.index ++ places_of (leaves_of v.index)) v.cpr k) [
  | inr l ↦ is_typed b index_types m cpr_type (is_a-type b s.records cpr_type m (Each-in (λ x. is_a b s.records cpr_type x ≡ true) v.cpr fits.3 m l)) refl
  | inl l ↦ elim (In-append m (nodes_of v.index) (places_of (leaves_of v.index)) l) [
    | inl n ↦ is_typed b index_types m vxr_type (linkable-type b s.records vxr_type m (nodes_stand b s.records 8 v.index has.indexed.has_nodes m n)) refl
    | inr n ↦ elim (or_cases (is_a b s.records vvr_type m) (is_a b s.records cvvr_type m) (blocks_typed b s.records v.vdr (leaves_of v.index) fits.2 m n)) [
      | inl p ↦ is_typed b index_types m vvr_type (is_a-type b s.records vvr_type m p) refl
      | inr p ↦ is_typed b index_types m cvvr_type (is_a-type b s.records cvvr_type m p) refl
    ]
  ]
]

is_vdr : (b : List ℕ) (m : ℕ) → (type_at b m ≡ r_vdr_type) ⊎ (type_at b m ≡ z_vdr_type) → is_in (type_at b m) variable_types ≡ true
is_vdr b m (inl r) = is_typed b variable_types m r_vdr_type r refl
is_vdr b m (inr z) = is_typed b variable_types m z_vdr_type z refl

index_type_more : (type : ℕ) → is_in type index_types ≡ true → is_in type variable_types ≡ true
index_type_more type i = elim (either (type == r_vdr_type)) [
  | inl x ↦ rw x refl
  | inr x ↦ elim (either (type == z_vdr_type)) [ inl y ↦ rw (x, y) refl | inr y ↦ rw (x, y) i ]
]

pub variable_typed : (b : List ℕ) (s : Shape) → IsSound b s → (m : ℕ) → In m (all_variable_records s) → is_in (type_at b m) variable_types ≡ true
variable_typed b s sound = each (variables s) (vdr_of_type b s sound) sound.has_shape.have_variables sound.variables_fit
  where
    each : (vs : List VariableShape) → ((m : ℕ) → In m (vdrs vs) → (type_at b m ≡ r_vdr_type) ⊎ (type_at b m ≡ z_vdr_type)) → Each (HasVariable b s.records) vs → Each (VariableFits b s.records) vs → (m : ℕ) → In m (flat_map variable_records vs) → is_in (type_at b m) variable_types ≡ true
    each [] vdr has fits m i = absurd i
    each (v ∷ more) vdr has fits m i = elim (In-append m (variable_records v) (flat_map variable_records more) i) [
      | inr j ↦ each more (λ x k. vdr x (inr k)) has.1 fits.1 m j
      | inl j ↦ elim j [ inl e ↦ is_vdr b m (vdr m (inl e)) | inr k ↦ index_type_more (type_at b m) (index_typed b s v has.0 fits.0 m k) ]
    ]

pub variables_in : (b : List ℕ) (s : Shape) → IsSound b s → (m : ℕ) → In m (all_variable_records s) → In m s.records
variables_in b s sound = variables_stand b s.records (variables s) (vdrs_stand b s sound) sound.has_shape.have_variables sound.variables_fit

-- ---- each of some

pub Each-map : {A : Type 0} (P Q : A → Type 0) → ((x : A) → P x → Q x) → (xs : List A) → Each P xs → Each Q xs
Each-map P Q f [] h = tt
Each-map P Q f (x ∷ xs) h = (f x h.0, Each-map P Q f xs h.1)

pub Each-apply : {A : Type 0} (P Q : A → Type 0) (xs : List A) → Each (λ x. P x → Q x) xs → Each P xs → Each Q xs
Each-apply P Q [] f h = tt
Each-apply P Q (x ∷ xs) f h = (f.0 h.0, Each-apply P Q xs f.1 h.1)

pub each_holds : {A : Type 0} (rows : A → List Row) (xs : List A) → Hold (flat_map rows xs) → Each (λ x. Hold (rows x)) xs
each_holds rows [] h = tt
each_holds rows (x ∷ xs) h = let p = Hold-split (rows x) (flat_map rows xs) h in (p.0, each_holds rows xs p.1)

pub hold_all : {A : Type 0} (rows : A → List Row) (xs : List A) → Each (λ x. Hold (rows x)) xs → Hold (flat_map rows xs)
hold_all rows [] h = tt
hold_all rows (x ∷ xs) h = Hold-append (rows x) (flat_map rows xs) h.0 (hold_all rows xs h.1)

same_rows : (rows rows' : ℕ → List Row) (vs : List VariableShape) → Each (λ v. rows v.vdr ≡ rows' v.vdr) vs → flat_map rows (vdrs vs) ≡ flat_map rows' (vdrs vs)
same_rows rows rows' [] h = refl
same_rows rows rows' (v ∷ vs) h =
    let here = h.0 in
    let rest = same_rows rows rows' vs h.1 in
    λ i. here i ++ rest i

-- ---- a variable that remains

-- the rules of a variable by itself, and of its index
abbrev pub IsRuled : List ℕ → List ℕ → VariableShape → Type 0
IsRuled b records v = Hold (variable_rows b records [] v.vdr) × Hold (index_rows b records v.vdr v.index)

-- the names of all variables are told apart by another rule
pub all_ruled : (b records ids : List ℕ) (vs : List VariableShape) → Hold (flat_map (variable_rows b records ids) (vdrs vs)) → Hold (flat_map (λ (v : VariableShape). index_rows b records v.vdr v.index) vs) → Each (IsRuled b records) vs
all_ruled b records ids [] rules indexes = tt
all_ruled b records ids (v ∷ vs) rules indexes =
    let p = Hold-split (variable_rows b records ids v.vdr) (flat_map (variable_rows b records ids) (vdrs vs)) rules in
    let q = Hold-split (index_rows b records v.vdr v.index) (flat_map (λ (v : VariableShape). index_rows b records v.vdr v.index) vs) indexes in
    (((p.0.0, (refl, p.0.1.1)), q.0), all_ruled b records ids vs p.1 q.1)

pub ruled_rows : (b records ids : List ℕ) (vs : List VariableShape) → Each (IsRuled b records) vs → ((m : ℕ) → In m (vdrs vs) → is_named_apart b ids m ≡ true) → Hold (flat_map (variable_rows b records ids) (vdrs vs))
ruled_rows b records ids [] ruled apart = tt
ruled_rows b records ids (v ∷ vs) ruled apart = Hold-append (variable_rows b records ids v.vdr) (flat_map (variable_rows b records ids) (vdrs vs)) (ruled.0.0.0, (apart v.vdr (inl refl), ruled.0.0.1.1)) (ruled_rows b records ids vs ruled.1 (λ m i. apart m (inr i)))

-- it is linked as it was, means what it meant and keeps its rules; the link to the next one may be another, and so may its number
pub record VariableRemains (b now records new : List ℕ) (v : VariableShape) : Type 0 where
  pub stays : VariableStays b now new v
  pub fits : VariableFits now new v
  pub ruled : IsRuled b records v → IsRuled now new v

pub remaining_names : (b now records new : List ℕ) (vs : List VariableShape) → Each (VariableRemains b now records new) vs → (m : ℕ) → In m (vdrs vs) → name_in now m vdr_name ≡ name_in b m vdr_name
remaining_names b now records new [] r m i = absurd i
remaining_names b now records new (v ∷ vs) r m (inl q) = subst (λ (x : ℕ). name_in now x vdr_name ≡ name_in b x vdr_name) (sym q) (ap (λ (x : Variable). x.name) r.0.stays.1)
remaining_names b now records new (v ∷ vs) r m (inr i) = remaining_names b now records new vs r.1 m i

-- ---- variables of the image

pub record AreOurs (b : List ℕ) (s : Shape) (vs : List VariableShape) : Type 0 where
  pub has : Each (HasVariable b s.records) vs
  pub fits : Each (VariableFits b s.records) vs
  pub sub : (m : ℕ) → In m (flat_map variable_records vs) → In m (all_variable_records s)
  pub kinds : (m : ℕ) → In m (vdrs vs) → (type_at b m ≡ r_vdr_type) ⊎ (type_at b m ≡ z_vdr_type)

module _ (b : List ℕ) (s : Shape) where
  pub all_ours : IsSound b s → AreOurs b s (variables s)
  all_ours sound = record { has = sound.has_shape.have_variables; fits = sound.variables_fit; sub = λ m i. i; kinds = vdr_of_type b s sound }

  first_sub : (v : VariableShape) (more : List VariableShape) → AreOurs b s (v ∷ more) → (m : ℕ) → In m (variable_records v) → In m (all_variable_records s)
  first_sub v more ours m i = ours.sub m (In-append_left m (variable_records v) (flat_map variable_records more) i)

  pub rest_ours : (v : VariableShape) (more : List VariableShape) → AreOurs b s (v ∷ more) → AreOurs b s more
  rest_ours v more ours = record { has = ours.has.1; fits = ours.fits.1; sub = λ m i. ours.sub m (In-append_right m (variable_records v) (flat_map variable_records more) i); kinds = λ m i. ours.kinds m (inr i) }

  -- those in front of others, and those
  pub ours_parts : (xs ys : List VariableShape) → AreOurs b s (xs ++ ys) → AreOurs b s xs × AreOurs b s ys
  ours_parts xs ys ours =
      let has = Each-split (HasVariable b s.records) xs ys ours.has in
      let fits = Each-split (VariableFits b s.records) xs ys ours.fits in
      let records = flat-append variable_records xs ys in
      let places = vdrs_append xs ys in (
        record {
          has = has.0;
          fits = fits.0;
          sub = λ m i. ours.sub m (subst (In m) (sym records) (In-append_left m (flat_map variable_records xs) (flat_map variable_records ys) i));
          kinds = λ m i. ours.kinds m (subst (In m) (sym places) (In-append_left m (vdrs xs) (vdrs ys) i));
        },
        record {
          has = has.1;
          fits = fits.1;
          sub = λ m i. ours.sub m (subst (In m) (sym records) (In-append_right m (flat_map variable_records xs) (flat_map variable_records ys) i));
          kinds = λ m i. ours.kinds m (subst (In m) (sym places) (In-append_right m (vdrs xs) (vdrs ys) i));
        },
      )

-- ---- variables with all their records

module _ {b now : List ℕ} {s : Shape} {new : List ℕ} {marks : List Mark} {reborn : List ℕ} (sound : IsSound b s) (e : Edit b now s.records new marks reborn) where
  h : HasShape b s
  h = sound.has_shape

  -- no mark is of a type of theirs
  pub all_variables_kept : all_unmarked marks variable_types ≡ true → (m : ℕ) → In m (all_variable_records s) → Kept b now m
  all_variables_kept clear m i = kept_away e m (type_at b m) (variables_in b s sound m i) refl (all_unmarked-away marks variable_types (type_at b m) m clear (variable_typed b s sound m i))

  live_from : (vs : List VariableShape) → ((m : ℕ) → In m (flat_map variable_records vs) → Kept b now m) → Each (VariableLives b now) vs
  live_from [] k = tt
  live_from (v ∷ more) k = (
    record { vdr = but_link b now v.vdr (k v.vdr (In-append_left v.vdr (variable_records v) (flat_map variable_records more) (inl refl))); behind = λ m i. k m (In-append_left m (variable_records v) (flat_map variable_records more) (inr i)) },
    live_from more (λ m i. k m (In-append_right m (variable_records v) (flat_map variable_records more) i)),
  )

  pub kept_live : ((m : ℕ) → In m (all_variable_records s) → Kept b now m) → Each (VariableLives b now) (variables s)
  kept_live k = live_from (variables s) k

  -- no mark but in the links from one to the next
  pub clear_live : keeps_index_records marks ≡ true → Each (VariableLives b now) (variables s)
  clear_live clear = each (variables s) (λ m i. i) vdr h.have_variables sound.variables_fit
    where
      parts : (all_unmarked marks index_types ≡ true) × (((avoided marks r_vdr_type 0 12 && ended marks r_vdr_type 20) && (avoided marks z_vdr_type 0 12 && ended marks z_vdr_type 20)) ≡ true)
      parts = both (all_unmarked marks index_types) ((avoided marks r_vdr_type 0 12 && ended marks r_vdr_type 20) && (avoided marks z_vdr_type 0 12 && ended marks z_vdr_type 20)) clear

      of_type : (type m : ℕ) → (avoided marks type 0 12 && ended marks type 20) ≡ true → is_linkable b s.records type m ≡ true → KeptButLink b now m
      of_type type m c ok =
          let p = both (avoided marks type 0 12) (ended marks type 20) c in
          kept_but_link e m type (linkable-in b s.records type m ok) (linkable-type b s.records type m ok) (avoided-avoids marks type m 0 12 p.0) (ended-avoids marks type m 20 (size_at b m) p.1)

      vdr : (m : ℕ) → In m (vdrs (variables s)) → KeptButLink b now m
      vdr m i =
          let q = both (avoided marks r_vdr_type 0 12 && ended marks r_vdr_type 20) (avoided marks z_vdr_type 0 12 && ended marks z_vdr_type 20) parts.1 in
          elim (In-append m (vdrs s.r_variables) (vdrs s.z_variables) (subst (λ (x : List ℕ). In m x) (vdrs_append s.r_variables s.z_variables) i)) [
            | inl j ↦ of_type r_vdr_type m q.0 (h.r_chain.linkable m j)
            | inr j ↦ of_type z_vdr_type m q.1 (h.z_chain.linkable m j)
          ]

      each : (vs : List VariableShape) → ((m : ℕ) → In m (flat_map variable_records vs) → In m (all_variable_records s)) → ((m : ℕ) → In m (vdrs vs) → KeptButLink b now m) → Each (HasVariable b s.records) vs → Each (VariableFits b s.records) vs → Each (VariableLives b now) vs
      each [] sub k has fits = tt
      each (v ∷ more) sub k has fits = (
        record {
          vdr = k v.vdr (inl refl);
          behind = λ m i. kept_away e m (type_at b m) (variables_in b s sound m (sub m (In-append_left m (variable_records v) (flat_map variable_records more) (inr i)))) refl (all_unmarked-away marks index_types (type_at b m) m parts.0 (index_typed b s v has.0 fits.0 m i));
        },
        each more (λ m i. sub m (In-append_right m (variable_records v) (flat_map variable_records more) i)) (λ m i. k m (inr i)) has.1 fits.1,
      )

  -- no mark is in their records
  pub variables_away : (vs : List VariableShape) → AreOurs b s vs → ((m : ℕ) → In m (flat_map variable_records vs) → Away marks (type_at b m) m) → Each (VariableLives b now) vs
  variables_away vs ours away = live_from vs (λ m i. kept_away e m (type_at b m) (variables_in b s sound m (ours.sub m i)) refl (away m i))

  module _ (file : FileSame b now) where
    module _ (v : VariableShape) (has : HasVariable b s.records v) (fits : VariableFits b s.records v) (live : VariableLives b now v) (sub : (m : ℕ) → In m (variable_records v) → In m (all_variable_records s)) (kind : (type_at b v.vdr ≡ r_vdr_type) ⊎ (type_at b v.vdr ≡ z_vdr_type)) where
      stand : (m : ℕ) → In m (variable_records v) → In m s.records
      stand m i = variables_in b s sound m (sub m i)

      fixed_own : (m : ℕ) → In m (variable_records v) → fixed_size (type_at b m) ≤ size_at b m
      fixed_own m i = h.fixed m (stand m i)

      cpr_mine : is_compressed b v.vdr ≡ true → In (cpr_link b v.vdr) (variable_records v)
      cpr_mine c = inr (In-append_right (cpr_link b v.vdr) (nodes_of v.index ++ places_of (leaves_of v.index)) v.cpr (cpr_own has c))

      cpr_own_now : is_compressed now v.vdr ≡ true → In (cpr_link now v.vdr) (variable_records v)
      cpr_own_now c = subst (λ (x : ℕ). In x (variable_records v)) (sym (cpr_link_copied file (vdr_kept b now file v.vdr live.vdr fits.0))) (cpr_mine (sym (compressed_same b now file v.vdr live.vdr fits.0) ∙ c))

      -- the VDR itself is no CPR
      cpr_kept : (m : ℕ) → is_a b (variable_records v) cpr_type m ≡ true → Kept b now m
      cpr_kept m p = elim (is_a-in b (variable_records v) cpr_type m p) [
        | inl q ↦ absurd (vdr_no_cpr (sym (ap (type_at b) q) ∙ is_a-type b (variable_records v) cpr_type m p))
        | inr j ↦ live.behind m j
      ]
        where
          vdr_no_cpr : type_at b v.vdr ≡ cpr_type → ⊥
          vdr_no_cpr t = elim kind [ inl r ↦ apart r_vdr_type cpr_type refl (sym r ∙ t) | inr z ↦ apart z_vdr_type cpr_type refl (sym z ∙ t) ]

      block : (m : ℕ) → In m (places_of (leaves_of v.index)) → In m (variable_records v)
      block m i = inr (block_own sound e v file has fits stand live m i)

      heads : (records : List ℕ) → ((m : ℕ) → In m (variable_records v) → In m records) → SameHeads b now (variable_records v) records
      heads = own_heads sound e v file has fits stand live

      one_stays : VariableStays b now new v
      one_stays = variable_stays sound e v file has fits stand live

      one_rules : (ids : List ℕ) → ((m : ℕ) → In m ids → name_in now m vdr_name ≡ name_in b m vdr_name) → variable_rows now new ids v.vdr ≡ variable_rows b s.records ids v.vdr
      one_rules ids names =
          let own = variable_records v in
          variable_rows_both now own new ids v.vdr (λ c. (cpr_own_now c, e.sub _ (stand _ (cpr_own_now c))))
          ∙ variable_rows_same b now own (heads own (λ m i. i)) file fixed_own cpr_kept v.vdr live.vdr fits.0 ids names
          ∙ variable_rows_both b s.records own ids v.vdr (λ c. (stand _ (cpr_mine c), cpr_mine c))

      one_index : Hold (index_rows b s.records v.vdr v.index) → Hold (index_rows now new v.vdr v.index)
      one_index rules =
          let own = variable_records v in
          let node = node_own sound e v file has fits stand live in
          let there : Hold (index_rows b own v.vdr v.index) = subst Hold (sym (index_rows_both b s.records own v.vdr v.index (λ m i. (stand m (block m i), block m i)))) rules in
          subst Hold (sym (index_rows_both now own new v.vdr v.index (λ m i. (block m i, e.sub m (stand m (block m i))))))
          (index_rules_kept b now own (heads own (λ m i. i)) file fixed_own v.vdr live.vdr fits.0 v.index (λ m i. live.behind m (node m i)) (Each-in (NodeFits b) (nodes_of v.index) fits.1)
          (λ m i. live.behind m (block_own sound e v file has fits stand live m i)) there)

      one_fits : VariableFits now new v
      one_fits =
          let own = variable_records v in
          let same = heads new (λ m i. e.sub m (stand m i)) in
          let cpr = λ (m : ℕ) (i : In m v.cpr). In-append_right m (nodes_of v.index ++ places_of (leaves_of v.index)) v.cpr i in (
            end_kept b now file v.vdr live.vdr fits.0,
            nodes_fit_kept b now own new file same (nodes_of v.index) (λ m i. live.behind m (node_own sound e v file has fits stand live m i)) fits.1,
            leaves_fit_kept b now own new file same v.vdr live.vdr fits.0 (leaves_of v.index) (λ m i. live.behind m (block_own sound e v file has fits stand live m i)) (leaves_fit_both b s.records own v.vdr (leaves_of v.index) (λ m i. (stand m (block m i), block m i)) fits.2),
            cprs_kept b now own new file same v.cpr (cprs_both b s.records own v.cpr (λ m i. (stand m (inr (cpr m i)), inr (cpr m i))) fits.3),
          )

    -- ---- variables of the image that live

    one_by_one : (P : VariableShape → Type 0)
        → ((v : VariableShape) → HasVariable b s.records v → VariableFits b s.records v → VariableLives b now v → ((m : ℕ) → In m (variable_records v) → In m (all_variable_records s)) → (type_at b v.vdr ≡ r_vdr_type) ⊎ (type_at b v.vdr ≡ z_vdr_type) → P v)
        → (vs : List VariableShape) → AreOurs b s vs → Each (VariableLives b now) vs → Each P vs
    one_by_one P one [] ours live = tt
    one_by_one P one (v ∷ more) ours live = (
      one v ours.has.0 ours.fits.0 live.0 (first_sub b s v more ours) (ours.kinds v.vdr (inl refl)),
      one_by_one P one more (rest_ours b s v more ours) live.1,
    )

    pub remain_from : (vs : List VariableShape) → AreOurs b s vs → Each (VariableLives b now) vs → Each (VariableRemains b now s.records new) vs
    remain_from = one_by_one (VariableRemains b now s.records new) (λ v has fits live sub kind. record {
      stays = one_stays v has fits live sub kind;
      fits = one_fits v has fits live sub kind;
      ruled = λ rules. (subst Hold (sym (one_rules v has fits live sub kind [] (λ m i. absurd i))) rules.0, one_index v has fits live sub kind rules.1);
    })

    -- their numbers
    pub nums_from : (vs : List VariableShape) → AreOurs b s vs → Each (VariableLives b now) vs → (m : ℕ) → In m (vdrs vs) → number now m vdr_num ≡ number b m vdr_num
    nums_from [] ours live m i = absurd i
    nums_from (v ∷ more) ours live m (inl q) = subst (λ (x : ℕ). number now x vdr_num ≡ number b x vdr_num) (sym q) (field_same b now file v.vdr live.0.vdr ours.fits.0.0 vdr_num (omega arith) (omega arith))
    nums_from (v ∷ more) ours live m (inr i) = nums_from more (rest_ours b s v more ours) live.1 m i

    -- ---- all variables

    module _ (lives : Each (VariableLives b now) (variables s)) where
      ours : AreOurs b s (variables s)
      ours = all_ours b s sound

      all_remain : Each (VariableRemains b now s.records new) (variables s)
      all_remain = remain_from (variables s) ours lives

      pub nums_kept : (m : ℕ) → In m (vdrs (variables s)) → number now m vdr_num ≡ number b m vdr_num
      nums_kept = nums_from (variables s) ours lives

      pub variables_fit : Each (VariableFits now new) (variables s)
      variables_fit = Each-map (VariableRemains b now s.records new) (VariableFits now new) (λ v r. r.fits) (variables s) all_remain

      pub variables_stay : Each (VariableStays b now new) (variables s)
      variables_stay = Each-map (VariableRemains b now s.records new) (VariableStays b now new) (λ v r. r.stays) (variables s) all_remain

      pub variables_rules : Hold (variables_shape_rows b s) → Hold (flat_map (variable_rows now new (vdrs (variables s))) (vdrs (variables s)))
      variables_rules rules =
          let ids = vdrs (variables s) in
          let names = remaining_names b now s.records new (variables s) all_remain in
          let same = one_by_one (λ v. variable_rows now new ids v.vdr ≡ variable_rows b s.records ids v.vdr) (λ v has fits live sub kind. one_rules v has fits live sub kind ids names) (variables s) ours lives in
          subst Hold (sym (same_rows (variable_rows now new ids) (variable_rows b s.records ids) (variables s) same)) rules

      pub indexes_rules : Hold (indexes_shape_rows b s) → Hold (flat_map (λ (v : VariableShape). index_rows now new v.vdr v.index) (variables s))
      indexes_rules rules =
          let was = λ (v : VariableShape). Hold (index_rows b s.records v.vdr v.index) in
          let is = λ (v : VariableShape). Hold (index_rows now new v.vdr v.index) in
          let kept = one_by_one (λ v. was v → is v) (λ v has fits live sub kind. one_index v has fits live sub kind) (variables s) ours lives in
          hold_all (λ v. index_rows now new v.vdr v.index) (variables s) (Each-apply was is (variables s) kept (each_holds (λ v. index_rows b s.records v.vdr v.index) (variables s) rules))
