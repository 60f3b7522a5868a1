-- A VDR is placed and linked among those of its kind, at the end or in the place of another one: what the image is then.
use Rattle.cdf_edits.proofs.Common.{ActsFollow, Chain, Each, Each-split, Edit, Fills, HasVariable, In, IsBody, IsChain, IsSound, Joined, Kind, List, Mark, R, Same, Shape, Took, VariableShape, Z, [], adding_marks, all_unmarked, ap, arith, avoided, ended, eof, fixed_size, gdr_offset, gdr_type, head_of, holder_of, index_types, is_late, is_record_type, keeps_file, keeps_index_records, length, linkable-in, linkable-type, making_marks, number, r_vdr_type, refl, shape, shape_is, shapes_of, size_at, subst, sym, true, type_at, type_in, type_of_body, uir_type, unmarked, variables, variables_chain, variables_gdr_fields, vdr_bytes, vdrs, within, z_vdr_type, ℕ, ◌++◌, ◌+◌, ◌∙◌, ◌∷◌, ◌≡◌, ◌≢◌, ◌≤◌}
use Rattle.cdf_edits.proofs.Edits.Common.{FileSame, IsPlain, KeptButLink, VariableLives, VariableSplices, acts_took, apart, avoided-avoids, end_now, ended-avoids, file_same, keeps_all_attributes, keeps_kind, kept_but_link, kind_chain, kind_ours, list_chain, made_edit, made_part, made_size, made_type, of_kind, other_kind, shape_now, the_one, with_shapes}
use Rattle.cdf_edits.proofs.Edits.VariableFrame.{AreOurs, clear_live, ours_parts, remain_from}

-- ---- by the kind

-- what marks leave that are of the type of a kind, of the GDR and of unused records
pub record KindTests (kind : Kind) (marks : List Mark) : Type 0 where
  pub file_clear : keeps_file marks ≡ true
  pub attributes_clear : keeps_all_attributes marks ≡ true
  pub other_clear : keeps_kind marks (other_kind kind) ≡ true
  pub index_clear : all_unmarked marks index_types ≡ true
  pub others_clear : unmarked marks (type_in (variables_chain (other_kind kind))) ≡ true
  pub gdr_within : within marks gdr_type (variables_gdr_fields kind) ≡ true

pub record JoinTests (kind : Kind) (b unused : List ℕ) (place need : ℕ) : Type 0 where
  pub all : KindTests kind (making_marks unused place need (adding_marks b (variables_chain kind) place))
  pub lately : is_late (adding_marks b (variables_chain kind) place) (type_in (variables_chain kind)) ≡ true
  pub behind : (hi : ℕ) → avoided (adding_marks b (variables_chain kind) place) (type_in (variables_chain kind)) 20 hi ≡ true
  pub lives : keeps_index_records (making_marks unused place need (adding_marks b (variables_chain kind) place)) ≡ true
  pub start : avoided (making_marks unused place need (adding_marks b (variables_chain kind) place)) (type_in (variables_chain kind)) 0 12 ≡ true
  pub rest : ended (making_marks unused place need (adding_marks b (variables_chain kind) place)) (type_in (variables_chain kind)) 20 ≡ true
  pub holder_is : holder_of b (variables_chain kind) ≡ gdr_offset b

pub join_tests : (kind : Kind) (b unused : List ℕ) (place need : ℕ) → JoinTests kind b unused place need
join_tests R b unused place need = record { all = record { file_clear = refl; attributes_clear = refl; other_clear = refl; index_clear = refl; others_clear = refl; gdr_within = refl }; lately = refl; behind = λ hi. refl; lives = refl; start = refl; rest = refl; holder_is = refl }
join_tests Z b unused place need = record { all = record { file_clear = refl; attributes_clear = refl; other_clear = refl; index_clear = refl; others_clear = refl; gdr_within = refl }; lately = refl; behind = λ hi. refl; lives = refl; start = refl; rest = refl; holder_is = refl }

pub plain_kind : (kind : Kind) → IsPlain (type_in (variables_chain kind))
plain_kind R = record { no_gdr = apart r_vdr_type gdr_type refl; no_uir = apart r_vdr_type uir_type refl }
plain_kind Z = record { no_gdr = apart z_vdr_type gdr_type refl; no_uir = apart z_vdr_type uir_type refl }

-- bytes of this type that have room for its dimensions make a record
pub is_vdr_body : (kind : Kind) (body : List ℕ) (d : ℕ) → type_of_body body ≡ type_in (variables_chain kind) → vdr_bytes kind d ≤ 8 + length body → IsBody body
is_vdr_body R body d t l = record { enough = omega arith; real = rw t refl; in_use = rw t (apart r_vdr_type uir_type refl); fixed = rw t (omega arith) }
is_vdr_body Z body d t l = record { enough = omega arith; real = rw t refl; in_use = rw t (apart z_vdr_type uir_type refl); fixed = rw t (omega arith) }

-- ---- once it is linked and counted

-- a record with these bytes behind its size joined the chain of a kind, which has these members and counts as many
pub record JoinsVdr (b now : List ℕ) (kind : Kind) (body : List ℕ) (place : ℕ) (members : List ℕ) (count : ℕ) : Type 0 where
  pub joined : Joined b now (variables_chain kind) body place members count
  pub type_is : type_of_body body ≡ type_in (variables_chain kind)

module _ {b now : List ℕ} {kind : Kind} {body : List ℕ} {place : ℕ} {members : List ℕ} {count : ℕ} (sound : IsSound b (shape b)) (w : JoinsVdr b now kind body place members count) where
  abbrev pub j : Joined b now (variables_chain kind) body place members count
  j = w.joined

  abbrev pub s : Shape
  s = shape b

  abbrev pub c : Chain
  c = variables_chain kind

  abbrev pub type : ℕ
  type = type_in c

  abbrev pub need : ℕ
  need = 8 + length body

  abbrev pub records : List ℕ
  records = (shape j.filled).records

  abbrev pub list : List ℕ
  list = (shape j.filled).unused

  abbrev pub marks : List Mark
  marks = making_marks s.unused place need (adding_marks b c place)

  abbrev pub t : JoinTests kind b s.unused place need
  t = join_tests kind b s.unused place need

  pub fills : Fills b j.placed.taken j.filled s records list need place type
  fills = subst (λ (x : ℕ). Fills b j.placed.taken j.filled s records list need place x) w.type_is j.placed.fills

  pub edit : Edit b now s.records records marks (place ∷ [])
  edit = made_edit sound fills j.linked j.as_long t.lately

  pub file : FileSame b now
  file = file_same sound edit t.all.file_clear

  pub joined_type : type_at now place ≡ type
  joined_type = made_type sound fills j.linked j.as_long t.lately

  pub joined_size : size_at now place ≡ need
  joined_size = made_size sound fills j.linked j.as_long t.lately

  pub used : type_at now place ≢ uir_type
  used u = (plain_kind kind).no_uir (sym joined_type ∙ u)

  pub real : (is_record_type (type_at now place) ≡ true) × (fixed_size (type_at now place) ≤ size_at now place)
  real = (
    subst (λ (x : ℕ). is_record_type x ≡ true) (sym joined_type) fills.real,
    subst (λ (x : ℕ). fixed_size x ≤ size_at now place) (sym joined_type) (subst (λ (n : ℕ). fixed_size type ≤ n) (sym joined_size) fills.fixed),
  )

  -- behind its link it is what was written
  pub behind_link : Same j.filled now (place + 20) (place + need)
  behind_link = made_part sound fills j.linked j.as_long t.lately 20 need (t.behind need) (omega arith)

  pub ends : eof now s.gdr ≡ length now
  ends = end_now sound fills j.linked j.as_long t.lately

  pub lives : Each (VariableLives b now) (variables s)
  lives = clear_live sound edit t.lives

  pub member_in : (m : ℕ) → In m (vdrs (shapes_of s kind)) → In m s.records × (type_at b m ≡ type)
  member_in m i = let ok = (kind_chain kind sound.has_shape).linkable m i in (linkable-in b s.records type m ok, linkable-type b s.records type m ok)

  pub linked : (m : ℕ) → In m (vdrs (shapes_of s kind)) → KeptButLink b now m
  linked m i = kept_but_link edit m type (member_in m i).0 (member_in m i).1 (avoided-avoids marks type m 0 12 t.start) (ended-avoids marks type m 20 (size_at b m) t.rest)

  pub gdr_is : holder_of b c ≡ s.gdr
  gdr_is = t.holder_is ∙ sound.has_shape.gdr_is

  pub chain : IsChain now records type (number now s.gdr (head_of c)) members
  chain = subst (λ (g : ℕ). IsChain now records type (number now g (head_of c)) members) gdr_is j.chain

  pub joined_acts : (vs : List VariableShape) → shape now ≡ with_shapes s kind records list vs → ActsFollow b now (Took place need ∷ [])
  joined_acts vs is = acts_took sound fills j.linked j.as_long t.lately (ap (λ (x : Shape). x.records) is) (ap (λ (x : Shape). x.unused) is)

  -- ---- with these variables of the kind

  module _ (before own own' after : List VariableShape) (was : shapes_of s kind ≡ before ++ (own ++ after)) (same : vdrs (before ++ (own' ++ after)) ≡ members) (has : Each (HasVariable now records) own') where
    pub joined_splices : VariableSplices b now s kind records list marks (place ∷ []) before own own' after
    joined_splices =
        let ours = ours_parts b s before (own ++ after) (subst (AreOurs b s) was (kind_ours b s sound kind)) in
        let live = Each-split (VariableLives b now) before (own ++ after) (subst (Each (VariableLives b now)) was (of_kind (VariableLives b now) kind s lives)) in
        record {
          edit = edit;
          was = was;
          file_clear = t.all.file_clear;
          attributes_clear = t.all.attributes_clear;
          other_clear = t.all.other_clear;
          before_remain = remain_from sound edit file before ours.0 live.0;
          after_remain = remain_from sound edit file after (ours_parts b s own after ours.1).1 (Each-split (VariableLives b now) own after live.1).1;
          others_live = of_kind (VariableLives b now) (other_kind kind) s lives;
          typed = λ m i. subst (λ (x : ℕ). (is_record_type (type_at now x) ≡ true) × (fixed_size (type_at now x) ≤ size_at now x)) (sym (the_one place m i)) real;
          variable_chain = subst (IsChain now records type (number now s.gdr (head_of c))) (sym same) chain;
          unused_chain = list_chain sound fills j.linked j.as_long t.lately;
          own_have = has;
        }

    pub joined_is : shape now ≡ with_shapes s kind records list (before ++ (own' ++ after))
    joined_is = shape_is now _ (shape_now sound joined_splices)
