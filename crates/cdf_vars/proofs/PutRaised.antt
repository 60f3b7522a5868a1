-- MaxRec of a variable is raised, and of an r variable rMaxRec follows: what may be written, and what that leaves.
use Rattle.cdf_vars.proofs.Common.{AreaError, Changed, Good, HasShape, In, IsVdr, Kind, LiesIn, List, MaxRecRaised, R, Shape, StandsAmong, Variable, VariableShape, VdrsLie, Z, [], ap, append-nil, append_assoc, ap₂, arith, at, byte, cast_signed, cast_unsigned, content, content_is, extent, field_reads, field_reads4, fold, gdr_fits, gdr_in, gdr_long, gdr_offset, gdr_r_max_rec, good_is_sound, greatest_at, greatest_fits, image_limit, inl, integer4, is_max_rec, last_number, le-leb, length, length-with_field, long, map, max, max_rec_at, number, of_z-to_z, on_ok_weaker, other_bytes, own, r_max_writes, record_number_limit, refl, shape, shapes_of, subst, sym, tile, touched_field, variable_of, vdr_lies, vdr_max_rec, vdr_no_gdr, vdrs, with_field, with_sign, with_writes, word_kept, ℕ, ℤ, ◌++◌, ◌+◌, ◌<◌, ◌∙◌, ◌∷◌, ◌≡◌, ◌≤◌, ◌⊎◌}
use Rattle.std.proofs.Common.{Result, w32}
use Rattle.cdf_vars.proofs.Common.{nat_tests, true}
use Rattle.std.specs.Prelude.{OnOk}
use Rattle.cdf_edits.specs.Commands.GreatestRecord.{r_extents}
use Rattle.cdf_edits.specs.Commands.Puts.{max_rec_touches}
use Rattle.cdf_edits.specs.Frame.Changed.{Placed}
use Rattle.cdf_edits.proofs.Edits.RecordsWritten.{WritesRecords, good_now, same_shape}
use Rattle.cdf_edits.proofs.Frame.ChangedBytes.{changed_part}
use Rattle.cdf_vars.proofs.VariableChains.{vdr_inside}

-- rMaxRec as it is written
pub greatest_written : {b mid : List ℕ} (now : List ℕ) (kind : Kind) {places xs : List ℕ} {n : ℕ} {last : ℤ} (result : Result (Unit {0}) AreaError) → mid ≡ b → xs ≡ places → n ≡ fold max 0 (map (λ (vdr : ℕ). extent (max_rec_at b vdr)) xs) → last ≡ last_number n
    → OnOk result (now ≡ with_writes mid (r_max_writes kind (gdr_offset mid) last)) → OnOk result ((greatest : ℤ) → greatest ≡ greatest_at b places → now ≡ with_writes b (r_max_writes kind (gdr_offset b) greatest))
greatest_written {b} {mid} now kind {places} {xs} {n} {last} result same are n_is last_is = on_ok_weaker result (λ w greatest is.
    let all : last ≡ greatest = last_is ∙ ap last_number (n_is ∙ ap (λ (ys : List ℕ). fold max 0 (map (λ (vdr : ℕ). extent (max_rec_at b vdr)) ys)) are) ∙ sym is in
    w ∙ (λ i. with_writes (same i) (r_max_writes kind (gdr_offset (same i)) (all i))))

-- ---- what may be written

ruled_small : (r : ℕ) → is_max_rec r ≡ true → r < 4294967296
ruled_small r e = grind (arith, nat_tests, e)

module _ (b : List ℕ) (good : Good b) where
  pub greatest_lies : LiesIn b (gdr_offset b) gdr_r_max_rec
  greatest_lies = let l = gdr_fits b good in omega arith

  pub vdrs_lie : (kind : Kind) (places : List ℕ) → places ≡ vdrs (shapes_of (shape b) kind) → VdrsLie b places
  vdrs_lie kind places are = λ place i. let l = vdr_inside b (shape b) (good_is_sound b good).has_shape kind place (subst (In place) are i) in omega arith

module _ {b : List ℕ} {kind : Kind} {vdr : ℕ} (good : Good b) (is : IsVdr b kind vdr) (r : ℕ) (ruled : is_max_rec r ≡ true) (short : length b ≤ image_limit) where
  -- an image in which only they are written
  module _ {now : List ℕ} (changed : Changed b now (max_rec_touches b kind vdr)) (long : length now ≡ length b) (says : number now vdr vdr_max_rec ≡ r) where
    writes : WritesRecords b now kind (own good is) []
    writes = record {
      changed = subst (Changed b now) (sym (append-nil (max_rec_touches b kind vdr))) changed;
      as_long = long;
      in_blocks = tt;
      max_rec_ruled = ap is_max_rec says ∙ ruled;
    }

    pub now_good : Good now
    now_good = good_now good (at good is) writes short

    pub now_shape : shape now ≡ shape b
    now_shape = same_shape good (at good is) writes

  -- ---- MaxRec is written

  module _ {m : List ℕ} (there : m ≡ with_field b vdr vdr_max_rec r) where
    lies : LiesIn b vdr vdr_max_rec
    lies = let l = vdr_lies good is in omega arith

    pub mid_long : length m ≡ length b
    mid_long = ap length there ∙ length-with_field b vdr vdr_max_rec r lies

    pub mid_number : number m vdr vdr_max_rec ≡ r
    mid_number = ap (λ (x : List ℕ). number x vdr vdr_max_rec) there ∙ field_reads b vdr vdr_max_rec r lies (ruled_small r ruled)

    pub mid_others : (i : ℕ) → (i < vdr + 24) ⊎ (vdr + 24 + 4 ≤ i) → byte m i ≡ byte b i
    mid_others i out = ap (λ (x : List ℕ). byte x i) there ∙ other_bytes b vdr vdr_max_rec r i lies out

    pub mid_changed : (k : Kind) → Changed b m (max_rec_touches b k vdr)
    mid_changed R = record { longer = (let l = mid_long in omega arith); same = λ i lt out. mid_others i out.1.0 }
    mid_changed Z = record { longer = (let l = mid_long in omega arith); same = λ i lt out. mid_others i out.0 }

    pub mid_good : Good m
    mid_good = now_good (mid_changed kind) mid_long mid_number

    pub mid_shape : shape m ≡ shape b
    mid_shape = now_shape (mid_changed kind) mid_long mid_number

    pub mid_places : (k : Kind) (places : List ℕ) → places ≡ vdrs (shapes_of (shape b) k) → places ≡ vdrs (shapes_of (shape m) k)
    mid_places k places are = are ∙ ap (λ (s : Shape). vdrs (shapes_of s k)) (sym mid_shape)

-- ---- rMaxRec is written

module _ {b m last : List ℕ} {vdr : ℕ} (good : Good b) (is : IsVdr b R vdr) (r : ℕ) (ruled : is_max_rec r ≡ true) (short : length b ≤ image_limit) (written : m ≡ with_field b vdr vdr_max_rec r)
    (places : List ℕ) (are : places ≡ vdrs (shapes_of (shape b) R)) (put : last ≡ with_field m (gdr_offset m) gdr_r_max_rec (cast_unsigned w32 (greatest_at m places))) where
  abbrev gdr : ℕ
  gdr = (shape m).gdr

  good_m : Good m
  good_m = mid_good good is r ruled short written

  shape_m : shape m ≡ shape b
  shape_m = mid_shape good is r ruled short written

  has : HasShape m (shape m)
  has = (good_is_sound m good_m).has_shape

  last_long : length last ≡ length m
  last_long = ap length put ∙ length-with_field m (gdr_offset m) gdr_r_max_rec (cast_unsigned w32 (greatest_at m places)) (greatest_lies m good_m)

  last_others : (i : ℕ) → (i < gdr + 52) ⊎ (gdr + 52 + 4 ≤ i) → byte last i ≡ byte m i
  last_others i out =
      ap (λ (x : List ℕ). byte x i) put
      ∙ other_bytes m (gdr_offset m) gdr_r_max_rec (cast_unsigned w32 (greatest_at m places)) i (greatest_lies m good_m) (subst (λ (g : ℕ). (i < g + 52) ⊎ (g + 52 + 4 ≤ i)) (sym has.gdr_is) out)

  max_rec_stays : (before : List VariableShape) (x : VariableShape) (after : List VariableShape) → shapes_of (shape b) R ≡ before ++ x ∷ after → number last x.vdr vdr_max_rec ≡ number m x.vdr vdr_max_rec
  max_rec_stays before x after e =
      let among : StandsAmong m R before x after = record { was = ap (λ (s : Shape). shapes_of s R) shape_m ∙ e } in
      let only = touched_field gdr gdr_r_max_rec ∷ [] in
      let alone : Changed m last only = record { longer = (let l = last_long in omega arith); same = λ i lt out. last_others i out.0 } in
      let placed : Placed m (shape m).records (length m) only = (inl (gdr_in m (shape m) has, (let l = gdr_long m (shape m) has in omega arith)), tt) in
      let part = changed_part m last (shape m).records (length m) has.tiled (omega arith) only alone placed x.vdr 24 28 (tile good_m among) (let l = long good_m among in omega arith) ((λ q. absurd (vdr_no_gdr good_m among q)), tt) in
      word_kept m last (x.vdr + 24) (x.vdr + 28) part (x.vdr + 24) 4 (omega arith) (omega arith)

  extents : (before xs : List VariableShape) → shapes_of (shape b) R ≡ before ++ xs → map (λ (v : Variable). extent v.max_rec) (map (variable_of last) xs) ≡ map (λ (v : ℕ). extent (max_rec_at m v)) (vdrs xs)
  extents before [] e = refl
  extents before (x ∷ xs) e =
      ap₂ (λ (n : ℕ) (ns : List ℕ). n ∷ ns) (ap (λ (n : ℕ). extent (with_sign n)) (max_rec_stays before x xs e)) (extents (before ++ x ∷ []) xs (e ∙ sym (append_assoc before (x ∷ []) xs)))

  all_changed : Changed b last (max_rec_touches b R vdr)
  all_changed = record {
    longer = (let l = last_long in let k = mid_long good is r ruled short written in omega arith);
    same = λ i lt out. last_others i (subst (λ (s : Shape). (i < s.gdr + 52) ⊎ (s.gdr + 52 + 4 ≤ i)) (sym shape_m) out.0) ∙ mid_others good is r ruled short written i out.1.0;
  }

  pub raised_r : MaxRecRaised b last R (own good is) r
  raised_r =
      let long = last_long ∙ mid_long good is r ruled short written in
      let says = max_rec_stays is.before (own good is) is.after is.was ∙ mid_number good is r ruled short written in
      let shape_now = now_shape good is r ruled short all_changed long says in
      let has_now = (good_is_sound last (now_good good is r ruled short all_changed long says)).has_shape in
      let all : r_extents (content last) ≡ map (λ (v : ℕ). extent (max_rec_at m v)) places =
      ap r_extents (content_is last (shape last) has_now) ∙ ap (λ (s : Shape). map (λ (v : Variable). extent v.max_rec) (map (variable_of last) (shapes_of s R))) shape_now
      ∙ extents [] (shapes_of (shape b) R) refl ∙ ap (map (λ (v : ℕ). extent (max_rec_at m v))) (sym are) in
      let place : gdr_offset last ≡ gdr_offset m = has_now.gdr_is ∙ ap (λ (s : Shape). s.gdr) (shape_now ∙ sym shape_m) ∙ sym has.gdr_is in
      let read : integer4 last (gdr_offset m) gdr_r_max_rec ≡ greatest_at m places =
      ap (λ (x : List ℕ). integer4 x (gdr_offset m) gdr_r_max_rec) put ∙ field_reads4 m (gdr_offset m) gdr_r_max_rec (greatest_at m places) refl (greatest_lies m good_m) (greatest_fits m places) in
      let greatest = ap (λ (g : ℕ). integer4 last g gdr_r_max_rec) place ∙ read ∙ ap (λ (ns : List ℕ). last_number (fold max 0 ns)) (sym all) in
      record { changed = all_changed; as_long = long; max_rec_is = says; greatest = λ q. greatest }

-- ---- both

pub raised : {b m last : List ℕ} (kind : Kind) {vdr : ℕ} (good : Good b) (is : IsVdr b kind vdr) (r : ℕ) (ruled : is_max_rec r ≡ true) (short : length b ≤ image_limit)
    → m ≡ with_field b vdr vdr_max_rec r → (places : List ℕ) → places ≡ vdrs (shapes_of (shape b) R)
    → ((greatest : ℤ) → greatest ≡ greatest_at m places → last ≡ with_writes m (r_max_writes kind (gdr_offset m) greatest)) → (v : VariableShape) → v.vdr ≡ vdr → MaxRecRaised b last kind v r
raised {b} {m} {last} kind {vdr} good is r ruled short written places are follows v e = subst (λ (k : ℕ). MaxRecRaised b last kind (record v { vdr = k }) r) (sym e) (by kind is follows)
  where
    by : (kind : Kind) → IsVdr b kind vdr → ((greatest : ℤ) → greatest ≡ greatest_at m places → last ≡ with_writes m (r_max_writes kind (gdr_offset m) greatest)) → MaxRecRaised b last kind (record v { vdr = vdr }) r
    by R is follows =
        let all = raised_r good is r ruled short written places are (follows (greatest_at m places) refl) in
        record { changed = all.changed; as_long = all.as_long; max_rec_is = all.max_rec_is; greatest = all.greatest }
    by Z is follows =
        rw (follows (greatest_at m places) refl)
        (record { changed = mid_changed good is r ruled short written Z; as_long = mid_long good is r ruled short written; max_rec_is = mid_number good is r ruled short written; greatest = λ q. absurd cc })

-- a number that is passed on as 4 bytes
pub passed_on : (b : List ℕ) {m : List ℕ} (vdr : ℕ) (z : ℤ) → is_max_rec (cast_unsigned w32 z) ≡ true → m ≡ with_field b vdr vdr_max_rec (cast_unsigned w32 (cast_signed w32 (cast_unsigned w32 z))) → m ≡ with_field b vdr vdr_max_rec (cast_unsigned w32 z)
passed_on b vdr z ruled is = is ∙ ap (with_field b vdr vdr_max_rec) (of_z-to_z w32 (cast_unsigned w32 z) (ruled_small (cast_unsigned w32 z) ruled))

-- of a record that may be put
pub raised_ruled : (r : ℕ) → r ≤ record_number_limit → is_max_rec (cast_unsigned w32 (cast_signed w32 r)) ≡ true
raised_ruled r small = ap is_max_rec (of_z-to_z w32 r (omega arith)) ∙ rw (le-leb r record_number_limit small) refl

pub raised_to : {now last : List ℕ} {kind : Kind} {v : VariableShape} (r : ℕ) → r ≤ record_number_limit → MaxRecRaised now last kind v (cast_unsigned w32 (cast_signed w32 r)) → MaxRecRaised now last kind v r
raised_to {now} {last} {kind} {v} r small = subst (MaxRecRaised now last kind v) (of_z-to_z w32 r (omega arith))
