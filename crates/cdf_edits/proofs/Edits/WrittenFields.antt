-- Numbers that are written in fields of records, one after the other: one edit, and each field has its number.
use Rattle.cdf_edits.proofs.Common.{Among, AreTiles, Changed, Covered, Distinct, Each, Edit, Field, In, LiesIn, List, Mark, Same, Touch, Write, [], arith, big_bytes, field_reads, inl, inr, length, length-bytes_high_first, length-with_field, map, mark, number, refl, size_at, subst, sym, tile_lies, touched_field, type_at, uir_type, with_field, with_writes, ℕ, ◌+◌, ◌<◌, ◌^◌, ◌∙◌, ◌∷◌, ◌≡◌, ◌≢◌, ◌≤◌}
use Rattle.cdf_edits.proofs.Edits.Composing.{head_size, head_type, edit_then, changed_edit}
use Rattle.cdf_edits.proofs.Edits.FreedRecords.{edit_under, same_edit}
use Rattle.cdf_edits.proofs.Edits.MarkLemmas.{Avoids-append}
use Rattle.cdf_edits.proofs.Edits.RecordFrame.{field_avoids}
use Rattle.cdf_edits.proofs.Frame.ChangedBytes.{changed_put}

-- it lies in a record in use, behind the type, and a mark has it
pub record MayWrite (b records : List ℕ) (marks : List Mark) (w : Write) : Type 0 where
  pub inside : In w.tile records
  pub used : type_at b w.tile ≢ uir_type
  pub fits : w.f.place + w.f.width ≤ size_at b w.tile
  pub later : 12 ≤ w.f.place
  pub covered : Covered b marks (touched_field w.tile w.f)

abbrev pub written_tiles : List Write → List ℕ
written_tiles writes = map (λ (w : Write). w.tile) writes

covered_again : (b now : List ℕ) (marks : List Mark) (t : Touch) → type_at now t.tile ≡ type_at b t.tile → Covered b marks t → Covered now marks t
covered_again b now [] t same c = c
covered_again b now (k ∷ marks) t same (inl c) = inl (record { typed = same ∙ c.typed; lies = c.lies; low = c.low; high = c.high })
covered_again b now (k ∷ marks) t same (inr c) = inr (covered_again b now marks t same c)

-- they may be written after another edit too
pub may_after : {b now records : List ℕ} {others : List Mark} (e : Edit b now records records others []) (marks : List Mark) (ws : List Write) → Each (MayWrite b records marks) ws → Each (MayWrite now records marks) ws
may_after e marks [] all = tt
may_after {b = b} {now = now} e marks (v ∷ ws) all =
    let one = all.0 in
    let same = e.head v.tile one.inside one.used (λ r. r) in
    let type = head_type b now v.tile same in (
      record {
        inside = one.inside;
        used = λ u. one.used (sym type ∙ u);
        fits = subst (λ (n : ℕ). v.f.place + v.f.width ≤ n) (sym (head_size b now v.tile same)) one.fits;
        later = one.later;
        covered = covered_again b now marks (touched_field v.tile v.f) type one.covered;
      },
      may_after e marks ws all.1,
    )

-- no other byte changes where a field is written
pub with_field_changed : (b : List ℕ) (tile : ℕ) (f : Field) (n : ℕ) → LiesIn b tile f → Changed b (with_field b tile f n) (touched_field tile f ∷ [])
unfolding with_field
with_field_changed b tile f n lies = changed_put b tile f.place f.width (big_bytes f.width n) (length-bytes_high_first f.width n) lies

module _ (b records : List ℕ) (tiled : AreTiles b 8 (length b) records) (some : 8 ≤ length b) where
  -- it lies in the image
  pub write_lies : (tile : ℕ) (f : Field) → In tile records → f.place + f.width ≤ size_at b tile → LiesIn b tile f
  write_lies tile f i fits = let l = tile_lies b 8 (length b) records tile tiled i in omega (arith, l.high)

  -- one number
  pub write_edit : (marks : List Mark) (w : Write) → MayWrite b records marks w → Edit b (with_field b w.tile w.f w.to) records records marks []
  write_edit marks w may =
      let lies = write_lies w.tile w.f may.inside may.fits in
      changed_edit b (with_field b w.tile w.f w.to) records (touched_field w.tile w.f ∷ []) marks [] tiled (length-with_field b w.tile w.f w.to lies) (with_field_changed b w.tile w.f w.to lies)
      (record { inside = may.inside; fits = may.fits; behind_size = let l = may.later in omega arith; behind_type = inl may.later; covered = may.covered }, tt) some

  heads_stay : (marks : List Mark) (w : Write) → MayWrite b records marks w → (m : ℕ) → In m records → type_at b m ≢ uir_type → Same b (with_field b w.tile w.f w.to) (m + 0) (m + 12)
  heads_stay marks w may m i used = (write_edit marks w may).head m i used (λ r. r)

-- they lie in an image that is as long
pub writes_lie : (b now records : List ℕ) (marks : List Mark) (ws : List Write) → AreTiles b 8 (length b) records → 8 ≤ length b → length now ≡ length b → Each (MayWrite b records marks) ws → Each (λ (w : Write). LiesIn now w.tile w.f) ws
writes_lie b now records marks [] tiled some long all = tt
writes_lie b now records marks (w ∷ ws) tiled some long all = (let l = write_lies b records tiled some w.tile w.f all.0.inside all.0.fits in omega arith, writes_lie b now records marks ws tiled some long all.1)

-- all of them
pub writes_edit : (b records : List ℕ) (marks : List Mark) (ws : List Write) → AreTiles b 8 (length b) records → 8 ≤ length b → Each (MayWrite b records marks) ws → Edit b (with_writes b ws) records records marks []
writes_edit b records marks [] tiled some all = same_edit b records marks tiled
writes_edit b records marks (w ∷ ws) tiled some all =
    let first = write_edit b records tiled some marks w all.0 in
    let rest = writes_edit (with_field b w.tile w.f w.to) records marks ws first.tiled_now (let l = first.longer in omega arith) (may_after first marks ws all.1) in
    edit_under (edit_then first rest) marks (λ m type lo hi i is a. Avoids-append marks marks type m lo hi a a)

-- the image is as long
pub writes_long : (b records : List ℕ) (marks : List Mark) (ws : List Write) → AreTiles b 8 (length b) records → 8 ≤ length b → Each (MayWrite b records marks) ws → length (with_writes b ws) ≡ length b
writes_long b records marks [] tiled some all = refl
writes_long b records marks (w ∷ ws) tiled some all =
    let first = write_edit b records tiled some marks w all.0 in
    let long = length-with_field b w.tile w.f w.to (write_lies b records tiled some w.tile w.f all.0.inside all.0.fits) in
    writes_long (with_field b w.tile w.f w.to) records marks ws first.tiled_now (let l = first.longer in omega arith) (may_after first marks ws all.1) ∙ long

-- a record that none is in keeps its fields
pub others_keep : (b records : List ℕ) (marks : List Mark) (ws : List Write) → AreTiles b 8 (length b) records → 8 ≤ length b → Each (MayWrite b records marks) ws → (m : ℕ) (f : Field) → In m records → type_at b m ≢ uir_type → (In m (written_tiles ws) → ⊥) → f.place + f.width ≤ size_at b m
    → number (with_writes b ws) m f ≡ number b m f
others_keep b records marks [] tiled some all m f i used out fits = refl
others_keep b records marks (w ∷ ws) tiled some all m f i used out fits =
    let may = all.0 in
    let now = with_field b w.tile w.f w.to in
    let own : MayWrite b records (mark (type_at b w.tile) (Among (w.tile ∷ [])) w.f ∷ []) w = record { inside = may.inside; used = may.used; fits = may.fits; later = may.later; covered = inl (record { typed = refl; lies = inl refl; low = omega arith; high = omega arith }) } in
    let first = write_edit b records tiled some (mark (type_at b w.tile) (Among (w.tile ∷ [])) w.f ∷ []) w own in
    let other : In m (w.tile ∷ []) → ⊥ = λ lies. elim lies [ inl e ↦ out (inl e) | inr none ↦ none ] in
    let same = heads_stay b records tiled some marks w may m i used in
    let here = field_avoids first m (type_at b m) f i refl ((λ e lies. absurd (other lies)), tt) ((λ e lies. absurd (other lies)), tt) fits in
    others_keep now records marks ws first.tiled_now (let l = first.longer in omega arith) (may_after first marks ws all.1) m f i (λ u. used (sym (head_type b now m same) ∙ u)) (λ j. out (inr j)) (subst (λ (n : ℕ). f.place + f.width ≤ n) (sym (head_size b now m same)) fits)
    ∙ here

-- each field has its number
pub writes_say : (b records : List ℕ) (marks : List Mark) (ws : List Write) → AreTiles b 8 (length b) records → 8 ≤ length b → Each (MayWrite b records marks) ws → Distinct (written_tiles ws) → Each (λ (w : Write). w.to < 256 ^ w.f.width) ws → Each (λ (w : Write). number (with_writes b ws) w.tile w.f ≡ w.to) ws
writes_say b records marks [] tiled some all once small = tt
writes_say b records marks (w ∷ ws) tiled some all once small =
    let may = all.0 in
    let now = with_field b w.tile w.f w.to in
    let first = write_edit b records tiled some marks w may in
    let again = may_after first marks ws all.1 in
    let same = heads_stay b records tiled some marks w may w.tile may.inside may.used in
    let kept = others_keep now records marks ws first.tiled_now (let l = first.longer in omega arith) again w.tile w.f may.inside (λ u. may.used (sym (head_type b now w.tile same) ∙ u)) once.0 (subst (λ (n : ℕ). w.f.place + w.f.width ≤ n) (sym (head_size b now w.tile same)) may.fits) in (
      kept ∙ field_reads b w.tile w.f w.to (write_lies b records tiled some w.tile w.f may.inside may.fits) small.0,
      writes_say now records marks ws first.tiled_now (let l = first.longer in omega arith) again once.1 small.1,
    )
