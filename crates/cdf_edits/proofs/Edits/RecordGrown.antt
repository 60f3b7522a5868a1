-- An image has all that another has, but for its unused records and for links and numbers in its GDR: records were taken from the one and written, or nothing was done.
use Rattle.cdf_edits.proofs.Common.{Away, Fills, In, IsSound, List, Same, Shape, [], ap, arith, content, eof, gdr_offset, gdr_type, length, refl, shape, size_at, size_kept, subst, sym, tile_lies, type_at, uir_type, with_space, ℕ, ◌+◌, ◌∙◌, ◌∷◌, ◌≡◌, ◌≢◌, ◌≤◌}
use Rattle.cdf_edits.proofs.Edits.Common.{Grows, placed_grows, Kept, head_type, kept_away, placing_marks, same-then, the_one}
pub use Rattle.cdf_edits.proofs.Edits.MadeRecord.{unlike}
use Rattle.cdf_edits.proofs.Edits.MadeRecord.{place_in}

pub record Grew (b now : List ℕ) : Type 0 where
  pub sound : IsSound now (shape now)
  pub shape_is : shape now ≡ with_space (shape b) (shape now).records (shape now).unused
  pub content_is : content now ≡ content b
  pub longer : length b ≤ length now
  pub sub : (m : ℕ) → In m (shape b).records → In m (shape now).records
  pub head : (m : ℕ) → In m (shape b).records → type_at b m ≢ uir_type → Same b now (m + 0) (m + 12)
  pub kept : (m : ℕ) → In m (shape b).records → type_at b m ≢ uir_type → type_at b m ≢ gdr_type → Kept b now m

pub grew_none : (b : List ℕ) → IsSound b (shape b) → Grew b b
grew_none b sound = grind (arith, sound, λ (m : ℕ) (i : In m (shape b).records). tile_lies b 8 (length b) (shape b).records m sound.has_shape.tiled i)

pub kept_then : (b mid now : List ℕ) (m : ℕ) → Kept b mid m → Kept mid now m → Kept b now m
kept_then b mid now m p q =
    let size = size_kept b mid m p.same (let l = p.long in omega arith) in
    record { same = same-then b mid now m (m + size_at b m) p.same (subst (λ (n : ℕ). Same mid now m (m + n)) size q.same); inside = p.inside; long = p.long }

pub grew_then : {b mid now : List ℕ} → Grew b mid → Grew mid now → Grew b now
grew_then {b = b} {mid = mid} {now = now} p q =
    let type = λ (m : ℕ) (i : In m (shape b).records) (used : type_at b m ≢ uir_type). head_type b mid m (p.head m i used) in
    record {
      sound = q.sound;
      shape_is = q.shape_is ∙ ap (λ (s : Shape). with_space s (shape now).records (shape now).unused) p.shape_is;
      content_is = q.content_is ∙ p.content_is;
      longer = let l = p.longer in let m = q.longer in omega arith;
      sub = λ m i. q.sub m (p.sub m i);
      head = λ m i used. same-then b mid now (m + 0) (m + 12) (p.head m i used) (q.head m (p.sub m i) (λ u. used (sym (type m i used) ∙ u)));
      kept = λ m i used other. kept_then b mid now m (p.kept m i used other) (q.kept m (p.sub m i) (λ u. used (sym (type m i used) ∙ u)) (λ u. other (sym (type m i used) ∙ u)));
    }

module _ {b taken now : List ℕ} {need place type : ℕ} (sound : IsSound b (shape b)) (fills : Fills b taken now (shape b) (shape now).records (shape now).unused need place type) where
  first : Grows b now (placing_marks (shape b).unused place need) (place ∷ [])
  first = placed_grows sound fills

  out_of : (m : ℕ) → In m (shape b).records → type_at b m ≢ uir_type → In m (place ∷ []) → ⊥
  out_of m i used j = unlike sound fills m i used (the_one place m j)

  away : (m type : ℕ) → type ≢ uir_type → type ≢ gdr_type → Away (placing_marks (shape b).unused place need) type m
  away m type used other = ((λ e l. other e), ((λ e l. other e), ((λ e l. used e), ((λ e l. used e), ((λ e l. used e), ((λ e l. used e), tt))))))

  pub grew : Grew b now
  grew = grind (arith, first, λ (m : ℕ) (i : In m (shape b).records) (used : type_at b m ≢ uir_type). first.edit.head m i used (out_of m i used), λ (m : ℕ) (i : In m (shape b).records) (used : type_at b m ≢ uir_type) (other : type_at b m ≢ gdr_type). kept_away first.edit m (type_at b m) i refl (away m (type_at b m) used other))

  pub ends : eof now (gdr_offset now) ≡ length now
  ends = ap (eof now) first.sound.has_shape.gdr_is ∙ first.end_is

  -- where the record stands
  pub stands : In place (shape now).records
  stands = place_in sound fills
