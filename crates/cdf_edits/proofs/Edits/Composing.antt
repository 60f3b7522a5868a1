-- Edits, and what each step of a command is as an edit.
use Rattle.cdf_edits.proofs.Common.{AreTiles, Avoids, Changed, Each, Edit, In, In-append_left, In-append_right, List, Mark, Marked, Misses, Outside, Placed, Same, Touch, [], arith, either, false-is_in, inl, inr, is_in, length, size_at, subst, sym, tile_lies, true-is_in, type_at, uir_type, word_kept, ℕ, ◌++◌, ◌+◌, ◌<◌, ◌∙◌, ◌∷◌, ◌≡◌, ◌≢◌, ◌≤◌}
use Rattle.cdf_edits.proofs.Frame.ChangedBytes.{changed_part}
use Rattle.cdf_edits.proofs.Frame.LinksStay.{tiles_same}
use Rattle.cdf_edits.specs.Edits.Edit.{Kind}
use Rattle.cdf_edits.proofs.Edits.MarkLemmas.{Avoids-split, avoids-misses}

pub same-then : (b mid now : List ℕ) (lo hi : ℕ) → Same b mid lo hi → Same mid now lo hi → Same b now lo hi
same-then b mid now lo hi p q = record { each = λ i l u. q.each i l u ∙ p.each i l u }

pub head_size : (b now : List ℕ) (m : ℕ) → Same b now (m + 0) (m + 12) → size_at now m ≡ size_at b m
head_size b now m same = word_kept b now (m + 0) (m + 12) same (m + 0) 8 (omega arith) (omega arith)

pub head_type : (b now : List ℕ) (m : ℕ) → Same b now (m + 0) (m + 12) → type_at now m ≡ type_at b m
head_type b now m same = word_kept b now (m + 0) (m + 12) same (m + 8) 4 (omega arith) (omega arith)

-- ---- one after the other

module _ {b mid now old between new : List ℕ} {marks more : List Mark} {reborn later : List ℕ} (first : Edit b mid old between marks reborn) (second : Edit mid now between new more later) where
  out_first : (m : ℕ) → (In m (reborn ++ later) → ⊥) → In m reborn → ⊥
  out_first m out i = out (In-append_left m reborn later i)

  out_second : (m : ℕ) → (In m (reborn ++ later) → ⊥) → In m later → ⊥
  out_second m out i = out (In-append_right m reborn later i)

  join_head : (m : ℕ) → In m old → type_at b m ≢ uir_type → (In m (reborn ++ later) → ⊥) → Same b now (m + 0) (m + 12)
  join_head m i used out =
      let one = first.head m i used (out_first m out) in
      let t = head_type b mid m one in
      same-then b mid now (m + 0) (m + 12) one (second.head m (first.sub m i) (λ u. used (sym t ∙ u)) (out_second m out))

  join_part : (m type lo hi : ℕ) → In m old → type_at b m ≡ type → Avoids (marks ++ more) type m 0 12 → Avoids (marks ++ more) type m lo hi → hi ≤ size_at b m → Same b now (m + lo) (m + hi)
  join_part m type lo hi i is heads parts fits =
      let h = Avoids-split marks more type m 0 12 heads in
      let p = Avoids-split marks more type m lo hi parts in
      let long = (tile_lies b 8 (length b) old m first.tiled i).long in
      let start = first.part m type 0 12 i is h.0 h.0 long in
      let size = head_size b mid m start in
      same-then b mid now (m + lo) (m + hi) (first.part m type lo hi i is h.0 p.0 fits) (second.part m type lo hi (first.sub m i) (head_type b mid m start ∙ is) h.1 p.1 (subst (λ (n : ℕ). hi ≤ n) (sym size) fits))

  join_kind : (m : ℕ) → In m new → Kind b now old (reborn ++ later) m
  join_kind m i = elim (second.kind m i) [
    | inl x ↦ elim (first.kind m x.0) [ inl y ↦ inl (y.0, x.1 ∙ y.1) | inr y ↦ elim y [ inl u ↦ inr (inl (u.0, x.1 ∙ u.1)) | inr r ↦ inr (inr (In-append_left m reborn later r)) ] ]
    | inr x ↦ elim x [ inl u ↦ inr (inl ((λ j. u.0 (first.sub m j)), u.1)) | inr r ↦ inr (inr (In-append_right m reborn later r)) ]
  ]

  pub edit_then : Edit b now old new (marks ++ more) (reborn ++ later)
  edit_then = record {
    tiled = first.tiled;
    tiled_now = second.tiled_now;
    longer = let l = first.longer in let m = second.longer in omega arith;
    front = same-then b mid now 0 8 first.front second.front;
    sub = λ m i. second.sub m (first.sub m i);
    head = join_head;
    part = join_part;
    kind = join_kind;
  }

-- an edit of fewer bytes is one of more
pub edit_wider : {b now old new : List ℕ} {marks : List Mark} {reborn : List ℕ} (more : List Mark) → Edit b now old new marks reborn → Edit b now old new (marks ++ more) reborn
edit_wider {marks = marks} more e = record {
  tiled = e.tiled;
  tiled_now = e.tiled_now;
  longer = e.longer;
  front = e.front;
  sub = e.sub;
  head = e.head;
  part = λ m type lo hi i is h a fits. e.part m type lo hi i is (Avoids-split marks more type m 0 12 h).0 (Avoids-split marks more type m lo hi a).0 fits;
  kind = e.kind;
}

-- ---- bytes of records are written

module _ (b now old : List ℕ) (ts : List Touch) (marks : List Mark) (reborn : List ℕ) (tiled : AreTiles b 8 (length b) old) (long : length now ≡ length b) (changed : Changed b now ts) (marked : Each (Marked b old marks reborn) ts) where
  pub placed : (us : List Touch) → Each (Marked b old marks reborn) us → Placed b old (length b) us
  placed [] w = tt
  placed (t ∷ us) w = (inl (w.0.inside, w.0.fits), placed us w.1)

  pub part : (m lo hi : ℕ) → In m old → hi ≤ size_at b m → Misses ts m lo hi → Same b now (m + lo) (m + hi)
  part m lo hi i fits miss = changed_part b now old (length b) tiled (omega arith) ts changed (placed ts marked) m lo hi i fits miss

  size_missed : (us : List Touch) (m : ℕ) → Each (Marked b old marks reborn) us → Misses us m 0 8
  size_missed [] m w = tt
  size_missed (t ∷ us) m w = ((λ e. inl w.0.behind_size), size_missed us m w.1)

  type_missed : (us : List Touch) (m : ℕ) → Each (Marked b old marks reborn) us → (In m reborn → ⊥) → Misses us m 0 12
  type_missed [] m w out = tt
  type_missed (t ∷ us) m w out = ((λ e. elim w.0.behind_type [ inl x ↦ inl x | inr x ↦ absurd (out (subst (λ (y : ℕ). In y reborn) (sym e) x)) ]), type_missed us m w.1 out)

  before : (us : List Touch) (i : ℕ) → i < 8 → Each (Marked b old marks reborn) us → Outside us i
  before [] i lt w = tt
  before (t ∷ us) i lt w = let low = (tile_lies b 8 (length b) old t.tile tiled w.0.inside).low in (inl (omega arith), before us i lt w.1)

  -- all sizes stay
  pub sizes : (m : ℕ) → In m old → size_at now m ≡ size_at b m
  sizes m i =
      let l = (tile_lies b 8 (length b) old m tiled i).long in
      word_kept b now (m + 0) (m + 8) (part m 0 8 i (omega arith) (size_missed ts m marked)) (m + 0) 8 (omega arith) (omega arith)

  heads : (m : ℕ) → In m old → (In m reborn → ⊥) → Same b now (m + 0) (m + 12)
  heads m i out = part m 0 12 i (tile_lies b 8 (length b) old m tiled i).long (type_missed ts m marked out)

  kinds : (m : ℕ) → In m old → Kind b now old reborn m
  kinds m i = elim (either (is_in m reborn)) [ inl e ↦ inr (inr (true-is_in m reborn e)) | inr e ↦ inl (i, head_type b now m (heads m i (false-is_in m reborn e))) ]

  -- the image has 8 bytes before its first record
  pub changed_edit : 8 ≤ length b → Edit b now old old marks reborn
  changed_edit some = record {
    tiled = tiled;
    tiled_now = subst (λ (n : ℕ). AreTiles now 8 n old) (sym long) (tiles_same b now 8 (length b) old tiled sizes);
    longer = omega arith;
    front = record { each = λ i l u. changed.same i (omega arith) (before ts i u marked) };
    sub = λ m i. i;
    head = λ m i used out. heads m i out;
    part = λ m type lo hi i is h a fits. part m lo hi i fits (avoids-misses b old marks reborn ts type m lo hi is marked a);
    kind = kinds;
  }
