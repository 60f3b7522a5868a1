-- Nodes get others behind them, one by one.
use Rattle.cdf_cuts.proofs.Common.{AreTiles, StillSays, Changed, Distinct, Each, Each-append, FieldSet, In, seam, In-append_left, In-append_right, Kept, Linked, List, MayRelink, NodeLink, Relinked, Rewrite, Stood, Touched, [], ap, append_assoc, append-nil, arith, cases_eq, counts, entries_beside, field_set, get_or, inl, inr, length, length-append, link_places, link_touches, map-append, next_kept, refl, room_beside, size_beside, subst, sym, tile_lies, touched, touched_field, used_count, vxr_vxr_next, with_field, ℕ, ◌++◌, ◌+◌, ◌<◌, ◌∙◌, ◌∷◌, ◌≡◌, ◌≢◌, ◌≤◌}
use Rattle.cdf_cuts.proofs.Rewriting.{kept_same, kept_then, nothing_changed, still_there, stood_still}
use Rattle.cdf_edits.proofs.Frame.ChangedBytes.{changed_then}

pub record Progress (b cur records : List ℕ) (all : List NodeLink) (k : ℕ) : Type 0 where
  pub done : List NodeLink
  pub rest : List NodeLink
  pub parts : all ≡ done ++ rest
  pub count : length done ≡ k
  pub written : Relinked b cur records done
  pub may : Each (MayRelink cur records) rest

pub begin : {b records : List ℕ} {all : List NodeLink} → AreTiles b 8 (length b) records → Each (MayRelink b records) all → Progress b b records all 0
begin {b = b} {records = records} {all = all} tiled may =
    record {
      done = [];
      rest = all;
      parts = refl;
      count = refl;
      written = record { heads = record { sizes = λ m i. refl; types = λ m i. refl; sub = λ m i. i }; tiled = tiled; as_long = refl; changed = nothing_changed; say = tt; nodes = λ r s. s; still = λ r s j lt f l o e. e; others = λ m i out. kept_same b records tiled m i };
      may = may;
    }

-- a link is written
pub stood_beside : {b now : List ℕ} {n : ℕ} (records : List ℕ) (r : Rewrite) → FieldSet b now r.place vxr_vxr_next n → Stood b records r → Stood now records r
stood_beside {b = b} {now = now} records r set s =
    let room = room_beside set (omega arith) (omega arith) (inl (omega arith)) in
    let size = size_beside set (omega arith) (omega arith) (inl (omega arith)) in
    let used : used_count now r.place ≡ used_count b r.place = λ i. counts (set.past (r.place + 24) 4 (inr (omega arith)) i) (room i) (size i) in
    (record { room_is = room ∙ s.0.room_is; used_is = used ∙ s.0.used_is; count_is = set.past (r.place + 24) 4 (inr (omega arith)) ∙ s.0.count_is; gone = λ j le lt in_room. entries_beside set (omega arith) (omega arith) (inl (omega arith)) j _ _ _ (s.0.gone j le lt in_room); says = λ j lt. entries_beside set (omega arith) (omega arith) (inl (omega arith)) j _ _ _ (s.0.says j lt) }, grind (arith, room, size, used, s.1), s.2)

pub apart_from : (done : List NodeLink) (r : NodeLink) (rest : List NodeLink) → Distinct (link_places (done ++ r ∷ rest)) → (m : ℕ) → In m (link_places done) → m ≢ r.place
apart_from [] r rest d m i e = absurd i
apart_from (x ∷ done) r rest d m i e =
    let there : In r.place (link_places (done ++ r ∷ rest)) = subst (In r.place) (sym (map-append (λ (l : NodeLink). l.place) done (r ∷ rest))) (In-append_right r.place (link_places done) (link_places (r ∷ rest)) (inl refl)) in
    elim i [ inl q ↦ d.0 (subst (λ (y : ℕ). In y (link_places (done ++ r ∷ rest))) (sym e ∙ q) there) | inr j ↦ apart_from done r rest d.1 m j e ]

pub each_where : {P Q : NodeLink → Type 0} (xs : List NodeLink) → ((r : NodeLink) → In r.place (link_places xs) → P r → Q r) → Each P xs → Each Q xs
each_where [] f e = tt
each_where (x ∷ xs) f e = (f x (inl refl) e.0, each_where xs (λ r i. f r (inr i)) e.1)

module _ {b cur records : List ℕ} {all : List NodeLink} {k : ℕ} (w : Progress b cur records all k) where
  pub record Next (none : NodeLink) : Type 0 where
    pub tail : List NodeLink
    pub rest_is : w.rest ≡ get_or all k none ∷ tail

  pub next_of_all : (none : NodeLink) → k < length all → Next none
  next_of_all none lt = go w.done w.rest w.parts w.count refl
    where
      go : (done rest : List NodeLink) → all ≡ done ++ rest → length done ≡ k → w.rest ≡ rest → Next none
      go done [] p c e = absurd (omega (arith, ap length p, length-append done []))
      go done (x ∷ tail) p c e = let there : get_or all k none ≡ x = ap (λ (ys : List NodeLink). get_or ys k none) p ∙ ap (λ (n : ℕ). get_or (done ++ x ∷ tail) n none) (sym c) ∙ seam done x tail none in record { tail = tail; rest_is = e ∙ ap (λ (y : NodeLink). y ∷ tail) (sym there) }

  module _ {now : List ℕ} {r : NodeLink} {tail : List NodeLink} (once : Distinct (link_places all)) (is : w.rest ≡ r ∷ tail) (set : FieldSet cur now r.place vxr_vxr_next r.next) where
    may_here : MayRelink cur records r × Each (MayRelink cur records) tail
    may_here = subst (Each (MayRelink cur records)) is w.may

    t : Touched cur now records r.place
    t = touched w.written.tiled may_here.0.0 (omega arith) (omega (arith, may_here.0.1)) set.changed set.as_long

    apart : (m : ℕ) → In m (link_places w.done) → m ≢ r.place
    apart = apart_from w.done r tail (subst (λ (xs : List NodeLink). Distinct (link_places xs)) (w.parts ∙ ap (λ (xs : List NodeLink). w.done ++ xs) is) once)

    linked_still : (l : NodeLink) → In l.place (link_places w.done) → Linked cur records l → Linked now records l
    linked_still l i s = (let k = t.others l.place s.1 (apart l.place i) in next_kept cur now l.place k.same (omega (arith, s.2)) ∙ s.0, s.1, omega (arith, s.2, t.heads.sizes l.place s.1))

    nodes_still : (x : Rewrite) → Stood b records x → Stood now records x
    nodes_still x s =
        let was = w.written.nodes x s in
        elim (cases_eq x.place r.place) [
          | inl e ↦ stood_beside records x (subst (λ (p : ℕ). FieldSet cur now p vxr_vxr_next r.next) (sym e) set) was
          | inr ne ↦ stood_still records x (t.others x.place was.2 ne) was
        ]

    entries_still : (x : Rewrite) → Stood b records x → (j : ℕ) → j < x.room → StillSays b now x.place j j
    entries_still x s j lt f l o e =
        let was = w.written.nodes x s in
        let said = w.written.still x s j lt f l o e in
        elim (cases_eq x.place r.place) [
          | inl q ↦ entries_beside (subst (λ (p : ℕ). FieldSet cur now p vxr_vxr_next r.next) (sym q) set) (omega arith) (omega arith) (inl (omega arith)) j f l o said
          | inr ne ↦ still_there records x (t.others x.place was.2 ne) was j lt f l o said
        ]

    others : (m : ℕ) → In m records → (In m (link_places (w.done ++ r ∷ [])) → ⊥) → Kept b now m
    others m i out =
        let parts = map-append (λ (x : NodeLink). x.place) w.done (r ∷ []) in
        let front = λ (j : In m (link_places w.done)). out (subst (In m) (sym parts) (In-append_left m (link_places w.done) (r.place ∷ []) j)) in
        let one = λ (e : m ≡ r.place). out (subst (In m) (sym parts) (In-append_right m (link_places w.done) (r.place ∷ []) (inl e))) in
        kept_then (w.written.others m i front) (w.written.heads.sizes m i) (t.others m i one)

    here : Linked now records r
    here = (set.reads may_here.0.2, may_here.0.0, omega (arith, may_here.0.1, t.heads.sizes r.place may_here.0.0))

    written : Relinked b now records (w.done ++ r ∷ [])
    written = record {
      heads = record { sizes = λ m i. t.heads.sizes m i ∙ w.written.heads.sizes m i; types = λ m i. t.heads.types m i ∙ w.written.heads.types m i; sub = λ m i. i };
      tiled = t.tiled;
      as_long = set.as_long ∙ w.written.as_long;
      changed = subst (Changed b now) (sym (map-append (λ (x : NodeLink). touched_field x.place vxr_vxr_next) w.done (r ∷ []))) (changed_then b cur now (link_touches w.done) _ w.written.changed set.changed);
      say = Each-append (Linked now records) w.done (r ∷ []) (each_where w.done linked_still w.written.say) (here, tt);
      nodes = nodes_still;
      still = entries_still;
      others = others;
    }

    may_still : (x : NodeLink) → MayRelink cur records x → MayRelink now records x
    may_still x m = (m.0, omega (arith, m.1, t.heads.sizes x.place m.0), m.2)

    pub progressed : Progress b now records all (k + 1)
    progressed = record {
      done = w.done ++ r ∷ [];
      rest = tail;
      parts = w.parts ∙ ap (λ (xs : List NodeLink). w.done ++ xs) is ∙ sym (append_assoc w.done (r ∷ []) tail);
      count = omega (arith, length-append w.done (r ∷ []), w.count);
      written = written;
      may = each_where tail (λ x i m. may_still x m) may_here.1;
    }

  pub all_done : length all ≤ k → Relinked b cur records all
  all_done le = go w.rest (ap length w.parts ∙ length-append w.done w.rest) refl
    where
      go : (rest : List NodeLink) → length all ≡ length w.done + length rest → w.rest ≡ rest → Relinked b cur records all
      go [] n e = subst (Relinked b cur records) (sym (append-nil w.done) ∙ ap (λ (xs : List NodeLink). w.done ++ xs) (sym e) ∙ sym w.parts) w.written
      go (x ∷ tail) n e = absurd (omega (arith, w.count))

pub record Turn (b cur records : List ℕ) (all : List NodeLink) (k : ℕ) (r : NodeLink) : Type 0 where
  pub w : Progress b cur records all k
  pub tail : List NodeLink
  pub rest_is : w.rest ≡ r ∷ tail
  pub lies : r.place + 20 ≤ length cur

pub turn : {b cur records : List ℕ} {all : List NodeLink} {k : ℕ} → Progress b cur records all k → (none : NodeLink) → k < length all → Turn b cur records all k (get_or all k none)
turn {cur = cur} {records = records} {all = all} {k = k} w none lt =
    let next = next_of_all w none lt in
    let may = (subst (Each (MayRelink cur records)) next.rest_is w.may).0 in
    let l = tile_lies cur 8 (length cur) records (get_or all k none).place w.written.tiled may.0 in
    record { w = w; tail = next.tail; rest_is = next.rest_is; lies = omega (arith, l.high, may.1) }

pub turned : {b cur now records : List ℕ} {all : List NodeLink} {k : ℕ} {r : NodeLink} → Turn b cur records all k r → Distinct (link_places all) → now ≡ with_field cur r.place vxr_vxr_next r.next → Progress b now records all (k + 1)
turned t once is = progressed t.w once t.rest_is (field_set (omega (arith, t.lies)) is)
