-- Nodes get their entries one by one.
use Rattle.cdf_cuts.proofs.Common.{AreTiles, SaysEntry, StillSays, UnusedStay, Changed, Distinct, Each, Each-append, EntriesWritten, Entry, In, In-append_left, In-append_right, Kept, List, MayRewrite, NodeCut, NodeFits, NodeInside, NodeRewritten, Rewrite, Rewritten, Stood, [], ap, append_assoc, append-nil, arith, get_or, seam, image_limit, inl, inr, length, length-append, length-map, map, map-append, next_of, node_from, node_told, number, refl, rewrite_places, rewrite_touches, room_at, size_at, subst, suc, sym, tile_lies, used_count, vxr_n_used_entries, with_field, zero, ℕ, ◌*◌, ◌++◌, ◌+◌, ◌<◌, ◌∙◌, ◌∷◌, ◌≡◌, ◌≢◌, ◌≤◌}
use Rattle.cdf_edits.proofs.Frame.ChangedBytes.{changed_then}
use Rattle.cdf_format.proofs.BytesLemmas.{type_kept}
use Rattle.cdf_index.proofs.FieldSet.{FieldSet, changed_again, changed_wider, entries_beside, field_set, node_head, room_beside, size_beside}
use Rattle.cdf_index.proofs.Inserting.{room_stays, front_stays}
use Rattle.cdf_index.proofs.OneNode.{entry_past, same_node}
use Rattle.cdf_index.proofs.TreeTouched.{Touched, touched}

-- ---- one node

pub node_rewritten : (b mid now : List ℕ) (place room used : ℕ) (entries : List Entry) → NodeInside b place → length b ≤ image_limit → room ≡ room_at b place → used ≡ used_count b place → length entries ≤ used → EntriesWritten b mid place 0 used entries → now ≡ with_field mid place vxr_n_used_entries (length entries)
    → NodeRewritten b now (record { place = place; room = room; used = used; entries = entries })
node_rewritten b mid now place room used entries inside short room_is used_is few w write =
    let same = room_stays b mid place _ w.changed (node_head inside) in
    let next : next_of mid place ≡ next_of b place = front_stays b mid place 28 _ w.changed (node_head inside) 12 8 (omega arith) in
    let counted : FieldSet mid now place vxr_n_used_entries (length entries) = field_set (omega (arith, inside.room, w.as_long)) write in
    let kept = entries_beside counted (omega arith) (omega arith) (inr (omega arith)) in
    let room_now : room_at now place ≡ room_at b place = room_beside counted (omega arith) (omega arith) (inr (omega arith)) ∙ same in
    let size_now : size_at now place ≡ size_at b place = size_beside counted (omega arith) (omega arith) (inr (omega arith)) ∙ front_stays b mid place 28 _ w.changed (node_head inside) 0 8 (omega arith) in
    let count_now : number now place vxr_n_used_entries ≡ length entries = counted.reads (omega (arith, few, used_is, inside)) in
    record {
      as_long = counted.as_long ∙ w.as_long;
      changed = changed_again (changed_wider 24 (4 + 16 * room) w.changed (omega arith) (omega (arith, room_is))) w.as_long (changed_wider 24 (4 + 16 * room) counted.changed (omega arith) (omega arith));
      room_is = room_now ∙ sym room_is;
      used_is = grind (arith, inside, few, used_is, room_now, size_now, count_now);
      count_is = count_now;
      next_stays = counted.past (place + 12) 8 (inl (omega arith)) ∙ next;
      says = λ j lt. kept j _ _ _ (w.says j (omega arith) lt);
      unused = λ j le lt f l o s. kept j f l o (w.others j (omega (arith, room_is)) (inr le) f l o s);
    }

pub kept_same : (b records : List ℕ) → AreTiles b 8 (length b) records → (m : ℕ) → In m records → Kept b b m
kept_same b records tiled m i = let l = tile_lies b 8 (length b) records m tiled i in record { same = record { each = λ k lo hi. refl }; inside = l.high; long = l.long }

-- ---- all of them

pub record Progress (b cur records : List ℕ) (all : List Rewrite) (k : ℕ) : Type 0 where
  pub done : List Rewrite
  pub rest : List Rewrite
  pub parts : all ≡ done ++ rest
  pub count : length done ≡ k
  pub written : Rewritten b cur records done
  pub may : Each (MayRewrite cur records) rest

pub nothing_changed : {b : List ℕ} → Changed b b []
nothing_changed = record { longer = omega arith; same = λ i lt o. refl }

pub begin : {b records : List ℕ} {all : List Rewrite} → AreTiles b 8 (length b) records → Each (MayRewrite b records) all → Progress b b records all 0
begin {b = b} {records = records} {all = all} tiled may =
    record {
      done = [];
      rest = all;
      parts = refl;
      count = refl;
      written = record { heads = record { sizes = λ m i. refl; types = λ m i. refl; sub = λ m i. i }; tiled = tiled; as_long = refl; changed = nothing_changed; say = tt; unused = tt; others = λ m i out. kept_same b records tiled m i };
      may = may;
    }

pub stood_still : {b now : List ℕ} (records : List ℕ) (r : Rewrite) → Kept b now r.place → Stood b records r → Stood now records r
stood_still {b = b} {now = now} records r k s =
    let n = same_node b now r.place k s.1 in
    (record { room_is = n.room_is ∙ s.0.room_is; used_is = n.used_is ∙ s.0.used_is; count_is = n.count_is ∙ s.0.count_is; gone = λ j le lt in_room. n.entries j (omega (arith, s.0.room_is)) _ _ _ (s.0.gone j le lt in_room); says = λ j lt. n.entries j (omega (arith, s.0.used_is, s.1.1)) _ _ _ (s.0.says j lt) }, grind (arith, n.size_is, n.room_is, n.used_is, s.1), s.2)

pub still_there : {b now : List ℕ} (records : List ℕ) (r : Rewrite) → Kept b now r.place → Stood b records r → (j : ℕ) → j < r.room → StillSays b now r.place j j
still_there {b = b} {now = now} records r k s j lt = (same_node b now r.place k s.1).entries j (omega (arith, s.0.room_is))

pub may_still : {b now records : List ℕ} (r : Rewrite) → Kept b now r.place → MayRewrite b records r → MayRewrite now records r
may_still {b = b} {now = now} r k s =
    let n = same_node b now r.place k s.fits in
    record { there = s.there; typed = type_kept b now r.place k.same k.long ∙ s.typed; fits = grind (arith, n.size_is, n.room_is, n.used_is, s.fits); room_is = s.room_is ∙ sym n.room_is; used_is = s.used_is ∙ sym n.used_is; few = s.few }

pub touched_by : {b now records : List ℕ} {r : Rewrite} → AreTiles b 8 (length b) records → MayRewrite b records r → NodeRewritten b now r → Touched b now records r.place
touched_by tiled may w = touched tiled may.there (omega arith) (omega (arith, may.fits.0, may.room_is)) w.changed w.as_long

pub kept_then : {b mid now : List ℕ} {m : ℕ} → Kept b mid m → size_at mid m ≡ size_at b m → Kept mid now m → Kept b now m
kept_then k s l = record { same = record { each = λ i lo hi. l.same.each i lo (omega arith) ∙ k.same.each i lo hi }; inside = k.inside; long = k.long }

pub kept_back : {b now : List ℕ} {m : ℕ} → Kept b now m → size_at now m ≡ size_at b m → length now ≡ length b → Kept now b m
kept_back k size long = record { same = record { each = λ i lo hi. sym (k.same.each i lo (omega (arith, size))) }; inside = omega (arith, k.inside, size, long); long = omega (arith, k.long, size) }

pub unused_then : (b records : List ℕ) {cur now : List ℕ} (done : List Rewrite) → Each (Stood cur records) done → Each (UnusedStay b cur) done → ((x : Rewrite) → In x.place (rewrite_places done) → Stood cur records x → (j : ℕ) → j < x.room → StillSays cur now x.place j j) → Each (UnusedStay b now) done
unused_then b records [] say unused still = tt
unused_then b records (x ∷ xs) say unused still = (λ j le lt f l o s. still x (inl refl) say.0 j lt f l o (unused.0 j le lt f l o s), unused_then b records xs say.1 unused.1 (λ y i. still y (inr i)))

-- none of the others stands at its place
pub apart_from : (p : Rewrite → ℕ) (done : List Rewrite) (r : Rewrite) (rest : List Rewrite) → Distinct (map p (done ++ r ∷ rest)) → ((m : ℕ) → In m (map p done) → m ≢ p r) × ((m : ℕ) → In m (map p rest) → m ≢ p r)
apart_from p [] r rest d = ((λ m i. absurd i), λ m i e. d.0 (subst (λ (x : ℕ). In x (map p rest)) e i))
apart_from p (x ∷ done) r rest d =
    let h = apart_from p done r rest d.1 in
    let there : In (p r) (map p (done ++ r ∷ rest)) = subst (In (p r)) (sym (map-append p done (r ∷ rest))) (In-append_right (p r) (map p done) (map p (r ∷ rest)) (inl refl)) in
    ((λ m i e. elim i [ inl q ↦ d.0 (subst (λ (y : ℕ). In y (map p (done ++ r ∷ rest))) (sym e ∙ q) there) | inr j ↦ h.0 m j e ]), h.1)

pub each_where : {P Q : Rewrite → Type 0} (p : Rewrite → ℕ) (xs : List Rewrite) → ((r : Rewrite) → In (p r) (map p xs) → P r → Q r) → Each P xs → Each Q xs
each_where p [] f e = tt
each_where p (x ∷ xs) f e = (f x (inl refl) e.0, each_where p xs (λ r i. f r (inr i)) e.1)

module _ {b cur records : List ℕ} {all : List Rewrite} {k : ℕ} (w : Progress b cur records all k) where
  -- the next one
  pub record Next (none : Rewrite) : Type 0 where
    pub tail : List Rewrite
    pub rest_is : w.rest ≡ get_or all k none ∷ tail

  pub next_of_all : (none : Rewrite) → k < length all → Next none
  next_of_all none lt = go w.done w.rest w.parts w.count refl
    where
      go : (done rest : List Rewrite) → all ≡ done ++ rest → length done ≡ k → w.rest ≡ rest → Next none
      go done [] p c e = absurd (omega (arith, ap length p, length-append done []))
      go done (x ∷ tail) p c e = let there : get_or all k none ≡ x = ap (λ (ys : List Rewrite). get_or ys k none) p ∙ ap (λ (n : ℕ). get_or (done ++ x ∷ tail) n none) (sym c) ∙ seam done x tail none in record { tail = tail; rest_is = e ∙ ap (λ (y : Rewrite). y ∷ tail) (sym there) }

  module _ {now : List ℕ} {r : Rewrite} {tail : List Rewrite} (once : Distinct (rewrite_places all)) (is : w.rest ≡ r ∷ tail) (step : NodeRewritten cur now r) where
    may_here : MayRewrite cur records r × Each (MayRewrite cur records) tail
    may_here = subst (Each (MayRewrite cur records)) is w.may

    t : Touched cur now records r.place
    t = touched_by w.written.tiled may_here.0 step

    apart : ((m : ℕ) → In m (rewrite_places w.done) → m ≢ r.place) × ((m : ℕ) → In m (rewrite_places tail) → m ≢ r.place)
    apart = apart_from (λ x. x.place) w.done r tail (subst (λ (xs : List Rewrite). Distinct (rewrite_places xs)) (w.parts ∙ ap (λ (xs : List Rewrite). w.done ++ xs) is) once)

    -- it stood as it was before
    not_done : In r.place (rewrite_places w.done) → ⊥
    not_done i = apart.0 r.place i refl

    before_it : (j : ℕ) → j < r.room → StillSays b cur r.place j j
    before_it j lt =
        let k = w.written.others r.place may_here.0.there not_done in
        let back = same_node cur b r.place (kept_back k (w.written.heads.sizes r.place may_here.0.there) w.written.as_long) may_here.0.fits in
        let n = same_node b cur r.place k (grind (arith, back.size_is, back.room_is, back.used_is, may_here.0.fits)) in
        n.entries j (omega (arith, may_here.0.room_is, back.room_is))

    here : Stood now records r
    here = (record { room_is = step.room_is; used_is = step.used_is; count_is = step.count_is; gone = λ j le lt in_room. subst (λ (e : Entry). SaysEntry now r.place j e.first e.last e.place) (entry_past r.entries j le) (step.says j lt); says = λ j lt. step.says j (omega (arith, may_here.0.few)) }, grind (arith, may_here.0.fits, may_here.0.room_is, may_here.0.used_is, may_here.0.few, step.room_is, step.used_is, t.heads.sizes r.place may_here.0.there), may_here.0.there)

    others : (m : ℕ) → In m records → (In m (rewrite_places (w.done ++ r ∷ [])) → ⊥) → Kept b now m
    others m i out =
        let parts = map-append (λ (x : Rewrite). x.place) w.done (r ∷ []) in
        let front = λ (j : In m (rewrite_places w.done)). out (subst (In m) (sym parts) (In-append_left m (rewrite_places w.done) (r.place ∷ []) j)) in
        let one = λ (e : m ≡ r.place). out (subst (In m) (sym parts) (In-append_right m (rewrite_places w.done) (r.place ∷ []) (inl e))) in
        kept_then (w.written.others m i front) (w.written.heads.sizes m i) (t.others m i one)

    written : Rewritten b now records (w.done ++ r ∷ [])
    written = record {
      heads = record { sizes = λ m i. t.heads.sizes m i ∙ w.written.heads.sizes m i; types = λ m i. t.heads.types m i ∙ w.written.heads.types m i; sub = λ m i. i };
      tiled = t.tiled;
      as_long = step.as_long ∙ w.written.as_long;
      changed = subst (Changed b now) (sym (map-append (λ (x : Rewrite). node_from x.place vxr_n_used_entries x.room) w.done (r ∷ []))) (changed_then b cur now (rewrite_touches w.done) _ w.written.changed step.changed);
      say = Each-append (Stood now records) w.done (r ∷ []) (each_where (λ x. x.place) w.done (λ x i s. stood_still records x (t.others x.place s.2 (apart.0 x.place i)) s) w.written.say) (here, tt);
      unused = Each-append (UnusedStay b now) w.done (r ∷ []) (unused_then b records w.done w.written.say w.written.unused (λ x i s j lt. still_there records x (t.others x.place s.2 (apart.0 x.place i)) s j lt)) ((λ j le lt f l o s. step.unused j le lt f l o (before_it j lt f l o s)), tt);
      others = others;
    }

    pub progressed : Progress b now records all (k + 1)
    progressed = record {
      done = w.done ++ r ∷ [];
      rest = tail;
      parts = w.parts ∙ ap (λ (xs : List Rewrite). w.done ++ xs) is ∙ sym (append_assoc w.done (r ∷ []) tail);
      count = omega (arith, length-append w.done (r ∷ []), w.count);
      written = written;
      may = each_where (λ x. x.place) tail (λ x i m. may_still x (t.others x.place m.there (apart.1 x.place i)) m) may_here.1;
    }

  pub all_done : length all ≤ k → Rewritten b cur records all
  all_done le = go w.rest (ap length w.parts ∙ length-append w.done w.rest) refl
    where
      go : (rest : List Rewrite) → length all ≡ length w.done + length rest → w.rest ≡ rest → Rewritten b cur records all
      go [] n e = subst (Rewritten b cur records) (sym (append-nil w.done) ∙ ap (λ (xs : List Rewrite). w.done ++ xs) (sym e) ∙ sym w.parts) w.written
      go (x ∷ tail) n e = absurd (omega (arith, w.count))

-- ---- what the next one asks for

pub inside_of : {b : List ℕ} (records : List ℕ) {m : ℕ} → AreTiles b 8 (length b) records → In m records → NodeFits b m → NodeInside b m
inside_of {b = b} records {m = m} tiled i fits = let l = tile_lies b 8 (length b) records m tiled i in record { low = l.low; inside = l.high; room = omega (arith, l.high, fits.0); entries = fits.0; fits = fits.1 }

pub get_or_map : {A B : Type 0} (f : A → B) (xs : List A) (k : ℕ) (d : A) → get_or (map f xs) k (f d) ≡ f (get_or xs k d)
get_or_map f [] k d = refl
get_or_map f (x ∷ xs) zero d = refl
get_or_map f (x ∷ xs) (suc k) d = get_or_map f xs k d

pub record Turn (b cur records : List ℕ) (all : List Rewrite) (k : ℕ) (r : Rewrite) : Type 0 where
  pub w : Progress b cur records all k
  pub tail : List Rewrite
  pub rest_is : w.rest ≡ r ∷ tail
  pub may : MayRewrite cur records r
  pub inside : NodeInside cur r.place

pub turn : {b cur records : List ℕ} {k : ℕ} (cuts : List NodeCut) → Progress b cur records (map node_told cuts) k → (n : NodeCut) → k < length cuts → n ≡ get_or cuts k n → Turn b cur records (map node_told cuts) k (node_told n)
turn {cur = cur} {records = records} {k = k} cuts w n lt is =
    let next = next_of_all w (node_told n) (omega (arith, length-map cuts node_told, lt)) in
    let rest : w.rest ≡ node_told n ∷ next.tail = next.rest_is ∙ ap (λ (r : Rewrite). r ∷ next.tail) (get_or_map node_told cuts k n ∙ ap node_told (sym is)) in
    let may = (subst (Each (MayRewrite cur records)) rest w.may).0 in
    record { w = w; tail = next.tail; rest_is = rest; may = may; inside = inside_of records w.written.tiled may.there may.fits }

pub turned : {b cur now records : List ℕ} {all : List Rewrite} {k : ℕ} {r : Rewrite} → Turn b cur records all k r → Distinct (rewrite_places all) → NodeRewritten cur now r → Progress b now records all (k + 1)
turned t once step = progressed t.w once t.rest_is step
