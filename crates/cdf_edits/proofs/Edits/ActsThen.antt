-- Acts that follow, and then a record is freed, or some one after the other.
use Rattle.cdf_edits.proofs.Common.{Act, ActsFollow, AllGiven, AreActs, Avoids, Bool, Each, Edit, Gave, Gives, Happens, HasLeft, HasShape, In, IsSound, List, RestStays, Same, SpaceLeft, Took, [], after_act, ap, append-nil, append_assoc, ap₂, arith, back_after, cases_eq, eq-eqb, false, fold, fold-append, gave, gdr_type, given_to, giving, giving_marks, if◌then◌else◌, inl, inr, is_a-type, le-leb, lies_in_taken, linkable-in, linkable-type, list_any, loose_records, lt-ltb, map, nat_le, nat_lt, ne_eqb, refl, shape, size_at, sized, space_before, subst, sym, taken, true, type_at, uir_type, unused, used_records, ℕ, ◌&&◌, ◌++◌, ◌+◌, ◌<◌, ◌∙◌, ◌∷◌, ◌≡◌, ◌≢◌, ◌≤◌, ◌⊎◌, true≢false}
use Rattle.cdf_edits.specs.Space.Acts.{Among, without}
use Rattle.std.proofs.lemmas.Bool.{or_right}
use Rattle.cdf_edits.proofs.Edits.Composing.{sizes}
use Rattle.cdf_edits.proofs.Edits.StepEdits.{gives_edit, all_marked}
use Rattle.cdf_edits.proofs.Space.ActsLeave.{each, places-sized, used_says, used_if, loose_says, loose_if, backs_follow, no_rest}
use Rattle.cdf_edits.proofs.Space.UsedRecords.{apart}
use Rattle.cdf_edits.proofs.Edits.FreedRecords.{MayFree, still_free, sizes_stay}
use Rattle.cdf_edits.proofs.Edits.MarkLemmas.{the_one}

pub each_in : (P : ℕ → Type 0) (xs : List ℕ) (m : ℕ) → Each P xs → In m xs → P m
each_in P [] m h i = absurd i
each_in P (x ∷ xs) m h (inl q) = subst P (sym q) h.0
each_in P (x ∷ xs) m h (inr i) = each_in P xs m h.1 i

-- ---- lists of acts

acts_append : (l : SpaceLeft) (acts : List Act) (act : Act) → AreActs l acts → Happens (fold after_act l acts) act → AreActs l (acts ++ act ∷ [])
acts_append l [] act a h = (h, tt)
acts_append l (x ∷ acts) act a h = (a.0, acts_append (after_act l x) acts act a.1 h)

among_out : (m n p : ℕ) (xs : List (ℕ × ℕ)) → Among (m, n) (without p xs) → Among (m, n) xs
among_out m n p [] a = a
among_out m n p (x ∷ xs) a = elim (cases_eq x.0 p) [
  | inl q ↦ let c : Among (m, n) (without p xs) = rw (eq-eqb x.0 p q) at a in inr (among_out m n p xs c)
  | inr ne ↦ let c : Among (m, n) (x ∷ without p xs) = rw (ne_eqb x.0 p ne) at a in elim c [ inl q ↦ inl q | inr d ↦ inr (among_out m n p xs d) ]
]

among_in : (m n p : ℕ) (xs : List (ℕ × ℕ)) → m ≢ p → Among (m, n) xs → Among (m, n) (without p xs)
among_in m n p [] ne a = a
among_in m n p (x ∷ xs) ne (inl q) = let other : x.0 ≢ p = λ e. ne (ap (λ (pair : ℕ × ℕ). pair.0) q ∙ e) in rw (ne_eqb x.0 p other) (inl q)
among_in m n p (x ∷ xs) ne (inr a) = elim (cases_eq x.0 p) [
  | inl q ↦ rw (eq-eqb x.0 p q) (among_in m n p xs ne a)
  | inr other ↦ rw (ne_eqb x.0 p other) (inr (among_in m n p xs ne a))
]

-- what is in use after acts was taken by one, or was in use before them
used_from : (l : SpaceLeft) (acts : List Act) (p n : ℕ) → Among (p, n) (fold after_act l acts).used → Among (p, n) (taken acts) ⊎ Among (p, n) l.used
used_from l [] p n a = inr a
used_from l (Took place need ∷ acts) p n a = elim (used_from (after_act l (Took place need)) acts p n a) [
  | inl i ↦ inl (inr i)
  | inr c ↦ elim c [ inl q ↦ inl (inl q) | inr d ↦ inr d ]
]
used_from l (Gave place size ∷ acts) p n a = elim (used_from (after_act l (Gave place size)) acts p n a) [ inl i ↦ inl i | inr c ↦ inr (among_out p n place l.used c) ]

taken_still : (acts : List Act) (p size : ℕ) → taken (acts ++ Gave p size ∷ []) ≡ taken acts
taken_still [] p size = refl
taken_still (Took place need ∷ acts) p size = ap (λ (x : List (ℕ × ℕ)). (place, need) ∷ x) (taken_still acts p size)
taken_still (Gave place n ∷ acts) p size = taken_still acts p size

-- a byte of a record that was taken
lies_taken : (xs : List (ℕ × ℕ)) (p n i : ℕ) → Among (p, n) xs → p ≤ i → i < p + n → list_any (λ take. nat_le take.0 i && nat_lt i (take.0 + take.1)) xs ≡ true
lies_taken [] p n i a low high = absurd a
lies_taken (x ∷ xs) p n i (inl q) low high =
    let here : (nat_le x.0 i && nat_lt i (x.0 + x.1)) ≡ true = subst (λ (y : ℕ × ℕ). (nat_le y.0 i && nat_lt i (y.0 + y.1)) ≡ true) q (rw (le-leb p i low, lt-ltb i (p + n) high) refl) in
    rw here refl
lies_taken (x ∷ xs) p n i (inr a) low high = or_right (nat_le x.0 i && nat_lt i (x.0 + x.1)) (list_any (λ take. nat_le take.0 i && nat_lt i (take.0 + take.1)) xs) (lies_taken xs p n i a low high)

-- ---- a record is freed

module _ {b mid now : List ℕ} {acts : List Act} {place : ℕ} (was : HasShape b (shape b)) (before : ActsFollow b mid acts) (sound : IsSound mid (shape mid)) (inside : In place (shape mid).records) (used : type_at mid place ≢ uir_type) (gives : Gives mid now (shape mid) (shape now) place) where
  h : HasShape mid (shape mid)
  h = sound.has_shape

  abbrev size : ℕ
  size = size_at mid place

  pub given_edit : Edit mid now (shape mid).records (shape mid).records (giving_marks (shape mid).unused (type_at mid place) place size) (place ∷ [])
  given_edit = gives_edit mid now (shape mid) (shape now) place (type_at mid place) h inside refl gives

  now_in : (m : ℕ) → In m (shape now).records → In m (shape mid).records
  now_in m i = subst (In m) gives.records_stay i

  pub given_type : type_at now place ≡ uir_type
  given_type = is_a-type now (shape now).records uir_type place gives.stands

  other_type : (m : ℕ) → In m (shape mid).records → m ≢ place → type_at now m ≡ type_at mid m
  other_type m i ne = elim (given_edit.kind m i) [ inl j ↦ j.1 | inr j ↦ elim j [ inl new ↦ absurd (new.0 i) | inr r ↦ absurd (ne (the_one place m r)) ] ]

  avoids : (lo hi : ℕ) → (hi ≤ 20) ⊎ (28 ≤ lo) → (m : ℕ) → Avoids (giving_marks (shape mid).unused (type_at mid place) place size) uir_type m lo hi
  avoids lo hi beside m = ((λ q lies. absurd (apart uir_type gdr_type refl q)), ((λ q lies. elim beside [ inl x ↦ inl x | inr x ↦ inr x ]), ((λ q lies. absurd (used (sym q))), tt)))

  unused_part : (m lo hi : ℕ) → In m (shape mid).records → type_at mid m ≡ uir_type → (hi ≤ 20) ⊎ (28 ≤ lo) → hi ≤ size_at mid m → Same mid now (m + lo) (m + hi)
  unused_part m lo hi i t beside fits = given_edit.part m uir_type lo hi i t (avoids 0 12 (inl (omega arith)) m) (avoids lo hi beside m) fits

  same_sizes : (m : ℕ) → In m (shape mid).records → size_at now m ≡ size_at mid m
  same_sizes m i = sizes mid now (shape mid).records (giving (shape mid).gdr (shape mid).unused place size) (giving_marks (shape mid).unused (type_at mid place) place size) (place ∷ []) h.tiled gives.length_is gives.changed (all_marked mid now (shape mid) (shape now) place (type_at mid place) h inside refl gives) m i

  pub given_size : size_at now place ≡ size
  given_size = same_sizes place inside

  abbrev so_far : SpaceLeft
  so_far = fold after_act (space_before b) acts

  pub in_use : Among (place, size) so_far.used
  in_use = each_in (λ m. Among (m, size_at mid m) so_far.used) (used_records mid) place before.left.used_are (used_if mid place inside used)

  abbrev after : List Act
  after = acts ++ Gave place size ∷ []

  abbrev by_now : SpaceLeft
  by_now = after_act so_far (Gave place size)

  after_is : fold after_act (space_before b) after ≡ by_now
  after_is = fold-append after_act (space_before b) acts (Gave place size ∷ [])

  listed_places : (shape now).unused ≡ (if nat_le 28 size then place ∷ (shape mid).unused else (shape mid).unused)
  listed_places = sym (places-sized now (shape now).unused) ∙ ap (map (λ pair. pair.0)) gives.list_is ∙ by (nat_le 28 size)
    where
      by : (p : Bool) → map (λ pair. pair.0) (if p then (place, size) ∷ unused mid (shape mid) else unused mid (shape mid)) ≡ (if p then place ∷ (shape mid).unused else (shape mid).unused)
      by true = ap (λ (x : List ℕ). place ∷ x) (places-sized mid (shape mid).unused)
      by false = places-sized mid (shape mid).unused

  stays_listed : (m : ℕ) → In m (shape mid).unused → In m (shape now).unused
  stays_listed m i = subst (In m) (sym listed_places) (by (nat_le 28 size))
    where
      by : (p : Bool) → In m (if p then place ∷ (shape mid).unused else (shape mid).unused)
      by true = inr i
      by false = i

  pub was_listed : (m : ℕ) → In m (shape now).unused → (m ≡ place) ⊎ In m (shape mid).unused
  was_listed m i = by (nat_le 28 size) (subst (In m) listed_places i)
    where
      by : (p : Bool) → In m (if p then place ∷ (shape mid).unused else (shape mid).unused) → (m ≡ place) ⊎ In m (shape mid).unused
      by true (inl q) = inl q
      by true (inr j) = inr j
      by false j = inr j

  -- one of less than 28 bytes is on no list
  small_loose : (m : ℕ) → m ≡ place → (In m (shape now).unused → ⊥) → Among (m, size_at now m) by_now.loose
  small_loose m q out = by (nat_le 28 size) (λ i. out (subst (In m) (sym listed_places) i))
    where
      by : (p : Bool) → (In m (if p then place ∷ (shape mid).unused else (shape mid).unused) → ⊥) → Among (m, size_at now m) (if p then so_far.loose else (place, size) ∷ so_far.loose)
      by true off = absurd (off (inl q))
      by false off = inl (ap₂ (λ (x n : ℕ). (x, n)) q (ap (size_at now) q ∙ given_size))

  more_loose : (m n : ℕ) → Among (m, n) so_far.loose → Among (m, n) by_now.loose
  more_loose m n a = by (nat_le 28 size)
    where
      by : (p : Bool) → Among (m, n) (if p then so_far.loose else (place, size) ∷ so_far.loose)
      by true = a
      by false = inr a

  used_among : (m : ℕ) → In m (used_records now) → Among (m, size_at now m) by_now.used
  used_among m i =
      let u = used_says now m i in
      let ne : m ≢ place = λ q. u.1 (ap (type_at now) q ∙ given_type) in
      let is = now_in m u.0 in
      subst (λ (n : ℕ). Among (m, n) by_now.used) (sym (same_sizes m is)) (among_in m (size_at mid m) place so_far.used ne
      (each_in (λ m. Among (m, size_at mid m) so_far.used) (used_records mid) m before.left.used_are (used_if mid m is (λ t. u.1 (other_type m is ne ∙ t)))))

  loose_among : (m : ℕ) → In m (loose_records now) → Among (m, size_at now m) by_now.loose
  loose_among m i =
      let l = loose_says now m i in
      let is = now_in m l.stands in
      elim (cases_eq m place) [
        | inl q ↦ small_loose m q l.unlisted
        | inr ne ↦ subst (λ (n : ℕ). Among (m, n) by_now.loose) (sym (same_sizes m is)) (more_loose m (size_at mid m) (each_in (λ m. Among (m, size_at mid m) so_far.loose) (loose_records mid) m before.left.loose_are
            (loose_if mid m (record { stands = is; typed = sym (other_type m is ne) ∙ l.typed; unlisted = λ j. l.unlisted (stays_listed m j) }))))
      ]

  -- it was in use before, so no record of the unused list had it, or it was taken
  rest_given : (split : ℕ) → In split (shape b).unused → split < place → place < split + size_at b split → (i : ℕ) → place ≤ i → i < place + size → lies_in_taken after i ≡ false → ⊥
  rest_given split i low high n l u untaken = elim (used_from (space_before b) acts place size in_use) [
    | inl t ↦ true≢false (sym (ap (list_any (λ take. nat_le take.0 n && nat_lt n (take.0 + take.1))) (taken_still acts place size) ∙ lies_taken (taken acts) place size n t l u) ∙ untaken)
    | inr x ↦ no_rest b was split place (linkable-in b (shape b).records uir_type split (was.unused_chain.linkable split i)) (used_says b place (sized_in b (used_records b) place size x)).0 low high
  ]
    where
      sized_in : (b : List ℕ) (xs : List ℕ) (p n : ℕ) → Among (p, n) (sized b xs) → In p xs
      sized_in b [] p n a = a
      sized_in b (x ∷ xs) p n (inl q) = inl (ap (λ (pair : ℕ × ℕ). pair.0) q)
      sized_in b (x ∷ xs) p n (inr a) = inr (sized_in b xs p n a)

  rest_listed : (split rest : ℕ) → In split (shape b).unused → In rest (shape mid).unused → RestStays b now after split rest
  rest_listed split rest i j low high n l u untaken =
      let is = linkable-in mid (shape mid).records uir_type rest (h.unused_chain.linkable rest j) in
      let t = linkable-type mid (shape mid).records uir_type rest (h.unused_chain.linkable rest j) in
      let size = same_sizes rest is in
      let first = each_in (RestStays b mid acts split) (shape mid).unused rest (each_in (λ split. Each (RestStays b mid acts split) (shape mid).unused) (shape b).unused split before.rests i) j low high in
      let then_ = unused_part rest 28 (size_at mid rest) is t (inr (omega arith)) (omega arith) in
      then_.each n l (omega arith) ∙ first n l (omega arith) (ap (list_any (λ take. nat_le take.0 n && nat_lt n (take.0 + take.1))) (sym (taken_still acts place _)) ∙ untaken)

  pub acts_gave : ActsFollow b now after
  acts_gave = record {
    are = acts_append (space_before b) acts (Gave place size) before.are in_use;
    left = subst (HasLeft now) (sym after_is) (record {
      used_are = each (λ m. Among (m, size_at now m) by_now.used) (used_records now) used_among;
      list_is = gives.list_is ∙ ap (λ (l : List (ℕ × ℕ)). given_to l place size) before.left.list_is;
      back_is =
          backs_follow mid now (shape mid).unused 0 (shape now).unused gives.back
          ∙ ap (λ (w : List (ℕ × ℕ)). back_after w (shape mid).unused 0 (sized now (shape now).unused)) before.left.back_is
          ∙ ap (λ (w : List ℕ). back_after so_far.back w 0 (sized now (shape now).unused)) (sym (places-sized mid (shape mid).unused) ∙ ap (map (λ pair. pair.0)) before.left.list_is)
          ∙ ap (back_after so_far.back (map (λ pair. pair.0) so_far.listed) 0) (gives.list_is ∙ ap (λ (l : List (ℕ × ℕ)). given_to l place size) before.left.list_is);
      loose_are = each (λ m. Among (m, size_at now m) by_now.loose) (loose_records now) loose_among;
      end_is = gives.length_is ∙ before.left.end_is;
    });
    rests = each (λ split. Each (RestStays b now after split) (shape now).unused) (shape b).unused (λ split i.
        each (RestStays b now after split) (shape now).unused (λ rest j low high n l u untaken.
        elim (was_listed rest j) [
          | inl q ↦ absurd (rest_given split i (subst (λ (x : ℕ). split < x) q low) (subst (λ (x : ℕ). x < split + size_at b split) q high) n (let e : place ≤ rest = omega arith in omega arith) (in_place rest n q l u) untaken)
          | inr k ↦ rest_listed split rest i k low high n l u untaken
        ]));
  }
    where
      in_place : (rest n : ℕ) → rest ≡ place → rest + 28 ≤ n → n < rest + size_at now rest → n < place + size
      in_place rest n q l u = subst (λ (x : ℕ). n < place + x) given_size (subst (λ (x : ℕ). n < x + size_at now x) q u)

-- ---- records are freed one after the other

-- they are no takes
pub taken-gave : (b places : List ℕ) → taken (gave b places) ≡ []
taken-gave b [] = refl
taken-gave b (p ∷ more) = taken-gave b more

pub gave-same : (b mid places : List ℕ) → ((m : ℕ) → In m places → size_at mid m ≡ size_at b m) → gave mid places ≡ gave b places
gave-same b mid [] same = refl
gave-same b mid (p ∷ more) same = ap₂ (λ (n : ℕ) (rest : List Act). Gave p n ∷ rest) (same p (inl refl)) (gave-same b mid more (λ m i. same m (inr i)))

pub all_gave : (b mid now : List ℕ) (acts : List Act) (types places : List ℕ) → HasShape b (shape b) → ActsFollow b mid acts → IsSound mid (shape mid) → MayFree mid types places → AllGiven mid now places → ActsFollow b now (acts ++ gave mid places)
all_gave b mid now acts types [] was before sound may same = subst (λ (x : List ℕ). ActsFollow b x (acts ++ [])) (sym same) (subst (ActsFollow b mid) (sym (append-nil acts)) before)
all_gave b mid now acts types (place ∷ more) was before sound may all =
    let given = all.1.0 in
    let inside = may.stand place (inl refl) in
    let one = acts_gave was before sound inside (may.used place (inl refl)) given.0 in
    let rest = all_gave b all.0 now (acts ++ Gave place (size_at mid place) ∷ []) types more was one given.1 (still_free sound given types more may) all.1.1 in
    subst (ActsFollow b now) (append_assoc acts (Gave place (size_at mid place) ∷ []) (gave all.0 more) ∙ ap (λ (xs : List Act). acts ++ Gave place (size_at mid place) ∷ xs) (gave-same mid all.0 more (λ m i. sizes_stay sound given inside m (may.stand m (inr i))))) rest
