-- The space that acts leave: of none, and of one that takes a record.
use Rattle.cdf_edits.proofs.Common.{ActsFollow, Bool, Each, HasShape, In, List, RestStays, [], ap, ap₂, arith, back_after, back_in, back_links, either, eq-eqb, eqb-true, false, false-is_in, filter-in, if◌then◌else◌, inl, inr, is_in, is_in-false, length, linkable-in, loose_records, map, number, refl, shape, size_at, sized, stands_behind, subst, sym, tiles_lie_apart, true, type_at, uir_prev_uir, uir_type, unused_records, used_records, ℕ, ◌+◌, ◌<◌, ◌==◌, ◌∙◌, ◌∷◌, ◌≡◌, ◌≢◌, true≢false, not_false}
use Rattle.std.proofs.Common.{not, ◌&&◌, ◌||◌}
use Rattle.cdf_edits.specs.Space.Acts.{Among}
use Rattle.cdf_format.proofs.SpaceLemmas.{in-filter}
pub use Rattle.cdf_edits.proofs.Space.UnusedLists.{sizes_same}
use Rattle.cdf_edits.proofs.Space.UsedRecords.{filter-says}

-- it holds of each
pub each : (P : ℕ → Type 0) (xs : List ℕ) → ((m : ℕ) → In m xs → P m) → Each P xs
each P [] h = tt
each P (x ∷ xs) h = (h x (inl refl), each P xs (λ m i. h m (inr i)))

pub among_sized : (b : List ℕ) (xs : List ℕ) (m n : ℕ) → In m xs → n ≡ size_at b m → Among (m, n) (sized b xs)
among_sized b [] m n i e = absurd i
among_sized b (x ∷ xs) m n (inl q) e = inl (ap₂ (λ (p r : ℕ). (p, r)) q (e ∙ ap (size_at b) q))
among_sized b (x ∷ xs) m n (inr i) e = inr (among_sized b xs m n i e)

pub places-sized : (b places : List ℕ) → map (λ (pair : ℕ × ℕ). pair.0) (sized b places) ≡ places
places-sized b [] = refl
places-sized b (p ∷ ps) = ap (λ (more : List ℕ). p ∷ more) (places-sized b ps)

-- ---- records in use, and those on no list

pub used_says : (now : List ℕ) (m : ℕ) → In m (used_records now) → In m (shape now).records × (type_at now m ≢ uir_type)
used_says now m i =
    let says = not_false (type_at now m == uir_type) (filter-says (λ place. not (type_at now place == uir_type)) (shape now).records m i) in
    (filter-in (λ place. not (type_at now place == uir_type)) (shape now).records m i, (λ e. true≢false (sym (eq-eqb (type_at now m) uir_type e) ∙ says)))

pub used_if : (b : List ℕ) (m : ℕ) → In m (shape b).records → type_at b m ≢ uir_type → In m (used_records b)
used_if b m i other =
    let test : (type_at b m == uir_type) ≡ false = elim (either (type_at b m == uir_type)) [ inl e ↦ absurd (other (eqb-true (type_at b m) uir_type e)) | inr e ↦ e ] in
    in-filter (λ place. not (type_at b place == uir_type)) (shape b).records m i (ap not test)

pub record IsLoose (b : List ℕ) (m : ℕ) : Type 0 where
  pub stands : In m (shape b).records
  pub typed : type_at b m ≡ uir_type
  pub unlisted : In m (shape b).unused → ⊥

pub loose_says : (now : List ℕ) (m : ℕ) → In m (loose_records now) → IsLoose now m
loose_says now m i =
    let unused_one = filter-in (λ place. not (is_in place (shape now).unused)) (unused_records now (shape now)) m i in
    let out = not_false (is_in m (shape now).unused) (filter-says (λ place. not (is_in place (shape now).unused)) (unused_records now (shape now)) m i) in
    record {
      stands = filter-in (λ place. type_at now place == uir_type) (shape now).records m unused_one;
      typed = eqb-true (type_at now m) uir_type (filter-says (λ place. type_at now place == uir_type) (shape now).records m unused_one);
      unlisted = false-is_in m (shape now).unused out;
    }

pub loose_if : (b : List ℕ) (m : ℕ) → IsLoose b m → In m (loose_records b)
loose_if b m l =
    in-filter (λ place. not (is_in place (shape b).unused)) (unused_records b (shape b)) m
    (in-filter (λ place. type_at b place == uir_type) (shape b).records m l.stands (eq-eqb (type_at b m) uir_type l.typed))
    (ap not (is_in-false m (shape b).unused l.unlisted))

-- ---- back links

abbrev pub backs : List ℕ → List ℕ → List (ℕ × ℕ)
backs b list = map (λ uir. (uir, number b uir uir_prev_uir)) list

back_found : (b list : List ℕ) (uir : ℕ) → In uir list → back_in (backs b list) uir ≡ number b uir uir_prev_uir
back_found b [] uir i = absurd i
back_found b (x ∷ xs) uir i = elim (either (x == uir)) [
  | inl e ↦ rw (back_in, e) (ap (λ (m : ℕ). number b m uir_prev_uir) (eqb-true x uir e))
  | inr e ↦ rw (back_in, e) (back_found b xs uir (elim i [ inl q ↦ absurd (true≢false (sym (eq-eqb x uir (sym q)) ∙ e)) | inr j ↦ j ]))
]

stands_in : (before : ℕ) (was : List ℕ) (other uir : ℕ) → stands_behind before was other uir ≡ true → In uir was
stands_in before [] other uir e = absurd cc
stands_in before (x ∷ xs) other uir e = elim (either (x == uir)) [
  | inl q ↦ inl (sym (eqb-true x uir q))
  | inr q ↦ inr (stands_in x xs other uir (later (before == other) (x == uir) (stands_behind x xs other uir) q e))
]
  where
    later : (p q r : Bool) → q ≡ false → ((p && q) || r) ≡ true → r ≡ true
    later true true r f g = absurd cc
    later true false r f g = g
    later false q r f g = g

abbrev first_of : List ℕ → ℕ
first_of [] = 0
first_of (n ∷ more) = n

abbrev rest_of : List ℕ → List ℕ
rest_of [] = []
rest_of (n ∷ more) = more

-- the links of a list whose records ask for them
pub backs_follow : (b now was : List ℕ) (before : ℕ) (list : List ℕ) → map (λ uir. number now uir uir_prev_uir) list ≡ back_links b was before list → backs now list ≡ back_after (backs b was) was before (sized now list)
backs_follow b now was before [] e = refl
backs_follow b now was before (uir ∷ more) e =
    let here : number now uir uir_prev_uir ≡ (if stands_behind 0 was before uir then number b uir uir_prev_uir else before) = ap first_of e in
    let found : (if stands_behind 0 was before uir then number b uir uir_prev_uir else before) ≡ (if stands_behind 0 was before uir then back_in (backs b was) uir else before) =
    elim (either (stands_behind 0 was before uir)) [ inl q ↦ rw q (sym (back_found b was uir (stands_in 0 was before uir q))) | inr q ↦ rw q refl ] in
    ap₂ (λ (n : ℕ) (rest : List (ℕ × ℕ)). (uir, n) ∷ rest) (here ∙ found) (backs_follow b now was uir more (ap rest_of e))

pub backs_same : (b now list : List ℕ) → ((m : ℕ) → In m list → number now m uir_prev_uir ≡ number b m uir_prev_uir) → backs now list ≡ backs b list
backs_same b now [] same = refl
backs_same b now (m ∷ more) same = ap₂ (λ (n : ℕ) (rest : List (ℕ × ℕ)). (m, n) ∷ rest) (same m (inl refl)) (backs_same b now more (λ x i. same x (inr i)))

-- ---- no act

-- each record has the size, the type and the link back that it had
pub record SameHeads (b now : List ℕ) : Type 0 where
  pub records : (shape now).records ≡ (shape b).records
  pub list : (shape now).unused ≡ (shape b).unused
  pub long : length now ≡ length b
  pub size : (m : ℕ) → In m (shape b).records → size_at now m ≡ size_at b m
  pub type : (m : ℕ) → In m (shape b).records → type_at now m ≡ type_at b m
  pub back : (m : ℕ) → In m (shape b).unused → number now m uir_prev_uir ≡ number b m uir_prev_uir

-- no record begins within another
pub no_rest : (b : List ℕ) → HasShape b (shape b) → (split rest : ℕ) → In split (shape b).records → In rest (shape b).records → split < rest → rest < split + size_at b split → ⊥
no_rest b h split rest i j low high =
    elim (tiles_lie_apart b 8 (length b) (shape b).records split rest h.tiled i j (λ e. absurd (omega arith))) [ inl x ↦ absurd (omega arith) | inr x ↦ absurd (omega arith) ]

pub no_acts : (b now : List ℕ) → HasShape b (shape b) → SameHeads b now → ActsFollow b now []
no_acts b now h same =
    let listed = λ (m : ℕ) (i : In m (shape b).unused). linkable-in b (shape b).records uir_type m (h.unused_chain.linkable m i) in
    let old = λ (m : ℕ) (i : In m (shape now).records). subst (In m) same.records i in
    record {
      are = tt;
      left = record {
        used_are = each (λ place. Among (place, size_at now place) (sized b (used_records b))) (used_records now) (λ m i.
            let u = used_says now m i in
            let is = old m u.0 in
            among_sized b (used_records b) m (size_at now m) (used_if b m is (λ e. u.1 (same.type m is ∙ e))) (same.size m is));
        list_is = ap (sized now) same.list ∙ sizes_same b now (shape b).unused (λ m i. same.size m (listed m i));
        back_is = ap (backs now) same.list ∙ backs_same b now (shape b).unused same.back;
        loose_are = each (λ place. Among (place, size_at now place) (sized b (loose_records b))) (loose_records now) (λ m i.
            let l = loose_says now m i in
            let is = old m l.stands in
            among_sized b (loose_records b) m (size_at now m)
            (loose_if b m (record { stands = is; typed = sym (same.type m is) ∙ l.typed; unlisted = λ j. l.unlisted (subst (In m) (sym same.list) j) })) (same.size m is));
        end_is = same.long;
      };
      rests = each (λ split. Each (RestStays b now [] split) (shape now).unused) (shape b).unused (λ split i.
          each (RestStays b now [] split) (shape now).unused (λ rest j low high.
          absurd (no_rest b h split rest (listed split i) (listed rest (subst (In rest) same.list j)) low high)));
    }
