-- The steps of a command, each as an edit.
use Rattle.cdf_edits.proofs.Common.{Among, Avoids, Changed, Covers, Each, Edit, Field, Gives, HasShape, In, IsChain, IsSound, List, Mark, Marked, Same, Same-part, Shape, Takes, [], ap, append_marks, arith, before, cases_eq, either, false-is_in, field_marks, first_back_link, fixed_size, gdr_type, gdr_uir_head, giving, giving_marks, inl, inr, is_a-in, is_a-type, is_in, leb-true, length, link_behind, linkable-in, linkable-long, linkable-type, mark, nat_le, next_field, record_type, refl, removing_marks, replacing_marks, size_at, subst, sym, taking_marks, tile_lies, touch, touched_field, true-is_in, type_at, uir_next_uir, uir_prev_uir, uir_type, whole, ℕ, ◌+◌, ◌-◌, ◌==◌, ◌∙◌, ◌∷◌, ◌≡◌, ◌≢◌, ◌≤◌, ◌⊎◌}
use Rattle.cdf_edits.proofs.Space.TakenLeaves.{KeepsTaken, takes_keep}
use Rattle.cdf_edits.proofs.Space.UsedRecords.{apart}
use Rattle.cdf_edits.specs.Edits.Edit.{Kind}
use Rattle.cdf_edits.proofs.Edits.Composing.{head_type, changed_edit}

-- ---- the GDR and the bytes before it

module _ (b : List ℕ) (s : Shape) (h : HasShape b s) where
  pub gdr_in : In s.gdr s.records
  gdr_in = is_a-in b s.records gdr_type s.gdr h.gdr_stands

  pub gdr_typed : type_at b s.gdr ≡ gdr_type
  gdr_typed = is_a-type b s.records gdr_type s.gdr h.gdr_stands

  -- a record has the fixed part of its type
  pub fixed_long : (type m : ℕ) → In m s.records → type_at b m ≡ type → fixed_size type ≤ size_at b m
  fixed_long type m i is = subst (λ (t : ℕ). fixed_size t ≤ size_at b m) is (h.fixed m i)

  pub gdr_long : 84 ≤ size_at b s.gdr
  gdr_long = fixed_long gdr_type s.gdr gdr_in gdr_typed

  pub some_bytes : 8 ≤ length b
  some_bytes = let l = tile_lies b 8 (length b) s.records s.gdr h.tiled gdr_in in reach s.gdr (size_at b s.gdr) (length b) l.low l.high
    where
      reach : (x k l : ℕ) → 8 ≤ x → x + k ≤ l → 8 ≤ l
      reach x k l p q = omega arith

no_room : (n : ℕ) → 12 ≤ n → (12 ≤ 0) ⊎ (0 + n ≤ 0) → ⊥
no_room n some (inl x) = absurd (omega arith)
no_room n some (inr x) = absurd (omega arith)

-- ---- a record is taken

module _ {b now : List ℕ} {s s' : Shape} {need place : ℕ} (sound : IsSound b s) (some : 12 ≤ need) (takes : Takes b now s s' need place) where
  h : HasShape b s
  h = sound.has_shape

  keeps : KeepsTaken b now s s'.records place
  keeps = takes_keep b now s s' need place sound some takes

  listed_type : (m : ℕ) → In m s.unused → type_at b m ≡ uir_type
  listed_type m i = linkable-type b s.records uir_type m (h.unused_chain.linkable m i)

  not_gdr : (m : ℕ) → type_at b m ≡ uir_type → m ≢ s.gdr
  not_gdr m t e = apart gdr_type uir_type refl (sym (gdr_typed b s h) ∙ sym (ap (type_at b) e) ∙ t)

  start : (m : ℕ) → In m s.records → m ≢ place → Same b now (m + 0) (m + 12)
  start m i other =
      let long = (tile_lies b 8 (length b) s.records m h.tiled i).long in
      elim (cases_eq m s.gdr) [
        | inl e ↦ subst (λ (x : ℕ). Same b now (x + 0) (x + 12)) (sym e) (keeps.gdr_part 0 12 (inl (omega arith)) (inl (omega arith)) (let l = gdr_long b s h in omega arith))
        | inr ne ↦ keeps.listed_part m 0 12 i other ne (inl (omega arith)) long
      ]

  taken_type : type_at now place ≡ uir_type
  taken_type = is_a-type now s'.records uir_type place takes.stands

  old_kind : (m : ℕ) → In m s.records → type_at now m ≡ type_at b m
  old_kind m i = elim (cases_eq m place) [
    | inl e ↦ elim (either (is_in m s.unused)) [
      | inl x ↦ ap (type_at now) e ∙ taken_type ∙ sym (listed_type m (true-is_in m s.unused x))
      | inr x ↦ absurd (keeps.unlisted_apart m i (false-is_in m s.unused x) e)
    ]
    | inr ne ↦ head_type b now m (start m i ne)
  ]

  new_kind : (m : ℕ) → type_at now m ≡ uir_type → Kind b now s.records [] m
  new_kind m t = elim (either (is_in m s.records)) [
    | inl x ↦ let i = true-is_in m s.records x in inl (i, old_kind m i)
    | inr x ↦ inr (inl (false-is_in m s.records x, t))
  ]

  used_apart : (m : ℕ) → In m s.records → type_at b m ≢ uir_type → m ≢ place
  used_apart m i used = keeps.unlisted_apart m i (λ j. used (listed_type m j))

  beside : (m lo hi : ℕ) → (hi ≤ 12) ⊎ (20 ≤ lo) → (hi ≤ 20) ⊎ (28 ≤ lo) → ((hi ≤ 12) ⊎ (28 ≤ lo)) ⊎ (hi ≤ lo)
  beside m lo hi (inl x) y = inl (inl x)
  beside m lo hi (inr x) (inl y) = inr (omega arith)
  beside m lo hi (inr x) (inr y) = inl (inr y)

  taken_part : (m type lo hi : ℕ) → In m s.records → type_at b m ≡ type → Avoids (taking_marks s.unused place need) type m 0 12 → Avoids (taking_marks s.unused place need) type m lo hi → hi ≤ size_at b m → Same b now (m + lo) (m + hi)
  taken_part m type lo hi i is heads a fits = elim (either (is_in m s.unused)) [
    | inl x ↦
        let j = true-is_in m s.unused x in
        let t = listed_type m j in
        let u : type ≡ uir_type = sym is ∙ t in
        let other : m ≢ place = λ e. no_room need some (heads.1.1.1.1.0 u (inl e)) in
        elim (beside m lo hi (a.1.1.0 u j) (a.1.1.1.0 u j)) [ inl y ↦ keeps.listed_part m lo hi i other (not_gdr m t) y fits | inr y ↦ record { each = λ k l r. absurd (omega arith) } ]
    | inr x ↦ elim (cases_eq m s.gdr) [
      | inl e ↦
          let g : type ≡ gdr_type = sym is ∙ ap (type_at b) e ∙ gdr_typed b s h in
          subst (λ (x : ℕ). Same b now (x + lo) (x + hi)) (sym e) (keeps.gdr_part lo hi (a.0 g tt) (a.1.0 g tt) (subst (λ (x : ℕ). hi ≤ size_at b x) e fits))
      | inr ne ↦ Same-part b now m (m + size_at b m) (m + lo) (m + hi) (keeps.unlisted_kept m i (false-is_in m s.unused x) ne) (omega arith) (omega arith)
    ]
  ]

  pub takes_edit : Edit b now s.records s'.records (taking_marks s.unused place need) []
  takes_edit = record {
    tiled = h.tiled;
    tiled_now = takes.space.tiled;
    longer = keeps.longer;
    front = keeps.front;
    sub = keeps.sub;
    head = λ m i used out. start m i (used_apart m i used);
    part = taken_part;
    kind = λ m i. elim (keeps.new m i) [
      | inl j ↦ inl (j, old_kind m j)
      | inr j ↦ elim j [ inl e ↦ new_kind m (ap (type_at now) e ∙ taken_type) | inr t ↦ new_kind m t ]
    ];
  }

-- ---- a field is written

module _ (b now : List ℕ) (s : Shape) (h : HasShape b s) (m type : ℕ) (f : Field) (inside : In m s.records) (is : type_at b m ≡ type) (fits : f.place + f.width ≤ size_at b m) (later : 12 ≤ f.place) where
  covers_itself : Covers b (mark type (Among (m ∷ [])) f) (touched_field m f)
  covers_itself = record { typed = is; lies = inl refl; low = omega arith; high = omega arith }

  pub field_edit : Changed b now (touched_field m f ∷ []) → length now ≡ length b → Edit b now s.records s.records (field_marks type m f) []
  field_edit changed long =
      changed_edit b now s.records (touched_field m f ∷ []) (field_marks type m f) [] h.tiled long changed
      (record { inside = inside; fits = fits; behind_size = omega arith; behind_type = inl later; covered = inl covers_itself }, tt) (some_bytes b s h)

-- ---- a record is written anew, from its type on

module _ (b now : List ℕ) (s : Shape) (h : HasShape b s) (place type : ℕ) (inside : In place s.records) (is : type_at b place ≡ type) where
  tail_fits : (n : ℕ) → 12 ≤ n → 8 + (n - 8) ≤ n
  tail_fits n some = omega arith

  tail_in : (n : ℕ) → 12 ≤ n → 8 + (n - 8) ≤ 0 + n
  tail_in n some = omega arith

  pub fill_edit : Changed b now (touch place 8 (size_at b place - 8) ∷ []) → length now ≡ length b → Edit b now s.records s.records (whole type place (size_at b place) ∷ []) (place ∷ [])
  fill_edit changed long =
      let some = (tile_lies b 8 (length b) s.records place h.tiled inside).long in
      let l = tail_fits (size_at b place) some in
      changed_edit b now s.records (touch place 8 (size_at b place - 8) ∷ []) (whole type place (size_at b place) ∷ []) (place ∷ []) h.tiled long changed
      (record { inside = inside; fits = l; behind_size = omega arith; behind_type = inr (inl refl); covered = inl (record { typed = is; lies = inl refl; low = omega arith; high = tail_in (size_at b place) some }) }, tt) (some_bytes b s h)

-- ---- a record is linked

-- the link behind a chain: its head, or the next field of a member
pub link_is_behind : (holder : ℕ) (f : Field) (ms : List ℕ) → (link_behind holder f ms ≡ touched_field holder f) ⊎ ((m : ℕ) × In m ms × (link_behind holder f ms ≡ touched_field m next_field))
link_is_behind holder f [] = inl refl
link_is_behind holder f (m ∷ more) = elim (link_is_behind m next_field more) [ inl e ↦ inr (m, inl refl, e) | inr g ↦ inr (g.0, inr g.1, g.2) ]

-- a chain whose head a record of a type has
module _ (b : List ℕ) (s : Shape) (holder_type holder : ℕ) (head : Field) (type link : ℕ) (ms : List ℕ) where
  pub record Linked : Type 0 where
    pub holder_in : In holder s.records
    pub holder_typed : type_at b holder ≡ holder_type
    pub head_fits : head.place + head.width ≤ size_at b holder
    pub head_later : 12 ≤ head.place
    pub chain : IsChain b s.records type link ms

  module _ (a : Linked) (all : List ℕ) (sub : (m : ℕ) → In m ms → In m all) (front : List ℕ) (front_in : (m : ℕ) → In m front → In m ms) where
    -- the link behind some of its members
    pub link_marked : Marked b s.records (removing_marks holder_type holder head type all) [] (link_behind holder head front)
    link_marked = elim (link_is_behind holder head front) [
      | inl e ↦ subst (Marked b s.records (removing_marks holder_type holder head type all) []) (sym e) (record {
        inside = a.holder_in;
        fits = a.head_fits;
        behind_size = let l = a.head_later in omega arith;
        behind_type = inl a.head_later;
        covered = inl (record { typed = a.holder_typed; lies = inl refl; low = omega arith; high = omega arith });
      })
      | inr f ↦
          let ok = a.chain.linkable f.0 (front_in f.0 f.1) in
          let long = linkable-long b s.records type f.0 ok in
          subst (Marked b s.records (removing_marks holder_type holder head type all) []) (sym f.2) (record {
            inside = linkable-in b s.records type f.0 ok;
            fits = omega arith;
            behind_size = omega arith;
            behind_type = inl (omega arith);
            covered = inr (inl (record { typed = linkable-type b s.records type f.0 ok; lies = sub f.0 (front_in f.0 f.1); low = omega arith; high = omega arith }));
          })
    ]

  -- a record that is to be a member
  pub record Joins (place : ℕ) : Type 0 where
    pub place_in : In place s.records
    pub place_typed : type_at b place ≡ type
    pub place_long : 20 ≤ size_at b place

  next_marked : (place : ℕ) → Joins place → Marked b s.records (replacing_marks holder_type holder head type place ms) [] (touched_field place next_field)
  next_marked place j = record {
    inside = j.place_in;
    fits = let l = j.place_long in omega arith;
    behind_size = omega arith;
    behind_type = inl (omega arith);
    covered = inr (inl (record { typed = j.place_typed; lies = inl refl; low = omega arith; high = omega arith }));
  }

  pub before_in : (place : ℕ) (xs : List ℕ) (m : ℕ) → In m (before place xs) → In m xs
  before_in place [] m i = i
  before_in place (x ∷ xs) m i = elim (either (x == place)) [
    | inl e ↦ let j : In m [] = rw e at i in absurd j
    | inr e ↦ let j : In m (x ∷ before place xs) = rw e at i in elim j [ inl f ↦ inl f | inr k ↦ inr (before_in place xs m k) ]
  ]

  module _ (now : List ℕ) (h : HasShape b s) (a : Linked) (length_stays : length now ≡ length b) where
    pub append_edit : (place : ℕ) → Joins place → Changed b now (link_behind holder head ms ∷ touched_field place next_field ∷ []) → Edit b now s.records s.records (append_marks holder_type holder head type place ms) []
    append_edit place j changed =
        changed_edit b now s.records (link_behind holder head ms ∷ touched_field place next_field ∷ []) (append_marks holder_type holder head type place ms) [] h.tiled length_stays changed
        (link_marked a (place ∷ ms) (λ m i. inr i) ms (λ m i. i), (next_marked place j, tt)) (some_bytes b s h)

    pub replace_edit : (place by : ℕ) → Joins by → Changed b now (link_behind holder head (before place ms) ∷ touched_field by next_field ∷ []) → Edit b now s.records s.records (replacing_marks holder_type holder head type by ms) []
    replace_edit place by j changed =
        changed_edit b now s.records (link_behind holder head (before place ms) ∷ touched_field by next_field ∷ []) (replacing_marks holder_type holder head type by ms) [] h.tiled length_stays changed
        (link_marked a (by ∷ ms) (λ m i. inr i) (before place ms) (before_in place ms), (next_marked by j, tt)) (some_bytes b s h)

    pub remove_edit : (place : ℕ) → Changed b now (link_behind holder head (before place ms) ∷ []) → Edit b now s.records s.records (removing_marks holder_type holder head type ms) []
    remove_edit place changed =
        changed_edit b now s.records (link_behind holder head (before place ms) ∷ []) (removing_marks holder_type holder head type ms) [] h.tiled length_stays changed
        (link_marked a ms (λ m i. i) (before place ms) (before_in place ms), tt) (some_bytes b s h)

-- ---- a record is freed

module _ (b now : List ℕ) (s s' : Shape) (place type : ℕ) (h : HasShape b s) (inside : In place s.records) (is : type_at b place ≡ type) (gives : Gives b now s s' place) where
  abbrev given : List Mark
  given = giving_marks s.unused type place (size_at b place)

  in_whole : (n p w : ℕ) → p + w ≤ n → p + w ≤ 0 + n
  in_whole n p w l = omega arith

  -- bytes of the record itself
  own_marked : (f : Field) → 8 ≤ f.place → f.place + f.width ≤ size_at b place → Marked b s.records given (place ∷ []) (touched_field place f)
  own_marked f later fits = record {
    inside = inside;
    fits = fits;
    behind_size = later;
    behind_type = inr (inl refl);
    covered = inr (inr (inl (record { typed = is; lies = inl refl; low = omega arith; high = in_whole (size_at b place) f.place f.width fits })));
  }

  head_marked : Marked b s.records given (place ∷ []) (touched_field s.gdr gdr_uir_head)
  head_marked = record {
    inside = gdr_in b s h;
    fits = let l = gdr_long b s h in omega arith;
    behind_size = omega arith;
    behind_type = inl (omega arith);
    covered = inl (record { typed = gdr_typed b s h; lies = tt; low = omega arith; high = omega arith });
  }

  back_marked : (us : List ℕ) → ((m : ℕ) → In m us → In m s.unused) → Each (Marked b s.records given (place ∷ [])) (first_back_link us)
  back_marked [] sub = tt
  back_marked (u ∷ us) sub =
      let i = sub u (inl refl) in
      let ok = h.unused_chain.linkable u i in
      let long = linkable-long b s.records uir_type u ok in (
        record {
          inside = linkable-in b s.records uir_type u ok;
          fits = omega arith;
          behind_size = omega arith;
          behind_type = inl (omega arith);
          covered = inr (inl (record { typed = linkable-type b s.records uir_type u ok; lies = i; low = omega arith; high = omega arith }));
        },
        tt,
      )

  pub all_marked : Each (Marked b s.records given (place ∷ [])) (giving s.gdr s.unused place (size_at b place))
  all_marked =
      let long = (tile_lies b 8 (length b) s.records place h.tiled inside).long in (
        own_marked record_type (omega arith) (omega arith),
        elim (either (nat_le 28 (size_at b place))) [
          | inl e ↦ rw e (let l = leb-true 28 (size_at b place) e in (head_marked, (own_marked uir_next_uir (omega arith) (omega arith), (own_marked uir_prev_uir (omega arith) (omega arith), back_marked s.unused (λ m i. i)))))
          | inr e ↦ rw e tt
        ],
      )

  pub gives_edit : Edit b now s.records s.records given (place ∷ [])
  gives_edit = changed_edit b now s.records (giving s.gdr s.unused place (size_at b place)) given (place ∷ []) h.tiled gives.length_is gives.changed all_marked (some_bytes b s h)
