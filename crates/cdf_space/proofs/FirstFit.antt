-- A walk along the unused list, up to the first record that fits.
use Rattle.cdf_space.proofs.Common.{HasShape, In, In-append_right, IsFirstFit, IsSound, Leads, List, NoneFit, Shape, [], ap, append-nil, append_assoc, arith, end_place, false, fits, gdr_uir_head, inl, last_of, length, length-append, length-le_from_distinct, length_tiles, linkable-in, linkable-long, next_of, number, refl, size_at, some_place, subst, sym, tile_lies, true, uir_type, ℕ, ◌++◌, ◌+◌, ◌∙◌, ◌∷◌, ◌≡◌, ◌≢◌, ◌≤◌}
use Rattle.cdf_edits.proofs.Space.UnusedLists.{last_push}

-- the records of a front part do not fit, and the list goes on behind them
pub record IsOnTheList (b : List ℕ) (s : Shape) (need link before place turn : ℕ) : Type 0 where
  pub front : List ℕ
  pub rest : List ℕ
  pub list_is : s.unused ≡ front ++ rest
  pub count_is : length front ≡ turn
  pub leads : Leads b place rest 0
  pub none : NoneFit b need front
  pub link_is : link ≡ end_place (s.gdr + 64) front
  pub before_is : before ≡ last_of 0 front

end_push : (place : ℕ) (front : List ℕ) (m : ℕ) → end_place place (front ++ m ∷ []) ≡ m + 12
end_push place [] m = refl
end_push place (x ∷ front) m = end_push (x + 12) front m

none_push : (b : List ℕ) (need : ℕ) (front : List ℕ) (m : ℕ) → NoneFit b need front → fits need (size_at b m) ≡ false → NoneFit b need (front ++ m ∷ [])
none_push b need [] m none e = (e, tt)
none_push b need (x ∷ front) m none e = (none.0, none_push b need front m none.1 e)

module _ (b : List ℕ) (s : Shape) (need : ℕ) (sound : IsSound b s) where
  h : HasShape b s
  h = sound.has_shape

  pub list_start : IsOnTheList b s need (s.gdr + 64) 0 (number b s.gdr gdr_uir_head) 0
  list_start = record { front = []; rest = s.unused; list_is = refl; count_is = refl; leads = h.unused_chain.leads; none = tt; link_is = refl; before_is = refl }

  pub listed_lies : (m : ℕ) → In m s.unused → m + 28 ≤ length b
  listed_lies m i =
      let ok = h.unused_chain.linkable m i in
      let l = tile_lies b 8 (length b) s.records m h.tiled (linkable-in b s.records uir_type m ok) in
      let w = linkable-long b s.records uir_type m ok in
      omega (arith, l.high)

  pub listed_some : (m : ℕ) → In m s.unused → m ≢ 0
  listed_some m i = some_place b s.records (length b) m h.tiled (linkable-in b s.records uir_type m (h.unused_chain.linkable m i))

  first_of : (link before place turn : ℕ) (w : IsOnTheList b s need link before place turn) → place ≢ 0 → (more : List ℕ) × (w.rest ≡ place ∷ more)
  first_of link before place turn w ne = go w.rest w.leads
    where
      go : (rest : List ℕ) → Leads b place rest 0 → (more : List ℕ) × (rest ≡ place ∷ more)
      go [] l = absurd (ne l)
      go (m ∷ more) l = (more, ap (λ (x : ℕ). x ∷ more) (sym l.0))

  pub place_listed : (link before place turn : ℕ) → IsOnTheList b s need link before place turn → place ≢ 0 → In place s.unused
  place_listed link before place turn w ne =
      let r = first_of link before place turn w ne in
      subst (λ (xs : List ℕ). In place xs) (sym w.list_is) (In-append_right place w.front w.rest (subst (λ (xs : List ℕ). In place xs) (sym r.1) (inl refl)))

  pub list_on : (link before place turn : ℕ) → IsOnTheList b s need link before place turn → place ≢ 0 → fits need (size_at b place) ≡ false → IsOnTheList b s need (place + 12) place (next_of b place) (turn + 1)
  list_on link before place turn w ne e =
      let r = first_of link before place turn w ne in
      let leads : Leads b place (place ∷ r.0) 0 = subst (λ (xs : List ℕ). Leads b place xs 0) r.1 w.leads in
      let count = w.count_is in
      record {
        front = w.front ++ place ∷ [];
        rest = r.0;
        list_is = w.list_is ∙ ap (λ (xs : List ℕ). w.front ++ xs) r.1 ∙ sym (append_assoc w.front (place ∷ []) r.0);
        count_is = omega (arith, length-append w.front (place ∷ []));
        leads = leads.1;
        none = none_push b need w.front place w.none e;
        link_is = sym (end_push (s.gdr + 64) w.front place);
        before_is = sym (last_push 0 w.front place);
      }

  pub list_found : (link before place turn size next : ℕ) → IsOnTheList b s need link before place turn → place ≢ 0 → fits need (size_at b place) ≡ true → size ≡ size_at b place → next ≡ next_of b place → IsFirstFit b s need (record { link = link; before = before; place = place; size = size; next = next })
  list_found link before place turn size next w ne e f n =
      let r = first_of link before place turn w ne in
      record {
        front = w.front;
        more = r.0;
        list_is = w.list_is ∙ ap (λ (xs : List ℕ). w.front ++ xs) r.1;
        none_before = w.none;
        it_fits = e;
        link_is = w.link_is;
        before_is = w.before_is;
        size_is = f;
        next_is = n;
      }

  pub list_ends : (link before place turn : ℕ) → IsOnTheList b s need link before place turn → place ≡ 0 → NoneFit b need s.unused
  list_ends link before place turn w z =
      let nil = go w.rest w.leads (λ m i. listed_some m (subst (λ (xs : List ℕ). In m xs) (sym w.list_is) (In-append_right m w.front w.rest i))) in
      subst (λ (xs : List ℕ). NoneFit b need xs) (sym (w.list_is ∙ ap (λ (xs : List ℕ). w.front ++ xs) nil ∙ append-nil w.front)) w.none
    where
      go : (rest : List ℕ) → Leads b place rest 0 → ((m : ℕ) → In m rest → m ≢ 0) → rest ≡ []
      go [] l nz = refl
      go (m ∷ more) l nz = absurd (nz m (inl refl) (sym l.0 ∙ z))

  pub list_short : (link before place turn : ℕ) → IsOnTheList b s need link before place turn → turn ≤ length b
  list_short link before place turn w =
      let few = length-le_from_distinct s.unused s.records h.unused_chain.once (λ m i. linkable-in b s.records uir_type m (h.unused_chain.linkable m i)) in
      let all = length_tiles b 8 (length b) s.records h.tiled in
      let count = w.count_is in
      let parts : length s.unused ≡ length w.front + length w.rest = ap length w.list_is ∙ length-append w.front w.rest in
      omega arith
