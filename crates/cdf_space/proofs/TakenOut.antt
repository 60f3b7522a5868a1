-- A member that is taken out of a chain, and counted there no more.
use Rattle.cdf_space.proofs.Common.{Attrs, Chain, Distinct, Edit, GrEntries, In, IsChain, IsOf, IsSound, List, None, RVars, Removed, ZEntries, ZVars, [], ap, arith, avoided, before, cdr_gdr_offset, cdr_room, cdr_type, count_of, counted_in, either, eq-eqb, eqb-true, field_clear, fixed_long, fixed_size, get_or, got_in, head_fits, head_of, head_width, holder_of, holder_stands, holder_type, inl, inr, is_a-in, is_a-type, is_in, is_in-true, last_or, length, length-with_field, long_of, members_of, number, refl, remove_changed, remove_edit, removing_marks, shape, size_at, subst, suc, sym, take, tile_lies, tiles, tiles_are, true, type_at, type_in, with_field, zero, ℕ, ◌+◌, ◌-◌, ◌<◌, ◌==◌, ◌∙◌, ◌∷◌, ◌≡◌, ◌≤◌}
use Rattle.cdf_edits.specs.Space.TakingOut.{Lists, TakenOut}
use Rattle.cdf_space.proofs.AddedRecord.{count_fits}
use Rattle.cdf_space.proofs.Linking.{holder_same}

front_of : (xs : List ℕ) (n : ℕ) → Distinct xs → n < length xs → before (get_or xs n 0) xs ≡ take n xs
front_of [] n once lt = absurd (omega arith)
front_of (x ∷ xs) zero once lt = rw (eq-eqb x x refl) refl
front_of (x ∷ xs) (suc n) once lt = elim (either (x == get_or xs n 0)) [
  | inl e ↦ absurd (once.0 (subst (λ (y : ℕ). In y xs) (sym (eqb-true x (get_or xs n 0) e)) (got_in xs n (omega arith))))
  | inr e ↦ rw e (ap (λ (r : List ℕ). x ∷ r) (front_of xs n once.1 (omega arith)))
]

-- what the link leaves of the CDR and of the record that has the head
record Clear (c : Chain) (holder : ℕ) (ms : List ℕ) : Type 0 where
  start : avoided (removing_marks (holder_type c) holder (head_of c) (type_in c) ms) (holder_type c) 0 12 ≡ true
  count : avoided (removing_marks (holder_type c) holder (head_of c) (type_in c) ms) (holder_type c) (count_of c).place ((count_of c).place + (count_of c).width) ≡ true
  cdr : (avoided (removing_marks (holder_type c) holder (head_of c) (type_in c) ms) cdr_type 0 12 ≡ true) × (avoided (removing_marks (holder_type c) holder (head_of c) (type_in c) ms) cdr_type 12 20 ≡ true)

clear : (c : Chain) (holder : ℕ) (ms : List ℕ) → Clear c holder ms
clear Attrs holder ms = record { start = refl; count = refl; cdr = (refl, refl) }
clear RVars holder ms = record { start = refl; count = refl; cdr = (refl, refl) }
clear ZVars holder ms = record { start = refl; count = refl; cdr = (refl, refl) }
clear (GrEntries adr) holder ms = record { start = refl; count = refl; cdr = (refl, refl) }
clear (ZEntries adr) holder ms = record { start = refl; count = refl; cdr = (refl, refl) }

module _ (b : List ℕ) (c : Chain) (members : List ℕ) (n : ℕ) (sound : IsSound b (shape b)) (lists : Lists b c members) (lt : n < length members) where
  pub member_there : is_in (get_or members n 0) (members_of b c) ≡ true
  member_there = is_in-true (get_or members n 0) (members_of b c) (subst (In (get_or members n 0)) lists.are (got_in members n lt))

  pub behind_there : last_or None (take n members) ≡ last_or None (before (get_or members n 0) (members_of b c))
  behind_there = ap (last_or None) (sym (front_of members n (subst Distinct (sym lists.are) lists.has.once) lt) ∙ ap (before (get_or members n 0)) lists.are)

  module _ {first : List ℕ} {place : ℕ} (removed : Removed b first c place) where
    abbrev holder : ℕ
    holder = holder_of b c

    is_of : IsOf b (shape b) c holder (members_of b c)
    is_of = record { holder_is = refl; chain = subst (λ (ts : List ℕ). IsChain b ts (type_in c) (number b holder (head_of c)) (members_of b c)) (tiles_are b (shape b) sound.has_shape) lists.has }

    holder_in : In holder (shape b).records
    holder_in = subst (λ (ts : List ℕ). In holder ts) (tiles_are b (shape b) sound.has_shape) (is_a-in b (tiles b) (holder_type c) holder (holder_stands b sound c lists.holder))

    holder_typed : type_at b holder ≡ holder_type c
    holder_typed = is_a-type b (tiles b) (holder_type c) holder (holder_stands b sound c lists.holder)

    holder_long : fixed_size (holder_type c) ≤ size_at b holder
    holder_long = long_of b sound (holder_type c) holder (holder_stands b sound c lists.holder)

    t : Clear c holder (members_of b c)
    t = clear c holder (members_of b c)

    e : Edit b first (shape b).records (shape b).records (removing_marks (holder_type c) holder (head_of c) (type_in c) (members_of b c)) []
    e = remove_edit b (shape b) (holder_type c) holder (head_of c) (type_in c) _ (members_of b c) first sound.has_shape (record {
      holder_in = holder_in;
      holder_typed = holder_typed;
      head_fits = (let l = holder_long in let f = (head_fits b sound c).1 in let w = head_width c in omega arith);
      head_later = (head_fits b sound c).0;
      chain = is_of.chain;
    }) removed.length_stays place (remove_changed sound.has_shape is_of removed)

    pub first_holder : holder_of first c ≡ holder_of b c
    first_holder =
        let h = sound.has_shape in
        let i = is_a-in b (shape b).records cdr_type 8 h.cdr_stands in
        let is = is_a-type b (shape b).records cdr_type 8 h.cdr_stands in
        let long = fixed_long b (shape b) h cdr_type 8 i is in
        holder_same b first c (field_clear e 8 cdr_type cdr_gdr_offset i is t.cdr.0 t.cdr.1 (omega arith))

    pub first_count : counted_in first c ≡ counted_in b c
    first_count =
        let fits : (count_of c).place + (count_of c).width ≤ size_at b holder = let l = holder_long in let f = count_fits c in omega arith in
        ap (λ (g : ℕ). number first g (count_of c)) first_holder ∙ field_clear e holder (holder_type c) (count_of c) holder_in holder_typed t.start t.count fits

    pub first_cdr : 28 ≤ length first
    first_cdr = let l = cdr_room b sound in let m = removed.length_stays in omega arith

    pub first_room : holder_of first c + (count_of c).place + 4 ≤ length first
    first_room =
        let l = tile_lies b 8 (length b) (shape b).records holder sound.has_shape.tiled holder_in in
        let f = count_fits c in
        let g = first_holder in
        let m = removed.length_stays in
        let long = holder_long in
        omega arith

    pub first_some : 0 < counted_in first c
    first_some = let k = first_count in let m = lists.counted in omega arith

    pub taken_out : (now : List ℕ) → now ≡ with_field first (holder_of first c) (count_of c) (counted_in first c - 1) → TakenOut b now c place
    taken_out now less =
        let g = first_holder in
        let k = first_count in
        record {
          first = first;
          removed = removed;
          counted = less ∙ (λ i. with_field first (g i) (count_of c) (k i - 1));
          length_stays = ap length less ∙ length-with_field first (holder_of first c) (count_of c) (counted_in first c - 1) (let r = first_room in let w = (count_fits c).2 in omega arith) ∙ removed.length_stays;
        }
