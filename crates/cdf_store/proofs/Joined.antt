-- The bytes of a file in pieces: read, written, cut, and one empty piece more.
use Rattle.std.proofs.Common.{◌≡◌, ◌∙◌, ℕ, zero, suc, ◌+◌, ◌-◌, ◌*◌, ◌<◌, ◌≤◌, ◌/◌, ◌%◌, max, List, [], ◌∷◌, ◌++◌, length, take, drop, get_or, refl, sym, ap, ap₂, subst, inl, inr, append_assoc, append-nil, arith, add-zero, length-append, length-drop, vec_capacity}
use Rattle.std.proofs.lemmas.Bool.{cases_lt}
use Rattle.std.proofs.lemmas.List.{drop-append-le, take-append-le, length-take, length-take-le, nil_from_length, take-append-drop, take_all, drop_all}
use Rattle.std.proofs.lemmas.List.Edits.{paste_all, paste-paste}
use Rattle.std.proofs.Math.ListN.{set}
use Rattle.std.proofs.Math.Seq.{paste, take-append-add, drop-append-add}
use Rattle.std.specs.declared.alloc.Global.{Global}
use Rattle.std.specs.declared.vec.Vec.{Vec}
use Rattle.cdf_base.specs.Bytes.{put}
use Rattle.cdf_base.proofs.Puts.{put-append}
use Rattle.cdf_store.specs.Pieces.{ArePieces, joined}
use Rattle.cdf_store.specs.Reading.{ReadsPiece}

-- ---- bytes put into a list that may grow by them

pub length-written : (b : List ℕ) (place : ℕ) (xs : List ℕ) → place ≤ length b → length (put b place xs) ≡ max (length b) (place + length xs)
unfolding put
length-written b place xs le =
    omega (arith, length-append (take place b) (xs ++ drop (place + length xs) b), length-append xs (drop (place + length xs) b), length-take-le place b le, length-drop (place + length xs) b)

-- the next bytes
pub put_on : (b xs ys : List ℕ) (place : ℕ) → place ≤ length b → put (put b place xs) (place + length xs) ys ≡ put b place (xs ++ ys)
unfolding put
put_on b xs ys place le =
    sym (paste_all (take place b ++ (xs ++ drop (place + length xs) b)) (place + length xs) ys (length ys) refl)
    ∙ ap (λ (l : List ℕ). paste l (place + length xs) ys (length ys)) (sym (paste_all b place xs (length xs) refl))
    ∙ paste-paste b place xs ys (length xs) (length ys) refl refl le
    ∙ paste_all b place (xs ++ ys) (length xs + length ys) (sym (length-append xs ys))
    ∙ ap (λ n. take place b ++ ((xs ++ ys) ++ drop (place + n) b)) (sym (length-append xs ys))

-- no bytes
pub put-nil : (b : List ℕ) (place : ℕ) (xs : List ℕ) → length xs ≡ 0 → put b place xs ≡ b
unfolding put
put-nil b place xs none = rw (nil_from_length xs none, add-zero) (take-append-drop place b)

-- bytes over all, and behind all
pub put_over : (b : List ℕ) (place : ℕ) (xs : List ℕ) → place ≡ 0 → length b ≤ length xs → put b place xs ≡ xs
unfolding put
put_over b place xs first long = rw first (ap (λ (l : List ℕ). xs ++ l) (drop_all (0 + length xs) b (omega (arith, long))) ∙ append-nil xs)

pub put_end : (b : List ℕ) (place : ℕ) (xs : List ℕ) → place ≡ length b → put b place xs ≡ b ++ xs
unfolding put
put_end b place xs end =
    ap₂ (λ (u v : List ℕ). u ++ (xs ++ v)) (take_all place b (omega (arith, end))) (drop_all (place + length xs) b (omega (arith, end))) ∙ ap (λ (l : List ℕ). b ++ l) (append-nil xs)

put-behind : (a b : List ℕ) (place : ℕ) (xs : List ℕ) → put (a ++ b) (length a + place) xs ≡ a ++ put b place xs
unfolding put
put-behind a b place xs =
    let e : length a + place + length xs ≡ length a + (place + length xs) = omega arith in
    ap₂ (λ (u v : List ℕ). u ++ (xs ++ v)) (take-append-add a b place) (rw e (drop-append-add a b (place + length xs))) ∙ append_assoc a (take place b) (xs ++ drop (place + length xs) b)

put-front : (a b : List ℕ) (place : ℕ) (xs : List ℕ) → (length a < place + length xs → b ≡ []) → put (a ++ b) place xs ≡ put a place xs ++ b
put-front a b place xs none = elim (cases_lt (length a) (place + length xs)) [
  | inl past ↦ rw (none past, append-nil a, append-nil) refl
  | inr within ↦ put-append a b place xs within
]

-- ---- all pieces

pub joined_bound : (ps : List (Vec ℕ Global)) → ArePieces ps → length (joined ps) ≤ length ps * 65536
unfolding joined ArePieces
joined_bound [] are = omega arith
joined_bound (p ∷ ps) are = omega (arith, are.1, joined_bound ps are.3, length-append p.items (joined ps))

-- an empty piece more
pub joined_push : (ps : List (Vec ℕ Global)) (p : Vec ℕ Global) → p.items ≡ [] → joined (ps ++ p ∷ []) ≡ joined ps
unfolding joined
joined_push [] p none = rw none refl
joined_push (x ∷ ps) p none = ap (λ (l : List ℕ). x.items ++ l) (joined_push ps p none)

pub pieces_push : (ps : List (Vec ℕ Global)) (p : Vec ℕ Global) → p.items ≡ [] → 65536 ≤ vec_capacity p → ArePieces ps → ArePieces (ps ++ p ∷ [])
unfolding joined ArePieces
pieces_push [] p none room are = (room, omega (arith, ap (λ (l : List ℕ). length l) none), (λ short. refl), tt)
pieces_push (x ∷ ps) p none room are =
    (are.0, are.1, (λ short. joined_push ps p none ∙ are.2 short), pieces_push ps p none room are.3)

-- ---- one piece

-- a piece has its room, and stands between the bytes of those before and behind it, and so does each other one in its place
record At (ps : List (Vec ℕ Global)) (i : ℕ) (p : Vec ℕ Global) : Type 0 where
  front : List ℕ
  rest : List ℕ
  long : length front ≡ i * 65536
  whole : joined ps ≡ front ++ (p.items ++ rest)
  room : 65536 ≤ vec_capacity p
  size : length p.items ≤ 65536
  last : length p.items < 65536 → rest ≡ []
  other : (q : Vec ℕ Global) → 65536 ≤ vec_capacity q → length q.items ≤ 65536 → (length q.items < 65536 → rest ≡ []) → ArePieces (set ps i q) × (joined (set ps i q) ≡ front ++ (q.items ++ rest))

at_piece : (ps : List (Vec ℕ Global)) (i : ℕ) (p : Vec ℕ Global) → ArePieces ps → p ≡ get_or ps i p → i < length ps → i * 65536 ≤ length (joined ps) → At ps i p
unfolding joined ArePieces
at_piece [] i p are is lt le = absurd (omega arith)
at_piece (x ∷ ps) zero p are is lt le =
    rw is (record { front = []; rest = joined ps; long = refl; whole = refl; room = are.0; size = are.1; last = are.2; other = λ q room size last. ((room, size, last, are.3), refl) })
at_piece (x ∷ ps) (suc i) p are is lt le =
    let full : length x.items ≡ 65536 = elim (cases_lt (length x.items) 65536) [
      | inl short ↦ absurd (omega (arith, le, length-append x.items (joined ps), ap (λ (l : List ℕ). length l) (are.2 short)))
      | inr full ↦ omega (arith, full, are.1)
    ] in
    let r = at_piece ps i p are.3 is (omega arith) (omega (arith, le, full, length-append x.items (joined ps))) in
    record {
      front = x.items ++ r.front;
      rest = r.rest;
      long = omega (arith, full, r.long, length-append x.items r.front);
      whole = ap (λ (l : List ℕ). x.items ++ l) r.whole ∙ sym (append_assoc x.items r.front (p.items ++ r.rest));
      room = r.room;
      size = r.size;
      last = r.last;
      other = λ q room size last.
          let (now, bytes) = r.other q room size last in
          ((are.0, are.1, (λ short. absurd (omega (arith, full, short))), now), ap (λ (l : List ℕ). x.items ++ l) bytes ∙ sym (append_assoc x.items r.front (q.items ++ r.rest)));
    }

module _ {ps : List (Vec ℕ Global)} {i : ℕ} {p : Vec ℕ Global} (r : At ps i p) where
  count : length (joined ps) ≡ i * 65536 + (length p.items + length r.rest)
  count = omega (arith, ap (λ (l : List ℕ). length l) r.whole, r.long, length-append r.front (p.items ++ r.rest), length-append p.items r.rest)

  -- where the bytes end in a piece, none are behind it
  last_count : length p.items < 65536 → length r.rest ≡ 0
  last_count short = ap (λ (l : List ℕ). length l) (r.last short)

  -- a place among all bytes, or at their end, is one of the piece
  within : (o : ℕ) → o < 65536 → i * 65536 + o ≤ length (joined ps) → o ≤ length p.items
  within o lt le = elim (cases_lt (length p.items) 65536) [
    | inl short ↦ omega (arith, count, le, last_count short)
    | inr full ↦ omega (arith, lt, full)
  ]

  -- the bytes from a place in the piece on
  from : (o : ℕ) → o ≤ length p.items → drop (i * 65536 + o) (joined ps) ≡ drop o p.items ++ r.rest
  from o le =
      ap (drop (i * 65536 + o)) r.whole ∙ ap (λ m. drop (m + o) (r.front ++ (p.items ++ r.rest))) (sym r.long) ∙ drop-append-add r.front (p.items ++ r.rest) o
      ∙ drop-append-le o p.items r.rest le

  -- bytes that lie in the piece
  lend : (o n : ℕ) → o + n ≤ 65536 → i * 65536 + o + n ≤ length (joined ps) → (o + n ≤ length p.items) × (take n (drop o p.items) ≡ take n (drop (i * 65536 + o) (joined ps)))
  lend o n fits inside =
      let there : o + n ≤ length p.items = elim (cases_lt (length p.items) 65536) [
        | inl short ↦ omega (arith, count, inside, last_count short)
        | inr full ↦ omega (arith, fits, full)
      ] in
      (there, sym (ap (take n) (from o (omega (arith, there))) ∙ take-append-le n (drop o p.items) r.rest (omega (arith, there, length-drop o p.items))))

  read : (o n : ℕ) (out : List ℕ) → o < 65536 → o ≤ length p.items → ReadsPiece p.items o out n → ReadsPiece (joined ps) (i * 65536 + o) out n
  read o n out lt le given =
      let some : n ≤ length (drop o p.items) = omega (arith, given.fits, ap (λ (l : List ℕ). length l) given.bytes, length-take n out, length-take n (drop o p.items)) in
      record {
        fits = given.fits;
        bytes = given.bytes ∙ sym (ap (take n) (from o le) ∙ take-append-le n (drop o p.items) r.rest some);
        none = λ zero. elim (given.none zero) [
          | inl full ↦ inl full
          | inr past ↦ inr (omega (arith, count, past, lt, last_count (omega (arith, past, lt))))
        ];
      }

  -- other bytes, of which none are behind the piece where it is not full
  put_in_piece : (o : ℕ) (xs : List ℕ) (q : Vec ℕ Global) → o ≤ length p.items → o + length xs ≤ 65536 → 65536 ≤ vec_capacity q → q.items ≡ put p.items o xs
      → ArePieces (set ps i q) × (joined (set ps i q) ≡ put (joined ps) (i * 65536 + o) xs)
  put_in_piece o xs q le fits room is =
      let size : length q.items ≡ max (length p.items) (o + length xs) = ap (λ (l : List ℕ). length l) is ∙ length-written p.items o xs le in
      let now = r.other q room (omega (arith, size, fits, r.size)) (λ short. r.last (omega (arith, short, size))) in (
        now.0,
        now.1 ∙ ap (λ (l : List ℕ). r.front ++ l) (ap (λ (l : List ℕ). l ++ r.rest) is ∙ sym (put-front p.items r.rest o xs (λ past. r.last (omega (arith, past, fits)))))
            ∙ sym (ap (λ (l : List ℕ). put l (i * 65536 + o) xs) r.whole ∙ ap (λ m. put (r.front ++ (p.items ++ r.rest)) (m + o) xs) (sym r.long) ∙ put-behind r.front (p.items ++ r.rest) o xs),
      )

  -- no bytes are behind a piece within which all end
  cut_piece : (o : ℕ) (q : Vec ℕ Global) → length (joined ps) ≤ i * 65536 + 65536 → 65536 ≤ vec_capacity q → q.items ≡ take o p.items → ArePieces (set ps i q) × (joined (set ps i q) ≡ take (i * 65536 + o) (joined ps))
  cut_piece o q end room is =
      let none : r.rest ≡ [] = elim (cases_lt (length p.items) 65536) [
        | inl short ↦ r.last short
        | inr full ↦ nil_from_length r.rest (omega (arith, count, full, end))
      ] in
      let now = r.other q room (omega (arith, ap (λ (l : List ℕ). length l) is, length-take o p.items, r.size)) (λ short. none) in (
        now.0,
        now.1 ∙ ap₂ (λ (u v : List ℕ). r.front ++ (u ++ v)) is none ∙ ap (λ (l : List ℕ). r.front ++ l) (append-nil (take o p.items))
            ∙ sym (ap (take (i * 65536 + o)) (r.whole ∙ ap (λ (l : List ℕ). r.front ++ (p.items ++ l)) none ∙ ap (λ (l : List ℕ). r.front ++ l) (append-nil p.items))
            ∙ ap (λ m. take (m + o) (r.front ++ p.items)) (sym r.long) ∙ take-append-add r.front p.items o),
      )

-- ---- the piece in which a place lies

-- with other bytes in it, these bytes stand from the place on
pub record Put (ps : List (Vec ℕ Global)) (place : ℕ) (q : Vec ℕ Global) (xs : List ℕ) : Type 0 where
  pub pieces : ArePieces (set ps (place / 65536) q)
  pub bytes : joined (set ps (place / 65536) q) ≡ put (joined ps) place xs
  pub size : length (joined (set ps (place / 65536) q)) ≡ max (length (joined ps)) (place + length xs)

-- or these bytes alone are left
pub record Cut (ps : List (Vec ℕ Global)) (place : ℕ) (q : Vec ℕ Global) (end : ℕ) : Type 0 where
  pub pieces : ArePieces (set ps (place / 65536) q)
  pub bytes : joined (set ps (place / 65536) q) ≡ take end (joined ps)
  pub size : length (joined (set ps (place / 65536) q)) ≡ end

module _ (ps : List (Vec ℕ Global)) (place : ℕ) (p : Vec ℕ Global) (are : ArePieces ps) (is : p ≡ get_or ps (place / 65536) p) (inside : place ≤ length (joined ps)) (there : place / 65536 < length ps) where
  split : place / 65536 * 65536 + place % 65536 ≡ place
  split = omega arith

  piece : At ps (place / 65536) p
  piece = at_piece ps (place / 65536) p are is there (omega (arith, inside))

  pub piece_room : 65536 ≤ vec_capacity p
  piece_room = piece.room

  pub piece_place : place % 65536 ≤ length p.items
  piece_place = within piece (place % 65536) (omega arith) (omega (arith, inside))

  pub read_piece : (n : ℕ) (out : List ℕ) → ReadsPiece p.items (place % 65536) out n → ReadsPiece (joined ps) place out n
  read_piece n out given = subst (λ m. ReadsPiece (joined ps) m out n) split (read piece (place % 65536) n out (omega arith) piece_place given)

  pub lend_piece : (n : ℕ) → place % 65536 + n ≤ 65536 → place + n ≤ length (joined ps)
      → (place % 65536 + n ≤ length p.items) × (take n (drop (place % 65536) p.items) ≡ take n (drop place (joined ps)))
  lend_piece n fits ends =
      let (inside, bytes) = lend piece (place % 65536) n fits (omega (arith, split, ends)) in
      (inside, bytes ∙ ap (λ m. take n (drop m (joined ps))) split)

  pub put_piece : (q : Vec ℕ Global) (xs : List ℕ) → place % 65536 + length xs ≤ 65536 → 65536 ≤ vec_capacity q → q.items ≡ put p.items (place % 65536) xs → Put ps place q xs
  put_piece q xs fits room items =
      let now = put_in_piece piece (place % 65536) xs q piece_place fits room items in
      let bytes = now.1 ∙ ap (λ m. put (joined ps) m xs) split in record { pieces = now.0; bytes = bytes; size = ap (λ (l : List ℕ). length l) bytes ∙ length-written (joined ps) place xs inside }

  -- it is the last with bytes, and gets fewer
  pub cut_last : (end : ℕ) (q : Vec ℕ Global) → length (joined ps) ≡ place + 1 → place / 65536 * 65536 ≤ end → end ≤ length (joined ps) → 65536 ≤ vec_capacity q → q.items ≡ take (end - place / 65536 * 65536) p.items → Cut ps place q end
  cut_last end q last le fits room items =
      let now = cut_piece piece (end - place / 65536 * 65536) q (omega (arith, last)) room items in
      let there : place / 65536 * 65536 + (end - place / 65536 * 65536) ≡ end = omega (arith, le) in
      let bytes = now.1 ∙ ap (λ m. take m (joined ps)) there in record { pieces = now.0; bytes = bytes; size = ap (λ (l : List ℕ). length l) bytes ∙ length-take-le end (joined ps) fits }
