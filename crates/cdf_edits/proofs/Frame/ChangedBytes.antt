-- Changes add up, and what they miss stays.
use Rattle.cdf_edits.proofs.Common.{AreTiles, Changed, In, List, Misses, Outside, Placed, Same, Touch, TouchesNone, [], arith, byte-put_after, byte-put_before, cases_eq, get_or_append_left, inl, inr, length, length-append, length-put, put, size_at, subst, tile_lies, tiles_lie_apart, touch, ℕ, ◌++◌, ◌+◌, ◌<◌, ◌∙◌, ◌∷◌, ◌≡◌, ◌≤◌, ◌⊎◌}

pub Outside-append : (ts us : List Touch) (i : ℕ) → Outside (ts ++ us) i → Outside ts i × Outside us i
Outside-append [] us i o = (tt, o)
Outside-append (t ∷ ts) us i o = let r = Outside-append ts us i o.1 in ((o.0, r.0), r.1)

pub changed_put : (b : List ℕ) (tile place n : ℕ) (xs : List ℕ) → length xs ≡ n → tile + place + n ≤ length b → Changed b (put b (tile + place) xs) (touch tile place n ∷ [])
changed_put b tile place n xs e fits = record {
  longer = omega (arith, length-put b (tile + place) xs (omega arith));
  same = λ i lt o. elim o.0 [ inl before ↦ byte-put_before b (tile + place) xs i (omega arith) before | inr after ↦ byte-put_after b (tile + place) xs i (omega arith) (omega arith) ];
}

pub changed_more : (b zs : List ℕ) → Changed b (b ++ zs) []
changed_more b zs = record { longer = omega (arith, length-append b zs); same = λ i lt o. get_or_append_left b zs 0 i lt }

pub changed_then : (b mid now : List ℕ) (ts us : List Touch) → Changed b mid ts → Changed mid now us → Changed b now (ts ++ us)
changed_then b mid now ts us c d = record { longer = omega (arith, c.longer, d.longer); same = λ i lt o. let r = Outside-append ts us i o in let l = c.longer in d.same i (omega arith) r.1 ∙ c.same i lt r.0 }

-- no touch is in a record
pub misses_none : (ts : List Touch) (ms : List ℕ) (m from upto : ℕ) → TouchesNone ts ms → In m ms → Misses ts m from upto
misses_none [] ms m from upto n i = tt
misses_none (t ∷ ts) ms m from upto n i = ((λ e. absurd (n.0 (subst (λ (x : ℕ). In x ms) e i))), misses_none ts ms m from upto n.1 i)

module _ (b now : List ℕ) (records : List ℕ) (upto : ℕ) (tiled : AreTiles b 8 upto records) (inside : upto ≤ length b) where
  missed : (ts : List Touch) (m lo hi i : ℕ) → Placed b records upto ts → In m records → hi ≤ size_at b m → Misses ts m lo hi → m + lo ≤ i → i < m + hi → Outside ts i
  missed [] m lo hi i p j fits miss l h = tt
  missed (t ∷ ts) m lo hi i p j fits miss l h =
      let lies = tile_lies b 8 upto records m tiled j in
      let high = lies.high in
      let here : (i < t.tile + t.place) ⊎ (t.tile + t.place + t.width ≤ i) = elim p.0 [
        | inl q ↦ elim (cases_eq m t.tile) [
          | inl e ↦ elim (miss.0 e) [ inl x ↦ inl (omega arith) | inr x ↦ inr (omega arith) ]
          | inr ne ↦ elim (tiles_lie_apart b 8 upto records m t.tile tiled j q.0 ne) [ inl x ↦ inl (omega arith) | inr x ↦ inr (omega (arith, q.1)) ]
        ]
        | inr q ↦ inl (omega arith)
      ] in
      (here, missed ts m lo hi i p.1 j fits miss.1 l h)

  -- the part of a record that no touch meets is the same
  pub changed_part : (ts : List Touch) → Changed b now ts → Placed b records upto ts → (m lo hi : ℕ) → In m records → hi ≤ size_at b m → Misses ts m lo hi → Same b now (m + lo) (m + hi)
  changed_part ts c p m lo hi j fits miss = let high = (tile_lies b 8 upto records m tiled j).high in record { each = λ i l h. c.same i (omega arith) (missed ts m lo hi i p j fits miss l h) }

  -- a record with no touch in it is the same
  pub changed_whole : (ts : List Touch) → Changed b now ts → Placed b records upto ts → (ms : List ℕ) (m : ℕ) → In m records → In m ms → TouchesNone ts ms → Same b now m (m + size_at b m)
  changed_whole ts c p ms m j i none =
      let s = changed_part ts c p m 0 (size_at b m) j (omega arith) (misses_none ts ms m 0 (size_at b m) none i) in
      record { each = λ x l h. s.each x (omega arith) h }
