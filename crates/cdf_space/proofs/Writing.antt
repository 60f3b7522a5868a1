-- What writes of fields leave of an image.
use Rattle.cdf_space.proofs.Common.{Changed, Cleared, EndBytes, Field, Fit, LiesIn, List, Listed, Outside, Relinked, Touch, [], ap, ap₂, arith, back_link, byte, byte-put_inside, cases_lt, changed_more, changed_put, changed_then, either, eq-eqb, eqb, eqb-true, false, field, field_reads, gdr_eof, get_or-append_right, get_or-replicate, inl, inr, length, length-append, length-put, length-replicate, length-with_field, number, other_bytes, put, record_size, record_type, refl, replicate, size_at, subst, sym, touch, touched_field, type_at, uir_next_uir, uir_prev_uir, uir_type, with_field, word, word-same, ℕ, ◌++◌, ◌+◌, ◌-◌, ◌<◌, ◌^◌, ◌∙◌, ◌∷◌, ◌≡◌, ◌≢◌, ◌≤◌, ◌⊎◌}

-- ---- bytes that no touch meets

abbrev pub Clear : List Touch → ℕ → ℕ → Type 0
Clear [] place n = Unit {0}
Clear (t ∷ more) place n = ((place + n ≤ t.tile + t.place) ⊎ (t.tile + t.place + t.width ≤ place)) × Clear more place n

clear_outside : (ts : List Touch) (place n i : ℕ) → Clear ts place n → place ≤ i → i < place + n → Outside ts i
clear_outside [] place n i c l h = tt
clear_outside (t ∷ ts) place n i c l h = (elim c.0 [ inl x ↦ inl (omega arith) | inr x ↦ inr (omega arith) ], clear_outside ts place n i c.1 l h)

pub word_clear : (b now : List ℕ) (ts : List Touch) (place n : ℕ) → Changed b now ts → place + n ≤ length b → Clear ts place n → word now place n ≡ word b place n
word_clear b now ts place n c fits clear = word-same b now place n (record { each = λ i l h. c.same i (omega arith) (clear_outside ts place n i clear l h) })

pub byte_clear : (b now : List ℕ) (ts : List Touch) (place : ℕ) → Changed b now ts → place < length b → Clear ts place 1 → byte now place ≡ byte b place
byte_clear b now ts place c fits clear = c.same place fits (clear_outside ts place 1 place clear (omega arith) (omega arith))

pub changed_weaker : (b now : List ℕ) (ts us : List Touch) → Changed b now ts → ((i : ℕ) → Outside us i → Outside ts i) → Changed b now us
changed_weaker b now ts us c out = record { longer = c.longer; same = λ i lt o. c.same i lt (out i o) }

-- ---- a field

pub changed_field : (b now : List ℕ) (place : ℕ) (f : Field) (n : ℕ) → LiesIn b place f → now ≡ with_field b place f n → Changed b now (touched_field place f ∷ [])
changed_field b now place f n lies e = subst (λ (x : List ℕ). Changed b x (touched_field place f ∷ [])) (sym e) (record { longer = omega (arith, length-with_field b place f n lies); same = λ i lt o. other_bytes b place f n i lies o.0 })

pub field_is : (b now : List ℕ) (place : ℕ) (f : Field) (n : ℕ) → LiesIn b place f → n < 256 ^ f.width → now ≡ with_field b place f n → number now place f ≡ n
field_is b now place f n lies small e = ap (λ (x : List ℕ). number x place f) e ∙ field_reads b place f n lies small

pub length_is : (b now : List ℕ) (place : ℕ) (f : Field) (n : ℕ) → LiesIn b place f → now ≡ with_field b place f n → length now ≡ length b
length_is b now place f n lies e = ap length e ∙ length-with_field b place f n lies

-- ---- a record at the end

pub end_bytes : (b b1 b2 b3 now : List ℕ) (gdr place need : ℕ) → place ≡ length b → gdr + 44 ≤ length b → 12 ≤ need → place + need < 2 ^ 64 → b1 ≡ b ++ replicate need 0
    → b2 ≡ with_field b1 place record_size need → b3 ≡ with_field b2 place record_type uir_type → now ≡ with_field b3 gdr gdr_eof (place + need) → EndBytes b now gdr need
end_bytes b b1 b2 b3 now gdr place need at inside some small first second third fourth =
    let long1 : length b1 ≡ length b + need = ap length first ∙ length-append b (replicate need 0) ∙ ap (λ (n : ℕ). length b + n) (length-replicate {A = ℕ} need 0) in
    let lies2 : LiesIn b1 place record_size = omega arith in
    let long2 : length b2 ≡ length b1 = length_is b1 b2 place record_size need lies2 second in
    let lies3 : LiesIn b2 place record_type = omega arith in
    let long3 : length b3 ≡ length b2 = length_is b2 b3 place record_type uir_type lies3 third in
    let lies4 : LiesIn b3 gdr gdr_eof = omega arith in
    let long4 : length now ≡ length b3 = length_is b3 now gdr gdr_eof (place + need) lies4 fourth in
    let c1 : Changed b b1 [] = subst (λ (x : List ℕ). Changed b x []) (sym first) (changed_more b (replicate need 0)) in
    let c2 = changed_field b1 b2 place record_size need lies2 second in
    let c3 = changed_field b2 b3 place record_type uir_type lies3 third in
    let c4 = changed_field b3 now gdr gdr_eof (place + need) lies4 fourth in
    let c34 = changed_then b2 b3 now (touched_field place record_type ∷ []) (touched_field gdr gdr_eof ∷ []) c3 c4 in
    let c234 = changed_then b1 b2 now (touched_field place record_size ∷ []) (touched_field place record_type ∷ touched_field gdr gdr_eof ∷ []) c2 c34 in
    let all = changed_then b b1 now [] (touched_field place record_size ∷ touched_field place record_type ∷ touched_field gdr gdr_eof ∷ []) c1 c234 in
    let size : number now place record_size ≡ need = word_clear b2 now (touched_field place record_type ∷ touched_field gdr gdr_eof ∷ []) (place + 0) 8 c34 (omega arith) (inl (omega arith), (inr (omega arith), tt)) ∙ field_is b1 b2 place record_size need lies2 (omega arith) second in
    let type : number now place record_type ≡ uir_type = word_clear b3 now (touched_field gdr gdr_eof ∷ []) (place + 8) 4 c4 (omega arith) (inr (omega arith), tt) ∙ field_is b2 b3 place record_type uir_type lies3 (omega arith) third in
    record {
      as_long = long4 ∙ long3 ∙ long2 ∙ long1;
      changed = record { longer = all.longer; same = λ i lt o. all.same i lt (inl (omega arith), (inl (omega arith), (o.0, tt))) };
      size_is = ap (λ (p : ℕ). size_at now p) (sym at) ∙ size;
      type_is = ap (λ (p : ℕ). type_at now p) (sym at) ∙ type;
      empty = λ i low high.
          byte_clear b1 now (touched_field place record_size ∷ touched_field place record_type ∷ touched_field gdr gdr_eof ∷ []) (length b + i) c234 (omega arith) (inr (omega arith), (inr (omega arith), (inr (omega arith), tt)))
          ∙ ap (λ (x : List ℕ). byte x (length b + i)) first
          ∙ get_or-append_right b (replicate need 0) (length b) (length b + i) 0 refl (omega arith)
          ∙ zero_at need (length b + i - length b) (omega arith);
      eof_is = field_is b3 now gdr gdr_eof (place + need) lies4 (omega arith) fourth ∙ (omega (arith, long4, long3, long2, long1));
    }
  where
    zero_at : (n i : ℕ) → i < n → byte (replicate {A = ℕ} n 0) i ≡ 0
    zero_at n i lt = get_or-replicate {A = ℕ} n i 0 0 lt

-- ---- size, type and links

pub listed_by : (b b1 b2 b3 now : List ℕ) (place size next before : ℕ) → place + 28 ≤ length b → size < 2 ^ 64 → next < 2 ^ 64 → before < 2 ^ 64
    → b1 ≡ with_field b place record_size size → b2 ≡ with_field b1 place record_type uir_type → b3 ≡ with_field b2 place uir_next_uir next → now ≡ with_field b3 place uir_prev_uir before → Listed b now place size next before
listed_by b b1 b2 b3 now place size next before inside s n p first second third fourth =
    let lies1 : LiesIn b place record_size = omega arith in
    let long1 : length b1 ≡ length b = length_is b b1 place record_size size lies1 first in
    let lies2 : LiesIn b1 place record_type = omega arith in
    let long2 : length b2 ≡ length b1 = length_is b1 b2 place record_type uir_type lies2 second in
    let lies3 : LiesIn b2 place uir_next_uir = omega arith in
    let long3 : length b3 ≡ length b2 = length_is b2 b3 place uir_next_uir next lies3 third in
    let lies4 : LiesIn b3 place uir_prev_uir = omega arith in
    let long4 : length now ≡ length b3 = length_is b3 now place uir_prev_uir before lies4 fourth in
    let c1 = changed_field b b1 place record_size size lies1 first in
    let c2 = changed_field b1 b2 place record_type uir_type lies2 second in
    let c3 = changed_field b2 b3 place uir_next_uir next lies3 third in
    let c4 = changed_field b3 now place uir_prev_uir before lies4 fourth in
    let t1 = touched_field place record_size in
    let t2 = touched_field place record_type in
    let t3 = touched_field place uir_next_uir in
    let t4 = touched_field place uir_prev_uir in
    let c34 = changed_then b2 b3 now (t3 ∷ []) (t4 ∷ []) c3 c4 in
    let c234 = changed_then b1 b2 now (t2 ∷ []) (t3 ∷ t4 ∷ []) c2 c34 in
    let all = changed_then b b1 now (t1 ∷ []) (t2 ∷ t3 ∷ t4 ∷ []) c1 c234 in
    record {
      length_stays = long4 ∙ long3 ∙ long2 ∙ long1;
      changed = changed_weaker b now (t1 ∷ t2 ∷ t3 ∷ t4 ∷ []) (touch place 0 28 ∷ []) all (λ i o. elim o.0 [ inl x ↦ (inl (omega arith), (inl (omega arith), (inl (omega arith), (inl (omega arith), tt)))) | inr x ↦ (inr (omega arith), (inr (omega arith), (inr (omega arith), (inr (omega arith), tt)))) ]);
      size_is = word_clear b1 now (t2 ∷ t3 ∷ t4 ∷ []) (place + 0) 8 c234 (omega arith) (inl (omega arith), (inl (omega arith), (inl (omega arith), tt))) ∙ field_is b b1 place record_size size lies1 (omega arith) first;
      type_is = word_clear b2 now (t3 ∷ t4 ∷ []) (place + 8) 4 c34 (omega arith) (inl (omega arith), (inl (omega arith), tt)) ∙ field_is b1 b2 place record_type uir_type lies2 (omega arith) second;
      next_is = word_clear b3 now (t4 ∷ []) (place + 12) 8 c4 (omega arith) (inl (omega arith), tt) ∙ field_is b2 b3 place uir_next_uir next lies3 (omega arith) third;
      prev_is = field_is b3 now place uir_prev_uir before lies4 (omega arith) fourth;
    }

-- ---- bytes 0

pub cleared_more : (b mid now : List ℕ) (from done count : ℕ) (xs : List ℕ) → Cleared b mid from done → now ≡ put mid (from + done) xs → length xs ≡ count → ((i : ℕ) → i < count → byte xs i ≡ 0) → from + done + count ≤ length b → Cleared b now from (done + count)
cleared_more b mid now from done count xs w e long zero fits =
    let same = w.length_stays in
    let long_now : length now ≡ length mid = ap length e ∙ length-put mid (from + done) xs (omega arith) in
    let c : Changed mid now (touch from done count ∷ []) = subst (λ (x : List ℕ). Changed mid x (touch from done count ∷ [])) (sym e) (changed_put mid from done count xs long (omega arith)) in
    let both = changed_then b mid now (touch from 0 done ∷ []) (touch from done count ∷ []) w.changed c in
    record {
      length_stays = long_now ∙ same;
      changed = changed_weaker b now (touch from 0 done ∷ touch from done count ∷ []) (touch from 0 (done + count) ∷ []) both (λ i o. elim o.0 [ inl x ↦ (inl x, (inl (omega arith), tt)) | inr x ↦ (inr (omega arith), (inr (omega arith), tt)) ]);
      zero = λ i lt. elim (cases_lt i done) [
        | inl before ↦ byte_clear mid now (touch from done count ∷ []) (from + i) c (omega arith) (inl (omega arith), tt) ∙ w.zero i before
        | inr past ↦
            let at : from + i ≡ from + done + (i - done) = omega arith in
            ap₂ (λ (x : List ℕ) (p : ℕ). byte x p) e at ∙ byte-put_inside mid (from + done) xs (i - done) (omega arith) (omega arith) ∙ zero (i - done) (omega arith)
      ];
    }

pub cleared_none : (b : List ℕ) (from : ℕ) → Cleared b b from 0
cleared_none b from = record { length_stays = refl; changed = record { longer = omega arith; same = λ i lt o. refl }; zero = λ i lt. absurd (omega arith) }

-- ---- links

pub back_link_none : (next : ℕ) → next ≡ 0 → back_link next ≡ []
back_link_none next e = rw (eq-eqb next 0 e) refl

pub back_link_some : (next : ℕ) → next ≢ 0 → back_link next ≡ touched_field next uir_prev_uir ∷ []
back_link_some next ne = rw (other next ne) refl
  where
    other : (n : ℕ) → n ≢ 0 → eqb n 0 ≡ false
    other n ne = elim (either (eqb n 0)) [ inl e ↦ absurd (ne (eqb-true n 0 e)) | inr e ↦ e ]

pub relinked_last : (b now : List ℕ) (fit : Fit) (to back : ℕ) → fit.link + 8 ≤ length b → to < 2 ^ 64 → fit.next ≡ 0 → now ≡ with_field b fit.link (field 0 8) to → Relinked b now fit to back
relinked_last b now fit to back inside small z e =
    let lies : LiesIn b fit.link (field 0 8) = omega arith in
    record {
      length_stays = length_is b now fit.link (field 0 8) to lies e;
      changed = subst (λ (ts : List Touch). Changed b now (touch fit.link 0 8 ∷ ts)) (sym (back_link_none fit.next z)) (changed_field b now fit.link (field 0 8) to lies e);
      link_is = ap (λ (p : ℕ). word now p 8) (plus_0 fit.link) ∙ field_is b now fit.link (field 0 8) to lies (omega arith) e;
      back_is = λ ne. absurd (ne z);
    }
  where
    plus_0 : (n : ℕ) → n ≡ n + 0
    plus_0 n = omega arith

pub relinked_by : (b b1 now : List ℕ) (fit : Fit) (to back : ℕ) → fit.link + 8 ≤ length b → fit.next + 28 ≤ length b → (fit.link + 8 ≤ fit.next + 20) ⊎ (fit.next + 28 ≤ fit.link) → to < 2 ^ 64 → back < 2 ^ 64 → fit.next ≢ 0
    → b1 ≡ with_field b fit.link (field 0 8) to → now ≡ with_field b1 fit.next uir_prev_uir back → Relinked b now fit to back
relinked_by b b1 now fit to back inside room between small small' some first second =
    let lies1 : LiesIn b fit.link (field 0 8) = omega arith in
    let long1 : length b1 ≡ length b = length_is b b1 fit.link (field 0 8) to lies1 first in
    let lies2 : LiesIn b1 fit.next uir_prev_uir = omega arith in
    let long2 : length now ≡ length b1 = length_is b1 now fit.next uir_prev_uir back lies2 second in
    let c1 = changed_field b b1 fit.link (field 0 8) to lies1 first in
    let c2 = changed_field b1 now fit.next uir_prev_uir back lies2 second in
    let clear : Clear (touched_field fit.next uir_prev_uir ∷ []) (fit.link + 0) 8 = (elim between [ inl x ↦ inl (omega arith) | inr x ↦ inr (omega arith) ], tt) in
    record {
      length_stays = long2 ∙ long1;
      changed = subst (λ (ts : List Touch). Changed b now (touch fit.link 0 8 ∷ ts)) (sym (back_link_some fit.next some)) (changed_then b b1 now (touched_field fit.link (field 0 8) ∷ []) (touched_field fit.next uir_prev_uir ∷ []) c1 c2);
      link_is = ap (λ (p : ℕ). word now p 8) (plus_0 fit.link) ∙ word_clear b1 now (touched_field fit.next uir_prev_uir ∷ []) (fit.link + 0) 8 c2 (omega arith) clear ∙ field_is b b1 fit.link (field 0 8) to lies1 (omega arith) first;
      back_is = λ ne. field_is b1 now fit.next uir_prev_uir back lies2 (omega arith) second;
    }
  where
    plus_0 : (n : ℕ) → n ≡ n + 0
    plus_0 n = omega arith
