-- A record that was taken is written.
use Rattle.cdf_space.proofs.Common.{Changed, Fills, IsBody, IsSound, List, Placed, Shape, Takes, [], ap, ap₂, arith, byte-put_inside, changed_put, content, fixed_size, is_a-in, is_record_type, length, length-put, put, refl, shape, shape_is, size_at, subst, suc, sym, tile_lies, touch, true, type_at, type_of_body, uir_type, with_space, word, zero, ℕ, ◌*◌, ◌+◌, ◌-◌, ◌^◌, ◌∙◌, ◌∷◌, ◌≡◌, ◌≤◌}
use Rattle.cdf_edits.proofs.Space.RecordFilled.{filled_stays_sound}
use Rattle.cdf_edits.proofs.Space.TakenLeaves.{takes_longest}

-- a number within bytes that were written
pub word-put_inside : (b xs : List ℕ) (place i n : ℕ) → place ≤ length b → i + n ≤ length xs → word (put b place xs) (place + i) n ≡ word xs i n
word-put_inside b xs place i zero room fits = refl
word-put_inside b xs place i (suc n) room fits =
    let first = byte-put_inside b place xs i room (omega arith) in
    let next : suc (place + i) ≡ place + suc i = omega arith in
    let rest : word (put b place xs) (suc (place + i)) n ≡ word xs (suc i) n = ap (λ (x : ℕ). word (put b place xs) x n) next ∙ word-put_inside b xs place (suc i) n room (omega arith) in
    ap₂ (λ (x y : ℕ). x * 256 ^ n + y) first rest

module _ (b taken now body : List ℕ) (place need : ℕ) (sound : IsSound b (shape b)) (takes : Takes b taken (shape b) (shape taken) need place) (sound_taken : IsSound taken (shape taken)) (stays : content taken ≡ content b) (need_is : need ≡ 8 + length body) (is : IsBody body) where
  pub lies : place + (8 + length body) ≤ length taken
  lies =
      let l = (tile_lies taken 8 (length taken) (shape taken).records place sound_taken.has_shape.tiled (is_a-in taken (shape taken).records uir_type place takes.stands)).high in
      subst (λ (n : ℕ). place + n ≤ length taken) (takes.size_is ∙ need_is) l

  module _ (written : now ≡ put taken (place + 8) body) where
    long : length now ≡ length taken
    long = let l = lies in ap length written ∙ length-put taken (place + 8) body (omega arith)

    typed : type_at now place ≡ type_of_body body
    typed =
        let l = lies in
        let e = is.enough in
        ap (λ (x : List ℕ). word x (place + 8) 4) written ∙ ap (λ (p : ℕ). word (put taken (place + 8) body) p 4) (plus_0 (place + 8)) ∙ word-put_inside taken body (place + 8) 0 4 (omega arith) (omega arith)
      where
        plus_0 : (n : ℕ) → n ≡ n + 0
        plus_0 n = omega arith

    changed : (n : ℕ) → n ≡ 8 + length body → Changed taken now (touch place 8 (n - 8) ∷ [])
    changed n e = let l = lies in subst (λ (x : List ℕ). Changed taken x (touch place 8 (n - 8) ∷ [])) (sym written) (changed_put taken place 8 (n - 8) body (omega arith) (omega arith))

    filled : IsSound now (shape taken) × (content now ≡ content taken)
    filled = filled_stays_sound taken now (shape taken) place sound_taken takes.stands takes.unlisted long (changed (size_at taken place) (takes.size_is ∙ need_is))
        (subst (λ (t : ℕ). is_record_type t ≡ true) (sym typed) is.real)
        (subst (λ (t : ℕ). fixed_size t ≤ size_at taken place) (sym typed) (subst (λ (n : ℕ). fixed_size (type_of_body body) ≤ n) (sym (takes.size_is ∙ need_is)) is.fixed))

    shape_now : shape now ≡ shape taken
    shape_now = shape_is now (shape taken) filled.0.has_shape

    pub placed_sound : IsSound now (shape now)
    placed_sound = subst (IsSound now) (sym shape_now) filled.0

    pub placed_content : content now ≡ content b
    placed_content = filled.1 ∙ stays

    pub placed_by : Placed b now body place
    placed_by =
        let own : shape taken ≡ with_space (shape b) (shape taken).records (shape taken).unused = takes.space.rest_stays in
        let fills : Fills b taken now (shape b) (shape taken).records (shape taken).unused (8 + length body) place (type_of_body body) = record {
          takes = subst (λ (n : ℕ). Takes b taken (shape b) (with_space (shape b) (shape taken).records (shape taken).unused) n place) need_is (subst (λ (x : Shape). Takes b taken (shape b) x need place) own takes);
          sound = subst (IsSound taken) own sound_taken;
          content_stays = stays;
          fill = changed (8 + length body) refl;
          long = long;
          typed = typed;
          real = is.real;
          in_use = is.in_use;
          fixed = is.fixed;
          enough = is.enough;
        } in
        let e = is.enough in
        let most = takes_longest b taken (shape b) (shape taken) need place sound (omega arith) takes in
        record {
          taken = taken;
          fills = subst (λ (x : Shape). Fills b taken now (shape b) x.records x.unused (8 + length body) place (type_of_body body)) (sym shape_now) fills;
          written = written;
          inside = lies;
          longest = let l = long in omega arith;
        }
