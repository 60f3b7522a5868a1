-- A chain that is read from its head on, record by record.
use Rattle.cdf_space.proofs.Common.{Attrs, Chain, GrEntries, HasChain, HolderStands, In, In-append_left, IsSound, Leads, List, None, Option, RVars, Some, ZEntries, ZVars, [], ap, append-nil, append_assoc, arith, count_of, end_of, fixed_size, head_of, head_width, holder_of, holder_stands, holder_type, last_or, length, link_place, long_of, members_of, refl, shape, size_at, subst, sym, word, ℕ, ◌++◌, ◌+◌, ◌<◌, ◌∙◌, ◌∷◌, ◌≡◌, ◌≤◌}
use Rattle.cdf_space.proofs.Linking.{link_inside}

-- so many records were read, and the link at a place leads to the others
pub record OnChain (b : List ℕ) (c : Chain) (link done : ℕ) (read : List ℕ) : Type 0 where
  pub left : List ℕ
  pub link_is : link ≡ link_place b c (last_or None read)
  pub whole : read ++ left ≡ members_of b c
  pub leads : Leads b (word b link 8) left 0
  pub count : done + length left ≡ length (members_of b c)

last_pushed : (xs : List ℕ) (o : Option ℕ) (x : ℕ) → last_or o (xs ++ x ∷ []) ≡ Some x
last_pushed [] o x = refl
last_pushed (y ∷ xs) o x = last_pushed xs (Some y) x

count_fits : (c : Chain) → (count_of c).place + 4 ≤ fixed_size (holder_type c)
count_fits Attrs = omega arith
count_fits RVars = omega arith
count_fits ZVars = omega arith
count_fits (GrEntries adr) = omega arith
count_fits (ZEntries adr) = omega arith

module _ (b : List ℕ) (c : Chain) (sound : IsSound b (shape b)) (stands : HolderStands b c) (has : HasChain b c) where
  pub count_inside : holder_of b c + (count_of c).place + 4 ≤ length b
  count_inside =
      let is = holder_stands b sound c stands in
      go (fixed_size (holder_type c)) (size_at b (holder_of b c)) (count_fits c) (long_of b sound (holder_type c) (holder_of b c) is) (end_of b sound (holder_type c) (holder_of b c) is)
    where
      go : (f n : ℕ) → (count_of c).place + 4 ≤ f → f ≤ n → holder_of b c + n ≤ length b → holder_of b c + (count_of c).place + 4 ≤ length b
      go f n p q r = omega arith

  pub link_fits : (link done : ℕ) (read : List ℕ) → OnChain b c link done read → link + 8 ≤ length b
  link_fits link done read on = subst (λ (x : ℕ). x + 8 ≤ length b) (sym on.link_is) (link_inside b c sound stands has read (λ m i. subst (In m) on.whole (In-append_left m read on.left i)))

  pub at_head : (link : ℕ) (read : List ℕ) → link ≡ holder_of b c + (head_of c).place → read ≡ [] → OnChain b c link 0 read
  at_head link read e none = record {
    left = members_of b c;
    link_is = e ∙ ap (λ (xs : List ℕ). link_place b c (last_or None xs)) (sym none);
    whole = ap (λ (xs : List ℕ). xs ++ members_of b c) none;
    leads = subst (λ (x : ℕ). Leads b x (members_of b c) 0) (ap (λ (w : ℕ). word b (holder_of b c + (head_of c).place) w) (head_width c) ∙ ap (λ (x : ℕ). word b x 8) (sym e)) has.leads;
    count = omega arith;
  }

  -- a record further
  pub further : (link done : ℕ) (read : List ℕ) → OnChain b c link done read → done < length (members_of b c) → (place : ℕ) → place ≡ word b link 8 → (read' : List ℕ) → read' ≡ read ++ place ∷ [] → OnChain b c (place + 12) (done + 1) read'
  further link done read on lt place is read' pushed = go on.left on.whole on.leads on.count
    where
      go : (left : List ℕ) → read ++ left ≡ members_of b c → Leads b (word b link 8) left 0 → done + length left ≡ length (members_of b c) → OnChain b c (place + 12) (done + 1) read'
      go [] whole leads count = absurd (omega arith)
      go (m ∷ more) whole leads count =
          let at : place ≡ m = is ∙ leads.0 in
          record {
            left = more;
            link_is = ap (link_place b c) (sym (last_pushed read None place) ∙ ap (last_or None) (sym pushed));
            whole = ap (λ (xs : List ℕ). xs ++ more) (pushed ∙ ap (λ (x : ℕ). read ++ x ∷ []) at) ∙ append_assoc read (m ∷ []) more ∙ whole;
            leads = subst (λ (x : ℕ). Leads b (word b (x + 12) 8) more 0) (sym at) leads.1;
            count = omega arith;
          }

  -- after the last one
  pub at_end : (link done : ℕ) (read : List ℕ) → OnChain b c link done read → done ≡ length (members_of b c) → read ≡ members_of b c
  at_end link done read on all = go on.left on.whole on.count
    where
      go : (left : List ℕ) → read ++ left ≡ members_of b c → done + length left ≡ length (members_of b c) → read ≡ members_of b c
      go [] whole count = sym (append-nil read) ∙ whole
      go (m ∷ more) whole count = absurd (omega arith)
