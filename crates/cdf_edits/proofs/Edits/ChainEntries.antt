-- Entries of a chain: what of them stays where their bytes do, that their numbers differ, and what they mean where one is added to the chain, replaced in it, or goes.
use Rattle.cdf_edits.proofs.Common.{Bool, Distinct, Distinct-middle, Distinct-push, EntryFits, Hold, In, List, [], adr_num, aedr_attr_num, aedr_num, ap, append-nil, append_assoc, ap₂, arith, cases_eq, differ_rows, entry_bytes, entry_of, entry_rows, eq-eqb, false, has_value, inl, inr, is_in, is_in-false, is_in-true, list_any, map, map-append, nat_le, ne_eqb, not_false, number, record_number_limit, refl, row, same_number, size_at, subst, sym, with_in_place, with_item, without, ℕ, ◌++◌, ◌==◌, ◌∙◌, ◌∷◌, ◌≡◌, ◌≢◌, true≢false}
use Rattle.std.proofs.Common.{not, ◌||◌}
use Rattle.cdf_format.specs.Content.{entries_of}
use Rattle.cdf_edits.specs.Space.Chains.{without as left_of}
use Rattle.cdf_edits.proofs.Edits.NumberedItems.{Rising, rising_with}
use Rattle.cdf_edits.proofs.Edits.NumberedLookup.{items_swap, item_again, item_gone, item_stays}
use Rattle.cdf_edits.proofs.Frame.Meaning.{FileSame, KeptButLink, long_entry, link_bytes, entry_means, late_number}

-- ---- an entry that stays but for the link to the next one

pub record EntryLives (b now : List ℕ) (e : ℕ) : Type 0 where
  pub attribute : number now e aedr_attr_num ≡ number b e aedr_attr_num
  pub num : number now e aedr_num ≡ number b e aedr_num
  pub meant : entry_of now e ≡ entry_of b e
  pub valued : has_value now e ≡ has_value b e
  pub fits : EntryFits now e

pub entry_lives : (b now : List ℕ) → FileSame b now → (e : ℕ) → KeptButLink b now e → EntryFits b e → EntryLives b now e
entry_lives b now file e k fits =
    let long = long_entry (entry_bytes b e) (size_at b e) fits in
    let means = entry_means b now file e (link_bytes b now e k fits) fits in
    record { attribute = late_number b now e k aedr_attr_num (omega arith) (omega arith); num = late_number b now e k aedr_num (omega arith) (omega arith); meant = means.meant; valued = means.valued; fits = means.fits }

pub entry_rules_live : (b now : List ℕ) (adr e : ℕ) → number now adr adr_num ≡ number b adr adr_num → EntryLives b now e → Hold (entry_rows b adr e) → Hold (entry_rows now adr e)
entry_rules_live b now adr e own l rules =
    let attribute = l.attribute in
    let num = l.num in
    let valued = l.valued in
    let same : entry_rows now adr e ≡ entry_rows b adr e = λ i. row 6 e (attribute i == own i) ∷ row 7 e (nat_le (num i) record_number_limit) ∷ row 8 e (valued i) ∷ [] in
    subst Hold (sym same) rules

-- ---- their numbers

abbrev pub nums : List ℕ → List ℕ → List ℕ
nums b es = map (λ e. number b e aedr_num) es

pub num_in : (b es : List ℕ) (e : ℕ) → In e es → In (number b e aedr_num) (nums b es)
num_in b [] e i = absurd i
num_in b (x ∷ es) e (inl q) = inl (ap (λ (m : ℕ). number b m aedr_num) q)
num_in b (x ∷ es) e (inr i) = inr (num_in b es e i)

any_is_in : (b : List ℕ) (e : ℕ) (es : List ℕ) → list_any (same_number b e) es ≡ is_in (number b e aedr_num) (nums b es)
any_is_in b e [] = refl
any_is_in b e (x ∷ es) = ap (λ (p : Bool). same_number b e x || p) (any_is_in b e es)

nums_push : (b es : List ℕ) (e : ℕ) → nums b (es ++ e ∷ []) ≡ nums b es ++ number b e aedr_num ∷ []
nums_push b es e = map-append (λ (m : ℕ). number b m aedr_num) es (e ∷ [])

differ_behind : (b before es : List ℕ) → Hold (differ_rows 7 (same_number b) before es) → Distinct (nums b before) → Distinct (nums b (before ++ es))
differ_behind b before [] h d = subst (λ (x : List ℕ). Distinct (nums b x)) (sym (append-nil before)) d
differ_behind b before (e ∷ es) h d =
    let absent : is_in (number b e aedr_num) (nums b before) ≡ false = sym (any_is_in b e before) ∙ not_false (list_any (same_number b e) before) h.0 in
    let next : Distinct (nums b (before ++ e ∷ [])) = subst Distinct (sym (nums_push b before e)) (Distinct-push (nums b before) (number b e aedr_num) d (λ i. true≢false (sym (is_in-true (number b e aedr_num) (nums b before) i) ∙ absent))) in
    subst (λ (x : List ℕ). Distinct (nums b x)) (append_assoc before (e ∷ []) es) (differ_behind b (before ++ e ∷ []) es h.1 next)

-- the rule that they differ
pub nums_differ : (b es : List ℕ) → Hold (differ_rows 7 (same_number b) [] es) → Distinct (nums b es)
nums_differ b es h = differ_behind b [] es h tt

differ_by : (b before es : List ℕ) → Distinct (nums b before ++ nums b es) → Hold (differ_rows 7 (same_number b) before es)
differ_by b before [] d = tt
differ_by b before (e ∷ es) d = (
  ap not (any_is_in b e before ∙ is_in-false (number b e aedr_num) (nums b before) (Distinct-middle (nums b before) (number b e aedr_num) (nums b es) d)),
  differ_by b (before ++ e ∷ []) es (subst (λ (x : List ℕ). Distinct (x ++ nums b es)) (sym (nums_push b before e)) (subst Distinct (sym (append_assoc (nums b before) (number b e aedr_num ∷ []) (nums b es))) d)),
)

pub differ_by_nums : (b es : List ℕ) → Distinct (nums b es) → Hold (differ_rows 7 (same_number b) [] es)
differ_by_nums b es d = differ_by b [] es d

-- ---- chains

-- all but one
abbrev pub Others : List ℕ → List ℕ → List ℕ → ℕ → Type 0
Others b now es old = (m : ℕ) → In m es → m ≢ old → EntryLives b now m

-- the one of a number stands nowhere behind itself
no_other : (b es : List ℕ) (e old n : ℕ) → number b old aedr_num ≡ n → In old es → (In (number b e aedr_num) (nums b es) → ⊥) → number b e aedr_num ≢ n
no_other b es e old n of_old i out q = out (subst (λ (x : ℕ). In x (nums b es)) (of_old ∙ sym q) (num_in b es old i))

not_behind : (b es : List ℕ) (old m : ℕ) → (In (number b old aedr_num) (nums b es) → ⊥) → In m es → m ≢ old
not_behind b es old m out i q = out (num_in b es old (subst (λ (x : ℕ). In x es) q i))

pub entries_live : (b now es : List ℕ) → ((m : ℕ) → In m es → EntryLives b now m) → entries_of now es ≡ entries_of b es
entries_live b now [] live = refl
entries_live b now (e ∷ es) live =
    let here = live e (inl refl) in
    let num = here.num in
    let meant = here.meant in
    let rest = entries_live b now es (λ m i. live m (inr i)) in
    λ i. with_item (num i) (meant i) (rest i)

pub nums_live : (b now es : List ℕ) → ((m : ℕ) → In m es → EntryLives b now m) → nums now es ≡ nums b es
nums_live b now [] live = refl
nums_live b now (e ∷ es) live = ap₂ (λ (n : ℕ) (rest : List ℕ). n ∷ rest) (live e (inl refl)).num (nums_live b now es (λ m i. live m (inr i)))

rising_entries : (b es : List ℕ) → Rising 0 (entries_of b es)
rising_entries b [] = Rising.none
rising_entries b (e ∷ es) = rising_with 0 (number b e aedr_num) (entry_of b e) (entries_of b es) (omega arith) (rising_entries b es)

-- one more of another number
pub entries_pushed : (b es : List ℕ) (e : ℕ) → (In (number b e aedr_num) (nums b es) → ⊥) → entries_of b (es ++ e ∷ []) ≡ with_item (number b e aedr_num) (entry_of b e) (entries_of b es)
entries_pushed b [] e out = refl
entries_pushed b (x ∷ es) e out =
    ap (with_item (number b x aedr_num) (entry_of b x)) (entries_pushed b es e (λ i. out (inr i)))
    ∙ items_swap (number b x aedr_num) (number b e aedr_num) (entry_of b x) (entry_of b e) (entries_of b es) (λ q. out (inl (sym q))) (rising_entries b es)

pub nums_pushed : (b es : List ℕ) (e : ℕ) → Distinct (nums b es) → (In (number b e aedr_num) (nums b es) → ⊥) → Distinct (nums b (es ++ e ∷ []))
nums_pushed b es e d out = subst Distinct (sym (nums_push b es e)) (Distinct-push (nums b es) (number b e aedr_num) d out)

-- one in the place of the one of its number
module _ (b now : List ℕ) (old by n : ℕ) (of_old : number b old aedr_num ≡ n) (of_new : number now by aedr_num ≡ n) where
  pub entries_replaced : (es : List ℕ) → Distinct (nums b es) → In old es → Others b now es old → entries_of now (with_in_place old by es) ≡ with_item n (entry_of now by) (entries_of b es)
  entries_replaced [] d i live = absurd i
  entries_replaced (e ∷ es) d i live = elim (cases_eq e old) [
    | inl q ↦
        let out : In (number b old aedr_num) (nums b es) → ⊥ = subst (λ (x : ℕ). In (number b x aedr_num) (nums b es) → ⊥) q d.0 in
        let same = entries_live b now es (λ m j. live m (inr j) (not_behind b es old m out j)) in
        let first : entries_of b (e ∷ es) ≡ with_item n (entry_of b e) (entries_of b es) = ap (λ (k : ℕ). with_item k (entry_of b e) (entries_of b es)) (ap (λ (x : ℕ). number b x aedr_num) q ∙ of_old) in
        rw (eq-eqb e old q) ((λ k. with_item (of_new k) (entry_of now by) (same k)) ∙ sym (item_again n (entry_of now by) (entry_of b e) (entries_of b es) (rising_entries b es)) ∙ ap (with_item n (entry_of now by)) (sym first))
    | inr ne ↦
        let there : In old es = elim i [ inl q ↦ absurd (ne (sym q)) | inr j ↦ j ] in
        let here = live e (inl refl) ne in
        let num = here.num in
        let meant = here.meant in
        let rest = entries_replaced es d.1 there (λ m j. live m (inr j)) in
        rw (ne_eqb e old ne) ((λ k. with_item (num k) (meant k) (rest k)) ∙ items_swap (number b e aedr_num) n (entry_of b e) (entry_of now by) (entries_of b es) (no_other b es e old n of_old there d.0) (rising_entries b es))
  ]

  pub nums_replaced : (es : List ℕ) → Distinct (nums b es) → In old es → Others b now es old → nums now (with_in_place old by es) ≡ nums b es
  nums_replaced [] d i live = absurd i
  nums_replaced (e ∷ es) d i live = elim (cases_eq e old) [
    | inl q ↦
        let out : In (number b old aedr_num) (nums b es) → ⊥ = subst (λ (x : ℕ). In (number b x aedr_num) (nums b es) → ⊥) q d.0 in
        rw (eq-eqb e old q) (ap₂ (λ (k : ℕ) (rest : List ℕ). k ∷ rest) (of_new ∙ sym of_old ∙ ap (λ (x : ℕ). number b x aedr_num) (sym q)) (nums_live b now es (λ m j. live m (inr j) (not_behind b es old m out j))))
    | inr ne ↦
        let there : In old es = elim i [ inl q ↦ absurd (ne (sym q)) | inr j ↦ j ] in
        rw (ne_eqb e old ne) (ap₂ (λ (k : ℕ) (rest : List ℕ). k ∷ rest) (live e (inl refl) ne).num (nums_replaced es d.1 there (λ m j. live m (inr j))))
  ]

-- without the one of a number
pub none_numbered : (b es : List ℕ) (n : ℕ) → (In n (nums b es) → ⊥) → without n n (entries_of b es) ≡ entries_of b es
none_numbered b [] n out = refl
none_numbered b (e ∷ es) n out =
    item_stays (number b e aedr_num) n (entry_of b e) (entries_of b es) (λ q. out (inl (sym q))) (rising_entries b es) ∙ ap (with_item (number b e aedr_num) (entry_of b e)) (none_numbered b es n (λ i. out (inr i)))

module _ (b now : List ℕ) (old n : ℕ) (of_old : number b old aedr_num ≡ n) where
  pub entries_left : (es : List ℕ) → Distinct (nums b es) → In old es → Others b now es old → entries_of now (left_of old es) ≡ without n n (entries_of b es)
  entries_left [] d i live = absurd i
  entries_left (e ∷ es) d i live = elim (cases_eq e old) [
    | inl q ↦
        let out : In (number b old aedr_num) (nums b es) → ⊥ = subst (λ (x : ℕ). In (number b x aedr_num) (nums b es) → ⊥) q d.0 in
        let same = entries_live b now es (λ m j. live m (inr j) (not_behind b es old m out j)) in
        let first : entries_of b (e ∷ es) ≡ with_item n (entry_of b e) (entries_of b es) = ap (λ (k : ℕ). with_item k (entry_of b e) (entries_of b es)) (ap (λ (x : ℕ). number b x aedr_num) q ∙ of_old) in
        rw (eq-eqb e old q) (same ∙ sym (none_numbered b es n (subst (λ (x : ℕ). In x (nums b es) → ⊥) of_old out)) ∙ sym (item_gone n (entry_of b e) (entries_of b es) (rising_entries b es)) ∙ ap (without n n) (sym first))
    | inr ne ↦
        let there : In old es = elim i [ inl q ↦ absurd (ne (sym q)) | inr j ↦ j ] in
        let here = live e (inl refl) ne in
        let num = here.num in
        let meant = here.meant in
        let rest = entries_left es d.1 there (λ m j. live m (inr j)) in
        rw (ne_eqb e old ne) ((λ k. with_item (num k) (meant k) (rest k)) ∙ sym (item_stays (number b e aedr_num) n (entry_of b e) (entries_of b es) (no_other b es e old n of_old there d.0) (rising_entries b es)))
  ]

  pub nums_left : (es : List ℕ) → Distinct (nums b es) → In old es → Others b now es old → Distinct (nums now (left_of old es)) × ((k : ℕ) → In k (nums now (left_of old es)) → In k (nums b es))
  nums_left [] d i live = absurd i
  nums_left (e ∷ es) d i live = elim (cases_eq e old) [
    | inl q ↦
        let out : In (number b old aedr_num) (nums b es) → ⊥ = subst (λ (x : ℕ). In (number b x aedr_num) (nums b es) → ⊥) q d.0 in
        let same = nums_live b now es (λ m j. live m (inr j) (not_behind b es old m out j)) in
        rw (eq-eqb e old q) (subst Distinct (sym same) d.1, (λ k j. inr (subst (In k) same j)))
    | inr ne ↦
        let there : In old es = elim i [ inl q ↦ absurd (ne (sym q)) | inr j ↦ j ] in
        let here = (live e (inl refl) ne).num in
        let rest = nums_left es d.1 there (λ m j. live m (inr j)) in
        rw (ne_eqb e old ne) (((λ j. d.0 (subst (λ (x : ℕ). In x (nums b es)) here (rest.1 (number now e aedr_num) j))), rest.0), (λ k j. elim j [ inl q ↦ inl (q ∙ here) | inr r ↦ inr (rest.1 k r) ]))
  ]
