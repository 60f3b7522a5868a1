-- A link that is written changes one chain, and leaves the others.
use Rattle.cdf_edits.proofs.Common.{AllSpare, AreTiles, ChainHead, Changed, Distinct, Distinct-front, In, In-append, In-append_left, IsChain, IsHead, IsLinkAfter, IsOther, Leads, List, Misses, Placed, Same, Touch, [], ap, arith, cases_eq, end_place, head_place, inl, inr, is_in, is_linkable, length, linkable-from, linkable-in, linkable-long, linkable-type, linked_types, next_of, refl, size_at, subst, sym, tile_lies, tiles_lie_apart, touch, true, true≢false, type_at, with_members, word, word_kept, ℕ, ◌++◌, ◌+◌, ◌∙◌, ◌∷◌, ◌≡◌, ◌≢◌, ◌≤◌, ◌⊎◌}
use Rattle.cdf_edits.proofs.Frame.ChangedBytes.{changed_part}
use Rattle.cdf_edits.proofs.Frame.LinksStay.{leads_same}

pub end_place_is : (place : ℕ) (ms : List ℕ) → (end_place place ms ≡ place) ⊎ ((m : ℕ) × In m ms × (end_place place ms ≡ m + 12))
end_place_is place [] = inl refl
end_place_is place (m ∷ ms) = elim (end_place_is (m + 12) ms) [
  | inl e ↦ inr (m, inl refl, e)
  | inr h ↦ inr (h.0, inr h.1, h.2)
]

-- links lead on from the end of a front part
leads_splice : (b now : List ℕ) (place : ℕ) (us ws zs : List ℕ) → Leads b (word b place 8) (us ++ ws) 0 → Distinct us
    → ((m : ℕ) → In m us → place ≢ m + 12)
    → (place ≢ end_place place us → word now place 8 ≡ word b place 8)
    → ((m : ℕ) → In m us → m + 12 ≢ end_place place us → next_of now m ≡ next_of b m)
    → Leads now (word now (end_place place us) 8) zs 0
    → Leads now (word now place 8) (us ++ zs) 0
leads_splice b now place [] ws zs l d out first same new = new
leads_splice b now place (m ∷ us) ws zs l d out first same new =
    let apart : place ≢ end_place (m + 12) us = λ e. elim (end_place_is (m + 12) us) [
      | inl f ↦ out m (inl refl) (e ∙ f)
      | inr f ↦ out f.0 (inr f.1) (e ∙ f.2)
    ] in
    let mine : (x : ℕ) → In x us → m + 12 ≢ x + 12 = λ x h e. let f : m ≡ x = omega arith in d.0 (subst (λ y. In y us) (sym f) h) in
    (first apart ∙ l.0, leads_splice b now (m + 12) us ws zs l.1 d.1 mine (same m (inl refl)) (λ x h. same x (inr h)) new)

misses_holder : (ts : List Touch) (c : ChainHead) → AllSpare ts c → Misses ts c.holder 0 12
misses_holder [] c s = tt
misses_holder (t ∷ ts) c s = ((λ e. inl (s.0.holder e)), misses_holder ts c s.1)

misses_head : (ts : List Touch) (c : ChainHead) → AllSpare ts c → Misses ts c.holder c.place (c.place + 8)
misses_head [] c s = tt
misses_head (t ∷ ts) c s = (s.0.head, misses_head ts c s.1)

misses_front : (ts : List Touch) (c : ChainHead) (us : List ℕ) (m hi : ℕ) → AllSpare ts (with_members c us) → In m us → hi ≤ 20 → (lo : ℕ) → Misses ts m lo hi
misses_front [] c us m hi s i le lo = tt
misses_front (t ∷ ts) c us m hi s i le lo = ((λ e. inl (up hi t.place (s.0.member (subst (λ x. In x us) e i)) le)), misses_front ts c us m hi s.1 i le lo)
  where
    up : (h p : ℕ) → 20 ≤ p → h ≤ 20 → h ≤ p
    up h p a b = omega arith

module _ (b now : List ℕ) (records records' : List ℕ) (upto : ℕ) (tiled : AreTiles b 8 upto records) (inside : upto ≤ length b) (sub : (m : ℕ) → In m records → In m records') where
  module _ (touches : List Touch) (change : Changed b now touches) (placed : Placed b records upto touches) where
    part : (m lo hi : ℕ) → In m records → hi ≤ size_at b m → Misses touches m lo hi → Same b now (m + lo) (m + hi)
    part m lo hi i fits miss = changed_part b now records upto tiled inside touches change placed m lo hi i fits miss

    size_of : (m : ℕ) → In m records → Misses touches m 0 12 → size_at now m ≡ size_at b m
    size_of m i miss = let l = (tile_lies b 8 upto records m tiled i).long in word_kept b now (m + 0) (m + 12) (part m 0 12 i l miss) (m + 0) 8 (omega arith) (omega arith)

    type_of : (m : ℕ) → In m records → Misses touches m 0 12 → type_at now m ≡ type_at b m
    type_of m i miss = let l = (tile_lies b 8 upto records m tiled i).long in word_kept b now (m + 0) (m + 12) (part m 0 12 i l miss) (m + 8) 4 (omega arith) (omega arith)

    next_same : (m : ℕ) → In m records → 20 ≤ size_at b m → Misses touches m 12 20 → next_of now m ≡ next_of b m
    next_same m i fits miss = word_kept b now (m + 12) (m + 20) (part m 12 20 i fits miss) (m + 12) 8 (omega arith) (omega arith)

    link_same : (m place : ℕ) → In m records → place + 8 ≤ size_at b m → Misses touches m place (place + 8) → word now (m + place) 8 ≡ word b (m + place) 8
    link_same m place i fits miss = word_kept b now (m + place) (m + (place + 8)) (part m place (place + 8) i fits miss) (m + place) 8 (omega arith) (assoc m place)
      where
        assoc : (x y : ℕ) → x + y + 8 ≤ x + (y + 8)
        assoc x y = omega arith

    linkable_kept : (type m : ℕ) → is_linkable b records type m ≡ true → Misses touches m 0 12 → is_linkable now records' type m ≡ true
    linkable_kept type m ok miss =
        let i = linkable-in b records type m ok in
        linkable-from now records' type m (sub m i) (type_of m i miss ∙ linkable-type b records type m ok) (subst (λ (n : ℕ). 28 ≤ n) (sym (size_of m i miss)) (linkable-long b records type m ok))

    holder_kept : (c : ChainHead) (ms : List ℕ) → IsHead b records c → Misses touches c.holder 0 12 → IsChain now records' c.type (word now (head_place c) 8) ms → IsHead now records' (with_members c ms)
    holder_kept c ms h miss chain = record {
      holder_in = sub c.holder h.holder_in;
      fits = subst (λ (n : ℕ). c.place + 8 ≤ n) (sym (size_of c.holder h.holder_in miss)) h.fits;
      later = elim h.later [ inl l ↦ inl l | inr l ↦ inr (l.0, (ap (λ (t : ℕ). is_in t linked_types) (type_of c.holder h.holder_in miss) ∙ l.1)) ];
      linked = h.linked;
      chain_is = chain;
    }

    -- a chain that no touch meets
    pub head_spared : (c : ChainHead) → IsHead b records c → AllSpare touches c → IsHead now records' c
    head_spared c h s = holder_kept c c.members h (misses_holder touches c s) (record {
      leads = subst (λ (x : ℕ). Leads now x c.members 0) (sym (link_same c.holder c.place h.holder_in h.fits (misses_head touches c s)))
          (leads_same b now (word b (head_place c) 8) c.members 0 h.chain_is.leads (λ m i. next_same m (linkable-in b records c.type m (h.chain_is.linkable m i)) (let l = linkable-long b records c.type m (h.chain_is.linkable m i) in omega arith) (misses_front touches c c.members m 20 s i (omega arith) 12)));
      linkable = λ m i. linkable_kept c.type m (h.chain_is.linkable m i) (misses_front touches c c.members m 12 s i (omega arith) 0);
      once = h.chain_is.once;
    })

  -- ---- the chain whose link behind a front part is written

  module _ (holder place : ℕ) (more : List Touch) (change : Changed b now (touch holder place 8 ∷ more)) (placed : Placed b records upto (touch holder place 8 ∷ more)) where
    later_12 : (c : ChainHead) → IsHead b records c → 12 ≤ c.place
    later_12 c h = elim h.later [ inl l ↦ low c.place l | inr l ↦ l.0 ]
      where
        low : (p : ℕ) → 20 ≤ p → 12 ≤ p
        low p l = omega arith

    place_12 : (c : ChainHead) (us ws : List ℕ) → IsHead b records (with_members c (us ++ ws)) → IsLinkAfter c us holder place → 12 ≤ place
    place_12 c us ws h f = elim f.1 [ inl g ↦ subst (λ (p : ℕ). 12 ≤ p) (sym g.1) (later_12 (with_members c (us ++ ws)) h) | inr g ↦ subst (λ (p : ℕ). 12 ≤ p) (sym g.1) (omega arith) ]

    -- the head field is no next field of a member
    head_apart : (c : ChainHead) (us ws : List ℕ) → IsHead b records (with_members c (us ++ ws)) → (m : ℕ) → In m us → head_place c ≢ m + 12
    head_apart c us ws h m i e =
        let j = In-append_left m us ws i in
        let ok = h.chain_is.linkable m j in
        let tile = linkable-in b records c.type m ok in
        let long = linkable-long b records c.type m ok in
        let room = h.fits in
        elim (cases_eq c.holder m) [
          | inl x ↦ elim h.later [
            | inl l ↦ absurd (clash c.holder c.place m e x l)
            | inr l ↦ absurd (true≢false (sym h.linked ∙ ap (λ (t : ℕ). is_in t linked_types) (sym (linkable-type b records c.type m ok) ∙ ap (type_at b) (sym x)) ∙ l.1))
          ]
          | inr ne ↦ elim (tiles_lie_apart b 8 upto records c.holder m tiled h.holder_in tile ne) [
            | inl p ↦ absurd (before c.holder c.place (size_at b c.holder) m e room p)
            | inr p ↦ absurd (behind c.holder c.place (size_at b m) m e long p)
          ]
        ]
      where
        clash : (h p m : ℕ) → h + p ≡ m + 12 → h ≡ m → 20 ≤ p → ⊥
        clash h p m e x l = omega arith

        before : (h p s m : ℕ) → h + p ≡ m + 12 → p + 8 ≤ s → h + s ≤ m → ⊥
        before h p s m e r q = omega arith

        behind : (h p s m : ℕ) → h + p ≡ m + 12 → 28 ≤ s → m + s ≤ h → ⊥
        behind h p s m e l q = omega arith

    -- a record with a next field that holds the head has it behind that
    member_head : (c : ChainHead) (us ws : List ℕ) → IsHead b records (with_members c (us ++ ws)) → In c.holder us → 20 ≤ c.place
    member_head c us ws h i =
        let ok = h.chain_is.linkable c.holder (In-append_left c.holder us ws i) in
        elim h.later [ inl l ↦ l | inr l ↦ absurd (true≢false (sym h.linked ∙ ap (λ (t : ℕ). is_in t linked_types) (sym (linkable-type b records c.type c.holder ok)) ∙ l.1)) ]

    pub one_chain : (c : ChainHead) (us ws zs : List ℕ) → IsHead b records (with_members c (us ++ ws)) → IsLinkAfter c us holder place → AllSpare more (with_members c us)
        → Leads now (word now (holder + place) 8) zs 0 → ((z : ℕ) → In z zs → is_linkable now records' c.type z ≡ true) → Distinct (us ++ zs)
        → IsHead now records' (with_members c (us ++ zs))
    one_chain c us ws zs h f spare new good once =
        let ts = touch holder place 8 ∷ more in
        let own = place_12 c us ws h f in
        let in_us = λ (m : ℕ) (i : In m us). In-append_left m us ws i in
        let ok = λ (m : ℕ) (i : In m us). h.chain_is.linkable m (in_us m i) in
        let low : (m : ℕ) → In m us → Misses ts m 0 12 = λ m i. ((λ e. inl own), misses_front more c us m 12 spare i (omega arith) 0) in
        let new' : Leads now (word now (end_place (head_place c) us) 8) zs 0 = subst (λ (p : ℕ). Leads now (word now p 8) zs 0) (sym f.0) new in
        let nexts = λ (m : ℕ) (i : In m us) (ne : m + 12 ≢ end_place (head_place c) us).
        next_same ts change placed m (linkable-in b records c.type m (ok m i)) (let l = linkable-long b records c.type m (ok m i) in omega arith)
        ((λ e. elim f.1 [ inl g ↦ inl (subst (λ (p : ℕ). 20 ≤ p) (sym g.1) (member_head c us ws h (subst (λ (x : ℕ). In x us) (e ∙ g.0) i))) | inr g ↦ absurd (ne (ap (λ x. x + 12) e ∙ ap (λ o. holder + o) (sym g.1) ∙ sym f.0)) ]), misses_front more c us m 20 spare i (omega arith) 12) in
        let first = λ (ne : head_place c ≢ end_place (head_place c) us).
        link_same ts change placed c.holder c.place h.holder_in h.fits
        ((λ e. elim f.1 [ inl g ↦ absurd (ne (ap (λ x. x + c.place) (sym g.0) ∙ ap (λ o. holder + o) (sym g.1) ∙ sym f.0)) | inr g ↦ inr (subst (λ (p : ℕ). p + 8 ≤ c.place) (sym g.1) (member_head c us ws h (subst (λ (x : ℕ). In x us) (sym e) g.0))) ]), misses_head more (with_members c us) spare) in
        holder_kept ts change placed (with_members c (us ++ ws)) (us ++ zs) h ((λ e. inl own), misses_holder more (with_members c us) spare) (record {
          leads = leads_splice b now (head_place c) us ws zs h.chain_is.leads (Distinct-front us ws h.chain_is.once) (head_apart c us ws h) first nexts new';
          linkable = λ m i. elim (In-append m us zs i) [ inl j ↦ linkable_kept ts change placed c.type m (ok m j) (low m j) | inr j ↦ good m j ];
          once = once;
        })

    -- every other chain stays
    pub other_chain : (c : ChainHead) (us ws : List ℕ) (other : ChainHead) → IsHead b records (with_members c (us ++ ws)) → IsLinkAfter c us holder place → IsHead b records other → IsOther c us other → AllSpare more other → IsHead now records' other
    other_chain c us ws other h f o apart spare =
        let own = place_12 c us ws h f in
        head_spared (touch holder place 8 ∷ more) change placed other o (
          record {
            holder = λ e. own;
            head = λ e. elim f.1 [
              | inl g ↦ elim (apart.apart (sym g.0 ∙ sym e)) [ inl x ↦ inr (subst (λ (p : ℕ). p + 8 ≤ other.place) (sym g.1) x) | inr x ↦ inl (subst (λ (p : ℕ). other.place + 8 ≤ p) (sym g.1) x) ]
              | inr g ↦ inr (subst (λ (p : ℕ). p + 8 ≤ other.place) (sym g.1) (behind e g.0))
            ];
            member = λ i. elim f.1 [ inl g ↦ beyond g i | inr g ↦ absurd (apart.no_member holder g.0 i) ];
          },
          spare,
        )
      where
        -- the holder of the other chain has a next field, so its head lies behind it
        behind : other.holder ≡ holder → In holder us → 12 + 8 ≤ other.place
        behind e i =
            let ok = h.chain_is.linkable holder (In-append_left holder us ws i) in
            elim o.later [
              | inl l ↦ l
              | inr l ↦ absurd (true≢false (sym h.linked ∙ ap (λ (t : ℕ). is_in t linked_types) (sym (linkable-type b records c.type holder ok) ∙ ap (type_at b) (sym e)) ∙ l.1))
            ]

        -- a member of the other chain has a next field, so a head in it lies behind that
        beyond : (holder ≡ c.holder) × (place ≡ c.place) → In holder other.members → 20 ≤ place
        beyond g i =
            let ok = o.chain_is.linkable holder i in
            elim h.later [
              | inl l ↦ subst (λ (p : ℕ). 20 ≤ p) (sym g.1) l
              | inr l ↦ absurd (true≢false (sym o.linked ∙ ap (λ (t : ℕ). is_in t linked_types) (sym (linkable-type b records other.type holder ok) ∙ ap (type_at b) g.0) ∙ l.1))
            ]
