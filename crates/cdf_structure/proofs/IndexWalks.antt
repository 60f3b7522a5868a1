-- Steps of a walk over an index.
use Rattle.cdf_structure.proofs.Common.{Bool, Entries, List, Met, Nodes, [], and_then, ap, arith, block, cvvr_type, either, entries_on, eq-eqb, eqb, eqb-true, false, first_at, inl, inr, is_in, is_linkable, last_at, lost, lower, met, ne_eqb, next_of, no_entry, no_node, node, nodes_on, not, offset_at, refl, room_at, suc, sym, true, true≢false, type_at, used_count, vxr_type, zero, ℕ, ◌&&◌, ◌++◌, ◌+◌, ◌∙◌, ◌∷◌, ◌≡◌, ◌≢◌}
use Rattle.cdf_structure.proofs.IndexJoins.{join, link_chains, chains-assoc}

-- ---- entries

same : (x : Met Entries) → and_then x (λ t others. met t (join no_entry others)) ≡ x
same (met seen entries) = refl
same (lost place) = refl

-- an entry before others
module _ (wrap : Entries → Entries) (law : (es others : Entries) → wrap (join es others) ≡ join (wrap es) others) where
  wrapped_last : (es : Entries) (x : Met Entries) → and_then (and_then x (λ u others. met u (join es others))) (λ t e. met t (wrap e)) ≡ and_then x (λ u others. met u (join (wrap es) others))
  wrapped_last es (met seen others) = ap (met seen) (law es others)
  wrapped_last es (lost place) = refl

  wrapped : (x : Met Entries) (more : List ℕ → Met Entries)
      → and_then (and_then x (λ t es. and_then (more t) (λ u others. met u (join es others)))) (λ t e. met t (wrap e))
      ≡ and_then (and_then x (λ t es. met t (wrap es))) (λ t es. and_then (more t) (λ u others. met u (join es others)))
  wrapped (met seen es) more = wrapped_last es (more seen)
  wrapped (lost place) more = refl

module _ (below : List ℕ → ℕ → ℕ → Met Nodes) (b ts : List ℕ) (place : ℕ) where
  -- those of a node from a number on
  abbrev on : ℕ → ℕ → List ℕ → Met Entries
  on i count seen = entries_on below b ts place i count seen

  -- an entry that names a block
  pub one_block : (i : ℕ) (seen : List ℕ) → is_linkable b ts vxr_type (offset_at b place i) ≡ false
      → on i 1 seen ≡ met seen (block (first_at b place i) (last_at b place i) (offset_at b place i) (eqb (type_at b (offset_at b place i)) cvvr_type) no_entry)
  unfolding entries_on
  one_block i seen plain = rw plain refl

  -- an entry that names a lower chain
  pub one_lower : (i : ℕ) (seen now : List ℕ) (nodes : Nodes) → is_linkable b ts vxr_type (offset_at b place i) ≡ true → below seen place (offset_at b place i) ≡ met now nodes
      → on i 1 seen ≡ met now (lower (first_at b place i) (last_at b place i) nodes no_entry)
  unfolding entries_on
  one_lower i seen now nodes leads is = rw (leads, is) refl

  pub one_lost : (i : ℕ) (seen : List ℕ) (at : ℕ) → is_linkable b ts vxr_type (offset_at b place i) ≡ true → below seen place (offset_at b place i) ≡ lost at → on i 1 seen ≡ lost at
  unfolding entries_on
  one_lost i seen at leads is = rw (leads, is) refl

  pub no_entries : (i : ℕ) (seen : List ℕ) → on i 0 seen ≡ met seen no_entry
  unfolding entries_on
  no_entries i seen = refl

  -- the entries behind others, of which these came first
  abbrev behind : ℕ → ℕ → Met Entries → Met Entries
  behind i m x = and_then x (λ t es. and_then (on i m t) (λ u others. met u (join es others)))

  behind_first : (i n m : ℕ) (wrap : Entries → Entries) → ((es others : Entries) → wrap (join es others) ≡ join (wrap es) others) → (s : List ℕ) → on (suc i) (n + m) s ≡ behind (suc i + n) m (on (suc i) n s)
      → and_then (on (suc i) (n + m) s) (λ t es. met t (wrap es)) ≡ behind (i + suc n) m (and_then (on (suc i) n s) (λ t es. met t (wrap es)))
  behind_first i n m wrap law s e =
      let next : suc i + n ≡ i + suc n = omega arith in
      ap (λ (r : Met Entries). and_then r (λ t es. met t (wrap es))) e
      ∙ wrapped wrap law (on (suc i) n s) (on (suc i + n) m)
      ∙ ap (λ (k : ℕ). behind k m (and_then (on (suc i) n s) (λ t es. met t (wrap es)))) next

  behind_chain : (i n m first last : ℕ) (x : Met Nodes) → ((s : List ℕ) → on (suc i) (n + m) s ≡ behind (suc i + n) m (on (suc i) n s))
      → and_then x (λ s nodes. and_then (on (suc i) (n + m) s) (λ t es. met t (lower first last nodes es))) ≡ behind (i + suc n) m (and_then x (λ s nodes. and_then (on (suc i) n s) (λ t es. met t (lower first last nodes es))))
  behind_chain i n m first last (met s nodes) e = behind_first i n m (lower first last nodes) (λ es others. refl) s (e s)
  behind_chain i n m first last (lost at) e = refl

  entries_then : (i n m : ℕ) (seen : List ℕ) → on i (n + m) seen ≡ behind (i + n) m (on i n seen)
  unfolding entries_on
  entries_then i zero m seen =
      let here : i ≡ i + 0 = omega arith in
      let count : 0 + m ≡ m = omega arith in
      rw count (ap (λ (k : ℕ). on k m seen) here ∙ sym (same (on (i + 0) m seen)))
  entries_then i (suc n) m seen =
      let count : suc n + m ≡ suc (n + m) = omega arith in
      rw count (elim (either (is_linkable b ts vxr_type (offset_at b place i))) [
        | inl leads ↦ rw leads (behind_chain i n m (first_at b place i) (last_at b place i) (below seen place (offset_at b place i)) (λ s. entries_then (suc i) n m s))
        | inr plain ↦ rw plain (behind_first i n m (block (first_at b place i) (last_at b place i) (offset_at b place i) (eqb (type_at b (offset_at b place i)) cvvr_type)) (λ es others. refl) seen (entries_then (suc i) n m seen))
      ])

  from_first : (n m : ℕ) (seen : List ℕ) → on 0 (n + m) seen ≡ behind n m (on 0 n seen)
  from_first n m seen = let here : 0 + n ≡ n = omega arith in rw here at (entries_then 0 n m seen)

  -- the walk of more entries, after the first ones, or lost behind them
  module _ (n m : ℕ) (seen now : List ℕ) (entries : Entries) (before : on 0 n seen ≡ met now entries) where
    pub more_met : (then : List ℕ) (others : Entries) → on n m now ≡ met then others → on 0 (n + m) seen ≡ met then (join entries others)
    more_met then others e = from_first n m seen ∙ ap (behind n m) before ∙ ap (λ (x : Met Entries). and_then x (λ t os. met t (join entries os))) e

    pub more_lost : (at : ℕ) → on n m now ≡ lost at → on 0 (n + m) seen ≡ lost at
    more_lost at e = from_first n m seen ∙ ap (behind n m) before ∙ ap (λ (x : Met Entries). and_then x (λ t os. met t (join entries os))) e

  -- a walk that is lost stays so
  pub lost_on : (n m : ℕ) (seen : List ℕ) (at : ℕ) → on 0 n seen ≡ lost at → on 0 (n + m) seen ≡ lost at
  lost_on n m seen at e = from_first n m seen ∙ ap (behind n m) e

-- ---- chains

abbrev is_met : Met Nodes → Bool
is_met (met seen nodes) = true
is_met (lost place) = false

not_lost : (place : ℕ) (seen : List ℕ) (nodes : Nodes) → lost place ≡ met seen nodes → ⊥
not_lost place seen nodes e = true≢false (ap is_met (sym e))

module _ (below : List ℕ → ℕ → ℕ → Met Nodes) (b ts : List ℕ) where
  -- what is left of a chain, of at most so many nodes
  abbrev left : ℕ → List ℕ → ℕ → ℕ → Met Nodes
  left most seen holder link = nodes_on below most b ts seen holder link

  pub chain_ends : (most : ℕ) (seen : List ℕ) (holder link : ℕ) → link ≡ 0 → left most seen holder link ≡ met seen no_node
  unfolding nodes_on
  chain_ends zero seen holder link none = rw (eq-eqb link 0 none) refl
  chain_ends (suc most) seen holder link none = rw (eq-eqb link 0 none) refl

  pub chain_spent : (most : ℕ) (seen : List ℕ) (holder link : ℕ) → most ≡ 0 → link ≢ 0 → left most seen holder link ≡ lost holder
  unfolding nodes_on
  chain_spent zero seen holder link e some = rw (ne_eqb link 0 some) refl
  chain_spent (suc most) seen holder link e some = absurd (omega (arith, e))

  pub chain_stops : (most : ℕ) (seen : List ℕ) (holder link : ℕ) → link ≢ 0 → (is_linkable b ts vxr_type link && not (is_in link seen)) ≡ false → left most seen holder link ≡ lost holder
  unfolding nodes_on
  chain_stops zero seen holder link some stale = rw (ne_eqb link 0 some) refl
  chain_stops (suc most) seen holder link some stale = rw (ne_eqb link 0 some, stale) refl

  module _ (most less : ℕ) (is : most ≡ suc less) (seen : List ℕ) (holder link : ℕ) (some : link ≢ 0) (fresh : (is_linkable b ts vxr_type link && not (is_in link seen)) ≡ true) where
    node_step : left most seen holder link ≡ and_then (entries_on below b ts link 0 (used_count b link) (seen ++ link ∷ [])) (λ s entries. and_then (left less s link (next_of b link)) (λ t more. met t (node link (room_at b link) entries more)))
    unfolding nodes_on
    node_step = rw (is, ne_eqb link 0 some, fresh) refl

    pub node_lost : (at : ℕ) → entries_on below b ts link 0 (used_count b link) (seen ++ link ∷ []) ≡ lost at → left most seen holder link ≡ lost at
    node_lost at e = node_step ∙ ap (λ (x : Met Entries). and_then x (λ s entries. and_then (left less s link (next_of b link)) (λ t more. met t (node link (room_at b link) entries more)))) e

    pub node_met : (now : List ℕ) (entries : Entries) → entries_on below b ts link 0 (used_count b link) (seen ++ link ∷ []) ≡ met now entries
        → left most seen holder link ≡ and_then (left less now link (next_of b link)) (λ t more. met t (node link (room_at b link) entries more))
    node_met now entries e = node_step ∙ ap (λ (x : Met Entries). and_then x (λ s es. and_then (left less s link (next_of b link)) (λ t more. met t (node link (room_at b link) es more)))) e

  -- a chain that leads right does so from any record with its link
  pub from_any : (most : ℕ) (seen : List ℕ) (one other link : ℕ) (now : List ℕ) (nodes : Nodes) → left most seen one link ≡ met now nodes → left most seen other link ≡ met now nodes
  from_any most seen one other link now nodes e = elim (either (eqb link 0)) [
    | inl none ↦ let z : link ≡ 0 = eqb-true link 0 none in chain_ends most seen other link z ∙ sym (chain_ends most seen one link z) ∙ e
    | inr some ↦
        let goes : link ≢ 0 = λ z. absurd (true≢false (sym (eq-eqb link 0 z) ∙ some)) in
        elim (either (is_linkable b ts vxr_type link && not (is_in link seen))) [
          | inl fresh ↦ on_from most refl goes fresh
          | inr stale ↦ absurd (not_lost one now nodes (sym (chain_stops most seen one link goes stale) ∙ e))
        ]
  ]
    where
      on_from : (n : ℕ) → n ≡ most → link ≢ 0 → (is_linkable b ts vxr_type link && not (is_in link seen)) ≡ true → left most seen other link ≡ met now nodes
      on_from zero is goes fresh = absurd (not_lost one now nodes (sym (chain_spent most seen one link (sym is) goes) ∙ e))
      on_from (suc less) is goes fresh = node_step most less (sym is) seen other link goes fresh ∙ sym (node_step most less (sym is) seen one link goes fresh) ∙ e

-- what is left, behind nodes that were met
abbrev pub behind_nodes : Nodes → Met Nodes → Met Nodes
behind_nodes done (met seen more) = met seen (link_chains done more)
behind_nodes done (lost place) = lost place

pub behind_one : (done : Nodes) (place room : ℕ) (entries : Entries) (x : Met Nodes) → behind_nodes done (and_then x (λ t more. met t (node place room entries more))) ≡ behind_nodes (link_chains done (node place room entries no_node)) x
behind_one done place room entries (met seen more) = ap (met seen) (sym (chains-assoc done (node place room entries no_node) more))
behind_one done place room entries (lost at) = refl
