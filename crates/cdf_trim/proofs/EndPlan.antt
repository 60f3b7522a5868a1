-- Records cut at the end of an index of which no node is empty, where each block begins before them: no record is freed, and an image has what is planned where the entries that reach the records that go end before them, and all else stays.
use Rattle.cdf_cuts.proofs.Common.{Done, Doing, Each, Each-append, Each-split, Entries, Entry, HasNodes, In, In-append_left, In-append_right, IsNode, List, Names, NodeSays, Nodes, Range, SayEntries, SaysEntry, [], ap, arith, block, cases_lt, cut_words, discard, discarded, dropped, entry_count, entry_in, entry_leaves, flat_map, inl, inr, kept_by, leaves_of, length, link_if, link_to, lower, lower_nodes, next_of, no_entry, no_node, node, nodes_of, number, plan_below, plan_of, range, refl, release, released, relink, rewrite, rewrite_one, room_at, stands_after, step, subst, suc, sym, used_count, vxr_n_used_entries, zero, ℕ, ◌++◌, ◌+◌, ◌-◌, ◌<◌, ◌∙◌, ◌∷◌, ◌≡◌, ◌≢◌, ◌≤◌, ◌⊎◌}
use Rattle.std.specs.Prelude.{min}
use Rattle.cdf_cuts.proofs.CutWords.{length_words, words_of}
use Rattle.cdf_cuts.specs.Planning.{opening}
use Rattle.cdf_trim.proofs.EndShape.{Begins, count_ended, kept_front, link_ended, words_ended}
unfoldable use Rattle.cdf_trim.proofs.EndShape.{ended_below}
use Rattle.cdf_puts.specs.TidyIndex.{HasEntry}
unfoldable use Rattle.cdf_puts.specs.TidyIndex.{EntriesTidy, IsTidy}

-- ---- nothing is freed

-- done, and no record was to be freed
abbrev pub IsDone : List ℕ → Doing → Type 0
IsDone now (rewrite r) = NodeSays now r
IsDone now (relink place next) = next_of now place ≡ next
IsDone now (release place) = ⊥
IsDone now (discard place) = ⊥

pub each_done : (now : List ℕ) (steps : List Doing) → Each (IsDone now) steps → Each (Done now) steps
each_done now [] e = tt
each_done now (rewrite r ∷ more) e = (e.0, each_done now more e.1)
each_done now (relink place next ∷ more) e = (e.0, each_done now more e.1)
each_done now (release place ∷ more) e = absurd e.0
each_done now (discard place ∷ more) e = absurd e.0

pub none_freed : (now : List ℕ) (steps : List Doing) → Each (IsDone now) steps → (flat_map released steps ≡ []) × (flat_map discarded steps ≡ [])
none_freed now [] e = (refl, refl)
none_freed now (rewrite r ∷ more) e = none_freed now more e.1
none_freed now (relink place next ∷ more) e = none_freed now more e.1
none_freed now (release place ∷ more) e = absurd e.0
none_freed now (discard place ∷ more) e = absurd e.0

-- ---- which entries reach the records that go

unfoldable mutual
  -- only these, each by its node and its number
  pub OnlyReach : ℕ → (ℕ → ℕ → Type 0) → Nodes → Type 0
  OnlyReach first Here no_node = Unit {0}
  OnlyReach first Here (node place room es more) = EntriesReach first Here place 0 es × OnlyReach first Here more

  pub EntriesReach : ℕ → (ℕ → ℕ → Type 0) → ℕ → ℕ → Entries → Type 0
  EntriesReach first Here place i no_entry = Unit {0}
  EntriesReach first Here place i (block f l at packed es) = (first ≤ l → Here place i) × EntriesReach first Here place (suc i) es
  EntriesReach first Here place i (lower f l ns es) = OnlyReach first Here ns × EntriesReach first Here place (suc i) es

-- ---- what an image has

-- a node has as many entries, and the same one behind it
pub record SameFields (b now : List ℕ) (m : ℕ) : Type 0 where
  pub room_is : room_at now m ≡ room_at b m
  pub used_is : used_count now m ≡ used_count b m
  pub count_is : number now m vxr_n_used_entries ≡ used_count b m
  pub next_is : next_of now m ≡ next_of b m

-- Of these nodes, these entries end before a record, and those stay that end before it or lead to a node.
pub record EndsWritten (b now all : List ℕ) (first : ℕ) (Here : ℕ → ℕ → Type 0) : Type 0 where
  pub fields : (m : ℕ) → In m all → SameFields b now m
  pub still : (m j f l o : ℕ) → In m all → j < used_count b m → SaysEntry b m j f l o → (l < first) ⊎ In o all → SaysEntry now m j f l o
  pub here : (m j f l o : ℕ) → In m all → Here m j → SaysEntry b m j f l o → SaysEntry now m j f (first - 1) o

from_zero : (j : ℕ) → 0 + j ≡ j
from_zero j = omega arith

link_in : (ns : Nodes) → IsNode ns → In (link_to ns) (nodes_of ns)
unfolding nodes_of
link_in no_node h = absurd h
link_in (node place room es more) h = inl refl

module _ {b now all : List ℕ} {first : ℕ} {Here : ℕ → ℕ → Type 0} (w : EndsWritten b now all first Here) where
  block_said : (place i f l at : ℕ) → In place all → i < used_count b place → SaysEntry b place i f l at → (first ≤ l → Here place i) → SaysEntry now place i f (min l (first - 1)) at
  block_said place i f l at p lt s r = elim (cases_lt l first) [
    | inl before ↦ let same : min l (first - 1) ≡ l = omega (arith, before) in rw same (w.still place i f l at p lt s (inl before))
    | inr past ↦ let same : min l (first - 1) ≡ first - 1 = omega (arith, past) in rw same (w.here place i f l at p (r past) s)
  ]

  says_from : (place i : ℕ) (es : Entries) → In place all → i + entry_count es ≤ used_count b place → SayEntries b place i es → EntriesReach first Here place i es → EntriesTidy es → ((m : ℕ) → In m (lower_nodes es) → In m all)
      → (j : ℕ) → j < entry_count es → SaysEntry now place (i + j) (entry_in (words_of (ended_below first es)) j).first (entry_in (words_of (ended_below first es)) j).last (entry_in (words_of (ended_below first es)) j).place
  unfolding EntriesReach ended_below lower_nodes EntriesTidy
  says_from place i no_entry p c s r t sub j lt = absurd (omega (arith, lt))
  says_from place i (block f l at packed es) p c s r t sub zero lt =
      let z : i ≡ i + 0 = omega arith in
      subst (λ (n : ℕ). SaysEntry now place n f (min l (first - 1)) at) z (block_said place i f l at p (omega (arith, c)) s.0 r.0)
  says_from place i (block f l at packed es) p c s r t sub (suc j) lt =
      let z : suc i + j ≡ i + suc j = omega arith in
      let e = entry_in (words_of (ended_below first es)) j in
      subst (λ (n : ℕ). SaysEntry now place n e.first e.last e.place) z (says_from place (suc i) es p (omega (arith, c)) s.1 r.1 t sub j (omega (arith, lt)))
  says_from place i (lower f l ns es) p c s r t sub zero lt =
      let z : i ≡ i + 0 = omega arith in
      let there = sub (link_to ns) (In-append_left (link_to ns) (nodes_of ns) (lower_nodes es) (link_in ns t.0)) in
      rw (link_ended first ns) (subst (λ (n : ℕ). SaysEntry now place n f l (link_to ns)) z (w.still place i f l (link_to ns) p (omega (arith, c)) s.0 (inr there)))
  says_from place i (lower f l ns es) p c s r t sub (suc j) lt =
      let z : suc i + j ≡ i + suc j = omega arith in
      let e = entry_in (words_of (ended_below first es)) j in
      subst (λ (n : ℕ). SaysEntry now place n e.first e.last e.place) z (says_from place (suc i) es p (omega (arith, c)) s.1 r.1 t.2 (λ m k. sub m (In-append_right m (nodes_of ns) (lower_nodes es) k)) j (omega (arith, lt)))

  node_done : (place room : ℕ) (es : Entries) → In place all → room_at b place ≡ room → used_count b place ≡ entry_count es → SayEntries b place 0 es → EntriesReach first Here place 0 es → EntriesTidy es → ((m : ℕ) → In m (lower_nodes es) → In m all)
      → (ws : List Entry) → ws ≡ words_of (ended_below first es) → NodeSays now (record { place = place; room = room; used = entry_count es; entries = ws })
  node_done place room es p room_is used_is s r t sub ws e =
      let f = w.fields place p in
      let many : length (words_of (ended_below first es)) ≡ entry_count es = length_words (ended_below first es) ∙ count_ended first es in
      let first_says = λ (j : ℕ). subst (λ (n : ℕ). SaysEntry now place n (entry_in (words_of (ended_below first es)) j).first (entry_in (words_of (ended_below first es)) j).last (entry_in (words_of (ended_below first es)) j).place) (from_zero j) in
      rw e (record {
        room_is = f.room_is ∙ room_is;
        used_is = f.used_is ∙ used_is ∙ sym many;
        count_is = f.count_is ∙ used_is ∙ sym many;
        gone = λ j le lt room. absurd (omega (arith, many, le, lt));
        says = λ j lt. first_says j (says_from place 0 es p (omega (arith, used_is)) s r t sub j (omega (arith, many, lt)));
      })

  link_done : (prev place : ℕ) → (prev ≢ 0 → next_of now prev ≡ place) → Each (IsDone now) (link_if prev place)
  link_done zero place n = tt
  link_done (suc prev) place n = (n (λ e. absurd (omega (arith, e))), tt)

  dropped_done : (rs : List Range) (r : Range) (place : ℕ) → rs ≡ r ∷ [] → Each (IsDone now) (dropped rs place)
  dropped_done [] r place e = absurd cc
  dropped_done (x ∷ rest) r place e = tt

  step_done : (prev place room used : ℕ) (ws : List Entry) (rest : ℕ → List Doing) → 0 < length ws → (prev ≢ 0 → next_of now prev ≡ place) → NodeSays now (record { place = place; room = room; used = used; entries = ws }) → Each (IsDone now) (rest place)
      → Each (IsDone now) (step prev place room used ws ++ rest (stands_after prev place ws))
  step_done prev place room used [] rest some n s e = absurd (omega (arith, some))
  step_done prev place room used (x ∷ ws) rest some n s e = Each-append (IsDone now) (link_if prev place ++ rewrite_one place room used (x ∷ ws)) (rest place) (Each-append (IsDone now) (link_if prev place) (rewrite_one place room used (x ∷ ws)) (link_done prev place n) (s, tt)) e

  some_entry : (es : Entries) → HasEntry es → 0 < entry_count es
  some_entry no_entry h = absurd h
  some_entry (block f l at packed es) h = omega arith
  some_entry (lower f l ns es) h = omega arith

  module _ (records : List ℕ) (last : ℕ) where
    mutual
      unfolding HasNodes Names nodes_of lower_nodes IsTidy EntriesTidy OnlyReach EntriesReach plan_of plan_below leaves_of entry_leaves

      pub plan_done : (levels prev : ℕ) (ns : Nodes) → HasNodes b records levels ns → IsTidy ns → Each (Begins first) (leaves_of ns) → OnlyReach first Here ns → ((m : ℕ) → In m (nodes_of ns) → In m all) → (prev ≢ 0 → next_of now prev ≡ link_to ns) → Each (IsDone now) (plan_of (opening first last) prev ns)
      plan_done levels prev no_node has t e r sub next = link_done prev 0 next
      plan_done zero prev (node place room es more) has t e r sub next = absurd has
      plan_done (suc levels) prev (node place room es more) has t e r sub next =
          let parts = Each-split (Begins first) (entry_leaves es) (leaves_of more) e in
          let p = sub place (inl refl) in
          let ws = cut_words (opening first last) es in
          let same : ws ≡ words_of (ended_below first es) = words_ended first last es t.1 parts.0 in
          let many : length ws ≡ entry_count es = ap length same ∙ length_words (ended_below first es) ∙ count_ended first es in
          let below = λ (m : ℕ) (k : In m (lower_nodes es)). sub m (inr (In-append_left m (lower_nodes es) (nodes_of more) k)) in
          let said = node_done place room es p has.0.room_is has.0.used_is has.0.say_entries r.0 t.1 below ws same in
          let behind = plan_done (suc levels) place more has.2 t.2 parts.1 r.1 (λ m k. sub m (inr (In-append_right m (lower_nodes es) (nodes_of more) k))) (λ ne. (w.fields place p).next_is ∙ has.0.next_is) in
          Each-append (IsDone now) (plan_below (opening first last) es) (step prev place room (entry_count es) ws ++ plan_of (opening first last) (stands_after prev place ws) more) (below_done levels place 0 es has.1 t.1 parts.0 r.0 below)
          (step_done prev place room (entry_count es) ws (λ (n : ℕ). plan_of (opening first last) n more) (omega (arith, many, some_entry es t.0)) next said behind)

      below_done : (levels place i : ℕ) (es : Entries) → Names b records levels es → EntriesTidy es → Each (Begins first) (entry_leaves es) → EntriesReach first Here place i es → ((m : ℕ) → In m (lower_nodes es) → In m all) → Each (IsDone now) (plan_below (opening first last) es)
      below_done levels place i no_entry has t e r sub = tt
      below_done levels place i (block f l at packed es) has t e r sub =
          let kept = kept_by (opening first last) (range f l) in
          Each-append (IsDone now) (dropped kept at) (plan_below (opening first last) es) (dropped_done kept (range f (min l (first - 1))) at (kept_front first last f l e.0)) (below_done levels place (suc i) es has.2 t e.1 r.1 sub)
      below_done levels place i (lower f l ns es) has t e r sub =
          let parts = Each-split (Begins first) (leaves_of ns) (entry_leaves es) e in
          Each-append (IsDone now) (plan_of (opening first last) 0 ns) (plan_below (opening first last) es) (plan_done levels 0 ns has.1 t.1 parts.0 r.0 (λ m k. sub m (In-append_left m (nodes_of ns) (lower_nodes es) k)) (λ ne. absurd (ne refl)))
          (below_done levels place (suc i) es has.2 t.2 parts.1 r.1 (λ m k. sub m (In-append_right m (nodes_of ns) (lower_nodes es) k)))
