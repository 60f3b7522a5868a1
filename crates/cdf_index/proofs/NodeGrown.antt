-- A node with one entry more, or it and a new node behind it, in the tree.
use Rattle.cdf_index.proofs.Common.{rules, Begins, Chained, Entries, HasNodes, Inserted, Leaf, List, MayName, Names, Nodes, Owed, SameHeads, SayEntries, SaysEntry, SaysNode, Split, StillSays, ap, arith, entry_count, eq-eqb, is_linkable, le-ltb, length, link_to, linkable_kept, lt-ltb, max, ne_eqb, next_of, no_entry, node, past, placed, room_at, suc, sym, true, used_count, vxr_type, with_block, with_both, ℕ, ◌+◌, ◌-◌, ◌<◌, ◌∙◌, ◌≡◌, ◌≤◌}
use Rattle.cdf_index.proofs.Saying.{front, front_past, upto_both, upto_is, count_both, say_both, say_parts, names_both, names_parts, say_moved}

pub node_has : (now records : List ℕ) (levels place room : ℕ) (es : Entries) (more : Nodes) → SaysNode now records place room es more → Names now records levels es → HasNodes now records (suc levels) more → HasNodes now records (suc levels) (node place room es more)
unfolding HasNodes
node_has now records levels place room es more h n m = (h, n, m)

leaf_names : (now records : List ℕ) (levels : ℕ) (l : Leaf) (es : Entries) → MayName now records l → Names now records levels es → Names now records levels (with_block l es)
unfolding Names
leaf_names now records levels l es k n = (k.no_node, k.packed_is, n)

module _ (b now records records' : List ℕ) (heads : SameHeads b now records records') (at new used p : ℕ) (l : Leaf) (used_is : used ≡ used_count b at) (begins : Begins b at l.first p) (names : MayName now records' l) where
  -- what is owed, where the new image has what stands there now
  placed_owed : ((levels r : ℕ) (es : Entries) (more : Nodes) → SaysNode b records at r es more → Names now records' levels es → HasNodes now records' (suc levels) more → HasNodes now records' (suc levels) (placed l new at r es more)) → Owed b now records records' at (placed l new at)
  placed_owed stands = record { same_link = λ r es more. grind arith; is_node = λ r es more. grind arith; stands = stands }

  -- the entries before a new one and those behind it, as the node says them
  module _ {r : ℕ} {es : Entries} {more : Nodes} (h : SaysNode b records at r es more) (levels : ℕ) (n : Names now records' levels es) where
    many : (entry_count es ≡ used) × (entry_count (front l.first es) ≡ p) × (p + entry_count (past l.first es) ≡ used)
    many = omega (arith, used_is, h.used_is, begins es h.used_is h.say_entries, count_both (front l.first es) (past l.first es), ap entry_count (front_past l.first es))

    say : SayEntries b at 0 (front l.first es) × SayEntries b at p (past l.first es)
    say = let q = say_parts b at 0 (front l.first es) (past l.first es) (rw (front_past l.first es) h.say_entries) in let z : 0 + entry_count (front l.first es) ≡ p = (let m = many in omega arith) in (q.0, rw z at q.1)

    named : Names now records' levels (front l.first es) × Names now records' levels (past l.first es)
    named = names_parts now records' levels (front l.first es) (past l.first es) (rw (front_past l.first es) n)

    -- the node with the first of its entries, which stay, then the leaf, and others behind it
    fed_has : (rest : Entries) (behind : Nodes) → next_of now at ≡ link_to behind → room_at now at ≡ room_at b at → used_count now at ≡ suc p + entry_count rest
        → ((j : ℕ) → j < p → StillSays b now at j j) → SaysEntry now at p l.first l.last l.place → SayEntries now at (suc p) rest → Names now records' levels rest → HasNodes now records' (suc levels) behind → HasNodes now records' (suc levels) (node at r (with_both (front l.first es) (with_block l rest)) behind)
    fed_has rest behind next room used earlier here past_say past_names m =
        let q = many in
        let fr = front l.first es in
        let z : p ≡ 0 + entry_count fr = omega arith in
        let first = say_moved b now at at 0 0 fr say.0 (λ n m f o w e le lt says. (let x : n ≡ m = omega arith in rw x at (earlier n (omega arith) f o w says))) in
        let says = say_both now at 0 fr (with_block l rest) first (rw (← z) (here, past_say)) in
        let all : used_count now at ≡ entry_count (with_both fr (with_block l rest)) = used ∙ omega (arith, count_both fr (with_block l rest)) in
        node_has now records' levels at r (with_both fr (with_block l rest)) behind (search (rules, linkable_kept b now records records' heads vxr_type at h.linkable, next, room ∙ h.room_is, all, says)) (names_both now records' levels fr (with_block l rest) named.0 (leaf_names now records' levels l rest names past_names)) m

  -- ---- a node with room

  module _ (fits : used < room_at b at) (ins : Inserted b now at used p l.first l.last l.place) (inside : at + 28 ≤ length b) where
    -- the new image has the node with one entry more, and all else of the tree
    pub grown_owed : Owed b now records records' at (placed l new at)
    grown_owed = placed_owed (λ levels r es more h n m. (
        let q = many h levels n in
        let bk = past l.first es in
        let test = lt-ltb (entry_count es) r (omega (arith, h.room_is)) in
        let last = say_moved b now at at p (suc p) bk (say h levels n).1 (λ n m f k o e le lt says. (let x : suc n ≡ m = omega arith in rw x at (ins.later n le (omega arith) f k o says))) in
        rw (test, upto_both l es bk) (fed_has h levels n bk more (grind (arith, ins.changed.same, h.next_is)) ins.room_stays (ins.used_is ∙ omega arith) ins.earlier ins.here last (named h levels n).1 m)))

  -- ---- a full node

  module _ (full : room_at b at ≤ used) (fresh : is_linkable now records' vxr_type new ≡ true) where
    module _ (sp : Split b now at new used p l.first l.last l.place) (behind : p < used) where
      -- the new image has the two nodes, and all else of the tree
      pub split_owed : Owed b now records records' at (placed l new at)
      split_owed = placed_owed (λ levels r es more h n m. (
          let q = many h levels n in
          let bk = past l.first es in
          let test = le-ltb (entry_count es) r (omega (arith, h.room_is)) in
          let some = ne_eqb (entry_count bk) 0 (λ e. absurd (omega arith)) in
          let last = say_moved b now at new p 0 bk (say h levels n).1 (λ n m f o w e le lt says. (let x : n - p ≡ m = omega arith in rw x at (sp.moved n f o w le (omega arith) says))) in
          rw (test, some, upto_is l es) (fed_has h levels n no_entry (node new (max 7 (entry_count bk)) bk more) sp.next_is sp.room_stays (sp.used_is ∙ omega arith) sp.earlier sp.here tt (names_parts now records' levels no_entry es n).0
          (node_has now records' levels new (max 7 (entry_count bk)) bk more (record { linkable = fresh; next_is = sp.new_next ∙ h.next_is; room_is = sp.new_room ∙ ap (max 7) (omega arith); used_is = sp.new_used ∙ omega arith; say_entries = last }) (named h levels n).1 m))))

    module _ (ch : Chained b now at new used l.first l.last l.place) (last : p ≡ used) where
      pub chained_owed : Owed b now records records' at (placed l new at)
      chained_owed = placed_owed (λ levels r es more h n m. (
          let q = many h levels n in
          let bk = past l.first es in
          let test = le-ltb (entry_count es) r (omega (arith, h.room_is)) in
          let empty : entry_count bk ≡ 0 = omega arith in
          let room : room_at now new ≡ max 7 (entry_count bk) = ch.new_room ∙ ap (max 7) (sym empty) in
          let says = say_moved b now at at 0 0 es h.say_entries (λ n m f o w e le lt says. (let x : n ≡ m = omega arith in rw x at (ch.stay n (omega arith) f o w says))) in
          rw (test, eq-eqb (entry_count bk) 0 empty) (node_has now records' levels at r es (node new (max 7 (entry_count bk)) (with_block l no_entry) more) (search (rules, linkable_kept b now records records' heads vxr_type at h.linkable, ch.next_is, ch.room_stays ∙ h.room_is, ch.used_is ∙ used_is ∙ h.used_is, says)) n
          (node_has now records' levels new (max 7 (entry_count bk)) (with_block l no_entry) more (record { linkable = fresh; next_is = ch.new_next ∙ h.next_is; room_is = room; used_is = ch.new_used; say_entries = (ch.here, tt) }) (leaf_names now records' levels l no_entry names (names_parts now records' levels no_entry es n).0) m))))
