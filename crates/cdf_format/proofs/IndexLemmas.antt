-- An index is computed, and it is the only one.
use Rattle.std.proofs.Common.{◌≡◌, ◌≢◌, ℕ, zero, suc, ◌≤◌, List, [], ◌∷◌, ◌++◌, length, Bool, true, false, not, ◌&&◌, eqb, eq-eqb, refl, true≢false, sym, ap, subst, ◌∙◌, append_assoc, append-nil, arith, inl, inr}
use Rattle.cdf_format.proofs.Common.{eqb-true, and_parts, and_from, length-append, number, type_at, Field, vxr_type, cvvr_type, In, Distinct, AreTiles, next_of, is_in, is_linkable, Nodes, no_node, node, Entries, no_entry, block, lower, room_at, Met, met, lost}
use Rattle.cdf_format.specs.Index.{nodes_of, lower_nodes, entry_count, link_to, used_count, offset_at}
use Rattle.cdf_format.specs.IndexOf.{SayEntries, IsNode, HasNodes, Names, IsIndex}
use Rattle.cdf_format.specs.IndexWalk.{and_then, entries_on, nodes_on, levels_on, index_walk}
use Rattle.cdf_format.proofs.Members.{either, In-append, Distinct-push, Distinct-front, Distinct-back, Distinct-middle, length-le_from_distinct, false-is_in, is_in-false}
use Rattle.cdf_format.proofs.ChainsLemmas.{linkable-in, some_place}

-- ---- what is met

abbrev met_list : {A : Type 0} → Met A → List ℕ
met_list (met seen a) = seen
met_list (lost place) = []

abbrev met_value : {A : Type 0} → A → Met A → A
met_value d (met seen a) = a
met_value d (lost place) = d

met_same : {A : Type 0} (s t : List ℕ) (x y : A) → met s x ≡ met t y → (s ≡ t) × (x ≡ y)
met_same s t x y e = (ap met_list e, ap (met_value x) e)

record Before {A B : Type 0} (m : Met A) (k : List ℕ → A → Met B) (s : List ℕ) (y : B) : Type 0 where
  list : List ℕ
  value : A
  is : m ≡ met list value
  then_is : k list value ≡ met s y

met_before : {A B : Type 0} (m : Met A) (k : List ℕ → A → Met B) (s : List ℕ) (y : B) → and_then m k ≡ met s y → Before m k s y
met_before (met t x) k s y e = record { list = t; value = x; is = refl; then_is = e }
met_before (lost place) k s y e = absurd cc

-- ---- from the walk to the tree

record MetNodes (b ts : List ℕ) (levels link : ℕ) (seen now : List ℕ) (nodes : Nodes) : Type 0 where
  link_is : link ≡ link_to nodes
  has : HasNodes b ts levels nodes
  list : now ≡ seen ++ nodes_of nodes
  once : Distinct seen → Distinct now

record MetEntries (b ts : List ℕ) (levels place i left : ℕ) (seen now : List ℕ) (entries : Entries) : Type 0 where
  say : SayEntries b place i entries
  names : Names b ts levels entries
  count : left ≡ entry_count entries
  list : now ≡ seen ++ lower_nodes entries
  once : Distinct seen → Distinct now

abbrev Sound : List ℕ → List ℕ → ℕ → (List ℕ → ℕ → ℕ → Met Nodes) → Type 0
Sound b ts levels below = (seen : List ℕ) (holder link : ℕ) (now : List ℕ) (nodes : Nodes) → below seen holder link ≡ met now nodes → MetNodes b ts levels link seen now nodes

-- a link that is no link to 0 leads to a node
is_node-from : (nodes : Nodes) → link_to nodes ≢ 0 → IsNode nodes
is_node-from no_node some = absurd (some refl)
is_node-from (node place room entries more) some = tt

module _ (b ts : List ℕ) (upto : ℕ) (tiled : AreTiles b 8 upto ts) (levels : ℕ) (below : List ℕ → ℕ → ℕ → Met Nodes) where
  entries_sound : Sound b ts levels below → (place i left : ℕ) (seen now : List ℕ) (entries : Entries) → entries_on below b ts place i left seen ≡ met now entries → MetEntries b ts levels place i left seen now entries
  unfolding entries_on Names HasNodes lower_nodes nodes_of
  entries_sound sound place i zero seen now entries e =
      let s = met_same seen now no_entry entries e in
      subst (λ (z : Entries). MetEntries b ts levels place i zero seen now z) s.1 (record { say = tt; names = tt; count = refl; list = sym s.0 ∙ sym (append-nil seen); once = λ o. subst Distinct s.0 o })
  entries_sound sound place i (suc left) seen now entries e = elim (either (is_linkable b ts vxr_type (offset_at b place i))) [
    | inl leads ↦
        let p = met_before _ _ now entries (rw leads at e) in
        let q = met_before _ _ now entries p.then_is in
        let s = met_same _ now _ entries q.then_is in
        let low = sound seen place (offset_at b place i) p.list p.value p.is in
        let r = entries_sound sound place (suc i) left p.list q.list q.value q.is in
        let some : link_to p.value ≢ 0 = λ z. some_place b ts upto (offset_at b place i) tiled (linkable-in b ts vxr_type (offset_at b place i) leads) (low.link_is ∙ z) in
        subst (λ (z : Entries). MetEntries b ts levels place i (suc left) seen now z) s.1 (record {
          say = (record { first_is = refl; last_is = refl; offset_is = low.link_is }, r.say);
          names = (is_node-from p.value some, low.has, r.names);
          count = ap suc r.count;
          list = sym s.0 ∙ r.list ∙ ap (λ (z : List ℕ). z ++ lower_nodes q.value) low.list ∙ append_assoc seen (nodes_of p.value) (lower_nodes q.value);
          once = λ o. subst Distinct s.0 (r.once (low.once o));
        })
    | inr plain ↦
        let q = met_before _ _ now entries (rw plain at e) in
        let s = met_same _ now _ entries q.then_is in
        let r = entries_sound sound place (suc i) left seen q.list q.value q.is in
        subst (λ (z : Entries). MetEntries b ts levels place i (suc left) seen now z) s.1 (record {
          say = (record { first_is = refl; last_is = refl; offset_is = refl }, r.say);
          names = (plain, refl, r.names);
          count = ap suc r.count;
          list = sym s.0 ∙ r.list;
          once = λ o. subst Distinct s.0 (r.once o);
        })
  ]

  nodes_sound : Sound b ts levels below → (n : ℕ) (seen : List ℕ) (holder link : ℕ) (now : List ℕ) (nodes : Nodes) → nodes_on below n b ts seen holder link ≡ met now nodes → MetNodes b ts (suc levels) link seen now nodes
  unfolding nodes_on Names HasNodes lower_nodes nodes_of
  nodes_sound sound zero seen holder link now nodes e = elim (either (eqb link 0)) [
    | inl z ↦
        let s = met_same seen now no_node nodes (rw z at e) in
        subst (λ (x : Nodes). MetNodes b ts (suc levels) link seen now x) s.1 (record { link_is = eqb-true link 0 z; has = tt; list = sym s.0 ∙ sym (append-nil seen); once = λ o. subst Distinct s.0 o })
    | inr z ↦ let no_end = rw z at e in absurd cc
  ]
  nodes_sound sound (suc n) seen holder link now nodes e = elim (either (eqb link 0)) [
    | inl z ↦
        let s = met_same seen now no_node nodes (rw z at e) in
        subst (λ (x : Nodes). MetNodes b ts (suc levels) link seen now x) s.1 (record { link_is = eqb-true link 0 z; has = tt; list = sym s.0 ∙ sym (append-nil seen); once = λ o. subst Distinct s.0 o })
    | inr z ↦ elim (either (is_linkable b ts vxr_type link && not (is_in link seen))) [
      | inr stale ↦ let no_end = rw (z, stale) at e in absurd cc
      | inl fresh ↦
          let f = and_parts (is_linkable b ts vxr_type link) (not (is_in link seen)) fresh in
          let p = met_before _ _ now nodes (rw (z, fresh) at e) in
          let q = met_before _ _ now nodes p.then_is in
          let s = met_same _ now _ nodes q.then_is in
          let low = entries_sound sound link 0 (used_count b link) (seen ++ link ∷ []) p.list p.value p.is in
          let r = nodes_sound sound n p.list link (next_of b link) q.list q.value q.is in
          subst (λ (x : Nodes). MetNodes b ts (suc levels) link seen now x) s.1 (record {
            link_is = refl;
            has = (record { linkable = f.0; next_is = r.link_is; room_is = refl; used_is = low.count; say_entries = low.say }, low.names, r.has);
            list = sym s.0 ∙ r.list ∙ ap (λ (x : List ℕ). x ++ nodes_of q.value) low.list ∙ append_assoc (seen ++ link ∷ []) (lower_nodes p.value) (nodes_of q.value) ∙ append_assoc seen (link ∷ []) (lower_nodes p.value ++ nodes_of q.value);
            once = λ o. subst Distinct s.0 (r.once (low.once (Distinct-push seen link o (false-is_in link seen (not_true (is_in link seen) f.1)))));
          })
    ]
  ]
    where
      not_true : (p : Bool) → not p ≡ true → p ≡ false
      not_true true h = absurd (true≢false (sym h))
      not_true false h = refl

levels_sound : (b ts : List ℕ) (upto : ℕ) → AreTiles b 8 upto ts → (levels : ℕ) → Sound b ts levels (levels_on levels b ts)
unfolding levels_on HasNodes nodes_of
levels_sound b ts upto tiled zero seen holder link now nodes e = elim (either (eqb link 0)) [
  | inl z ↦
      let s = met_same seen now no_node nodes (rw z at e) in
      subst (λ (x : Nodes). MetNodes b ts zero link seen now x) s.1 (record { link_is = eqb-true link 0 z; has = tt; list = sym s.0 ∙ sym (append-nil seen); once = λ o. subst Distinct s.0 o })
  | inr z ↦ let no_end = rw z at e in absurd cc
]
levels_sound b ts upto tiled (suc levels) seen holder link now nodes e = nodes_sound b ts upto tiled levels (levels_on levels b ts) (levels_sound b ts upto tiled levels) (length ts) seen holder link now nodes e

-- a walk that ends met an index
pub index_sound : (b ts : List ℕ) (upto holder : ℕ) (f : Field) (seen : List ℕ) (nodes : Nodes) → AreTiles b 8 upto ts → index_walk b ts holder f ≡ met seen nodes → IsIndex b ts (number b holder f) nodes
index_sound b ts upto holder f seen nodes tiled e =
    let m = levels_sound b ts upto tiled 8 [] holder (number b holder f) seen nodes e in
    record { link_is = m.link_is; has_nodes = m.has; once = subst Distinct m.list (m.once tt) }

-- ---- from the tree to the walk

abbrev Complete : List ℕ → List ℕ → ℕ → (List ℕ → ℕ → ℕ → Met Nodes) → Type 0
Complete b ts levels below = (seen : List ℕ) (holder link : ℕ) (nodes : Nodes) → link ≡ link_to nodes → HasNodes b ts levels nodes → Distinct (seen ++ nodes_of nodes) → below seen holder link ≡ met (seen ++ nodes_of nodes) nodes

mutual
  unfolding HasNodes Names nodes_of lower_nodes

  pub nodes_stand : (b ts : List ℕ) (levels : ℕ) (nodes : Nodes) → HasNodes b ts levels nodes → (m : ℕ) → In m (nodes_of nodes) → is_linkable b ts vxr_type m ≡ true
  nodes_stand b ts levels no_node h m i = absurd i
  nodes_stand b ts zero (node place room entries more) h m i = absurd h
  nodes_stand b ts (suc levels) (node place room entries more) h m (inl e) = ap (is_linkable b ts vxr_type) e ∙ h.0.linkable
  nodes_stand b ts (suc levels) (node place room entries more) h m (inr i) = elim (In-append m (lower_nodes entries) (nodes_of more) i) [
    | inl j ↦ entries_stand b ts levels entries h.1 m j
    | inr j ↦ nodes_stand b ts (suc levels) more h.2 m j
  ]

  entries_stand : (b ts : List ℕ) (levels : ℕ) (entries : Entries) → Names b ts levels entries → (m : ℕ) → In m (lower_nodes entries) → is_linkable b ts vxr_type m ≡ true
  entries_stand b ts levels no_entry h m j = absurd j
  entries_stand b ts levels (block first last place packed entries) h m j = entries_stand b ts levels entries h.2 m j
  entries_stand b ts levels (lower first last nodes entries) h m j = elim (In-append m (nodes_of nodes) (lower_nodes entries) j) [
    | inl k ↦ nodes_stand b ts levels nodes h.1 m k
    | inr k ↦ entries_stand b ts levels entries h.2 m k
  ]

linkable-head : (b ts : List ℕ) (levels : ℕ) (nodes : Nodes) → IsNode nodes → HasNodes b ts levels nodes → is_linkable b ts vxr_type (link_to nodes) ≡ true
unfolding HasNodes
linkable-head b ts levels no_node i h = absurd i
linkable-head b ts zero (node place room entries more) i h = absurd h
linkable-head b ts (suc levels) (node place room entries more) i h = h.0.linkable

module _ (b ts : List ℕ) (upto : ℕ) (tiled : AreTiles b 8 upto ts) (levels : ℕ) (below : List ℕ → ℕ → ℕ → Met Nodes) (complete : Complete b ts levels below) where
  entries_complete : (place i left : ℕ) (seen : List ℕ) (entries : Entries) → SayEntries b place i entries → Names b ts levels entries → left ≡ entry_count entries → Distinct (seen ++ lower_nodes entries) → entries_on below b ts place i left seen ≡ met (seen ++ lower_nodes entries) entries
  unfolding entries_on Names lower_nodes
  entries_complete place i zero seen no_entry s h c o = ap (λ (z : List ℕ). met z no_entry) (sym (append-nil seen))
  entries_complete place i zero seen (block first last at packed entries) s h c o = absurd (omega arith)
  entries_complete place i zero seen (lower first last nodes entries) s h c o = absurd (omega arith)
  entries_complete place i (suc left) seen no_entry s h c o = absurd (omega arith)
  entries_complete place i (suc left) seen (block first last at packed entries) s h c o =
      let r = entries_complete place (suc i) left seen entries s.1 h.2 (omega arith) o in
      let at_is : offset_at b place i ≡ at = s.0.offset_is in
      let plain : is_linkable b ts vxr_type (offset_at b place i) ≡ false = ap (is_linkable b ts vxr_type) at_is ∙ h.0 in
      let kind : eqb (type_at b (offset_at b place i)) cvvr_type ≡ packed = ap (λ (z : ℕ). eqb (type_at b z) cvvr_type) at_is ∙ h.1 in
      rw (plain, r, kind, s.0.first_is, s.0.last_is, at_is) refl
  entries_complete place i (suc left) seen (lower first last nodes entries) s h c o =
      let at_is : offset_at b place i ≡ link_to nodes = s.0.offset_is in
      let leads : is_linkable b ts vxr_type (offset_at b place i) ≡ true = ap (is_linkable b ts vxr_type) at_is ∙ linkable-head b ts levels nodes h.0 h.1 in
      let o' : Distinct ((seen ++ nodes_of nodes) ++ lower_nodes entries) = subst Distinct (sym (append_assoc seen (nodes_of nodes) (lower_nodes entries))) o in
      let low = complete seen place (offset_at b place i) nodes at_is h.1 (Distinct-front (seen ++ nodes_of nodes) (lower_nodes entries) o') in
      let r = entries_complete place (suc i) left (seen ++ nodes_of nodes) entries s.1 h.2 (omega arith) o' in
      rw (leads, low, r, s.0.first_is, s.0.last_is) (ap (λ (z : List ℕ). met z (lower first last nodes entries)) (append_assoc seen (nodes_of nodes) (lower_nodes entries)))

  nodes_complete : (n : ℕ) (seen : List ℕ) (holder link : ℕ) (nodes : Nodes) → link ≡ link_to nodes → HasNodes b ts (suc levels) nodes → Distinct (seen ++ nodes_of nodes) → length (nodes_of nodes) ≤ n → nodes_on below n b ts seen holder link ≡ met (seen ++ nodes_of nodes) nodes
  unfolding nodes_on HasNodes lower_nodes nodes_of
  nodes_complete zero seen holder link no_node t h o n = rw (eq-eqb link 0 t) (ap (λ (z : List ℕ). met z no_node) (sym (append-nil seen)))
  nodes_complete (suc k) seen holder link no_node t h o n = rw (eq-eqb link 0 t) (ap (λ (z : List ℕ). met z no_node) (sym (append-nil seen)))
  nodes_complete zero seen holder link (node place room entries more) t h o n = absurd (omega arith)
  nodes_complete (suc k) seen holder link (node place room entries more) t h o n =
      let says = h.0 in
      let ok : is_linkable b ts vxr_type link ≡ true = ap (is_linkable b ts vxr_type) t ∙ says.linkable in
      let some : eqb link 0 ≡ false = elim (either (eqb link 0)) [ inl z ↦ absurd (some_place b ts upto link tiled (linkable-in b ts vxr_type link ok) (eqb-true link 0 z)) | inr z ↦ z ] in
      let rest = lower_nodes entries ++ nodes_of more in
      let o1 : Distinct (seen ++ link ∷ rest) = subst (λ (z : ℕ). Distinct (seen ++ z ∷ rest)) (sym t) o in
      let fresh : (is_linkable b ts vxr_type link && not (is_in link seen)) ≡ true = and_from (is_linkable b ts vxr_type link) (not (is_in link seen)) ok (ap not (is_in-false link seen (Distinct-middle seen link rest o1))) in
      let e1 : (seen ++ link ∷ []) ++ rest ≡ seen ++ link ∷ rest = append_assoc seen (link ∷ []) rest in
      let o2 : Distinct (((seen ++ link ∷ []) ++ lower_nodes entries) ++ nodes_of more) = subst Distinct (sym (append_assoc (seen ++ link ∷ []) (lower_nodes entries) (nodes_of more) ∙ e1)) o1 in
      let count : used_count b link ≡ entry_count entries = ap (used_count b) t ∙ says.used_is in
      let say : SayEntries b link 0 entries = subst (λ (z : ℕ). SayEntries b z 0 entries) (sym t) says.say_entries in
      let next : next_of b link ≡ link_to more = ap (next_of b) t ∙ says.next_is in
      let low = entries_complete link 0 (used_count b link) (seen ++ link ∷ []) entries say h.1 count (Distinct-front ((seen ++ link ∷ []) ++ lower_nodes entries) (nodes_of more) o2) in
      let r = nodes_complete k ((seen ++ link ∷ []) ++ lower_nodes entries) link (next_of b link) more next h.2 o2 (omega (arith, length-append (lower_nodes entries) (nodes_of more))) in
      let room_is : room_at b link ≡ room = ap (room_at b) t ∙ says.room_is in
      rw (some, fresh, low, r) (
      ap (λ (z : List ℕ). met z (node link (room_at b link) entries more)) (append_assoc (seen ++ link ∷ []) (lower_nodes entries) (nodes_of more) ∙ e1)
      ∙ ap (λ (z : ℕ). met (seen ++ link ∷ rest) (node link z entries more)) room_is
      ∙ ap (λ (z : ℕ). met (seen ++ z ∷ rest) (node z room entries more)) t
      )

pub levels_complete : (b ts : List ℕ) (upto : ℕ) → AreTiles b 8 upto ts → (levels : ℕ) → Complete b ts levels (levels_on levels b ts)
unfolding levels_on HasNodes nodes_of
levels_complete b ts upto tiled zero seen holder link no_node t h o = rw (eq-eqb link 0 t) (ap (λ (z : List ℕ). met z no_node) (sym (append-nil seen)))
levels_complete b ts upto tiled zero seen holder link (node place room entries more) t h o = absurd h
levels_complete b ts upto tiled (suc levels) seen holder link nodes t h o =
    nodes_complete b ts upto tiled levels (levels_on levels b ts) (levels_complete b ts upto tiled levels) (length ts) seen holder link nodes t h o
    (length-le_from_distinct (nodes_of nodes) ts (Distinct-back seen (nodes_of nodes) o) (λ m i. linkable-in b ts vxr_type m (nodes_stand b ts (suc levels) nodes h m i)))

-- and an index is met by its walk
pub index_complete : (b ts : List ℕ) (upto holder : ℕ) (f : Field) (nodes : Nodes) → AreTiles b 8 upto ts → IsIndex b ts (number b holder f) nodes → index_walk b ts holder f ≡ met (nodes_of nodes) nodes
index_complete b ts upto holder f nodes tiled x = levels_complete b ts upto tiled 8 [] holder (number b holder f) nodes x.link_is x.has_nodes x.once

-- so it is the only one
pub index_unique : (b ts : List ℕ) (upto holder : ℕ) (f : Field) (xs ys : Nodes) → AreTiles b 8 upto ts → IsIndex b ts (number b holder f) xs → IsIndex b ts (number b holder f) ys → xs ≡ ys
index_unique b ts upto holder f xs ys tiled p q = (met_same (nodes_of xs) (nodes_of ys) xs ys (sym (index_complete b ts upto holder f xs tiled p) ∙ index_complete b ts upto holder f ys tiled q)).1
