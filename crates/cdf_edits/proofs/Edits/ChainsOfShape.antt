-- The chains of an image with a shape as calls speak of them; a record that joined one, one that went, and one that took the place of another.
use Rattle.cdf_edits.proofs.Common.{Appended, AreTiles, Chain, Changed, HasChain, HasShape, HolderStands, In, IsChain, List, Lists, MayJoin, Removed, Replaced, Shape, TakenOut, Touch, [], ap, arith, before, chain, chain_complete, count_of, counted_in, false, head_of, holder_of, image_limit, is_in, is_in-false, is_in-true, is_linkable, length, length-le_from_distinct, length_tiles, link_behind, linkable-from, linkable-in, members_of, next_field, number, shape, size_at, subst, suc, sym, tiles, tiles_are, tiling_complete, touched_field, true, type_at, type_in, with_field, with_in_place, ℕ, ◌++◌, ◌-◌, ◌∙◌, ◌∷◌, ◌≡◌, ◌≤◌}
use Rattle.cdf_format.specs.Walks.{records_of}
use Rattle.cdf_edits.specs.Space.Chains.{without}

-- a chain of the image: where the record stands that has its head, and its members
pub record IsOf (b : List ℕ) (s : Shape) (c : Chain) (holder : ℕ) (ms : List ℕ) : Type 0 where
  pub holder_is : holder_of b c ≡ holder
  pub chain : IsChain b s.records (type_in c) (number b holder (head_of c)) ms

module _ {b : List ℕ} {s : Shape} (h : HasShape b s) {c : Chain} {holder : ℕ} {ms : List ℕ} (is : IsOf b s c holder ms) where
  at_holder : IsChain b s.records (type_in c) (number b (holder_of b c) (head_of c)) ms
  at_holder = subst (λ (g : ℕ). IsChain b s.records (type_in c) (number b g (head_of c)) ms) (sym is.holder_is) is.chain

  pub members_are : members_of b c ≡ ms
  members_are = ap (λ (ts : List ℕ). records_of (chain b ts (type_in c) (holder_of b c) (head_of c))) (tiles_are b s h) ∙ ap records_of (chain_complete b s.records (length b) (type_in c) (holder_of b c) (head_of c) ms h.tiled at_holder)

  pub has_chain : HasChain b c
  has_chain = subst (IsChain b (tiles b) (type_in c) (number b (holder_of b c) (head_of c))) (sym members_are) (subst (λ (ts : List ℕ). IsChain b ts (type_in c) (number b (holder_of b c) (head_of c)) ms) (sym (tiles_are b s h)) at_holder)

  pub may_join : (place : ℕ) → In place s.records → type_at b place ≡ type_in c → 28 ≤ size_at b place → (In place ms → ⊥) → MayJoin b c place
  may_join place i t long out = record {
    linkable = subst (λ (ts : List ℕ). is_linkable b ts (type_in c) place ≡ true) (sym (tiles_are b s h)) (linkable-from b s.records (type_in c) place i t long);
    outside = subst (λ (x : List ℕ). is_in place x ≡ false) (sym members_are) (is_in-false place ms out);
  }

  pub is_member : (place : ℕ) → In place ms → is_in place (members_of b c) ≡ true
  is_member place i = subst (λ (x : List ℕ). is_in place x ≡ true) (sym members_are) (is_in-true place ms i)

  -- it has few members, and is as a call asks for it that reads or changes it
  pub few_members : length b ≤ image_limit → length ms ≤ image_limit
  few_members short =
      let l = length-le_from_distinct ms s.records is.chain.once (λ m i. linkable-in b s.records (type_in c) m (is.chain.linkable m i)) in
      let t = length_tiles b 8 (length b) s.records h.tiled in
      omega arith

  pub lists : {members : List ℕ} → HolderStands b c → members ≡ ms → counted_in b c ≡ length members → Lists b c members
  lists holder are counted = record { holder = holder; has = has_chain; are = are ∙ sym members_are; counted = counted }

  -- the chain that it is now
  chain_of : (now new : List ℕ) → members_of now c ≡ new → HasChain now c → AreTiles now 8 (length now) s.records → holder_of now c ≡ holder → IsChain now s.records (type_in c) (number now holder (head_of c)) new
  chain_of now new members has tiled same =
      let now_tiles : tiles now ≡ s.records = ap records_of (tiling_complete now s.records tiled) in
      subst (IsChain now s.records (type_in c) (number now holder (head_of c))) members
      (subst (λ (g : ℕ). IsChain now s.records (type_in c) (number now g (head_of c)) (members_of now c)) same
      (subst (λ (ts : List ℕ). IsChain now ts (type_in c) (number now (holder_of now c) (head_of c)) (members_of now c)) now_tiles has))

  -- it joined
  module _ {now : List ℕ} {place : ℕ} (appended : Appended b now c place) where
    pub append_changed : Changed b now (link_behind holder (head_of c) ms ∷ touched_field place next_field ∷ [])
    append_changed =
        let g = is.holder_is in
        let m = members_are in
        subst (λ (t : Touch). Changed b now (t ∷ touched_field place next_field ∷ [])) (λ i. link_behind (g i) (head_of c) (m i)) appended.changed

    pub joined_chain : AreTiles now 8 (length now) s.records → holder_of now c ≡ holder → IsChain now s.records (type_in c) (number now holder (head_of c)) (ms ++ place ∷ [])
    joined_chain tiled same = chain_of now (ms ++ place ∷ []) (appended.members_are ∙ ap (λ (x : List ℕ). x ++ place ∷ []) members_are) appended.has_chain tiled same

  -- it went
  module _ {now : List ℕ} {place : ℕ} (removed : Removed b now c place) where
    pub remove_changed : Changed b now (link_behind holder (head_of c) (before place ms) ∷ [])
    remove_changed =
        let g = is.holder_is in
        let m = members_are in
        subst (λ (t : Touch). Changed b now (t ∷ [])) (λ i. link_behind (g i) (head_of c) (before place (m i))) removed.changed

    pub left_chain : AreTiles now 8 (length now) s.records → holder_of now c ≡ holder → IsChain now s.records (type_in c) (number now holder (head_of c)) (without place ms)
    left_chain tiled same = chain_of now (without place ms) (removed.members_are ∙ ap (without place) members_are) removed.has_chain tiled same

  -- another took its place
  module _ {now : List ℕ} {place by : ℕ} (replaced : Replaced b now c place by) where
    pub replaced_chain : AreTiles now 8 (length now) s.records → holder_of now c ≡ holder → IsChain now s.records (type_in c) (number now holder (head_of c)) (with_in_place place by ms)
    replaced_chain tiled same = chain_of now (with_in_place place by ms) (replaced.members_are ∙ ap (with_in_place place by) members_are) replaced.has_chain tiled same

-- the count, where one of its members was taken out
pub out_counted : {b less : List ℕ} {c : Chain} {holder place rest : ℕ} {ms places : List ℕ} → IsOf b (shape b) c holder ms → Lists b c places → length places ≡ suc rest → (out : TakenOut b less c place) → less ≡ with_field out.first holder (count_of c) rest
out_counted {b = b} {c = c} {rest = rest} is lists long out =
    let g = is.holder_is in
    let less : counted_in b c - 1 ≡ rest = let n = lists.counted in omega arith in
    out.counted ∙ (λ i. with_field out.first (g i) (count_of c) (less i))
