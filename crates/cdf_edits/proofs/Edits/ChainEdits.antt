-- What a call leaves that links a record behind a chain, takes a member out of it or puts another in its place: each is an edit.
use Rattle.cdf_edits.proofs.Common.{Chain, Edit, Field, HasChain, HasShape, HolderStands, In, IsChain, IsSound, Leads, List, MayJoin, Removed, Replaced, Same-part, Shape, [], ap, arith, before, cases_eq, eq-eqb, fixed_size, head_of, holder_of, holder_type, inl, inr, is_a-in, is_a-type, length, link_behind, linkable-in, linkable-long, linkable-type, members_of, ne_eqb, next_field, next_of, number, refl, removing_marks, replacing_marks, shape, size_at, subst, sym, tile_lies, tiles, tiles_are, type_at, type_in, ℕ, ◌+◌, ◌∙◌, ◌∷◌, ◌≡◌, ◌≢◌, ◌≤◌, ◌⊎◌}
use Rattle.cdf_edits.proofs.Edits.StepEdits.{Linked, Joins, before_in, link_marked, remove_edit, replace_edit}
use Rattle.cdf_edits.proofs.Frame.ChangedBytes.{changed_part}
use Rattle.cdf_edits.proofs.Frame.Meaning.{Kept}
use Rattle.cdf_edits.proofs.Space.ChainHeads.{long_of, holder_stands, head_fits, head_width}

-- the link that leads to a member is the first one, or it is in the member before it
leads_to : (b : List ℕ) (holder : ℕ) (f : Field) (link : ℕ) (ms : List ℕ) (place : ℕ) → Leads b link ms 0 → In place ms → (((link_behind holder f (before place ms)).tile ≡ holder) × (link ≡ place)) ⊎ (next_of b (link_behind holder f (before place ms)).tile ≡ place)
leads_to b holder f link [] place l i = absurd i
leads_to b holder f link (x ∷ ms) place l i = elim (cases_eq x place) [
  | inl q ↦ rw (eq-eqb x place q) (inl (refl, l.0 ∙ q))
  | inr ne ↦
      let there : In place ms = elim i [ inl q ↦ absurd (ne (sym q)) | inr j ↦ j ] in
      rw (ne_eqb x place ne) (elim (leads_to b x next_field (next_of b x) ms place l.1 there) [ inl e ↦ inr (ap (next_of b) e.0 ∙ e.1) | inr e ↦ inr e ])
]

module _ (b : List ℕ) (c : Chain) (sound : IsSound b (shape b)) (stands : HolderStands b c) (has : HasChain b c) where
  abbrev s : Shape
  s = shape b

  h : HasShape b s
  h = sound.has_shape

  abbrev holder : ℕ
  holder = holder_of b c

  at_tiles : tiles b ≡ s.records
  at_tiles = tiles_are b s h

  linked : Linked b s (holder_type c) holder (head_of c) (type_in c) (number b holder (head_of c)) (members_of b c)
  linked =
      let is = holder_stands b sound c stands in
      record {
        holder_in = subst (In holder) at_tiles (is_a-in b (tiles b) (holder_type c) holder is);
        holder_typed = is_a-type b (tiles b) (holder_type c) holder is;
        head_fits = wide (head_of c).width (fixed_size (holder_type c)) (size_at b holder) (head_width c) (head_fits b sound c).1 (long_of b sound (holder_type c) holder is);
        head_later = (head_fits b sound c).0;
        chain = subst (λ (ts : List ℕ). IsChain b ts (type_in c) (number b holder (head_of c)) (members_of b c)) at_tiles has;
      }
    where
      wide : (w f n : ℕ) → w ≡ 8 → (head_of c).place + 8 ≤ f → f ≤ n → (head_of c).place + w ≤ n
      wide w f n p q r = omega arith

  joins : (place : ℕ) → MayJoin b c place → Joins b s (holder_type c) holder (head_of c) (type_in c) (number b holder (head_of c)) (members_of b c) place
  joins place may = record {
    place_in = subst (In place) at_tiles (linkable-in b (tiles b) (type_in c) place may.linkable);
    place_typed = linkable-type b (tiles b) (type_in c) place may.linkable;
    place_long = let l = linkable-long b (tiles b) (type_in c) place may.linkable in omega arith;
  }

  module _ {now : List ℕ} {place : ℕ} where
    pub removed_edit : Removed b now c place → Edit b now s.records s.records (removing_marks (holder_type c) holder (head_of c) (type_in c) (members_of b c)) []
    removed_edit r = remove_edit b s (holder_type c) holder (head_of c) (type_in c) _ (members_of b c) now h linked r.length_stays place r.changed

    -- a member that does not lead to the one that went keeps its bytes
    pub removed_keeps : Removed b now c place → In place (members_of b c) → type_in c ≢ holder_type c → (m : ℕ) → In m (members_of b c) → next_of b m ≢ place → Kept b now m
    removed_keeps r member other m i ne =
        let link = link_behind holder (head_of c) (before place (members_of b c)) in
        let marked = link_marked b s (holder_type c) holder (head_of c) (type_in c) _ (members_of b c) linked (members_of b c) (λ n j. j) (before place (members_of b c)) (before_in b s (holder_type c) holder (head_of c) (type_in c) (number b holder (head_of c)) (members_of b c) place (members_of b c)) in
        let ok = linked.chain.linkable m i in
        let l = tile_lies b 8 (length b) s.records m h.tiled (linkable-in b s.records (type_in c) m ok) in
        let apart : m ≢ link.tile = λ e. elim (leads_to b holder (head_of c) _ (members_of b c) place linked.chain.leads member) [
          | inl first ↦ other (sym (linkable-type b s.records (type_in c) m ok) ∙ ap (type_at b) (e ∙ first.0) ∙ linked.holder_typed)
          | inr before_ ↦ ne (ap (next_of b) e ∙ before_)
        ] in
        let same = changed_part b now s.records (length b) h.tiled (omega arith) (link ∷ []) r.changed (inl (marked.inside, marked.fits), tt) m 0 (size_at b m) (linkable-in b s.records (type_in c) m ok) (omega arith) ((λ e. absurd (apart e)), tt) in
        record { same = Same-part b now (m + 0) (m + size_at b m) m (m + size_at b m) same (omega arith) (omega arith); inside = l.high; long = l.long }

    pub replaced_edit : {by : ℕ} → MayJoin b c by → Replaced b now c place by → Edit b now s.records s.records (replacing_marks (holder_type c) holder (head_of c) (type_in c) by (members_of b c)) []
    replaced_edit {by = by} may r = replace_edit b s (holder_type c) holder (head_of c) (type_in c) _ (members_of b c) now h linked r.length_stays place by (joins by may) r.changed
