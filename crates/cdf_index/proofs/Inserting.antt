-- Entries of a node are written: what stands before them stays, and what is said of an entry more, one that ends later, fewer entries, and all of them.
use Rattle.cdf_index.proofs.Common.{Changed, EntrySet, Inserted, List, NodeInside, SaysEntry, SaysUnused, StillSays, Touch, [], arith, cases_eq, first_at, last_at, offset_at, image_limit, inl, inr, length, refl, room_at, suc, sym, touch, used_count, vxr_n_used_entries, with_field, word, word-same, ℕ, ◌*◌, ◌+◌, ◌-◌, ◌<◌, ◌∙◌, ◌∷◌, ◌⊎◌, ◌≡◌, ◌≢◌, ◌≤◌, ◌⊎◌, Cleared, EntriesRead, EntriesWritten, Entry, Shortened, Widened, entry_in, length-append, max, unused_entry, vxr_vxr_next, ◌++◌, ◌^◌, HeadWritten, NodeWritten}
use Rattle.cdf_index.proofs.FieldSet.{FieldSet, field_set, counts, entries_beside, node_head}
use Rattle.std.proofs.Math.Seq.{get_or-append_seam}
use Rattle.std.proofs.lemmas.List.{get_or_append_left}
use Rattle.std.proofs.lemmas.Option.{unwrap_or-slice_get}

-- ---- what stands before a place in a node stays

pub front_stays : (b now : List ℕ) (at from n : ℕ) → Changed b now (touch at from n ∷ []) → at + from ≤ length b → (o m : ℕ) → o + m ≤ from → word now (at + o) m ≡ word b (at + o) m
front_stays b now at from n c room o m le = word-same b now (at + o) m (record { each = λ i l h. c.same i (omega arith) (inl (omega arith), tt) })

pub room_stays : (b now : List ℕ) (at n : ℕ) → Changed b now (touch at 28 n ∷ []) → at + 28 ≤ length b → room_at now at ≡ room_at b at
room_stays b now at n c room = front_stays b now at 28 n c room 20 4 (omega arith)

pub used_stays : (b now : List ℕ) (at n : ℕ) → Changed b now (touch at 28 n ∷ []) → at + 28 ≤ length b → used_count now at ≡ used_count b at
used_stays b now at n c room = λ i. counts (front_stays b now at 28 n c room 24 4 (omega arith) i) (room_stays b now at n c room i) (front_stays b now at 28 n c room 0 8 (omega arith) i)

pub inside_stays : (b now : List ℕ) (at n : ℕ) → Changed b now (touch at 28 n ∷ []) → length now ≡ length b → NodeInside b at → NodeInside now at
inside_stays b now at n c long i = grind (arith, c.same, i)

-- ---- entries move on, the last one first

-- the last so many of the used entries of a node stand one further
pub record Shifted (b now : List ℕ) (at used moved : ℕ) : Type 0 where
  pub as_long : length now ≡ length b
  pub changed : Changed b now (touch at 28 (16 * room_at b at) ∷ [])
  pub stay : (j : ℕ) → j < room_at b at → (j + moved ≤ used) ⊎ (used < j) → StillSays b now at j j
  pub moved_on : (j : ℕ) → used ≤ j + moved → j < used → StillSays b now at j (suc j)

pub nothing_changed : {b : List ℕ} {ts : List Touch} → Changed b b ts
nothing_changed = record { longer = omega arith; same = λ i lt o. refl }

pub shift_more : {b mid now : List ℕ} {at used k first last offset : ℕ} → Shifted b mid at used k → NodeInside b at → used < room_at b at → k < used → SaysEntry mid at (used - k - 1) first last offset → EntrySet mid now at (used - k) first last offset → Shifted b now at used (k + 1)
shift_more {b = b} {now = now} {at = at} {used = used} {k = k} sh inside room more read set =
    let same = room_stays _ _ at _ sh.changed (node_head inside) in
    let stay : (j : ℕ) → j < room_at b at → (j + (k + 1) ≤ used) ⊎ (used < j) → StillSays b now at j j = λ j in_room apart f l o s. (let was : (j + k ≤ used) ⊎ (used < j) = grind arith in set.others j (omega arith) (λ e. absurd (grind arith)) f l o (sh.stay j in_room was f l o s)) in
    let moved_on : (j : ℕ) → used ≤ j + (k + 1) → j < used → StillSays b now at j (suc j) = λ j le lt f l o s. grind (arith, cases_eq j (used - k - 1), read, set.here, sh.stay j (omega arith), λ (ne : j ≢ used - k - 1). set.others (suc j) (omega arith) (λ e. ne (omega arith)) f l o (sh.moved_on j (omega arith) lt f l o s)) in
    grind (arith, inside, sh.changed, set.changed, stay, moved_on)

-- ---- the new entry, and the count

pub inserted : {b mid mid2 now : List ℕ} {at used p first last offset : ℕ} → Shifted b mid at used (used - p) → NodeInside b at → length b ≤ image_limit → used < room_at b at → p ≤ used → EntrySet mid mid2 at p first last offset → now ≡ with_field mid2 at vxr_n_used_entries (suc used) → Inserted b now at used p first last offset
inserted {b = b} {mid2 = mid2} {now = now} {at = at} {used = used} {p = p} {first = first} {last = last} {offset = offset} sh inside short room place set write =
    let same = room_stays _ _ at _ sh.changed (node_head inside) in
    let counted : FieldSet mid2 now at vxr_n_used_entries (suc used) = field_set (omega (arith, inside.room, sh.as_long, set.as_long)) write in
    let kept = entries_beside counted (omega arith) (omega arith) (inr (omega arith)) in
    let earlier : (j : ℕ) → j < p → StillSays b now at j j = λ j lt f l o s. kept j f l o (set.others j (omega arith) (λ e. absurd (omega arith)) f l o (sh.stay j (omega arith) (inl (omega arith)) f l o s)) in
    let later : (j : ℕ) → p ≤ j → j < used → StillSays b now at j (suc j) = λ j le lt f l o s. kept (suc j) f l o (set.others (suc j) (omega arith) (λ e. absurd (omega arith)) f l o (sh.moved_on j (omega arith) lt f l o s)) in
    let unused : (j : ℕ) → used < j → j < room_at b at → StillSays b now at j j = λ j lt in_room f l o s. kept j f l o (set.others j (omega arith) (λ e. absurd (omega arith)) f l o (sh.stay j in_room (inr lt) f l o s)) in
    grind (arith, inside, sh.changed, set.changed, counted, earlier, kept p first last offset set.here, later, unused)

-- ---- an entry that ends later

pub widened_by : (b now : List ℕ) (at i last : ℕ) → EntrySet b now at i (first_at b at i) (max (last_at b at i) last) (offset_at b at i) → Widened b now at i last
widened_by b now at i last set = grind (arith, set)

-- ---- entries read one by one

pub read_one : {b : List ℕ} {at from i : ℕ} {xs : List Entry} (e : Entry) → EntriesRead b at from i xs → SaysEntry b at i e.first e.last e.place → EntriesRead b at from (i + 1) (xs ++ e ∷ [])
read_one {from = from} {i = i} {xs = xs} e r s = record {
  many = omega (arith, r.many, length-append xs (e ∷ []));
  say = λ j lt. elim (cases_eq j (length xs)) [
    | inl q ↦ (let there : i ≡ from + length xs = omega (arith, r.many) in rw (q, unwrap_or-slice_get, get_or-append_seam) (rw there at s))
    | inr ne ↦ (let less : j < length xs = omega (arith, length-append xs (e ∷ [])) in rw (unwrap_or-slice_get (xs ++ e ∷ []) j unused_entry ∙ get_or_append_left xs (e ∷ []) unused_entry j less ∙ sym (unwrap_or-slice_get xs j unused_entry)) (r.say j less))
  ];
}

-- ---- entries written one by one

pub write_more : {b mid now : List ℕ} {at from i : ℕ} {entries : List Entry} (e : Entry) → NodeInside b at → EntriesWritten b mid at from i entries → from ≤ i → i < room_at b at → e ≡ entry_in entries i → EntrySet mid now at i e.first e.last e.place → EntriesWritten b now at from (i + 1) entries
write_more {b = b} {now = now} {at = at} {from = from} {i = i} {entries = entries} e inside w le lt is set =
    let same = room_stays _ _ at _ w.changed (node_head inside) in
    let says : (j : ℕ) → from ≤ j → j < i + 1 → SaysEntry now at j (entry_in entries j).first (entry_in entries j).last (entry_in entries j).place = λ j lo hi. grind (arith, cases_eq j i, is, set.here, λ (ne : j ≢ i). set.others j (omega arith) ne _ _ _ (w.says j lo (omega arith))) in
    let others : (j : ℕ) → j < room_at b at → (j < from) ⊎ (i + 1 ≤ j) → StillSays b now at j j = λ j in_room apart f l o s. (let was : (j < from) ⊎ (i ≤ j) = grind arith in set.others j (omega arith) (λ x. absurd (grind arith)) f l o (w.others j in_room was f l o s)) in
    grind (arith, inside, w.changed, set.changed, says, others)

-- ---- fewer entries, one more behind them, and another link

pub shortened : (b mid mid2 mid3 now : List ℕ) (at used p first last offset next : ℕ) → NodeInside b at → length b ≤ image_limit → used ≤ room_at b at → p < used → next < 256 ^ 8 → Cleared b mid at (p + 1) used → EntrySet mid mid2 at p first last offset → mid3 ≡ with_field mid2 at vxr_n_used_entries (p + 1) → now ≡ with_field mid3 at vxr_vxr_next next
    → Shortened b now at used p first last offset next
shortened b mid mid2 mid3 now at used p first last offset next inside short fits place next_fits cl set write link =
    let same = room_stays _ _ at _ cl.changed (node_head inside) in
    let counted : FieldSet mid2 mid3 at vxr_n_used_entries (p + 1) = field_set (omega (arith, inside.room, cl.as_long, set.as_long)) write in
    let linked : FieldSet mid3 now at vxr_vxr_next next = field_set (omega (arith, inside.room, cl.as_long, set.as_long, counted.as_long)) link in
    let still = λ (j f l o : ℕ) (s : SaysEntry mid2 at j f l o). entries_beside linked (omega arith) (omega arith) (inl (omega arith)) j f l o (entries_beside counted (omega arith) (omega arith) (inr (omega arith)) j f l o s) in
    let kept : (j : ℕ) → j < room_at b at → j ≢ p → StillSays mid now at j j = λ j lt ne f l o s. still j f l o (set.others j (omega arith) ne f l o s) in
    let earlier : (j : ℕ) → j < p → StillSays b now at j j = λ j lt f l o s. kept j (omega arith) (λ e. absurd (omega arith)) f l o (cl.others j (omega arith) (inl (omega arith)) f l o s) in
    let gone : (j : ℕ) → p < j → j < used → SaysUnused now at j = λ j lo hi. kept j (omega arith) (λ e. absurd (omega arith)) _ _ _ (cl.gone j (omega arith) hi) in
    let unused : (j : ℕ) → used ≤ j → j < room_at b at → StillSays b now at j j = λ j le lt f l o s. kept j lt (λ e. absurd (omega arith)) f l o (cl.others j lt (inr le) f l o s) in
    grind (arith, inside, cl.changed, set.changed, counted, linked, earlier, still p first last offset set.here, gone, unused)

-- ---- all of them

pub node_written : {b head now : List ℕ} {at room next : ℕ} {entries : List Entry} → HeadWritten b head at room (length entries) next → EntriesWritten head now at 0 room entries → NodeWritten b now at room next entries
node_written w m = grind (arith, w, m)
