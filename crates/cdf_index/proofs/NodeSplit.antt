-- A full node and a new one behind it, in the bytes: what was written of both makes the split.
use Rattle.cdf_index.proofs.Common.{rules, EntriesRead, Entry, Kept, List, NodeFits, NodeWritten, SaysEntry, Shortened, Split, arith, entry_in, max, next_of, room_at, sym, used_count, ℕ, ◌+◌, ◌-◌, ◌<◌, ◌∙◌, ◌≡◌, ◌≤◌}
use Rattle.cdf_index.proofs.OneNode.{same_node}

-- the new node was made of a record, then the full one was shortened
pub split : (t b made now : List ℕ) (at new room next used p first last offset : ℕ) (entries : List Entry) → Kept b made at → Kept made now new → NodeFits b at → used ≤ room_at b at → used - p ≤ room → NodeWritten t made new room next entries → EntriesRead b at p used entries → next ≡ next_of b at
    → room ≡ max 7 (used - p) → Shortened made now at used p first last offset new → Split made now at new used p first last offset
split t b made now at new room next used p first last offset entries full_stays new_stays fits most below w r next_is room_is sh =
    let at_made = same_node b made at full_stays fits in
    let new_now = same_node made now new new_stays (w.inside.entries, w.inside.fits) in
    let many = r.many in
    let moved : (j f l o : ℕ) → p ≤ j → j < used → SaysEntry made at j f l o → SaysEntry now new (j - p) f l o = λ j f l o le lt s. (let e = entry_in entries (j - p) in
    let there : p + (j - p) ≡ j = omega arith in
    let was : SaysEntry made at j e.first e.last e.place = at_made.entries j (omega arith) e.first e.last e.place (rw there at (r.say (j - p) (omega arith))) in
    grind (arith, was, s, new_now.entries (j - p) (omega (arith, w.room_is)) e.first e.last e.place (w.says (j - p) (omega arith)))) in
    let new_used : used_count now new ≡ used - p = new_now.used_is ∙ w.used_is ∙ omega arith in
    search (rules, sh, moved, new_now.room_is ∙ w.room_is ∙ room_is, new_used, new_now.next_is ∙ w.next_is ∙ next_is ∙ sym at_made.next_is)
