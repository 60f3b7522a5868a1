-- One record was touched behind its first 12 bytes: what stays.
use Rattle.cdf_index.proofs.Common.{AreTiles, Changed, In, Kept, List, Placed, SameHeads, [], arith, inl, inr, length, refl, size_at, sym, tile_lies, touch, word_kept, ℕ, ◌+◌, ◌∷◌, ◌≡◌, ◌≢◌, ◌≤◌}
use Rattle.cdf_edits.proofs.Frame.ChangedBytes.{changed_part, changed_whole}
use Rattle.cdf_edits.proofs.Frame.LinksStay.{tiles_same}

-- the heads of all records stay, and all others whole
pub record Touched (b now records : List ℕ) (at : ℕ) : Type 0 where
  pub heads : SameHeads b now records records
  pub others : (m : ℕ) → In m records → m ≢ at → Kept b now m
  pub tiled : AreTiles now 8 (length now) records

pub touched : {b now records : List ℕ} {at from n : ℕ} → AreTiles b 8 (length b) records → In at records → 12 ≤ from → from + n ≤ size_at b at → Changed b now (touch at from n ∷ []) → length now ≡ length b → Touched b now records at
touched {b = b} {now = now} {records = records} {at = at} {from = from} {n = n} tiled there later fits change as_long =
    let here : Placed b records (length b) (touch at from n ∷ []) = (inl (there, fits), tt) in
    let front = λ (m : ℕ) (i : In m records). changed_part b now records (length b) tiled (omega arith) (touch at from n ∷ []) change here m 0 12 i (tile_lies b 8 (length b) records m tiled i).long ((λ e. inl later), tt) in
    let sizes = λ (m : ℕ) (i : In m records). word_kept b now (m + 0) (m + 12) (front m i) (m + 0) 8 (omega arith) (omega arith) in
    record {
      heads = record { sizes = sizes; types = λ m i. word_kept b now (m + 0) (m + 12) (front m i) (m + 8) 4 (omega arith) (omega arith); sub = λ m i. i };
      others = λ m i ne. (let l = tile_lies b 8 (length b) records m tiled i in
          record { same = changed_whole b now records (length b) tiled (omega arith) (touch at from n ∷ []) change here (m ∷ []) m i (inl refl) ((λ j. elim j [ inl e ↦ ne (sym e) | inr none ↦ none ]), tt); inside = l.high; long = l.long });
      tiled = rw as_long (tiles_same b now 8 (length b) records tiled sizes);
    }
