-- The top chain of what a cut leaves: its last node, and whether a node of it went.
use Rattle.cdf_cuts.proofs.Common.{Bool, Entries, Entry, List, Nodes, None, Some, Span, [], ap, arith, block, cut_words, false, inl, inr, length, lower, no_entry, no_node, node, refl, stands_after, stands_in, sym, true, unwrap_or, whole_after, whole_in, last_or, ℕ, ◌<◌, ◌∙◌, ◌∷◌, ◌≡◌, ◌≤◌, ◌⊎◌}
use Rattle.std.proofs.Common.{bytes_eq, not, ◌&&◌}
use Rattle.std.specs.List.{list_any}
use Rattle.cdf_cuts.proofs.CutWords.{cut, cut_below, words_are, words_of}
use Rattle.cdf_edits.proofs.Common.{either}
unfoldable use Rattle.cdf_edits.specs.Index.Grown.{cut_nodes}
use Rattle.cdf_edits.specs.Index.Grown.{node_if}
use Rattle.cdf_edits.specs.Index.Written.{is_taken_at, last_node, top_chain, top_stays}
use Rattle.cdf_edits.specs.Space.Acts.{Act, taken}
use Rattle.cdf_format.proofs.NameRules.{bytes_eq-same}
use Rattle.cdf_format.proofs.Tests.{same_of_bytes_eq}

-- ---- its last node

pub last_with : (span : Span) (prev place room : ℕ) (es' : Entries) (ws : List Entry) (rest more : Nodes) → ws ≡ words_of es' → ((p : ℕ) → stands_in span p more ≡ unwrap_or (last_or (Some p) (top_chain rest)) 0) → stands_in span (stands_after prev place ws) more ≡ unwrap_or (last_or (Some prev) (top_chain (node_if place room es' rest))) 0
last_with span prev place room no_entry ws rest more e so = rw e (so prev)
last_with span prev place room (block f l q packed es) ws rest more e so = rw e (so place)
last_with span prev place room (lower f l ns es) ws rest more e so = rw e (so place)

pub last_kept : (span : Span) (prev : ℕ) (ns : Nodes) → stands_in span prev ns ≡ unwrap_or (last_or (Some prev) (top_chain (cut span ns))) 0
unfolding stands_in cut_nodes
last_kept span prev no_node = refl
last_kept span prev (node place room es more) = last_with span prev place room (cut_below span es) (cut_words span es) (cut span more) more (words_are span es) (λ p. last_kept span p more)

pub last_is : (span : Span) (ns : Nodes) → stands_in span 0 ns ≡ last_node (cut span ns)
last_is span ns = last_kept span 0 ns ∙ by (top_chain (cut span ns))
  where
    by : (xs : List ℕ) → unwrap_or (last_or (Some 0) xs) 0 ≡ unwrap_or (last_or None xs) 0
    by [] = refl
    by (x ∷ xs) = refl

-- ---- whether a node went

pub none_whole : (span : Span) (ns : Nodes) → whole_in span false ns ≡ false
unfolding whole_in
none_whole span no_node = refl
none_whole span (node place room es more) = by (cut_words span es) (none_whole span more)
  where
    by : (ws : List Entry) → whole_in span false more ≡ false → whole_in span (whole_after false ws) more ≡ false
    by [] e = e
    by (w ∷ ws) e = e

-- all nodes stay, or one went
abbrev pub Kept : Bool → List ℕ → List ℕ → Type 0
Kept whole before after = ((whole ≡ true) × (after ≡ before)) ⊎ ((whole ≡ false) × (length after < length before))

pub no_longer : {whole : Bool} {before after : List ℕ} → Kept whole before after → length after ≤ length before
no_longer (inl k) = omega (arith, ap length k.1)
no_longer (inr k) = omega (arith, k.1)

pub kept_with : (span : Span) (place room : ℕ) (es' : Entries) (ws : List Entry) (rest more : Nodes) → ws ≡ words_of es' → Kept (whole_in span true more) (top_chain more) (top_chain rest) → Kept (whole_in span (whole_after true ws) more) (place ∷ top_chain more) (top_chain (node_if place room es' rest))
kept_with span place room no_entry ws rest more e k = rw e (inr (none_whole span more, omega (arith, no_longer k)))
kept_with span place room (block f l q packed es) ws rest more e k = rw e (one_more place k)
  where
    one_more : (place : ℕ) {whole : Bool} {before after : List ℕ} → Kept whole before after → Kept whole (place ∷ before) (place ∷ after)
    one_more place (inl k) = inl (k.0, ap (λ (xs : List ℕ). place ∷ xs) k.1)
    one_more place (inr k) = inr (k.0, omega (arith, k.1))
kept_with span place room (lower f l ns es) ws rest more e k = rw e (one_more place k)
  where
    one_more : (place : ℕ) {whole : Bool} {before after : List ℕ} → Kept whole before after → Kept whole (place ∷ before) (place ∷ after)
    one_more place (inl k) = inl (k.0, ap (λ (xs : List ℕ). place ∷ xs) k.1)
    one_more place (inr k) = inr (k.0, omega (arith, k.1))

pub chain_kept : (span : Span) (ns : Nodes) → Kept (whole_in span true ns) (top_chain ns) (top_chain (cut span ns))
unfolding whole_in cut_nodes
chain_kept span no_node = inl (refl, refl)
chain_kept span (node place room es more) = kept_with span place room (cut_below span es) (cut_words span es) (cut span more) more (words_are span es) (chain_kept span more)

pub whole_is : (span : Span) (ns : Nodes) → whole_in span true ns ≡ bytes_eq (top_chain ns) (top_chain (cut span ns))
whole_is span ns = by (chain_kept span ns)
  where
    by : {whole : Bool} {before after : List ℕ} → Kept whole before after → whole ≡ bytes_eq before after
    by {before = before} (inl k) = k.0 ∙ sym (rw k.1 (bytes_eq-same before))
    by {before = before} {after = after} (inr k) = k.0 ∙ sym (elim (either (bytes_eq before after)) [ inl e ↦ absurd (omega (arith, ap length (same_of_bytes_eq before after e), k.1)) | inr e ↦ e ])

-- ---- where nothing is taken

pub none_any : (f : ℕ → Bool) (xs : List ℕ) → ((x : ℕ) → f x ≡ false) → list_any f xs ≡ false
none_any f [] h = refl
none_any f (x ∷ xs) h = rw (h x) (none_any f xs h)

pub top_cut : (acts : List Act) (before after : Nodes) → taken acts ≡ [] → top_stays acts before after after ≡ bytes_eq (top_chain before) (top_chain after)
top_cut acts before after none =
    let any = none_any (is_taken_at acts) (top_chain after) (λ x. rw none refl) in
    rw (bytes_eq-same (top_chain after), any) (by (bytes_eq (top_chain before) (top_chain after)))
  where
    by : (p : Bool) → (p && (true && not false)) ≡ p
    by true = refl
    by false = refl

-- and where a command goes through no other index
pub top_left : (acts : List Act) (before after : Nodes) → taken acts ≡ [] → top_stays acts before before after ≡ bytes_eq (top_chain before) (top_chain after)
top_left acts before after none =
    let any = none_any (is_taken_at acts) (top_chain after) (λ x. rw none refl) in
    rw (bytes_eq-same (top_chain before), any) (by (bytes_eq (top_chain before) (top_chain after)))
  where
    by : (p : Bool) → (true && (p && not false)) ≡ p
    by true = refl
    by false = refl
