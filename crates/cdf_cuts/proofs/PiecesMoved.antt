-- Bytes are moved a piece after the other.
use Rattle.cdf_cuts.proofs.Common.{List, ap, arith, inl, inr, length, refl, ℕ, ◌+◌, ◌-◌, ◌∙◌, ◌≡◌, ◌≤◌, cases_lt}
use Rattle.std.specs.Prelude.{drop, get_or, take}
use Rattle.std.proofs.lemmas.List.{get_or-drop, get_or-take}
use Rattle.cdf_base.specs.Bytes.{put}
use Rattle.cdf_edits.proofs.Common.{byte-put_after, byte-put_before, length-put}
use Rattle.cdf_base.proofs.Puts.{byte-put_inside}
use Rattle.cdf_cuts.specs.Moving.{Moved}

pub moved_none : (b : List ℕ) (from to : ℕ) → Moved b b from to 0
moved_none b from to = record { as_long = refl; moved = λ i lt. absurd (omega arith); others = λ i lt out. refl }

pub moved_more : (b mid now : List ℕ) (from to done count : ℕ) → to ≤ from → from + (done + count) ≤ length b → Moved b mid from to done → Moved mid now (from + done) (to + done) count → Moved b now from to (done + count)
moved_more b mid now from to done count order room m n = record {
  as_long = n.as_long ∙ m.as_long;
  moved = λ i lt. elim (cases_lt i done) [
    | inl less ↦ n.others (to + i) (omega (arith, m.as_long, less, order, room)) (inl (omega (arith, less))) ∙ m.moved i less
    | inr more ↦
        let at : to + done + (i - done) ≡ to + i = omega (arith, more) in
        let was : from + done + (i - done) ≡ from + i = omega (arith, more) in
        (rw (at, was) at (n.moved (i - done) (omega (arith, more, lt)))) ∙ m.others (from + i) (omega (arith, lt, room)) (inr (omega (arith, more, order)))
  ];
  others = λ i lt out. n.others i (omega (arith, m.as_long, lt)) (elim out [ inl x ↦ inl (omega (arith, x)) | inr x ↦ inr (omega (arith, x)) ]) ∙ m.others i lt (elim out [ inl x ↦ inl x | inr x ↦ inr (omega (arith, x)) ]);
}

-- one piece is read and written
pub piece_moved : (b now piece : List ℕ) (from to count : ℕ) → to ≤ from → from + count ≤ length b → length piece ≡ count → piece ≡ take count (drop from b) → now ≡ put b to piece → Moved b now from to count
piece_moved b now piece from to count order room long is e = rw e (record {
  as_long = length-put b to piece (omega (arith, long, room, order));
  moved = λ i lt. byte-put_inside b to piece i (omega (arith, room, order)) (omega (arith, long, lt)) ∙ ap (λ (xs : List ℕ). get_or xs i 0) is ∙ get_or-take count (drop from b) i 0 lt ∙ get_or-drop from b i 0;
  others = λ i lt out. elim out [ inl x ↦ byte-put_before b to piece i (omega (arith, room, order)) x | inr x ↦ byte-put_after b to piece i (omega (arith, room, order, long)) (omega (arith, long, x)) ];
})
