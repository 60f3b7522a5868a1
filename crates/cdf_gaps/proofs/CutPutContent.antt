-- A put past MaxRec + 1 under a rule for missing records: the content has the record by then, as the cut before the put leaves each record of the variable.
use Rattle.cdf_puts.proofs.Common.{Act, Kind, List, VariableShape, ap, arith, content, extent, is_little, max_rec_at, pad_record, sym, turned, type_of_variable, variable_of, with_record, with_variable, ℕ, ◌<◌, ◌∙◌, ◌≡◌}
use Rattle.cdf_puts.proofs.DoneBytes.{put_content}
use Rattle.cdf_puts.specs.Going.{found_in}
use Rattle.cdf_gaps.proofs.CutThenPut.{CutThenPut, content_mid, found_mid, little_mid, max_rec_mid, type_mid, variable_mid}

module _ {b mid now last : List ℕ} {kind : Kind} {before : List VariableShape} {own own' : VariableShape} {after : List VariableShape} {raw pad : List ℕ} {first r : ℕ} {acts : List Act} (t : CutThenPut b mid now last kind before own own' after raw pad first r acts) where
  turn_is : (xs : List ℕ) → turned (type_of_variable mid own.vdr) (is_little mid) xs ≡ turned (type_of_variable b own.vdr) (is_little b) xs
  turn_is xs = let x = type_mid t in let y = little_mid t in λ i. turned (x i) (y i) xs

  pub content_then : (bytes : List ℕ) → turned (type_of_variable b own.vdr) (is_little b) raw ≡ bytes → (extent (max_rec_at b own.vdr) < r → turned (type_of_variable b own.vdr) (is_little b) pad ≡ pad_record (variable_of b own)) → content last ≡ with_variable (content b) (found_in b kind before own) (with_record (variable_of b own) r bytes)
  content_then bytes raw_is pad_is =
      let c = content_mid t in
      let f = found_mid t in
      let v = variable_mid t in
      put_content t.so t.done bytes (turn_is raw ∙ raw_is) (λ lt. turn_is pad ∙ pad_is (omega (arith, lt, ap extent (max_rec_mid t))) ∙ sym (ap pad_record v)) ∙ (λ i. with_variable (c i) (f i) (with_record (v i) r bytes))
