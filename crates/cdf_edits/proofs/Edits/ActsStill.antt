-- Acts that led to an image lead on to one that an edit makes of it which changes no unused record.
use Rattle.cdf_edits.proofs.Common.{Act, ActsFollow, Each, Edit, HasShape, In, IsSound, List, Mark, RestStays, SpaceLeft, [], after_act, ap, arith, byte, either, eqb-true, fold, inl, inr, length, linkable-in, linkable-long, linkable-type, loose_records, number_kept, record_size, record_type, shape, size_at, sized, space_before, subst, sym, true, type_at, uir_prev_uir, uir_type, unmarked, used_records, ℕ, ◌+◌, ◌<◌, ◌==◌, ◌∙◌, ◌≡◌, ◌≢◌, ◌≤◌}
use Rattle.cdf_edits.proofs.Edits.ActsThen.{each_in}
use Rattle.cdf_edits.proofs.Edits.Composing.{head_size, head_type}
use Rattle.cdf_edits.proofs.Edits.EditActs.{differs}
use Rattle.cdf_edits.proofs.Edits.RecordFrame.{kept}
use Rattle.cdf_edits.proofs.Space.ActsLeave.{SameHeads, backs, backs_same, each, loose_if, loose_says, sizes_same, used_if, used_says}
use Rattle.cdf_edits.specs.Space.Acts.{Among}

module _ {b mid now : List ℕ} {acts : List Act} (h : HasShape mid (shape mid)) (before : ActsFollow b mid acts) (same : SameHeads mid now) (bytes : (m : ℕ) → In m (shape mid).unused → (i : ℕ) → m ≤ i → i < m + size_at mid m → byte now i ≡ byte mid i) where
  abbrev so_far : SpaceLeft
  so_far = fold after_act (space_before b) acts

  old : (m : ℕ) → In m (shape now).records → In m (shape mid).records
  old m i = subst (In m) same.records i

  listed : (m : ℕ) → In m (shape mid).unused → In m (shape mid).records
  listed m i = linkable-in mid (shape mid).records uir_type m (h.unused_chain.linkable m i)

  pub acts_still : ActsFollow b now acts
  acts_still = record {
    are = before.are;
    left = record {
      used_are = each (λ m. Among (m, size_at now m) so_far.used) (used_records now) (λ m i.
          let u = used_says now m i in
          let is = old m u.0 in
          subst (λ (n : ℕ). Among (m, n) so_far.used) (sym (same.size m is)) (each_in (λ x. Among (x, size_at mid x) so_far.used) (used_records mid) m before.left.used_are (used_if mid m is (λ e. u.1 (same.type m is ∙ e)))));
      list_is = ap (sized now) same.list ∙ sizes_same mid now (shape mid).unused (λ m i. same.size m (listed m i)) ∙ before.left.list_is;
      back_is = ap (backs now) same.list ∙ backs_same mid now (shape mid).unused same.back ∙ before.left.back_is;
      loose_are = each (λ m. Among (m, size_at now m) so_far.loose) (loose_records now) (λ m i.
          let l = loose_says now m i in
          let is = old m l.stands in
          subst (λ (n : ℕ). Among (m, n) so_far.loose) (sym (same.size m is)) (each_in (λ x. Among (x, size_at mid x) so_far.loose) (loose_records mid) m before.left.loose_are
          (loose_if mid m (record { stands = is; typed = sym (same.type m is) ∙ l.typed; unlisted = λ j. l.unlisted (subst (In m) (sym same.list) j) }))));
      end_is = same.long ∙ before.left.end_is;
    };
    rests = each (λ split. Each (RestStays b now acts split) (shape now).unused) (shape b).unused (λ split i.
        each (RestStays b now acts split) (shape now).unused (λ rest j low high n l u untaken.
        let k = subst (In rest) same.list j in
        let size = same.size rest (listed rest k) in
        let first = each_in (RestStays b mid acts split) (shape mid).unused rest (each_in (λ x. Each (RestStays b mid acts x) (shape mid).unused) (shape b).unused split before.rests i) k low high n l (omega arith) untaken in
        bytes rest k n (omega arith) (omega arith) ∙ first));
  }

pub acts_still_by : {b mid now : List ℕ} {acts : List Act} {marks : List Mark} → IsSound mid (shape mid) → ActsFollow b mid acts → Edit mid now (shape mid).records (shape mid).records marks [] → unmarked marks uir_type ≡ true → (shape now).records ≡ (shape mid).records → (shape now).unused ≡ (shape mid).unused → length now ≡ length mid → ActsFollow b now acts
acts_still_by {b = b} {mid = mid} {now = now} sound before e clear records list long =
    let used = λ (m : ℕ) (i : In m (shape mid).records) (other : type_at mid m ≢ uir_type). e.head m i other (λ r. r) in
    let unused_one = λ (m : ℕ) (i : In m (shape mid).records) (t : type_at mid m ≡ uir_type). kept e m uir_type i t clear in
    let at = λ (m : ℕ) (i : In m (shape mid).unused). let ok = sound.has_shape.unused_chain.linkable m i in unused_one m (linkable-in mid (shape mid).records uir_type m ok) (linkable-type mid (shape mid).records uir_type m ok) in
    acts_still sound.has_shape before (record {
      records = records;
      list = list;
      long = long;
      size = λ m i. elim (either (type_at mid m == uir_type)) [
        | inl t ↦ let k = unused_one m i (eqb-true (type_at mid m) uir_type t) in let w = k.long in number_kept mid now m k.same record_size (omega arith)
        | inr t ↦ head_size mid now m (used m i (differs (type_at mid m) t))
      ];
      type = λ m i. elim (either (type_at mid m == uir_type)) [
        | inl t ↦ let k = unused_one m i (eqb-true (type_at mid m) uir_type t) in let w = k.long in number_kept mid now m k.same record_type (omega arith)
        | inr t ↦ head_type mid now m (used m i (differs (type_at mid m) t))
      ];
      back = λ m i.
          let ok = sound.has_shape.unused_chain.linkable m i in
          let wide = linkable-long mid (shape mid).records uir_type m ok in
          number_kept mid now m (at m i).same uir_prev_uir (omega arith);
    }) (λ m i k l u. (at m i).same.each k l u)
