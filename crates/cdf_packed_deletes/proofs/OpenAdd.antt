-- What the calls ask for that give what is split off a block.
use Rattle.std.proofs.Common.{List, arith, length, subst, sym, ℕ, ◌+◌, ◌≡◌, ◌≤◌}
use Rattle.cdf_edits.proofs.Common.{Kind, VariableShape, image_limit, number, vdr_vxr_head}
use Rattle.cdf_index.specs.Finding.{HasIndex}
use Rattle.cdf_index.specs.Starting.{IsStart}
use Rattle.cdf_cuts.proofs.CutCalls.{head_lies, index_is}
use Rattle.cdf_packed_deletes.specs.OpenKeeping.{HasLater, IsLater}
use Rattle.cdf_packed_deletes.specs.declared.opening.Later.{Later}
use Rattle.cdf_packed_puts.specs.Adding.{BlockAdded, HasVacancy, IsVacancy}
use Rattle.cdf_packed_puts.specs.declared.adding.Vacancy.{Vacancy}

abbrev pub vacant_at : ℕ → ℕ → ℕ → Later → Vacancy
vacant_at vdr start last later = record { vdr = vdr; start = start; first = last + 1; last = later.last }

module _ {b : List ℕ} {vdr last limit : ℕ} {later : Later} (h : HasLater b vdr last later limit) where
  pub short_so : limit ≤ image_limit → length b ≤ image_limit
  short_so most = omega (arith, h.is_later.room, most)

  pub head_so : vdr + 28 + 8 ≤ length b
  head_so = omega (arith, head_lies b h.is_later.good h.is_later.among h.is_later.vdr_is)

  pub index_so : HasIndex b (number b vdr vdr_vxr_head)
  index_so = (index_is b h.is_later.good h.is_later.among h.is_later.vdr_is).0

module _ {b : List ℕ} {vdr last limit : ℕ} {later : Later} {mid seen : List ℕ} {most head rec : ℕ} (same : mid ≡ b) (limit_is : most ≡ limit) (head_is : head ≡ number b vdr vdr_vxr_head) (rec_is : rec ≡ last + 1) (start : ℕ) (read : seen ≡ b) (starts : IsStart seen head rec start) where
  vacancy_so : {kind : Kind} {before : List VariableShape} {own : VariableShape} {after : List VariableShape} → IsLater b kind before own after vdr last later limit → IsVacancy mid kind before own after (vacant_at vdr start last later) later.plain.items most
  vacancy_so {kind = kind} {before = before} {own = own} {after = after} x = subst (λ (y : List ℕ × ℕ). IsVacancy y.0 kind before own after (vacant_at vdr start last later) later.plain.items y.1) (λ i. (sym same i, sym limit_is i)) is
    where
      starts_so : IsStart b (number b own.vdr vdr_vxr_head) (last + 1) start
      starts_so = subst (λ (v : ℕ). IsStart b (number b v vdr_vxr_head) (last + 1) start) (sym x.vdr_is) (subst (λ (n : ℕ). IsStart b n (last + 1) start) head_is (subst (λ (n : ℕ). IsStart b head n start) rec_is (subst (λ (y : List ℕ). IsStart y head rec start) read starts)))

      is : IsVacancy b kind before own after (vacant_at vdr start last later) later.plain.items limit
      is = record { good = x.good; among = x.among; rle = x.rle; vdr_is = x.vdr_is; start = starts_so; vacant = x.vacant; as_long = x.as_long; room = x.room }

  pub has_vacancy : HasLater b vdr last later limit → HasVacancy mid (vacant_at vdr start last later) later.plain.items most
  has_vacancy h = record { kind = h.kind; before = h.before; own = h.own; after = h.after; is_vacancy = vacancy_so h.is_later }

  pub added_so : {now : List ℕ} → ((kind : Kind) (before : List VariableShape) (own : VariableShape) (after : List VariableShape) → IsVacancy mid kind before own after (vacant_at vdr start last later) later.plain.items most → BlockAdded mid now kind before own after (last + 1) later.last later.plain.items)
      → (kind : Kind) (before : List VariableShape) (own : VariableShape) (after : List VariableShape) → IsLater b kind before own after vdr last later limit → BlockAdded b now kind before own after (last + 1) later.last later.plain.items
  added_so {now = now} adds kind before own after x = subst (λ (y : List ℕ). BlockAdded y now kind before own after (last + 1) later.last later.plain.items) same (adds kind before own after (vacancy_so x))
