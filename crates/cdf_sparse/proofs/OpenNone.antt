-- Records were cut out of the index of a variable, and no leaf is divided: its later records stand at the front of the one block that loses those before them, and all else is as the cut leaves it.
use Rattle.cdf_cuts.proofs.Common.{Leaf, List, Nodes, [], ap, append-nil, arith, cases_eq, cases_lt, false, image_limit, inl, inr, leaves_of, length, map, nat_lt, number, refl, size_at, subst, sym, ℕ, ◌*◌, ◌+◌, ◌-◌, ◌<◌, ◌∙◌, ◌≡◌, ◌≢◌, ◌≤◌, ◌⊎◌, In}
use Rattle.std.specs.Prelude.{max}
use Rattle.cdf_edits.proofs.Common.{Act, Good, Kind, Same, Stays, Variable, VariableShape, byte, gave, is_in, record_bytes, shape, variable_of, vdr_max_rec, vvr_place, word_kept}
use Rattle.cdf_edits.proofs.Edits.ActsThen.{taken-gave}
use Rattle.cdf_edits.proofs.Edits.Common.{StandsAmong}
use Rattle.cdf_edits.proofs.Edits.LeafPieces.{IsOneOf, one_place, times_le}
use Rattle.cdf_edits.proofs.Edits.PlainLeaves.{PlainLeaf, leaves_apart, leaves_ascend, plain_leaf}
use Rattle.cdf_edits.proofs.Edits.VariableCopied.{block_behind}
use Rattle.cdf_edits.specs.Commands.GreatestRecord.{r_max_rec}
use Rattle.cdf_edits.specs.Commands.PutSteps.{Goes}
use Rattle.cdf_edits.specs.Index.Blocks.{shared}
use Rattle.cdf_edits.specs.Index.Cut.{CutsIndex, IsPart}
use Rattle.cdf_edits.specs.Index.Grown.{index_cut_open, kept_open, with_ranges}
use Rattle.cdf_edits.specs.Index.Written.{is_taken_at}
use Rattle.cdf_format.proofs.BytesLemmas.{type_kept}
use Rattle.cdf_index.proofs.Common.{behind_in}
use Rattle.cdf_index.specs.Replacing.{with_index}
use Rattle.cdf_puts.proofs.GoesThen.{later_size, later_loose}
use Rattle.cdf_puts.specs.Going.{GoesOn, found_in}
use Rattle.cdf_cuts.proofs.BlocksMoved.{times_add}
use Rattle.cdf_cuts.proofs.WritesThen.{goes_more, moved_max_rec, moved_r_max_rec}
use Rattle.cdf_cuts.specs.Cut.{IsCut}
use Rattle.cdf_cuts.specs.Moving.{HasLater, OneJoins}
use Rattle.cdf_cuts.specs.Past.{stage}
use Rattle.cdf_cuts.specs.Planning.{opening}
use Rattle.cdf_sparse.proofs.OpenBlocks.{BlockStill, PartAt, moved_part, part_stays, still_part}
use Rattle.cdf_sparse.proofs.OpenCut as by
use Rattle.cdf_sparse.proofs.OpenLeaves.{none_split, same_leaf, split_is}
use Rattle.cdf_sparse.proofs.OpenNoneStep.{BlockMoved, step_none, writes}
use Rattle.cdf_sparse.specs.Opening.{IsDivided, PartStays, RecordsOpened, freed_opening, index_opened, opening_acts}
use Rattle.cdf_format.specs.Shape.{is_compressed}

-- a block all of whose bytes stay
pub still_stays : {b now : List ℕ} (l : Leaf) → BlockStill b now l → 8 ≤ size_at b l.place → In l.place (shape now).records → Stays b now l.place []
still_stays {b = b} {now = now} l s long there = record {
  stands = there;
  size_is =
      let same : Same b now l.place (l.place + 8) = record { each = λ q low high. (let z : l.place + (q - l.place) ≡ q = omega (arith, low) in rw z at (s (q - l.place) (omega (arith, high)))) } in
      word_kept b now l.place (l.place + 8) same (l.place + 0) 8 (omega arith) (omega arith);
  same = λ i lt out. s i lt;
}

-- Nothing is moved where no block has later records beside some that go or are before them; else this is so in one block, which has no records before those that go.
abbrev pub OpensUp : List ℕ → List ℕ → ℕ → ℕ → ℕ → List Leaf → Type 0
OpensUp mid now size first last leaves = ((now ≡ mid) × ((l : Leaf) → IsOneOf leaves l → HasLater last l → ⊥)) ⊎ ((l : Leaf) × (IsOneOf leaves l × ((first ≤ l.first) × OneJoins mid now size first last l)))

module _ {b mid now : List ℕ} {kind : Kind} {before : List VariableShape} {own : VariableShape} {after : List VariableShape} {first last : ℕ} (good : Good b) (at : StandsAmong b kind before own after) (order : first ≤ last) (short : length b ≤ image_limit) (c : IsCut b mid kind own (opening first last)) (loose : is_compressed b own.vdr ≡ false)
    (up : OpensUp mid now (record_bytes b own.vdr) first last (leaves_of own.index)) where
  abbrev v : Variable
  v = variable_of b own

  abbrev leaves : List Leaf
  leaves = leaves_of own.index

  abbrev size : ℕ
  size = record_bytes b own.vdr

  abbrev left : VariableShape
  left = with_index own (index_opened own first last)

  abbrev acts : List Act
  acts = gave b (freed_opening own first last)

  -- ---- which leaf has later records

  none_later : (l : Leaf) → IsOneOf leaves l → l.first < first → last < l.last → ⊥
  none_later l i lt gt = elim up [
    | inl none ↦ none.1 l i (record { reaches = omega (arith, lt); later = gt })
    | inr one ↦
        let h = one.1.1.1.has_later in
        let q = same_leaf last leaves (leaves_ascend good at) l one.0 i one.1.0 (omega (arith, lt)) (omega (arith, gt)) h.reaches (let t = h.later in omega arith) in
        absurd (omega (arith, ap (λ (y : Leaf). y.first) q, one.1.1.0, lt))
  ]

  none_divided : (l : Leaf) → IsOneOf leaves l → IsDivided first last l → ⊥
  none_divided l i d = none_later l i d.begins d.ends

  -- ---- the blocks

  outside : (l o : Leaf) → IsOneOf leaves l → IsOneOf leaves o → l.place ≢ o.place → OneJoins mid now size first last o → (n : ℕ) → n < size_at b l.place → byte now (l.place + n) ≡ byte mid (l.place + n)
  outside l o i i' ne j n lt =
      let h = j.has_later in
      let r = h.reaches in
      let t = h.later in
      let to : ℕ = max first o.first - o.first in
      let all = times_add to (o.last - last) size in
      let most = times_le (to + (o.last - last)) (o.last + 1 - o.first) size (omega arith) in
      let room = (by.plain good at order short c loose o i').room in
      let long = by.long_cut good at order short c loose in
      let high = by.inside good at order short c loose l i in
      j.joins.others (l.place + n) (omega arith) (elim (by.beside good at order short c loose l o i i' ne) [ inl low ↦ inl (omega arith) | inr up ↦ inr (omega (arith, all, most, room)) ])

  -- the block of a leaf that has no later records beside some that go
  still : (l : Leaf) → IsOneOf leaves l → (l.first < first) ⊎ (last < l.first) → (HasLater last l → ⊥) → BlockStill b now l
  still l i side none n lt =
      let s : (l.first < first) ⊎ (last < l.last) = elim side [ inl x ↦ inl x | inr x ↦ inr (omega (arith, (by.plain good at order short c loose l i).ordered, x)) ] in
      let was = by.still_cut good at order short c loose l i s n lt in
      elim up [
        | inl q ↦ ap (λ (y : List ℕ). byte y (l.place + n)) q.0 ∙ was
        | inr one ↦ elim (cases_eq l.place one.0.place) [
          | inl e ↦ absurd (none (subst (HasLater last) (sym (one_place leaves (leaves_apart good at) l one.0 i one.1.0 e)) one.1.1.1.has_later))
          | inr ne ↦ outside l one.0 i one.1.0 ne one.1.1.1 n lt ∙ was
        ]
      ]

  block_at : (old new : Leaf) → IsOneOf leaves old → by.LeftIn first last order old new → PartAt b now size old new
  block_at old new i x =
      let p = by.plain good at order short c loose old i in
      elim x.side [
        | inl f ↦ still_part p x.within f.first_is (still old i (inl f.reaches) (λ h. none_later old i f.reaches h.later))
        | inr k ↦ elim (cases_lt last old.first) [
          | inl gt ↦ still_part p x.within (omega (arith, k.first_is, gt)) (still old i (inr gt) (λ h. absurd (omega (arith, h.reaches, gt))))
          | inr le ↦ elim up [
            | inl none ↦ absurd (none.1 old i (record { reaches = le; later = k.ends }))
            | inr one ↦
                let h = one.1.1.1.has_later in
                let q : one.0 ≡ old = same_leaf last leaves (leaves_ascend good at) one.0 old one.1.0 i h.reaches (let t = h.later in omega arith) le (let t = k.ends in omega arith) in
                let j = subst (OneJoins mid now size first last) q one.1.1.1 in
                moved_part p (by.long_cut good at order short c loose) (by.inside good at order short c loose old i) (by.still_cut good at order short c loose old i (inr k.ends)) j.has_later k.from j.joins (omega (arith, k.first_is, le)) k.last_is
          ]
        ]
      ]

  -- ---- the image goes on

  -- the later records of the one block are moved within it
  block_moved : (l : Leaf) → IsOneOf leaves l → OneJoins mid now size first last l → BlockMoved mid now left
  block_moved l i j =
      let h = j.has_later in
      let r = h.reaches in
      let t = h.later in
      let x = by.plain good at order short c loose l i in
      let k = by.kept_cut good at order short c loose l i (inr t) in
      let sized = by.sized_cut good at order short c loose l i (inr t) in
      let sum = times_add (max first l.first - l.first) (l.last - last) size in
      let most = times_le (max first l.first - l.first + (l.last - last)) (l.last + 1 - l.first) size (omega arith) in
      record {
        place = l.place;
        from = l.place + vvr_place ((last + 1 - l.first) * size);
        to = vvr_place ((max first l.first - l.first) * size);
        n = (l.last - last) * size;
        block = by.place_left good at order short c loose l i (inr t);
        is_plain = type_kept b mid l.place k.same k.long ∙ x.typed;
        later = omega arith;
        room = omega (arith, sized, x.room, sum, most);
        moved = j.joins;
      }

  moves : (now ≡ mid) ⊎ BlockMoved mid now left
  moves = elim up [ inl none ↦ inl none.0 | inr one ↦ inr (block_moved one.0 one.1.0 one.1.1.1) ]

  pub record GoneOn : Type 0 where
    pub goes : GoesOn b now kind before own left after acts
    pub long : length now ≡ length b
    pub max_rec_is : number now own.vdr vdr_max_rec ≡ number b own.vdr vdr_max_rec
    pub r_max_rec_is : r_max_rec now ≡ r_max_rec b

  gone_on : GoneOn
  gone_on = elim moves [
    | inl same ↦ record {
      goes = subst (λ (y : List ℕ). GoesOn b y kind before own left after acts) (sym same) (by.goes_cut good at order short c loose);
      long = ap length same ∙ by.long_cut good at order short c loose;
      max_rec_is = subst (λ (y : List ℕ). number y own.vdr vdr_max_rec ≡ number b own.vdr vdr_max_rec) (sym same) (by.max_cut good at order short c loose);
      r_max_rec_is = subst (λ (y : List ℕ). r_max_rec y ≡ r_max_rec b) (sym same) (by.r_max_cut good at order short c loose);
    }
    | inr x ↦
        let goes = by.goes_cut good at order short c loose in
        let w = writes goes.good goes.among x in
        record {
          goes = goes_more good at goes w (omega (arith, by.long_cut good at order short c loose, short));
          long = w.as_long ∙ by.long_cut good at order short c loose;
          max_rec_is = moved_max_rec x.place x.from x.to x.n goes.good goes.among x.block x.is_plain x.later x.room x.moved ∙ by.max_cut good at order short c loose;
          r_max_rec_is = moved_r_max_rec x.place x.from x.to x.n goes.good goes.among x.block x.is_plain x.later x.room x.moved ∙ by.r_max_cut good at order short c loose;
        }
  ]

  -- ---- the whole

  all_acts : acts ≡ opening_acts b own first last []
  all_acts = sym (append-nil acts)

  none_taken : (m : ℕ) → is_taken_at (opening_acts b own first last []) m ≡ false
  none_taken m = ap (λ (xs : List Act). is_taken_at xs m) (append-nil acts) ∙ ap (λ (xs : List (ℕ × ℕ)). is_in m (map (λ (take : ℕ × ℕ). take.0) xs)) (taken-gave b (freed_opening own first last))

  wanted : index_cut_open first last own.index ≡ index_opened own first last
  wanted = ap (with_ranges (index_opened own first last)) (none_split first last order leaves none_divided)

  size_now : record_bytes now own.vdr ≡ size
  size_now = later_size good at gone_on.goes

  plain_now : (m : Leaf) → IsOneOf (leaves_of left.index) m → PlainLeaf now size m
  plain_now m j = subst (λ (n : ℕ). PlainLeaf now n m) size_now (plain_leaf gone_on.goes.good gone_on.goes.among (later_loose good at gone_on.goes loose) m j)

  kept : (old new : Leaf) → IsOneOf leaves old → IsOneOf (leaves_of left.index) new → IsPart (kept_open first last) old new → PartStays b now v own.vdr (opening_acts b own first last []) old new
  kept old new i j part =
      let x = by.part_cut good at order short c loose old new i j part in
      part_stays own.vdr refl size_now (by.plain good at order short c loose old i) (plain_now new j) x.within (by.inside good at order short c loose old i) (omega (arith, gone_on.long)) (block_at old new i x) v (opening_acts b own first last []) loose refl (none_taken new.place)

  apart : (l : Leaf) → IsOneOf leaves l → (l.last < first) ⊎ (last < l.first) → Stays b now l.place []
  apart l i side =
      let p = by.plain good at order short c loose l i in
      let o = p.ordered in
      let s : (l.first < first) ⊎ (last < l.last) = elim side [ inl x ↦ inl (omega arith) | inr x ↦ inr (omega arith) ] in
      let t : (l.first < first) ⊎ (last < l.first) = elim side [ inl x ↦ inl (omega arith) | inr x ↦ inr x ] in
      let none : HasLater last l → ⊥ = λ h. elim side [ inl x ↦ absurd (omega (arith, h.later)) | inr x ↦ absurd (omega (arith, h.reaches)) ] in
      still_stays l (still l i t none) (omega (arith, p.room)) (behind_in gone_on.goes.good gone_on.goes.among l.place (block_behind left l.place (by.place_left good at order short c loose l i s)))

  pub opened_none : RecordsOpened b now kind before own (with_index own (index_opened own first last)) after first last []
  opened_none = record {
    loose = loose;
    goes = subst (GoesOn b now kind before own left after) all_acts gone_on.goes;
    divided = inl (record { none = none_divided; index_is = refl; takes_are = refl });
    cuts = λ v long. subst (λ (xs : List Act). CutsIndex v (kept_open first last) own.index (index_cut_open first last own.index) left.index xs) all_acts (subst (λ (y : Nodes). CutsIndex v (kept_open first last) own.index y left.index acts) (sym wanted) (by.cuts_cut good at order short c loose v));
    kept = kept;
    split = λ old new i j part. absurd (none_divided old i (split_is first last order old new part).0);
    apart = apart;
    max_rec_is = gone_on.max_rec_is;
    r_max_rec_is = gone_on.r_max_rec_is;
    step = λ next. subst (λ (xs : List Act). Goes (found_in b kind before own) (stage b own [] next) (stage now left xs next) (λ r. nat_lt 0 (shared first last r))) all_acts (step_none good at order short c loose moves apart next);
  }
