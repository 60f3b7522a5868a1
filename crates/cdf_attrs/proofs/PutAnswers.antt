-- What the command that puts an entry is answered.
use Rattle.cdf_attrs.proofs.Common.{Answers, Asks, ByStep, Chain, Command, DataSet, DataType, Done, EntryKind, Err, FindsChain, FitsSigned, Go, Good, In, IsReady, KnownEntries, KnowsEntries, List, Plain, PutEntry, Puts, Reason, Refuse, Refused, TooLarge, [], adrs, ap, arith, attribute_of, cases_lt, content, entries_chain, entries_of, entry_length, entry_of_words, false, fold, gone, image_limit, inl, inr, ints, is_little, is_out_of_range, length, max, pos, put_entry_step, record_number_limit, refl, room, shape, signed_limit, size_stays, slice_index, stored_entry, sym, too_large, with_attribute, with_entries, with_item, ℕ, ℤ, ◌+◌, ◌<◌, ◌∙◌, ◌∷◌, ◌≡◌, ◌≤◌}
use Rattle.std.proofs.Common.{w32}
use Rattle.cdf_attrs.proofs.Common.{AttributeShape, Follows, Some, false, slice_get}
use Rattle.cdf_attrs.proofs.OtherChains.{on_other}
use Rattle.cdf_attrs.specs.Known.{is_same_chain}
use Rattle.cdf_edits.proofs.Commands.SameEntries.{entries_stay}
use Rattle.cdf_edits.specs.Commands.Others.{EntriesStay}
use Rattle.cdf_attrs.specs.Requests.{MayPut}
use Rattle.cdf_attrs.specs.declared.entry_bytes.StoredValue.{StoredValue}
use Rattle.cdf_attrs.proofs.AttributeFound.{adr_is}
use Rattle.cdf_attrs.proofs.EntryTakenAt.{small}
use Rattle.cdf_attrs.proofs.RangeCounts.{in_range_small}
use Rattle.cdf_attrs.proofs.GettingAnswers.{of_attribute}
use Rattle.cdf_attrs.proofs.ValueWords.{whole}

-- ---- the numbers of a chain

-- the greatest of a number and others is one of them
pub greatest_of : (n : ℕ) (xs : List ℕ) → In (fold max n xs) (n ∷ xs) × ((k : ℕ) → In k (n ∷ xs) → k ≤ fold max n xs)
greatest_of n [] = (inl refl, λ k i. elim i [ inl e ↦ omega (arith, e) | inr none ↦ absurd none ])
greatest_of n (x ∷ xs) =
    let r = greatest_of (max n x) xs in (
      elim r.0 [ inl e ↦ elim (cases_lt x n) [ inl lt ↦ inl (omega (arith, e)) | inr ge ↦ inr (inl (omega (arith, e))) ] | inr i ↦ inr (inr i) ],
      λ k i. let top = r.1 (max n x) (inl refl) in elim i [ inl e ↦ omega (arith, e) | inr j ↦ elim j [ inl e ↦ omega (arith, e) | inr l ↦ r.1 k (inr l) ] ],
    )

-- ---- the answers

pub no_value : {b attr : List ℕ} {kind : EntryKind} {n : ℕ} {chain : Chain} (found : FindsChain b attr kind n chain) (num : ℕ) (t : DataType) (words : List (List ℕ)) (reason : Reason) → is_out_of_range (content b) kind num ≡ false → entry_of_words t words ≡ Err reason → put_entry_step (content b) attr kind num t words ≡ Refuse reason
no_value found num t words reason in_range why = rw (found.named, found.in_scope, in_range, why) refl

module _ {b attr : List ℕ} {kind : EntryKind} {num : ℕ} {t : DataType} {words : List (List ℕ)} {n : ℕ} {chain : Chain} {value : StoredValue} where
  module _ (m : MayPut b attr kind num t words n chain value) (good : Good b) (within : length b ≤ image_limit) {entries : KnownEntries} (knows : KnowsEntries b entries) (of : entries.chain ≡ chain) where
    num_small : num ≤ record_number_limit
    num_small = in_range_small b good within kind num m.in_range

    -- the greatest of the numbers and of this one fits a field
    pub greatest_within : fold max num entries.numbers ≤ signed_limit
    greatest_within = elim (greatest_of num entries.numbers).0 [ inl e ↦ let le = num_small in omega (arith, e) | inr i ↦ let l = small good (of_attribute m.found) entries of knows _ i in omega arith ]

    module _ {greatest : ℤ} (is : greatest ≡ pos (fold max num entries.numbers)) where
      pub greatest_signed : FitsSigned w32 greatest
      greatest_signed = let le = greatest_within in rw is (omega (arith, ints))

      -- the entry may be put
      pub put_ready : {limit : ℕ} {places : List ℕ} → places ≡ adrs (shape b) → limit ≤ image_limit → length b + (56 + length value.bytes.items) ≤ limit → IsReady b limit (record { slot = record { kind = kind; attribute = n; adr = slice_index places n; num = num }; value = value; greatest = greatest }) entries
      put_ready {places = places} are limited room = record {
        attribute = record { own = m.found.own; stands = m.found.stands; adr_is = sym (adr_is m.found places are) };
        chain = of ∙ m.found.chain_is ∙ ap (entries_chain kind) (sym (adr_is m.found places are));
        known = knows;
        stored = rw m.t_is m.written.stored;
        num = num_small;
        greatest = (fold max num entries.numbers, is, greatest_of num entries.numbers);
        room = room;
        within = limited;
      }

  module _ (limit : ℕ) (m : MayPut b attr kind num t words n chain value) where
    abbrev c : Command
    c = PutEntry attr kind num t words

    abbrev made : DataSet
    made = with_attribute (content b) n (with_entries (attribute_of b m.found.own) kind (with_item num (stored_entry b t value.elems value.bytes.items) (entries_of (attribute_of b m.found.own) kind)))

    goes : put_entry_step (content b) attr kind num t words ≡ Go made Plain
    goes = rw (m.found.named, m.found.in_scope, m.in_range, m.written.means) refl

    takes : room b c ≡ 56 + length value.bytes.items
    takes = ap (λ r. 56 + entry_length r) m.written.means ∙ ap (λ (k : ℕ). 56 + k) (size_stays t (is_little b) value.bytes.items (whole m.written.stored))

    pub put_too_large : limit < length b + (56 + length value.bytes.items) → Answers limit b c (Refused TooLarge) b
    put_too_large over = too_large limit b c made Plain (ap ByStep goes) (omega (arith, over, takes))

    pub put_follows : {now : List ℕ} {adr : ℕ} → Puts b now (record { kind = kind; attribute = n; adr = adr; num = num }) (stored_entry b value.t value.elems value.bytes.items) → Follows b c now
    put_follows {adr = adr} puts =
        let asks : Asks b attr (record { kind = kind; attribute = n; adr = adr; num = num }) words (stored_entry b t value.elems value.bytes.items) = record { own = m.found.own; stands = m.found.stands; named = m.found.named; goes = goes; takes = ap (λ r. 56 + entry_length r) m.written.means } in
        (rw m.t_is at puts).follows attr words asks

    pub put_done : {now : List ℕ} {adr : ℕ} → length b + (56 + length value.bytes.items) ≤ limit → Puts b now (record { kind = kind; attribute = n; adr = adr; num = num }) (stored_entry b value.t value.elems value.bytes.items) → Answers limit b c (Done Plain) now
    put_done {now = now} fits puts = gone limit b c made Plain now (ap ByStep goes) (omega (arith, fits, takes)) (put_follows puts)

    -- and the entries of other chains stay
    pub put_leaves : {now : List ℕ} {adr : ℕ} → Good b → Puts b now (record { kind = kind; attribute = n; adr = adr; num = num }) (stored_entry b value.t value.elems value.bytes.items)
        → (k : ℕ) (own : AttributeShape) (other : EntryKind) → slice_get (shape b).attributes k ≡ Some own → is_same_chain (entries_chain other own.adr) chain ≡ false → EntriesStay b now (entries_chain other own.adr)
    put_leaves {now = now} good puts k own other at differ = entries_stay b now c k own other at (on_other m.found k own other at differ) good (put_follows puts)
