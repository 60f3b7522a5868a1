-- The command `del-entry`: what it is answered, and what is known of the attributes after it.
use Rattle.cdf_attrs.proofs.Common.{false}
use Rattle.cdf_attrs.proofs.OtherChains.{on_other}
use Rattle.cdf_attrs.specs.Known.{is_same_chain}
use Rattle.cdf_edits.proofs.Commands.SameEntries.{entries_stay}
use Rattle.cdf_edits.specs.Commands.Others.{EntriesStay}
use Rattle.cdf_attrs.proofs.Common.{Answer, Answers, Attribute, AttributeShape, ByStep, Chain, DelEntry, Done, Entry, EntryKind, EntryLives, FindsChain, Follows, Go, Good, In, IsEntryOf, IsGreatest, IsOfAttribute, IsRefusedFor, IsSound, KnownEntries, KnowsEntries, LeavesChain, List, NoSuchAttr, NoSuchEntry, None, Plain, Reason, Refused, Some, TakenAt, WrongScope, [], adr_type, adrs, aedr_num, ap, arith, attribute_named, attribute_names, attribute_of, cast_unsigned, chain_of, content, count_field, count_now, counted_in, entries_chain, entries_left, entries_of, entry_bytes, entry_of, gone, good_is_sound, greatest_integer, greatest_number, greatest_same, image_limit, integer4, left_frees, left_greatest, length, max_field, max_lies, members_of, members_stay, number, nums, nums_live, of_count, option_and_then, others, position, refl, refused, remove, shape, size_at, slice_get, slice_index, subst, suc, sym, with_attribute, with_entries, without, without_at, zero, ℕ, ◌+◌, ◌<◌, ◌==◌, ◌^◌, ◌∙◌, ◌∷◌, ◌≡◌, ◌≤◌}
use Rattle.std.proofs.Common.{w32}
use Rattle.cdf_model.specs.declared.kinds.EntryKind.TheVariants as entries
use Rattle.cdf_format.specs.Content.{entries_of as chain_items}
use Rattle.cdf_edits.specs.Space.Chains.{without as left_of}
use Rattle.cdf_edits.proofs.Edits.FieldWritten.{written_reads}
use Rattle.cdf_attrs.proofs.AttributeChain.{index_in}
use Rattle.cdf_attrs.proofs.EntryCalls.{leaves}
use Rattle.cdf_attrs.proofs.EntryChains.{counted, entries_differ, entry_lies, few_entries, members}
use Rattle.cdf_attrs.proofs.EntryLeft as left
use Rattle.cdf_attrs.proofs.EntrySteps.{no_attribute, wrong_scope, no_entry}
use Rattle.cdf_attrs.proofs.EntryTakenAt.{cut_is, left_count, left_small, map-remove, numbered_at, once, parts, places_are, at_index}
use Rattle.cdf_attrs.proofs.GettingAnswers.{is_item, of_attribute}
use Rattle.cdf_attrs.proofs.GreatestNumber.{greatest_fits, greatest_of_items}

-- ---- the refusals

module _ (limit : ℕ) (b attr : List ℕ) (kind : EntryKind) (num : ℕ) where
  abbrev answer : ℕ → Attribute → Entry → Answer
  answer i a entry = Go (with_attribute (content b) i (with_entries a kind (without num num (entries_of a kind)))) Plain

  pub refused_for : (reason : Reason) → IsRefusedFor b attr kind reason → Answers limit b (DelEntry attr kind num) (Refused reason) b
  refused_for NoSuchAttr none = refused limit b (DelEntry attr kind num) NoSuchAttr (ap ByStep (no_attribute (content b) attr kind num answer none))
  refused_for WrongScope is = refused limit b (DelEntry attr kind num) WrongScope (ap ByStep (wrong_scope (content b) attr kind num answer is.number is.own is.named is.wrong))
  refused_for other h = absurd h

  pub is_missing : {n : ℕ} {chain : Chain} (good : Good b) (found : FindsChain b attr kind n chain) (entries : KnownEntries) (of : entries.chain ≡ chain) (knows : KnowsEntries b entries) → position (λ m. m == num) entries.numbers ≡ None → Answers limit b (DelEntry attr kind num) (Refused NoSuchEntry) b
  is_missing {n = n} good found entries of knows none =
      let place : None ≡ option_and_then (λ i. slice_get entries.places i) (position (λ m. m == num) entries.numbers) = ap (option_and_then (λ i. slice_get entries.places i)) (sym none) in
      refused limit b (DelEntry attr kind num) NoSuchEntry (ap ByStep (no_entry (content b) attr kind num answer n (attribute_of b found.own) found.named found.in_scope (is_item good found entries of knows num None place)))

-- ---- lists

got_index : (xs : List ℕ) (i : ℕ) → i < length xs → slice_get xs i ≡ Some (slice_index xs i)
got_index [] i lt = absurd (omega arith)
got_index (x ∷ xs) zero lt = refl
got_index (x ∷ xs) (suc i) lt = got_index xs i (omega arith)

-- ---- fields

count_in : (b : List ℕ) (kind : EntryKind) (adr : ℕ) → counted_in b (entries_chain kind adr) ≡ number b adr (count_field kind)
count_in b entries.G adr = refl
count_in b entries.R adr = refl
count_in b entries.Z adr = refl

count_small : (kind : EntryKind) (n : ℕ) → n < 2 ^ 32 → n < 256 ^ (count_field kind).width
count_small entries.G n lt = omega arith
count_small entries.R n lt = omega arith
count_small entries.Z n lt = omega arith

-- ---- the attribute

module _ (b x : List ℕ) (same : x ≡ b) {kind : EntryKind} {adr own : ℕ} (at : adr ≡ own) where
  pub there_in : {place : ℕ} → IsEntryOf b kind own place → IsEntryOf x kind adr place
  there_in {place = place} is = subst (λ (y : List ℕ). IsEntryOf y kind adr place) (sym same) (subst (λ (a : ℕ). IsEntryOf b kind a place) (sym at) is)

  pub taken_in : {now : List ℕ} {es : KnownEntries} {i : ℕ} → TakenAt x now kind adr es i → TakenAt b now kind own es i
  taken_in {now = now} {es = es} {i = i} taken = subst (λ (y : List ℕ). TakenAt y now kind own es i) same (subst (λ (a : ℕ). TakenAt x now kind a es i) at taken)

-- ---- the entry that goes

module _ {b : List ℕ} {chain : Chain} (good : Good b) (of : IsOfAttribute b chain) (es : KnownEntries) (is : es.chain ≡ chain) (knows : KnowsEntries b es) (num i : ℕ) (at : position (λ m. m == num) es.numbers ≡ Some i) where
  abbrev kind : EntryKind
  kind = of.kind

  abbrev own : AttributeShape
  own = of.own

  abbrev place : ℕ
  place = slice_index es.places i

  numbered : (i < length es.places) × (number b place aedr_num ≡ num)
  numbered = numbered_at good of es is knows num i at

  pub within : i < length es.places
  within = numbered.0

  pub of_old : number b place aedr_num ≡ num
  of_old = numbered.1

  places_of : es.places ≡ chain_of own kind
  places_of = places_are good of es is knows ∙ members b good chain of

  pub member : In place (chain_of own kind)
  member = subst (In place) places_of (index_in es.places i within)

  abbrev pub entry_there : IsEntryOf b kind own.adr place
  entry_there = record { before = (parts of).before; own = own; after = (parts of).after; stands = cut_is of; adr_is = refl; member = member }

  module _ {now : List ℕ} (taken : TakenAt b now kind own.adr es i) (short : length b ≤ image_limit) where
    pub sound : IsSound b (shape b)
    sound = good_is_sound b good

    abbrev pub q : LeavesChain b taken.removed.late kind (parts of).before own (parts of).after place
    q = leaves (cast_unsigned w32 taken.count) (cast_unsigned w32 taken.greatest) sound entry_there taken.removed.removed taken.removed.count_written taken.removed.written

    left_places : remove es.places i ≡ left_of place (chain_of own kind)
    left_places = sym (at_index es.places i 0 within (once good of es is knows)).1 ∙ ap (left_of place) places_of

    left_numbers : remove es.numbers i ≡ nums b (left_of place (chain_of own kind))
    left_numbers = ap (λ (xs : List ℕ). remove xs i) knows.numbers_are ∙ map-remove (λ aedr. number b aedr aedr_num) es.places i within ∙ ap (nums b) left_places

    pub counts : number taken.removed.late own.adr (count_field kind) + 1 ≡ number b own.adr (count_field kind)
    counts =
        let few = few_entries b good chain of in
        let long = ap (λ (xs : List ℕ). length xs) (places_are good of es is knows) in
        let less = left_count good of es is knows i within in
        let all = counted b good chain of in
        let one : counted_in b chain ≡ number b own.adr (count_field kind) = ap (counted_in b) of.chain_is ∙ count_in b kind own.adr in
        let fits : cast_unsigned w32 taken.count < 2 ^ 32 = subst (λ (k : ℕ). k < 2 ^ 32) (sym taken.count_is) (omega arith) in
        let reads = written_reads q.mid q.counted (shape b).records own.adr adr_type (count_field kind) q.count (of_count sound q) q.count_written (count_small kind (cast_unsigned w32 taken.count) fits) in
        sums (number taken.removed.late own.adr (count_field kind)) (length (remove es.numbers i)) (length es.places) (length (members_of b chain)) (counted_in b chain) (number b own.adr (count_field kind)) (count_now sound q ∙ reads ∙ taken.count_is) less long all one
      where
        sums : (l r p m c f : ℕ) → l ≡ r → r + 1 ≡ p → p ≡ m → c ≡ m → c ≡ f → l + 1 ≡ f
        sums l r p m c f x y z t u = omega arith

    pub long : 28 ≤ size_at b place
    long = reach (entry_bytes b place) (size_at b place) (entry_lies b good chain of place (subst (In place) (sym (members b good chain of)) member))
      where
        reach : (k size : ℕ) → 56 + k ≤ size → 28 ≤ size
        reach k size fits = omega arith

    same_lives : (m : ℕ) → In m (chain_of own kind) → EntryLives b b m
    same_lives m j = record { attribute = refl; num = refl; meant = refl; valued = refl; fits = entry_lies b good chain of m (subst (In m) (sym (members b good chain of)) j) }

    pub greatest : integer4 now own.adr (max_field kind) ≡ greatest_number (without num num (chain_items b (chain_of own kind)))
    greatest =
        let fits = greatest_fits (remove es.numbers i) taken.greatest (left_small good of es is knows i within) taken.greatest_is in
        let stays = greatest_integer kind taken.removed.late now own.adr (greatest_same sound (left_frees sound q) taken.removed.gives (max_lies kind).1) in
        let written = left_greatest sound q taken.greatest fits refl in
        let items = entries_left b b place num of_old (chain_of own kind) (entries_differ b good chain of) member (λ m j ne. same_lives m j) in
        stays ∙ written ∙ greatest_of_items b (left_of place (chain_of own kind)) taken.greatest (subst (λ (xs : List ℕ). IsGreatest xs taken.greatest) left_numbers taken.greatest_is) ∙ ap greatest_number items

    -- ---- what is known after it

    pub left_known : KnowsEntries now (without_at es i)
    left_known = record {
      places_are = left_places ∙ sym (left.members_left good q taken.removed.gives) ∙ ap (members_of now) (sym (is ∙ of.chain_is));
      numbers_are = left_numbers ∙ sym (nums_live b now (left_of place (chain_of own kind)) live) ∙ ap (nums now) (sym left_places);
    }
      where
        live : (m : ℕ) → In m (left_of place (chain_of own kind)) → EntryLives b now m
        live m j =
            let x = members_stay good q taken.removed.gives m j in
            others good q taken.removed.gives m x.0 x.1

    pub names_stay : attribute_names (content now) ≡ attribute_names (content b)
    names_stay = left.names_left good q taken.removed.gives

    pub places_stay : adrs (shape now) ≡ adrs (shape b)
    places_stay = left.places_left good q taken.removed.gives

-- ---- the command

module _ {b attr : List ℕ} {kind : EntryKind} {n : ℕ} {chain : Chain} (good : Good b) (found : FindsChain b attr kind n chain) (es : KnownEntries) (is : es.chain ≡ chain) (knows : KnowsEntries b es) (num i : ℕ) (at : position (λ m. m == num) es.numbers ≡ Some i) where
  is_place : Some (slice_index es.places i) ≡ option_and_then (λ k. slice_get es.places k) (position (λ m. m == num) es.numbers)
  is_place = sym (ap (option_and_then (λ k. slice_get es.places k)) at ∙ got_index es.places i (within good (of_attribute found) es is knows num i at))

  names : left.Names b attr kind num (parts (of_attribute found)).before found.own (entry_of b (slice_index es.places i))
  names = record {
    found = subst (λ (k : ℕ). attribute_named (content b) attr ≡ Some (k, attribute_of b found.own)) (sym (parts (of_attribute found)).count) found.named;
    scoped = found.in_scope;
    is_there = is_item good found es is knows num (Some (slice_index es.places i)) is_place;
  }

  module _ {now : List ℕ} (taken : TakenAt b now kind found.own.adr es i) (short : length b ≤ image_limit) where
    follow : Follows b (DelEntry attr kind num) now
    follow =
        let of = of_attribute found in
        left.left_follow good (q good of es is knows num i at taken short) taken.removed.gives names (of_old good of es is knows num i at) (long good of es is knows num i at taken short) (counts good of es is knows num i at taken short) (greatest good of es is knows num i at taken short) short

    pub is_deleted : (limit : ℕ) → length b ≤ limit → Answers limit b (DelEntry attr kind num) (Done Plain) now
    is_deleted limit fits = gone limit b (DelEntry attr kind num) _ Plain now (ap ByStep (left.del_goes names)) (omega arith) follow

    -- the entries of other chains stay
    pub del_leaves : (k : ℕ) (own : AttributeShape) (other : EntryKind) → slice_get (shape b).attributes k ≡ Some own → is_same_chain (entries_chain other own.adr) chain ≡ false → EntriesStay b now (entries_chain other own.adr)
    del_leaves k own other own_at differ = entries_stay b now (DelEntry attr kind num) k own other own_at (on_other found k own other own_at differ) good follow
