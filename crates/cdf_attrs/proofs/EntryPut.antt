-- The command `put-entry`: an entry is put as a last one of its chain, in the record of the one of its number, or in another record in its place.
use Rattle.cdf_attrs.proofs.Common.{Act, Added, AttributeShape, ByStep, Chain, Chained, Distinct, Entry, EntryFits, EntryFollows, EntryKind, EntryLives, Exchanged, Field, Fit, FitsSigned, FreedStay, Frees, Gave, Gives, Go, Good, HasOld, Hold, In, In-append_right, IsBody, IsGreatest, IsOfAttribute, IsPut, IsReady, IsSound, IsStored, IsType, Joined, KnownEntries, LiesIn, List, Mark, MovesForRoom, NewEntry, None, Option, Placed, Plain, PutEntry, PutsEntry, Rechains, Same, Same-part, Says, Settled, Some, Took, [], adr_stands, aedr_aedr_next, aedr_body, aedr_data_type, aedr_fields, aedr_num, aedr_rfu_b, aedr_rfu_c, aedr_rfu_d, aedr_rfu_e, aedr_value, and_from, ap, apart, arith, as_count, as_long_now, attribute_of, before, cast_signed, cast_unsigned, chain_after, chain_follows, chain_now, chain_of, content, count_field, count_is, count_same, counted_before, counted_in, data_type_in, differ_before, drop, drop-put_there, ends, entries_chain, entries_live, entries_of, entries_pushed, entries_replaced, entry_at, entry_bytes, entry_end, entry_of, entry_rows, entry_stays, entry_type, eq-eqb, field_bytes, file_now, filled_edit, follows_chained, found_none, found_one, freed_bytes, freed_rechains, freed_settled, good_is_sound, greatest_integer, greatest_number, greatest_same, has_value, inl, inr, integer4, is_little, is_positive, is_some, items_of, known_type, laid_kept, laid_out, last_or, le-leb, length, length-append, length-map, list, lit<, lt-leb, map-append, marks, max_field, max_lies, max_written, members_of, moved_for_room, nat_le, new_entry, new_in, new_reserved, new_size, new_type, no_fields, num_same, number, nums, nums_live, nums_pushed, nums_replaced, of_le, of_named, once_before, other_kept, placed_laid, position, record_limit, record_number_limit, record_type, records, refl, replaced_after, room, rules_live, shape, signed_limit, size_at, size_kept, size_of, size_stays, slice_get_within, slice_index, slice_set, subst, sym, take, the_one, tile_lies, to_z-of_z, true, turned, type_in, type_of_body, typed_body, uir_type, value_laid, w32, with_attribute, with_chain, with_entries, with_field, with_in_place, with_item, word, word4_fits, ℕ, ◌*◌, ◌++◌, ◌+◌, ◌<◌, ◌==◌, ◌^◌, ◌∙◌, ◌∷◌, ◌≡◌, ◌≢◌, ◌≤◌}
use Rattle.std.proofs.Common.{find, w32}
use Rattle.cdf_base.specs.Bytes.{put}
use Rattle.cdf_model.specs.declared.kinds.EntryKind.TheVariants as entries
use Rattle.cdf_format.specs.Content.{entries_of as chain_items}
use Rattle.cdf_edits.proofs.Commands.TypeCodes.{type_back, code_small}
use Rattle.cdf_edits.proofs.Edits.ChainOwners.{traded_member, came_in, one_within}
use Rattle.cdf_edits.proofs.Edits.Composing.{same-then}
use Rattle.cdf_edits.proofs.Edits.ChainMembers.{IsAmong, member as stands}
use Rattle.cdf_edits.proofs.Edits.PutEntry.{JoinsEntry, changes, count_now, exchanges, frees, greatest_now, in_its_place, new_record, new_value, not_old, pushes, rechains, settled}
use Rattle.cdf_edits.proofs.Edits.WrittenEntries.{as_long as over_long, count_now as over_count, greatest_now as over_greatest, mid_kept, mid_size, part_beside, rechains as over_rechains, settled as over_settled, size_now}
use Rattle.cdf_attrs.specs.declared.entry_bytes.OldEntry.{OldEntry}
use Rattle.cdf_attrs.specs.declared.entry_bytes.Reserved.{Reserved}
use Rattle.cdf_attrs.proofs.AttributeChain.{few_attributes, index_in}
use Rattle.cdf_attrs.proofs.AttributeParts.{parts, members_at, names_rechained, number_at, places_rechained, Parts}
use Rattle.cdf_attrs.proofs.EntryChains.{entry_inside, members}
use Rattle.cdf_attrs.proofs.EntryTakenAt.{at_index, numbered_at, once, places_are, small, stands_behind}
use Rattle.cdf_attrs.proofs.GreatestNumber.{greatest_fits, greatest_put}
use Rattle.cdf_attrs.proofs.NumberGone.{none_in}
use Rattle.cdf_attrs.proofs.ValueWords.{whole}

-- ---- the bytes of an entry

-- what follows the size of an entry, what follows the link of it, and what that says before the value
abbrev pub body_of : NewEntry → Reserved → List ℕ
body_of new r = aedr_body new.slot.kind new.slot.attribute new.value.t new.slot.num new.value.elems r new.value.bytes.items

abbrev said : NewEntry → Reserved → List (Field × ℕ)
said new r = aedr_fields new.slot.attribute new.value.t new.slot.num new.value.elems r

abbrev fields_of : NewEntry → Reserved → List ℕ
fields_of new r = laid_out (said new r) ++ new.value.bytes.items

abbrev Fits : NewEntry → Reserved → Type 0
Fits new r = Fit new.slot.attribute new.slot.num new.value.elems r

entry_types : (kind : EntryKind) → IsType (entry_type kind) 56
entry_types entries.Z = record { small = lit< tt; real = refl; in_use = apart 9 uir_type refl; fixed = omega arith; enough = omega arith }
entry_types other = record { small = lit< tt; real = refl; in_use = apart 5 uir_type refl; fixed = omega arith; enough = omega arith }

module _ (new : NewEntry) (r : Reserved) where
  pub body_long : 8 + length (body_of new r) ≡ 56 + length new.value.bytes.items
  unfolding aedr_body
  body_long = omega arith

  pub body_made : (type_of_body (body_of new r) ≡ entry_type new.slot.kind) × IsBody (body_of new r)
  unfolding aedr_body
  body_made = typed_body ((aedr_aedr_next, 0) ∷ said new r) new.value.bytes.items (body_of new r) (entry_types new.slot.kind) refl (let long = body_long in omega arith)

  -- behind the link
  placed_fields : {b filled : List ℕ} {place : ℕ} → Placed b filled (body_of new r) place → (more : List ℕ) × (drop (place + 20) filled ≡ fields_of new r ++ more)
  unfolding aedr_body
  placed_fields placed = placed_laid (laid_out ((record_type, entry_type new.slot.kind) ∷ (aedr_aedr_next, 0) ∷ [])) (fields_of new r) 20 refl placed refl

-- the type of the records of the chain of a kind
type_of_kind : (kind : EntryKind) (adr : ℕ) → type_in (entries_chain kind adr) ≡ entry_type kind
type_of_kind entries.Z adr = refl
type_of_kind other adr = refl

-- the greatest number as it is written
abbrev pub stored : NewEntry → ℕ
stored new = cast_unsigned w32 (cast_signed w32 (cast_unsigned w32 new.greatest))

-- ---- an entry that is written

-- an image has at a place the entry that was put into another one
record IsEntry (b now : List ℕ) (place : ℕ) (new : NewEntry) (r : Reserved) : Type 0 where
  says : Says now place (said new r)
  num_is : number now place aedr_num ≡ new.slot.num
  meant : entry_of now place ≡ new_entry b new
  valued : has_value now place ≡ true
  fits : EntryFits now place
  bytes_are : entry_bytes now place ≡ length new.value.bytes.items

module _ (new : NewEntry) (r : Reserved) {b now mid : List ℕ} {place : ℕ} where
  -- after steps that leave what was written behind the link
  entry_written : is_little now ≡ is_little b → IsStored new.value.t new.value.elems new.value.bytes.items → (more : List ℕ) → drop (place + 20) mid ≡ fields_of new r ++ more → Fits new r → Same mid now (place + 20) (place + (56 + length new.value.bytes.items)) → place + (56 + length new.value.bytes.items) ≤ length mid → length mid ≤ length now → 56 + length new.value.bytes.items ≤ size_at now place → IsEntry b now place new r
  entry_written little s more laid fit same inside longer room =
      let value = new.value.bytes.items in
      let w = value_laid now place 20 (said new r) value _ (laid_kept mid now (place + 20) (place + (56 + length value)) (fields_of new r) more laid same (omega arith) inside longer) refl
      (fit.attr_fits, (code_small new.value.t, (fit.num_fits, (fit.elems_fit, (lit< tt, (fit.b_fits, (fit.c_fits, (fit.d_fits, (fit.e_fits, tt))))))))) in
      let (attr_is, (code_is, (num_is, (elems_is, more_are)))) = w.0 in
      let known : known_type now place aedr_data_type ≡ Some new.value.t = rw code_is (type_back new.value.t) in
      let type : data_type_in now place aedr_data_type ≡ new.value.t = rw known refl in
      let long : entry_bytes now place ≡ length value = (λ i. size_of (type i) * elems_is i) ∙ s.long in
      record {
        says = w.0;
        num_is = num_is;
        meant = (λ i. record { type = type i; elems = elems_is i; bytes = turned (type i) (little i) (field_bytes now place (aedr_value (size_of (type i) * elems_is i))) })
            ∙ ap (λ (n : ℕ). record { type = new.value.t; elems = new.value.elems; bytes = turned new.value.t (is_little b) (field_bytes now place (aedr_value n)) }) s.long
            ∙ ap (λ (xs : List ℕ). record { type = new.value.t; elems = new.value.elems; bytes = turned new.value.t (is_little b) xs }) w.1;
        valued = and_from _ _ (and_from _ _ (ap is_some known) (ap is_positive elems_is ∙ and_from _ _ (of_le 1 new.value.elems s.some) (of_le new.value.elems signed_limit s.few)))
            (and_from _ _ (ap (λ (n : ℕ). nat_le n record_limit) long ∙ of_le (length value) record_limit s.short) (ap (λ (n : ℕ). nat_le (56 + n) (size_at now place)) long ∙ of_le (56 + length value) (size_at now place) room));
        fits = rw long room;
        bytes_are = long;
      }

-- ---- an entry that may be put

module _ {b : List ℕ} {limit : ℕ} {new : NewEntry} {known : KnownEntries} (good : Good b) (w : IsReady b limit new known) where
  abbrev own : AttributeShape
  own = w.attribute.own

  abbrev chain : List ℕ
  chain = chain_of own new.slot.kind

  abbrev size : ℕ
  size = length new.value.bytes.items

  abbrev entry : Entry
  entry = new_entry b new

  abbrev sound : IsSound b (shape b)
  sound = good_is_sound b good

  abbrev cut : Parts b new.slot.adr new.slot.attribute own
  cut = parts w.attribute

  abbrev at : IsAmong b cut.before own cut.after
  at = record { was = cut.stands }

  -- what calls ask for of the chain
  module _ {c : Chain} (is : c ≡ entries_chain new.slot.kind new.slot.adr) where
    abbrev pub of_chain : IsOfAttribute b c
    of_chain = record { number = new.slot.attribute; own = own; stands = w.attribute.stands; kind = new.slot.kind; chain_is = is ∙ ap (entries_chain new.slot.kind) (sym w.attribute.adr_is) }

    pub known_at : known.places ≡ members_of b c
    known_at = places_are good of_chain known (w.chain ∙ sym is) w.known

    pub body_kind : {bytes : List ℕ} (r : Reserved) → bytes ≡ body_of new r → type_of_body bytes ≡ type_in c
    body_kind r body = ap type_of_body body ∙ (body_made new r).0 ∙ sym (type_of_kind new.slot.kind new.slot.adr) ∙ ap type_in (sym is)

  -- the greatest number lies in an image that is no shorter
  pub max_inside : (now : List ℕ) → length b ≤ length now → LiesIn now new.slot.adr (max_field new.slot.kind)
  max_inside now longer =
      let adr = adr_stands sound cut.before own cut.after cut.stands in
      let high = (tile_lies b 8 (length b) (shape b).records own.adr sound.has_shape.tiled adr.inside).high in
      omega (arith, adr.long, high, (max_lies new.slot.kind).1, w.attribute.adr_is)

  pub max_joined : {mid body : List ℕ} {c : Chain} {place count : ℕ} {ms : List ℕ} → Joined b mid c body place ms count → LiesIn mid new.slot.adr (max_field new.slot.kind)
  max_joined {mid = mid} joined = max_inside mid (let one = (filled_edit sound joined.placed.fills).longer in let two = joined.as_long in omega arith)

  -- the numbers fit their fields
  fits_with : {r : Reserved} → r.b < 2 ^ 32 → r.c < 2 ^ 32 → r.d < 2 ^ 32 → r.e < 2 ^ 32 → Fits new r
  fits_with b_fits c_fits d_fits e_fits =
      let few = few_attributes b (shape b) sound.has_shape in
      let within : new.slot.attribute < 2 ^ 32 = omega (arith, slice_get_within (shape b).attributes new.slot.attribute own w.attribute.stands, few, length-map (shape b).attributes (λ (a : AttributeShape). a.adr), w.room, w.within) in
      record { attr_fits = within; num_fits = omega (arith, w.num); elems_fit = omega (arith, w.stored.few); b_fits = b_fits; c_fits = c_fits; d_fits = d_fits; e_fits = e_fits }

  places_chain : known.places ≡ chain
  places_chain = known_at refl ∙ members b good (entries_chain new.slot.kind new.slot.adr) (of_chain refl)

  numbers_chain : known.numbers ≡ nums b chain
  numbers_chain = w.known.numbers_are ∙ ap (nums b) places_chain

  -- the entry of the number, and where it begins
  pub numbered : (i : ℕ) → position (λ n. n == new.slot.num) known.numbers ≡ Some i → (i < length known.places) × (number b (slice_index known.places i) aedr_num ≡ new.slot.num)
  numbered = numbered_at good (of_chain refl) known w.chain w.known new.slot.num

  pub begins_at : (i : ℕ) → i < length known.places → slice_index known.places i + 56 ≤ length b
  begins_at i within = let l = entry_inside b good (entries_chain new.slot.kind new.slot.adr) (of_chain refl) (slice_index known.places i) (subst (In (slice_index known.places i)) (known_at refl) (index_in known.places i within)) in omega arith

  -- the greatest number fits its field
  signed : FitsSigned w32 new.greatest
  signed = greatest_fits (new.slot.num ∷ known.numbers) new.greatest (λ n i. elim i [ inl e ↦ (let l = w.num in omega (arith, e)) | inr j ↦ (let l = small good (of_chain refl) known w.chain w.known n j in omega arith) ]) w.greatest

  is_stored : stored new ≡ cast_unsigned w32 new.greatest
  is_stored = ap (cast_unsigned w32) (to_z-of_z w32 new.greatest signed)

  -- ---- an image in which the chain has it

  module _ {now records list : List ℕ} {marks : List Mark} {reborn chain' gone : List ℕ} {place : ℕ} (r : Rechains b now (shape b) records list marks reborn new.slot.kind cut.before own cut.after chain' gone (place ∷ [])) where
    module _ {reserved : Reserved} (there : IsEntry b now place new reserved) (stands : In place chain') (differ : Distinct (nums now chain')) where
      found_now : entry_at now (with_chain own new.slot.kind chain') new.slot.kind new.slot.num ≡ Some place
      found_now = ap (find (λ aedr. number now aedr aedr_num == new.slot.num)) (chain_now new.slot.kind own chain') ∙ found_one now new.slot.num place chain' there.num_is stands differ

      -- each member keeps the rules, the new one and those that stay
      rules : (m : ℕ) → In m chain' → Hold (entry_rows now own.adr m)
      rules m i = elim (traded_member chain chain' gone (place ∷ []) (once_before sound r good) r.trades m i) [
        | inl j ↦ subst (λ (x : ℕ). Hold (entry_rows now own.adr x)) (sym (the_one place m j)) (
          eq-eqb _ _ (there.says.0 ∙ sym (num_same sound r ∙ number_at good w.attribute)),
          (ap (λ (n : ℕ). nat_le n record_number_limit) there.num_is ∙ of_le new.slot.num record_number_limit w.num, (there.valued, tt)),
        )
        | inr old ↦ rules_live sound r good m old.0 old.1
      ]

      is_put : {acts : List Act} {numbers places : List ℕ} → chain_items now chain' ≡ with_item new.slot.num entry (entries_of (attribute_of b own) new.slot.kind) → chain' ≡ chain_after chain (entry_at b own new.slot.kind new.slot.num) (Some place) → ((m : ℕ) → In m gone → number b m aedr_num ≡ new.slot.num)
          → number now own.adr (count_field new.slot.kind) ≡ length chain' → integer4 now own.adr (max_field new.slot.kind) ≡ new.greatest → Settled sound r (56 + size) acts → EntryFollows b now (entry_at b own new.slot.kind new.slot.num) place acts → FreedStay b now no_fields acts
          → numbers ≡ nums now chain' → places ≡ chain' → IsPut b now new known (record { chain = known.chain; numbers = numbers; places = places })
      is_put {acts = acts} items_now chain_is of_gone counted greatest settled follows freed say are = record {
        puts = record {
          follows = λ attr words asks.
              let same : asks.own ≡ own = cc (asks.stands, w.attribute.stands) in
              let goes = asks.goes ∙ (λ i. Go (with_attribute (content b) (sym cut.count i) (with_entries (attribute_of b (same i)) new.slot.kind (with_item new.slot.num entry (entries_of (attribute_of b (same i)) new.slot.kind)))) Plain) in
              let all : Chained sound r attr new.slot.num (56 + size) (with_item new.slot.num entry (entries_of (attribute_of b own) new.slot.kind)) acts = record {
                found = asks.named ∙ (λ i. Some (sym cut.count i, attribute_of b (same i)));
                items_now = items_now;
                counted = counted;
                differ = differ;
                rules = rules;
                chain_is = chain_now new.slot.kind own chain' ∙ chain_is ∙ ap (chain_after chain (entry_at b own new.slot.kind new.slot.num)) (sym found_now);
                greatest = greatest ∙ greatest_put b chain new.slot.num entry new.greatest (subst (λ (xs : List ℕ). IsGreatest (new.slot.num ∷ xs) new.greatest) numbers_chain w.greatest) ∙ ap (λ (es : List (ℕ × Entry)). greatest_number (with_item new.slot.num entry es)) (sym (items_of b own new.slot.kind));
                of_gone = of_gone;
                settled = settled;
              } in
              follows_chained sound r all good (PutEntry attr new.slot.kind new.slot.num entry.type words) (ap ByStep goes) (asks.takes ∙ ap (λ (n : ℕ). 56 + n) (size_stays new.value.t (is_little b) new.value.bytes.items (whole w.stored))) refl refl
              (of_named sound r all (λ a a'. PutsEntry b now a a' new.slot.kind new.slot.num acts) (record { aedr = place; stands = found_now; follows = follows; no_strings = there.says.1.1.1.1.0; chain = chain_follows sound r all; freed = freed })) (omega (arith, w.room, w.within));
          names_stay = names_rechained sound r;
          places_stay = places_rechained sound r;
        };
        knows = record { places_are = are ∙ sym (members_at good w.attribute r) ∙ ap (members_of now) (sym w.chain); numbers_are = say ∙ ap (nums now) (sym are) };
        chain_is = refl;
      }

  -- a record of it was made and linked
  module _ {now : List ℕ} {place : ℕ} {chain' gone : List ℕ} {count : ℕ} {reserved : Reserved} (p : JoinsEntry b now new.slot.kind own (56 + size) (body_of new reserved) place chain' gone count) where
    -- it is in an image that leaves it
    stays_there : {next : List ℕ} → Fits new reserved → is_little next ≡ is_little b → Same now next place (place + size_at now place) → length now ≤ length next → IsEntry b next place new reserved
    stays_there {next = next} fit little same longer =
        let laid = placed_fields new reserved p.joined.placed in
        let n = body_long new reserved in
        let long = (new_record new.slot.kind sound at p).long in
        let inside = p.joined.placed.inside in
        let kept = p.joined.placed.fills.long in
        let sized = new_size sound (new_record new.slot.kind sound at p) in
        let size_next = size_kept now next place same (omega arith) in
        entry_written new reserved little w.stored laid.0 laid.1 fit
        (same-then p.joined.filled now next (place + 20) (place + (56 + size)) (new_value new.slot.kind sound at p (56 + size) (omega arith)) (Same-part now next place (place + size_at now place) (place + 20) (place + (56 + size)) same (omega arith) (omega arith)))
        (omega arith) (omega arith) (omega arith)

    joined_there : Fits new reserved → IsEntry b now place new reserved
    joined_there fit = stays_there fit (file_now sound (rechains new.slot.kind sound at p)).little (record { each = λ i l u. refl }) (omega arith)

  -- ---- a last one

  module _ {mid now : List ℕ} {place : ℕ} (absent : position (λ n. n == new.slot.num) known.numbers ≡ None) {c : Chain} {bytes : List ℕ} (is : c ≡ entries_chain new.slot.kind new.slot.adr) (bytes_are : bytes ≡ body_of new new_reserved) (added : Added b mid c bytes place) (written : now ≡ with_field mid new.slot.adr (max_field new.slot.kind) (stored new)) where
    pub pushed : IsPut b now new known (record { chain = known.chain; numbers = known.numbers ++ new.slot.num ∷ []; places = known.places ++ place ∷ [] })
    pushed =
        let p = pushes new.slot.kind sound at (body_made new new_reserved).0 (body_long new new_reserved) (max_written new.slot.kind (stored new) w.attribute.adr_is written) (rw ((of_chain is).chain_is, bytes_are) at added) in
        let r = rechains new.slot.kind sound at p in
        let there = joined_there p (fits_with (lit< tt) (lit< tt) (lit< tt) (lit< tt)) in
        let out : In new.slot.num (nums b chain) → ⊥ = λ i. none_in new.slot.num known.numbers absent (subst (In new.slot.num) (sym numbers_chain) i) in
        let live = nums_live b now chain (λ m i. entry_stays sound r m i (λ none. none)) in
        let out_now : In (number now place aedr_num) (nums now chain) → ⊥ = λ i. out (subst (In new.slot.num) live (subst (λ (n : ℕ). In n (nums now chain)) there.num_is i)) in
        let found = found_none b new.slot.num chain out in
        is_put r there (In-append_right place chain (place ∷ []) (inl refl)) (nums_pushed now chain place (subst Distinct (sym live) (differ_before sound r good)) out_now)
        (entries_pushed now chain place out_now ∙ (λ i. with_item (there.num_is i) (there.meant i) (entries_live b now chain (λ m j. entry_stays sound r m j (λ none. none)) i)) ∙ ap (with_item new.slot.num entry) (sym (items_of b own new.slot.kind)))
        (ap (λ (o : Option ℕ). chain_after chain o (Some place)) (sym found)) (λ m i. absurd i)
        (count_now new.slot.kind sound at p ∙ ap (λ (n : ℕ). n + 1) (as_count new.slot.kind b b own.adr ∙ counted_before sound r good) ∙ sym (length-append chain (place ∷ [])))
        (greatest_now new.slot.kind sound at p new.greatest signed is_stored) (settled new.slot.kind sound at p (λ m. refl) (λ none. none))
        (rw found (ap (λ (n : ℕ). Took place (56 + n) ∷ []) (sym there.bytes_are), there.says.1.1.1.1.1)) tt
        ((λ i. (numbers_chain ∙ sym live) i ++ sym there.num_is i ∷ []) ∙ sym (map-append (λ (e : ℕ). number now e aedr_num) chain (place ∷ [])))
        (ap (λ (ms : List ℕ). ms ++ place ∷ []) places_chain)

  -- ---- in place of the one of its number

  module _ {i : ℕ} {was : OldEntry} (has : HasOld b known i new.slot.num was) where
    abbrev old : ℕ
    old = was.place

    pub member : In old chain
    member = subst (λ (x : ℕ). In x chain) (sym has.place_is) (subst (In (slice_index known.places i)) places_chain (index_in known.places i has.within))

    pub behind_at : {c : Chain} → c ≡ entries_chain new.slot.kind new.slot.adr → last_or None (take i known.places) ≡ last_or None (before old (members_of b c))
    behind_at {c = c} is = stands_behind good (of_chain is) known (w.chain ∙ sym is) w.known i has.within ∙ ap (λ (x : ℕ). last_or None (before x (members_of b c))) (sym has.place_is)

    old_fits : Fits new was.reserved
    old_fits = subst (Fits new) (sym has.reserved_is) (fits_with (field 40 (omega arith)) (field 44 (omega arith)) (field 48 (omega arith)) (field 52 (omega arith)))
      where
        field : (at : ℕ) → at + 4 ≤ 56 → word b (old + at) 4 < 2 ^ 32
        field at l = word4_fits b old 56 (old + at) has.bytes (omega arith) (omega arith)

    module _ {now records list : List ℕ} {marks : List Mark} {reborn chain' : List ℕ} {by : ℕ} (is : chain' ≡ with_in_place old by chain) (r : Rechains b now (shape b) records list marks reborn new.slot.kind cut.before own cut.after chain' (old ∷ []) (by ∷ [])) (there : IsEntry b now by new was.reserved) where
      replaced : {acts : List Act} {places : List ℕ} → number now own.adr (count_field new.slot.kind) ≡ number b own.adr (count_field new.slot.kind) → integer4 now own.adr (max_field new.slot.kind) ≡ new.greatest → Settled sound r (56 + size) acts → acts ≡ moved_for_room b old by (entry_end now by) → MovesForRoom b now old by (entry_end now by) → FreedStay b now no_fields acts
          → places ≡ chain' → IsPut b now new known (record known { places = places })
      replaced same greatest settled acts_are room freed are =
          let differ = differ_before sound r good in
          let others : (m : ℕ) → In m chain → m ≢ old → EntryLives b now m = λ m i ne. entry_stays sound r m i (λ j. ne (the_one old m j)) in
          let numbers = ap (nums now) is ∙ nums_replaced b now old by new.slot.num has.number_is there.num_is chain differ member others in
          let found = found_one b new.slot.num old chain has.number_is member differ in
          is_put r there (came_in chain _ (old ∷ []) (by ∷ []) r.trades by (inl refl) (one_within old chain member by)) (subst Distinct (sym numbers) differ)
          (ap (chain_items now) is ∙ entries_replaced b now old by new.slot.num has.number_is there.num_is chain differ member others ∙ (λ k. with_item new.slot.num (there.meant k) (sym (items_of b own new.slot.kind) k)))
          (is ∙ sym (replaced_after old by chain (once_before sound r good)) ∙ ap (λ (o : Option ℕ). chain_after chain o (Some by)) (sym found)) (λ m j. ap (λ (x : ℕ). number b x aedr_num) (the_one old m j) ∙ has.number_is)
          (same ∙ counted_before sound r good ∙ sym (length-map chain (λ (m : ℕ). number b m aedr_num)) ∙ ap (λ (xs : List ℕ). length xs) (sym numbers) ∙ length-map chain' (λ (m : ℕ). number now m aedr_num)) greatest settled
          (rw found (record { acts_are = acts_are; reserved = subst (λ (x : Reserved). Says now by ((aedr_rfu_b, x.b) ∷ (aedr_rfu_c, x.c) ∷ (aedr_rfu_d, x.d) ∷ (aedr_rfu_e, x.e) ∷ [])) has.reserved_is there.says.1.1.1.1.1; room = room })) freed (numbers_chain ∙ sym numbers) are

    -- ---- in its record

    module _ {bytes : List ℕ} (room : 56 + size ≤ was.size) (bytes_are : bytes ≡ fields_of new was.reserved) where
      fits : 56 + size ≤ size_at b old
      fits = subst (λ (n : ℕ). 56 + size ≤ n) has.size_is room

      pub fields_inside : old + 20 + length bytes ≤ length b
      fields_inside = rw bytes_are (omega (arith, fits, (tile_lies b 8 (length b) (shape b).records old sound.has_shape.tiled (stands new.slot.kind sound at old member).inside).high))

      module _ {now : List ℕ} (written : now ≡ with_field (put b (old + 20) bytes) new.slot.adr (max_field new.slot.kind) (stored new)) where
        pub put_over : IsPut b now new known known
        put_over =
            let q = changes new.slot.kind sound at (fields_of new was.reserved) member (let f = fits in omega arith) (max_written new.slot.kind (stored new) w.attribute.adr_is (written ∙ ap (λ (xs : List ℕ). with_field (put b (old + 20) xs) new.slot.adr (max_field new.slot.kind) (stored new)) bytes_are)) in
            let inside = fits in
            let ends = (tile_lies b 8 (length b) (shape b).records old sound.has_shape.tiled (stands new.slot.kind sound at old member).inside).high in
            let mid_long = q.long in
            let long = over_long sound q in
            let mid_sized = mid_size sound q old member in
            let sized = size_now sound q old member in
            let there : IsEntry b now old new was.reserved = entry_written new was.reserved (file_now sound (over_rechains sound q)).little w.stored (drop (old + 20 + length (fields_of new was.reserved)) b) (drop-put_there b (fields_of new was.reserved) (old + 20) (omega arith)) old_fits
            (Same-part q.mid now old (old + size_at q.mid old) (old + 20) (old + (56 + size)) (mid_kept sound q old member).same (omega arith) (omega arith))
            (omega arith) (omega arith) (omega arith) in
            let bytes = there.bytes_are in
            replaced (sym (in_its_place old chain)) (over_rechains sound q) there (over_count sound q) (over_greatest sound q new.greatest signed is_stored) (over_settled sound q good) (rw (le-leb (entry_end now old) (size_at b old) (omega arith)) refl)
            (λ le. record { place_stays = refl; size_stays = sized; rest_stays = part_beside sound q old (entry_end now old) (size_at b old) member (inr (omega arith)) (omega arith) }) tt places_chain

    -- ---- in another record

    module _ {mid late : List ℕ} {by : ℕ} {c : Chain} {bytes : List ℕ} (is : c ≡ entries_chain new.slot.kind new.slot.adr) (bytes_are : bytes ≡ body_of new was.reserved) (exchanged : Exchanged b mid c bytes old by) (written : late ≡ with_field mid new.slot.adr (max_field new.slot.kind) (stored new)) where
      abbrev j : JoinsEntry b late new.slot.kind own (56 + size) (body_of new was.reserved) by (with_in_place old by chain) (old ∷ []) (counted_in b (entries_chain new.slot.kind own.adr))
      j = exchanges new.slot.kind sound at (body_made new was.reserved).0 (body_long new was.reserved) (max_written new.slot.kind (stored new) w.attribute.adr_is written) member (rw ((of_chain is).chain_is, bytes_are) at exchanged)

      late_there : IsEntry b late by new was.reserved
      late_there = joined_there j old_fits

      -- the old one may be freed
      pub freed : Frees b late (records sound (new_record new.slot.kind sound at j)) (list sound (new_record new.slot.kind sound at j)) (marks sound (new_record new.slot.kind sound at j)) (by ∷ []) new.slot.kind cut.before own cut.after (with_in_place old by chain) (by ∷ []) old (56 + size) (Took by (56 + size) ∷ [])
      freed = frees new.slot.kind sound at j member late_there.fits

      module _ {now : List ℕ} (large : was.size < 56 + size) (gives : Gives late now (shape late) (shape now) old) where
        pub put_anew : IsPut b now new known (record known { places = slice_set known.places i by })
        put_anew =
            let moved = freed_rechains sound freed gives in
            let stays = other_kept sound freed gives by (new_in sound (new_record new.slot.kind sound at j)) (not_old new.slot.kind sound at j member late_there.fits) (new_type sound (new_record new.slot.kind sound at j)) in
            let there = stays_there j old_fits (file_now sound moved).little stays.same (omega (arith, as_long_now sound freed gives)) in
            let larger : size_at b old < entry_end now by = (let is = has.size_is in let all = there.bytes_are in omega arith) in
            let set = (at_index known.places i by has.within (once good (of_chain refl) known w.chain w.known)).2 in
            replaced refl moved there (count_same sound freed gives (count_is new.slot.kind b own.adr).0 ∙ count_now new.slot.kind sound at j ∙ as_count new.slot.kind b b own.adr)
            (greatest_integer new.slot.kind late now own.adr (greatest_same sound freed gives (max_lies new.slot.kind).1) ∙ greatest_now new.slot.kind sound at j new.greatest signed is_stored) (freed_settled sound freed gives (ends sound (new_record new.slot.kind sound at j)))
            (rw (lt-leb (entry_end now by) (size_at b old) larger) (ap (λ (n : ℕ). Took by (56 + n) ∷ Gave old (size_at b old) ∷ []) (sym there.bytes_are))) (λ le. absurd (omega arith)) (freed_bytes sound freed gives (Took by (56 + size) ∷ Gave old (size_at b old) ∷ []) (stands new.slot.kind sound at old member).long)
            (sym (ap (λ (x : ℕ). with_in_place x by known.places) has.place_is ∙ set) ∙ ap (with_in_place old by) places_chain)
