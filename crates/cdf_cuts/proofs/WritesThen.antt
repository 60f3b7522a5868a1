-- The index of a variable was cut, and then its records are written where they stand: what was so far still is.
use Rattle.cdf_cuts.proofs.Common.{Changed, In, Kept, List, NodeFits, Touch, [], ap, arith, image_limit, inl, inr, leaves_of, length, linkable-in, linkable-type, nodes_of, number, places_of, refl, size_at, subst, sym, tile_lies, touch, type_at, ℕ, ◌++◌, ◌+◌, ◌<◌, ◌∙◌, ◌∷◌, ◌≡◌, ◌≢◌, ◌≤◌}
use Rattle.cdf_edits.proofs.Common.{ActsFollow, Field, FreedStays, GivenStay, Good, HasShape, Kind, Only, OutsideFields, Same, Stays, Variable, VariableShape, content, eq-eqb, eqb-true, gdr_type, is_max_rec, links_end, no_fields, shape, shapes_of, slice_set, uir_next_uir, uir_prev_uir, uir_type, unused_records, variable_of, vdr_max_rec, vvr_type, with_variables, word_kept}
use Rattle.cdf_edits.proofs.Commands.KeptRecords.{Stood, keeps_stood}
use Rattle.cdf_edits.proofs.Edits.ActsJoined.{ListedStay}
use Rattle.cdf_edits.proofs.Edits.Common.{StandsAmong, acts_still_by, apart, fits, gdr_in, gdr_long, gdr_typed, long, other_kind, sound, stays_then, tile, type_stays}
use Rattle.cdf_edits.proofs.Edits.PlainLeaves.{own_rules}
use Rattle.cdf_edits.proofs.Edits.RecordGrown.{kept_then}
use Rattle.cdf_edits.proofs.Edits.RecordsWritten.{WritesRecords, edit, file, node_kept, part, records_are, same_shape, type_same, unused_stands}
use Rattle.cdf_edits.proofs.Edits.VariableCopied.{block_behind}
use Rattle.cdf_edits.proofs.Frame.ChangedBytes.{Outside-append, changed_part}
use Rattle.cdf_edits.proofs.Space.ActsLeave.{each}
use Rattle.cdf_edits.proofs.Common.{filter-in}
use Rattle.cdf_edits.proofs.Space.UsedRecords.{filter-says, in-filter}
use Rattle.cdf_edits.specs.Commands.GreatestRecord.{r_max_rec}
use Rattle.cdf_edits.specs.Commands.Puts.{max_rec_touches}
use Rattle.cdf_edits.specs.Space.Acts.{Act, Gave, Took}
use Rattle.std.proofs.Common.{◌==◌}
use Rattle.cdf_format.specs.Fields.{integer4}
use Rattle.cdf_format.specs.Records.{gdr_r_max_rec}
use Rattle.cdf_index.proofs.Common.{Each-in, behind_in, size_kept}
use Rattle.cdf_model.specs.Names.{variables_of}
use Rattle.cdf_puts.proofs.GoesThen.{goes_written}
use Rattle.cdf_puts.proofs.PutNodes.{nodes_same}
use Rattle.cdf_puts.specs.Going.{GoesOn, IsOther, LooseStay}
use Rattle.cdf_cuts.specs.Closing.{IndexClosed, closed, closing_acts}
use Rattle.cdf_cuts.specs.Moving.{Moved}
use Rattle.cdf_edits.proofs.Edits.StandsAmong.{no_block}
use Rattle.std.proofs.Common.{w32}
use Rattle.std.specs.Int.{cast_signed}
use Rattle.std.proofs.lemmas.List.{set-set}
use Rattle.cdf_model.specs.DataSet.{DataSet}

abbrev pub links : List Field
links = uir_next_uir ∷ uir_prev_uir ∷ []

-- in a data set a variable is another, and then another again
abbrev pub with_set : DataSet → Kind → ℕ → Variable → DataSet
with_set d kind n v = with_variables d kind (slice_set (variables_of d kind) n v)

pub with_twice : (d : DataSet) (kind : Kind) (n : ℕ) (v v' : Variable) → with_set (with_set d kind n v) kind n v' ≡ with_set d kind n v'
with_twice d kind n v v' = grind (arith, set-set)

-- ---- an image goes on where records are written

module _ {b mid now : List ℕ} {kind : Kind} {before : List VariableShape} {own own' : VariableShape} {after : List VariableShape} {acts : List Act} {ts : List Touch} (good : Good b) (at : StandsAmong b kind before own after) (first : GoesOn b mid kind before own own' after acts) (w : WritesRecords mid now kind own' ts) (short : length mid ≤ image_limit) where
  second : GoesOn mid now kind before own' own' after []
  second = goes_written first.good first.among w short

  h : HasShape b (shape b)
  h = (sound good at).has_shape

  twice : (m : ℕ) (fs : List Field) → Stays b mid m fs → Stays mid now m fs → Stays b now m fs
  twice m fs x y = stays_then b mid now m fs fs fs x y (λ i o. (o, o))

  -- an unused record is one in between, and stays
  type_later : (m : ℕ) (fs : List Field) → In m (shape b).records → type_at b m ≡ uir_type → Stays b mid m fs → ((i : ℕ) → i < 12 → OutsideFields fs i) → type_at mid m ≡ uir_type
  type_later m fs i t x out = type_stays b mid m fs x (tile_lies b 8 (length b) (shape b).records m h.tiled i).long out ∙ t

  unused_then : (m : ℕ) (fs : List Field) → Stays b mid m fs → type_at mid m ≡ uir_type → Stays b now m fs
  unused_then m fs x t = twice m fs x (keeps_stood mid now m (unused_stands first.good first.among w m x.stands t) (Only fs))

  loose_then : LooseStay b now
  loose_then m i t out = let x = first.loose m i t out in unused_then m [] x (type_later m [] i t x (λ n l. tt))

  listed_then : ListedStay b now acts
  listed_then m j free =
      let ok = h.unused_chain.linkable m j in
      let x = first.listed m j free in
      unused_then m links x (type_later m links (linkable-in b (shape b).records uir_type m ok) (linkable-type b (shape b).records uir_type m ok) x (λ n l. (inl (omega arith), (inl (omega arith), tt))))

  stay_then : (m : ℕ) → IsOther (shape b).attributes before after (shapes_of (shape b) (other_kind kind)) m → Stood b now m
  stay_then m i = search (kept_then b mid now m (first.stay m i).whole, second.stay m (rw (first.attributes_are, first.others_are) i))

  follow_then : ActsFollow b now acts
  follow_then =
      let same = same_shape first.good first.among w in
      acts_still_by (sound first.good first.among) first.follow (edit first.good first.among w) (grind arith) (records_are first.good first.among w) (ap (λ s. s.unused) same) w.as_long

  both : GoesOn mid now kind before own' own' after [] → GoesOn b now kind before own own' after acts
  both next = search (arith, first, next, ← first.gdr_is, ← first.vdr_is, stay_then, listed_then, loose_then, follow_then, twice, with_twice (content b) kind (length before) (variable_of mid own') (variable_of now own'))

  pub goes_more : GoesOn b now kind before own own' after acts
  goes_more = both second

-- ---- what was freed

module _ (b : List ℕ) {mid now : List ℕ} (same : (shape now).records ≡ (shape mid).records) (kept : (m : ℕ) → In m (shape mid).records → type_at mid m ≡ uir_type → Kept mid now m) (types : (m : ℕ) → In m (shape mid).records → type_at now m ≡ type_at mid m) (acts : List Act) where
  one_stays : (place size : ℕ) (fields : List Field) (uir : ℕ) → Kept mid now uir → FreedStays b mid acts place size fields uir → FreedStays b now acts place size fields uir
  one_stays place size fields uir k f i lt low high out free =
      let n = size_kept mid now uir k.same (omega (arith, k.long)) in
      let low' : uir + links_end (size_at mid uir) ≤ place + i = subst (λ (x : ℕ). uir + links_end x ≤ place + i) n low in
      k.same.each (place + i) (omega arith) (omega (arith, high, n)) ∙ f i lt low' (omega (arith, high, n)) out free

  pub freed_on : (gives : List Act) → GivenStay b mid no_fields acts gives → GivenStay b now no_fields acts gives
  freed_on [] g = tt
  freed_on (Took place need ∷ gives) g = freed_on gives g
  freed_on (Gave place size ∷ gives) g = (
    each (FreedStays b now acts place size []) (unused_records now (shape now)) (λ uir j.
        let inside : In uir (shape mid).records = subst (In uir) same (filter-in (λ (x : ℕ). type_at now x == uir_type) (shape now).records uir j) in
        let t : type_at mid uir ≡ uir_type = sym (types uir inside) ∙ eqb-true (type_at now uir) uir_type (filter-says (λ (x : ℕ). type_at now x == uir_type) (shape now).records uir j) in
        one_stays place size [] uir (kept uir inside t) (Each-in (FreedStays b mid acts place size []) (unused_records mid (shape mid)) g.0 uir (in-filter (λ (x : ℕ). type_at mid x == uir_type) (shape mid).records uir inside (eq-eqb (type_at mid uir) uir_type t)))),
    freed_on gives g.1,
  )

-- ---- what is known of the index

module _ {b mid now : List ℕ} {kind : Kind} {before : List VariableShape} {own : VariableShape} {after : List VariableShape} {first last : ℕ} {ts : List Touch} (good : Good b) (at : StandsAmong b kind before own after) (x : IndexClosed b mid kind before own after first last) (w : WritesRecords mid now kind (closed own first last) ts) where
  stand : StandsAmong mid kind before (closed own first last) after
  stand = x.goes.among

  kept_node : (m : ℕ) → In m (nodes_of (closed own first last).index) → Kept mid now m
  kept_node = node_kept x.goes.good stand w

  node_size : (m : ℕ) → In m (nodes_of (closed own first last).index) → size_at now m ≡ size_at mid m
  node_size m i = let k = kept_node m i in size_kept mid now m k.same (omega (arith, k.long))

  pub index_then : IndexClosed b now kind before own after first last
  index_then = record {
    goes = goes_more good at x.goes w (omega (arith, x.long, x.short));
    long = w.as_long ∙ x.long;
    short = x.short;
    tail = word_kept mid now (own.vdr + 28) (own.vdr + 44) (part x.goes.good stand w 28 44 (inr (omega arith)) (let n = long x.goes.good stand in omega arith)) (own.vdr + 36) 8 (omega arith) (omega arith) ∙ x.tail;
    nodes = nodes_same b mid now ((closed own first last).index ∷ []) (nodes_of own.index) (nodes_of (closed own first last).index) (closing_acts b own first last) (λ m i. Each-in (NodeFits mid) (nodes_of (closed own first last).index) (fits x.goes.good stand).1 m i) kept_node (λ m i free. x.sizes m i) x.nodes;
    sizes = λ m i. node_size m i ∙ x.sizes m i;
    cuts = x.cuts;
    freed = freed_on b (records_are x.goes.good stand w) (λ m i t. (unused_stands x.goes.good stand w m i t).whole) (type_same x.goes.good stand w) (closing_acts b own first last) (closing_acts b own first last) x.freed;
  }

-- ---- bytes of a block are moved

module _ {b now : List ℕ} {kind : Kind} {before : List VariableShape} {own : VariableShape} {after : List VariableShape} (place from to n : ℕ) (good : Good b) (at : StandsAmong b kind before own after) (block : In place (places_of (leaves_of own.index))) (is_plain : type_at b place ≡ vvr_type) (later : 12 ≤ to) (room : to + n ≤ size_at b place) (m : Moved b now from (place + to) n) where
  abbrev ts : List Touch
  ts = touch place to n ∷ []

  has : HasShape b (shape b)
  has = (sound good at).has_shape

  changed_here : Changed b now ts
  changed_here = record { longer = omega (arith, m.as_long); same = λ i lt out. m.others i lt out.0 }

  -- another record stays
  stays : (t lo hi : ℕ) → In t (shape b).records → t ≢ place → hi ≤ size_at b t → Same b now (t + lo) (t + hi)
  stays t lo hi i other fit = changed_part b now (shape b).records (length b) has.tiled (omega arith) ts changed_here (inl (behind_in good at place (block_behind own place block), room), tt) t lo hi i fit ((λ e. absurd (other e)), tt)

  pub moved_max_rec : number now own.vdr vdr_max_rec ≡ number b own.vdr vdr_max_rec
  moved_max_rec = word_kept b now (own.vdr + 24) (own.vdr + 28) (stays own.vdr 24 28 (tile good at) (λ e. no_block good at (subst (λ (x : ℕ). In x (places_of (leaves_of own.index))) (sym e) block)) (let n = long good at in omega arith)) (own.vdr + 24) 4 (omega arith) (omega arith)

  pub moved_writes : WritesRecords b now kind own ts
  moved_writes =
      let changed : Changed b now (max_rec_touches b kind own.vdr ++ ts) = record { longer = changed_here.longer; same = λ i lt out. changed_here.same i lt (Outside-append (max_rec_touches b kind own.vdr) ts i out).1 } in
      record { changed = changed; as_long = m.as_long; in_blocks = (record { block = block; typed = is_plain; later = later; fits = room }, tt); max_rec_ruled = ap is_max_rec moved_max_rec ∙ (own_rules good at).0.1.1.1.1.1.1.1.0 }

  pub moved_r_max_rec : r_max_rec now ≡ r_max_rec b
  moved_r_max_rec =
      let same = stays (shape b).gdr 52 56 (gdr_in b (shape b) has) (λ e. apart gdr_type vvr_type refl (sym (gdr_typed b (shape b) has) ∙ ap (type_at b) e ∙ is_plain)) (omega (arith, gdr_long b (shape b) has)) in
      let field : integer4 now (shape b).gdr gdr_r_max_rec ≡ integer4 b (shape b).gdr gdr_r_max_rec = ap (cast_signed w32) (word_kept b now ((shape b).gdr + 52) ((shape b).gdr + 56) same ((shape b).gdr + 52) 4 (omega arith) (omega arith)) in
      ap (λ (x : ℕ). integer4 now x gdr_r_max_rec) (file good at moved_writes).gdr_is ∙ subst (λ (x : ℕ). integer4 now x gdr_r_max_rec ≡ integer4 b x gdr_r_max_rec) (sym has.gdr_is) field
