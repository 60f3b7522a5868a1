-- Entries of a chain get numbers less by one, where they are greater than one that none has, and the greatest number of the chain is written.
use Rattle.cdf_edits.proofs.Common.{ActsFollow, Among, AttributeShape, Distinct, Each, Edit, EntryKind, FitsSigned, Good, Hold, In, IsSound, List, Mark, Only, Shape, Stays, Write, [], aedr_attr_num, aedr_num, ap, append-nil, ap₂, arith, attribute_of, cases_lt, cast_unsigned, chain_of, closed_up, entries_of, entry_of, entry_rows, entry_type, fallen, filter, filter-in, good_is_sound, greatest_number, if◌then◌else◌, image_limit, inl, inr, integer4, le-leb, le-ltb, leb-true, length, lt-ltb, ltb-true, map, mark, max_field, nat_lt, nat_tests, number, number_kept, record_number_limit, refl, shape, size_at, subst, sym, tile_lies, true, uir_type, w32, with_chain, with_field, with_item, with_writes, word_kept, write, ℕ, ℤ, ◌++◌, ◌+◌, ◌-◌, ◌<◌, ◌==◌, ◌^◌, ◌∙◌, ◌∷◌, ◌≡◌, ◌≢◌, ◌≤◌}
use Rattle.cdf_edits.proofs.Edits.ChainMembers.{IsAmong, member, member_fits, own_there}
use Rattle.cdf_edits.proofs.Edits.OneChain.{counted_before}
use Rattle.cdf_edits.proofs.Edits.ChainFollowed.{chain_now}
use Rattle.cdf_edits.proofs.Edits.Common.{Rechains, chain_has, file_now, filter-distinct, in-filter, filter-says, num_same, some_bytes, acts_still_by, keeps_away, keeps_within, now_is, type_stays, unmarked-away, differ_before, good_settled, items_of, rules_before, EntryMeans, entry_means, nums}
use Rattle.cdf_edits.proofs.Edits.DroppedEntries.{lowers, number_field}
use Rattle.cdf_edits.proofs.Edits.EntriesEdited.{EditsEntries, EntryEdited, StandTests, edited, only_at, same_records}
use Rattle.cdf_edits.proofs.Edits.WrittenEntries.{WriteTests, WritesChain, as_long, count_now as count_written, edit, greatest_now as greatest_written, mid_kept, mid_size, part_beside, size_now, rechains as rechains_written, settled as settled_written, write_tests, writing}
use Rattle.cdf_edits.proofs.Edits.WrittenFields.{MayWrite, others_keep, writes_edit, writes_long, writes_say, written_tiles}
use Rattle.cdf_format.specs.Content.{entries_of as chain_items}

-- ---- numbers

pub rests : (num n : ℕ) → n ≤ num → fallen num n ≡ n
rests num n le = rw (le-ltb num n le) refl

pub fallen_under : (num n : ℕ) → fallen num n ≤ n
fallen_under num n = grind (arith, nat_tests)

-- the number that falls to one
abbrev raised : ℕ → ℕ → ℕ
raised num n = if nat_lt n num then n else n + 1

raised_back : (num n : ℕ) → n ≢ num → raised num (fallen num n) ≡ n
raised_back num n ne = grind (arith, nat_tests)

pub fallen_distinct : (num : ℕ) (ns : List ℕ) → (In num ns → ⊥) → Distinct ns → Distinct (map (fallen num) ns)
fallen_distinct num [] out d = tt
fallen_distinct num (n ∷ ns) out d = ((λ i. d.0 (back ns (λ j. out (inr j)) i)), fallen_distinct num ns (λ j. out (inr j)) d.1)
  where
    back : (ms : List ℕ) → (In num ms → ⊥) → In (fallen num n) (map (fallen num) ms) → In n ms
    back [] o i = absurd i
    back (m ∷ ms) o (inl q) = inl (sym (raised_back num n (λ e. out (inl (sym e)))) ∙ ap (raised num) q ∙ raised_back num m (λ e. o (inl (sym e))))
    back (m ∷ ms) o (inr i) = inr (back ms (λ j. o (inr j)) i)

-- ---- items

module _ {A : Type 0} (num : ℕ) where
  abbrev raised_items : List (ℕ × A) → List (ℕ × A)
  raised_items items = map (λ pair. (raised num pair.0, pair.1)) items

  raised_with : (n : ℕ) (a : A) (items : List (ℕ × A)) → raised_items (with_item n a items) ≡ with_item (raised num n) a (raised_items items)
  raised_with n a [] = refl
  raised_with n a (item ∷ rest) = step n item.0 a item.1 rest (raised_with n a rest)
    where
      step : (n k : ℕ) (a c : A) (rest : List (ℕ × A)) → raised_items (with_item n a rest) ≡ with_item (raised num n) a (raised_items rest) → raised_items (with_item n a ((k, c) ∷ rest)) ≡ with_item (raised num n) a (raised_items ((k, c) ∷ rest))
      step n k a c rest so = grind (arith, nat_tests)

  closed_raised : (items : List (ℕ × A)) → closed_up num num (raised_items items) ≡ items
  closed_raised [] = refl
  closed_raised (item ∷ rest) = step item.0 item.1 rest (closed_raised rest)
    where
      step : (n : ℕ) (a : A) (rest : List (ℕ × A)) → closed_up num num (raised_items rest) ≡ rest → closed_up num num (raised_items ((n, a) ∷ rest)) ≡ (n, a) ∷ rest
      step n a rest so = grind (arith, nat_tests)

-- ---- entries of a chain

-- an entry means what it did, and its number fell if it was greater
pub record EntryFell (b now : List ℕ) (num e : ℕ) : Type 0 where
  pub num_is : number now e aedr_num ≡ fallen num (number b e aedr_num)
  pub meant : entry_of now e ≡ entry_of b e

module _ (b now : List ℕ) (num : ℕ) where
  entries_raised : (es : List ℕ) → (In num (nums b es) → ⊥) → ((m : ℕ) → In m es → EntryFell b now num m) → raised_items num (chain_items now es) ≡ chain_items b es
  entries_raised [] out fell = refl
  entries_raised (e ∷ es) out fell =
      let here = fell e (inl refl) in
      let back = ap (raised num) here.num_is ∙ raised_back num (number b e aedr_num) (λ q. out (inl (sym q))) in
      let rest = entries_raised es (λ i. out (inr i)) (λ m i. fell m (inr i)) in
      raised_with num (number now e aedr_num) (entry_of now e) (chain_items now es) ∙ (λ i. with_item (back i) (here.meant i) (rest i))

  -- none had the number
  pub entries_closed : (es : List ℕ) → (In num (nums b es) → ⊥) → ((m : ℕ) → In m es → EntryFell b now num m) → chain_items now es ≡ closed_up num num (chain_items b es)
  entries_closed es out fell = sym (closed_raised num (chain_items now es)) ∙ ap (closed_up num num) (entries_raised es out fell)

  pub nums_fell : (es : List ℕ) → ((m : ℕ) → In m es → EntryFell b now num m) → nums now es ≡ map (fallen num) (nums b es)
  nums_fell [] fell = refl
  nums_fell (e ∷ es) fell = ap₂ (λ (n : ℕ) (rest : List ℕ). n ∷ rest) (fell e (inl refl)).num_is (nums_fell es (λ m i. fell m (inr i)))

-- ---- the image

abbrev pub falling : EntryKind → ℕ → List ℕ → List Mark
falling kind adr es = writing kind adr es aedr_num

-- ---- what is written

-- the entries of greater numbers
abbrev pub later : List ℕ → ℕ → List ℕ → List ℕ
later b num es = filter (λ aedr. nat_lt num (number b aedr aedr_num)) es

abbrev pub lowered : List ℕ → List ℕ → List Write
lowered b es = map (λ aedr. write aedr aedr_num (number b aedr aedr_num - 1)) es

tiles_of : (b es : List ℕ) → written_tiles (lowered b es) ≡ es
tiles_of b [] = refl
tiles_of b (e ∷ es) = ap (λ (x : List ℕ). e ∷ x) (tiles_of b es)

pub later_above : (b : List ℕ) (num : ℕ) (es : List ℕ) (m : ℕ) → In m (later b num es) → num < number b m aedr_num
later_above b num es m i = ltb-true num (number b m aedr_num) (filter-says (λ aedr. nat_lt num (number b aedr aedr_num)) es m i)

each_write : (b : List ℕ) (es : List ℕ) (P : Write → Type 0) → ((m : ℕ) → In m es → P (write m aedr_num (number b m aedr_num - 1))) → Each P (lowered b es)
each_write b [] P f = tt
each_write b (e ∷ es) P f = (f e (inl refl), each_write b es P (λ m i. f m (inr i)))

of_write : (b : List ℕ) (es : List ℕ) (P : Write → Type 0) (m : ℕ) → In m es → Each P (lowered b es) → P (write m aedr_num (number b m aedr_num - 1))
of_write b [] P m i all = absurd i
of_write b (e ∷ es) P m (inl q) all = subst (λ (x : ℕ). P (write x aedr_num (number b x aedr_num - 1))) (sym q) all.0
of_write b (e ∷ es) P m (inr i) all = of_write b es P m i all.1

stand_tests : (kind : EntryKind) (adr : ℕ) (es : List ℕ) → StandTests (falling kind adr es) kind
stand_tests kind adr es = grind arith

-- the greater numbers of the chain were written less by one, and then its greatest number
pub record LowersChain (b now : List ℕ) (kind : EntryKind) (before : List AttributeShape) (own : AttributeShape) (after : List AttributeShape) (num : ℕ) : Type 0 where
  pub was : (shape b).attributes ≡ before ++ own ∷ after
  pub none : In num (nums b (chain_of own kind)) → ⊥
  pub greatest : ℕ
  pub written : now ≡ with_field (with_writes b (lowered b (later b num (chain_of own kind)))) own.adr (max_field kind) greatest

module _ {b now : List ℕ} {kind : EntryKind} {before : List AttributeShape} {own : AttributeShape} {after : List AttributeShape} {num : ℕ} (good : Good b) (short : length b ≤ image_limit) (q : LowersChain b now kind before own after num) where
  sound : IsSound b (shape b)
  sound = good_is_sound b good

  abbrev at : IsAmong b before own after
  at = record { was = q.was }

  abbrev pub chain : List ℕ
  chain = chain_of own kind

  abbrev pub those : List ℕ
  those = later b num chain

  pub t : WriteTests kind own.adr those aedr_num
  t = write_tests kind own.adr those aedr_num

  pub of_those : (m : ℕ) → In m those → In m chain
  of_those m i = filter-in (λ aedr. nat_lt num (number b aedr aedr_num)) chain m i

  -- ---- the two edits

  abbrev ws : List Write
  ws = lowered b those

  abbrev first_marks : List Mark
  first_marks = mark (entry_type kind) (Among those) aedr_num ∷ []

  abbrev mid : List ℕ
  mid = with_writes b ws

  pub long_enough : (m : ℕ) → In m chain → 56 ≤ size_at b m
  long_enough m i = let f = member_fits kind sound at m i in omega arith

  may : Each (MayWrite b (shape b).records first_marks) ws
  may = each_write b those (MayWrite b (shape b).records first_marks) (λ m i.
      let j = of_those m i in
      record {
        inside = (member kind sound at m j).inside;
        used = λ u. t.in_use (sym (member kind sound at m j).typed ∙ u);
        fits = let l = long_enough m j in omega arith;
        later = omega arith;
        covered = inl (record { typed = (member kind sound at m j).typed; lies = i; low = omega arith; high = omega arith });
      })

  first : Edit b mid (shape b).records (shape b).records first_marks []
  first = writes_edit b (shape b).records first_marks ws sound.has_shape.tiled (some_bytes b (shape b) sound.has_shape) may

  abbrev w : WritesChain b now kind before own after those aedr_num
  w = record { at = at; sub = of_those; late = omega arith; mid = mid; first = first; long = writes_long b (shape b).records first_marks ws sound.has_shape.tiled (some_bytes b (shape b) sound.has_shape) may; greatest = q.greatest; written = record { is = q.written } }

  pub rechains : Rechains b now (shape b) (shape b).records (shape b).unused (falling kind own.adr those) [] kind before own after chain those those
  rechains = rechains_written sound w

  pub greatest_lowered : (z : ℤ) → FitsSigned w32 z → q.greatest ≡ cast_unsigned w32 z → integer4 now own.adr (max_field kind) ≡ z
  greatest_lowered = greatest_written sound w

  -- ---- its entries

  means : (m : ℕ) → In m chain → EntryMeans b now m
  means m i =
      let l = long_enough m i in
      let inside = (tile_lies b 8 (length b) (shape b).records m sound.has_shape.tiled (member kind sound at m i).inside).high in
      entry_means b now (file_now sound rechains) m (record { size = size_now sound w m i; code = part_beside sound w m 24 28 i (inl (omega arith)) (omega arith); rest = part_beside sound w m 32 (size_at b m) i (inr (omega arith)) (omega arith); inside = inside }) (member_fits kind sound at m i)

  entry_rules : (m : ℕ) → In m chain → Hold (entry_rows b own.adr m)
  entry_rules m i = rules_before sound rechains good m i

  small : (m : ℕ) → In m chain → number b m aedr_num ≤ record_number_limit
  small m i = leb-true (number b m aedr_num) record_number_limit (entry_rules m i).1.0

  says : Each (λ (w : Write). number mid w.tile w.f ≡ w.to) ws
  says = writes_say b (shape b).records first_marks ws sound.has_shape.tiled (some_bytes b (shape b) sound.has_shape) may (subst Distinct (sym (tiles_of b those)) (filter-distinct (λ aedr. nat_lt num (number b aedr aedr_num)) chain (chain_has kind own (own_there kind sound at).have.0).once))
      (each_write b those (λ (w : Write). w.to < 256 ^ w.f.width) (λ m i. let l = small m (of_those m i) in omega arith))

  late_says : (m : ℕ) → In m chain → number now m aedr_num ≡ number mid m aedr_num
  late_says m i =
      let size = mid_size sound w m i in
      let l = long_enough m i in
      number_kept mid now m (mid_kept sound w m i).same aedr_num (omega arith)

  fell_number : (m : ℕ) → In m chain → number now m aedr_num ≡ fallen num (number b m aedr_num)
  fell_number m i = elim (cases_lt num (number b m aedr_num)) [
    | inl lt ↦
        let to = of_write b those (λ (w : Write). number mid w.tile w.f ≡ w.to) m (in-filter (λ aedr. nat_lt num (number b aedr aedr_num)) chain m i (lt-ltb num (number b m aedr_num) lt)) says in
        late_says m i ∙ to ∙ grind (arith, nat_tests)
    | inr le ↦
        let out : In m (written_tiles ws) → ⊥ = λ j. let lt = later_above b num chain m (subst (In m) (tiles_of b those) j) in absurd (omega arith) in
        let l = long_enough m i in
        late_says m i ∙ others_keep b (shape b).records first_marks ws sound.has_shape.tiled (some_bytes b (shape b) sound.has_shape) may m aedr_num (member kind sound at m i).inside (λ u. t.in_use (sym (member kind sound at m i).typed ∙ u)) out (omega arith) ∙ sym (rests num (number b m aedr_num) le)
  ]

  pub fell : (m : ℕ) → In m chain → EntryFell b now num m
  fell m i = record { num_is = fell_number m i; meant = (means m i).meant }

  -- ---- what it comes to

  pub entries_now : chain_items now chain ≡ closed_up num num (entries_of (attribute_of b own) kind)
  entries_now = entries_closed b now num chain q.none fell ∙ ap (closed_up num num) (sym (items_of b own kind))

  pub nums_now : nums now chain ≡ map (fallen num) (nums b chain)
  nums_now = nums_fell b now num chain fell

  rules_now : (m : ℕ) → In m chain → Hold (entry_rows now own.adr m)
  rules_now m i =
      let was = entry_rules m i in
      let enough = long_enough m i in
      let attribute : number now m aedr_attr_num ≡ number b m aedr_attr_num = word_kept b now (m + 20) (m + 24) (part_beside sound w m 20 24 i (inl (omega arith)) (omega arith)) (m + 20) 4 (omega arith) (omega arith) in
      let own_same = num_same sound rechains in
      let is = fell_number m i in
      let under = fallen_under num (number b m aedr_num) in
      let l = small m i in
      ((λ j. attribute j == own_same j) ∙ was.0, (le-leb (number now m aedr_num) record_number_limit (omega arith), ((means m i).valued ∙ was.1.1.0, tt)))

  pub good_lowered : Good now
  unfolding rechains
  good_lowered = good_settled sound rechains good (count_written sound w ∙ counted_before sound rechains good) (subst Distinct (sym nums_now) (fallen_distinct num (nums b chain) q.none (differ_before sound rechains good))) rules_now (settled_written sound w {need = 0} good) (omega arith)

  -- ---- its entries are edited

  same_list : (shape now).unused ≡ (shape b).unused
  same_list = ap (λ (x : Shape). x.unused) (now_is sound rechains)

  -- ---- the entries

  num_stays : (m : ℕ) → In m chain → Stays b now m (aedr_num ∷ [])
  num_stays m i =
      let other = t.other in
      keeps_within sound rechains.edit (same_records good rechains) m (entry_type kind) (aedr_num ∷ []) (member kind sound at m i).inside (member kind sound at m i).typed ((λ same lies. inl (omega arith)), ((λ same lies. absurd (other same)), tt)) ((λ same lies. refl), ((λ same lies. absurd (other same)), tt))

  entry_falls : (m : ℕ) → In m chain → EntryEdited b now (with_chain own kind chain) kind m (number_field num (number b m aedr_num)) (fallen num (number b m aedr_num))
  entry_falls m i = record {
    member = subst (In m) (sym (chain_now kind own chain)) i;
    lasts = (
      elim (cases_lt num (number b m aedr_num)) [
        | inl lt ↦ rw (lt-ltb num (number b m aedr_num) lt) (num_stays m i)
        | inr le ↦ rw (le-ltb num (number b m aedr_num) le) (keeps_away sound rechains.edit (same_records good rechains) m (entry_type kind) (Only []) (member kind sound at m i).inside (member kind sound at m i).typed
            ((λ same lies. let lt = later_above b num chain m lies in absurd (omega arith)), ((λ same lies. t.other same), tt)))
      ],
      type_stays b now m (aedr_num ∷ []) (num_stays m i) (let l = long_enough m i in omega arith) (λ n l. (inl (omega arith), tt)),
    );
    num_is = (fell m i).num_is;
  }

  -- some number is greater
  pub numbers_fell : (lowers b num kind own).writes ≡ true → integer4 now own.adr (max_field kind) ≡ greatest_number (closed_up num num (entries_of (attribute_of b own) kind)) → EditsEntries b now kind (only_at (length before) (lowers b num kind)) []
  numbers_fell writes greatest = edited good rechains (stand_tests kind own.adr those) good_lowered (as_long sound w)
      (λ m i typed out. (unmarked-away (falling kind own.adr those) uir_type m t.unused, λ j. out (subst (In m) same_list j))) (lowers b num kind) refl refl (entries_now) writes greatest (λ m i stays. entry_falls m i)
      (λ first acts shaped so_far. subst (ActsFollow first now) (sym (append-nil acts)) (acts_still_by sound so_far (edit sound w) t.unused (same_records good rechains) same_list (as_long sound w))) (λ m i. absurd i)
