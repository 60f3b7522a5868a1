-- The steps by which code makes the levels of an index, one by one, whose entries are known by what they say.
use Rattle.cdf_reindex.proofs.Common.{AllMade, AreLevels, Entries, Entry, Filled, Leaf, LevelMade, LevelsMade, List, NewNode, NodeMade, PyramidMade, SayEntries, SaysEntry, [], ap, append-nil, append_assoc, arith, block, entries_for, entries_of, entry_count, entry_in, first_of, from_below, get_or, last_of, leaf_words, length, length-append, link_to, lower, map, min, naming, no_entries, no_entry, nodes_above, nodes_left, quotient_up, refl, subst, suc, sym, uppers, with_both, words, words_of, zero, ℕ, ◌*◌, ◌++◌, ◌+◌, ◌-◌, ◌<◌, ◌∙◌, ◌∷◌, ◌≡◌, ◌≤◌}
use Rattle.cdf_reindex.proofs.Levels.{above_is, leaves_under, left_more, raised, top_filled}

-- ---- entries that are known by what they say

pub length_words : (entries : Entries) → length (words_of entries) ≡ entry_count entries
length_words no_entry = refl
length_words (block first last place packed entries) = ap suc (length_words entries)
length_words (lower first last nodes entries) = ap suc (length_words entries)

pub words_for : (leaves : List Leaf) → words_of (entries_for leaves) ≡ map leaf_words leaves
words_for [] = refl
words_for (leaf ∷ more) = ap (λ (ws : List Entry). leaf_words leaf ∷ ws) (words_for more)

-- words that a node says one by one
pub say_entries : (b : List ℕ) (place i : ℕ) (entries : Entries) → ((j : ℕ) → j < entry_count entries → SaysEntry b place (i + j) (entry_in (words_of entries) j).first (entry_in (words_of entries) j).last (entry_in (words_of entries) j).place) → SayEntries b place i entries
say_entries b place i no_entry s = tt
say_entries b place i (block first last at packed entries) s = let z : i + 0 ≡ i = omega arith in (rw z at (s 0 (omega arith)), say_entries b place (suc i) entries (λ j lt. let on : i + suc j ≡ suc i + j = omega arith in rw on at (s (suc j) (omega arith))))
say_entries b place i (lower first last nodes entries) s = let z : i + 0 ≡ i = omega arith in (rw z at (s 0 (omega arith)), say_entries b place (suc i) entries (λ j lt. let on : i + suc j ≡ suc i + j = omega arith in rw on at (s (suc j) (omega arith))))

-- ---- parted as their words are

pub record Parted (entries : Entries) (xs ys : List Entry) : Type 0 where
  pub front : Entries
  pub back : Entries
  pub whole : with_both front back ≡ entries
  pub front_is : words_of front ≡ xs
  pub back_is : words_of back ≡ ys

pub parted : (xs ys : List Entry) (entries : Entries) → words_of entries ≡ xs ++ ys → Parted entries xs ys
parted [] ys entries e = record { front = no_entry; back = entries; whole = refl; front_is = refl; back_is = e }
parted (x ∷ xs) ys no_entry e = absurd cc
parted (x ∷ xs) ys (block first last place packed entries) e =
    let r = parted xs ys entries cc in
    record { front = block first last place packed r.front; back = r.back; whole = ap (block first last place packed) r.whole; front_is = (let q = r.front_is in cc); back_is = r.back_is }
parted (x ∷ xs) ys (lower first last nodes entries) e =
    let r = parted xs ys entries cc in
    record { front = lower first last nodes r.front; back = r.back; whole = ap (lower first last nodes) r.whole; front_is = (let q = r.front_is in cc); back_is = r.back_is }

-- ---- the entry that names a node

last_at : (w : Entry) (entries : Entries) → last_of w.last entries ≡ (get_or (w ∷ words_of entries) (length (w ∷ words_of entries) - 1) (words 0 0 0)).last
last_at w no_entry = refl
last_at w (block f l p packed es) = let z : suc (suc (length (words_of es))) - 1 ≡ suc (suc (length (words_of es)) - 1) = omega arith in rw z (last_at (words f l p) es)
last_at w (lower f l nodes es) = let z : suc (suc (length (words_of es))) - 1 ≡ suc (suc (length (words_of es)) - 1) = omega arith in rw z (last_at (words f l (link_to nodes)) es)

pub named : (place : ℕ) (entries : Entries) → 1 ≤ entry_count entries → words (first_of entries) (last_of 0 entries) place ≡ naming place (words_of entries)
named place no_entry some = absurd (omega arith)
named place (block f l p packed es) some = ap (λ (n : ℕ). words f n place) (last_at (words f l p) es)
named place (lower f l nodes es) some = ap (λ (n : ℕ). words f n place) (last_at (words f l (link_to nodes)) es)

-- ---- the steps by which code makes the levels of an index, one by one

-- ---- nodes of a level

-- from entries that say these the level goes on to one that was begun before
pub record Goes (b mid : List ℕ) (all : Entries) (rest said : List Entry) : Type 0 where
  pub back : Entries
  pub rest_is : words_of back ≡ rest
  pub on : (now : List ℕ) (nodes : List NewNode) → entries_of nodes ≡ back → Filled nodes → AllMade mid now nodes → LevelMade b now all (said ++ words_of (uppers nodes))

pub goes_more : {b mid new : List ℕ} {all : Entries} {rest chunk left said : List Entry} {place : ℕ} → Goes b mid all rest said → rest ≡ chunk ++ left → length chunk ≡ min 64 (length rest) → 1 ≤ length rest → NodeMade mid new chunk place → Goes b new all left (said ++ naming place chunk ∷ [])
goes_more {b = b} {mid = mid} {new = new} {all = all} {rest = rest} {chunk = chunk} {left = left} {said = said} {place = place} goes parts size some made =
    let p = parted chunk left goes.back (goes.rest_is ∙ parts) in
    let count = sym (length_words p.front) ∙ ap length p.front_is in
    let one : 1 ≤ entry_count p.front = omega (arith, count, size) in
    let name = named place p.front one ∙ ap (naming place) p.front_is in
    record {
      back = p.back;
      rest_is = p.back_is;
      on = λ now nodes e f m.
          let all_of = ap length parts ∙ length-append chunk left in
          let left_of = ap length (sym p.back_is) ∙ length_words p.back ∙ ap entry_count (sym e) in
          subst (LevelMade b now all) (ap (λ (w : Entry). said ++ w ∷ words_of (uppers nodes)) name ∙ sym (append_assoc said (naming place chunk ∷ []) (words_of (uppers nodes))))
          (goes.on now (record { place = place; entries = p.front } ∷ nodes) (ap (with_both p.front) e ∙ p.whole) (one, omega (arith, count, size), (λ more. omega (arith, count, size, all_of, left_of, (raised nodes f).shortest)), f) (new, (subst (λ (ws : List Entry). NodeMade mid new ws place) (sym p.front_is) made, m)));
    }

pub goes_last : {b mid : List ℕ} {all : Entries} {rest said : List Entry} → Goes b mid all rest said → rest ≡ [] → LevelMade b mid all said
goes_last {b = b} {mid = mid} {all = all} {said = said} goes none = subst (LevelMade b mid all) (append-nil said) (goes.on mid [] (sym (no_entries goes.back (sym (length_words goes.back) ∙ ap length (goes.rest_is ∙ none)))) tt refl)

-- ---- a level over another

all_then : (b mid now : List ℕ) (nodes more : List NewNode) → AllMade b mid nodes → AllMade mid now more → AllMade b now (nodes ++ more)
all_then b mid now [] more m n = subst (λ (x : List ℕ). AllMade x now more) m n
all_then b mid now (new ∷ nodes) more m n = (m.0, (m.1.0, all_then m.0 mid now nodes more m.1.1 n))

pub all_longest : (b now : List ℕ) (nodes : List NewNode) → AllMade b now nodes → length now ≤ length b + 1052 * length nodes
all_longest b now [] m = omega (arith, ap length m)
all_longest b now (new ∷ nodes) m = omega (arith, m.1.0.longest, all_longest m.0 now nodes m.1.1)

-- levels over entries were made, whichever leaves these say
abbrev pub OverAll : List ℕ → List ℕ → List Entry → List Entry → Type 0
OverAll b now entries said = (leaves : List Leaf) → entries ≡ map leaf_words leaves → LevelsMade b now leaves said

pub levels_first : {b now : List ℕ} {entries said : List Entry} → ((below : Entries) → words_of below ≡ entries → LevelMade b now below said) → OverAll b now entries said
levels_first made leaves are = let m = made (entries_for leaves) (words_for leaves ∙ sym are) in record { level = m.nodes; more = []; are = (m.entries_are, m.filled); said_is = m.said_is; made = m.made }

count : {b mid : List ℕ} {leaves : List Leaf} {said : List Entry} (l : LevelsMade b mid leaves said) → length said ≡ length l.level
count {leaves = leaves} l = ap length (sym l.said_is) ∙ length_words (uppers l.level) ∙ (raised l.level (top_filled leaves l.level l.more l.are)).count

pub levels_more : {b mid now : List ℕ} {entries said tops : List Entry} → OverAll b mid entries said → 2 ≤ length said → ((below : Entries) → words_of below ≡ said → LevelMade mid now below tops) → OverAll b now entries tops
levels_more {b = b} {mid = mid} {now = now} old two made leaves are =
    let l = old leaves are in
    let m = made (uppers l.level) l.said_is in
    record { level = m.nodes; more = l.level ∷ l.more; are = (m.entries_are, m.filled, omega (arith, count l, two), l.are); said_is = m.said_is; made = all_then b mid now (from_below (l.level ∷ l.more)) m.nodes l.made m.made }

pub pyramid_last : {b mid : List ℕ} {entries said : List Entry} (other : Entry) (top : ℕ) → OverAll b mid entries said → length said ≡ 1 → top ≡ (get_or said 0 other).place → (leaves : List Leaf) → entries ≡ map leaf_words leaves → PyramidMade b mid leaves top
pyramid_last {b = b} {mid = mid} {said = said} other top old one is leaves are = let l = old leaves are in go l.more l.level l.are l.said_is l.made (sym (count l) ∙ one)
  where
    go : (more : List (List NewNode)) (level : List NewNode) → AreLevels leaves (level ∷ more) → words_of (uppers level) ≡ said → AllMade b mid (from_below (level ∷ more)) → length level ≡ 1 → PyramidMade b mid leaves top
    go more [] s e m n = absurd (omega arith)
    go more (root ∷ []) s e m n = record { root = root; more = more; are = s; place_is = is ∙ ap (λ (xs : List Entry). (get_or xs 0 other).place) (sym e); made = m }
    go more (root ∷ next ∷ others) s e m n = absurd (omega arith)

-- ---- room for the levels above so many nodes

abbrev pub HasLevels : ℕ → ℕ → ℕ → Type 0
HasLevels start n limit = (levels : ℕ) × ((n ≤ leaves_under levels) × (start + 1052 * nodes_left (suc levels) n ≤ limit))

pub room_first : (start n limit : ℕ) → 1 ≤ n → start + 1052 * nodes_above 8 n ≤ limit → start + 1052 * quotient_up n 64 ≤ limit
room_first start n limit some enough = omega (arith, above_is 7 n some)

pub room_next : (start n limit : ℕ) → HasLevels start n limit → 2 ≤ n → start + 1052 * quotient_up n 64 ≤ limit
room_next start n limit (levels, (small, enough)) two = omega (arith, left_more (suc levels) n two, above_is levels n (omega arith))

pub levels_left : (start now n limit many : ℕ) → many ≡ quotient_up n 64 → now ≤ start + 1052 * many → 1 ≤ n → n ≤ 2147483648 → start + 1052 * nodes_above 8 n ≤ limit → HasLevels now many limit
levels_left start now n limit many e l some few enough = (6, (omega arith, omega (arith, above_is 7 n some, ap (λ (k : ℕ). k + nodes_left 7 k) e)))

pub levels_next : (start now n limit many : ℕ) → many ≡ quotient_up n 64 → now ≤ start + 1052 * many → 2 ≤ n → HasLevels start n limit → HasLevels now many limit
levels_next start now n limit many e l two (zero, (small, enough)) = absurd (omega arith)
levels_next start now n limit many e l two (suc levels, (small, enough)) = (levels, (omega arith, omega (arith, left_more (suc (suc levels)) n two, above_is (suc levels) n (omega arith), ap (λ (k : ℕ). k + nodes_left (suc levels) k) e)))
