-- The index over leaves: nodes level by level, as a tree.
use Rattle.byteorder.specs.Endian.{big_bytes}
use Rattle.byteorder.specs.Numbers.{length-bytes_high_first}
use Rattle.std.proofs.Common.{Bool, List, [], ap, append-nil, append_assoc, ap₂, arith, drop, false, inl, inr, length, lit<, map, refl, subst, suc, sym, true, zero, ℕ, ◌*◌, ◌++◌, ◌+◌, ◌-◌, ◌/◌, ◌<◌, ◌^◌, ◌∙◌, ◌∷◌, ◌≡◌, ◌≤◌}
use Rattle.std.proofs.Math.Seq.{drop-append_seam}
use Rattle.std.proofs.lemmas.Bool.{and_from, ltb-false, ltb-true}
use Rattle.std.proofs.lemmas.List.{drop-drop, length-append, length-map}
use Rattle.std.specs.Int.{cast_signed, w32}
use Rattle.std.specs.List.{flat_map}
use Rattle.std.specs.Prelude.{if◌then◌else◌, min, nat_le, nat_lt}
use Rattle.cdf_model.specs.Limits.{signed_limit}
use Rattle.cdf_format.proofs.Members.{In-append_left, In-append_right, either}
use Rattle.cdf_format.proofs.Tests.{of_le}
use Rattle.cdf_format.specs.Chains.{next_of}
use Rattle.cdf_format.specs.Fields.{counted, number, size_at}
unfoldable use Rattle.cdf_format.specs.Index.{leaves_of, entry_leaves, nodes_of, lower_nodes}
use Rattle.cdf_format.specs.Index.{Nodes, no_node, node, Entries, no_entry, block, lower, Leaf, entry_count, link_to, room_at, used_count}
unfoldable use Rattle.cdf_format.specs.IndexOf.{HasNodes, Names}
use Rattle.cdf_format.specs.IndexOf.{SayEntries, SaysEntry, SaysNode}
use Rattle.cdf_format.specs.IndexRules.{has_room}
use Rattle.cdf_format.specs.Owners.{times}
use Rattle.cdf_format.specs.Records.{Field, record_type, vxr_n_entries, vxr_n_used_entries, vxr_vxr_next}
use Rattle.cdf_format.specs.RecordTypes.{vxr_type}
use Rattle.cdf_format.specs.Shape.{Each}
use Rattle.cdf_format.specs.Tiles.{In}
use Rattle.cdf_edits.proofs.Frame.OwnersApart.{times-append}
use Rattle.cdf_edits.proofs.Space.LaidOut.{IsType, says_laid_out, typed_body}
use Rattle.cdf_edits.specs.Space.Placing.{IsBody, laid_out, type_of_body}
unfoldable use Rattle.cdf_writer.specs.Bodies.{vxr_body}
use Rattle.cdf_writer.specs.Bodies.{whole_record}
use Rattle.cdf_writer.specs.Groups.{fits_in, grouped, grouped_on}
use Rattle.cdf_writer.specs.Laying.{first_in, index_bodies, index_root, laid, laid_size, last_in, link_if, naming, node_bodies, nodes_over, uppers}
use Rattle.cdf_writer.proofs.Assembled.{fit_all}
use Rattle.cdf_writer.proofs.FilePart.{small_signed}
use Rattle.cdf_writer.proofs.GroupLemmas.{joined, joined_back}
unfoldable use Rattle.cdf_writer.proofs.Ordered.{AreInOrder, InOrder}
use Rattle.cdf_writer.proofs.Stands.{IsRecord, Standing, Stands, linkable_at, number_there, part_stands, places, places-append, size-append, standing, stands_parts}
use Rattle.cdf_writer.specs.declared.bodies.NodeEntry.{NodeEntry}

-- ---- entries of nodes, each for a leaf or for a lower node

pub data Item : Type 0 where
  leaf_item : Leaf → Item
  node_item : ℕ → ℕ → Nodes → Item

abbrev pub tree : List Item → Entries
tree [] = no_entry
tree (leaf_item l ∷ more) = block l.first l.last l.place l.packed (tree more)
tree (node_item first last nodes ∷ more) = lower first last nodes (tree more)

abbrev pub said : Item → NodeEntry
said (leaf_item l) = record { first = l.first; last = l.last; place = l.place }
said (node_item first last nodes) = record { first = first; last = last; place = link_to nodes }

abbrev pub node_at : ℕ → List Item → Nodes
node_at place items = node place (length items) (tree items) no_node

abbrev pub body_of : List Item → List ℕ
body_of items = vxr_body (map said items)

abbrev pub past_node : ℕ → List Item → ℕ
past_node place items = place + length (whole_record (body_of items))

abbrev pub over : ℕ → List (List Item) → List Item
over place [] = []
over place (g ∷ more) = node_item (first_in (map said g)) (last_in (map said g)) (node_at place g) ∷ over (past_node place g) more

abbrev pub in_nodes : List Item → List (List Item)
in_nodes items = grouped (fits_in 64) items

abbrev pub bodies_of : List (List Item) → List (List ℕ)
bodies_of groups = map body_of groups

abbrev pub index_tree : ℕ → ℕ → List Item → Nodes
index_tree zero place items = no_node
index_tree (suc most) place [] = no_node
index_tree (suc most) place (i ∷ items) =
    if nat_lt 1 (length (in_nodes (i ∷ items)))
    then index_tree most (place + laid_size (bodies_of (in_nodes (i ∷ items)))) (over place (in_nodes (i ∷ items)))
    else node_at place (i ∷ items)

-- ---- what is said is grouped as what says it

said_on : (group items : List Item) → map (map said) (grouped_on (fits_in 64) group items) ≡ grouped_on (fits_in 64) (map said group) (map said items)
said_on group [] = refl
said_on group (i ∷ items) =
    let same : fits_in 64 (map said group) (said i) ≡ fits_in 64 group i = ap (λ (n : ℕ). nat_lt n 64) (length-map group said) in
    elim (either (fits_in 64 group i)) [
      | inl e ↦ rw (same, e) (said_on (group ++ i ∷ []) items ∙ ap (λ (g : List NodeEntry). grouped_on (fits_in 64) g (map said items)) (pushed group i))
      | inr e ↦ rw (same, e) (ap (λ (l : List (List NodeEntry)). map said group ∷ l) (said_on (i ∷ []) items))
    ]
  where
    pushed : (group : List Item) (i : Item) → map said (group ++ i ∷ []) ≡ map said group ++ said i ∷ []
    pushed [] i = refl
    pushed (x ∷ group) i = ap (λ (l : List NodeEntry). said x ∷ l) (pushed group i)

pub nodes_said : (items : List Item) → map (map said) (in_nodes items) ≡ nodes_over (map said items)
nodes_said [] = refl
nodes_said (i ∷ items) = said_on (i ∷ []) items

bodies_map : (groups : List (List Item)) → map vxr_body (map (map said) groups) ≡ bodies_of groups
bodies_map [] = refl
bodies_map (g ∷ groups) = ap (λ (l : List (List ℕ)). body_of g ∷ l) (bodies_map groups)

pub bodies_said : (items : List Item) → node_bodies (map said items) ≡ bodies_of (in_nodes items)
bodies_said items = ap (map vxr_body) (sym (nodes_said items)) ∙ bodies_map (in_nodes items)

naming_said : (place : ℕ) (groups : List (List Item)) → map said (over place groups) ≡ naming place (map (map said) groups)
naming_said place [] = refl
naming_said place (g ∷ groups) = ap (λ (l : List NodeEntry). record { first = first_in (map said g); last = last_in (map said g); place = place } ∷ l) (naming_said (past_node place g) groups)

pub uppers_said : (place : ℕ) (items : List Item) → uppers place (map said items) ≡ map said (over place (in_nodes items))
uppers_said place items = ap (naming place) (sym (nodes_said items)) ∙ sym (naming_said place (in_nodes items))

count_said : (items : List Item) → length (nodes_over (map said items)) ≡ length (in_nodes items)
count_said items = ap length (sym (nodes_said items)) ∙ length-map (in_nodes items) (map said)

-- ---- how many groups, and how long

abbrev pub Sized : List Item → Type 0
Sized g = (1 ≤ length g) × (length g ≤ 64)

sized_on : (group items : List Item) → Sized group → Each Sized (grouped_on (fits_in 64) group items) × (64 * length (grouped_on (fits_in 64) group items) ≤ length group + length items + 63)
sized_on group [] s = let a = s.0 in ((s, tt), omega arith)
sized_on group (i ∷ items) s = elim (either (fits_in 64 group i)) [
  | inl e ↦
      let room = ltb-true (length group) 64 e in
      let push = length-append group (i ∷ []) in
      let r = sized_on (group ++ i ∷ []) items (omega arith, omega arith) in
      let n = r.1 in
      rw e (r.0, omega arith)
  | inr e ↦
      let full = ltb-false (length group) 64 e in
      let r = sized_on (i ∷ []) items (omega arith, omega arith) in
      let n = r.1 in
      let s1 = s.1 in
      rw e ((s, r.0), omega arith)
]

pub nodes_sized : (items : List Item) → Each Sized (in_nodes items) × (64 * length (in_nodes items) ≤ length items + 63)
nodes_sized [] = (tt, omega arith)
nodes_sized (i ∷ items) = let r = sized_on (i ∷ []) items (omega arith, omega arith) in let n = r.1 in (r.0, omega arith)

-- so many levels reach over so many leaves
abbrev pub reach : ℕ → ℕ
reach zero = 0
reach (suc zero) = 64
reach (suc (suc most)) = 64 * reach (suc most)

one_group : (gs : List (List Item)) (i : Item) (items : List Item) → joined gs ≡ i ∷ items → nat_lt 1 (length gs) ≡ false → gs ≡ (i ∷ items) ∷ []
one_group [] i items e n = absurd cc
one_group (g ∷ []) i items e n = ap (λ (x : List Item). x ∷ []) (sym (append-nil g) ∙ e)
one_group (g ∷ h ∷ gs) i items e n = let l = ltb-false 1 (length (g ∷ h ∷ gs)) n in absurd (omega arith)

-- ---- two lists of items

entries_split : (xs ys : List Item) → (entry_leaves (tree (xs ++ ys)) ≡ entry_leaves (tree xs) ++ entry_leaves (tree ys)) × (lower_nodes (tree (xs ++ ys)) ≡ lower_nodes (tree xs) ++ lower_nodes (tree ys))
unfolding entry_leaves lower_nodes
entries_split [] ys = (refl, refl)
entries_split (leaf_item l ∷ xs) ys = let r = entries_split xs ys in (ap (λ (ls : List Leaf). record { first = l.first; last = l.last; place = l.place; packed = l.packed } ∷ ls) r.0, r.1)
entries_split (node_item f l ns ∷ xs) ys =
    let r = entries_split xs ys in (
      ap (λ (ls : List Leaf). leaves_of ns ++ ls) r.0 ∙ sym (append_assoc (leaves_of ns) (entry_leaves (tree xs)) (entry_leaves (tree ys))),
      ap (λ (ls : List ℕ). nodes_of ns ++ ls) r.1 ∙ sym (append_assoc (nodes_of ns) (lower_nodes (tree xs)) (lower_nodes (tree ys))),
    )

names_split : (b rs : List ℕ) (deep : ℕ) (xs ys : List Item) → Names b rs deep (tree (xs ++ ys)) → Names b rs deep (tree xs) × Names b rs deep (tree ys)
unfolding Names
names_split b rs deep [] ys n = (tt, n)
names_split b rs deep (leaf_item l ∷ xs) ys n = let r = names_split b rs deep xs ys n.2 in ((n.0, n.1, r.0), r.1)
names_split b rs deep (node_item f l ns ∷ xs) ys n = let r = names_split b rs deep xs ys n.2 in ((n.0, n.1, r.0), r.1)

lower_by : (low low' high : ℕ) (items : List Item) → low' ≤ low → AreInOrder low high (tree items) → AreInOrder low' high (tree items)
unfolding AreInOrder
lower_by low low' high [] le o = tt
lower_by low low' high (leaf_item l ∷ items) le o = let a = o.0 in (omega arith, o.1, o.2, o.3)
lower_by low low' high (node_item f l ns ∷ items) le o = let a = o.0 in (omega arith, o.1, o.2, o.3, o.4)

-- a front part goes from its first record to its last
pub record Fronts (low high : ℕ) (g rest : List Item) : Type 0 where
  pub from : low ≤ first_in (map said g)
  pub ordered : first_in (map said g) ≤ last_in (map said g)
  pub upto : last_in (map said g) ≤ high
  pub within : AreInOrder (first_in (map said g)) (last_in (map said g)) (tree g)
  pub behind : AreInOrder (suc (last_in (map said g))) high (tree rest)

fronts : (low high : ℕ) (i : Item) (g rest : List Item) → AreInOrder low high (tree ((i ∷ g) ++ rest)) → Fronts low high (i ∷ g) rest
unfolding AreInOrder
fronts low high (leaf_item l) [] rest o = record { from = o.0; ordered = o.1; upto = o.2; within = (omega arith, o.1, omega arith, tt); behind = o.3 }
fronts low high (node_item f l ns) [] rest o = record { from = o.0; ordered = o.1; upto = o.2; within = (omega arith, o.1, omega arith, o.3, tt); behind = o.4 }
fronts low high (leaf_item l) (j ∷ g) rest o =
    let r = fronts (suc l.last) high j g rest o.3 in
    let a = o.1 in
    let c = r.from in
    let d = r.ordered in
    record { from = o.0; ordered = omega arith; upto = r.upto; within = (omega arith, o.1, omega arith, lower_by (first_in (map said (j ∷ g))) (suc l.last) (last_in (map said (j ∷ g))) (j ∷ g) c r.within); behind = r.behind }
fronts low high (node_item f l ns) (j ∷ g) rest o =
    let r = fronts (suc l) high j g rest o.4 in
    let a = o.1 in
    let c = r.from in
    let d = r.ordered in
    record { from = o.0; ordered = omega arith; upto = r.upto; within = (omega arith, o.1, omega arith, o.3, lower_by (first_in (map said (j ∷ g))) (suc l) (last_in (map said (j ∷ g))) (j ∷ g) c r.within); behind = r.behind }

over_order : (low high place : ℕ) (groups : List (List Item)) → Each Sized groups → AreInOrder low high (tree (joined groups)) → AreInOrder low high (tree (over place groups))
unfolding AreInOrder InOrder
over_order low high place [] s o = tt
over_order low high place ([] ∷ groups) s o = let a = s.0.0 in absurd (omega arith)
over_order low high place ((i ∷ g) ∷ groups) s o =
    let f = fronts low high i g (joined groups) o in
    (f.from, f.ordered, f.upto, (f.within, tt), over_order (suc (last_in (map said (i ∷ g)))) high (past_node place (i ∷ g)) groups s.1 f.behind)

over_counts : (m place : ℕ) (groups : List (List Item)) → times m (lower_nodes (tree (over place groups))) ≡ times m (places place (bodies_of groups)) + times m (lower_nodes (tree (joined groups)))
unfolding lower_nodes nodes_of
over_counts m place [] = refl
over_counts m place (g ∷ groups) =
    let r = over_counts m (past_node place g) groups in
    let own = lower_nodes (tree g) in
    let rest = lower_nodes (tree (over (past_node place g) groups)) in
    let split : times m (lower_nodes (tree (g ++ joined groups))) ≡ times m own + times m (lower_nodes (tree (joined groups))) = ap (times m) (entries_split g (joined groups)).1 ∙ times-append m own (lower_nodes (tree (joined groups))) in
    let here : times m ((place ∷ (own ++ [])) ++ rest) ≡ times m (place ∷ []) + times m own + times m rest =
    times-append m (place ∷ (own ++ [])) rest ∙ ap (λ (n : ℕ). n + times m rest) (times-append m (place ∷ []) (own ++ []) ∙ ap (λ (l : List ℕ). times m (place ∷ []) + times m l) (append-nil own)) in
    let there : times m (place ∷ places (past_node place g) (bodies_of groups)) ≡ times m (place ∷ []) + times m (places (past_node place g) (bodies_of groups)) = times-append m (place ∷ []) (places (past_node place g) (bodies_of groups)) in
    omega (arith, here, there, split, r)

over_leaves : (place : ℕ) (groups : List (List Item)) → entry_leaves (tree (over place groups)) ≡ entry_leaves (tree (joined groups))
unfolding entry_leaves leaves_of
over_leaves place [] = refl
over_leaves place (g ∷ groups) =
    ap₂ (λ (xs ys : List Leaf). xs ++ ys) (append-nil (entry_leaves (tree g))) (over_leaves (past_node place g) groups) ∙ sym (entries_split g (joined groups)).0

-- ---- a node that stands

pub record ItemFits (i : Item) : Type 0 where
  pub first_fits : (said i).first < 256 ^ 4
  pub last_fits : (said i).last < 256 ^ 4
  pub place_fits : (said i).place < 256 ^ 8

abbrev firsts_of : List Item → List ℕ
firsts_of g = flat_map (λ (entry : NodeEntry). big_bytes 4 entry.first) (map said g)

abbrev lasts_of : List Item → List ℕ
lasts_of g = flat_map (λ (entry : NodeEntry). big_bytes 4 entry.last) (map said g)

abbrev links_of : List Item → List ℕ
links_of g = flat_map (λ (entry : NodeEntry). big_bytes 8 entry.place) (map said g)

firsts_size : (g : List Item) → length (firsts_of g) ≡ 4 * length g
firsts_size [] = refl
firsts_size (i ∷ g) = omega (arith, length-append (big_bytes 4 (said i).first) (firsts_of g), length-bytes_high_first 4 (said i).first, firsts_size g)

lasts_size : (g : List Item) → length (lasts_of g) ≡ 4 * length g
lasts_size [] = refl
lasts_size (i ∷ g) = omega (arith, length-append (big_bytes 4 (said i).last) (lasts_of g), length-bytes_high_first 4 (said i).last, lasts_size g)

links_size : (g : List Item) → length (links_of g) ≡ 8 * length g
links_size [] = refl
links_size (i ∷ g) = omega (arith, length-append (big_bytes 8 (said i).place) (links_of g), length-bytes_high_first 8 (said i).place, links_size g)

next_there : (b : List ℕ) (p width n : ℕ) (rest : List ℕ) → drop p b ≡ big_bytes width n ++ rest → drop (p + width) b ≡ rest
next_there b p width n rest e =
    let xs = big_bytes width n in
    sym (drop-drop width p b) ∙ ap (drop width) e ∙ ap (λ (k : ℕ). drop k (xs ++ rest)) (sym (length-bytes_high_first width n)) ∙ drop-append_seam xs rest

count_tree : (g : List Item) → entry_count (tree g) ≡ length g
count_tree [] = refl
count_tree (leaf_item l ∷ g) = ap suc (count_tree g)
count_tree (node_item f l ns ∷ g) = ap suc (count_tree g)

say : (b : List ℕ) (place n i : ℕ) (g : List Item) (r s t : List ℕ) → room_at b place ≡ n → Each ItemFits g
    → drop (place + (28 + 4 * i)) b ≡ firsts_of g ++ r → drop (place + (28 + 4 * n + 4 * i)) b ≡ lasts_of g ++ s → drop (place + (28 + 8 * n + 8 * i)) b ≡ links_of g ++ t
    → SayEntries b place i (tree g)
say b place n i [] r s t room f x y z = tt
say b place n i (item ∷ g) r s t room f x y z =
    let first = (said item).first in
    let last = (said item).last in
    let link = (said item).place in
    let x1 : drop (place + (28 + 4 * i)) b ≡ big_bytes 4 first ++ (firsts_of g ++ r) = x ∙ append_assoc (big_bytes 4 first) (firsts_of g) r in
    let y1 : drop (place + (28 + 4 * n + 4 * i)) b ≡ big_bytes 4 last ++ (lasts_of g ++ s) = y ∙ append_assoc (big_bytes 4 last) (lasts_of g) s in
    let z1 : drop (place + (28 + 8 * n + 8 * i)) b ≡ big_bytes 8 link ++ (links_of g ++ t) = z ∙ append_assoc (big_bytes 8 link) (links_of g) t in
    let p : place + (28 + 4 * i) + 4 ≡ place + (28 + 4 * suc i) = omega arith in
    let q : place + (28 + 4 * n + 4 * i) + 4 ≡ place + (28 + 4 * n + 4 * suc i) = omega arith in
    let w : place + (28 + 8 * n + 8 * i) + 8 ≡ place + (28 + 8 * n + 8 * suc i) = omega arith in
    let here : SaysEntry b place i first last link = record {
      first_is = number_there b (place + (28 + 4 * i)) 4 first (firsts_of g ++ r) x1 f.0.first_fits;
      last_is = ap (λ (k : ℕ). number b place (record { place = 28 + 4 * k + 4 * i; width = 4 })) room ∙ number_there b (place + (28 + 4 * n + 4 * i)) 4 last (lasts_of g ++ s) y1 f.0.last_fits;
      offset_is = ap (λ (k : ℕ). number b place (record { place = 28 + 8 * k + 8 * i; width = 8 })) room ∙ number_there b (place + (28 + 8 * n + 8 * i)) 8 link (links_of g ++ t) z1 f.0.place_fits;
    } in
    by item here
    (say b place n (suc i) g r s t room f.1
    (ap (λ (k : ℕ). drop k b) (sym p) ∙ next_there b (place + (28 + 4 * i)) 4 first (firsts_of g ++ r) x1)
    (ap (λ (k : ℕ). drop k b) (sym q) ∙ next_there b (place + (28 + 4 * n + 4 * i)) 4 last (lasts_of g ++ s) y1)
    (ap (λ (k : ℕ). drop k b) (sym w) ∙ next_there b (place + (28 + 8 * n + 8 * i)) 8 link (links_of g ++ t) z1))
  where
    by : (item : Item) → SaysEntry b place i (said item).first (said item).last (said item).place → SayEntries b place (suc i) (tree g) → SayEntries b place i (tree (item ∷ g))
    by (leaf_item l) h m = (h, m)
    by (node_item fi la ns) h m = (h, m)

abbrev vxr_said : ℕ → List (Field × ℕ)
vxr_said n = (record_type, vxr_type) ∷ (vxr_vxr_next, 0) ∷ (vxr_n_entries, n) ∷ (vxr_n_used_entries, n) ∷ []

vxr_is_type : IsType vxr_type 28
vxr_is_type = record { small = lit< tt; real = refl; in_use = λ e. cc; fixed = omega arith; enough = omega arith }

node_size : (g : List Item) → 8 + length (body_of g) ≡ 28 + 16 * length g
unfolding vxr_body
node_size g =
    let front = laid_out (vxr_said (length (map said g))) in
    let a = length-append (front ++ firsts_of g ++ lasts_of g) (links_of g) in
    let b = length-append (front ++ firsts_of g) (lasts_of g) in
    let c = length-append front (firsts_of g) in
    omega (arith, a, b, c, firsts_size g, lasts_size g, links_size g)

pub node_made : (g : List Item) → (type_of_body (body_of g) ≡ vxr_type) × IsBody (body_of g)
unfolding vxr_body
node_made g =
    let n = length (map said g) in
    let front = laid_out (vxr_said n) in
    let is : body_of g ≡ front ++ (firsts_of g ++ (lasts_of g ++ links_of g)) =
    append_assoc (front ++ firsts_of g) (lasts_of g) (links_of g) ∙ append_assoc front (firsts_of g) (lasts_of g ++ links_of g) in
    typed_body {type = vxr_type} {least = 28} ((vxr_vxr_next, 0) ∷ (vxr_n_entries, n) ∷ (vxr_n_used_entries, n) ∷ []) (firsts_of g ++ (lasts_of g ++ links_of g)) (body_of g) vxr_is_type is (let l = node_size g in omega arith)

pub record NodeReads (b : List ℕ) (place : ℕ) (g : List Item) : Type 0 where
  pub next_is : next_of b place ≡ 0
  pub room_is : room_at b place ≡ length g
  pub said_used : number b place vxr_n_used_entries ≡ length g
  pub used_is : used_count b place ≡ length g
  pub say_all : SayEntries b place 0 (tree g)
  pub size_is : size_at b place ≡ 28 + 16 * length g

node_reads : (b : List ℕ) (place : ℕ) (g : List Item) → length g ≤ 64 → Each ItemFits g → Standing b place (body_of g) → NodeReads b place g
unfolding vxr_body
node_reads b place g few f s =
    let n = length (map said g) in
    let same : n ≡ length g = length-map g said in
    let front = laid_out (vxr_said n) in
    let rest = s.behind.rest in
    let there : drop (place + 8) b ≡ front ++ (firsts_of g ++ (lasts_of g ++ (links_of g ++ rest))) =
    s.behind.there ∙ append_assoc (front ++ firsts_of g ++ lasts_of g) (links_of g) rest ∙ append_assoc (front ++ firsts_of g) (lasts_of g) (links_of g ++ rest) ∙ append_assoc front (firsts_of g) (lasts_of g ++ (links_of g ++ rest)) in
    let w = says_laid_out b place 8 (vxr_said n) (firsts_of g ++ (lasts_of g ++ (links_of g ++ rest))) there refl (lit< tt, (lit< tt, (few_fit n (omega arith), (few_fit n (omega arith), tt)))) in
    let (type_is, (next_is, (room_is, (used_is, end)))) = w.0 in
    let room : room_at b place ≡ length g = room_is ∙ same in
    let size : size_at b place ≡ 28 + 16 * length g = s.size_is ∙ node_size g in
    let move : (p : ℕ) (xs ys : List ℕ) (k q : ℕ) → drop p b ≡ xs ++ ys → length xs ≡ k → p + k ≡ q → drop q b ≡ ys =
    λ p xs ys k q e l m. ap (λ (j : ℕ). drop j b) (sym m ∙ ap (λ (j : ℕ). p + j) (sym l)) ∙ sym (drop-drop (length xs) p b) ∙ ap (drop (length xs)) e ∙ drop-append_seam xs ys in
    let x : drop (place + (28 + 4 * 0)) b ≡ firsts_of g ++ (lasts_of g ++ (links_of g ++ rest)) = (let start : place + (28 + 4 * 0) ≡ place + 28 = omega arith in ap (λ (k : ℕ). drop k b) start ∙ w.1) in
    let y : drop (place + (28 + 4 * length g + 4 * 0)) b ≡ lasts_of g ++ (links_of g ++ rest) = move (place + 28) (firsts_of g) (lasts_of g ++ (links_of g ++ rest)) (4 * length g) (place + (28 + 4 * length g + 4 * 0)) w.1 (firsts_size g) (omega arith) in
    let z : drop (place + (28 + 8 * length g + 8 * 0)) b ≡ links_of g ++ rest = move (place + (28 + 4 * length g + 4 * 0)) (lasts_of g) (links_of g ++ rest) (4 * length g) (place + (28 + 8 * length g + 8 * 0)) y (lasts_size g) (omega arith) in
    let count : used_count b place ≡ length g = (λ i. min (counted_as vxr_n_used_entries used_is i) (min (counted_as vxr_n_entries room_is i) ((size i - 28) / 16))) ∙ least (length g) few in
    record {
      next_is = next_is;
      room_is = room;
      said_used = used_is ∙ same;
      used_is = count;
      say_all = say b place (length g) 0 g (lasts_of g ++ (links_of g ++ rest)) (links_of g ++ rest) rest room f x y z;
      size_is = size;
    }
  where
    few_fit : (k : ℕ) → k ≤ 64 → k < 256 ^ 4
    few_fit k le = omega arith

    small : (k : ℕ) → k ≤ 64 → k ≤ 2147483647
    small k le = omega arith

    counted_as : (f : Field) → number b place f ≡ length (map said g) → counted (cast_signed w32 (number b place f)) ≡ length g
    counted_as f e = ap (λ (k : ℕ). counted (cast_signed w32 k)) (e ∙ length-map g said) ∙ small_signed (length g) (small (length g) few)

    least : (k : ℕ) → k ≤ 64 → min k (min k ((28 + 16 * k - 28) / 16)) ≡ k
    least k le = omega arith

pub node_room : (b : List ℕ) (place : ℕ) (g : List Item) → length g ≤ 64 → NodeReads b place g → has_room b place ≡ true
node_room b place g few r =
    let n = length g in
    let used : nat_le (number b place vxr_n_used_entries) (room_at b place) ≡ true = rw (r.said_used, r.room_is) (of_le n n (omega arith)) in
    let wide : nat_le (room_at b place) signed_limit ≡ true = rw r.room_is (of_le n signed_limit (omega arith)) in
    let fits : nat_le (28 + 16 * room_at b place) (size_at b place) ≡ true = rw (r.room_is, r.size_is) (of_le (28 + 16 * n) (28 + 16 * n) (omega arith)) in
    and_from _ _ (and_from _ _ used wide) fits

-- ---- the whole index

fits_first : (g : List Item) → Each ItemFits g → first_in (map said g) < 256 ^ 4
fits_first [] f = lit< tt
fits_first (i ∷ g) f = f.0.first_fits

fits_last : (g : List Item) → Each ItemFits g → last_in (map said g) < 256 ^ 4
fits_last [] f = lit< tt
fits_last (i ∷ []) f = f.0.last_fits
fits_last (i ∷ j ∷ g) f = fits_last (j ∷ g) f.1

fits_split : (xs ys : List Item) → Each ItemFits (xs ++ ys) → Each ItemFits xs × Each ItemFits ys
fits_split [] ys f = (tt, f)
fits_split (x ∷ xs) ys f = let r = fits_split xs ys f.1 in ((f.0, r.0), r.1)

made_all : (groups : List (List Item)) → Each IsBody (bodies_of groups)
made_all [] = tt
made_all (g ∷ groups) = ((node_made g).1, made_all groups)

-- a node of any entries is a record
pub ranged_made : (g : List NodeEntry) → IsBody (vxr_body g)
unfolding vxr_body
ranged_made g =
    let n = length g in
    let front = laid_out (vxr_said n) in
    let fs = flat_map (λ (entry : NodeEntry). big_bytes 4 entry.first) g in
    let ls = flat_map (λ (entry : NodeEntry). big_bytes 4 entry.last) g in
    let os = flat_map (λ (entry : NodeEntry). big_bytes 8 entry.place) g in
    let is : vxr_body g ≡ front ++ (fs ++ (ls ++ os)) = append_assoc (front ++ fs) ls os ∙ append_assoc front fs (ls ++ os) in
    let long = length-append front (fs ++ (ls ++ os)) in
    let all = ap length is in
    (typed_body {type = vxr_type} {least = 28} ((vxr_vxr_next, 0) ∷ (vxr_n_entries, n) ∷ (vxr_n_used_entries, n) ∷ []) (fs ++ (ls ++ os)) (vxr_body g) vxr_is_type is (omega arith)).1

-- the highest node stands among them
pub root_within : (most place : ℕ) (es : List NodeEntry) → place + laid_size (index_bodies most place es) < 256 ^ 8 → index_root most place es < 256 ^ 8
root_within zero place es lt = lit< tt
root_within (suc most) place es lt = by (nat_lt 1 (length (nodes_over es))) lt (root_within most (place + laid_size (node_bodies es)) (uppers place es))
  where
    linked : (p : ℕ) (es : List NodeEntry) → p < 256 ^ 8 → link_if p es < 256 ^ 8
    linked p [] l = lit< tt
    linked p (e ∷ es) l = l

    by : (q : Bool) → place + laid_size (if q then node_bodies es ++ index_bodies most (place + laid_size (node_bodies es)) (uppers place es) else node_bodies es) < 256 ^ 8
        → (place + laid_size (node_bodies es) + laid_size (index_bodies most (place + laid_size (node_bodies es)) (uppers place es)) < 256 ^ 8 → index_root most (place + laid_size (node_bodies es)) (uppers place es) < 256 ^ 8) → (if q then index_root most (place + laid_size (node_bodies es)) (uppers place es) else link_if place es) < 256 ^ 8
    by true l up = let s = size-append (node_bodies es) (index_bodies most (place + laid_size (node_bodies es)) (uppers place es)) in up (omega arith)
    by false l up = linked place es (omega arith)

module _ (b rs : List ℕ) where
  abbrev HasRoom : ℕ → Type 0
  HasRoom m = has_room b m ≡ true

  rooms_both : (xs ys : List ℕ) → Each HasRoom xs → Each HasRoom ys → Each HasRoom (xs ++ ys)
  rooms_both [] ys x y = y
  rooms_both (m ∷ xs) ys x y = (x.0, rooms_both xs ys x.1 y)

  rooms_split : (xs ys : List ℕ) → Each HasRoom (xs ++ ys) → Each HasRoom xs × Each HasRoom ys
  rooms_split [] ys x = (tt, x)
  rooms_split (m ∷ xs) ys x = let r = rooms_split xs ys x.1 in ((x.0, r.0), r.1)

  -- entries that are named right on each level from one on
  abbrev pub NamedFrom : ℕ → List Item → Type 0
  NamedFrom d items = (deep : ℕ) → d ≤ deep → Names b rs deep (tree items)

  -- one level: its nodes stand
  pub record LevelStands (d place : ℕ) (groups : List (List Item)) : Type 0 where
    pub names : NamedFrom (suc d) (over place groups)
    pub rooms : Each HasRoom (lower_nodes (tree (over place groups)))
    pub fits : Each ItemFits (over place groups)

  module _ (sub_all : (m : ℕ) → In m rs → In m rs) where
    level : (d place : ℕ) (groups : List (List Item)) → Each Sized groups → Each ItemFits (joined groups) → NamedFrom d (joined groups) → Each HasRoom (lower_nodes (tree (joined groups))) → Each IsRecord (bodies_of groups) → place + laid_size (bodies_of groups) < 256 ^ 8
        → Stands b place (laid (bodies_of groups)) → ((m : ℕ) → In m (places place (bodies_of groups)) → In m rs) → LevelStands d place groups
    unfolding Names HasNodes lower_nodes nodes_of
    level d place [] s f n r are lt st sub = record { names = λ deep le. tt; rooms = tt; fits = tt }
    level d place (g ∷ groups) s f n r are lt st sub =
        let parts = stands_parts (whole_record (body_of g)) (laid (bodies_of groups)) st in
        let here = standing (body_of g) are.0 parts.0 in
        let split = fits_split g (joined groups) f in
        let nodes = rooms_split (lower_nodes (tree g)) (lower_nodes (tree (joined groups))) (subst (Each HasRoom) (entries_split g (joined groups)).1 r) in
        let size = size_one (body_of g) (bodies_of groups) in
        let reads = node_reads b place g s.0.1 split.0 here in
        let next = level d (past_node place g) groups s.1 split.1 (λ deep le. (names_split b rs deep g (joined groups) (n deep le)).1) nodes.1 are.1 (omega arith) parts.1 (λ m i. sub m (inr i)) in
        let linkable = linkable_at rs vxr_type here (sub place (inl refl)) (node_made g).0 in
        let says : SaysNode b rs place (length g) (tree g) no_node = record { linkable = linkable; next_is = reads.next_is; room_is = reads.room_is; used_is = reads.used_is ∙ sym (count_tree g); say_entries = reads.say_all } in
        record {
          names = λ deep le. by deep le says (λ k l. (names_split b rs k g (joined groups) (n k l)).0) (next.names deep le);
          rooms = rooms_both (place ∷ (lower_nodes (tree g) ++ [])) (lower_nodes (tree (over (past_node place g) groups))) (node_room b place g s.0.1 reads, subst (Each HasRoom) (sym (append-nil (lower_nodes (tree g)))) nodes.0) next.rooms;
          fits = (record { first_fits = fits_first g split.0; last_fits = fits_last g split.0; place_fits = omega arith }, next.fits);
        }
      where
        size_one : (x : List ℕ) (xs : List (List ℕ)) → laid_size (x ∷ xs) ≡ length (whole_record x) + laid_size xs
        size_one x xs = length-append (whole_record x) (laid xs)

        by : (deep : ℕ) → suc d ≤ deep → SaysNode b rs place (length g) (tree g) no_node → ((k : ℕ) → d ≤ k → Names b rs k (tree g)) → Names b rs deep (tree (over (past_node place g) groups)) → Names b rs deep (tree (over place (g ∷ groups)))
        by zero le says own rest = absurd (omega arith)
        by (suc k) le says own rest = (tt, (says, own k (omega arith), tt), rest)

    -- an index over these entries
    pub record Indexed (deep place : ℕ) (items : List Item) (t : Nodes) (bs : List (List ℕ)) (root : ℕ) : Type 0 where
      pub has : (k : ℕ) → deep ≤ k → HasNodes b rs k t
      pub leaves_are : leaves_of t ≡ entry_leaves (tree items)
      pub order : (low high : ℕ) → AreInOrder low high (tree items) → InOrder low high t
      pub rooms : Each HasRoom (nodes_of t)
      pub counts : (m : ℕ) → times m (nodes_of t) ≡ times m (places place bs) + times m (lower_nodes (tree items))
      pub link : link_to t ≡ root

    nothing : (deep place : ℕ) → Indexed deep place [] no_node [] 0
    unfolding HasNodes leaves_of entry_leaves InOrder AreInOrder nodes_of lower_nodes
    nothing deep place = record { has = λ k le. none k; leaves_are = refl; order = λ low high o. tt; rooms = tt; counts = λ m. refl; link = refl }
      where
        none : (k : ℕ) → HasNodes b rs k no_node
        none zero = tt
        none (suc k) = tt

    length-over : (place : ℕ) (groups : List (List Item)) → length (over place groups) ≡ length groups
    length-over place [] = refl
    length-over place (g ∷ groups) = ap suc (length-over (past_node place g) groups)

    top_index : (d place : ℕ) (i : Item) (items : List Item) (stands : LevelStands d place ((i ∷ items) ∷ [])) → Indexed (suc d) place (i ∷ items) (node_at place (i ∷ items)) (body_of (i ∷ items) ∷ []) place
    unfolding HasNodes Names leaves_of InOrder nodes_of lower_nodes
    top_index d place i items stands = record {
      has = λ k le. (stands.names k le).1;
      leaves_are = append-nil (entry_leaves (tree (i ∷ items)));
      order = λ low high o. (o, tt);
      rooms = (rooms_split (nodes_of (node_at place (i ∷ items))) [] stands.rooms).0;
      counts = λ m. ap (λ (l : List ℕ). times m (place ∷ l)) (append-nil (lower_nodes (tree (i ∷ items)))) ∙ times-append m (place ∷ []) (lower_nodes (tree (i ∷ items)));
      link = refl;
    }

    higher : (deep place next : ℕ) (items : List Item) (groups : List (List Item)) (t : Nodes) (bs : List (List ℕ)) (root : ℕ) → joined groups ≡ items → Each Sized groups → next ≡ place + laid_size (bodies_of groups) → Indexed deep next (over place groups) t bs root → Indexed deep place items t (bodies_of groups ++ bs) root
    higher deep place next items groups t bs root j s at x = record {
      has = x.has;
      leaves_are = x.leaves_are ∙ over_leaves place groups ∙ ap (λ (is : List Item). entry_leaves (tree is)) j;
      order = λ low high o. x.order low high (over_order low high place groups s (subst (λ (is : List Item). AreInOrder low high (tree is)) (sym j) o));
      rooms = x.rooms;
      counts = λ m.
          let here = x.counts m in
          let lower = over_counts m place groups in
          let both : times m (places place (bodies_of groups ++ bs)) ≡ times m (places place (bodies_of groups)) + times m (places next bs) =
          ap (times m) (places-append place (bodies_of groups) bs) ∙ times-append m (places place (bodies_of groups)) (places (place + laid_size (bodies_of groups)) bs) ∙ ap (λ (p : ℕ). times m (places place (bodies_of groups)) + times m (places p bs)) (sym at) in
          let same : times m (lower_nodes (tree (joined groups))) ≡ times m (lower_nodes (tree items)) = ap (λ (is : List Item). times m (lower_nodes (tree is))) j in
          omega (arith, here, lower, both, same);
      link = x.link;
    }

    pub indexed : (most d place : ℕ) (items : List Item) → length items ≤ reach most → Each ItemFits items → NamedFrom d items → Each HasRoom (lower_nodes (tree items)) → place + laid_size (index_bodies most place (map said items)) < 256 ^ 8
        → Stands b place (laid (index_bodies most place (map said items))) → ((m : ℕ) → In m (places place (index_bodies most place (map said items))) → In m rs)
        → Indexed (d + most) place items (index_tree most place items) (index_bodies most place (map said items)) (index_root most place (map said items))
    indexed zero d place [] few f n r lt st sub = nothing (d + 0) place
    indexed zero d place (i ∷ items) few f n r lt st sub = absurd (omega arith)
    indexed (suc most) d place [] few f n r lt st sub = nothing (d + suc most) place
    indexed (suc most) d place (i ∷ items) few f n r lt st sub = elim (either (nat_lt 1 (length gs))) [
      | inl e ↦
          let many = ltb-true 1 (length gs) e in
          let said_many : nat_lt 1 (length (nodes_over (map said all))) ≡ true = ap (nat_lt 1) (count_said all) ∙ e in
          let inner = index_bodies most next (map said (over place gs)) in
          let bodies_are : index_bodies (suc most) place (map said all) ≡ bodies_of gs ++ inner =
          ap (λ (p : Bool). if p then node_bodies (map said all) ++ index_bodies most (place + laid_size (node_bodies (map said all))) (uppers place (map said all)) else node_bodies (map said all)) said_many
          ∙ ap₂ (λ (x : List (List ℕ)) (es : List NodeEntry). x ++ index_bodies most (place + laid_size x) es) (bodies_said all) (uppers_said place all) in
          let root_is : index_root (suc most) place (map said all) ≡ index_root most next (map said (over place gs)) =
          ap (λ (p : Bool). if p then index_root most (place + laid_size (node_bodies (map said all))) (uppers place (map said all)) else place) said_many
          ∙ ap₂ (λ (x : List (List ℕ)) (es : List NodeEntry). index_root most (place + laid_size x) es) (bodies_said all) (uppers_said place all) in
          let tree_is : index_tree (suc most) place all ≡ index_tree most next (over place gs) = ap (λ (p : Bool). if p then index_tree most next (over place gs) else node_at place all) e in
          let st' = part_stands (bodies_of gs) inner (subst (λ (x : List (List ℕ)). Stands b place (laid x)) bodies_are st) in
          let lt' : place + laid_size (bodies_of gs ++ inner) < 256 ^ 8 = subst (λ (x : List (List ℕ)). place + laid_size x < 256 ^ 8) bodies_are lt in
          let size = size-append (bodies_of gs) inner in
          let sub' : (m : ℕ) → In m (places place (bodies_of gs ++ inner)) → In m rs = subst (λ (x : List (List ℕ)). (m : ℕ) → In m (places place x) → In m rs) bodies_are sub in
          let split = places-append place (bodies_of gs) inner in
          let ls = level d place gs sized.0 (subst (Each ItemFits) (sym back) f) (subst (NamedFrom d) (sym back) n) (subst (λ (is : List Item). Each HasRoom (lower_nodes (tree is))) (sym back) r)
          (fit_all (bodies_of gs) (made_all gs) (omega arith)) (omega arith) st'.0 (λ m j. sub' m (subst (In m) (sym split) (In-append_left m (places place (bodies_of gs)) (places next inner) j))) in
          let below = indexed most (suc d) next (over place gs) (enough most many sized.1) ls.fits ls.names ls.rooms (omega arith) st'.1 (λ m j. sub' m (subst (In m) (sym split) (In-append_right m (places place (bodies_of gs)) (places next inner) j))) in
          let up = higher (suc d + most) place next all gs (index_tree most next (over place gs)) inner (index_root most next (map said (over place gs))) back sized.0 refl below in
          let deep : suc d + most ≡ d + suc most = omega arith in
          subst (λ (k : ℕ). Indexed k place all (index_tree (suc most) place all) (index_bodies (suc most) place (map said all)) (index_root (suc most) place (map said all))) deep
          (subst (λ (t : Nodes). Indexed (suc d + most) place all t (index_bodies (suc most) place (map said all)) (index_root (suc most) place (map said all))) (sym tree_is)
          (subst (λ (x : List (List ℕ)). Indexed (suc d + most) place all (index_tree most next (over place gs)) x (index_root (suc most) place (map said all))) (sym bodies_are)
          (subst (λ (x : ℕ). Indexed (suc d + most) place all (index_tree most next (over place gs)) (bodies_of gs ++ inner) x) (sym root_is) up)))
      | inr e ↦
          let one : gs ≡ all ∷ [] = one_group gs i items back e in
          let said_few : nat_lt 1 (length (nodes_over (map said all))) ≡ false = ap (nat_lt 1) (count_said all) ∙ e in
          let bodies_are : index_bodies (suc most) place (map said all) ≡ body_of all ∷ [] =
          ap (λ (p : Bool). if p then node_bodies (map said all) ++ index_bodies most (place + laid_size (node_bodies (map said all))) (uppers place (map said all)) else node_bodies (map said all)) said_few ∙ bodies_said all ∙ ap bodies_of one in
          let root_is : index_root (suc most) place (map said all) ≡ place =
          ap (λ (p : Bool). if p then index_root most (place + laid_size (node_bodies (map said all))) (uppers place (map said all)) else place) said_few in
          let tree_is : index_tree (suc most) place all ≡ node_at place all = ap (λ (p : Bool). if p then index_tree most next (over place gs) else node_at place all) e in
          let st' : Stands b place (laid (body_of all ∷ [])) = subst (λ (x : List (List ℕ)). Stands b place (laid x)) bodies_are st in
          let lt' : place + laid_size (body_of all ∷ []) < 256 ^ 8 = subst (λ (x : List (List ℕ)). place + laid_size x < 256 ^ 8) bodies_are lt in
          let sub' : (m : ℕ) → In m (places place (body_of all ∷ [])) → In m rs = subst (λ (x : List (List ℕ)). (m : ℕ) → In m (places place x) → In m rs) bodies_are sub in
          let own = append-nil all in
          let ls = level d place (all ∷ []) (subst (Each Sized) one sized.0) (subst (Each ItemFits) (sym own) f) (subst (NamedFrom d) (sym own) n) (subst (λ (is : List Item). Each HasRoom (lower_nodes (tree is))) (sym own) r)
          (fit_all (body_of all ∷ []) ((node_made all).1, tt) (omega arith)) lt' st' sub' in
          let top = top_index d place i items ls in
          let widen : Indexed (d + suc most) place all (node_at place all) (body_of all ∷ []) place = record { has = λ k le. top.has k (omega arith); leaves_are = top.leaves_are; order = top.order; rooms = top.rooms; counts = top.counts; link = top.link } in
          subst (λ (t : Nodes). Indexed (d + suc most) place all t (index_bodies (suc most) place (map said all)) (index_root (suc most) place (map said all))) (sym tree_is)
          (subst (λ (x : List (List ℕ)). Indexed (d + suc most) place all (node_at place all) x (index_root (suc most) place (map said all))) (sym bodies_are)
          (subst (λ (x : ℕ). Indexed (d + suc most) place all (node_at place all) (body_of all ∷ []) x) (sym root_is) widen))
    ]
      where
        all : List Item
        all = i ∷ items

        gs : List (List Item)
        gs = in_nodes (i ∷ items)

        next : ℕ
        next = place + laid_size (bodies_of (in_nodes (i ∷ items)))

        back : joined (in_nodes (i ∷ items)) ≡ i ∷ items
        back = joined_back (fits_in 64) (i ∷ items)

        sized : Each Sized (in_nodes (i ∷ items)) × (64 * length (in_nodes (i ∷ items)) ≤ length (i ∷ items) + 63)
        sized = nodes_sized (i ∷ items)

        enough : (k : ℕ) → 1 < length (in_nodes (i ∷ items)) → 64 * length (in_nodes (i ∷ items)) ≤ length (i ∷ items) + 63 → length (over place (in_nodes (i ∷ items))) ≤ reach most
        enough k many le = by most few
          where
            by : (k : ℕ) → length (i ∷ items) ≤ reach (suc k) → length (over place (in_nodes (i ∷ items))) ≤ reach k
            by zero l = absurd (omega arith)
            by (suc k) l = omega (arith, length-over place (in_nodes (i ∷ items)))
