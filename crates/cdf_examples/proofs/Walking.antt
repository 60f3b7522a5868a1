-- The shape of an image, computed by walks: each record is found from the one before, and each number is read from one place, since a place far back in a file is dear to read.
use Rattle.cdf_examples.proofs.Common.{Bool, Entries, Field, List, Met, Nodes, Shape, VariableShape, [], adr_chain, and_then, ap, ap₂, arith, attribute_shape, block, cpr_of, cvvr_type, drop, drop-drop, entries_on, false, first_at, gdr_offset, get_or-drop, if◌then◌else◌, is_in, is_linkable, last_at, length, levels_on, lost, lower, met, next_of, no_entry, no_node, node, nodes_met, nodes_on, not, number, offset_at, r_vdr_chain, record_size, record_type, refl, room_at, shape, shape_in, subst, suc, sym, tiles, tiles_from, true, type_at, uir_chain, used_count, variable_shape, vdr_vxr_head, vxr_first, vxr_last, vxr_offset, vxr_type, z_vdr_chain, zero, ℕ, ◌*◌, ◌++◌, ◌+◌, ◌==◌, ◌^◌, ◌∙◌, ◌∷◌, ◌≡◌}
use Rattle.std.proofs.Common.{◌&&◌, nat_le, map}
use Rattle.byteorder.specs.Endian.{big_from}
use Rattle.cdf_format.specs.Walks.{Walk, whole, stuck, after_first, records_of}

-- ---- numbers

word_from : (b : List ℕ) (place i n : ℕ) → big_from i n (drop place b) ≡ big_from (place + i) n b
word_from b place i zero = refl
word_from b place i (suc n) =
    let on : place + suc i ≡ suc (place + i) = omega arith in
    ap₂ (λ (x y : ℕ). x * 256 ^ n + y) (get_or-drop place b i 0) (word_from b place (suc i) n ∙ ap (λ (k : ℕ). big_from k n b) on)

abbrev pub number_from : List ℕ → ℕ → Field → ℕ
number_from b place f = big_from 0 f.width (drop (place + f.place) b)

pub number_is : (b : List ℕ) (place : ℕ) (f : Field) → number_from b place f ≡ number b place f
number_is b place f =
    let none : place + f.place + 0 ≡ place + f.place = omega arith in
    word_from b (place + f.place) 0 f.width ∙ ap (λ (k : ℕ). big_from k f.width b) none

-- ---- records

abbrev pub one_record : ℕ → ℕ → ℕ → Walk → Walk
one_record end place size more = if place == end then whole [] else (if nat_le 12 size && nat_le (place + size) end then after_first place more else stuck [] place)

-- the records of an image of `end` bytes from a place on, behind which it has these bytes
abbrev pub records_from : ℕ → ℕ → ℕ → List ℕ → Walk
records_from zero end place rest = if place == end then whole [] else stuck [] place
records_from (suc most) end place rest = one_record end place (big_from 0 8 rest) (records_from most end (place + big_from 0 8 rest) (drop (big_from 0 8 rest) rest))

records_are : (b : List ℕ) (most place : ℕ) → records_from most (length b) place (drop place b) ≡ tiles_from most b place
unfolding tiles_from
records_are b zero place = refl
records_are b (suc most) place =
    let size = big_from 0 8 (drop place b) in
    let more : records_from most (length b) (place + size) (drop size (drop place b)) ≡ tiles_from most b (place + size) =
    ap (λ (rest : List ℕ). records_from most (length b) (place + size) rest) (drop-drop size place b) ∙ records_are b most (place + size) in
    ap (one_record (length b) place size) more ∙ ap (λ (n : ℕ). one_record (length b) place n (tiles_from most b (place + n))) (word_from b place 0 8)

-- ---- the index

and_then_same : {A B : Type 0} (m m' : Met A) (f g : List ℕ → A → Met B) → m ≡ m' → ((seen : List ℕ) (a : A) → f seen a ≡ g seen a) → and_then m f ≡ and_then m' g
and_then_same {A} {B} m m' f g e same = ap (λ (x : Met A). and_then x f) e ∙ cases m'
  where
    cases : (x : Met A) → and_then x f ≡ and_then x g
    cases (met seen a) = same seen a
    cases (lost place) = refl

-- an entry, with what it leads to if it names a lower chain, and the entries behind it
abbrev pub one_entry : ℕ → ℕ → ℕ → Bool → Bool → Met Nodes → (List ℕ → Met Entries) → List ℕ → Met Entries
one_entry first last offset leads packed nodes rest seen =
    if leads then and_then nodes (λ seen nodes. and_then (rest seen) (λ seen entries. met seen (lower first last nodes entries)))
    else and_then (rest seen) (λ seen entries. met seen (block first last offset packed entries))

one_entry_same : (first last offset : ℕ) (leads packed : Bool) (nodes nodes' : Met Nodes) (rest rest' : List ℕ → Met Entries) (seen : List ℕ) → nodes ≡ nodes' → ((seen : List ℕ) → rest seen ≡ rest' seen)
    → one_entry first last offset leads packed nodes rest seen ≡ one_entry first last offset leads packed nodes' rest' seen
one_entry_same first last offset true packed nodes nodes' rest rest' seen e same = and_then_same nodes nodes' _ _ e (λ seen n. ap (λ (m : Met Entries). and_then m (λ seen entries. met seen (lower first last n entries))) (same seen))
one_entry_same first last offset false packed nodes nodes' rest rest' seen e same = ap (λ (m : Met Entries). and_then m (λ seen entries. met seen (block first last offset packed entries))) (same seen)

abbrev pub leads_from : List ℕ → List ℕ → ℕ → Bool
leads_from b tiles place = (is_in place tiles && (number_from b place record_type == vxr_type)) && nat_le 28 (number_from b place record_size)

-- the used entries of a node that has room for so many
abbrev pub entries_from : (List ℕ → ℕ → ℕ → Met Nodes) → List ℕ → List ℕ → ℕ → ℕ → ℕ → ℕ → List ℕ → Met Entries
entries_from below b tiles place room i zero seen = met seen no_entry
entries_from below b tiles place room i (suc left) seen =
    one_entry (number_from b place (vxr_first i)) (number_from b place (vxr_last room i)) (number_from b place (vxr_offset room i)) (leads_from b tiles (number_from b place (vxr_offset room i)))
    (number_from b (number_from b place (vxr_offset room i)) record_type == cvvr_type) (below seen place (number_from b place (vxr_offset room i))) (λ seen. entries_from below b tiles place room (suc i) left seen) seen

entries_are : (below below' : List ℕ → ℕ → ℕ → Met Nodes) (b tiles : List ℕ) (place i left : ℕ) (seen : List ℕ) → ((seen : List ℕ) (holder link : ℕ) → below seen holder link ≡ below' seen holder link)
    → entries_from below b tiles place (room_at b place) i left seen ≡ entries_on below' b tiles place i left seen
unfolding entries_on
entries_are below below' b tiles place i zero seen same = refl
entries_are below below' b tiles place i (suc left) seen same =
    let rest = λ (seen : List ℕ). entries_from below b tiles place (room_at b place) (suc i) left seen in
    let of = λ (first last offset : ℕ) (leads packed : Bool). one_entry first last offset leads packed (below seen place offset) rest seen in
    let o = offset_at b place i in
    ap (λ (first : ℕ). of first (number_from b place (vxr_last (room_at b place) i)) (number_from b place (vxr_offset (room_at b place) i)) (leads_from b tiles (number_from b place (vxr_offset (room_at b place) i))) (number_from b (number_from b place (vxr_offset (room_at b place) i)) record_type == cvvr_type)) (number_is b place (vxr_first i))
    ∙ ap (λ (last : ℕ). of (first_at b place i) last (number_from b place (vxr_offset (room_at b place) i)) (leads_from b tiles (number_from b place (vxr_offset (room_at b place) i))) (number_from b (number_from b place (vxr_offset (room_at b place) i)) record_type == cvvr_type)) (number_is b place (vxr_last (room_at b place) i))
    ∙ ap (λ (offset : ℕ). of (first_at b place i) (last_at b place i) offset (leads_from b tiles offset) (number_from b offset record_type == cvvr_type)) (number_is b place (vxr_offset (room_at b place) i))
    ∙ ap (λ (type : ℕ). of (first_at b place i) (last_at b place i) o ((is_in o tiles && (type == vxr_type)) && nat_le 28 (number_from b o record_size)) (type == cvvr_type)) (number_is b o record_type)
    ∙ ap (λ (size : ℕ). of (first_at b place i) (last_at b place i) o ((is_in o tiles && (type_at b o == vxr_type)) && nat_le 28 size) (type_at b o == cvvr_type)) (number_is b o record_size)
    ∙ one_entry_same (first_at b place i) (last_at b place i) o (is_linkable b tiles vxr_type o) (type_at b o == cvvr_type) (below seen place o) (below' seen place o) rest (λ (seen : List ℕ). entries_on below' b tiles place (suc i) left seen) seen
    (same seen place o) (λ seen. entries_are below below' b tiles place (suc i) left seen same)

abbrev pub nodes_from : (List ℕ → ℕ → ℕ → Met Nodes) → ℕ → List ℕ → List ℕ → List ℕ → ℕ → ℕ → Met Nodes
nodes_from below zero b tiles seen holder link = if link == 0 then met seen no_node else lost holder
nodes_from below (suc most) b tiles seen holder link =
    if link == 0 then met seen no_node
    else (if is_linkable b tiles vxr_type link && not (is_in link seen)
    then and_then (entries_from below b tiles link (room_at b link) 0 (used_count b link) (seen ++ link ∷ []))
    (λ seen entries. and_then (nodes_from below most b tiles seen link (next_of b link)) (λ seen more. met seen (node link (room_at b link) entries more)))
    else lost holder)

nodes_are : (below below' : List ℕ → ℕ → ℕ → Met Nodes) (most : ℕ) (b tiles seen : List ℕ) (holder link : ℕ) → ((seen : List ℕ) (holder link : ℕ) → below seen holder link ≡ below' seen holder link)
    → nodes_from below most b tiles seen holder link ≡ nodes_on below' most b tiles seen holder link
unfolding nodes_on
nodes_are below below' zero b tiles seen holder link same = refl
nodes_are below below' (suc most) b tiles seen holder link same =
    ap (λ (m : Met Nodes). if link == 0 then met seen no_node else (if is_linkable b tiles vxr_type link && not (is_in link seen) then m else lost holder))
    (and_then_same _ _ _ _ (entries_are below below' b tiles link 0 (used_count b link) (seen ++ link ∷ []) same)
    (λ seen entries. ap (λ (m : Met Nodes). and_then m (λ seen more. met seen (node link (room_at b link) entries more))) (nodes_are below below' most b tiles seen link (next_of b link) same)))

abbrev pub levels_from : ℕ → List ℕ → List ℕ → List ℕ → ℕ → ℕ → Met Nodes
levels_from zero b tiles seen holder link = if link == 0 then met seen no_node else lost holder
levels_from (suc levels) b tiles seen holder link = nodes_from (levels_from levels b tiles) (length tiles) b tiles seen holder link

levels_are : (levels : ℕ) (b tiles seen : List ℕ) (holder link : ℕ) → levels_from levels b tiles seen holder link ≡ levels_on levels b tiles seen holder link
unfolding levels_on
levels_are zero b tiles seen holder link = refl
levels_are (suc levels) b tiles seen holder link = nodes_are (levels_from levels b tiles) (levels_on levels b tiles) (length tiles) b tiles seen holder link (λ seen holder link. levels_are levels b tiles seen holder link)

-- ---- the shape

abbrev pub variable_with : List ℕ → ℕ → Met Nodes → VariableShape
variable_with b vdr index = record { vdr = vdr; index = nodes_met index; cpr = cpr_of b vdr }

abbrev pub variable_from : List ℕ → List ℕ → ℕ → VariableShape
variable_from b tiles vdr = variable_with b vdr (levels_from 8 b tiles [] vdr (number b vdr vdr_vxr_head))

variables_are : (b tiles vdrs : List ℕ) → map (variable_from b tiles) vdrs ≡ map (variable_shape b tiles) vdrs
variables_are b tiles [] = refl
variables_are b tiles (vdr ∷ more) =
    let index = levels_are 8 b tiles [] vdr (number b vdr vdr_vxr_head) in
    ap₂ (λ (m : Met Nodes) (vs : List VariableShape). variable_with b vdr m ∷ vs) index (variables_are b tiles more)

abbrev pub shape_with : List ℕ → List ℕ → List VariableShape → List VariableShape → Shape
shape_with b tiles r z = record {
  records = tiles;
  gdr = gdr_offset b;
  attributes = map (attribute_shape b tiles) (records_of (adr_chain b tiles));
  r_variables = r;
  z_variables = z;
  unused = records_of (uir_chain b tiles);
}

abbrev pub shape_from : List ℕ → List ℕ → Shape
shape_from b tiles = shape_with b tiles (map (variable_from b tiles) (records_of (r_vdr_chain b tiles))) (map (variable_from b tiles) (records_of (z_vdr_chain b tiles)))

shape_from_is : (b tiles : List ℕ) → shape_from b tiles ≡ shape_in b tiles
shape_from_is b tiles = ap₂ (λ (r z : List VariableShape). shape_with b tiles r z) (variables_are b tiles (records_of (r_vdr_chain b tiles))) (variables_are b tiles (records_of (z_vdr_chain b tiles)))

-- an image of so many bytes with these records has this shape
pub shape_by : (b : List ℕ) (end : ℕ) (records : List ℕ) (s : Shape) → length b ≡ end → records_from end end 8 (drop 8 b) ≡ whole records → shape_from b records ≡ s → shape b ≡ s
unfolding shape
shape_by b end records s is walks e =
    let walked : records_from (length b) (length b) 8 (drop 8 b) ≡ whole records = subst (λ (n : ℕ). records_from n n 8 (drop 8 b) ≡ whole records) (sym is) walks in
    let tiled : tiles b ≡ records = ap records_of (sym (records_are b (length b) 8) ∙ walked) in
    ap (shape_in b) tiled ∙ sym (shape_from_is b records) ∙ e
