-- Chains and entries, one behind the other, and their blocks and rules.
use Rattle.cdf_structure.proofs.Common.{Entries, Leaf, List, Nodes, Row, ap, append_assoc, block, end_of, entry_leaves, has_room, is_between, is_block, leaves_of, lower, no_entry, no_node, node, nodes_rows, number_before, refl, row, sym, used_rows, with_sign, ℕ, ℤ, ◌++◌, ◌∙◌, ◌∷◌, ◌≡◌}

-- one list of entries behind another
abbrev pub join : Entries → Entries → Entries
join no_entry others = others
join (block first last place packed entries) others = block first last place packed (join entries others)
join (lower first last nodes entries) others = lower first last nodes (join entries others)

pub leaves-join : (entries others : Entries) → entry_leaves (join entries others) ≡ entry_leaves entries ++ entry_leaves others
unfolding entry_leaves
leaves-join no_entry others = refl
leaves-join (block first last place packed entries) others = ap (λ (xs : List Leaf). record { first = first; last = last; place = place; packed = packed } ∷ xs) (leaves-join entries others)
leaves-join (lower first last nodes entries) others = ap (λ (xs : List Leaf). leaves_of nodes ++ xs) (leaves-join entries others) ∙ sym (append_assoc (leaves_of nodes) (entry_leaves entries) (entry_leaves others))

pub end-join : (low : ℤ) (entries others : Entries) → end_of low (join entries others) ≡ end_of (end_of low entries) others
end-join low no_entry others = refl
end-join low (block first last place packed entries) others = end-join (with_sign last) entries others
end-join low (lower first last nodes entries) others = end-join (with_sign last) entries others

behind : (r : Row) (xs ys zs all : List Row) → all ≡ ys ++ zs → r ∷ xs ++ all ≡ (r ∷ xs ++ ys) ++ zs
behind r xs ys zs all e = ap (λ (rows : List Row). r ∷ xs ++ rows) e ∙ ap (λ (rows : List Row). r ∷ rows) (sym (append_assoc xs ys zs))

pub rows-join : (b ts : List ℕ) (vxr : ℕ) (low high : ℤ) (entries others : Entries) → used_rows b ts vxr low high (join entries others) ≡ used_rows b ts vxr low high entries ++ used_rows b ts vxr (end_of low entries) high others
unfolding used_rows
rows-join b ts vxr low high no_entry others = refl
rows-join b ts vxr low high (block first last place packed entries) others =
    ap (λ (xs : List Row). row 3 vxr (is_block b ts place) ∷ row 4 vxr (is_between low high first last) ∷ xs) (rows-join b ts vxr (with_sign last) high entries others)
rows-join b ts vxr low high (lower first last nodes entries) others =
    behind (row 4 vxr (is_between low high first last)) (nodes_rows b ts (number_before first) (with_sign last) nodes) (used_rows b ts vxr (with_sign last) high entries) (used_rows b ts vxr (end_of (with_sign last) entries) high others) _ (rows-join b ts vxr (with_sign last) high entries others)

-- one chain behind another
abbrev pub link_chains : Nodes → Nodes → Nodes
link_chains no_node others = others
link_chains (node place room entries more) others = node place room entries (link_chains more others)

abbrev pub chain_end : ℤ → Nodes → ℤ
chain_end low no_node = low
chain_end low (node place room entries more) = chain_end (end_of low entries) more

pub chains-assoc : (one two three : Nodes) → link_chains (link_chains one two) three ≡ link_chains one (link_chains two three)
chains-assoc no_node two three = refl
chains-assoc (node place room entries more) two three = ap (node place room entries) (chains-assoc more two three)

pub leaves-chains : (nodes others : Nodes) → leaves_of (link_chains nodes others) ≡ leaves_of nodes ++ leaves_of others
unfolding leaves_of
leaves-chains no_node others = refl
leaves-chains (node place room entries more) others = ap (λ (xs : List Leaf). entry_leaves entries ++ xs) (leaves-chains more others) ∙ sym (append_assoc (entry_leaves entries) (leaves_of more) (leaves_of others))

pub end-chains : (low : ℤ) (nodes others : Nodes) → chain_end low (link_chains nodes others) ≡ chain_end (chain_end low nodes) others
end-chains low no_node others = refl
end-chains low (node place room entries more) others = end-chains (end_of low entries) more others

pub rows-chains : (b ts : List ℕ) (low high : ℤ) (nodes others : Nodes) → nodes_rows b ts low high (link_chains nodes others) ≡ nodes_rows b ts low high nodes ++ nodes_rows b ts (chain_end low nodes) high others
unfolding nodes_rows
rows-chains b ts low high no_node others = refl
rows-chains b ts low high (node place room entries more) others =
    behind (row 2 place (has_room b place)) (used_rows b ts place low high entries) (nodes_rows b ts (end_of low entries) high more) (nodes_rows b ts (chain_end (end_of low entries) more) high others) _ (rows-chains b ts (end_of low entries) high more others)
