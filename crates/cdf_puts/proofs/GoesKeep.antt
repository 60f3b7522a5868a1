-- An image goes on while one variable changes: all other records keep what they have to.
use Rattle.cdf_index.proofs.Common.{In, In-append, Leaf, List, arith, inl, inr, leaves_of, length, nodes_of, places_of, refl, suc, ℕ, ◌++◌, ◌==◌}
use Rattle.cdf_edits.proofs.Common.{type_at}
use Rattle.cdf_edits.proofs.Common.{Act, AllKeep, Allowances, Good, Keeps, Kind, OneVariable, Unused, VariableShape, eqb-true, false-is_in, owned, shape, shapes_of, true-is_in, uir_type, unused_allowance, unused_records, variable_records}
use Rattle.cdf_edits.proofs.Commands.KeptRecords.{keep_attributes, keep_variables, keeps_stood}
use Rattle.cdf_edits.proofs.Edits.ActsJoined.{ListedStay}
use Rattle.cdf_edits.proofs.Edits.Common.{filter-says, keep_all, keep_file, keep_kinds, keep_places, keep_variable_parts, other_kind}
use Rattle.cdf_edits.proofs.Edits.LeafPieces.{IsOneOf, leaf_at}
use Rattle.cdf_edits.proofs.Edits.StandsAmong.{StandsAmong, sound}
use Rattle.cdf_edits.proofs.Frame.OwnersApart.{unused_in}
use Rattle.cdf_puts.specs.Going.{GoesOn, LooseStay}

-- what holds of the descriptor, of each node, of each block and of what a packed variable has holds of each of its records
pub each_own : (P : ℕ → Type 0) (v : VariableShape) → P v.vdr → ((m : ℕ) → In m (nodes_of v.index) → P m) → ((l : Leaf) → IsOneOf (leaves_of v.index) l → P l.place) → ((m : ℕ) → In m v.cpr → P m) → (m : ℕ) → In m (variable_records v) → P m
each_own P v own node block cpr m i =
    grind (arith, i, own, node, block, cpr, In-append m (nodes_of v.index ++ places_of (leaves_of v.index)) v.cpr, In-append m (nodes_of v.index) (places_of (leaves_of v.index)), leaf_at (leaves_of v.index) m)

-- an unused record keeps what it has to
pub unused_stays : {b last : List ℕ} (acts : List Act) → ListedStay b last acts → LooseStay b last → (m : ℕ) → In m (unused_records b (shape b)) → In m (shape b).records → Keeps b last m (unused_allowance b (shape b) acts m)
unused_stays {b = b} acts listed loose m i inside =
    let stays = loose m inside (eqb-true (type_at b m) uir_type (filter-says (λ place. type_at b place == uir_type) (shape b).records m i)) in
    grind (arith, listed m, stays, true-is_in m (shape b).unused, false-is_in m (shape b).unused)

pub goes_keep : {b now : List ℕ} {kind : Kind} {before : List VariableShape} {own own' : VariableShape} {after : List VariableShape} {acts : List Act} (good : Good b) (at : StandsAmong b kind before own after) (goes : GoesOn b now kind before own own' after acts) (may : Allowances) → Keeps b now (shape b).gdr may.gdr → ((m : ℕ) → In m (variable_records own) → Keeps b now m (may.variables kind (length before) m))
    → AllKeep b now may acts (owned b (shape b))
goes_keep {b = b} {now = now} {kind = kind} {before = before} {own = own} {after = after} {acts = acts} good at goes may gdr own_keeps =
    let front = keep_variables b now may acts kind 0 before (λ m i. goes.stay m (inr (inr (inl i)))) in
    let back = keep_variables b now may acts kind (suc (length before)) after (λ m i. goes.stay m (inr (inr (inr (inl i))))) in
    let others = keep_variables b now may acts (other_kind kind) 0 (shapes_of (shape b) (other_kind kind)) (λ m i. goes.stay m (inr (inr (inr (inr i))))) in
    let both = keep_kinds b now may acts kind (keep_variable_parts b now may acts kind before own after at.was front (keep_places b now may acts (OneVariable kind (length before)) (variable_records own) own_keeps) back) others in
    keep_all b now may acts (keep_file b now may acts (sound good at) (keeps_stood b now 8 (goes.stay 8 (inl refl)) may.cdr) gdr) (keep_attributes b now may acts 0 (shape b).attributes (λ m i. goes.stay m (inr (inl i)))) both.0 both.1
    (keep_places b now may acts Unused (unused_records b (shape b)) (λ m i. unused_stays acts goes.listed goes.loose m i (unused_in b (shape b) (sound good at) m i)))
