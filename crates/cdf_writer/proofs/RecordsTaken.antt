-- The events of the records of a variable, taken one after the other, make its blocks and name them.
use Rattle.std.proofs.Common.{Bool, List, [], ap, ap₂, append_assoc, append-nil, arith, false, inl, inr, length, map, refl, sym, true, ℕ, ◌++◌, ◌+◌, ◌∙◌, ◌∷◌, ◌≡◌}
use Rattle.std.proofs.lemmas.List.{length-append}
use Rattle.std.specs.Prelude.{◌&&◌, ◌==◌, if◌then◌else◌, nat_lt}
use Rattle.cdf_edits.specs.Index.Blocks.{block_count, record_length}
use Rattle.cdf_format.proofs.Members.{either}
use Rattle.cdf_format.specs.Shape.{Each}
use Rattle.cdf_model.specs.ByteOrder.{turned}
use Rattle.cdf_model.specs.DataSet.{Variable}
use Rattle.cdf_model.specs.Events.{record_event}
use Rattle.cdf_writer.specs.Bodies.{whole_record}
use Rattle.cdf_writer.specs.Fine.{FineRecord}
use Rattle.cdf_writer.specs.Groups.{first_number, goes_on, grouped, grouped_on, last_number}
use Rattle.cdf_writer.specs.Laying.{block_body, blocks_ranged, laid_size, plain_body, plain_of_block}
use Rattle.cdf_writer.specs.Progress.{State, group_begun, group_bodies, group_entries, joined, joins, most_records, record_added, run_from, size}
use Rattle.cdf_writer.specs.declared.bodies.NodeEntry.{NodeEntry}
use Rattle.cdf_writer.specs.declared.progress.Group.{Group}
use Rattle.cdf_writer.specs.declared.progress.OpenVariable.{OpenVariable}
use Rattle.cdf_writer.specs.declared.progress.Part.TheVariants as parts
use Rattle.cdf_writer.proofs.EntriesTaken.{not_zero}
use Rattle.cdf_writer.proofs.Stands.{size-append}

module _ (s : State) (base : OpenVariable) (w : Variable) (rle_is : base.rle ≡ w.rle) (most_is : (long : ℕ) → long ≡ record_length w → most_records base.vary base.own.blocking long ≡ block_count w) where
  abbrev little : Bool
  little = s.file.little

  -- a state in which the variable is open, with these blocks named and this group open
  abbrev pub var_in : List NodeEntry → Group → List (List ℕ) → State
  var_in leaves group behind = record s { part = parts.Variable (record base { leaves = leaves; group = group }); behind = behind }

  -- these records as a group
  abbrev pub group_of : List (ℕ × List ℕ) → Group
  group_of g = record { first = first_number g; last = last_number g; count = length g; plain = plain_of_block little w g }

  abbrev joining : List (ℕ × List ℕ) → ℕ × List ℕ → Bool
  joining = goes_on (block_count w)

  -- the blocks of a group that is open and of the records behind it
  abbrev pub blocks_on : List (ℕ × List ℕ) → List (ℕ × List ℕ) → List (List (ℕ × List ℕ))
  blocks_on [] xs = grouped joining xs
  blocks_on (y ∷ ys) xs = grouped_on joining (y ∷ ys) xs

  abbrev open_bodies : List (ℕ × List ℕ) → List (List ℕ)
  open_bodies g = map (block_body little w) (blocks_on g [])

  pub record RecordsTaken (leaves : List NodeEntry) (g : List (ℕ × List ℕ)) (behind : List (List ℕ)) (xs : List (ℕ × List ℕ)) (t : State) : Type 0 where
    pub named : List NodeEntry
    pub group : List (ℕ × List ℕ)
    pub after : List (List ℕ)
    pub is : t ≡ var_in named (group_of group) after
    pub bodies : after ++ group_bodies (record base { leaves = named; group = group_of group }) ≡ behind ++ map (block_body little w) (blocks_on g xs)
    pub leaves_are : named ++ group_entries (record base { leaves = named; group = group_of group }) (size (var_in named (group_of group) after)) ≡ leaves ++ blocks_ranged little w (size (var_in leaves (group_of g) behind)) (blocks_on g xs)

  -- the group that is open, as one block
  bodies_of : (leaves : List NodeEntry) (g : List (ℕ × List ℕ)) → group_bodies (record base { leaves = leaves; group = group_of g }) ≡ map (block_body little w) (blocks_on g [])
  bodies_of leaves [] = refl
  bodies_of leaves (y ∷ ys) =
      ap (λ (b : Bool). if b then [] else plain_body base.rle (plain_of_block little w (y ∷ ys)) ∷ []) (not_zero (length ys))
      ∙ ap (λ (r : Bool). plain_body r (plain_of_block little w (y ∷ ys)) ∷ []) rle_is

  entries_of : (leaves : List NodeEntry) (g : List (ℕ × List ℕ)) (place : ℕ) → group_entries (record base { leaves = leaves; group = group_of g }) place ≡ blocks_ranged little w place (blocks_on g [])
  entries_of leaves [] place = refl
  entries_of leaves (y ∷ ys) place = ap (λ (b : Bool). if b then [] else record { first = y.0; last = last_number (y ∷ ys); place = place } ∷ []) (not_zero (length ys))

  last_more : (y : ℕ × List ℕ) (ys : List (ℕ × List ℕ)) (x : ℕ × List ℕ) → last_number ((y ∷ ys) ++ x ∷ []) ≡ x.0
  last_more y [] x = refl
  last_more y (z ∷ ys) x = last_more z ys x

  plain_more : (g : List (ℕ × List ℕ)) (x : ℕ × List ℕ) → plain_of_block little w (g ++ x ∷ []) ≡ plain_of_block little w g ++ turned w.type little x.1
  plain_more [] x = append-nil (turned w.type little x.1)
  plain_more (y ∷ g) x = ap (λ (l : List ℕ). turned w.type little y.1 ++ l) (plain_more g x) ∙ sym (append_assoc (turned w.type little y.1) (plain_of_block little w g) (turned w.type little x.1))

  joined_is : (y : ℕ × List ℕ) (ys : List (ℕ × List ℕ)) (num : ℕ) (bytes : List ℕ) → joined (group_of (y ∷ ys)) num (turned w.type little bytes) ≡ group_of ((y ∷ ys) ++ (num, bytes) ∷ [])
  joined_is y ys num bytes =
      let p : last_number ((y ∷ ys) ++ (num, bytes) ∷ []) ≡ num = last_more y ys (num, bytes) in
      let c : length ((y ∷ ys) ++ (num, bytes) ∷ []) ≡ length (y ∷ ys) + 1 = length-append (y ∷ ys) ((num, bytes) ∷ []) in
      let q : plain_of_block little w ((y ∷ ys) ++ (num, bytes) ∷ []) ≡ plain_of_block little w (y ∷ ys) ++ turned w.type little bytes = plain_more (y ∷ ys) (num, bytes) in
      λ i. record { first = y.0; last = sym p i; count = sym c i; plain = sym q i }

  begun_is : (num : ℕ) (bytes : List ℕ) → group_begun num (turned w.type little bytes) ≡ group_of ((num, bytes) ∷ [])
  begun_is num bytes = ap (λ (l : List ℕ). record { first = num; last = num; count = 1; plain = l }) (sym (append-nil (turned w.type little bytes)))

  join_is : (leaves : List NodeEntry) (y : ℕ × List ℕ) (ys : List (ℕ × List ℕ)) (num : ℕ) (bytes : List ℕ) → length bytes ≡ record_length w
      → joins (record base { leaves = leaves; group = group_of (y ∷ ys) }) num (length bytes) ≡ joining (y ∷ ys) (num, bytes)
  join_is leaves y ys num bytes e =
      ap (λ (b : Bool). if b then false else ((num == last_number (y ∷ ys) + 1) && nat_lt (length (y ∷ ys)) (most_records base.vary base.own.blocking (length bytes)))) (not_zero (length ys))
      ∙ ap (λ (m : ℕ). (num == last_number (y ∷ ys) + 1) && nat_lt (length (y ∷ ys)) m) (most_is (length bytes) e)

  size_on : (leaves named : List NodeEntry) (g h : Group) (behind more : List (List ℕ)) → size (var_in named h (behind ++ more)) ≡ size (var_in leaves g behind) + laid_size more
  size_on leaves named g h behind more =
      let front = s.cdr ∷ s.gdr ∷ s.finished in
      omega (arith, size-append front (s.room ++ (behind ++ more)), size-append front (s.room ++ behind), size-append s.room (behind ++ more), size-append s.room behind, size-append behind more)

  begins_group : (leaves : List NodeEntry) (behind : List (List ℕ)) (num : ℕ) (bytes : List ℕ)
      → record_added (var_in leaves (group_of []) behind) (record base { leaves = leaves; group = group_of [] }) num w.type bytes ≡ var_in leaves (group_of ((num, bytes) ∷ [])) behind
  begins_group leaves behind num bytes = λ i. var_in (append-nil leaves i) (begun_is num bytes i) (append-nil behind i)

  joins_group : (leaves : List NodeEntry) (y : ℕ × List ℕ) (ys : List (ℕ × List ℕ)) (behind : List (List ℕ)) (num : ℕ) (bytes : List ℕ) → length bytes ≡ record_length w → joining (y ∷ ys) (num, bytes) ≡ true
      → record_added (var_in leaves (group_of (y ∷ ys)) behind) (record base { leaves = leaves; group = group_of (y ∷ ys) }) num w.type bytes ≡ var_in leaves (group_of ((y ∷ ys) ++ (num, bytes) ∷ [])) behind
  joins_group leaves y ys behind num bytes long e =
      let v = record base { leaves = leaves; group = group_of (y ∷ ys) } in
      let t : joins v num (length bytes) ≡ true = join_is leaves y ys num bytes long ∙ e in
      ap (λ (j : Bool). record s {
        part = parts.Variable (record v { leaves = if j then v.leaves else v.leaves ++ group_entries v (size (var_in leaves (group_of (y ∷ ys)) behind)); group = if j then joined v.group num (turned w.type little bytes) else group_begun num (turned w.type little bytes) });
        behind = behind ++ (if j then [] else group_bodies v);
      }) t
      ∙ ap₂ (λ (g : Group) (xs : List (List ℕ)). var_in leaves g xs) (joined_is y ys num bytes) (append-nil behind)

  closes_group : (leaves : List NodeEntry) (y : ℕ × List ℕ) (ys : List (ℕ × List ℕ)) (behind : List (List ℕ)) (num : ℕ) (bytes : List ℕ) → length bytes ≡ record_length w → joining (y ∷ ys) (num, bytes) ≡ false
      → record_added (var_in leaves (group_of (y ∷ ys)) behind) (record base { leaves = leaves; group = group_of (y ∷ ys) }) num w.type bytes
      ≡ var_in (leaves ++ blocks_ranged little w (size (var_in leaves (group_of (y ∷ ys)) behind)) ((y ∷ ys) ∷ [])) (group_of ((num, bytes) ∷ [])) (behind ++ block_body little w (y ∷ ys) ∷ [])
  closes_group leaves y ys behind num bytes long e =
      let v = record base { leaves = leaves; group = group_of (y ∷ ys) } in
      let place = size (var_in leaves (group_of (y ∷ ys)) behind) in
      let t : joins v num (length bytes) ≡ false = join_is leaves y ys num bytes long ∙ e in
      ap (λ (j : Bool). record s {
        part = parts.Variable (record v { leaves = if j then v.leaves else v.leaves ++ group_entries v place; group = if j then joined v.group num (turned w.type little bytes) else group_begun num (turned w.type little bytes) });
        behind = behind ++ (if j then [] else group_bodies v);
      }) t
      ∙ ap₂ (λ (g : Group) (xs : List (List ℕ)). var_in (leaves ++ group_entries v place) g (behind ++ xs)) (begun_is num bytes) (bodies_of leaves (y ∷ ys))
      ∙ ap (λ (l : List NodeEntry). var_in (leaves ++ l) (group_of ((num, bytes) ∷ [])) (behind ++ block_body little w (y ∷ ys) ∷ [])) (entries_of leaves (y ∷ ys) place)

  pub records_taken : (xs : List (ℕ × List ℕ)) (leaves : List NodeEntry) (g : List (ℕ × List ℕ)) (behind : List (List ℕ)) → Each (λ pair. FineRecord w pair.0 pair.1) xs
      → RecordsTaken leaves g behind xs (run_from (var_in leaves (group_of g) behind) (map (record_event w) xs))
  records_taken [] leaves g behind f = record {
    named = leaves;
    group = g;
    after = behind;
    is = refl;
    bodies = ap (λ (l : List (List ℕ)). behind ++ l) (bodies_of leaves g);
    leaves_are = ap (λ (l : List NodeEntry). leaves ++ l) (entries_of leaves g (size (var_in leaves (group_of g) behind)));
  }
  records_taken ((num, bytes) ∷ xs) leaves [] behind f =
      let r = records_taken xs leaves ((num, bytes) ∷ []) behind f.1 in
      record {
        named = r.named;
        group = r.group;
        after = r.after;
        is = ap (λ (t : State). run_from t (map (record_event w) xs)) (begins_group leaves behind num bytes) ∙ r.is;
        bodies = r.bodies;
        leaves_are = r.leaves_are;
      }
  records_taken ((num, bytes) ∷ xs) leaves (y ∷ ys) behind f = elim (either (joining (y ∷ ys) (num, bytes))) [
    | inl t ↦
        let r = records_taken xs leaves ((y ∷ ys) ++ (num, bytes) ∷ []) behind f.1 in
        let one : blocks_on ((y ∷ ys) ++ (num, bytes) ∷ []) xs ≡ blocks_on (y ∷ ys) ((num, bytes) ∷ xs) = sym (ap (λ (j : Bool). if j then grouped_on joining ((y ∷ ys) ++ (num, bytes) ∷ []) xs else (y ∷ ys) ∷ grouped_on joining ((num, bytes) ∷ []) xs) t) in
        record {
          named = r.named;
          group = r.group;
          after = r.after;
          is = ap (λ (t : State). run_from t (map (record_event w) xs)) (joins_group leaves y ys behind num bytes (f.0).whole t) ∙ r.is;
          bodies = r.bodies ∙ ap (λ (l : List (List (ℕ × List ℕ))). behind ++ map (block_body little w) l) one;
          leaves_are = r.leaves_are ∙ ap (λ (l : List (List (ℕ × List ℕ))). leaves ++ blocks_ranged little w (size (var_in leaves (group_of (y ∷ ys)) behind)) l) one;
        }
    | inr t ↦
        let place = size (var_in leaves (group_of (y ∷ ys)) behind) in
        let own = block_body little w (y ∷ ys) in
        let more = blocks_ranged little w place ((y ∷ ys) ∷ []) in
        let r = records_taken xs (leaves ++ more) ((num, bytes) ∷ []) (behind ++ own ∷ []) f.1 in
        let one : (y ∷ ys) ∷ grouped_on joining ((num, bytes) ∷ []) xs ≡ blocks_on (y ∷ ys) ((num, bytes) ∷ xs) = sym (ap (λ (j : Bool). if j then grouped_on joining ((y ∷ ys) ++ (num, bytes) ∷ []) xs else (y ∷ ys) ∷ grouped_on joining ((num, bytes) ∷ []) xs) t) in
        let next : size (var_in (leaves ++ more) (group_of ((num, bytes) ∷ [])) (behind ++ own ∷ [])) ≡ place + length (whole_record own) = size_on leaves (leaves ++ more) (group_of (y ∷ ys)) (group_of ((num, bytes) ∷ [])) behind (own ∷ []) ∙ ap (λ (l : List ℕ). place + length l) (append-nil (whole_record own)) in
        record {
          named = r.named;
          group = r.group;
          after = r.after;
          is = ap (λ (t : State). run_from t (map (record_event w) xs)) (closes_group leaves y ys behind num bytes (f.0).whole t) ∙ r.is;
          bodies = r.bodies ∙ append_assoc behind (own ∷ []) (map (block_body little w) (grouped_on joining ((num, bytes) ∷ []) xs)) ∙ ap (λ (l : List (List (ℕ × List ℕ))). behind ++ map (block_body little w) l) one;
          leaves_are =
              r.leaves_are
              ∙ append_assoc leaves more (blocks_ranged little w (size (var_in (leaves ++ more) (group_of ((num, bytes) ∷ [])) (behind ++ own ∷ []))) (grouped_on joining ((num, bytes) ∷ []) xs))
              ∙ ap (λ (p : ℕ). leaves ++ (more ++ blocks_ranged little w p (grouped_on joining ((num, bytes) ∷ []) xs))) next
              ∙ ap (λ (l : List (List (ℕ × List ℕ))). leaves ++ blocks_ranged little w place l) one;
        }
  ]
