-- The events of variables, taken one after the other, make the records of all variables of a kind.
use Rattle.std.proofs.Common.{Bool, List, None, Some, [], ap, ap₂, append_assoc, append-nil, arith, length, map, max, refl, replicate, subst, suc, sym, ℕ, ◌++◌, ◌+◌, ◌<◌, ◌∙◌, ◌∷◌, ◌≡◌}
use Rattle.std.proofs.lemmas.List.{length-append, length-replicate}
use Rattle.std.specs.declared.option.Option.{Option}
use Rattle.std.specs.List.{enumerate_from, flat_map, fold}
use Rattle.std.specs.Option.{is_some, unwrap_or}
use Rattle.std.specs.Prelude.{if◌then◌else◌}
use Rattle.byteorder.specs.Endian.{big_bytes}
use Rattle.cdf_edits.specs.Index.Blocks.{block_count, record_length}
use Rattle.cdf_format.specs.Records.{past, record_size, vdr_name}
use Rattle.cdf_format.specs.Shape.{Each}
use Rattle.cdf_model.specs.declared.kinds.Kind.{Kind}
use Rattle.cdf_model.specs.declared.kinds.Kind.TheVariants.{R, Z}
use Rattle.cdf_model.specs.ByteOrder.{turned}
use Rattle.cdf_model.specs.DataSet.{Variable, extent}
use Rattle.cdf_model.specs.Events.{record_event, variable_event, variable_events}
use Rattle.cdf_model.specs.Limits.{level_limit}
use Rattle.cdf_writer.specs.Bodies.{descriptor_of, name_bytes, own_dims, pad_bytes, variable_flags, vary_code, whole_record}
use Rattle.cdf_writer.specs.Fine.{FineVariable}
use Rattle.cdf_writer.specs.Laying.{behind_vdr, block_bodies, blocks_of, blocks_ranged, cpr_bodies, cpr_link, index_bodies, index_root, laid_size, leaves_at, nodes_place, past_variable, past_vdr, root_of, variable_bodies, variables_bodies, vdr_size}
use Rattle.cdf_writer.specs.Progress.{State, count_of, finish, finish_in, finished_bodies, finished_nodes, finished_place, finished_root, flags_of, group_bodies, group_entries, most_records, next_if, own_of, r_extent, run_from, size, step, variable_opened, vdr_made, vdr_opened, vdr_rest, vdr_tail, with_variable}
use Rattle.cdf_writer.specs.Shown.{IsStarted}
use Rattle.cdf_writer.specs.declared.bodies.Descriptor.{Descriptor}
use Rattle.cdf_writer.specs.declared.bodies.NodeEntry.{NodeEntry}
use Rattle.cdf_writer.specs.declared.progress.FileState.{FileState}
use Rattle.cdf_writer.specs.declared.progress.OpenVariable.{OpenVariable}
use Rattle.cdf_writer.specs.declared.progress.Part.{Part}
use Rattle.cdf_writer.specs.declared.progress.Part.TheVariants as parts
unfoldable use Rattle.cdf_writer.specs.Bodies.{vdr_body, vdr_front}
use Rattle.cdf_writer.proofs.AttributesTaken.{Rests, end_of, first_of, first_stays, next_here, resting, resting_size, run_append, started_step}
use Rattle.cdf_writer.proofs.RecordsTaken.{RecordsTaken, group_of, records_taken, var_in}
use Rattle.cdf_writer.proofs.Stands.{size-append, whole_size}
use Rattle.cdf_writer.proofs.VariablesRead.{variable_end}
use Rattle.cdf_writer.proofs.Vdr.{body_size}

flags_are : (vary : Bool) (pad : Option (List ℕ)) (rle : Bool) → flags_of vary (is_some pad) rle ≡ variable_flags vary pad rle
flags_are vary None rle = refl
flags_are vary (Some bytes) rle = refl

-- what follows the Name, in one list
split_words : (xs ys : List ℕ) → flat_map (big_bytes 4) (xs ++ ys) ≡ flat_map (big_bytes 4) xs ++ flat_map (big_bytes 4) ys
split_words [] ys = refl
split_words (x ∷ xs) ys = ap (λ (l : List ℕ). big_bytes 4 x ++ l) (split_words xs ys) ∙ sym (append_assoc (big_bytes 4 x) (flat_map (big_bytes 4) xs) (flat_map (big_bytes 4) ys))

pad_is : (little : Bool) (w : Variable) → (if is_some w.pad then turned w.type little (unwrap_or w.pad []) else []) ≡ pad_bytes little w
pad_is little w = of w.pad
  where
    of : (pad : Option (List ℕ)) → (if is_some pad then turned w.type little (unwrap_or pad []) else []) ≡ elim pad [ None ↦ [] | Some bytes ↦ turned w.type little bytes ]
    of None = refl
    of (Some bytes) = refl

most_is : (w : Variable) (long : ℕ) → long ≡ record_length w → most_records w.vary w.blocking long ≡ block_count w
most_is w long e = ap (λ (l : ℕ). most_records w.vary w.blocking l) e

module _ (file : FileState) (cdr gdr : List ℕ) (finished : List (List ℕ)) (kind : Kind) (n : ℕ) (w : Variable) (fine : FineVariable w) where
  abbrev place : ℕ
  place = end_of cdr gdr finished

  abbrev start : ℕ
  start = size (resting file cdr gdr finished)

  abbrev own : Descriptor
  own = own_of kind n w.type w.elems (flags_of w.vary (is_some w.pad) w.rle) w.sparse w.blocking w.max_rec

  abbrev tail : List ℕ
  tail = vdr_tail kind file.little w.name w.type w.dims w.varys (is_some w.pad) (unwrap_or w.pad [])

  abbrev whole : FileState
  whole = with_variable kind start w.max_rec file

  abbrev opened : OpenVariable
  opened = variable_opened start own w.vary w.rle tail

  abbrev room : State
  room = record { file = whole; part = parts.Between; cdr = cdr; gdr = gdr; finished = finished; room = replicate (vdr_rest tail) 0 ∷ []; behind = [] }

  abbrev past_here : ℕ
  past_here = past_vdr kind file.little place w

  taken : RecordsTaken room opened w refl (most_is w) [] [] (cpr_bodies w.rle) w.recs (run_from (var_in room opened w refl (most_is w) [] (group_of room opened w refl (most_is w) []) (cpr_bodies w.rle)) (map (record_event w) w.recs))
  taken = records_taken room opened w refl (most_is w) w.recs [] [] (cpr_bodies w.rle) fine.records

  abbrev last : OpenVariable
  last = record opened { leaves = taken.named; group = group_of room opened w refl (most_is w) taken.group }

  abbrev done : State
  done = record room { part = parts.Variable last; behind = taken.after }

  body_is : (next root cpr : ℕ) → vdr_front own next root cpr ++ tail ≡ vdr_body kind file.little n next root cpr w
  unfolding vdr_body
  body_is next root cpr =
      let front = vdr_front (descriptor_of kind n w) next root cpr in
      let name = name_bytes vdr_name w.name in
      let dims = flat_map (big_bytes 4) (own_dims kind w.dims) in
      let varys = flat_map (big_bytes 4) (map vary_code w.varys) in
      let words = flat_map (big_bytes 4) (own_dims kind w.dims ++ map vary_code w.varys) in
      let sides : front ++ (name ++ dims ++ varys) ≡ front ++ name ++ words =
      ap (λ (l : List ℕ). front ++ l) (append_assoc name dims varys ∙ ap (λ (l : List ℕ). name ++ l) (sym (split_words (own_dims kind w.dims) (map vary_code w.varys)))) ∙ sym (append_assoc front name words) in
      ap (λ (f : ℕ). vdr_front (own_of kind n w.type w.elems f w.sparse w.blocking w.max_rec) next root cpr ++ tail) (flags_are w.vary w.pad w.rle)
      ∙ ap (λ (l : List ℕ). front ++ (name ++ dims ++ varys ++ l)) (pad_is file.little w)
      ∙ sym (append_assoc front (name ++ dims ++ varys) (pad_bytes file.little w))
      ∙ ap (λ (l : List ℕ). l ++ pad_bytes file.little w) sides

  front_long : (next root cpr : ℕ) → length (vdr_front own next root cpr) ≡ 76
  unfolding vdr_front
  front_long next root cpr = omega arith

  -- where its parts stand
  tail_long : past record_size + vdr_rest tail ≡ vdr_size kind file.little w
  tail_long = omega (arith, ap (λ (b : List ℕ). 8 + length b) (body_is 0 0 0), body_size kind file.little n 0 0 0 w fine, front_long 0 0 0, length-append (vdr_front own 0 0 0) tail)

  abbrev zeros : List ℕ
  zeros = replicate (vdr_rest tail) 0

  past_size : size (record room { part = parts.Variable opened; behind = [] }) ≡ past_here
  past_size =
      let front = cdr ∷ gdr ∷ finished in
      omega (arith, size-append front ((zeros ∷ []) ++ []), ap length (append-nil (whole_record zeros)), whole_size zeros, length-replicate {A = ℕ} (vdr_rest tail) 0, tail_long)

  size_with : (v : OpenVariable) (more : List (List ℕ)) → size (record room { part = parts.Variable v; behind = more }) ≡ past_here + laid_size more
  size_with v more =
      let front = cdr ∷ gdr ∷ finished in
      omega (arith, past_size, size-append front ((zeros ∷ []) ++ more), size-append front ((zeros ∷ []) ++ []), size-append (zeros ∷ []) more, ap length (append-nil (whole_record zeros)))

  bodies_are : taken.after ++ group_bodies last ≡ cpr_bodies w.rle ++ block_bodies file.little w
  bodies_are = taken.bodies

  leaves_are : taken.named ++ group_entries last (size done) ≡ leaves_at file.little past_here w
  leaves_are = taken.leaves_are ∙ ap (λ (p : ℕ). blocks_ranged file.little w p (blocks_of w)) (size_with opened (cpr_bodies w.rle))

  size_past : (v : OpenVariable) (after more : List (List ℕ)) → size (record room { part = parts.Variable v; behind = after }) + laid_size more ≡ past_here + laid_size (after ++ more)
  size_past v after more = omega (arith, size_with v after, size-append after more)

  nodes_at : size done + laid_size (group_bodies last) ≡ nodes_place file.little past_here w
  nodes_at = omega (arith, size_past last taken.after (group_bodies last), ap laid_size bodies_are, size-append (cpr_bodies w.rle) (block_bodies file.little w))

  behind_are : taken.after ++ finished_bodies last (size done) ≡ behind_vdr file.little past_here w
  behind_are =
      sym (append_assoc taken.after (group_bodies last) (finished_nodes last (size done)))
      ∙ ap₂ (λ (p : ℕ) (l : List NodeEntry). (taken.after ++ group_bodies last) ++ index_bodies level_limit p l) nodes_at leaves_are
      ∙ ap (λ (l : List (List ℕ)). l ++ index_bodies level_limit (nodes_place file.little past_here w) (leaves_at file.little past_here w)) bodies_are

  root_is : finished_root last (size done) ≡ root_of file.little past_here w
  root_is = ap₂ (λ (p : ℕ) (l : List NodeEntry). index_root level_limit p l) nodes_at leaves_are

  end_is : finished_place last (size done) ≡ past_variable kind file.little place w
  end_is = size_past last taken.after (finished_bodies last (size done)) ∙ ap (λ (l : List (List ℕ)). past_here + laid_size l) behind_are

  cpr_is : opened.cpr ≡ cpr_link past_here w.rle
  cpr_is = ap (λ (p : ℕ). if w.rle then p else 0xffffffffffffffff) (omega (arith, tail_long, resting_size file cdr gdr finished))

  abbrev next : ℕ
  next = next_if n (count_of kind file.counts) (past_variable kind file.little place w)

  vdr_is : vdr_made whole (finished_place last (size done)) (finished_root last (size done)) last ≡ vdr_body kind file.little n next (root_of file.little past_here w) (cpr_link past_here w.rle) w
  vdr_is =
      ap₂ (λ (e r : ℕ). vdr_front own (next_if n (count_of kind file.counts) e) r opened.cpr ++ tail) end_is root_is
      ∙ ap (λ (c : ℕ). vdr_front own next (root_of file.little past_here w) c ++ tail) cpr_is
      ∙ body_is next (root_of file.little past_here w) (cpr_link past_here w.rle)

  abbrev made : List (List ℕ)
  made = variable_bodies kind file.little n place next w

  finished_now : finish done ≡ resting whole cdr gdr (finished ++ made)
  finished_now = ap₂ (λ (b : List ℕ) (xs : List (List ℕ)). resting whole cdr gdr (finished ++ b ∷ xs)) vdr_is behind_are

  file_kept : (s : State) → (finish s).file ≡ s.file
  file_kept s = of s.part
    where
      of : (p : Part) → (finish_in p s).file ≡ s.file
      of parts.Start = refl
      of parts.Between = refl
      of (parts.Attribute a) = refl
      of (parts.Variable v) = refl

  ran : (s : State) → IsStarted s.part → finish s ≡ resting file cdr gdr finished → run_from s (variable_events kind (n, w)) ≡ done
  ran s started e =
      let same : s.file ≡ file = sym (file_kept s) ∙ ap (λ (f : State). f.file) e in
      let event = variable_event kind n w in
      let one : step s event ≡ vdr_opened (resting file cdr gdr finished) own w.vary w.rle tail =
      started_step s event started
      ∙ ap₂ (λ (f : State) (x : FileState). vdr_opened f own w.vary w.rle (vdr_tail kind x.little w.name w.type w.dims w.varys (is_some w.pad) (unwrap_or w.pad []))) e same in
      ap (λ (f : State). run_from f (map (record_event w) w.recs)) one ∙ taken.is

  pub variable_taken : (s : State) → IsStarted s.part → finish s ≡ resting file cdr gdr finished → Rests (run_from s (variable_events kind (n, w))) whole cdr gdr (finished ++ made)
  variable_taken s started e =
      let r = ran s started e in
      record { started = subst (λ (t : State). IsStarted t.part) (sym r) tt; is = ap finish r ∙ finished_now }

  pub made_long : end_of cdr gdr (finished ++ made) ≡ past_variable kind file.little place w
  made_long = omega (arith, size-append (cdr ∷ gdr ∷ finished) made, variable_end kind file.little w fine n place next)

-- ---- all of a kind

module _ (kind : Kind) (cdr gdr : List ℕ) where
  -- with these variables from a place on
  abbrev pub r_all : Kind → ℕ → List Variable → FileState → ℕ
  r_all R place ws file = first_of file.r place ws
  r_all Z place ws file = file.r

  abbrev pub z_all : Kind → ℕ → List Variable → FileState → ℕ
  z_all R place ws file = file.z
  z_all Z place ws file = first_of file.z place ws

  abbrev pub extent_all : Kind → List Variable → ℕ → ℕ
  extent_all R ws e = fold max e (map (λ w. extent w.max_rec) ws)
  extent_all Z ws e = e

  abbrev pub with_variables : FileState → ℕ → List Variable → FileState
  with_variables file place ws = record file { r = r_all kind place ws file; z = z_all kind place ws file; extent = extent_all kind ws file.extent }

  none_with : (file : FileState) (place : ℕ) → file ≡ with_variables file place []
  none_with file place = of kind
    where
      of : (k : Kind) → file ≡ record file { r = r_all k place [] file; z = z_all k place [] file; extent = extent_all k [] file.extent }
      of R = refl
      of Z = refl

  more_with : (file : FileState) (w : Variable) (place here there : ℕ) (more : List Variable) → 0 < place → here ≡ place → with_variables (with_variable kind here w.max_rec file) there more ≡ with_variables file place (w ∷ more)
  more_with file w place here there more some e = of kind
    where
      of : (k : Kind)
          → record (with_variable k here w.max_rec file) { r = r_all k there more (with_variable k here w.max_rec file); z = z_all k there more (with_variable k here w.max_rec file); extent = extent_all k more (r_extent k w.max_rec file) }
          ≡ record file { r = r_all k place (w ∷ more) file; z = z_all k place (w ∷ more) file; extent = extent_all k (w ∷ more) file.extent }
      of R = ap (λ (p : ℕ). record file { r = p; extent = fold max (max file.extent (extent w.max_rec)) (map (λ v. extent v.max_rec) more) }) (first_stays file.r place here there more some e)
      of Z = ap (λ (p : ℕ). record file { z = p }) (first_stays file.z place here there more some e)

  pub variables_taken : (ws : List Variable) (s : State) (file : FileState) (finished : List (List ℕ)) (n : ℕ) → Each FineVariable ws → n + length ws ≡ count_of kind file.counts
      → IsStarted s.part → finish s ≡ resting file cdr gdr finished
      → Rests (run_from s (flat_map (variable_events kind) (enumerate_from n ws))) (with_variables file (end_of cdr gdr finished) ws) cdr gdr (finished ++ variables_bodies kind file.little n (end_of cdr gdr finished) ws)
  variables_taken [] s file finished n f count started e = record { started = started; is = e ∙ ap₂ (λ (x : FileState) (xs : List (List ℕ)). resting x cdr gdr xs) (none_with file (end_of cdr gdr finished)) (sym (append-nil finished)) }
  variables_taken (w ∷ more) s file finished n f count started e =
      let place = end_of cdr gdr finished in
      let there = past_variable kind file.little place w in
      let next = next_if n (count_of kind file.counts) there in
      let own = variable_bodies kind file.little n place next w in
      let whole = with_variable kind (size (resting file cdr gdr finished)) w.max_rec file in
      let one = variable_taken file cdr gdr finished kind n w f.0 s started e in
      let t = run_from s (variable_events kind (n, w)) in
      let long = made_long file cdr gdr finished kind n w f.0 in
      let rest = variables_taken more t whole (finished ++ own) (n + 1) f.1 (omega (arith, count)) one.started one.is in
      let number : n + 1 ≡ suc n = omega arith in
      let link = next_here n (count_of kind file.counts) there more count in
      let behind : (finished ++ own) ++ variables_bodies kind file.little (n + 1) (end_of cdr gdr (finished ++ own)) more ≡ finished ++ variables_bodies kind file.little n place (w ∷ more) =
      append_assoc finished own (variables_bodies kind file.little (n + 1) (end_of cdr gdr (finished ++ own)) more)
      ∙ ap₂ (λ (k p : ℕ). finished ++ (own ++ variables_bodies kind file.little k p more)) number long
      ∙ ap (λ (l : ℕ). finished ++ (variable_bodies kind file.little n place l w ++ variables_bodies kind file.little (suc n) there more)) link in
      let some : 0 < place = omega arith in
      let same : with_variables whole (end_of cdr gdr (finished ++ own)) more ≡ with_variables file place (w ∷ more) = more_with file w place (size (resting file cdr gdr finished)) (end_of cdr gdr (finished ++ own)) more some (resting_size file cdr gdr finished) in
      let all : run_from s (flat_map (variable_events kind) (enumerate_from n (w ∷ more))) ≡ run_from t (flat_map (variable_events kind) (enumerate_from (n + 1) more)) = run_append s (variable_events kind (n, w)) (flat_map (variable_events kind) (enumerate_from (n + 1) more)) in
      record {
        started = subst (λ (x : State). IsStarted x.part) (sym all) rest.started;
        is = ap finish all ∙ rest.is ∙ ap₂ (λ (x : FileState) (xs : List (List ℕ)). resting x cdr gdr xs) same behind;
      }
