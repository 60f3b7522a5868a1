-- What is shown after each event.
use Rattle.std.proofs.Common.{Bool, List, [], ap, ap₂, append_assoc, arith, length, refl, replicate, subst, sym, ℕ, ◌++◌, ◌+◌, ◌∙◌, ◌∷◌, ◌≡◌}
use Rattle.std.proofs.lemmas.List.{length-append}
use Rattle.cdf_base.specs.Bytes.{put}
use Rattle.cdf_format.specs.NewFile.{magic}
use Rattle.cdf_format.specs.Records.{adr_name}
use Rattle.cdf_model.specs.declared.data_type.DataType.{DataType}
use Rattle.cdf_model.specs.declared.head.Head.{Head}
use Rattle.cdf_model.specs.declared.kinds.Scope.{Scope}
use Rattle.cdf_model.specs.ByteOrder.{turned}
use Rattle.cdf_writer.specs.Bodies.{name_bytes, whole_record}
use Rattle.cdf_writer.specs.Laying.{cpr_bodies, laid, laid_size}
use Rattle.cdf_writer.specs.Progress.{State, added, added_bodies, adr_opened, adr_rest, attribute_opened, begun, ended, entry_added, entry_in, entry_place, finish, first_place, gdr_made, held_bodies, held_next, record_added, record_in, size, variable_opened, vdr_opened, vdr_rest, with_entry, with_variable}
use Rattle.cdf_writer.specs.Shown.{IsStarted, Shows, finished_image}
use Rattle.cdf_writer.specs.declared.bodies.Descriptor.{Descriptor}
use Rattle.cdf_writer.specs.declared.progress.FileState.{FileState}
use Rattle.cdf_writer.specs.declared.progress.Held.{Held}
use Rattle.cdf_writer.specs.declared.progress.OpenAttribute.{OpenAttribute}
use Rattle.cdf_writer.specs.declared.progress.OpenVariable.{OpenVariable}
use Rattle.cdf_writer.specs.declared.progress.Part.{Part}
use Rattle.cdf_writer.specs.declared.progress.Part.TheVariants as parts
use Rattle.cdf_writer.proofs.Finished.{all_long, all_of}
use Rattle.cdf_writer.proofs.Placed.{file_kept, gdr_made_long, record_filled}
use Rattle.cdf_writer.proofs.Stands.{whole_size}
use Rattle.cdf_writer.proofs.StepSizes.{Sound, adr_sound, begun_sound, ended_sound, entry_sound, record_sound, rested, vdr_sound}
use Rattle.cdf_writer.proofs.TakenEvents.{behind_bytes, bytes_are, finished_bytes, opened_bytes, shown_again, shown_size, sound_of}

-- one entry more
pub entry_shows : (b now : List ℕ) (file : FileState) (a next : OpenAttribute) (s : State) (held : Held) → Shows b file (parts.Attribute a) s
    → now ≡ b ++ laid (held_bodies a (held_next a.held held.in_z (length b + laid_size (held_bodies a 0)))) → next ≡ with_entry (length b + laid_size (held_bodies a 0)) held a
    → Shows now file (parts.Attribute next) (entry_in s.part s held)
entry_shows b now file a next s held h image attribute =
    let long : length b ≡ size s = shown_size h tt in
    let bytes : b ≡ all_of s = bytes_are h tt in
    let after : State = entry_added s a held in
    let sound : Sound after = subst (λ (p : Part). Sound (entry_in p s held)) (sym h.part_is) (entry_sound s held (sound_of h tt)) in
    let shown : Shows now file (parts.Attribute next) after =
    shown_again after
    (image
    ∙ (λ i. bytes i ++ laid (held_bodies a (held_next a.held held.in_z (long i + laid_size (held_bodies a 0)))))
    ∙ behind_bytes s (held_bodies a (held_next a.held held.in_z (entry_place s a))))
    h.file_is
    (ap (λ (x : OpenAttribute). parts.Attribute x) attribute ∙ ap (λ (n : ℕ). parts.Attribute (with_entry (n + laid_size (held_bodies a 0)) held a)) long)
    sound in
    subst (λ (p : Part). Shows now file (parts.Attribute next) (entry_in p s held)) h.part_is shown

-- one record more
pub record_shows : (b now : List ℕ) (file : FileState) (v next : OpenVariable) (s : State) (num : ℕ) (t : DataType) (bytes : List ℕ) → Shows b file (parts.Variable v) s
    → now ≡ b ++ laid (added_bodies v num (length bytes)) → next ≡ added (length b) v num (turned t file.little bytes) (length bytes)
    → Shows now file (parts.Variable next) (record_in s.part s num t bytes)
record_shows b now file v next s num t bytes h image variable =
    let long : length b ≡ size s = shown_size h tt in
    let all : b ≡ all_of s = bytes_are h tt in
    let after : State = record_added s v num t bytes in
    let sound : Sound after = subst (λ (p : Part). Sound (record_in p s num t bytes)) (sym h.part_is) (record_sound s num t bytes (sound_of h tt)) in
    let shown : Shows now file (parts.Variable next) after =
    shown_again after
    (image ∙ ap (λ (x : List ℕ). x ++ laid (added_bodies v num (length bytes))) all ∙ behind_bytes s (added_bodies v num (length bytes)))
    h.file_is
    (ap (λ (x : OpenVariable). parts.Variable x) variable ∙ ap₂ (λ (n : ℕ) (f : FileState). parts.Variable (added n v num (turned t f.little bytes) (length bytes))) long h.file_is)
    sound in
    subst (λ (p : Part). Shows now file (parts.Variable next) (record_in p s num t bytes)) h.part_is shown

-- an attribute, after the open part is finished
pub attribute_shows : (b mid now : List ℕ) (file next : FileState) (part : Part) (a : OpenAttribute) (s : State) (n : ℕ) (name : List ℕ) (scope : Scope) → Shows b file part s → IsStarted part
    → mid ≡ finished_image file part b → now ≡ mid ++ laid (replicate (adr_rest (name_bytes adr_name name)) 0 ∷ []) → next ≡ record file { attributes = first_place file.attributes (length mid) } → a ≡ attribute_opened (length mid) n name scope
    → Shows now next (parts.Attribute a) (adr_opened (finish s) n name scope)
attribute_shows b mid now file next part a s n name scope h started middle image file_is attribute =
    let f = finish s in
    let r = rested s (sound_of h started) in
    let zeros : List ℕ = replicate (adr_rest (name_bytes adr_name name)) 0 in
    let bytes : mid ≡ all_of f = middle ∙ finished_bytes b file part s h started in
    let long : length mid ≡ size f = ap length bytes ∙ all_long f in
    let kept : file ≡ f.file = h.file_is ∙ sym (file_kept s) in
    shown_again (adr_opened f n name scope)
    (image
    ∙ ap (λ (x : List ℕ). x ++ laid (zeros ∷ [])) bytes
    ∙ opened_bytes f zeros [] r.room_none r.behind_none
    ∙ ap (λ (x : List (List ℕ)). all_of (record (adr_opened f n name scope) { behind = x })) (sym r.behind_none))
    (file_is ∙ ap₂ (λ (x : FileState) (k : ℕ). record x { attributes = first_place x.attributes k }) kept long)
    (ap (λ (x : OpenAttribute). parts.Attribute x) attribute ∙ ap (λ (k : ℕ). parts.Attribute (attribute_opened k n name scope)) long)
    (adr_sound f n name scope r.room_none r.behind_none r.cdr_is r.gdr_is)

-- a variable, after the open part is finished
pub variable_shows : (b mid now : List ℕ) (file next : FileState) (part : Part) (v : OpenVariable) (s : State) (own : Descriptor) (vary rle : Bool) (tail : List ℕ) → Shows b file part s → IsStarted part
    → mid ≡ finished_image file part b → now ≡ mid ++ laid (replicate (vdr_rest tail) 0 ∷ cpr_bodies rle) → next ≡ with_variable own.kind (length mid) own.max_rec file → v ≡ variable_opened (length mid) own vary rle tail
    → Shows now next (parts.Variable v) (vdr_opened (finish s) own vary rle tail)
variable_shows b mid now file next part v s own vary rle tail h started middle image file_is variable =
    let f = finish s in
    let r = rested s (sound_of h started) in
    let zeros : List ℕ = replicate (vdr_rest tail) 0 in
    let bytes : mid ≡ all_of f = middle ∙ finished_bytes b file part s h started in
    let long : length mid ≡ size f = ap length bytes ∙ all_long f in
    let kept : file ≡ f.file = h.file_is ∙ sym (file_kept s) in
    shown_again (vdr_opened f own vary rle tail)
    (image ∙ ap (λ (x : List ℕ). x ++ laid (zeros ∷ cpr_bodies rle)) bytes ∙ opened_bytes f zeros (cpr_bodies rle) r.room_none r.behind_none)
    (file_is ∙ ap₂ (λ (x : FileState) (k : ℕ). with_variable own.kind k own.max_rec x) kept long)
    (ap (λ (x : OpenVariable). parts.Variable x) variable ∙ ap (λ (k : ℕ). parts.Variable (variable_opened k own vary rle tail)) long)
    (vdr_sound f own vary rle tail r.room_none r.behind_none r.cdr_is r.gdr_is)

-- the GDR is written over what stands in its place
gdr_filled : (f : State) (body : List ℕ) → length f.cdr ≡ 304 → length body ≡ length f.gdr → put (all_of f) 328 body ≡ all_of (record f { gdr = body })
gdr_filled f body cdr long =
    let front : List ℕ = magic ++ whole_record f.cdr in
    let back : List ℕ = laid (f.finished ++ (f.room ++ f.behind)) in
    let place : 320 ≡ length front = omega (arith, length-append magic (whole_record f.cdr), whole_size f.cdr, cdr) in
    ap (λ (l : List ℕ). put l 328 body) (sym (append_assoc magic (whole_record f.cdr) (whole_record f.gdr ++ back)))
    ∙ record_filled front back f.gdr 320 body long place
    ∙ append_assoc magic (whole_record f.cdr) (whole_record body ++ back)

-- the end, after the open part is finished
pub end_shows : (b mid now : List ℕ) (file : FileState) (part : Part) (s : State) → Shows b file part s → IsStarted part
    → mid ≡ finished_image file part b → now ≡ put mid 328 (gdr_made file (length mid)) → Shows now file parts.Between (ended (finish s))
end_shows b mid now file part s h started middle image =
    let f = finish s in
    let r = rested s (sound_of h started) in
    let bytes : mid ≡ all_of f = middle ∙ finished_bytes b file part s h started in
    let long : length mid ≡ size f = ap length bytes ∙ all_long f in
    let kept : file ≡ f.file = h.file_is ∙ sym (file_kept s) in
    shown_again (ended f)
    (image
    ∙ (λ i. put (bytes i) 328 (gdr_made (kept i) (long i)))
    ∙ gdr_filled f (gdr_made f.file (size f)) r.cdr_is (gdr_made_long f.file (size f) ∙ sym r.gdr_is))
    kept
    (sym r.between)
    (ended_sound f r)

-- the head
pub begun_shows : (now : List ℕ) (file : FileState) (head : Head) → now ≡ magic ++ laid ((begun head).cdr ∷ (begun head).gdr ∷ []) → file ≡ (begun head).file → Shows now file parts.Between (begun head)
begun_shows now file head image file_is = shown_again (begun head) image file_is refl (begun_sound head)
