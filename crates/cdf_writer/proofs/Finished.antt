-- The bytes of an image once its open part is finished.
use Rattle.std.proofs.Common.{List, [], ap, append_assoc, append-nil, arith, length, refl, replicate, sym, ℕ, ◌++◌, ◌+◌, ◌∙◌, ◌∷◌, ◌≡◌}
use Rattle.std.proofs.lemmas.List.{length-append}
use Rattle.cdf_base.specs.Bytes.{put}
use Rattle.cdf_format.specs.NewFile.{magic}
use Rattle.cdf_model.specs.declared.kinds.Scope.{Scope}
use Rattle.cdf_writer.specs.Bodies.{whole_record}
use Rattle.cdf_writer.specs.Laying.{laid, laid_size}
use Rattle.cdf_writer.specs.Progress.{State, adr_made, adr_rest, count_of, finish, finish_in, finished_bodies, finished_place, finished_root, held_bodies, image_in, image_of, next_if, records, size, vdr_made, vdr_rest}
use Rattle.cdf_writer.specs.Shown.{IsPlaced, IsStarted, RoomAt, finished_image}
use Rattle.cdf_writer.specs.declared.bodies.Descriptor.{Descriptor}
use Rattle.cdf_writer.specs.declared.bodies.EntryChain.{EntryChain}
use Rattle.cdf_writer.specs.declared.progress.FileState.{FileState}
use Rattle.cdf_writer.specs.declared.progress.OpenAttribute.{OpenAttribute}
use Rattle.cdf_writer.specs.declared.progress.OpenVariable.{OpenVariable}
use Rattle.cdf_writer.specs.declared.progress.Part.{Part}
use Rattle.cdf_writer.specs.declared.progress.Part.TheVariants as parts
unfoldable use Rattle.cdf_writer.specs.Bodies.{adr_front, vdr_front}
use Rattle.cdf_writer.proofs.Placed.{room_filled}
use Rattle.cdf_writer.proofs.Stands.{laid-append}

-- all bytes of a state that began
abbrev pub all_of : State → List ℕ
all_of s = magic ++ laid (records s)

pub image_is : (s : State) → IsStarted s.part → image_of s ≡ all_of s
image_is s started = of s.part started
  where
    of : (p : Part) → IsStarted p → image_in p (all_of s) ≡ all_of s
    of parts.Start h = absurd h
    of parts.Between h = refl
    of (parts.Attribute a) h = refl
    of (parts.Variable v) h = refl

pub all_long : (s : State) → length (all_of s) ≡ size s
all_long s = length-append magic (laid (records s))

-- a record is written into its room, behind which others came
filled : (s : State) (rest place : ℕ) (last : List (List ℕ)) (body : List ℕ) → RoomAt s place rest → length body ≡ rest
    → put (all_of s ++ laid last) (place + 8) body ≡ magic ++ laid ((s.cdr ∷ s.gdr ∷ (s.finished ++ body ∷ (s.behind ++ last))) ++ ([] ++ []))
filled s rest place last body at long =
    let front = s.cdr ∷ s.gdr ∷ s.finished in
    let zeros : List ℕ = replicate rest 0 in
    let behind = s.behind ++ last in
    let before : List ℕ = magic ++ laid front in
    let rooms : laid (s.room ++ s.behind) ≡ whole_record zeros ++ laid s.behind = ap (λ (r : List (List ℕ)). laid (r ++ s.behind)) at.room_is in
    let start : all_of s ++ laid last ≡ before ++ (whole_record zeros ++ laid behind) =
    ap (λ (l : List ℕ). (magic ++ l) ++ laid last) (laid-append front (s.room ++ s.behind) ∙ ap (λ (l : List ℕ). laid front ++ l) rooms)
    ∙ ap (λ (l : List ℕ). l ++ laid last) (sym (append_assoc magic (laid front) (whole_record zeros ++ laid s.behind)))
    ∙ append_assoc before (whole_record zeros ++ laid s.behind) (laid last)
    ∙ ap (λ (l : List ℕ). before ++ l) (append_assoc (whole_record zeros) (laid s.behind) (laid last) ∙ ap (λ (l : List ℕ). whole_record zeros ++ l) (sym (laid-append s.behind last))) in
    let place_is : place ≡ length before = at.place_is ∙ sym (length-append magic (laid front)) in
    let end : before ++ (whole_record body ++ laid behind) ≡ magic ++ laid ((s.cdr ∷ s.gdr ∷ (s.finished ++ body ∷ behind)) ++ ([] ++ [])) =
    append_assoc magic (laid front) (whole_record body ++ laid behind)
    ∙ ap (λ (l : List ℕ). magic ++ l) (sym (laid-append front (body ∷ behind)) ∙ ap laid (sym (append-nil (front ++ body ∷ behind)))) in
    ap (λ (l : List ℕ). put l (place + 8) body) start ∙ room_filled before (laid behind) rest place body long place_is ∙ end

adr_front_long : (n next : ℕ) (scope : Scope) (g z : EntryChain) → length (adr_front n next scope g z) ≡ 60
unfolding adr_front
adr_front_long n next scope g z = omega arith

vdr_front_long : (own : Descriptor) (next root cpr : ℕ) → length (vdr_front own next root cpr) ≡ 76
unfolding vdr_front
vdr_front_long own next root cpr = omega arith

pub adr_made_long : (file : FileState) (end : ℕ) (a : OpenAttribute) → length (adr_made file end a) ≡ adr_rest a.name
adr_made_long file end a = omega (arith, length-append (adr_front a.num (next_if a.num file.counts.attributes end) a.scope a.g a.z) a.name, adr_front_long a.num (next_if a.num file.counts.attributes end) a.scope a.g a.z)

pub vdr_made_long : (file : FileState) (end root : ℕ) (v : OpenVariable) → length (vdr_made file end root v) ≡ vdr_rest v.tail
vdr_made_long file end root v = made (next_if v.own.num (count_of v.own.kind file.counts) end)
  where
    made : (next : ℕ) → length (vdr_front v.own next root v.cpr ++ v.tail) ≡ vdr_rest v.tail
    made next = omega (arith, length-append (vdr_front v.own next root v.cpr) v.tail, vdr_front_long v.own next root v.cpr)

-- what finishing writes
pub finished_is : (s : State) → IsPlaced s.part s → IsStarted s.part → finished_image s.file s.part (all_of s) ≡ all_of (finish s)
finished_is s placed started = of s.part placed started
  where
    of : (p : Part) → IsPlaced p s → IsStarted p → finished_image s.file p (all_of s) ≡ all_of (finish_in p s)
    of parts.Start h started = absurd started
    of parts.Between h started = refl
    of (parts.Attribute a) h started =
        let last = held_bodies a 0 in
        ap (λ (n : ℕ). put (all_of s ++ laid last) (a.place + 8) (adr_made s.file (n + laid_size last) a)) (all_long s)
        ∙ filled s (adr_rest a.name) a.place last (adr_made s.file (size s + laid_size last) a) h (adr_made_long s.file (size s + laid_size last) a)
    of (parts.Variable v) h started =
        ap (λ (n : ℕ). put (all_of s ++ laid (finished_bodies v n)) (v.place + 8) (vdr_made s.file (finished_place v n) (finished_root v n) v)) (all_long s)
        ∙ filled s (vdr_rest v.tail) v.place (finished_bodies v (size s)) (vdr_made s.file (finished_place v (size s)) (finished_root v (size s)) v) h (vdr_made_long s.file (finished_place v (size s)) (finished_root v (size s)) v)
