-- What each event leaves: rooms in their places, and records of the same length, with some more behind them.
use Rattle.std.proofs.Common.{Bool, List, [], ap, ap₂, append_assoc, append-nil, length, refl, replicate, subst, sym, ℕ, ◌++◌, ◌+◌, ◌∙◌, ◌∷◌, ◌≡◌}
use Rattle.std.proofs.lemmas.List.{length-replicate, map-append}
use Rattle.cdf_format.specs.Records.{adr_name}
use Rattle.cdf_model.specs.declared.event.Event.{Event}
use Rattle.cdf_model.specs.declared.event.Event.TheVariants as events
use Rattle.cdf_model.specs.declared.data_type.DataType.{DataType}
use Rattle.cdf_model.specs.declared.head.Head.{Head}
use Rattle.cdf_model.specs.ByteOrder.{turned}
use Rattle.cdf_model.specs.declared.kinds.Scope.{Scope}
use Rattle.cdf_writer.specs.Bodies.{name_bytes}
use Rattle.cdf_writer.specs.Laying.{cpr_bodies, laid_size}
use Rattle.cdf_writer.specs.Progress.{State, adr_made, adr_opened, adr_rest, begun, ended, entry_in, entry_place, finish, finish_in, finished_bodies, finished_place, finished_root, goes_on, held_bodies, held_next, record_in, records, run_from, size, vdr_made, vdr_opened, vdr_rest, vdr_tail, added_bodies, flags_of, is_in_z, own_of}
use Rattle.cdf_writer.specs.Shown.{IsPlaced, IsStarted, event_bodies, entry_bodies, finish_bodies, record_bodies}
use Rattle.cdf_writer.specs.declared.bodies.Descriptor.{Descriptor}
use Rattle.cdf_writer.specs.declared.progress.FileState.{FileState}
use Rattle.cdf_writer.specs.declared.progress.Held.{Held}
use Rattle.cdf_writer.specs.declared.progress.Part.{Part}
use Rattle.cdf_writer.specs.declared.progress.Part.TheVariants as parts
use Rattle.cdf_writer.proofs.AttributesTaken.{started_step}
use Rattle.cdf_writer.proofs.Finished.{adr_made_long, vdr_made_long}
use Rattle.cdf_writer.proofs.Placed.{cdr_kept, cdr_long, file_kept, gdr_kept, gdr_made_long, rests, room_long, size_rests}
use Rattle.cdf_writer.proofs.Sizes.{lengths}

-- a state that began
pub record Sound (s : State) : Type 0 where
  pub started : IsStarted s.part
  pub placed : IsPlaced s.part s
  pub cdr_is : length s.cdr ≡ 304
  pub gdr_is : length s.gdr ≡ 76 + length s.file.dims

-- ---- rooms stay in their places

pub adr_sound : (f : State) (n : ℕ) (name : List ℕ) (scope : Scope) → f.room ≡ [] → f.behind ≡ [] → length f.cdr ≡ 304 → length f.gdr ≡ 76 + length f.file.dims → Sound (adr_opened f n name scope)
adr_sound f n name scope room behind cdr gdr = record { started = tt; placed = record { place_is = size_rests f room behind; room_is = refl }; cdr_is = cdr; gdr_is = gdr }

pub vdr_sound : (f : State) (own : Descriptor) (vary rle : Bool) (tail : List ℕ) → f.room ≡ [] → f.behind ≡ [] → length f.cdr ≡ 304 → length f.gdr ≡ 76 + length f.file.dims → Sound (vdr_opened f own vary rle tail)
vdr_sound f own vary rle tail room behind cdr gdr = record { started = tt; placed = record { place_is = size_rests f room behind; room_is = refl }; cdr_is = cdr; gdr_is = gdr }

-- once it is finished
pub record Rested (f : State) : Type 0 where
  pub between : f.part ≡ parts.Between
  pub room_none : f.room ≡ []
  pub behind_none : f.behind ≡ []
  pub cdr_is : length f.cdr ≡ 304
  pub gdr_is : length f.gdr ≡ 76 + length f.file.dims

pub rested : (s : State) → Sound s → Rested (finish s)
rested s h = record {
  between = of s.part refl h.started;
  room_none = (rests s h.placed h.started).0;
  behind_none = (rests s h.placed h.started).1;
  cdr_is = ap length (cdr_kept s) ∙ h.cdr_is;
  gdr_is = ap length (gdr_kept s) ∙ h.gdr_is ∙ ap (λ (f : FileState). 76 + length f.dims) (sym (file_kept s));
}
  where
    of : (p : Part) → s.part ≡ p → IsStarted p → (finish_in p s).part ≡ parts.Between
    of parts.Start e h = absurd h
    of parts.Between e h = e
    of (parts.Attribute a) e h = refl
    of (parts.Variable v) e h = refl

pub ended_sound : (f : State) → Rested f → Sound (ended f)
ended_sound f r = record {
  started = subst IsStarted (sym r.between) tt;
  placed = subst (λ (p : Part). IsPlaced p (ended f)) (sym r.between) (r.room_none, r.behind_none);
  cdr_is = r.cdr_is;
  gdr_is = gdr_made_long f.file (size f);
}

pub entry_sound : (s : State) (held : Held) → Sound s → Sound (entry_in s.part s held)
entry_sound s held h = of s.part refl h.placed
  where
    of : (p : Part) → s.part ≡ p → IsPlaced p s → Sound (entry_in p s held)
    of parts.Start e placed = h
    of parts.Between e placed = h
    of (parts.Attribute a) e placed = record { started = tt; placed = record { place_is = placed.place_is; room_is = placed.room_is }; cdr_is = h.cdr_is; gdr_is = h.gdr_is }
    of (parts.Variable v) e placed = h

pub record_sound : (s : State) (num : ℕ) (t : DataType) (bytes : List ℕ) → Sound s → Sound (record_in s.part s num t bytes)
record_sound s num t bytes h = of s.part refl h.placed
  where
    of : (p : Part) → s.part ≡ p → IsPlaced p s → Sound (record_in p s num t bytes)
    of parts.Start e placed = h
    of parts.Between e placed = h
    of (parts.Attribute a) e placed = h
    of (parts.Variable v) e placed = record { started = tt; placed = record { place_is = placed.place_is; room_is = placed.room_is }; cdr_is = h.cdr_is; gdr_is = h.gdr_is }

pub goes_sound : (s : State) (e : Event) → Sound s → Sound (goes_on s e)
goes_sound s (events.Head head) h = h
goes_sound s (events.Attr n name scope) h = let r = rested s h in adr_sound (finish s) n name scope r.room_none r.behind_none r.cdr_is r.gdr_is
goes_sound s (events.Entry kind n t elems bytes) h = entry_sound s (record { in_z = is_in_z kind; num = n; t = t; elems = elems; stored = turned t s.file.little bytes }) h
goes_sound s (events.Var kind n name t elems vary dims varys sparse rle blocking max_rec has_pad pad) h =
    let r = rested s h in
    vdr_sound (finish s) (own_of kind n t elems (flags_of vary has_pad rle) sparse blocking max_rec) vary rle (vdr_tail kind s.file.little name t dims varys has_pad pad) r.room_none r.behind_none r.cdr_is r.gdr_is
goes_sound s (events.Rec n t elems bytes) h = record_sound s n t bytes h
goes_sound s (events.End attributes variables recs) h = ended_sound (finish s) (rested s h)

pub begun_sound : (h : Head) → Sound (begun h)
begun_sound h = record { started = tt; placed = (refl, refl); cdr_is = cdr_long h; gdr_is = room_long h }

-- ---- records keep their length

behind_sizes : (front room behind more : List (List ℕ)) → lengths (front ++ (room ++ (behind ++ more))) ≡ lengths (front ++ (room ++ behind)) ++ lengths more
behind_sizes front room behind more =
    ap lengths (ap (λ (l : List (List ℕ)). front ++ l) (sym (append_assoc room behind more)) ∙ sym (append_assoc front (room ++ behind) more))
    ∙ map-append length (front ++ (room ++ behind)) more

filled_sizes : (s : State) (rest : ℕ) (last : List (List ℕ)) (body : List ℕ) → s.room ≡ replicate rest 0 ∷ [] → length body ≡ rest
    → lengths ((s.cdr ∷ s.gdr ∷ (s.finished ++ body ∷ (s.behind ++ last))) ++ ([] ++ [])) ≡ lengths (records s) ++ lengths last
filled_sizes s rest last body room long =
    let front = s.cdr ∷ s.gdr ∷ s.finished in
    let zeros : List ℕ = replicate rest 0 in
    let same : length body ≡ length zeros = long ∙ sym (length-replicate {A = ℕ} rest 0) in
    ap lengths (append-nil (front ++ body ∷ (s.behind ++ last)))
    ∙ map-append length front (body ∷ (s.behind ++ last))
    ∙ ap (λ (k : ℕ). lengths front ++ k ∷ lengths (s.behind ++ last)) same
    ∙ sym (map-append length front (zeros ∷ (s.behind ++ last)))
    ∙ behind_sizes front (zeros ∷ []) s.behind last
    ∙ ap (λ (r : List (List ℕ)). lengths (front ++ (r ++ s.behind)) ++ lengths last) (sym room)

pub finish_sizes : (s : State) → Sound s → lengths (records (finish s)) ≡ lengths (records s) ++ lengths (finish_bodies s.part (size s))
finish_sizes s h = of s.part h.started h.placed
  where
    of : (p : Part) → IsStarted p → IsPlaced p s → lengths (records (finish_in p s)) ≡ lengths (records s) ++ lengths (finish_bodies p (size s))
    of parts.Start started placed = absurd started
    of parts.Between started placed = sym (append-nil (lengths (records s)))
    of (parts.Attribute a) started placed = filled_sizes s (adr_rest a.name) (held_bodies a 0) (adr_made s.file (size s + laid_size (held_bodies a 0)) a) placed.room_is (adr_made_long s.file (size s + laid_size (held_bodies a 0)) a)
    of (parts.Variable v) started placed = filled_sizes s (vdr_rest v.tail) (finished_bodies v (size s)) (vdr_made s.file (finished_place v (size s)) (finished_root v (size s)) v) placed.room_is (vdr_made_long s.file (finished_place v (size s)) (finished_root v (size s)) v)

opened_sizes : (f : State) (zeros : List ℕ) (more : List (List ℕ)) → f.room ≡ [] → f.behind ≡ [] → lengths ((f.cdr ∷ f.gdr ∷ f.finished) ++ ((zeros ∷ []) ++ more)) ≡ lengths (records f) ++ lengths (zeros ∷ more)
opened_sizes f zeros more room behind =
    let front = f.cdr ∷ f.gdr ∷ f.finished in
    map-append length front (zeros ∷ more)
    ∙ ap (λ (l : List (List ℕ)). lengths l ++ lengths (zeros ∷ more)) (sym (append-nil front))
    ∙ ap₂ (λ (r b : List (List ℕ)). lengths (front ++ (r ++ b)) ++ lengths (zeros ∷ more)) (sym room) (sym behind)

finish_more : (s : State) (more : List (List ℕ)) → Sound s → lengths (records (finish s)) ++ lengths more ≡ lengths (records s) ++ lengths (finish_bodies s.part (size s) ++ more)
finish_more s more h =
    ap (λ (l : List ℕ). l ++ lengths more) (finish_sizes s h)
    ∙ append_assoc (lengths (records s)) (lengths (finish_bodies s.part (size s))) (lengths more)
    ∙ ap (λ (l : List ℕ). lengths (records s) ++ l) (sym (map-append length (finish_bodies s.part (size s)) more))

pub goes_sizes : (s : State) (e : Event) → Sound s → lengths (records (goes_on s e)) ≡ lengths (records s) ++ lengths (event_bodies (size s) s.part s.file.little e)
goes_sizes s (events.Head head) h = sym (append-nil (lengths (records s)))
goes_sizes s (events.Attr n name scope) h =
    let r = rested s h in
    let zeros : List ℕ = replicate (adr_rest (name_bytes adr_name name)) 0 in
    ap (λ (b : List (List ℕ)). lengths (((finish s).cdr ∷ (finish s).gdr ∷ (finish s).finished) ++ ((zeros ∷ []) ++ b))) r.behind_none
    ∙ opened_sizes (finish s) zeros [] r.room_none r.behind_none ∙ finish_more s (zeros ∷ []) h
goes_sizes s (events.Entry kind n t elems bytes) h = of s.part
  where
    held : Held
    held = record { in_z = is_in_z kind; num = n; t = t; elems = elems; stored = turned t s.file.little bytes }

    of : (p : Part) → lengths (records (entry_in p s held)) ≡ lengths (records s) ++ lengths (entry_bodies (size s) p held)
    of parts.Start = sym (append-nil (lengths (records s)))
    of parts.Between = sym (append-nil (lengths (records s)))
    of (parts.Attribute a) = behind_sizes (s.cdr ∷ s.gdr ∷ s.finished) s.room s.behind (held_bodies a (held_next a.held held.in_z (entry_place s a)))
    of (parts.Variable v) = sym (append-nil (lengths (records s)))
goes_sizes s (events.Var kind n name t elems vary dims varys sparse rle blocking max_rec has_pad pad) h =
    let r = rested s h in
    let zeros : List ℕ = replicate (vdr_rest (vdr_tail kind s.file.little name t dims varys has_pad pad)) 0 in
    opened_sizes (finish s) zeros (cpr_bodies rle) r.room_none r.behind_none ∙ finish_more s (zeros ∷ cpr_bodies rle) h
goes_sizes s (events.Rec n t elems bytes) h = of s.part
  where
    of : (p : Part) → lengths (records (record_in p s n t bytes)) ≡ lengths (records s) ++ lengths (record_bodies p n (length bytes))
    of parts.Start = sym (append-nil (lengths (records s)))
    of parts.Between = sym (append-nil (lengths (records s)))
    of (parts.Attribute a) = sym (append-nil (lengths (records s)))
    of (parts.Variable v) = behind_sizes (s.cdr ∷ s.gdr ∷ s.finished) s.room s.behind (added_bodies v n (length bytes))
goes_sizes s (events.End attributes variables recs) h =
    let f = finish s in
    let r = rested s h in
    ap (λ (k : ℕ). length f.cdr ∷ k ∷ lengths (f.finished ++ (f.room ++ f.behind))) (gdr_made_long f.file (size f) ∙ sym r.gdr_is) ∙ finish_sizes s h

pub record Grows (s t : State) : Type 0 where
  pub more : List ℕ
  pub are : lengths (records t) ≡ lengths (records s) ++ more

pub run_grows : (s : State) (es : List Event) → Sound s → Grows s (run_from s es)
run_grows s [] h = record { more = []; are = sym (append-nil (lengths (records s))) }
run_grows s (e ∷ es) h =
    let own = lengths (event_bodies (size s) s.part s.file.little e) in
    let r = run_grows (goes_on s e) es (goes_sound s e h) in
    record {
      more = own ++ r.more;
      are = ap (λ (x : State). lengths (records (run_from x es))) (started_step s e h.started) ∙ r.are ∙ ap (λ (l : List ℕ). l ++ r.more) (goes_sizes s e h) ∙ append_assoc (lengths (records s)) own r.more;
    }

pub run_sound : (s : State) (es : List Event) → Sound s → Sound (run_from s es)
run_sound s [] h = h
run_sound s (e ∷ es) h = subst (λ (x : State). Sound (run_from x es)) (sym (started_step s e h.started)) (run_sound (goes_on s e) es (goes_sound s e h))
