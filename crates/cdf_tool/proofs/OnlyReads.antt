-- A script each line of which only reads, or is refused.
use Rattle.cdf_tool.proofs.Common.{AnswersBuilt, AttachesIn, Bool, Command, Consumes, Err, Frame, GivesNext, IfAll, List, MovesIf, None, Ok, OnOk, Option, Outcome, Outlets, Passes, Pending, Result, Some, Stays, [], ap, append-nil, both, false, files_attached, inl, inr, is_accepted, is_full, kept, last_of, lines, lines-split, list_all, list_all-append, new_lines, refl, split, sym, true, whole_lines, whole_lines-append, ℕ, ◌++◌, ◌∙◌, ◌∷◌, ◌≡◌}
use Rattle.cdf_edits.specs.Follows.{only_reads}
use Rattle.cdf_tool.proofs.Standing.{HasTaken, IsReady}

-- ---- one command

moved_same : (accepted : Bool) (b : List ℕ) (c : Command) (now : List ℕ) → only_reads c ≡ true → MovesIf accepted b c now → now ≡ b
moved_same true b c now reads follows = follows.reads reads
moved_same false b c now reads same = same

-- it leaves the image
pub reads_same : (is_built : Bool) (limit : ℕ) (b : List ℕ) (c : Command) (o : Outcome) (now : List ℕ) → only_reads c ≡ true → AnswersBuilt is_built limit b c o now → now ≡ b
reads_same true limit b c o now reads answers = moved_same (is_accepted answers.answer (is_full limit b c answers.answer)) b c now reads answers.moves
reads_same false limit b c o now reads answers = answers.1

-- ---- lines of a script, each of which passes a test

module _ (test : Option (List ℕ) → Bool) where
  abbrev pub Pass : List (Option (List ℕ)) → Type 0
  Pass ls = list_all test ls ≡ true

  pub first_pass : (xs ys : List (Option (List ℕ))) → Pass (xs ++ ys) → Pass xs
  first_pass xs ys all = (both (list_all test xs) (list_all test ys) (sym (list_all-append test xs ys) ∙ all)).0

  pub later_pass : (xs ys : List (Option (List ℕ))) → Pass (xs ++ ys) → Pass ys
  later_pass xs ys all = (both (list_all test xs) (list_all test ys) (sym (list_all-append test xs ys) ∙ all)).1

  -- those that are left behind blank lines
  pub passed_pass : (p p' : Pending) → Passes p p' → Pass p.ready → Pass p'.ready
  passed_pass p p' passes all = later_pass passes.blank p'.ready (sym (ap (list_all test) passes.first) ∙ all)

  -- the line that is given, and those that are left
  pub next_pass : (p p' : Pending) → GivesNext p p' → Pass p.ready → (test p'.line ≡ true) × Pass p'.ready
  next_pass p p' next all = both (test p'.line) (list_all test p'.ready) (sym (ap (list_all test) next.gives.first) ∙ passed_pass p next.passed next.passes all)

  whole_pass : (text : List ℕ) → Pass (lines text) → Pass (whole_lines text)
  whole_pass text all = first_pass (whole_lines text) (last_of (kept (split text).1)) (sym (ap (list_all test) (lines-split text)) ∙ all)

  -- those that are ready
  all_ready : (more : Bool) (earlier last left : List ℕ) (p : Pending) → IsReady more earlier last p (Some left) → Pass (lines ((earlier ++ last) ++ left)) → Pass p.ready
  all_ready true earlier last left p ready all =
      let rest = new_lines (kept (split (earlier ++ last)).1) left in
      let up_to : Pass (whole_lines (earlier ++ last)) =
      first_pass (whole_lines (earlier ++ last)) rest (sym (ap (list_all test) (whole_lines-append (earlier ++ last) left)) ∙ whole_pass ((earlier ++ last) ++ left) all) in
      later_pass (whole_lines earlier) p.ready (ap (list_all test) ready.0 ∙ up_to)
  all_ready false earlier last left p ready all =
      let same : (earlier ++ last) ++ left ≡ earlier ++ last = ap (λ l. (earlier ++ last) ++ l) ready.0 ∙ append-nil (earlier ++ last) in
      later_pass (whole_lines earlier) p.ready (ap (list_all test) ready.1 ∙ sym (ap (λ s. list_all test (lines s)) same) ∙ all)

  ready_pass : (more : Bool) (before now : Option (List ℕ)) (earlier last : List ℕ) (p : Pending) (P Q : Type 0) → Consumes before now (earlier ++ last) → IsReady more earlier last p now → IfAll test before P → (Pass p.ready → P → Q) → IfAll test before Q
  ready_pass more None now earlier last p P Q took ready so_far onward = tt
  ready_pass more (Some script) None earlier last p P Q took ready so_far onward = absurd took
  ready_pass more (Some script) (Some left) earlier last p P Q took ready so_far onward = λ all. onward (all_ready more earlier last left p ready (sym (ap (λ s. list_all test (lines s)) took) ∙ all)) (so_far all)

  pub taken_pass : (more : Bool) (limit : ℕ) (b : List ℕ) (before left : Option (List ℕ)) (first : Outlets) (p : Pending) (image : List ℕ) (refused : Bool) (was : Outlets) (total : ℕ) → HasTaken more limit b before left first p image refused was total
      → (P Q : Type 0) → IfAll test before P → (Pass p.ready → P → Q) → IfAll test before Q
  taken_pass more limit b before left first p image refused was total has P Q so_far onward = ready_pass more before left has.earlier has.last p P Q has.consumed has.ready so_far onward

  pub if_all : (before : Option (List ℕ)) (P : Type 0) → P → IfAll test before P
  if_all None P p = tt
  if_all (Some script) P p = λ all. p

  pub if_all_map : (before : Option (List ℕ)) (P Q : Type 0) → (P → Q) → IfAll test before P → IfAll test before Q
  if_all_map None P Q more holds = tt
  if_all_map (Some script) P Q more holds = λ all. more (holds all)

  pub on_ok_all : {T E : Type 0} (outcome : Result T E) (before : Option (List ℕ)) (P Q : Type 0) → (P → Q) → OnOk outcome (IfAll test before P) → OnOk outcome (IfAll test before Q)
  on_ok_all (Ok value) before P Q more reads = if_all_map before P Q more reads
  on_ok_all (Err error) before P Q more reads = tt

  -- what a run over the attached file comes to
  pub attached_pass : {T E : Type 0} (outcome : Result T E) (before : Option (List ℕ)) (P S W : Type 0) → (P → S) → OnOk outcome (IfAll test before P) → (OnOk outcome S → W) → IfAll test before W
  attached_pass (Ok refusals) before P S W is_saved reads saved = if_all_map before P W (λ p. saved (is_saved p)) reads
  attached_pass (Err status) before P S W is_saved reads saved = if_all before W (saved tt)

-- lines that pass one test pass a weaker one
weaker_pass : (test weaker : Option (List ℕ) → Bool) → ((line : Option (List ℕ)) → test line ≡ true → weaker line ≡ true) → (ls : List (Option (List ℕ))) → list_all test ls ≡ true → list_all weaker ls ≡ true
weaker_pass test weaker each [] all = refl
weaker_pass test weaker each (line ∷ more) all =
    let parts = both (test line) (list_all test more) all in
    rw (each line parts.0, weaker_pass test weaker each more parts.1) refl

pub if_weaker : (test weaker : Option (List ℕ) → Bool) → ((line : Option (List ℕ)) → test line ≡ true → weaker line ≡ true) → (before : Option (List ℕ)) (P : Type 0) → IfAll weaker before P → IfAll test before P
if_weaker test weaker each None P holds = tt
if_weaker test weaker each (Some script) P holds = λ all. holds (weaker_pass test weaker each (lines script) all)

-- ---- an area that stays

module _ {A U : Type 0} (image_of : A → List ℕ) (frame_of : A → Frame U) (faults_of : A → ℕ) (edited_of : A → Bool) where
  pub stays_still : (a : A) → Stays image_of frame_of faults_of edited_of a a
  stays_still a = record { image = refl; edited = refl; frame = refl; faults = refl }

  pub stays_on : (a b c : A) → Stays image_of frame_of faults_of edited_of a b → Stays image_of frame_of faults_of edited_of b c → Stays image_of frame_of faults_of edited_of a c
  stays_on a b c first then = record {
    image = then.image ∙ first.image;
    edited = then.edited ∙ first.edited;
    frame = then.frame ∙ first.frame;
    faults = then.faults ∙ first.faults;
  }

-- ---- the store

-- no file is made that is not new
pub files_stay : (make : Bool) (name : List ℕ) (files : Option (List (List ℕ × List ℕ))) → make ≡ false → files_attached make name files ≡ files
files_stay true name files is = absurd (cc is)
files_stay false name None is = refl
files_stay false name (Some fs) is = refl

pub attached_files : {T E : Type 0} (make : Bool) (name : List ℕ) (old new : Option (List (List ℕ × List ℕ))) (result : Result T E) → make ≡ false → AttachesIn make name old new result → new ≡ old
attached_files make name old new (Ok found) is attaches = attaches ∙ files_stay make name old is
attached_files make name old new (Err e) is (inl same) = same
attached_files make name old new (Err e) is (inr made) = made ∙ files_stay make name old is
