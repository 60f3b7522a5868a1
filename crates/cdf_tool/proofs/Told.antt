-- A rule is handed back exactly where a file was rejected.
use Rattle.cdf_tool.proofs.Common.{AdoptError, AreaError, Bool, Breaks, Broken, Disk, EndsSaving, EndsStored, Err, IfOk, IfSome, List, Names, None, Ok, Option, Refusals, Refuses, Result, SaysRejected, Some, Status, Tells, ap, false, file_of, old_file, refl, rejected_text, status_from, status_of, status_of_area, subst, sym, true, was_refused, ℕ, ◌∙◌, ◌≡◌, ◌≢◌}
use Rattle.cdf_area.specs.declared.area.AreaError.TheVariants as areas
use Rattle.cdf_session.specs.declared.refusal.AdoptError.TheVariants as errors
use Rattle.cdf_saving.specs.declared.status.Status.TheVariants as statuses

-- ---- statuses of no rejected file

pub never_at_end : (refused : Bool) → status_of refused ≢ statuses.Rejected
never_at_end true is = cc
never_at_end false is = cc

pub never_of_area : (error : AreaError) → status_of_area error ≢ statuses.Rejected
never_of_area areas.Fault is = cc
never_of_area areas.NoMemory is = cc

-- ---- the rule that a file breaks

module _ (first now : Option (List ℕ)) where
  written_tells : (file : List ℕ) (broken : Broken) (status : Status) (told : Option Broken) → Breaks file broken.phase broken.rule broken.at → SaysRejected (rejected_text broken.phase broken.rule broken.at) first now status
      → IfSome told (λ t. (status ≡ statuses.Rejected) × (t ≡ broken)) → (told ≡ None → status ≢ statuses.Rejected) → Tells told (Some file) first now status
  written_tells file broken status None breaks says some none = none refl
  written_tells file broken status (Some t) breaks says some none =
      (some.0, subst (λ (b : Broken). Names (Some b) (Some file) first now) (sym some.1) (breaks, subst (λ (s : Status). SaysRejected (rejected_text broken.phase broken.rule broken.at) first now s) some.0 says))

  refused_by : (new : Bool) (file : List ℕ) (broken : Broken) (status : Status) (told : Option Broken) → Refuses new file (errors.Rejected broken) → SaysRejected (rejected_text broken.phase broken.rule broken.at) first now status
      → IfSome told (λ t. (status ≡ statuses.Rejected) × (t ≡ broken)) → (told ≡ None → status ≢ statuses.Rejected) → Tells told (old_file new file) first now status
  refused_by true file broken status told refuses says some none = absurd refuses
  refused_by false file broken status told refuses says some none = written_tells file broken status told refuses says some none

  pub refused_tells : (new : Bool) (file : List ℕ) (broken : Broken) (status : Status) (told : Option Broken) (why : AdoptError) → why ≡ errors.Rejected broken → Refuses new file why → SaysRejected (rejected_text broken.phase broken.rule broken.at) first now status
      → IfSome told (λ t. (status ≡ statuses.Rejected) × (t ≡ broken)) → (told ≡ None → status ≢ statuses.Rejected) → Tells told (old_file new file) first now status
  refused_tells new file broken status told why is refuses says some none =
      refused_by new file broken status told (subst (λ (w : AdoptError). Refuses new file w) is refuses) says some none

  pub untold_at_end : (broken : Option Broken) (file : Option (List ℕ)) (outcome : Result Refusals Status) → Tells broken file first now (status_from outcome) → IfOk outcome (λ _. broken ≡ None)
  untold_at_end None file (Ok refusals) tells = refl
  untold_at_end (Some b) file (Ok refusals) tells = absurd (never_at_end (was_refused refusals) tells.0)
  untold_at_end broken file (Err status) tells = tt

  pub tells_names : (broken : Option Broken) (file : Option (List ℕ)) (status : Status) → Tells broken file first now status → status ≡ statuses.Rejected → Names broken file first now
  tells_names None file status tells is = absurd (tells is)
  tells_names (Some b) file status tells is = tells.1

  pub tells_status : (broken : Option Broken) (file : Option (List ℕ)) (status : Status) → Tells broken file first now status → IfSome broken (λ _. status ≡ statuses.Rejected)
  tells_status None file status tells = tt
  tells_status (Some b) file status tells = tells.0

  -- ---- over the file that is attached

  module _ {U : Type 0} (no_save : Bool) (end : List ℕ) (d at d' : Disk U) (same : at ≡ d) where
    rejected_before : (outcome : Result Refusals Status) (status : Status) → EndsStored no_save end at d' outcome status → status ≡ statuses.Rejected → status_from outcome ≡ statuses.Rejected
    rejected_before (Err stopped) status ends is = sym ends.0 ∙ is
    rejected_before (Ok refusals) status ends is = elim no_save as (λ n. EndsStored n end at d' (Ok refusals) status → status_of (was_refused refusals) ≡ statuses.Rejected) [
      | true ↦ λ e. sym e.0 ∙ is
      | false ↦ λ e. absurd (subst (λ (s : Status). EndsSaving (was_refused refusals) end at d' s) is e)
    ] ends

    stopped_by : (outcome : Result Refusals Status) (status : Status) → EndsStored no_save end at d' outcome status → status_from outcome ≡ statuses.Rejected → (status ≡ statuses.Rejected) × (d' ≡ at)
    stopped_by (Err stopped) status ends is = (ends.0 ∙ is, ends.1)
    stopped_by (Ok refusals) status ends is = absurd (never_at_end (was_refused refusals) is)

    tells_by : (new : Bool) (image : List ℕ) (broken : Option Broken) (outcome : Result Refusals Status) (status : Status) → (new ≡ false → image ≡ file_of d) → d.held ≡ Some (file_of d)
        → Tells broken (old_file new image) first now (status_from outcome) → EndsStored no_save end at d' outcome status → Tells broken d'.held first now status
    tells_by new image None outcome status holds held tells ends = λ is. tells (rejected_before outcome status ends is)
    tells_by true image (Some b) outcome status holds held tells ends = absurd tells.1
    tells_by false image (Some b) outcome status holds held tells ends =
        let by = stopped_by outcome status ends tells.0 in
        (by.0, subst (λ (h : Option (List ℕ)). Names (Some b) h first now) (ap (λ (f : List ℕ). Some f) (holds refl) ∙ sym held ∙ ap (λ (x : Disk U). x.held) (sym (by.1 ∙ same))) tells.1)

    pub stored_tells : (new : Bool) (image : List ℕ) (broken told : Option Broken) (outcome : Result Refusals Status) (status : Status) → told ≡ broken → (new ≡ false → image ≡ file_of d) → d.held ≡ Some (file_of d)
        → Tells broken (old_file new image) first now (status_from outcome) → EndsStored no_save end at d' outcome status → Tells told d'.held first now status
    stored_tells new image broken told outcome status is holds held tells ends =
        subst (λ (t : Option Broken). Tells t d'.held first now status) (sym is) (tells_by new image broken outcome status holds held tells ends)
