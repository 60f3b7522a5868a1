-- The new file is written.
use Rattle.cdf_session.proofs.Common.{Err, Frame, Good, IsOpen, Known, Knows, List, None, Ok, OnOk, Result, Some, [], ap, append_assoc, arith, image_limit, length, new_image, refl, replicate, subst, sym, transport, with_base, ℕ, ◌++◌, ◌+◌, ◌∙◌, ◌≡◌, ◌≤◌}
use Rattle.cdf_vars.specs.Known.{Known as KnownVariables, Knows as KnowsVariables}
use Rattle.cdf_base.specs.Bytes.{put}
use Rattle.cdf_format.proofs.NewFileRules.{new_is_good, new_length}
use Rattle.cdf_session.proofs.OpenLemmas.{frame_back}
use Rattle.cdf_format.specs.NotRead.{IsRead}
use Rattle.cdf_session.proofs.StepsRead.{new_is_read}

-- bytes that are appended in two parts
pub in_two : (old between now front back whole : List ℕ) → front ++ back ≡ whole → between ≡ old ++ front → now ≡ between ++ back → now ≡ old ++ whole
in_two old between now front back whole is first second = second ∙ ap (λ (b : List ℕ). b ++ back) first ∙ append_assoc old front back ∙ ap (λ (b : List ℕ). old ++ b) is

-- and after bytes that are known
pub appended : (b now known more : List ℕ) → b ≡ known → now ≡ b ++ more → now ≡ known ++ more
appended b now known more is added = added ∙ ap (λ (x : List ℕ). x ++ more) is

zeros : (old extended : List ℕ) → old ≡ [] → extended ≡ old ++ replicate 404 0 → extended ≡ replicate 404 0
zeros old extended empty longer = longer ∙ ap (λ (b : List ℕ). b ++ replicate 404 0) empty

over_zeros : put (replicate 404 0) 0 new_image ≡ new_image
unfolding put new_image
over_zeros = refl

pub written_new : (old extended given now : List ℕ) → old ≡ [] → extended ≡ old ++ replicate 404 0 → given ≡ new_image → now ≡ put extended 0 given → now ≡ new_image
written_new old extended given now empty longer is written = written ∙ (λ i. put (zeros old extended empty longer i) 0 (is i)) ∙ over_zeros

pub new_fits : (old extended given : List ℕ) → old ≡ [] → extended ≡ old ++ replicate 404 0 → given ≡ new_image → 0 + length given ≤ length extended
new_fits old extended given empty longer is =
    let n : length given ≡ 404 = ap (λ (b : List ℕ). length b) is ∙ new_length in
    let m : length extended ≡ 404 = ap (λ (b : List ℕ). length b) (zeros old extended empty longer) in
    omega arith

pub good_new : (now : List ℕ) → now ≡ new_image → Good now
good_new now is = subst Good (sym is) new_is_good

pub on_ok : {T E : Type 0} {P : Type 0} (r : Result T E) → P → OnOk r P
on_ok (Ok x) p = p
on_ok (Err e) p = tt

pub new_open : {U : Type 0} (start now kept : List ℕ) (frame marked between end : Frame U) (known : Known) (vars : KnownVariables)
    → frame.base ≡ None → 404 ≤ frame.limit → frame.limit ≤ image_limit → marked ≡ with_base frame (Some start) → between ≡ marked → end ≡ with_base between None
    → now ≡ new_image → kept ≡ now → Knows new_image known → KnowsVariables new_image vars → IsOpen kept end known vars
new_open start now kept frame marked between end known vars unmarked room limit is same ends new stays named variables =
    let f : end ≡ frame = frame_back frame between end start unmarked (same ∙ is) ends in
    let there : kept ≡ new_image = stays ∙ new in
    let fits : length kept ≤ frame.limit = let n : length kept ≡ 404 = ap (λ (b : List ℕ). length b) there ∙ new_length in omega arith in
    let open_there : IsOpen kept frame known vars = record { good = good_new kept there; read = subst IsRead (sym there) new_is_read; fits = fits; limited = limit; unmarked = unmarked; knows = subst (λ (x : List ℕ). Knows x known) (sym there) named; knows_variables = subst (λ (x : List ℕ). KnowsVariables x vars) (sym there) variables } in
    transport (λ i. IsOpen kept (sym f i) known vars) open_there
