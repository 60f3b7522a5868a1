-- A well-formed file is taken up.
use Rattle.cdf_session.proofs.Common.{Adopts, Frame, Good, IsOpen, Known, Knows, List, None, WellFormed, ap, arith, image_fits, image_is_good, image_limit, image_of, length, subst, sym, take, trailer_length, transport, ℕ, ◌-◌, ◌∙◌, ◌≡◌, ◌≤◌}
use Rattle.cdf_vars.specs.Known.{Known as KnownVariables, Knows as KnowsVariables}
use Rattle.cdf_format.specs.NotRead.{IsRead}
use Rattle.cdf_format.proofs.FormatKept.{is_read, keeps}

-- a file without its trailer is its image
pub shortened : (f read now : List ℕ) (n : ℕ) → read ≡ f → n ≡ trailer_length f → now ≡ take (length read - n) read → now ≡ image_of f
shortened f read now n same size is = is ∙ (λ i. take (length (same i) - size i) (same i))

pub taken_good : (f now : List ℕ) → WellFormed f → now ≡ image_of f → Good now
taken_good f now holds is = subst Good (sym is) (image_is_good f (keeps f holds))

-- the image of a file, as it stands in front of the trailer
pub front_is : (f read : List ℕ) (size n : ℕ) → read ≡ f → size ≡ length read → n ≡ trailer_length f → take (size - n) read ≡ image_of f
front_is f read size n same long is = λ i. take ((long ∙ ap length same) i - is i) (same i)

pub stays_well_formed : (f now : List ℕ) → WellFormed f → now ≡ f → WellFormed now
stays_well_formed f now holds same = subst WellFormed (sym same) holds

pub adopted : (f now : List ℕ) → WellFormed f → now ≡ image_of f → Adopts f now
adopted f now holds is = record { well_formed = holds; image_is = is; good = taken_good f now holds is }

pub adopted_open : {U : Type 0} (f now : List ℕ) (frame after : Frame U) (known : Known) (vars : KnownVariables) → WellFormed f → now ≡ image_of f → after ≡ frame → frame.limit ≡ image_limit → frame.base ≡ None → Knows now known → KnowsVariables now vars → IsOpen now after known vars
adopted_open f now frame after known vars holds is same limit unmarked named variables =
    let fits : length now ≤ frame.limit = transport (λ i. length (sym is i) ≤ sym limit i) (image_fits f (keeps f holds)) in
    let there : IsOpen now frame known vars = record { good = taken_good f now holds is; read = subst IsRead (sym is) (is_read f holds); fits = fits; limited = subst (λ (n : ℕ). n ≤ image_limit) (sym limit) (search arith); unmarked = unmarked; knows = named; knows_variables = variables } in
    transport (λ i. IsOpen now (sym same i) known vars) there
