-- Logs and what they make of a file, computed.
use Rattle.std.proofs.Common.{[], refl, ◌++◌, ◌∷◌, ◌≡◌}
use Rattle.std.specs.Prelude.{replicate}
use Rattle.cdf_base.specs.Bytes.{put}
use Rattle.cdf_journal.specs.Log.{body_bytes, recovered}
use Rattle.cdf_journal.specs.Opening.{IsBadLog}

-- a log of 8 bytes is not open
pub of_short_log : recovered (7 ∷ []) (1 ∷ replicate 7 0) ≡ 7 ∷ []
of_short_log = refl

-- one that promises a member and has none is no journal
pub of_torn_log : IsBadLog (7 ∷ []) ((1 ∷ replicate 7 0) ++ replicate 7 0 ++ (5 ∷ []) ++ replicate 7 0 ++ (1 ∷ []))
of_torn_log = (refl, refl)

-- a member past the end makes the file longer, and what stands behind the last member is not looked at
pub of_longer_file : recovered (1 ∷ 2 ∷ 3 ∷ []) ((1 ∷ replicate 7 0) ++ body_bytes (record { new_length = 4; members = (2, 9 ∷ 8 ∷ []) ∷ [] }) ++ (255 ∷ [])) ≡ 1 ∷ 2 ∷ 9 ∷ 8 ∷ []
unfolding put
of_longer_file = refl

-- a new length below the old one cuts the file, also where no member does
pub of_shorter_file : recovered (1 ∷ 2 ∷ 3 ∷ []) ((1 ∷ replicate 7 0) ++ body_bytes (record { new_length = 2; members = [] })) ≡ 1 ∷ 2 ∷ []
of_shorter_file = refl

-- a member that leaves a gap makes the log no journal
pub of_gap : IsBadLog (1 ∷ []) ((1 ∷ replicate 7 0) ++ body_bytes (record { new_length = 3; members = (2, 9 ∷ []) ∷ [] }))
of_gap = (refl, refl)
