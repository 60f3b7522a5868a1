use Rattle.cdf_tool.proofs.Common.{List, Option, ap, sym, tail_bytes, trailer, ℕ, ◌∙◌, ◌≡◌}
use Rattle.cdf_session.specs.Seals.{seal_of}
use Rattle.cdf_tool.proofs.StoredLemmas.{seal_is}
use Rattle.cdf_tool.proofs.saving.seal_and_save.Goals as goal

-- reading the checksum left the image
seal_stays : (b now : List ℕ) (seal : Option (List ℕ)) → now ≡ b → seal ≡ seal_of b → tail_bytes seal ≡ trailer now
seal_stays b now seal same is = seal_is b seal is ∙ ap trailer (sym same)

pub save-requires-clause-seal : goal.save-requires-clause-seal
save-requires-clause-seal g c = seal_stays _ _ _ c.read_seal.ensures.area.image c.in-Ok.ensures.seal
