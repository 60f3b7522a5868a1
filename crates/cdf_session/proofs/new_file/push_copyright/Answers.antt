use Rattle.cdf_session.proofs.Common.{copyright, refl}
use Rattle.cdf_session.proofs.NewFileLemmas.{in_two}
use Rattle.cdf_session.proofs.new_file.push_copyright.Goals as goal

pub returns : goal.returns
returns c = in_two c.args.bytes.now.items c.extend_from_slice.new.self.items c.extend_from_slice-2.new.self.items _ _ copyright refl c.in_ok-extend_from_slice.ensures.items c.in_ok-extend_from_slice-2.ensures.items
