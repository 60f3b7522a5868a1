use Rattle.cdf_session.proofs.Common.{new_image}
use Rattle.cdf_session.proofs.NewFileLemmas.{appended}
use Rattle.cdf_session.proofs.new_file.new_bytes.Goals as goal

pub returns : goal.returns
unfolding new_image
returns c =
    let to_1 = appended _ _ _ _ c.new-bytes.ensures.items c.in_ok-push_4_bytes.ensures in
    let to_2 = appended _ _ _ _ to_1 c.in_ok-push_8_bytes.ensures in
    let to_3 = appended _ _ _ _ to_2 c.in_ok-push_4_bytes-2.ensures in
    let to_4 = appended _ _ _ _ to_3 c.in_ok-push_8_bytes-2.ensures in
    let to_5 = appended _ _ _ _ to_4 c.in_ok-push_4_bytes-3.ensures in
    let to_6 = appended _ _ _ _ to_5 c.in_ok-push_copyright.ensures in
    let to_7 = appended _ _ _ _ to_6 c.in_ok-push_8_bytes-3.ensures in
    let to_8 = appended _ _ _ _ to_7 c.in_ok-push_4_bytes-4.ensures in
    let to_9 = appended _ _ _ _ to_8 c.in_ok-push_8_bytes-4.ensures in
    let to_10 = appended _ _ _ _ to_9 c.in_ok-push_4_bytes-5.ensures in
    let to_11 = appended _ _ _ _ to_10 c.in_ok-push_8_bytes-5.ensures in
    let to_12 = appended _ _ _ _ to_11 c.in_ok-push_4_bytes-6.ensures in
    to_12
