use Rattle.std.proofs.Common.{List, ap, ap₂, arith, length, replicate, ℕ, ◌++◌, ◌∙◌, ◌≡◌}
unfoldable use Rattle.cdf_base.specs.Bytes.{put}
use Rattle.cdf_writer.proofs.opening.append_magic.Goals as goal

pub returns-clause-magic : goal.returns-clause-magic
unfolding put
returns-clause-magic g c =
    let body = c.deref.ensures.value ∙ c.in_ok-start.ensures in
    let long : c.len.result ≡ 8 = omega (arith, c.len.ensures, ap length c.in_ok-start.ensures) in
    let room = c.in_ok-extend.ensures.longer ∙ ap₂ (λ (b : List ℕ) (n : ℕ). b ++ replicate n 0) c.requires.empty long in
    c.in_ok-set.ensures.written ∙ (λ i. put (room i) 0 (body i))
