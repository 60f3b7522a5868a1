use Rattle.std.proofs.Common.{subst, sym, ◌≡◌}
use Rattle.cdf_format.specs.Index.{Leaf}
use Rattle.cdf_blocks.specs.Shortened.{BlockShortened}
use Rattle.cdf_blocks.proofs.InPlaceGoes.{shortened_here}
use Rattle.cdf_blocks.proofs.laws.rewritten_is_shortened.Goals as goal

pub returns : goal.returns
returns c b now kind before own after site old new bytes plain good at one is rle lies place packed as_long stored w room short =
    let e : new ≡ record old { first = new.first; last = new.last } = λ i. record { first = new.first; last = new.last; place = place i; packed = packed i } in
    let fit = rw packed at room in
    subst (λ (y : Leaf). BlockShortened b now kind before own after old y plain) (sym e)
    (shortened_here good at old new.first new.last one lies bytes site.node site.number is.there is.used is.says w.block fit w.entry rle plain as_long (rw packed at stored) short)
