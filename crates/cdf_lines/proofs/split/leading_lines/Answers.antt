use Rattle.std.proofs.Common.{◌≡◌, ◌≤◌, [], length, take, arith}
use Rattle.std.proofs.lemmas.List.{take-take, length-take-le}
use Rattle.cdf_model.specs.Lines.{split}
use Rattle.cdf_lines.proofs.Newlines.{rest_is, whole_first}
use Rattle.cdf_lines.proofs.split.leading_lines.Goals as goal

pub returns : goal.returns
returns c =
    let text = c.args.text.now in
    let n = c.size_of_lines-size.result in
    let room : length (take c.min.result text) ≡ c.min.result = length-take-le c.min.result text (omega arith) in
    let inside : n ≤ c.min.result = omega (arith, c.size_of_lines-size.ensures.inside) in
    let ends : (split (take n text)).1 ≡ [] = rw (take-take n c.min.result text inside) at c.size_of_lines-size.ensures.whole in
    rw (rest_is text n) (whole_first text n (omega arith) (omega arith) ends)
