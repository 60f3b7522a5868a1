use Rattle.std.proofs.Common.{rules, ◌≡◌, ◌-◌, ◌++◌, ◌∷◌, [], take, drop}
use Rattle.cdf_rle.proofs.PackingLemmas.{packed-data, packed-run, packed_all}
use Rattle.cdf_rle.proofs.packing.encode.Goals as goal

pub loop-place-preserved-in_ok-extend_from_slice :
    goal.loop-place-preserved-in_ok-extend_from_slice
loop-place-preserved-in_ok-extend_from_slice c =
    let pushed : c.extend_from_slice.new.self.items ≡ c.loop-place.packed.items ++ 0 ∷ (c.run_end-end.result - c.loop-place.place - 1) ∷ [] = search rules in
    rw pushed (packed-run _ _ _ _ c.loop-place.invariant c.loop-place-test.true c.if-bytes-place-eq0.true c.run_end-end.ensures)

pub loop-place-preserved : goal.loop-place-preserved
loop-place-preserved c =
    let pushed : c.extend_from_slice-else-bytes-place-eq0.new.self.items ≡ c.loop-place.packed.items ++ take (c.data_end-end.result - c.loop-place.place) (drop c.loop-place.place c.args.bytes.now) = search rules in
    rw pushed (packed-data _ _ _ _ c.loop-place.invariant c.data_end-end.ensures.end)

pub returns-clause-packs : goal.returns-clause-packs
returns-clause-packs c = (packed_all _ _ _ c.loop-place.invariant c.loop-place-test.false).packs

pub returns-clause-longest : goal.returns-clause-longest
returns-clause-longest c = (packed_all _ _ _ c.loop-place.invariant c.loop-place-test.false).longest
