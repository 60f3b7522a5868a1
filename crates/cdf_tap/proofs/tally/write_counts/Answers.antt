use Rattle.std.proofs.Common.{◌≡◌, ◌++◌, ℕ, List, [], codes, decimal, append_assoc, refl}
use Rattle.cdf_tap.proofs.tally.write_counts.Goals as goal

-- pieces that were appended one after the other
line : (p a q b r c s d e : List ℕ) → ((((((((([] ++ p) ++ a) ++ q) ++ b) ++ r) ++ c) ++ s) ++ d) ++ e) ≡ p ++ (a ++ (q ++ (b ++ (r ++ (c ++ (s ++ (d ++ e)))))))
line p a q b r c s d e = simp append_assoc refl

pub returns-clause-items : goal.returns-clause-items
returns-clause-items x =
    rw (x.append-5.ensures.items, x.append_number-4.ensures.items, x.append-4.ensures.items, x.append_number-3.ensures.items, x.append-3.ensures.items, x.append_number-2.ensures.items, x.append-2.ensures.items, x.append_number.ensures.items, x.append.ensures.items, x.clear.ensures.items)
    (line (codes "attributes ") (decimal x.args.counts.attrs) (codes " entries ") (decimal x.args.counts.entries) (codes " variables ") (decimal x.args.counts.vars) (codes " records ") (decimal x.args.counts.recs) (codes "\n"))
