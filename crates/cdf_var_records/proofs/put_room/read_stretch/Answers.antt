use Rattle.cdf_var_records.proofs.Common.{List, ap, arith, bound_is, firsts_of, index_at, least_first_past, next_first, option_map, seen, sym, ℕ, ◌∙◌, ◌≡◌}
use Rattle.cdf_var_records.proofs.PutRoomCount.{gap_some, gap_stretch, leaf_stretch}
use Rattle.cdf_var_records.proofs.put_room.read_stretch.Goals as goal

pub returns-in-Some-clause-stretch : goal.returns-in-Some-clause-stretch
returns-in-Some-clause-stretch g c =
    let nodes = index_at (g.A.Area.image c.args.area.now) c.args.search.now.head in
    leaf_stretch nodes c.args.search.now.rec c.args.rec _ c.min.result (seen c.in-Some.leaf) c.requires.order (sym c.in_ok-found.ensures.value ∙ ap (option_map seen) c.in-Some.is) c.requires.more c.min.ensures

pub overflow_sub-result : goal.overflow_sub-result
overflow_sub-result g c =
    let nodes = index_at (g.A.Area.image c.args.area.now) c.args.search.now.head in
    let same = c.leaf.ensures.area.image in
    let next : c.unwrap_or.result ≡ next_first c.args.search.now.rec (firsts_of nodes) = c.unwrap_or.ensures ∙ bound_is nodes c.args.search.now.rec c.in_ok-next.next (c.in_ok-next.ensures.value ∙ ap (λ (x : List ℕ). least_first_past c.args.search.now.rec (index_at x c.args.search.now.head)) same) in
    let some = gap_some nodes c.args.search.now.rec c.args.rec c.unwrap_or.result c.min-end.result c.requires.more c.requires.within next c.min-end.ensures in
    omega arith

pub returns-clause-stretch : goal.returns-clause-stretch
returns-clause-stretch g c =
    let nodes = index_at (g.A.Area.image c.args.area.now) c.args.search.now.head in
    let same = c.leaf.ensures.area.image in
    let next : c.unwrap_or.result ≡ next_first c.args.search.now.rec (firsts_of nodes) = c.unwrap_or.ensures ∙ bound_is nodes c.args.search.now.rec c.in_ok-next.next (c.in_ok-next.ensures.value ∙ ap (λ (x : List ℕ). least_first_past c.args.search.now.rec (index_at x c.args.search.now.head)) same) in
    let none = sym c.in_ok-found.ensures.value ∙ ap (option_map seen) c.in_default.is in
    gap_stretch nodes c.args.search.now.rec c.args.rec c.unwrap_or.result c.min-end.result none c.requires.more c.requires.within next c.min-end.ensures
