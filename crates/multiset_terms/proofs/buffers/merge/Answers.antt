use Rattle.std.proofs.Common.{rules, ◌<◌, arith, ap, subst, sym, ◌∙◌}
use Rattle.std.proofs.lemmas.List.Sorted.{IsNonDecreasingBy-from_sort_by_key, sum_by-IsPermutation, All-permutation}
use Rattle.wide_sums.specs.Cells.{amount, count_at}
use Rattle.multiset_terms.specs.Rows.{AreBelow}
use Rattle.multiset_terms.proofs.buffers.merge.Goals as goal

pub join-requires-clause-sorted : goal.join-requires-clause-sorted
join-requires-clause-sorted c =
    let up = IsNonDecreasingBy-from_sort_by_key (λ cell. cell.at) c.sort_unstable_by_key.new.self.items c.sort_unstable_by_key.ensures.sorted (λ a r q k. search rules) in
    λ i j d before within. up i j d (omega arith) within

pub join-requires-clause-fits : goal.join-requires-clause-fits
join-requires-clause-fits c = λ p.
    let same = sum_by-IsPermutation (count_at p) c.args.cells.now.items c.sort_unstable_by_key.new.self.items c.sort_unstable_by_key.ensures.permutation in
    let fits = c.requires p in
    omega (arith, same, fits)

pub returns-clause-counts : goal.returns-clause-counts
returns-clause-counts c = λ p. c.join.ensures.counts p ∙ sum_by-IsPermutation (count_at p) c.args.cells.now.items c.sort_unstable_by_key.new.self.items c.sort_unstable_by_key.ensures.permutation

pub returns-clause-below : goal.returns-clause-below
returns-clause-below c = λ bound below. c.join.ensures.below bound
    (All-permutation (λ d. d.at < bound) c.args.cells.now.items c.sort_unstable_by_key.new.self.items c.sort_unstable_by_key.ensures.permutation below)

pub returns-clause-total : goal.returns-clause-total
returns-clause-total c = c.join.ensures.total ∙ sum_by-IsPermutation (λ d. d.count) c.args.cells.now.items c.sort_unstable_by_key.new.self.items c.sort_unstable_by_key.ensures.permutation
