use Rattle.std.proofs.Common.{◌≡◌, ℕ, ◌+◌, ◌<◌, ◌≤◌, ◌⊎◌, inl, inr, Bool, true, false, ap, arith, sym, ◌∙◌}
use Rattle.std.specs.Prelude.{slice_index}
use Rattle.std.proofs.lemmas.Bool.{cases_lt}
use Rattle.multiset_terms.specs.Conditions.{condition_uses_at}
use Rattle.guard_walks.specs.Walks.{part_at}
use Rattle.guard_walks.proofs.making.needs_of.Goals.{then-does_occur, else-does_occur}
use Rattle.guard_walks.proofs.making.needs_of.Goals as goal

-- a variable more that occurs, and one that doesn't
found : (needs position : ℕ) (uses : ℕ → Bool) → needs ≡ position + 1 → (k : ℕ) → k < position + 1 → uses k ≡ true → k < needs
found needs position uses is k within used = omega (arith, is, within)

missed : (needs position : ℕ) (uses : ℕ → Bool) → uses position ≡ false → ((k : ℕ) → k < position → uses k ≡ true → k < needs) → (k : ℕ) → k < position + 1 → uses k ≡ true → k < needs
missed needs position uses none known k within used = decide (cases_lt k position)
  where
    decide : (k < position) ⊎ (position ≤ k) → k < needs
    decide (inl before) = known k before used
    decide (inr past) = (let same : position ≡ k = omega (arith, past, within) in absurd (let e = ap uses same in cc))

pub loop-position-preserved : goal.loop-position-preserved
loop-position-preserved c = elim c.if-does_occur.branch [
  | then-does_occur w ↦ record {
    within = omega (arith, w.needs-is);
    last = found c.if-does_occur.needs c.loop-position.position (λ k. condition_uses_at (slice_index c.args.variables.now k) (part_at c.args.guard.now c.args.at)) w.needs-is;
  }
  | else-does_occur w ↦ record {
    within = omega (arith, w.needs-is, c.loop-position.invariant.within);
    last = missed c.if-does_occur.needs c.loop-position.position (λ k. condition_uses_at (slice_index c.args.variables.now k) (part_at c.args.guard.now c.args.at))
        (sym c.does_occur.ensures ∙ w.if-does_occur.false)
        (λ k before used. (let known = c.loop-position.invariant.last k before used in omega (arith, known, w.needs-is)));
  }
]

pub returns-clause-last : goal.returns-clause-last
returns-clause-last c k within used = c.loop-position.invariant.last k (omega (arith, within, c.loop-position-test.false, c.loop-position.auto.position-end)) used
