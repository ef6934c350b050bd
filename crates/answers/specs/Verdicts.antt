-- The outcome of each verdict.
use Rattle.answers.specs.declared.verdicts.Verdict.{Verdict}
use Rattle.answers.specs.declared.verdicts.Verdict.TheVariants as verdict
use Rattle.answers.specs.declared.outcomes.Outcome.{Outcome}
use Rattle.answers.specs.declared.outcomes.Outcome.TheVariants as outcome

abbrev pub outcome_of : Verdict → Outcome
outcome_of verdict.Holds = outcome.Holds
outcome_of verdict.Done = outcome.Done
outcome_of verdict.NotShown = outcome.NotShown
outcome_of verdict.Range = outcome.Range
outcome_of verdict.Refused = outcome.Refused
