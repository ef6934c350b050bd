-- TooLong is the answer exactly where the reading stops at a file that is too long.
use Rattle.std.proofs.Common.{◌≡◌, ℕ, List, Option, Some, None, ap, sym, ◌∙◌}
use Rattle.std.specs.Prelude.{◌↔◌}
use Rattle.host_io.specs.Held.{Held}
use Rattle.pnml_inputs.specs.Reading.{Reading, unheld, too_long, whole}
use Rattle.pnml_inputs.specs.declared.inputs.Role.{Role}
use Rattle.answers.specs.Answers.{IsAnswerRead}
use Rattle.answers.specs.Forms.{Form, form_of}
use Rattle.answers.specs.Verdicts.{outcome_of}
use Rattle.answers.specs.declared.outcomes.Outcome.{Outcome}
use Rattle.answers.specs.declared.outcomes.Outcome.TheVariants as outcome
use Rattle.answers.specs.declared.verdicts.Verdict.{Verdict}
use Rattle.answers.specs.declared.verdicts.Verdict.TheVariants as verdict
use Rattle.commands.specs.Replies.{IsReply}
use Rattle.commands.specs.Answers.{TooLongIsTold, IsAnswerTo, IsTooLongFor, reading_for}

never_said : (v : Verdict) (role : Role) → outcome_of v ≡ outcome.TooLong role → ⊥
never_said verdict.Holds role is = absurd cc
never_said verdict.Done role is = absurd cc
never_said verdict.NotShown role is = absurd cc
never_said verdict.Range role is = absurd cc
never_said verdict.Refused role is = absurd cc

by_reading : (IsSaid : List (List ℕ) → Verdict → List ℕ → Type 0) (r : Reading (List (List ℕ))) (out : Outcome) (text : List ℕ) → IsAnswerRead IsSaid r out text → (role : Role) → (out ≡ outcome.TooLong role) ↔ (r ≡ too_long role)
by_reading IsSaid unheld out text answer role = (λ is. absurd (cc), λ is. absurd (cc))
by_reading IsSaid (too_long stop) out text answer role = (λ is. let same : stop ≡ role = cc in ap too_long same, λ is. let same : stop ≡ role = cc in answer.0 ∙ ap outcome.TooLong same)
by_reading IsSaid (whole files) out text (v, out_is, reply) role = (λ is. absurd (never_said v role (sym out_is ∙ is)), λ is. absurd (cc))

by_form : (form : Option Form) (held : Held) (out : Outcome) (text : List ℕ) → IsAnswerTo form held out text → (role : Role) → (out ≡ outcome.TooLong role) ↔ IsTooLongFor form held role
by_form None held out text answer role = (λ is. absurd (cc), λ is. absurd is)
by_form (Some form) held out text answer role = by_reading (IsReply form.command) (reading_for form held) out text answer role

pub told : TooLongIsTold
told words held out text answer role = by_form (form_of words) held out text answer role
