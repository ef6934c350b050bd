-- Holds is the answer of `check` alone, and then its files have an invariant.
use Rattle.std.proofs.Common.{◌≡◌, ℕ, List, [], ◌∷◌, Option, Some, None, ap, sym, ◌∙◌}
use Rattle.host_io.specs.Held.{Held}
use Rattle.net_model.specs.declared.nets.Net.{Net}
use Rattle.pnml_inputs.specs.Reading.{Reading, unheld, too_long, whole}
use Rattle.answers.specs.Answers.{IsAnswerRead}
use Rattle.answers.specs.Forms.{Form, form_of}
use Rattle.answers.specs.Stages.{and_then, reply_by}
use Rattle.answers.specs.Verdicts.{outcome_of}
use Rattle.answers.specs.declared.commands.Command.{Command}
use Rattle.answers.specs.declared.commands.Command.TheVariants.{Canon, Check}
use Rattle.answers.specs.declared.outcomes.Outcome.{Outcome}
use Rattle.answers.specs.declared.outcomes.Outcome.TheVariants as outcome
use Rattle.answers.specs.declared.stages.Stage.{Stage}
use Rattle.answers.specs.declared.stages.Stage.TheVariants as stage
use Rattle.answers.specs.declared.verdicts.Verdict.{Verdict}
use Rattle.answers.specs.declared.verdicts.Verdict.TheVariants as verdict
use Rattle.net_answer.specs.Canons.{canon_of, canon_of_net}
use Rattle.net_answer.specs.Documents.{net_of_tree}
use Rattle.check_answer.specs.Headline as check
use Rattle.commands.specs.Replies.{IsReply, Shows}
use Rattle.commands.specs.Answers.{HoldsIsInvariant, IsAnswerTo, ShowInvariantFor, ShowsRead, reading_for}

is_said : (v : Verdict) → outcome_of v ≡ outcome.Holds → v ≡ verdict.Holds
is_said verdict.Holds is = cc
is_said verdict.Done is = absurd cc
is_said verdict.NotShown is = absurd cc
is_said verdict.Range is = absurd cc
is_said verdict.Refused is = absurd cc

never_canon : (net : Stage Net) → (reply_by canon_of_net net).0 ≡ verdict.Holds → ⊥
never_canon (stage.Refused refusal) is = absurd cc
never_canon (stage.Reached net) is = absurd cc

by_command : check.HoldsIsInvariant → (command : Command) (files : List (List ℕ)) (v : Verdict) (text : List ℕ) → IsReply command files v text → v ≡ verdict.Holds → Shows command files
by_command law Canon [] v text reply is = absurd reply
by_command law Canon (net ∷ []) v text (document, read, same) is = never_canon (and_then document net_of_tree) (ap (λ r. r.0) (sym same) ∙ is)
by_command law Canon (net ∷ b ∷ files) v text reply is = absurd reply
by_command law Check [] v text reply is = absurd reply
by_command law Check (net ∷ []) v text reply is = absurd reply
by_command law Check (net ∷ formula ∷ []) v text reply is = absurd reply
by_command law Check (net ∷ formula ∷ certificate ∷ []) v text reply is = law (record { net = net; formula = formula; certificate = certificate }) v text reply is
by_command law Check (net ∷ formula ∷ certificate ∷ d ∷ files) v text reply is = absurd reply

by_reading : check.HoldsIsInvariant → (command : Command) (r : Reading (List (List ℕ))) (out : Outcome) (text : List ℕ) → IsAnswerRead (IsReply command) r out text → out ≡ outcome.Holds → ShowsRead (Shows command) r
by_reading law command unheld out text answer is = absurd (cc)
by_reading law command (too_long role) out text answer is = absurd (cc)
by_reading law command (whole files) out text (v, out_is, reply) is = by_command law command files v text reply (is_said v (sym out_is ∙ is))

by_form : check.HoldsIsInvariant → (form : Option Form) (held : Held) (out : Outcome) (text : List ℕ) → IsAnswerTo form held out text → out ≡ outcome.Holds → ShowInvariantFor form held
by_form law None held out text answer is = absurd (cc)
by_form law (Some form) held out text answer is = by_reading law form.command (reading_for form held) out text answer is

pub shown : check.HoldsIsInvariant → HoldsIsInvariant
shown law words held out text answer is = by_form law (form_of words) held out text answer is
