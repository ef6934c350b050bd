-- One answer for each command line.
use Rattle.std.proofs.Common.{◌≡◌, ℕ, suc, List, [], ◌∷◌, length, Option, Some, None, Result, Ok, Err, inr, refl, ap, sym, ◌∙◌, arith}
use Rattle.std.specs.Prelude.{codes}
use Rattle.doc_model.specs.declared.tree.Element.{Element}
use Rattle.doc_tree.specs.Answers.{HasOneAnswer, IsDecided}
use Rattle.doc_tree.specs.Reading.{FinishAnswer}
use Rattle.doc_tree.specs.declared.faults.DocFault.{DocFault}
use Rattle.doc_tree.specs.declared.faults.DocFault.TheVariants as damage
use Rattle.host_io.specs.Held.{Held}
use Rattle.pnml_inputs.specs.Reading.{Reading, unheld, too_long, whole, and_then, file_reading}
use Rattle.pnml_inputs.specs.declared.inputs.Role.{Role}
use Rattle.pnml_inputs.specs.declared.inputs.Role.TheVariants as role
use Rattle.answers.specs.Answers.{IsAnswerRead, readings}
use Rattle.answers.specs.Forms.{Form, form_of, roles_of}
use Rattle.answers.specs.Refusals.{refusal_line, refused}
use Rattle.answers.specs.Verdicts.{outcome_of}
use Rattle.answers.specs.declared.commands.Command.{Command}
use Rattle.answers.specs.declared.commands.Command.TheVariants.{Canon, Check}
use Rattle.answers.specs.declared.outcomes.Outcome.{Outcome}
use Rattle.answers.specs.declared.outcomes.Outcome.TheVariants as outcome
use Rattle.answers.specs.declared.stages.Stage.{Stage}
use Rattle.answers.specs.declared.stages.Stage.TheVariants as step
use Rattle.answers.specs.declared.verdicts.Verdict.{Verdict}
use Rattle.answers.specs.declared.verdicts.Verdict.TheVariants as verdict
use Rattle.net_answer.specs.Canons.{canon_of}
use Rattle.net_answer.specs.Documents.{IsDocument, IsDocumentBy, place_words}
use Rattle.commands.specs.Replies.{IsReply}
use Rattle.commands.specs.Answers.{IsAnswerTo, reading_for}
use Rattle.commands.specs.One.{AnswersAreOne, AnswersExist, IsDetermined, IsDeterminedFor}

-- the step that an answer leads to
by_answer : (r : Role) (answer : Result Element DocFault) → IsDecided answer → (stage : Stage Element) × IsDocumentBy r answer stage
by_answer r (Ok tree) decided = (step.Reached tree, refl)
by_answer r (Err (damage.Malformed at)) decided = (step.Refused (refused r (place_words (codes "malformed") at)), refl)
by_answer r (Err (damage.Deep at)) decided = (step.Refused (refused r (place_words (codes "deep") at)), refl)
by_answer r (Err damage.Memory) decided = absurd decided

decided_by : (r : Role) (answer : Result Element DocFault) (stage : Stage Element) → IsDocumentBy r answer stage → IsDecided answer
decided_by r (Ok tree) stage is = tt
decided_by r (Err (damage.Malformed at)) stage is = tt
decided_by r (Err (damage.Deep at)) stage is = tt
decided_by r (Err damage.Memory) stage is = is

same_by : (r : Role) (answer : Result Element DocFault) (s t : Stage Element) → IsDocumentBy r answer s → IsDocumentBy r answer t → s ≡ t
same_by r (Ok tree) s t is also = is ∙ sym also
same_by r (Err (damage.Malformed at)) s t is also = is ∙ sym also
same_by r (Err (damage.Deep at)) s t is also = is ∙ sym also
same_by r (Err damage.Memory) s t is also = absurd is

document_once : (r : Role) (b : List ℕ) → HasOneAnswer b → (s t : Stage Element) → IsDocument r b s → IsDocument r b t → s ≡ t
document_once r b one s t (x, read, is) (y, read', also) =
    let same : x ≡ y = one.alone x (decided_by r x s is) read ∙ sym (one.alone y (decided_by r y t also) read') in
    same_by r y s t (subst_answer x y same is) also
  where
    subst_answer : (x y : Result Element DocFault) → x ≡ y → IsDocumentBy r x s → IsDocumentBy r y s
    subst_answer x y same is = rw (sym same) is

reply_once : ((b : List ℕ) → HasOneAnswer b) → (command : Command) → IsDetermined command → (files : List (List ℕ)) (v w : Verdict) (x y : List ℕ) → IsReply command files v x → IsReply command files w y
    → ◌≡◌ {A = Verdict × List ℕ} (v, x) (w, y)
reply_once one Check known files v w x y p q = absurd known
reply_once one Canon known [] v w x y p q = absurd p
reply_once one Canon known (b ∷ c ∷ files) v w x y p q = absurd p
reply_once one Canon known (b ∷ []) v w x y (s, read, is) (t, read', also) = is ∙ ap canon_of (document_once role.Net b (one b) s t read read') ∙ sym also

answer_once : ((b : List ℕ) → HasOneAnswer b) → (command : Command) → IsDetermined command → (r : Reading (List (List ℕ))) (out other : Outcome) (x y : List ℕ)
    → IsAnswerRead (IsReply command) r out x → IsAnswerRead (IsReply command) r other y → (out ≡ other) × (x ≡ y)
answer_once one command known unheld out other x y p q = (p.0 ∙ sym q.0, p.1 ∙ sym q.1)
answer_once one command known (too_long role) out other x y p q = (p.0 ∙ sym q.0, p.1 ∙ sym q.1)
answer_once one command known (whole files) out other x y (v, is, said) (w, also, said') =
    let same = reply_once one command known files v w x y said said' in
    (is ∙ ap (λ reply. outcome_of reply.0) same ∙ sym also, ap (λ reply. reply.1) same)

form_once : ((b : List ℕ) → HasOneAnswer b) → (form : Option Form) (held : Held) (out other : Outcome) (x y : List ℕ) → IsDeterminedFor form → IsAnswerTo form held out x → IsAnswerTo form held other y → (out ≡ other) × (x ≡ y)
form_once one None held out other x y known p q = (p.0 ∙ sym q.0, p.1 ∙ sym q.1)
form_once one (Some form) held out other x y known p q = answer_once one form.command known (reading_for form held) out other x y p q

pub once : ((b : List ℕ) → HasOneAnswer b) → AnswersAreOne
once one words held out other x y known p q = form_once one (form_of words) held out other x y known p q

-- files that are read whole are as many as the roles
joined_length : (r : Reading (List ℕ)) (s : Reading (List (List ℕ))) (n : ℕ) → ((files : List (List ℕ)) → s ≡ whole files → length files ≡ n)
    → (files : List (List ℕ)) → and_then r (λ b. and_then s (λ bs. whole (b ∷ bs))) ≡ whole files → length files ≡ suc n
joined_length unheld s n long files is = absurd (cc)
joined_length (too_long role) s n long files is = absurd (cc)
joined_length (whole b) unheld n long files is = absurd (cc)
joined_length (whole b) (too_long role) n long files is = absurd (cc)
joined_length (whole b) (whole bs) n long files is =
    let same : files ≡ b ∷ bs = cc in
    ap length same ∙ ap suc (long bs refl)

whole_length : (roles : List Role) (names : List (List ℕ)) (held : Held) (files : List (List ℕ)) → readings roles names held ≡ whole files → length files ≡ length roles
whole_length [] names held files is =
    let same : files ≡ [] = cc in
    ap length same
whole_length (role ∷ roles) [] held files is = absurd (cc)
whole_length (role ∷ roles) (name ∷ names) held files is = joined_length (file_reading role name held) (readings roles names held) (length roles) (whole_length roles names held) files is

reply_exists : ((b : List ℕ) → HasOneAnswer b) → (command : Command) (files : List (List ℕ)) → length files ≡ length (roles_of command) → (v : Verdict) × (text : List ℕ) × IsReply command files v text
reply_exists one Canon [] long = absurd (omega (arith, long))
reply_exists one Canon (b ∷ []) long =
    let found = by_answer role.Net (one b).answer (one b).decided in
    let reply = canon_of found.0 in
    (reply.0, reply.1, (found.0, ((one b).answer, (one b).right, found.1), refl))
reply_exists one Canon (b ∷ c ∷ files) long = absurd (omega (arith, long))
reply_exists one Check [] long = absurd (omega (arith, long))
reply_exists one Check (b ∷ []) long = absurd (omega (arith, long))
reply_exists one Check (b ∷ c ∷ []) long = absurd (omega (arith, long))
reply_exists one Check (b ∷ c ∷ d ∷ []) long = (verdict.Refused, refusal_line role.Net (codes "not-yet"), inr (record { role = role.Net; verdict_is = refl; text_is = refl }))
reply_exists one Check (b ∷ c ∷ d ∷ e ∷ files) long = absurd (omega (arith, long))

answer_exists : ((b : List ℕ) → HasOneAnswer b) → (command : Command) (r : Reading (List (List ℕ))) → ((files : List (List ℕ)) → r ≡ whole files → length files ≡ length (roles_of command))
    → (out : Outcome) × (text : List ℕ) × IsAnswerRead (IsReply command) r out text
answer_exists one command unheld long = (outcome.ReadFault, [], (refl, refl))
answer_exists one command (too_long role) long = (outcome.TooLong role, refusal_line role (codes "too-long"), (refl, refl))
answer_exists one command (whole files) long =
    let said = reply_exists one command files (long files refl) in
    (outcome_of said.0, said.1, (said.0, refl, said.2))

form_exists : ((b : List ℕ) → HasOneAnswer b) → (form : Option Form) (held : Held) → (out : Outcome) × (text : List ℕ) × IsAnswerTo form held out text
form_exists one None held = (outcome.Usage, [], (refl, refl))
form_exists one (Some form) held = answer_exists one form.command (reading_for form held) (whole_length (roles_of form.command) form.names held)

pub exists : ((b : List ℕ) → HasOneAnswer b) → AnswersExist
exists one words held = form_exists one (form_of words) held
