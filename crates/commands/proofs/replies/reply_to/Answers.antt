use Rattle.std.proofs.Common.{length, ap, sym, subst, ◌∙◌}
use Rattle.std.specs.Prelude.{get_or}
use Rattle.pnml_inputs.specs.Answers.{ReadsBy}
use Rattle.answers.specs.Answers.{readings}
use Rattle.answers.specs.Forms.{roles_of}
use Rattle.answers.specs.declared.commands.Command.TheVariants.{Canon, Check}
use Rattle.net_answer.specs.Canons.{IsCanon}
use Rattle.check_answer.specs.Verdicts.{IsVerdict}
use Rattle.commands.specs.Replies.{IsReply}
use Rattle.commands.proofs.Read.{one_name, reads_one, reads_three, three_names}
use Rattle.commands.proofs.replies.reply_to.Goals as goal

pub returns-in-Canon-clause-read : goal.returns-in-Canon-clause-read
returns-in-Canon-clause-read g c =
    let names = one_name c.args.form.names.now c.index-form-0.result (c.args.form.enough ∙ ap (λ command. length (roles_of command)) c.in-Canon.is) in
    let read = reads_one (λ bytes reply. IsCanon bytes reply.verdict reply.text.items) (λ files reply. IsReply Canon files reply.verdict reply.text.items) (λ b reply so. so)
    (g.F.Files.held c.args.files.now) (get_or c.args.form.names.now 0 c.index-form-0.result) (g.F.Files.faults c.args.files.now) (g.F.Files.faults c.canon.new.files) c.canon.result c.canon.ensures.read in
    subst (λ command. ReadsBy (λ bytes reply. IsReply command bytes reply.verdict reply.text.items) (g.F.Files.held c.args.files.now) (readings (roles_of command) c.args.form.names.now)
    (g.F.Files.faults c.args.files.now) (g.F.Files.faults c.canon.new.files) c.canon.result) (sym c.in-Canon.is)
    (subst (λ ns. ReadsBy (λ bytes reply. IsReply Canon bytes reply.verdict reply.text.items) (g.F.Files.held c.args.files.now) (readings (roles_of Canon) ns)
    (g.F.Files.faults c.args.files.now) (g.F.Files.faults c.canon.new.files) c.canon.result) (sym names) read)

pub returns-in-Check-clause-read : goal.returns-in-Check-clause-read
returns-in-Check-clause-read g c =
    let names = three_names c.args.form.names.now c.index-form-0-in-Check.result c.index-form-1.result c.index-form-2.result (c.args.form.enough ∙ ap (λ command. length (roles_of command)) c.in-Check.is) in
    let read = reads_three (λ texts reply. IsVerdict texts reply.verdict reply.text.items) (λ files reply. IsReply Check files reply.verdict reply.text.items) (λ t reply so. so)
    (g.F.Files.held c.args.files.now) (get_or c.args.form.names.now 0 c.index-form-0-in-Check.result) (get_or c.args.form.names.now 1 c.index-form-1.result) (get_or c.args.form.names.now 2 c.index-form-2.result) (g.F.Files.faults c.args.files.now) (g.F.Files.faults c.check.new.files) c.check.result c.check.ensures.read in
    subst (λ command. ReadsBy (λ bytes reply. IsReply command bytes reply.verdict reply.text.items) (g.F.Files.held c.args.files.now) (readings (roles_of command) c.args.form.names.now)
    (g.F.Files.faults c.args.files.now) (g.F.Files.faults c.check.new.files) c.check.result) (sym c.in-Check.is)
    (subst (λ ns. ReadsBy (λ bytes reply. IsReply Check bytes reply.verdict reply.text.items) (g.F.Files.held c.args.files.now) (readings (roles_of Check) ns)
    (g.F.Files.faults c.args.files.now) (g.F.Files.faults c.check.new.files) c.check.result) (sym names) read)
