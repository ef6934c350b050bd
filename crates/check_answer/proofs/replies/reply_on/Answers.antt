use Rattle.std.proofs.Common.{List, ℕ, ap, subst, ◌∙◌}
use Rattle.plain_model.specs.declared.properties.Property.{Property}
use Rattle.plain_model.specs.Obligations.{judgement}
use Rattle.plain_model.specs.Plain.{IsPlainCertificate, IsPlainCount}
use Rattle.plain_model.specs.Report.{report}
use Rattle.plain_judge.proofs.Order.{distinct_places}
use Rattle.check_answer.specs.Verdicts.{verdict_of}
use Rattle.check_answer.proofs.replies.reply_on.Goals as goal

pub numbered_property-requires : goal.numbered_property-requires
numbered_property-requires g c = distinct_places c.args.net.now c.args.rows.now.places c.requires.plain c.requires.places

pub returns : goal.returns
returns g c =
    let net = c.args.net.now in
    let property = c.in_ok-property.property in
    let certificate = c.in_ok-certificate.certificate in
    let same = c.in_ok-numbered.ensures.property in
    let judged = c.in_ok-judged.ensures.judged ∙ ap (λ (p : Property). judgement net p certificate) same in
    record {
      net = net;
      property = property;
      certificate = certificate;
      net_file = c.requires.file;
      formula_file = c.in_ok-property.ensures.read ∙ c.formula.ensures;
      certificate_file = c.in_ok-certificate.ensures ∙ c.certificate.ensures;
      plain_net = c.requires.plain;
      plain_property = record {
        id = c.in_ok-property.ensures.id;
        left = subst (λ (ids : List (List ℕ)). IsPlainCount ids property.left) c.requires.places c.in_ok-numbered.ensures.left;
        right = subst (λ (ids : List (List ℕ)). IsPlainCount ids property.right) c.requires.places c.in_ok-numbered.ensures.right;
      };
      plain_certificate = subst (λ (p : Property). IsPlainCertificate net p certificate) same c.in_ok-judged.ensures.plain;
      verdict_is = c.verdict_of.ensures ∙ ap verdict_of judged;
      text_is = c.in_ok-text.ensures ∙ ap (report net property certificate) judged;
    }
