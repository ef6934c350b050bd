use Rattle.cert_reader.proofs.Answered.{have_one_answer}
use Rattle.cert_reader.proofs.laws.certificates_have_one_answer.Goals as goal

pub returns : goal.returns
returns c = have_one_answer
