use Rattle.std.proofs.Common.{[]}
use Rattle.cert_reader.proofs.Answered.{refused_certificate}
use Rattle.cert_reader.proofs.reader.read_cert.Goals as goal

pub returns-in-Ok-feed : goal.returns-in-Ok-feed
returns-in-Ok-feed c = c.finish.ensures.read c.args.bytes.now (c.in-Ok-feed.ensures.read [] c.in-Ok.ensures.read)

pub returns-in-Err-feed : goal.returns-in-Err-feed
returns-in-Err-feed c = refused_certificate c.in-Err-feed.fault c.args.bytes.now (c.in-Err-feed.ensures.fault [] c.in-Ok.ensures.read)
