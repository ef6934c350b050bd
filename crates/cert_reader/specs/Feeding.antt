-- A reader of certificates that was fed bytes.
use Rattle.std.specs.Prelude.{ℕ, List}
use Rattle.line_words.specs.Readers.{StandsFor}
use Rattle.cert_reader.specs.Reading.{ComesTo, LeadsTo}
use Rattle.cert_reader.specs.declared.reader.CertReader.{CertReader}

abbrev pub HasRead : CertReader → List ℕ → Type 0
HasRead reader bytes = StandsFor LeadsTo ComesTo reader.lines.cutter.taker reader.lines.cutter.number reader.lines.cutter.rest.items reader.lines.fault bytes
