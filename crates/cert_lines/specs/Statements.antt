-- What one line says: its first word, and the words after it.
use Rattle.std.specs.Prelude.{ℕ, List, [], ◌∷◌, slice_get, Option, None, Some, codes, if◌then◌else◌}
use Rattle.std.specs.Str.{bytes_eq}
use Rattle.name_tables.specs.Numbering.{number_in}
use Rattle.name_tables.specs.Tables.{words_of_certificates}
use Rattle.line_words.specs.Lines.{line_as}
use Rattle.line_words.specs.Lists.{end_with, word_then, words_then}
use Rattle.line_words.specs.Parts.{factor_of, id_of, index_of, instance_of, multiplier_of, place_of, signed_of, weight_of}
use Rattle.line_words.specs.declared.lines.Line.{Line}
use Rattle.cert_lines.specs.declared.certificates.NodeForm.TheVariants as form
use Rattle.cert_lines.specs.declared.certificates.Version.{Version}
use Rattle.cert_lines.specs.declared.certificates.Version.TheVariants.{One, Two}
use Rattle.cert_lines.specs.declared.statements.Claim.TheVariants as claim
use Rattle.cert_lines.specs.declared.statements.Keyword.{Keyword}
use Rattle.cert_lines.specs.declared.statements.Keyword.TheVariants as first
use Rattle.cert_lines.specs.declared.statements.Statement.{Statement}
use Rattle.cert_lines.specs.declared.statements.Statement.TheVariants.{Certificate, Property, Fact, Step, Proof, Node, End}

-- the first words, in the order of their table
abbrev pub keywords : List Keyword
keywords =
    first.Bound ∷ first.Cases ∷ first.Certificate ∷ first.Clash ∷ first.Close ∷ first.Each ∷ first.End ∷ first.Flow ∷ first.Proof ∷
    first.Property ∷ first.Split ∷ first.Step ∷ first.Trap ∷ []

abbrev pub keyword_at : Option ℕ → Option Keyword
keyword_at None = None
keyword_at (Some place) = slice_get keywords place

abbrev pub keyword_of : List ℕ → Option Keyword
keyword_of word = keyword_at (number_in words_of_certificates word)

-- and the other way round
abbrev pub word_for : Keyword → List ℕ
word_for first.Bound = codes "bound"
word_for first.Cases = codes "cases"
word_for first.Certificate = codes "certificate"
word_for first.Clash = codes "clash"
word_for first.Close = codes "close"
word_for first.Each = codes "each"
word_for first.End = codes "end"
word_for first.Flow = codes "flow"
word_for first.Proof = codes "proof"
word_for first.Property = codes "property"
word_for first.Split = codes "split"
word_for first.Step = codes "step"
word_for first.Trap = codes "trap"

-- the word `1` or `2`
abbrev pub version_of : List ℕ → Option Version
version_of word = if bytes_eq word (codes "1") then Some One else if bytes_eq word (codes "2") then Some Two else None

-- the words after the first one
abbrev pub said : Keyword → List (List ℕ) → Option Statement
said first.Certificate = word_then version_of (λ version. end_with (Certificate version))
said first.Property = word_then id_of (λ id. end_with (Property id))
said first.Flow = word_then id_of (λ name. words_then weight_of (λ weights. Fact name (claim.Flow weights)))
said first.Trap = word_then id_of (λ name. words_then place_of (λ places. Fact name (claim.Trap places)))
said first.Bound = word_then id_of (λ name. word_then signed_of (λ limit. words_then weight_of (λ weights. Fact name (claim.Bound limit weights))))
said first.Step = word_then instance_of (λ at. word_then signed_of (λ s. word_then signed_of (λ k.
    words_then factor_of (λ factors. Step (record { origin = at; scale = s; keep = k; factors = factors })))))
said first.Proof = end_with Proof
said first.Close = words_then multiplier_of (λ multipliers. Node (form.Close multipliers))
said first.Clash = word_then place_of (λ place. end_with (Node (form.Clash place)))
said first.Split = word_then signed_of (λ limit. words_then weight_of (λ weights. Node (form.Split limit weights)))
said first.Cases = word_then index_of (λ choice. word_then index_of (λ branches. end_with (Node (form.Cases choice branches))))
said first.Each = word_then index_of (λ choice. end_with (Node (form.Each choice)))
said first.End = end_with End

abbrev pub said_from : Option Keyword → List (List ℕ) → Option Statement
said_from None words = None
said_from (Some keyword) words = said keyword words

abbrev pub statement_of : List ℕ → List (List ℕ) → Option Statement
statement_of word words = said_from (keyword_of word) words

abbrev pub CertLine : Type 0
CertLine = Line Statement

abbrev pub line_of : List ℕ → CertLine
line_of bytes = line_as statement_of bytes
