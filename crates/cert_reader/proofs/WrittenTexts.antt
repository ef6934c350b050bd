-- What is written of a certificate that was read is read as the same certificate.
use Rattle.std.proofs.Common.{◌≡◌, ℕ, ◌+◌, List, [], ◌∷◌, ◌++◌, map, flat_map, Result, Ok, Err, refl, sym, ap, subst, ◌∙◌}
use Rattle.std.proofs.lemmas.List.{append_assoc}
use Rattle.line_words.specs.Texts.{ended}
use Rattle.line_words.specs.Words.{lines_of}
use Rattle.line_words.specs.declared.lines.Line.TheVariants.{Passed, Faulty, Says}
use Rattle.line_words.proofs.LineEnds.{line_then}
use Rattle.cert_lines.specs.Order.{lines_of_cert}
use Rattle.cert_lines.specs.Statements.{CertLine, line_of}
use Rattle.cert_lines.specs.Texts.{certificate_text, line_text, statement_text}
use Rattle.cert_lines.specs.Written.{WrittenLineIsRead}
use Rattle.cert_lines.specs.declared.certificates.Cert.{Cert}
use Rattle.cert_lines.specs.declared.certificates.Version.{Version}
use Rattle.cert_lines.specs.declared.statements.Statement.{Statement}
use Rattle.cert_lines.specs.declared.statements.Statement.TheVariants as say
use Rattle.cert_reader.specs.Grammar.{Spells, kept, spoken, spoken_from, unless_passed}
use Rattle.cert_reader.specs.Reading.{DraftState, after, cert_of, certificate_of, finished_at, going_on, nothing_read, read_lines, take_said, take_statement}
use Rattle.cert_reader.specs.Rewriting.{WrittenIsRead, unnumbered, unnumbered_fact, unnumbered_section}
use Rattle.cert_reader.specs.declared.faults.CertFault.{CertFault}
use Rattle.cert_reader.specs.declared.stages.Stage.{Stage}
use Rattle.cert_reader.specs.declared.stages.Stage.TheVariants as stage
use Rattle.cert_reader.proofs.Spelled.{reads_spelled, spells_read}
use Rattle.cert_reader.proofs.Unnumbered.{IsSame, same_after, same_taken, taken}

-- numbers aren't written
kept_text : (line : ℕ × CertLine) → line_text (kept line) ≡ line_text line
kept_text (number, Passed) = refl
kept_text (number, Faulty) = refl
kept_text (number, Says (say.Certificate version)) = refl
kept_text (number, Says say.Proof) = refl
kept_text (number, Says say.End) = refl
kept_text (number, Says statement) = refl

text_kept : (lines : List (ℕ × CertLine)) → flat_map line_text (map kept lines) ≡ flat_map line_text lines
text_kept [] = refl
text_kept (line ∷ lines) =
    ap (λ w. w ++ flat_map line_text (map kept lines)) (kept_text line) ∙ ap (λ w. line_text line ++ w) (text_kept lines)

-- what is read of the lines that these lines are written as
abbrev IsAgain : ℕ → DraftState → List (ℕ × CertLine) → Cert → Type 0
IsAgain number draft lines cert =
    (again : Cert) × (read_lines number draft (lines_of (flat_map line_text lines)) ≡ Ok again) × (unnumbered again ≡ unnumbered cert)

ended_again : (number again : ℕ) (at : Stage) (draft other : DraftState) (cert : Cert) → draft.stage ≡ at → finished_at at number draft ≡ Ok cert → IsSame draft other
    → IsAgain again other [] cert
ended_again number again stage.Nothing draft other cert is e same =
    let cert_is : cert_of draft ≡ cert = cc in (
      cert_of other,
      ap (λ at. finished_at at again other) (sym same.stage ∙ is),
      ap (λ facts. record { version = other.version; facts = facts; sections = map unnumbered_section other.sections }) (sym same.facts)
          ∙ ap (λ sections. record { version = other.version; facts = map unnumbered_fact draft.facts; sections = sections }) (sym same.sections)
          ∙ ap (λ version. record { version = version; facts = map unnumbered_fact draft.facts; sections = map unnumbered_section draft.sections }) (sym same.version)
          ∙ ap unnumbered cert_is,
    )
ended_again number again at draft other cert is e same = absurd (cc)

read_again : WrittenLineIsRead → (lines : List (List ℕ)) (number again : ℕ) (draft other : DraftState) (cert : Cert) → read_lines number draft lines ≡ Ok cert
    → IsSame draft other → IsAgain again other (spoken_from number lines) cert
read_again law [] number again draft other cert e same = ended_again number again draft.stage draft other cert refl e same
read_again law (line ∷ lines) number again draft other cert e same = by (line_of line) refl e (read_again law lines (number + 1))
  where
    by : (said : CertLine) → line_of line ≡ said → going_on (take_said number draft said) (λ next. read_lines (number + 1) next lines) ≡ Ok cert
        → ((again : ℕ) (draft other : DraftState) (cert : Cert) → read_lines (number + 1) draft lines ≡ Ok cert → IsSame draft other → IsAgain again other (spoken_from (number + 1) lines) cert)
        → IsAgain again other (unless_passed number said ++ spoken_from (number + 1) lines) cert
    by Passed says e later = later again draft other cert e same
    by Faulty says e later = absurd (cc)
    by (Says statement) says e later = on (take_statement number draft statement) refl e
      where
        on : (r : Result DraftState CertFault) → take_statement number draft statement ≡ r → going_on r (λ next. read_lines (number + 1) next lines) ≡ Ok cert
            → IsAgain again other ((number, Says statement) ∷ spoken_from (number + 1) lines) cert
        on (Err refusal) is e = absurd (cc)
        on (Ok next) is e =
            let t = taken number draft statement next is in
            let text = statement_text statement in
            let rest = flat_map line_text (spoken_from (number + 1) lines) in
            let said = law line statement says in
            let found = later (again + 1) next (after again other statement) cert e
            (subst (λ d. IsSame d (after again other statement)) t.is (same_after number again draft other statement same)) in (
              found.0,
              ap (λ w. read_lines again other (lines_of w)) (append_assoc text (10 ∷ []) rest)
                  ∙ ap (read_lines again other) (line_then text rest said.1)
                  ∙ ap (λ said. going_on (take_said again other said) (λ d. read_lines (again + 1) d (lines_of rest))) said.0
                  ∙ ap (λ r. going_on r (λ d. read_lines (again + 1) d (lines_of rest))) (same_taken number again draft other statement same next t)
                  ∙ found.1,
              found.2,
            )

begun : IsSame nothing_read nothing_read
begun = record { stage = refl; version = refl; facts = refl; ids = refl; sections = refl; current = refl; opens = refl; nodes = refl }

pub written_is_read : WrittenLineIsRead → WrittenIsRead
written_is_read law bytes cert spells =
    let again = read_again law (lines_of bytes) 1 1 nothing_read nothing_read cert (reads_spelled bytes cert spells) begun in
    let text : flat_map line_text (spoken bytes) ≡ certificate_text cert = sym (text_kept (spoken bytes)) ∙ ap (flat_map line_text) spells.order.0 in
    (again.0, spells_read (certificate_text cert) again.0 (ap certificate_of (sym text) ∙ again.1), again.2)
