-- What a line says is said again by the line that it is written as.
use Rattle.std.proofs.Common.{◌≡◌, ℕ, ℤ, Bool, true, false, List, [], ◌∷◌, ◌++◌, map, flat_map, Option, None, Some, refl, sym, ap, subst, ◌∙◌}
use Rattle.std.specs.Prelude.{◌==◌, codes, decimal, slice_index, if◌then◌else◌}
use Rattle.std.specs.Fmt.{signed_decimal}
use Rattle.std.specs.Str.{bytes_eq, is_utf8}
use Rattle.std.proofs.lemmas.Str.{is_utf8-from_IsUtf8}
use Rattle.name_tables.specs.Tables.{words_of_certificates}
use Rattle.line_words.specs.Lines.{line_from, line_with}
use Rattle.line_words.specs.Lists.{end_with, word_then, words_then}
use Rattle.line_words.specs.Parts.{factor_of, id_of, index_of, instance_of, multiplier_of, place_of, signed_of, weight_of}
use Rattle.line_words.specs.Texts.{factor_text, instance_text, multiplier_text, place_text, spaced, weight_text}
use Rattle.line_words.specs.Words.{behind_mark, words_of}
use Rattle.line_words.specs.declared.items.Factor.{Factor}
use Rattle.line_words.specs.declared.items.InstanceRef.{InstanceRef}
use Rattle.line_words.specs.declared.items.PlaceRef.{PlaceRef}
use Rattle.line_words.specs.declared.items.Weight.{Weight}
use Rattle.line_words.specs.declared.lines.Line.{Line}
use Rattle.line_words.specs.declared.lines.Line.TheVariants.{Passed, Faulty, Says}
use Rattle.line_words.proofs.SpacedWords.{AreWords, IsWord, no_feed_said, plain_word, text_said, words_said}
use Rattle.line_words.proofs.WordsAgain.{Rewrites, Writes, begins, factor_said, id_writes, index_writes, instance_said, list_said, multiplier_said, nothing_more, place_said, put_before, signed_writes, weight_said}
use Rattle.cert_lines.specs.Statements.{keyword_of, line_of, said, said_from, statement_of, version_of, word_for}
use Rattle.cert_lines.specs.Texts.{statement_text, version_text}
use Rattle.cert_lines.specs.Written.{IsSaidAgain, WrittenLineIsRead}
use Rattle.cert_lines.specs.declared.certificates.Version.{Version}
use Rattle.cert_lines.specs.declared.certificates.Version.TheVariants.{One, Two}
use Rattle.cert_lines.specs.declared.certificates.NodeForm.TheVariants as form
use Rattle.cert_lines.specs.declared.statements.Claim.TheVariants as claim
use Rattle.cert_lines.specs.declared.statements.Keyword.{Keyword}
use Rattle.cert_lines.specs.declared.statements.Keyword.TheVariants as first
use Rattle.cert_lines.specs.declared.statements.Statement.{Statement}
use Rattle.cert_lines.specs.declared.statements.Statement.TheVariants.{Certificate, Property, Fact, Step, Proof, Node, End}
use Rattle.cert_lines.proofs.LineWords.{first_of, later_of, text_by_words}

-- a statement that its own words say
pub record Again (statement : Statement) : Type 0 where
  pub first : IsWord (first_of statement)
  pub plain : (slice_index (first_of statement) 0 == 35) ≡ false
  pub says : statement_of (first_of statement) (later_of statement) ≡ Some statement
  pub words : AreWords (later_of statement)

-- the first words are found in their table
in_table : (keyword : Keyword) → keyword_of (word_for keyword) ≡ Some keyword
unfolding words_of_certificates
in_table first.Bound = refl
in_table first.Cases = refl
in_table first.Certificate = refl
in_table first.Clash = refl
in_table first.Close = refl
in_table first.Each = refl
in_table first.End = refl
in_table first.Flow = refl
in_table first.Proof = refl
in_table first.Property = refl
in_table first.Split = refl
in_table first.Step = refl
in_table first.Trap = refl

first_word : (keyword : Keyword) → IsWord (word_for keyword)
first_word first.Bound = plain_word (codes "bound") refl refl
first_word first.Cases = plain_word (codes "cases") refl refl
first_word first.Certificate = plain_word (codes "certificate") refl refl
first_word first.Clash = plain_word (codes "clash") refl refl
first_word first.Close = plain_word (codes "close") refl refl
first_word first.Each = plain_word (codes "each") refl refl
first_word first.End = plain_word (codes "end") refl refl
first_word first.Flow = plain_word (codes "flow") refl refl
first_word first.Proof = plain_word (codes "proof") refl refl
first_word first.Property = plain_word (codes "property") refl refl
first_word first.Split = plain_word (codes "split") refl refl
first_word first.Step = plain_word (codes "step") refl refl
first_word first.Trap = plain_word (codes "trap") refl refl

no_mark : (keyword : Keyword) → (slice_index (word_for keyword) 0 == 35) ≡ false
no_mark first.Bound = refl
no_mark first.Cases = refl
no_mark first.Certificate = refl
no_mark first.Clash = refl
no_mark first.Close = refl
no_mark first.Each = refl
no_mark first.End = refl
no_mark first.Flow = refl
no_mark first.Proof = refl
no_mark first.Property = refl
no_mark first.Split = refl
no_mark first.Step = refl
no_mark first.Trap = refl

-- the words after the first one say the statement again
abbrev Rows : Keyword → Statement → List (List ℕ) → Type 0
Rows keyword statement words = Rewrites (said keyword) statement words

with_first : (keyword : Keyword) (statement : Statement) → first_of statement ≡ word_for keyword → Rows keyword statement (later_of statement) → Again statement
with_first keyword statement is rows = record {
  first = subst IsWord (sym is) (first_word keyword);
  plain = ap (λ w. slice_index w 0 == 35) is ∙ no_mark keyword;
  says = ap (λ w. said_from (keyword_of w) (later_of statement)) is ∙ ap (λ k. said_from k (later_of statement)) (in_table keyword) ∙ rows.again;
  words = rows.are;
}

version_writes : (word : List ℕ) (version : Version) → version_of word ≡ Some version → Writes version_of version_text version
version_writes word One e = record { again = refl; word = plain_word (codes "1") refl refl }
version_writes word Two e = record { again = refl; word = plain_word (codes "2") refl refl }

-- no word is left
ends : {B : Type 0} (made : B) → Rewrites (end_with made) made []
ends made = record { again = refl; are = tt }

version_again : (statement : Statement) (words : List (List ℕ)) → said first.Certificate words ≡ Some statement → Again statement
version_again statement words e =
    let version = begins version_of (λ version. end_with (Certificate version)) words statement e in
    let value = Certificate version.first in
    let rows = put_before version_of version_text (λ version. end_with (Certificate version)) version.first value [] (version_writes version.word version.first version.says) (ends value) in
    subst Again (nothing_more value statement version.later version.goes_on) (with_first first.Certificate value refl rows)

property_again : (statement : Statement) (words : List (List ℕ)) → said first.Property words ≡ Some statement → Again statement
property_again statement words e =
    let id = begins id_of (λ id. end_with (Property id)) words statement e in
    let rows = put_before id_of (λ w. w) (λ id. end_with (Property id)) id.first (Property id.first) [] (id_writes id.word id.first id.says) (ends (Property id.first)) in
    subst Again (nothing_more (Property id.first) statement id.later id.goes_on) (with_first first.Property (Property id.first) refl rows)

flow_again : (statement : Statement) (words : List (List ℕ)) → said first.Flow words ≡ Some statement → Again statement
flow_again statement words e =
    let made : List ℕ → List Weight → Statement = λ name list. Fact name (claim.Flow list) in
    let name = begins id_of (λ name. words_then weight_of (made name)) words statement e in
    let list = list_said weight_of weight_text (made name.first) weight_said name.later statement name.goes_on in
    let rows = put_before id_of (λ w. w) (λ name. words_then weight_of (made name)) name.first (made name.first list.values) (map weight_text list.values) (id_writes name.word name.first name.says) list.rewrites in
    subst Again list.is (with_first first.Flow (made name.first list.values) refl rows)

trap_again : (statement : Statement) (words : List (List ℕ)) → said first.Trap words ≡ Some statement → Again statement
trap_again statement words e =
    let made : List ℕ → List PlaceRef → Statement = λ name list. Fact name (claim.Trap list) in
    let name = begins id_of (λ name. words_then place_of (made name)) words statement e in
    let list = list_said place_of place_text (made name.first) place_said name.later statement name.goes_on in
    let rows = put_before id_of (λ w. w) (λ name. words_then place_of (made name)) name.first (made name.first list.values) (map place_text list.values) (id_writes name.word name.first name.says) list.rewrites in
    subst Again list.is (with_first first.Trap (made name.first list.values) refl rows)

bound_again : (statement : Statement) (words : List (List ℕ)) → said first.Bound words ≡ Some statement → Again statement
bound_again statement words e =
    let made : List ℕ → ℤ → List Weight → Statement = λ name limit list. Fact name (claim.Bound limit list) in
    let list_rest : List ℕ → ℤ → List (List ℕ) → Option Statement = λ name limit. words_then weight_of (made name limit) in
    let name = begins id_of (λ name. word_then signed_of (list_rest name)) words statement e in
    let limit = begins signed_of (list_rest name.first) name.later statement name.goes_on in
    let list = list_said weight_of weight_text (made name.first limit.first) weight_said limit.later statement limit.goes_on in
    let value = made name.first limit.first list.values in
    let texts = map weight_text list.values in
    let rows = put_before signed_of signed_decimal (list_rest name.first) limit.first value texts (signed_writes limit.word limit.first limit.says) list.rewrites in
    let all = put_before id_of (λ w. w) (λ name. word_then signed_of (list_rest name)) name.first value (signed_decimal limit.first ∷ texts) (id_writes name.word name.first name.says) rows in
    subst Again list.is (with_first first.Bound value refl all)

step_again : (statement : Statement) (words : List (List ℕ)) → said first.Step words ≡ Some statement → Again statement
step_again statement words e =
    let made : InstanceRef → ℤ → ℤ → List Factor → Statement = λ at s k factors. Step (record { origin = at; scale = s; keep = k; factors = factors }) in
    let last : InstanceRef → ℤ → ℤ → List (List ℕ) → Option Statement = λ at s k. words_then factor_of (made at s k) in
    let third : InstanceRef → ℤ → List (List ℕ) → Option Statement = λ at s. word_then signed_of (last at s) in
    let second : InstanceRef → List (List ℕ) → Option Statement = λ at. word_then signed_of (third at) in
    let at = begins instance_of second words statement e in
    let s = begins signed_of (third at.first) at.later statement at.goes_on in
    let k = begins signed_of (last at.first s.first) s.later statement s.goes_on in
    let list = list_said factor_of factor_text (made at.first s.first k.first) factor_said k.later statement k.goes_on in
    let value = made at.first s.first k.first list.values in
    let texts = map factor_text list.values in
    let one = put_before signed_of signed_decimal (last at.first s.first) k.first value texts (signed_writes k.word k.first k.says) list.rewrites in
    let two = put_before signed_of signed_decimal (third at.first) s.first value (signed_decimal k.first ∷ texts) (signed_writes s.word s.first s.says) one in
    let all = put_before instance_of instance_text second at.first value (signed_decimal s.first ∷ signed_decimal k.first ∷ texts) (instance_said at.word at.first at.says) two in
    subst Again list.is (with_first first.Step value refl all)

-- nodes
close_again : (statement : Statement) (words : List (List ℕ)) → said first.Close words ≡ Some statement → Again statement
close_again statement words e =
    let list = list_said multiplier_of multiplier_text (λ list. Node (form.Close list)) multiplier_said words statement e in
    subst Again list.is (with_first first.Close (Node (form.Close list.values)) refl list.rewrites)

clash_again : (statement : Statement) (words : List (List ℕ)) → said first.Clash words ≡ Some statement → Again statement
clash_again statement words e =
    let rest : PlaceRef → List (List ℕ) → Option Statement = λ place. end_with (Node (form.Clash place)) in
    let place = begins place_of rest words statement e in
    let value = Node (form.Clash place.first) in
    let rows = put_before place_of place_text rest place.first value [] (place_said place.word place.first place.says) (ends value) in
    subst Again (nothing_more value statement place.later place.goes_on) (with_first first.Clash value refl rows)

split_again : (statement : Statement) (words : List (List ℕ)) → said first.Split words ≡ Some statement → Again statement
split_again statement words e =
    let made : ℤ → List Weight → Statement = λ limit list. Node (form.Split limit list) in
    let rest : ℤ → List (List ℕ) → Option Statement = λ limit. words_then weight_of (made limit) in
    let limit = begins signed_of rest words statement e in
    let list = list_said weight_of weight_text (made limit.first) weight_said limit.later statement limit.goes_on in
    let rows = put_before signed_of signed_decimal rest limit.first (made limit.first list.values) (map weight_text list.values) (signed_writes limit.word limit.first limit.says) list.rewrites in
    subst Again list.is (with_first first.Split (made limit.first list.values) refl rows)

cases_again : (statement : Statement) (words : List (List ℕ)) → said first.Cases words ≡ Some statement → Again statement
cases_again statement words e =
    let last : ℕ → ℕ → List (List ℕ) → Option Statement = λ choice branches. end_with (Node (form.Cases choice branches)) in
    let rest : ℕ → List (List ℕ) → Option Statement = λ choice. word_then index_of (last choice) in
    let choice = begins index_of rest words statement e in
    let branches = begins index_of (last choice.first) choice.later statement choice.goes_on in
    let value = Node (form.Cases choice.first branches.first) in
    let one = put_before index_of decimal (last choice.first) branches.first value [] (index_writes branches.word branches.first branches.says) (ends value) in
    let all = put_before index_of decimal rest choice.first value (decimal branches.first ∷ []) (index_writes choice.word choice.first choice.says) one in
    subst Again (nothing_more value statement branches.later branches.goes_on) (with_first first.Cases value refl all)

each_again : (statement : Statement) (words : List (List ℕ)) → said first.Each words ≡ Some statement → Again statement
each_again statement words e =
    let rest : ℕ → List (List ℕ) → Option Statement = λ choice. end_with (Node (form.Each choice)) in
    let choice = begins index_of rest words statement e in
    let value = Node (form.Each choice.first) in
    let rows = put_before index_of decimal rest choice.first value [] (index_writes choice.word choice.first choice.says) (ends value) in
    subst Again (nothing_more value statement choice.later choice.goes_on) (with_first first.Each value refl rows)

said_again : (keyword : Keyword) (statement : Statement) (words : List (List ℕ)) → said keyword words ≡ Some statement → Again statement
said_again first.Bound statement words e = bound_again statement words e
said_again first.Cases statement words e = cases_again statement words e
said_again first.Certificate statement words e = version_again statement words e
said_again first.Clash statement words e = clash_again statement words e
said_again first.Close statement words e = close_again statement words e
said_again first.Each statement words e = each_again statement words e
said_again first.End statement words e = subst Again (nothing_more End statement words e) (with_first first.End End refl (ends End))
said_again first.Flow statement words e = flow_again statement words e
said_again first.Proof statement words e = subst Again (nothing_more Proof statement words e) (with_first first.Proof Proof refl (ends Proof))
said_again first.Property statement words e = property_again statement words e
said_again first.Split statement words e = split_again statement words e
said_again first.Step statement words e = step_again statement words e
said_again first.Trap statement words e = trap_again statement words e

-- lines
spoken_parts : (o : Option Statement) (statement : Statement) → line_with o ≡ Says statement → o ≡ Some statement
spoken_parts None statement e = absurd (cc)
spoken_parts (Some s) statement e = cc

statement_parts : (word : List ℕ) (words : List (List ℕ)) (statement : Statement) → statement_of word words ≡ Some statement → Again statement
statement_parts word words statement e = by (keyword_of word) e
  where
    by : (o : Option Keyword) → said_from o words ≡ Some statement → Again statement
    by None e = absurd (cc)
    by (Some keyword) e = said_again keyword statement words e

line_parts : (text : Bool) (words : List (List ℕ)) (statement : Statement) → line_from statement_of text words ≡ Says statement → Again statement
line_parts text [] statement e = absurd (cc)
line_parts text (word ∷ words) statement e = by (slice_index word 0 == 35) text e
  where
    by : (a b : Bool) → (if a then Passed else if b then line_with (statement_of word words) else Faulty) ≡ Says statement → Again statement
    by true b e = absurd (cc)
    by false false e = absurd (cc)
    by false true e = statement_parts word words statement (spoken_parts (statement_of word words) statement e)

pub written_line_is_read : WrittenLineIsRead
written_line_is_read line statement e =
    let is = line_parts (is_utf8 line) (words_of line) statement e in
    let word = first_of statement in
    let words = later_of statement in
    subst (λ text. (line_of text ≡ Says statement) × (behind_mark 10 text ≡ None)) (text_by_words statement) (
      ap (λ t. line_from statement_of t (words_of (word ++ flat_map spaced words))) (is_utf8-from_IsUtf8 (word ++ flat_map spaced words) (text_said word words is.first is.words))
          ∙ ap (line_from statement_of true) (words_said word words is.first is.words)
          ∙ ap (λ t. if t then Passed else line_with (statement_of word words)) is.plain
          ∙ ap line_with is.says,
      no_feed_said word words is.first is.words,
    )
