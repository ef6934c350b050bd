-- The steps up to a net: a file's bytes are a document, and its tree is a net.
use Rattle.std.specs.Prelude.{◌≡◌, ℕ, List, [], ◌∷◌, ◌++◌, codes, decimal, Result, Ok, Err}
use Rattle.doc_model.specs.declared.tree.Element.{Element}
use Rattle.doc_tree.specs.declared.faults.DocFault.{DocFault}
use Rattle.doc_tree.specs.declared.faults.DocFault.TheVariants as damage
use Rattle.doc_tree.specs.declared.faults.Fault.{Fault}
use Rattle.doc_tree.specs.declared.faults.Fault.TheVariants as fault
use Rattle.doc_tree.specs.Reading.{FinishAnswer}
use Rattle.net_model.specs.declared.nets.Net.{Net}
use Rattle.net_elements.specs.Rules.{broken_rules}
use Rattle.pnml_read.specs.Nets.{net_of}
use Rattle.pnml_inputs.specs.declared.inputs.Role.{Role}
use Rattle.pnml_inputs.specs.declared.inputs.Role.TheVariants as role
use Rattle.answers.specs.Refusals.{refused}
use Rattle.answers.specs.declared.stages.Stage.{Stage}
use Rattle.answers.specs.declared.stages.Stage.TheVariants as step

-- the word for a broken rule
abbrev pub rule_word : Fault → List ℕ
rule_word fault.Unexpected = codes "unexpected"
rule_word fault.MissingChild = codes "missing-child"
rule_word fault.MissingAttribute = codes "missing-attribute"
rule_word fault.BadNumber = codes "bad-number"
rule_word fault.BadId = codes "bad-id"
rule_word fault.NetType = codes "net-type"
rule_word fault.ManyNets = codes "many-nets"
rule_word fault.DuplicateId = codes "duplicate-id"

-- the words of a place in a file: what is wrong there, and its offset
abbrev pub place_words : List ℕ → ℕ → List ℕ
place_words word at = word ++ 32 ∷ decimal at

-- the words of a tree that breaks a rule: where, and which
abbrev pub structure_words : ℕ → Fault → List ℕ
structure_words at rule = place_words (codes "structure") at ++ 32 ∷ rule_word rule

-- the step that a reader of documents leads to by its answer, which want of memory is not
abbrev pub IsDocumentBy : Role → Result Element DocFault → Stage Element → Type 0
IsDocumentBy role (Ok tree) stage = stage ≡ step.Reached tree
IsDocumentBy role (Err (damage.Malformed at)) stage = stage ≡ step.Refused (refused role (place_words (codes "malformed") at))
IsDocumentBy role (Err (damage.Deep at)) stage = stage ≡ step.Refused (refused role (place_words (codes "deep") at))
IsDocumentBy role (Err damage.Memory) stage = ⊥

-- the bytes of a file come to the tree that they spell, or to the place of damage
abbrev pub IsDocument : Role → List ℕ → Stage Element → Type 0
IsDocument role bytes stage = (answer : Result Element DocFault) × FinishAnswer bytes answer × IsDocumentBy role answer stage

-- a tree comes to its net where it breaks no rule, else to the first that it breaks
abbrev pub net_where : Element → List (ℕ × Fault) → Stage Net
net_where tree [] = step.Reached (net_of tree)
net_where tree ((at, rule) ∷ _) = step.Refused (refused role.Net (structure_words at rule))

abbrev pub net_of_tree : Element → Stage Net
net_of_tree tree = net_where tree (broken_rules tree)
