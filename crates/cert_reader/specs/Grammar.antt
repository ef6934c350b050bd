-- The grammar of certificates: which lines there are, in which order, and the first line with a fault.
use Rattle.std.specs.Prelude.{ℕ, true, false, ◌+◌, ◌≤◌, ◌^◌, List, [], ◌∷◌, ◌++◌, length, map, flat_map, Result, Ok, Err, ◌≡◌, ◌⊎◌}
use Rattle.std.specs.Bool.{⊤}
use Rattle.std.specs.List.{AllByRecursion, IsDistinct, list_any}
use Rattle.std.specs.Str.{bytes_eq}
use Rattle.prefix_trees.specs.Trees as trees
use Rattle.prefix_trees.specs.Trees.{HasAbove}
use Rattle.line_words.specs.Words.{lines_of}
use Rattle.line_words.specs.declared.lines.Line.TheVariants.{Passed, Faulty, Says}
use Rattle.cert_lines.specs.Order.{lines_of_cert, node_line, origin_of, step_line, steps_of}
use Rattle.cert_lines.specs.Statements.{CertLine, line_of}
use Rattle.cert_lines.specs.Sums.{are_past}
use Rattle.cert_lines.specs.declared.certificates.Cert.{Cert}
use Rattle.cert_lines.specs.declared.certificates.Node.{Node}
use Rattle.cert_lines.specs.declared.certificates.Section.{Section}
use Rattle.cert_lines.specs.declared.certificates.Step.{Step}
use Rattle.cert_lines.specs.declared.certificates.Version.{Version}
use Rattle.cert_lines.specs.declared.certificates.Version.TheVariants.{One, Two}
use Rattle.cert_lines.specs.declared.statements.Statement.TheVariants as say
use Rattle.cert_reader.specs.Reading.{amounts_of, branches_on, ids_of, names_of, same_origin}
use Rattle.cert_reader.specs.declared.faults.CertFault.{CertFault}
use Rattle.cert_reader.specs.declared.faults.CertFault.TheVariants as fault

-- the lines that aren't passed over, each with its number
abbrev pub unless_passed : ℕ → CertLine → List (ℕ × CertLine)
unless_passed number Passed = []
unless_passed number Faulty = (number, Faulty) ∷ []
unless_passed number (Says statement) = (number, Says statement) ∷ []

abbrev pub spoken_from : ℕ → List (List ℕ) → List (ℕ × CertLine)
spoken_from number [] = []
spoken_from number (line ∷ lines) = unless_passed number (line_of line) ++ spoken_from (number + 1) lines

abbrev pub spoken : List ℕ → List (ℕ × CertLine)
spoken bytes = spoken_from 1 (lines_of bytes)

-- the lines of a certificate in order. In which lines the version, `proof` and `end` stand is no part of it
abbrev pub kept : ℕ × CertLine → ℕ × CertLine
kept (number, Says (say.Certificate version)) = (0, Says (say.Certificate version))
kept (number, Says say.Proof) = (0, Says say.Proof)
kept (number, Says say.End) = (0, Says say.End)
kept line = line

abbrev pub HasItsSections : Version → List Section → Type 0
HasItsSections One sections = length sections ≡ 1
HasItsSections Two sections = ⊤

abbrev pub IsInOrder : List (ℕ × CertLine) → Cert → Type 0
IsInOrder lines cert = (map kept lines ≡ lines_of_cert cert) × HasItsSections cert.version cert.sections

-- the nodes are a tree up to this depth
abbrev pub IsTree : ℕ → List Node → Type 0
IsTree depth nodes = trees.IsTree branches_on depth nodes

abbrev pub IsSomeTree : List Node → Type 0
IsSomeTree nodes = trees.IsSomeTree branches_on nodes

abbrev pub HasTrees : List Section → Type 0
HasTrees sections = AllByRecursion (λ section. IsSomeTree section.tree) sections

-- the absolute values on a line
abbrev pub amounts_on : CertLine → List (List ℕ × ℕ)
amounts_on Passed = []
amounts_on Faulty = []
amounts_on (Says statement) = amounts_of statement

-- the bytes spell the certificate: its lines in order, names, properties and each bound's transition instances apart, sums
-- of absolute values in range, and trees within the limits, of which that on nodes is for all trees together
pub record Spells (bytes : List ℕ) (cert : Cert) : Type 0 where
  pub order : IsInOrder (spoken bytes) cert
  pub names : IsDistinct bytes_eq (names_of cert.facts)
  pub steps : AllByRecursion (λ fact. IsDistinct same_origin (map origin_of (steps_of fact.kind))) cert.facts
  pub properties : IsDistinct bytes_eq (ids_of cert.sections)
  pub sums : AllByRecursion (λ line. are_past (amounts_on line.1) ≡ false) (spoken bytes)
  pub nodes : length (flat_map (λ section. section.tree) cert.sections) ≤ 2 ^ 20
  pub trees : AllByRecursion (λ section. IsTree 256 section.tree) cert.sections

-- more lines can make these all lines of a certificate, whatever they repeat and however large it is
abbrev pub Stands : List (ℕ × CertLine) → Type 0
Stands front = (rest : List (ℕ × CertLine)) × (cert : Cert) × IsInOrder (front ++ rest) cert × HasTrees cert.sections

-- the names of facts, the ids of properties and the nodes on these lines
abbrev pub name_on : ℕ × CertLine → List (List ℕ)
name_on (number, Says (say.Fact name said)) = name ∷ []
name_on line = []

abbrev pub names_on : List (ℕ × CertLine) → List (List ℕ)
names_on lines = flat_map name_on lines

abbrev pub id_on : ℕ × CertLine → List (List ℕ)
id_on (number, Says (say.Property id)) = id ∷ []
id_on line = []

abbrev pub ids_on : List (ℕ × CertLine) → List (List ℕ)
ids_on lines = flat_map id_on lines

abbrev pub node_on : ℕ × CertLine → List Node
node_on (number, Says (say.Node form)) = record { line = number; form = form } ∷ []
node_on line = []

abbrev pub nodes_on : List (ℕ × CertLine) → List Node
nodes_on lines = flat_map node_on lines

-- a property whose id an earlier property has, a fact whose name an earlier fact has, or a step whose transition instance one
-- of the steps right before it has
abbrev pub Repeats : List (ℕ × CertLine) → CertLine → Type 0
Repeats before (Says (say.Property id)) = list_any (bytes_eq id) (ids_on before) ≡ true
Repeats before (Says (say.Fact name said)) = list_any (bytes_eq name) (names_on before) ≡ true
Repeats before (Says (say.Step step)) =
    (earlier : List (ℕ × CertLine))
    × (steps : List Step)
    × (before ≡ earlier ++ map step_line steps)
    × (list_any (same_origin step.origin) (map origin_of steps) ≡ true)
Repeats before line = ⊥

-- a node with so many nodes above it in its tree, of which these lines have the nodes behind the last `proof`
abbrev pub IsBelow : ℕ → List (ℕ × CertLine) → Type 0
IsBelow above before =
    (earlier : List (ℕ × CertLine))
    × (proof : ℕ)
    × (tree : List Node)
    × (before ≡ earlier ++ (proof, Says say.Proof) ∷ map node_line tree)
    × HasAbove branches_on above tree

-- the 1,048,577th node of all trees, or a node at depth 257 of its tree, below 256 others, or deeper
abbrev pub IsPastLimits : List (ℕ × CertLine) → CertLine → Type 0
IsPastLimits before (Says (say.Node form)) = (2 ^ 20 ≤ length (nodes_on before)) ⊎ ((above : ℕ) × (256 ≤ above) × IsBelow above before)
IsPastLimits before line = ⊥

-- the fault of a line behind the lines before it, the first in their order
abbrev pub HasLineFault : List (ℕ × CertLine) → ℕ × CertLine → CertFault → Type 0
HasLineFault before line (fault.Line number) = (number ≡ line.0) × ¬ Stands (before ++ line ∷ [])
HasLineFault before line (fault.Repeated number) = (number ≡ line.0) × Stands (before ++ line ∷ []) × Repeats before line.1
HasLineFault before line (fault.Coefficient number) =
    (number ≡ line.0)
    × Stands (before ++ line ∷ [])
    × ¬ Repeats before line.1
    × (are_past (amounts_on line.1) ≡ true)
HasLineFault before line (fault.CertLimit number) =
    (number ≡ line.0)
    × Stands (before ++ line ∷ [])
    × ¬ Repeats before line.1
    × (are_past (amounts_on line.1) ≡ false)
    × IsPastLimits before line.1
HasLineFault before line fault.Memory = ⊥

-- no line has a fault
abbrev pub IsFaultless : List (ℕ × CertLine) → Type 0
IsFaultless lines =
    (before : List (ℕ × CertLine)) (line : ℕ × CertLine) (later : List (ℕ × CertLine)) (refusal : CertFault)
    → lines ≡ before ++ line ∷ later → HasLineFault before line refusal → ⊥

-- the first line with a fault
abbrev pub IsAtFault : List (ℕ × CertLine) → CertFault → Type 0
IsAtFault lines refusal =
    (before : List (ℕ × CertLine))
    × (line : ℕ × CertLine)
    × (later : List (ℕ × CertLine))
    × (lines ≡ before ++ line ∷ later)
    × IsFaultless before
    × HasLineFault before line refusal

-- lines without a fault that are no whole certificate: the fault is behind the last line of the file
abbrev pub IsUnfinished : List (ℕ × CertLine) → ℕ → CertFault → Type 0
IsUnfinished lines count refusal =
    IsFaultless lines
    × ((cert : Cert) → IsInOrder lines cert → HasTrees cert.sections → ⊥)
    × (refusal ≡ fault.Line (count + 1))

-- the first fault of the bytes
abbrev pub HasFault : List ℕ → CertFault → Type 0
HasFault bytes refusal = IsAtFault (spoken bytes) refusal ⊎ IsUnfinished (spoken bytes) (length (lines_of bytes)) refusal

-- the answer is a certificate that the bytes spell, their first fault, or want of memory
abbrev pub IsCertificate : List ℕ → Result Cert CertFault → Type 0
IsCertificate bytes (Ok cert) = Spells bytes cert
IsCertificate bytes (Err fault.Memory) = ⊤
IsCertificate bytes (Err refusal) = HasFault bytes refusal

-- the fault is that of every file that begins with the bytes, or want of memory
abbrev pub IsRefusal : CertFault → List ℕ → Type 0
IsRefusal fault.Memory front = ⊤
IsRefusal refusal front = (more : List ℕ) → HasFault (front ++ more) refusal

-- a file spells one certificate or has one first fault, and not both
pub record HasOneAnswer (bytes : List ℕ) : Type 0 where
  pub one : ((cert : Cert) × Spells bytes cert) ⊎ ((refusal : CertFault) × HasFault bytes refusal)
  pub one_cert : (cert other : Cert) → Spells bytes cert → Spells bytes other → cert ≡ other
  pub one_fault : (refusal other : CertFault) → HasFault bytes refusal → HasFault bytes other → refusal ≡ other
  pub apart : (cert : Cert) (refusal : CertFault) → Spells bytes cert → HasFault bytes refusal → ⊥

abbrev pub HaveOneAnswer : Type 0
HaveOneAnswer = (bytes : List ℕ) → HasOneAnswer bytes
