-- Which lines a certificate has, in which order, and the first fault.
use Rattle.std.specs.Prelude.{ℕ, zero, suc, Bool, true, false, not, ◌&&◌, ◌||◌, ◌-◌, ◌+◌, ◌^◌, nat_eq, nat_le, List, [], ◌∷◌, ◌++◌, length, map, Option, None, Some, Result, Ok, Err, if◌then◌else◌, ◌≡◌}
use Rattle.std.specs.Bool.{⊤}
use Rattle.std.specs.List.{list_any}
use Rattle.std.specs.Str.{bytes_eq}
use Rattle.prefix_trees.specs.Trees.{opens_after}
use Rattle.cert_lines.specs.Order.{origin_of, steps_of}
use Rattle.line_words.specs.Words.{lines_of}
use Rattle.cert_lines.specs.Statements.{line_of}
use Rattle.cert_lines.specs.Sums.{are_past, factor_amount, multiplier_amount, weight_amount}
use Rattle.cert_lines.specs.declared.certificates.Cert.{Cert}
use Rattle.cert_lines.specs.declared.certificates.Fact.{Fact}
use Rattle.cert_lines.specs.declared.certificates.FactKind.{FactKind}
use Rattle.cert_lines.specs.declared.certificates.FactKind.TheVariants.{Flow, Trap, Bound}
use Rattle.cert_lines.specs.declared.certificates.Section.{Section}
use Rattle.cert_lines.specs.declared.certificates.Step.{Step}
use Rattle.cert_lines.specs.declared.certificates.Version.{Version}
use Rattle.cert_lines.specs.declared.certificates.Version.TheVariants.{One, Two}
use Rattle.cert_lines.specs.declared.certificates.Node.{Node}
use Rattle.cert_lines.specs.declared.certificates.NodeForm.{NodeForm}
use Rattle.cert_lines.specs.declared.certificates.NodeForm.TheVariants.{Close, Clash, Split, Cases, Each}
use Rattle.cert_reader.specs.declared.faults.CertFault.{CertFault}
use Rattle.cert_reader.specs.declared.faults.CertFault.TheVariants as fault
use Rattle.cert_lines.specs.declared.statements.Claim.{Claim}
use Rattle.cert_lines.specs.declared.statements.Claim.TheVariants as claim
use Rattle.cert_lines.specs.Statements.{CertLine}
use Rattle.line_words.specs.declared.lines.Line.TheVariants.{Passed, Faulty, Says}
use Rattle.line_words.specs.declared.items.InstanceRef.{InstanceRef}
use Rattle.cert_reader.specs.declared.stages.Stage.{Stage}
use Rattle.cert_reader.specs.declared.stages.Stage.TheVariants as stage
use Rattle.cert_lines.specs.declared.statements.Statement.{Statement}
use Rattle.cert_lines.specs.declared.statements.Statement.TheVariants as say
use Rattle.cert_lines.specs.declared.statements.StepClaim.{StepClaim}

-- a certificate of which some lines have been read: what is to come next; the version and the facts; the ids of all
-- properties; the sections whose tree is whole; the last property with its tree so far; how many branches of each open node
-- of that tree are to come, the innermost first; and how many nodes all trees have
pub record DraftState : Type 0 where
  pub stage : Stage
  pub version : Version
  pub facts : List Fact
  pub ids : List (List ℕ)
  pub sections : List Section
  pub current : Section
  pub opens : List ℕ
  pub nodes : ℕ

abbrev pub draft_of : Stage → Version → List Fact → List (List ℕ) → List Section → Section → List ℕ → ℕ → DraftState
draft_of at v fs is ss c os n = record { stage = at; version = v; facts = fs; ids = is; sections = ss; current = c; opens = os; nodes = n }

abbrev pub section_of : ℕ → List ℕ → List Node → Section
section_of number id nodes = record { line = number; property = id; tree = nodes }

abbrev pub no_section : Section
no_section = section_of 0 [] []

abbrev pub nothing_read : DraftState
nothing_read = draft_of stage.Version One [] [] [] no_section [] 0

-- the last fact, its steps, and whether steps may follow it
abbrev pub last_fact : List Fact → Option Fact
last_fact [] = None
last_fact (fact ∷ []) = Some fact
last_fact (fact ∷ next ∷ later) = last_fact (next ∷ later)

abbrev pub is_bound : FactKind → Bool
is_bound (Flow weights) = false
is_bound (Trap places) = false
is_bound (Bound limit weights steps) = true

abbrev pub takes_steps : Option Fact → Bool
takes_steps None = false
takes_steps (Some fact) = is_bound fact.kind

abbrev pub origins_of : Option Fact → List InstanceRef
origins_of None = []
origins_of (Some fact) = map origin_of (steps_of fact.kind)

abbrev pub same_origin : InstanceRef → InstanceRef → Bool
same_origin a b = bytes_eq a.transition b.transition && nat_eq a.binding b.binding

abbrev pub names_of : List Fact → List (List ℕ)
names_of facts = map (λ fact. fact.name) facts

abbrev pub ids_of : List Section → List (List ℕ)
ids_of sections = map (λ section. section.property) sections

-- the order: the version; in version 1 the property, facts, `proof` and one tree; in version 2 facts, and then any number of
-- properties, each with `proof` and a tree; `end`, and nothing more. Each bound has its steps behind it
abbrev pub is_one : Version → Bool
is_one One = true
is_one Two = false

abbrev pub may_follow : Version → List Fact → Statement → Bool
may_follow version facts (say.Fact name said) = true
may_follow version facts (say.Step step) = takes_steps (last_fact facts)
may_follow version facts say.Proof = is_one version
may_follow version facts (say.Property id) = not (is_one version)
may_follow version facts say.End = not (is_one version)
may_follow version facts statement = false

abbrev pub may_close : Version → Statement → Bool
may_close version (say.Property id) = not (is_one version)
may_close version say.End = true
may_close version statement = false

abbrev pub may_stand_at : Stage → Version → List Fact → Statement → Bool
may_stand_at stage.Version version facts (say.Certificate other) = true
may_stand_at stage.Property version facts (say.Property id) = true
may_stand_at stage.Facts version facts statement = may_follow version facts statement
may_stand_at stage.Proof version facts say.Proof = true
may_stand_at stage.Tree version facts (say.Node form) = true
may_stand_at stage.Sections version facts statement = may_close version statement
may_stand_at at version facts statement = false

abbrev pub may_stand : DraftState → Statement → Bool
may_stand draft statement = may_stand_at draft.stage draft.version draft.facts statement

-- a property whose id an earlier one has, a fact whose name an earlier fact has, or a step at a transition instance that an
-- earlier step of the bound has
abbrev pub is_repeated : DraftState → Statement → Bool
is_repeated draft (say.Property id) = list_any (bytes_eq id) draft.ids
is_repeated draft (say.Fact name said) = list_any (bytes_eq name) (names_of draft.facts)
is_repeated draft (say.Step step) = list_any (same_origin step.origin) (origins_of (last_fact draft.facts))
is_repeated draft statement = false

-- the absolute values of a line, each with what it stands on
abbrev pub claim_amounts : Claim → List (List ℕ × ℕ)
claim_amounts (claim.Flow weights) = map weight_amount weights
claim_amounts (claim.Trap places) = []
claim_amounts (claim.Bound limit weights) = map weight_amount weights

abbrev pub node_amounts : NodeForm → List (List ℕ × ℕ)
node_amounts (Close multipliers) = map multiplier_amount multipliers
node_amounts (Clash place) = []
node_amounts (Split limit weights) = map weight_amount weights
node_amounts (Cases choice branches) = []
node_amounts (Each choice) = []

abbrev pub amounts_of : Statement → List (List ℕ × ℕ)
amounts_of (say.Fact name said) = claim_amounts said
amounts_of (say.Step step) = map factor_amount step.factors
amounts_of (say.Node form) = node_amounts form
amounts_of statement = []

-- the 1,048,577th node, and a node at depth 257, below 256 open ones
abbrev pub is_past_limits : DraftState → Statement → Bool
is_past_limits draft (say.Node form) = nat_le (2 ^ 20) draft.nodes || nat_le 256 (length draft.opens)
is_past_limits draft statement = false

-- how many branches follow a node
abbrev pub branches_of : NodeForm → ℕ
branches_of (Close multipliers) = 0
branches_of (Clash place) = 0
branches_of (Split limit weights) = 2
branches_of (Cases choice branches) = branches
branches_of (Each choice) = 1

abbrev pub branches_on : Node → ℕ
branches_on node = branches_of node.form

-- the facts with one more step of the last one
abbrev pub grown : FactKind → Step → FactKind
grown (Flow weights) step = Flow weights
grown (Trap places) step = Trap places
grown (Bound limit weights steps) step = Bound limit weights (steps ++ step ∷ [])

abbrev pub stepped : Fact → Step → Fact
stepped fact step = record { line = fact.line; name = fact.name; kind = grown fact.kind step }

abbrev pub with_step : List Fact → Step → List Fact
with_step [] step = []
with_step (fact ∷ []) step = stepped fact step ∷ []
with_step (fact ∷ next ∷ later) step = fact ∷ with_step (next ∷ later) step

abbrev pub step_at : ℕ → StepClaim → Step
step_at number step = record {
  line = number;
  transition = step.origin.transition;
  binding = step.origin.binding;
  scale = step.scale;
  keep = step.keep;
  factors = step.factors;
}

abbrev pub node_at : ℕ → NodeForm → Node
node_at number form = record { line = number; form = form }

-- a bound has no steps yet
abbrev pub kind_of : Claim → FactKind
kind_of (claim.Flow weights) = Flow weights
kind_of (claim.Trap places) = Trap places
kind_of (claim.Bound limit weights) = Bound limit weights []

abbrev pub fact_at : ℕ → List ℕ → Claim → Fact
fact_at number name said = record { line = number; name = name; kind = kind_of said }

-- the draft after a statement
abbrev pub at_stage : DraftState → Stage → DraftState
at_stage d next = draft_of next d.version d.facts d.ids d.sections d.current d.opens d.nodes

abbrev pub stage_after : Version → Stage
stage_after One = stage.Property
stage_after Two = stage.Facts

abbrev pub with_version : DraftState → Version → DraftState
with_version d version = draft_of (stage_after version) version d.facts d.ids d.sections d.current d.opens d.nodes

abbrev pub stage_behind : Version → Stage
stage_behind One = stage.Facts
stage_behind Two = stage.Proof

abbrev pub with_property : DraftState → ℕ → List ℕ → DraftState
with_property d number id =
    draft_of (stage_behind d.version) d.version d.facts (d.ids ++ id ∷ []) d.sections (section_of number id []) d.opens d.nodes

abbrev pub with_facts : DraftState → List Fact → DraftState
with_facts d facts = draft_of d.stage d.version facts d.ids d.sections d.current d.opens d.nodes

abbrev pub grown_section : Section → Node → Section
grown_section section node = section_of section.line section.property (section.tree ++ node ∷ [])

abbrev pub with_node : DraftState → Node → List ℕ → DraftState
with_node d node opens = draft_of stage.Tree d.version d.facts d.ids d.sections (grown_section d.current node) opens (d.nodes + 1)

-- a tree without open nodes is whole
abbrev pub settled_by : List ℕ → DraftState → DraftState
settled_by [] d = draft_of stage.Sections d.version d.facts d.ids (d.sections ++ d.current ∷ []) no_section d.opens d.nodes
settled_by (count ∷ counts) d = d

abbrev pub settled : DraftState → DraftState
settled d = settled_by d.opens d

abbrev pub after : ℕ → DraftState → Statement → DraftState
after number draft (say.Certificate version) = with_version draft version
after number draft (say.Property id) = with_property draft number id
after number draft (say.Fact name said) = with_facts draft (draft.facts ++ fact_at number name said ∷ [])
after number draft (say.Step step) = with_facts draft (with_step draft.facts (step_at number step))
after number draft say.Proof = at_stage draft stage.Tree
after number draft (say.Node form) = settled (with_node draft (node_at number form) (opens_after (branches_of form) draft.opens))
after number draft say.End = at_stage draft stage.Nothing

-- a line: its faults in their order, or the draft after it
abbrev pub take_statement : ℕ → DraftState → Statement → Result DraftState CertFault
take_statement number draft statement =
    if may_stand draft statement then
    (if is_repeated draft statement then Err (fault.Repeated number) else
    if are_past (amounts_of statement) then Err (fault.Coefficient number) else
    if is_past_limits draft statement then Err (fault.CertLimit number) else
    Ok (after number draft statement))
    else Err (fault.Line number)

abbrev pub take_said : ℕ → DraftState → CertLine → Result DraftState CertFault
take_said number draft Passed = Ok draft
take_said number draft Faulty = Err (fault.Line number)
take_said number draft (Says statement) = take_statement number draft statement

abbrev pub take_line : ℕ → DraftState → List ℕ → Result DraftState CertFault
take_line number draft bytes = take_said number draft (line_of bytes)

abbrev pub cert_of : DraftState → Cert
cert_of draft = record { version = draft.version; facts = draft.facts; sections = draft.sections }

-- at the end of the lines; `number` is that of the line after the last
abbrev pub finished_at : Stage → ℕ → DraftState → Result Cert CertFault
finished_at stage.Nothing number draft = Ok (cert_of draft)
finished_at at number draft = Err (fault.Line number)

abbrev pub finished : ℕ → DraftState → Result Cert CertFault
finished number draft = finished_at draft.stage number draft

-- what the lines give from the line `number` on, the first fault or the certificate
abbrev pub going_on : Result DraftState CertFault → (DraftState → Result Cert CertFault) → Result Cert CertFault
going_on (Ok draft) later = later draft
going_on (Err fault) later = Err fault

abbrev pub read_lines : ℕ → DraftState → List (List ℕ) → Result Cert CertFault
read_lines number draft [] = finished number draft
read_lines number draft (line ∷ lines) = going_on (take_line number draft line) (λ next. read_lines (number + 1) next lines)

-- the certificate that the bytes spell, or their first fault
abbrev pub certificate_of : List ℕ → Result Cert CertFault
certificate_of bytes = read_lines 1 nothing_read (lines_of bytes)

-- an answer is the expected one, or want of memory
abbrev pub IsAnswer : {A : Type 0} → Result A CertFault → Result A CertFault → Type 0
IsAnswer (Ok value) expected = expected ≡ Ok value
IsAnswer (Err (fault.Line number)) expected = expected ≡ Err (fault.Line number)
IsAnswer (Err (fault.Repeated number)) expected = expected ≡ Err (fault.Repeated number)
IsAnswer (Err (fault.Coefficient number)) expected = expected ≡ Err (fault.Coefficient number)
IsAnswer (Err (fault.CertLimit number)) expected = expected ≡ Err (fault.CertLimit number)
IsAnswer (Err fault.Memory) expected = ⊤

-- a draft has taken a line: it is the expected one, or the fault is the expected answer
abbrev pub HasTaken : {A : Type 0} → Result A CertFault → DraftState → Result DraftState CertFault → Type 0
HasTaken (Ok done) draft expected = expected ≡ Ok draft
HasTaken (Err fault) draft expected = IsAnswer {A = DraftState} (Err fault) expected

-- the answer that the lines from `number` on lead to, and the one that all lines come to
abbrev pub LeadsTo : DraftState → ℕ → List (List ℕ) → Result Cert CertFault → Type 0
LeadsTo draft number lines answer = IsAnswer answer (read_lines number draft lines)

abbrev pub ComesTo : List (List ℕ) → Result Cert CertFault → Type 0
ComesTo lines answer = LeadsTo nothing_read 1 lines answer
