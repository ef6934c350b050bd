-- The facts and the trees of a certificate over the reduced net (this project's own). Names that aren't there name no place, no
-- instance and no fact.
use Rattle.std.specs.Prelude.{ℕ, List, [], ◌∷◌, map, find, ℤ, pos, neg_ℤ, Option, None, Some, Bool, if◌then◌else◌}
use Rattle.std.specs.List.{list_any}
use Rattle.pt_net.specs.Numbering.{NetNumbering}
use Rattle.pt_net.specs.Systems.{NetSystem, instance_at, places}
use Rattle.reductions.specs.Numbers.{numbers}
use Rattle.reductions.specs.Reduced.{reduced}
use Rattle.line_words.specs.declared.items.PlaceRef.{PlaceRef}
use Rattle.line_words.specs.declared.items.Weight.{Weight}
use Rattle.line_words.specs.declared.items.Factor.{Factor}
use Rattle.line_words.specs.declared.items.Multiplier.{Multiplier}
use Rattle.line_words.specs.declared.items.Multiplier.TheVariants as multiplier
use Rattle.cert_lines.specs.declared.certificates.Fact.{Fact}
use Rattle.cert_lines.specs.declared.certificates.FactKind.{FactKind}
use Rattle.cert_lines.specs.declared.certificates.FactKind.TheVariants.{Flow, Trap, Bound}
use Rattle.cert_lines.specs.declared.certificates.Step.{Step}
use Rattle.cert_lines.specs.declared.certificates.Node.{Node}
use Rattle.cert_lines.specs.declared.certificates.NodeForm.{NodeForm}
use Rattle.cert_lines.specs.declared.certificates.NodeForm.TheVariants.{Close, Clash, Split, Cases, Each}
use Rattle.cert_model.specs.Sums.{sum_of}
use Rattle.cert_model.specs.Forms.{Form}
use Rattle.cert_model.specs.Facts as facts
use Rattle.cert_model.specs.Formulas.{Formula}
use Rattle.cert_model.specs.Trees as trees
use Rattle.cert_model.specs.Judging as judging
use Rattle.cert_laws.specs.PlainNets.{kept_place, plain_reduced}
use Rattle.cert_laws.specs.Reducing.{reduced_form, reduced_formula}
use Rattle.cert_names.specs.Numbers.{is_named, is_at, names_of, fact_number}

-- what a weight adds to the coefficient of a place instance
abbrev pub share : NetNumbering → ℕ → Weight → ℤ
share l p weight = if is_named l weight.place p then weight.value else pos 0

-- the coefficient of a place instance: all that a line says of it
abbrev pub coefficient : NetNumbering → List Weight → ℕ → ℤ
coefficient l weights p = sum_of (map (share l p) weights)

abbrev pub is_listed : NetNumbering → List PlaceRef → ℕ → Bool
is_listed l places p = list_any (λ place. is_named l place p) places

-- the weighted sum of tokens, and a limit minus it
abbrev pub weighted : NetNumbering → List Weight → Form
weighted l weights = record { coefficient = coefficient l weights; constant = [] }

abbrev pub below : NetNumbering → ℤ → List Weight → Form
below l limit weights = record { coefficient = λ p. neg_ℤ (coefficient l weights p); constant = limit ∷ [] }

abbrev pub factor_of : List (List ℕ) → Factor → facts.Factor
factor_of names factor = record { value = factor.value; fact = fact_number names factor.fact }

-- where a bound has no step line for an instance, scale and keep are 1
abbrev pub step_of : List (List ℕ) → Option Step → facts.StepLine
step_of names None = record { scale = pos 1; keep = pos 1; factors = [] }
step_of names (Some step) = record { scale = step.scale; keep = step.keep; factors = map (factor_of names) step.factors }

-- the step line for an instance of the reduced net
abbrev pub step_for : NetNumbering → NetSystem → List (List ℕ) → List Step → ℕ → facts.StepLine
step_for l net names steps i = step_of names (find (λ step. is_at l step.transition step.binding (instance_at (reduced net) i)) steps)

abbrev pub fact_of : NetNumbering → NetSystem → List (List ℕ) → FactKind → facts.Fact
fact_of l net names (Flow weights) = facts.Flow (λ q. coefficient l weights (kept_place net q))
fact_of l net names (Trap listed) = facts.Trap (λ q. is_listed l listed (kept_place net q))
fact_of l net names (Bound limit weights steps) =
    facts.Bound (λ q. coefficient l weights (kept_place net q)) (reduced_form net (below l limit weights)).constant (step_for l net names steps)

abbrev pub stated : NetNumbering → NetSystem → List Fact → List judging.Stated
stated l net all = map (λ fact. record { line = fact.line; fact = fact_of l net (names_of all) fact.kind }) all

abbrev pub multiplier_of : List (List ℕ) → Multiplier → trees.Multiplier
multiplier_of names (multiplier.Fact factor) = trees.OfFact (factor_of names factor)
multiplier_of names (multiplier.Hypothesis value number) = trees.OfHypothesis value number

abbrev pub kind_of : NetNumbering → NetSystem → List (List ℕ) → NodeForm → trees.Kind
kind_of l net names (Close multipliers) = trees.Close (map (multiplier_of names) multipliers)
kind_of l net names (Clash place) = trees.Clash (numbers (places (reduced net)) (λ q. is_named l place (kept_place net q)))
kind_of l net names (Split limit weights) = trees.Split (reduced_form net (weighted l weights)) limit
kind_of l net names (Cases choice branches) = trees.Cases choice branches
kind_of l net names (Each choice) = trees.Each choice

abbrev pub node_of : NetNumbering → NetSystem → List (List ℕ) → Node → trees.Node
node_of l net names node = record { line = node.line; kind = kind_of l net names node.form }

abbrev pub tree_of : NetNumbering → NetSystem → List (List ℕ) → List Node → List trees.Node
tree_of l net names nodes = map (node_of l net names) nodes

-- an invariant over the place instances of the unfolded net, and its tree
abbrev pub section_of : NetNumbering → NetSystem → List Fact → Formula × List Node → judging.Section
section_of l net all section = record { invariant = reduced_formula net section.0; tree = tree_of l net (names_of all) section.1 }

-- how many branches a node has
abbrev pub branch_count : NodeForm → ℕ
branch_count (Close multipliers) = 0
branch_count (Clash place) = 0
branch_count (Split limit weights) = 2
branch_count (Cases choice branches) = branches
branch_count (Each choice) = 1

abbrev pub branches_of : Node → ℕ
branches_of node = branch_count node.form

-- what the obligations of the facts, of a section, and of facts and sections come to
abbrev pub facts_judgement : NetNumbering → NetSystem → List Fact → judging.Judged
facts_judgement l net all = judging.facts_judgement (plain_reduced net) (stated l net all)

abbrev pub section_judgement : NetNumbering → NetSystem → List Fact → Formula × List Node → judging.Judged
section_judgement l net all section = judging.section_judgement (plain_reduced net) (stated l net all) (section_of l net all section)

abbrev pub judgement : NetNumbering → NetSystem → List Fact → List (Formula × List Node) → judging.Judged
judgement l net all sections = judging.judgement (plain_reduced net) (stated l net all) (map (section_of l net all) sections)

-- the line at which the walks over all trees have cost too much
abbrev pub tree_limit : NetNumbering → NetSystem → List Fact → List (Formula × List Node) → Option ℕ
tree_limit l net all sections = judging.tree_limit (plain_reduced net) (map (section_of l net all) sections)
