-- The names on the lines of a certificate, and the first line with one that isn't there (this project's own).
use Rattle.std.specs.Prelude.{ℕ, ◌+◌, List, [], ◌∷◌, ◌++◌, map, flat_map, length, slice_index_or, Option, None, Some}
use Rattle.std.specs.List.{range_with_len}
use Rattle.pt_net.specs.Numbering.{NetNumbering}
use Rattle.pt_net.specs.Systems.{NetSystem}
use Rattle.line_words.specs.declared.items.PlaceRef.{PlaceRef}
use Rattle.line_words.specs.declared.items.Weight.{Weight}
use Rattle.line_words.specs.declared.items.Factor.{Factor}
use Rattle.line_words.specs.declared.items.Multiplier.{Multiplier}
use Rattle.line_words.specs.declared.items.Multiplier.TheVariants as multiplier
use Rattle.cert_lines.specs.declared.certificates.Fact.{Fact}
use Rattle.cert_lines.specs.declared.certificates.FactKind.{FactKind}
use Rattle.cert_lines.specs.declared.certificates.FactKind.TheVariants.{Flow, Trap, Bound}
use Rattle.cert_lines.specs.declared.certificates.Step.{Step}
use Rattle.cert_lines.specs.declared.certificates.Node.{Node}
use Rattle.cert_lines.specs.declared.certificates.NodeForm.{NodeForm}
use Rattle.cert_lines.specs.declared.certificates.NodeForm.TheVariants.{Close, Clash, Split, Cases, Each}
use Rattle.cert_model.specs.Names as names
use Rattle.cert_model.specs.Names.{Named, Use, Line, first_unknown}
use Rattle.cert_names.specs.Numbers.{instances_at, size, names_of}

abbrev pub use_at : List ℕ → Option ℕ → Use
use_at name None = names.Place name
use_at name (Some colour) = names.PlaceInstance name colour

abbrev pub place_use : PlaceRef → Use
place_use place = use_at place.place place.colour

abbrev pub weight_uses : List Weight → List Use
weight_uses weights = map (λ weight. place_use weight.place) weights

-- one of so many first facts
abbrev pub factor_use : ℕ → Factor → Use
factor_use before factor = names.Fact before factor.fact

-- the lines of a bound's steps name facts before the bound
abbrev pub step_line : ℕ → Step → Line
step_line before step = record { number = step.line; uses = names.Instance step.transition step.binding ∷ map (factor_use before) step.factors }

abbrev pub claim_uses : FactKind → List Use
claim_uses (Flow weights) = weight_uses weights
claim_uses (Trap places) = map place_use places
claim_uses (Bound limit weights steps) = weight_uses weights

abbrev pub step_lines : ℕ → FactKind → List Line
step_lines before (Flow weights) = []
step_lines before (Trap places) = []
step_lines before (Bound limit weights steps) = map (step_line before) steps

-- the lines of facts, with so many facts before them
abbrev pub fact_lines : ℕ → List Fact → List Line
fact_lines before [] = []
fact_lines before (fact ∷ more) = record { number = fact.line; uses = claim_uses fact.kind } ∷ step_lines before fact.kind ++ fact_lines (before + 1) more

abbrev pub multiplier_uses : ℕ → Multiplier → List Use
multiplier_uses facts (multiplier.Fact factor) = factor_use facts factor ∷ []
multiplier_uses facts (multiplier.Hypothesis value number) = []

abbrev pub form_uses : ℕ → NodeForm → List Use
form_uses facts (Close multipliers) = flat_map (multiplier_uses facts) multipliers
form_uses facts (Clash place) = place_use place ∷ []
form_uses facts (Split limit weights) = weight_uses weights
form_uses facts (Cases choice branches) = []
form_uses facts (Each choice) = []

abbrev pub node_line : ℕ → Node → Line
node_line facts node = record { number = node.line; uses = form_uses facts node.form }

-- all lines of the facts and of the trees, in order
abbrev pub lines_of : List Fact → List (List Node) → List Line
lines_of facts trees = fact_lines 0 facts ++ flat_map (map (node_line (length facts))) trees

-- what there is to be named: the places and transition instances of the unfolded net, and the facts
abbrev pub named : NetNumbering → NetSystem → List Fact → Named
named l net facts = record {
  places = map (λ p. (slice_index_or l.places p [], size (instances_at l p))) (range_with_len 0 (length l.places));
  instances = map (λ i. (slice_index_or l.transitions i.transition [], i.binding)) net.instances;
  facts = names_of facts;
}

-- the first line with a name that isn't there
abbrev pub missing_line : NetNumbering → NetSystem → List Fact → List (List Node) → Option ℕ
missing_line l net facts trees = first_unknown (named l net facts) (lines_of facts trees)
