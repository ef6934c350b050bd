-- The words of the line that a statement is written as.
use Rattle.std.proofs.Common.{◌≡◌, ℕ, List, [], ◌∷◌, ◌++◌, map, flat_map, refl, sym, ap, ◌∙◌}
use Rattle.std.specs.Prelude.{codes, decimal}
use Rattle.std.specs.Fmt.{signed_decimal}
use Rattle.std.proofs.lemmas.List.{append_assoc, append-nil}
use Rattle.std.proofs.lemmas.List.Folds.{flat_map-map}
use Rattle.line_words.specs.Texts.{all_spaced, factor_text, instance_text, multiplier_text, place_text, spaced, weight_text}
use Rattle.cert_lines.specs.Texts.{claim_text, node_text, statement_text, version_text}
use Rattle.cert_lines.specs.declared.certificates.NodeForm.{NodeForm}
use Rattle.cert_lines.specs.declared.certificates.NodeForm.TheVariants as form
use Rattle.cert_lines.specs.declared.statements.Claim.{Claim}
use Rattle.cert_lines.specs.declared.statements.Claim.TheVariants as claim
use Rattle.cert_lines.specs.declared.statements.Statement.{Statement}
use Rattle.cert_lines.specs.declared.statements.Statement.TheVariants.{Certificate, Property, Fact, Step, Proof, Node, End}
use Rattle.cert_lines.specs.declared.statements.StepClaim.{StepClaim}

-- the first word of a statement's line, and the words after it
abbrev pub claim_first : Claim → List ℕ
claim_first (claim.Flow weights) = codes "flow"
claim_first (claim.Trap places) = codes "trap"
claim_first (claim.Bound limit weights) = codes "bound"

abbrev pub claim_words : Claim → List (List ℕ)
claim_words (claim.Flow weights) = map weight_text weights
claim_words (claim.Trap places) = map place_text places
claim_words (claim.Bound limit weights) = signed_decimal limit ∷ map weight_text weights

abbrev pub step_words : StepClaim → List (List ℕ)
step_words step =
    instance_text step.origin
    ∷ signed_decimal step.scale
    ∷ signed_decimal step.keep
    ∷ map factor_text step.factors

abbrev pub node_first : NodeForm → List ℕ
node_first (form.Close multipliers) = codes "close"
node_first (form.Clash place) = codes "clash"
node_first (form.Split limit weights) = codes "split"
node_first (form.Cases choice branches) = codes "cases"
node_first (form.Each choice) = codes "each"

abbrev pub node_words : NodeForm → List (List ℕ)
node_words (form.Close multipliers) = map multiplier_text multipliers
node_words (form.Clash place) = place_text place ∷ []
node_words (form.Split limit weights) = signed_decimal limit ∷ map weight_text weights
node_words (form.Cases choice branches) = decimal choice ∷ decimal branches ∷ []
node_words (form.Each choice) = decimal choice ∷ []

abbrev pub first_of : Statement → List ℕ
first_of (Certificate version) = codes "certificate"
first_of (Property id) = codes "property"
first_of (Fact name said) = claim_first said
first_of (Step step) = codes "step"
first_of Proof = codes "proof"
first_of (Node node) = node_first node
first_of End = codes "end"

abbrev pub later_of : Statement → List (List ℕ)
later_of (Certificate version) = version_text version ∷ []
later_of (Property id) = id ∷ []
later_of (Fact name said) = name ∷ claim_words said
later_of (Step step) = step_words step
later_of Proof = []
later_of (Node node) = node_words node
later_of End = []

-- a space before each of them
three : (a b c d : List ℕ) → a ++ (b ++ (c ++ d)) ≡ ((a ++ b) ++ c) ++ d
three a b c d = sym (append_assoc (a ++ b) c d ∙ append_assoc a b (c ++ d))

four : (a b c d e : List ℕ) → a ++ (b ++ (c ++ (d ++ e))) ≡ (((a ++ b) ++ c) ++ d) ++ e
four a b c d e = three a b c (d ++ e) ∙ sym (append_assoc ((a ++ b) ++ c) d e)

abbrev by_words : Statement → List ℕ
by_words statement = first_of statement ++ flat_map spaced (later_of statement)

claim_by_words : (name : List ℕ) (said : Claim) → by_words (Fact name said) ≡ claim_text name said
claim_by_words name (claim.Flow weights) =
    ap (λ w. codes "flow" ++ (spaced name ++ w)) (flat_map-map spaced weight_text weights)
claim_by_words name (claim.Trap places) =
    ap (λ w. codes "trap" ++ (spaced name ++ w)) (flat_map-map spaced place_text places)
claim_by_words name (claim.Bound limit weights) =
    ap (λ w. codes "bound" ++ (spaced name ++ (spaced (signed_decimal limit) ++ w))) (flat_map-map spaced weight_text weights)
    ∙ three (codes "bound") (spaced name) (spaced (signed_decimal limit)) (all_spaced weight_text weights)

node_by_words : (node : NodeForm) → by_words (Node node) ≡ node_text node
node_by_words (form.Close multipliers) = ap (λ w. codes "close" ++ w) (flat_map-map spaced multiplier_text multipliers)
node_by_words (form.Clash place) = ap (λ w. codes "clash" ++ w) (append-nil (spaced (place_text place)))
node_by_words (form.Split limit weights) = ap (λ w. codes "split" ++ (spaced (signed_decimal limit) ++ w)) (flat_map-map spaced weight_text weights)
node_by_words (form.Cases choice branches) = ap (λ w. codes "cases" ++ (spaced (decimal choice) ++ w)) (append-nil (spaced (decimal branches)))
node_by_words (form.Each choice) = ap (λ w. codes "each" ++ w) (append-nil (spaced (decimal choice)))

pub text_by_words : (statement : Statement) → by_words statement ≡ statement_text statement
text_by_words (Certificate version) = ap (λ w. codes "certificate" ++ w) (append-nil (spaced (version_text version)))
text_by_words (Property id) = ap (λ w. codes "property" ++ w) (append-nil (spaced id))
text_by_words (Fact name said) = claim_by_words name said
text_by_words (Step step) =
    ap (λ w. codes "step" ++ (spaced (instance_text step.origin) ++ (spaced (signed_decimal step.scale) ++ (spaced (signed_decimal step.keep) ++ w))))
    (flat_map-map spaced factor_text step.factors)
    ∙ four (codes "step") (spaced (instance_text step.origin)) (spaced (signed_decimal step.scale)) (spaced (signed_decimal step.keep)) (all_spaced factor_text step.factors)
text_by_words Proof = refl
text_by_words (Node node) = node_by_words node
text_by_words End = refl
