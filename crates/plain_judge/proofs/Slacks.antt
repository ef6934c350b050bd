-- Laws of the slack forms of a net's flows.
use Rattle.std.proofs.Common.{◌≡◌, ℕ, zero, suc, ◌<◌, true, false, cond, List, [], ◌∷◌, map, length, get_or, ℤ, neg_ℤ, ◌∙◌, ap, arith, Some}
use Rattle.std.specs.Prelude.{bytes_eq}
use Rattle.std.proofs.lemmas.Simd.{map-map}
use Rattle.std.proofs.lemmas.List.Quantifiers.{position-Some}
use Rattle.name_tables.specs.Numbering.{number_in}
use Rattle.plain_model.specs.declared.nets.PlainNet.{PlainNet}
use Rattle.plain_model.specs.declared.nets.Place.{Place}
use Rattle.plain_model.specs.declared.certificates.Flow.{Flow}
use Rattle.plain_model.specs.Forms.{weight_on, flow_slack, flow_slack_of}
use Rattle.plain_model.specs.Plain.{place_ids}
use Rattle.plain_model.specs.Sums.{products}
use Rattle.plain_judge.specs.Residuals.{markings}

-- the constant over coefficients by names is that over places
pub constant_by_places : (net : PlainNet) (flow : Flow) (ids : List (List ℕ)) (coefficients : List ℤ) → ids ≡ place_ids net → coefficients ≡ map (weight_on flow.weights) ids
    → map neg_ℤ (products coefficients (markings net.places)) ≡ (flow_slack net flow).constant
constant_by_places net flow ids coefficients places spread =
    let by_places : coefficients ≡ map (λ place. weight_on flow.weights place.id) net.places =
    spread ∙ ap (map (weight_on flow.weights)) places ∙ map-map (weight_on flow.weights) (λ (place : Place). place.id) net.places in
    ap (λ ys. map neg_ℤ (products ys (markings net.places))) by_places

-- the flow that a name stands for
pub flow_slack_of-is : (net : PlainNet) (flows : List Flow) (name : List ℕ) (at : ℕ) (d : Flow) → number_in (map (λ flow. flow.name) flows) name ≡ Some at
    → flow_slack_of net flows name ≡ flow_slack net (get_or flows at d)
flow_slack_of-is net flows name at d found =
    let there = position-Some (bytes_eq name) (map (λ flow. flow.name) flows) at [] found in
    by_place net flows name at d there.0 there.1 there.2
  where
    by_place : (net : PlainNet) (flows : List Flow) (name : List ℕ) (at : ℕ) (d : Flow) → at < length (map (λ flow. flow.name) flows)
        → bytes_eq name (get_or (map (λ flow. flow.name) flows) at []) ≡ true
        → ((k : ℕ) → k < at → bytes_eq name (get_or (map (λ flow. flow.name) flows) k []) ≡ false)
        → flow_slack_of net flows name ≡ flow_slack net (get_or flows at d)
    by_place net [] name at d within hit before = absurd (omega arith)
    by_place net (flow ∷ flows) name zero d within hit before = ap (λ b. cond b (flow_slack net flow) (flow_slack_of net flows name)) hit
    by_place net (flow ∷ flows) name (suc at) d within hit before =
        let first : bytes_eq name flow.name ≡ false = before 0 (omega arith) in
        ap (λ b. cond b (flow_slack net flow) (flow_slack_of net flows name)) first
        ∙ by_place net flows name at d (omega arith) hit (λ k below. before (suc k) (omega arith))
