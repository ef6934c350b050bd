-- Flows whose places have numbers.
use Rattle.std.specs.Prelude.{◌≡◌, ℕ, List, map, Some}
use Rattle.name_tables.specs.Numbering.{number_in}
use Rattle.plain_model.specs.declared.certificates.Flow.{Flow}
use Rattle.plain_model.specs.declared.certificates.Weight.{Weight}
use Rattle.plain_model.specs.declared.properties.Property.{Property}
use Rattle.plain_model.specs.Plain.{AreDistinct}

-- a flow, and the ids of the net's places in the order of their numbers
pub record FlowOver : Type 0 where
  pub ids : List (List ℕ)
  pub flow : Flow

-- flows, and those ids
pub record FlowsOver : Type 0 where
  pub ids : List (List ℕ)
  pub flows : List Flow

-- a property, and those ids
pub record PropertyOver : Type 0 where
  pub ids : List (List ℕ)
  pub property : Property

-- these are the numbers of the weights' places
abbrev pub AreNumbersOf : List (List ℕ) → List Weight → List ℕ → Type 0
AreNumbersOf ids weights numbers = map (λ weight. number_in ids weight.place) weights ≡ map (λ number. Some number) numbers

-- the same of each flow
abbrev pub ArePlacesOf : List (List ℕ) → List Flow → List (List ℕ) → Type 0
ArePlacesOf ids flows numbers =
    map (λ flow. map (λ weight. number_in ids weight.place) flow.weights) flows ≡ map (λ each. map (λ number. Some number) each) numbers

-- the ids are distinct, and these are the numbers of the flow's places
pub record IsNumbered (ids : List (List ℕ)) (flow : Flow) (numbers : List ℕ) : Type 0 where
  pub distinct : AreDistinct ids
  pub are : AreNumbersOf ids flow.weights numbers

-- the same of each flow, whose names are distinct too
pub record AreNumbered (ids names : List (List ℕ)) (flows : List Flow) (numbers : List (List ℕ)) : Type 0 where
  pub distinct : AreDistinct ids
  pub named : names ≡ map (λ flow. flow.name) flows
  pub apart : AreDistinct names
  pub are : ArePlacesOf ids flows numbers
