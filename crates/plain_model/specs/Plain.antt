-- Which nets, properties and certificates the first grammar takes.
use Rattle.std.specs.Prelude.{◌≡◌, ◌≢◌, ℕ, ◌^◌, ◌<◌, ◌⊎◌, List, ◌++◌, map, length, IsTrue, All, AllPairs, Contains, unsigned_abs}
use Rattle.name_tables.specs.Grammar.{is_id_text}
use Rattle.plain_model.specs.declared.nets.Arc.{Arc}
use Rattle.plain_model.specs.declared.nets.PlainNet.{PlainNet}
use Rattle.plain_model.specs.declared.properties.Property.{Property}
use Rattle.plain_model.specs.declared.properties.Count.{Count}
use Rattle.plain_model.specs.declared.properties.Count.TheVariants.{Number, Tokens}
use Rattle.plain_model.specs.declared.certificates.Weight.{Weight}
use Rattle.plain_model.specs.declared.certificates.Flow.{Flow}
use Rattle.plain_model.specs.declared.certificates.Multiplier.{Multiplier}
use Rattle.plain_model.specs.declared.certificates.Multiplier.TheVariants.{Fact, Hypothesis}
use Rattle.plain_model.specs.declared.certificates.Certificate.{Certificate}

abbrev pub place_ids : PlainNet → List (List ℕ)
place_ids net = map (λ place. place.id) net.places

-- the ids of places, transitions and arcs, which are one space
abbrev pub node_ids : PlainNet → List (List ℕ)
node_ids net = place_ids net ++ net.transitions ++ map (λ arc. arc.id) net.arcs

abbrev pub IsId : List ℕ → Type 0
IsId text = IsTrue (is_id_text text)

abbrev pub AreDistinct : List (List ℕ) → Type 0
AreDistinct ids = AllPairs (λ one other. one ≢ other) ids

-- the arc leads from a place to a transition, or from a transition to a place
abbrev pub LeadsBetween : PlainNet → Arc → Type 0
LeadsBetween net arc =
    (Contains (place_ids net) arc.source × Contains net.transitions arc.target)
    ⊎ (Contains net.transitions arc.source × Contains (place_ids net) arc.target)

-- the arcs don't have both ends in common
abbrev pub AreApart : Arc → Arc → Type 0
AreApart one other = one.source ≡ other.source → one.target ≢ other.target

pub record IsPlainNet (net : PlainNet) : Type 0 where
  pub net_id : IsId net.id
  pub ids : All IsId (node_ids net)
  pub distinct : AreDistinct (node_ids net)
  pub ends : All (LeadsBetween net) net.arcs
  pub apart : AllPairs AreApart net.arcs
  pub markings : All (λ place. place.marking < 2 ^ 63) net.places
  pub weights : All (λ arc. (0 < arc.weight) × (arc.weight < 2 ^ 63)) net.arcs

-- a number in range, or tokens on some of these places
abbrev pub IsPlainCount : List (List ℕ) → Count → Type 0
IsPlainCount places (Number number) = number < 2 ^ 63
IsPlainCount places (Tokens ids) = (0 < length ids) × All (Contains places) ids

pub record IsPlainProperty (net : PlainNet) (property : Property) : Type 0 where
  pub id : IsId property.id
  pub left : IsPlainCount (place_ids net) property.left
  pub right : IsPlainCount (place_ids net) property.right

-- a coefficient in range on one of these places
abbrev pub IsPlainWeight : List (List ℕ) → Weight → Type 0
IsPlainWeight places weight = (unsigned_abs weight.value < 2 ^ 63) × Contains places weight.place

pub record IsPlainFlow (places : List (List ℕ)) (flow : Flow) : Type 0 where
  pub name : IsId flow.name
  pub weights : All (IsPlainWeight places) flow.weights
  pub once : AreDistinct (map (λ weight. weight.place) flow.weights)

abbrev pub flow_names : Certificate → List (List ℕ)
flow_names certificate = map (λ flow. flow.name) certificate.flows

-- a multiplier in range of one of these facts, or of the one hypothesis
abbrev pub IsPlainMultiplier : List (List ℕ) → Multiplier → Type 0
IsPlainMultiplier facts (Fact factor) = (unsigned_abs factor.value < 2 ^ 63) × Contains facts factor.fact
IsPlainMultiplier facts (Hypothesis value number) = (unsigned_abs value < 2 ^ 63) × (number ≡ 1)

-- the summands don't multiply the same fact or hypothesis
abbrev pub MultiplyApart : Multiplier → Multiplier → Type 0
MultiplyApart (Fact one) (Fact other) = one.fact ≢ other.fact
MultiplyApart (Hypothesis _ one) (Hypothesis _ other) = one ≢ other
MultiplyApart (Fact _) (Hypothesis _ _) = Unit {0}
MultiplyApart (Hypothesis _ _) (Fact _) = Unit {0}

pub record IsPlainCertificate (net : PlainNet) (property : Property) (certificate : Certificate) : Type 0 where
  pub named : certificate.property ≡ property.id
  pub flows : All (IsPlainFlow (place_ids net)) certificate.flows
  pub names : AreDistinct (flow_names certificate)
  pub close : All (IsPlainMultiplier (flow_names certificate)) certificate.close
  pub once : AllPairs MultiplyApart certificate.close
