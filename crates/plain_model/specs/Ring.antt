-- The smallest example: a ring of two places, on which one token goes round.
use Rattle.std.specs.Prelude.{◌≡◌, ℕ, List, [], ◌∷◌, ◌++◌, codes, ℤ, pos, negsuc}
use Rattle.plain_model.specs.declared.nets.Arc.{Arc}
use Rattle.plain_model.specs.declared.nets.PlainNet.{PlainNet}
use Rattle.plain_model.specs.declared.properties.Property.{Property}
use Rattle.plain_model.specs.declared.properties.Count.TheVariants.{Number, Tokens}
use Rattle.plain_model.specs.declared.certificates.Flow.{Flow}
use Rattle.plain_model.specs.declared.certificates.Certificate.{Certificate}
use Rattle.plain_model.specs.declared.certificates.Multiplier.TheVariants.{Fact, Hypothesis}
use Rattle.plain_model.specs.Forms.{coefficients, flow_slack}
use Rattle.plain_model.specs.Obligations.{judgement}
use Rattle.plain_model.specs.Report.{report, line_feed}
use Rattle.plain_model.specs.Sums.{sum_of}

-- an arc of weight 1
abbrev arc : List ℕ → List ℕ → List ℕ → Arc
arc id source target = record { id = id; source = source; target = target; weight = 1 }

-- `p0=1, p1=0; t: p0 -> p1; u: p1 -> p0`
abbrev pub ring : PlainNet
ring = record {
  id = codes "n";
  places = record { id = codes "p0"; marking = 1 } ∷ record { id = codes "p1"; marking = 0 } ∷ [];
  transitions = codes "t" ∷ codes "u" ∷ [];
  arcs = arc (codes "a1") (codes "p0") (codes "t") ∷ arc (codes "a2") (codes "t") (codes "p1")
      ∷ arc (codes "a3") (codes "p1") (codes "u") ∷ arc (codes "a4") (codes "u") (codes "p0") ∷ [];
}

-- `p0 + p1 <= 1`
abbrev pub ring_property : Property
ring_property = record { id = codes "P"; left = Tokens (codes "p0" ∷ codes "p1" ∷ []); right = Number 1 }

-- the flow with the coefficient 1 on `p0` and this one on `p1`
abbrev pub flow_with : ℤ → Flow
flow_with second = record { name = codes "f"; weights = record { value = pos 1; place = codes "p0" } ∷ record { value = second; place = codes "p1" } ∷ [] }

abbrev pub certificate_with : ℤ → Certificate
certificate_with second = record {
  property = codes "P";
  flows = flow_with second ∷ [];
  close = Hypothesis (pos 1) 1 ∷ Fact (record { value = negsuc 0; fact = codes "f" }) ∷ [];
}

-- the flow's slack form is `p0 + p1 - 1`
pub record FlowSlackIsRight : Type 0 where
  pub on_places : coefficients ring (flow_slack ring (flow_with (pos 1))) ≡ pos 1 ∷ pos 1 ∷ []
  pub constant : sum_of (flow_slack ring (flow_with (pos 1))).constant ≡ negsuc 0

abbrev pub report_of : Certificate → List ℕ
report_of certificate = report ring ring_property certificate (judgement ring ring_property certificate)

-- with the coefficients 1 and 1 it is shown; with 1 and 2 the first step fails
pub record ReportsAreRight : Type 0 where
  pub holds : report_of (certificate_with (pos 1)) ≡
      codes "holds" ++ line_feed ++ codes "property P TRUE" ++ line_feed ++ codes "places 2 constant 0 instances 2 live 2 kept 2" ++ line_feed
  pub fails : report_of (certificate_with (pos 2)) ≡
      codes "not shown" ++ line_feed ++ codes "property P UNKNOWN" ++ line_feed ++ codes "places 2 constant 0 instances 2 live 2 kept 2" ++ line_feed
      ++ codes "failed line 3 fact f step t@0" ++ line_feed
