-- The report of `check`.
use Rattle.std.specs.Prelude.{ℕ, ◌+◌, List, [], ◌∷◌, ◌++◌, map, length, codes, decimal, slice_index_or}
use Rattle.plain_model.specs.declared.nets.PlainNet.{PlainNet}
use Rattle.plain_model.specs.declared.properties.Property.{Property}
use Rattle.plain_model.specs.declared.certificates.Certificate.{Certificate}
use Rattle.plain_model.specs.declared.verdicts.Spot.{Spot}
use Rattle.plain_model.specs.declared.verdicts.Spot.TheVariants.{Step, Close}
use Rattle.plain_model.specs.declared.verdicts.Judged.{Judged}
use Rattle.plain_model.specs.declared.verdicts.Judged.TheVariants.{Shown, NotShown, Range}

abbrev pub line_feed : List ℕ
line_feed = 10 ∷ []

abbrev pub property_line : Property → List ℕ → List ℕ
property_line property word = codes "property " ++ property.id ++ 32 ∷ word ++ line_feed

-- place instances, constant ones, transition instances, live ones and kept ones: on a plain net
-- without reductions no place is constant and every transition is live and kept
abbrev pub counts_line : PlainNet → List ℕ
counts_line net =
    codes "places " ++ decimal (length net.places)
    ++ codes " constant 0 instances " ++ decimal (length net.transitions)
    ++ codes " live " ++ decimal (length net.transitions)
    ++ codes " kept " ++ decimal (length net.transitions) ++ line_feed

-- the name of the flow with this number
abbrev pub flow_name : Certificate → ℕ → List ℕ
flow_name certificate flow = slice_index_or (map (λ f. f.name) certificate.flows) flow []

-- a canonical certificate has its flows from line 3 on, then `proof`, and then `close`
abbrev pub failed_line : PlainNet → Certificate → Spot → List ℕ
failed_line net certificate (Step flow transition) =
    codes "failed line " ++ decimal (3 + flow) ++ codes " fact " ++ flow_name certificate flow
    ++ codes " step " ++ slice_index_or net.transitions transition [] ++ codes "@0" ++ line_feed
failed_line net certificate Close = codes "failed line " ++ decimal (length certificate.flows + 4) ++ codes " node" ++ line_feed

-- the report of what the obligations show
abbrev pub report : PlainNet → Property → Certificate → Judged → List ℕ
report net property certificate Shown =
    codes "holds" ++ line_feed ++ property_line property (codes "TRUE") ++ counts_line net
report net property certificate (NotShown spot) =
    codes "not shown" ++ line_feed ++ property_line property (codes "UNKNOWN") ++ counts_line net ++ failed_line net certificate spot
report net property certificate (Range spot) =
    codes "out of range" ++ line_feed ++ property_line property (codes "UNKNOWN") ++ counts_line net ++ failed_line net certificate spot
