-- A small certificate, and what its names come to.
use Rattle.std.specs.Prelude.{◌≡◌, ℕ, List, [], ◌∷◌, map, codes, ℤ, pos, negsuc, None, Some, Option}
use Rattle.wide_sums.specs.declared.rows.Cell.{Cell}
use Rattle.pt_net.specs.declared.instances.Instance.{Instance}
use Rattle.pt_net.specs.Numbering.{NetNumbering}
use Rattle.pt_net.specs.Systems.{NetSystem, system_of}
use Rattle.line_words.specs.declared.items.PlaceRef.{PlaceRef}
use Rattle.line_words.specs.declared.items.Weight.{Weight}
use Rattle.cert_lines.specs.declared.certificates.Fact.{Fact}
use Rattle.cert_lines.specs.declared.certificates.FactKind.TheVariants.{Flow, Trap, Bound}
use Rattle.cert_lines.specs.declared.certificates.Node.{Node}
use Rattle.cert_lines.specs.declared.certificates.NodeForm.TheVariants.{Close, Clash, Split}
use Rattle.line_words.specs.declared.items.Factor.{Factor}
use Rattle.line_words.specs.declared.items.Multiplier.TheVariants as multiplier
use Rattle.cert_model.specs.Formulas.{Formula, Compare}
use Rattle.cert_model.specs.Judging.{Shown, NotShown, Base, AtNode}
use Rattle.cert_model.specs.Judging as judging
use Rattle.cert_names.specs.Numbers.{interval_of, instance_of}
use Rattle.cert_names.specs.Lines.{missing_line}
use Rattle.cert_names.specs.Sections.{coefficient, judgement}

abbrev cell : ℕ → ℕ → Cell
cell at count = record { at = at; count = count }

abbrev instance : ℕ → ℕ → List Cell → List Cell → Instance
instance t b pre post = record { transition = t; binding = b; pre = pre; post = post }

-- the places `p` and `q` of two colours each, and `c` of one; `t` moves a token of a colour from `p` to `q`, `u` back again
abbrev circle : NetSystem
circle = system_of (1 ∷ 0 ∷ 0 ∷ 0 ∷ 2 ∷ [])
    (instance 0 0 (cell 0 1 ∷ cell 4 1 ∷ []) (cell 2 1 ∷ cell 4 1 ∷ [])
    ∷ instance 0 1 (cell 1 1 ∷ []) (cell 3 1 ∷ [])
    ∷ instance 1 0 (cell 2 1 ∷ []) (cell 0 1 ∷ []) ∷ [])

abbrev layout : NetNumbering
layout = record { places = codes "p" ∷ codes "q" ∷ codes "c" ∷ []; starts = 0 ∷ 2 ∷ 4 ∷ 5 ∷ []; transitions = codes "t" ∷ codes "u" ∷ []; bindings = 2 ∷ 2 ∷ [] }

abbrev place : List ℕ → Option ℕ → PlaceRef
place name colour = record { place = name; colour = colour }

abbrev weight : ℤ → List ℕ → Option ℕ → Weight
weight value name colour = record { value = value; place = place name colour }

abbrev factor : ℤ → List ℕ → Factor
factor value name = record { value = value; fact = name }

-- `flow f 1*p 1*q` in line 3
abbrev one_token : Fact
one_token = record { line = 3; name = codes "f"; kind = Flow (weight (pos 1) (codes "p") None ∷ weight (pos 1) (codes "q") None ∷ []) }

-- `bound g 3 1*q@0 1*c` in line 4, and for `t@0` the line `step t@0 1 0` with this multiple of a fact in line 5
abbrev at_most_three : List ℕ → Fact
at_most_three name = record {
  line = 4;
  name = codes "g";
  kind = Bound (pos 3) (weight (pos 1) (codes "q") (Some 0) ∷ weight (pos 1) (codes "c") None ∷ [])
      (record { line = 5; transition = codes "t"; binding = 0; scale = pos 1; keep = pos 0; factors = factor (negsuc 0) name ∷ [] } ∷ []);
}

-- `bound b 0 1*q@0` in line 4
abbrev none_there : Fact
none_there = record { line = 4; name = codes "b"; kind = Bound (pos 0) (weight (pos 1) (codes "q") (Some 0) ∷ []) [] }

-- `q@0 + c <= 3` over the place instances
abbrev at_most : Formula
at_most = Compare (record { coefficient = coefficient layout (weight (negsuc 0) (codes "q") (Some 0) ∷ weight (negsuc 0) (codes "c") None ∷ []); constant = pos 3 ∷ [] })

-- `close 1*@1 1*NAME` in line 7
abbrev close_with : List ℕ → Node
close_with name = record { line = 7; form = Close (multiplier.Hypothesis (pos 1) 1 ∷ multiplier.Fact (factor (pos 1) name) ∷ []) }

abbrev facts : List Fact
facts = one_token ∷ at_most_three (codes "f") ∷ []

-- `split 3 1*q@0 1*c`, `close 1*@1 1*@2` and `close 1*@2 1*g` from line 7 on
abbrev split_at_three : List Node
split_at_three =
    record { line = 7; form = Split (pos 3) (weight (pos 1) (codes "q") (Some 0) ∷ weight (pos 1) (codes "c") None ∷ []) }
    ∷ record { line = 8; form = Close (multiplier.Hypothesis (pos 1) 1 ∷ multiplier.Hypothesis (pos 1) 2 ∷ []) }
    ∷ record { line = 9; form = Close (multiplier.Hypothesis (pos 1) 2 ∷ multiplier.Fact (factor (pos 1) (codes "g")) ∷ []) } ∷ []

-- `trap g ..` in line 4
abbrev trap_of : List PlaceRef → Fact
trap_of places = record { line = 4; name = codes "g"; kind = Trap places }

-- `1 <= p + q@0`
abbrev some_there : Formula
some_there = Compare (record { coefficient = coefficient layout (weight (pos 1) (codes "p") None ∷ weight (pos 1) (codes "q") (Some 0) ∷ []); constant = negsuc 0 ∷ [] })

pub record ExamplesAreRight : Type 0 where
  pub whole : interval_of layout (place (codes "q") None) ≡ Some (record { first = 2; end = 4 })
  pub coloured : interval_of layout (place (codes "q") (Some 1)) ≡ Some (record { first = 3; end = 4 })
  pub no_colour : interval_of layout (place (codes "c") (Some 1)) ≡ None
  pub no_place : interval_of layout (place (codes "t") None) ≡ None
  pub there : instance_of layout circle (codes "t") 1 ≡ Some 1
  pub not_there : instance_of layout circle (codes "u") 1 ≡ None
  -- what a line says of a place and of one of its colours is added
  pub added : map (coefficient layout (weight (pos 2) (codes "q") None ∷ weight (negsuc 2) (codes "q") (Some 1) ∷ [])) (1 ∷ 2 ∷ 3 ∷ 4 ∷ []) ≡ pos 0 ∷ pos 2 ∷ negsuc 0 ∷ pos 0 ∷ []
  pub none_missing : missing_line layout circle facts ((close_with (codes "g") ∷ []) ∷ []) ≡ None
  -- a step names facts before its bound, and a node all of them
  pub own_name : missing_line layout circle (one_token ∷ at_most_three (codes "g") ∷ []) ((close_with (codes "h") ∷ []) ∷ []) ≡ Some 5
  pub no_fact : missing_line layout circle facts ((close_with (codes "h") ∷ []) ∷ []) ≡ Some 7
  pub shown : judgement layout circle facts ((at_most, close_with (codes "g") ∷ []) ∷ []) ≡ Shown
  -- a flow is no bound
  pub not_shown : judgement layout circle facts ((at_most, close_with (codes "f") ∷ []) ∷ []) ≡ NotShown 7 AtNode
  -- without a step line the bound isn't kept
  pub no_step : judgement layout circle (none_there ∷ []) [] ≡ NotShown 4 (judging.Step 0)
  -- the constant place counts on both sides of a split
  pub split : judgement layout circle facts ((at_most, split_at_three) ∷ []) ≡ Shown
  pub trap : judgement layout circle (trap_of (place (codes "p") None ∷ place (codes "q") (Some 0) ∷ []) ∷ []) ((some_there, close_with (codes "g") ∷ []) ∷ []) ≡ Shown
  -- constant places are passed over in traps, and no clash
  pub constant_trap : judgement layout circle (trap_of (place (codes "c") None ∷ []) ∷ []) [] ≡ NotShown 4 Base
  pub constant_clash : judgement layout circle facts ((at_most, record { line = 7; form = Clash (place (codes "c") None) } ∷ []) ∷ []) ≡ NotShown 7 AtNode
