-- How many elements a term stands for at most, and at how many colours.
use Rattle.std.specs.Prelude.{ℕ, suc, ◌+◌, ◌-◌, ◌*◌, ◌^◌, min, nat_lt, List, [], ◌∷◌, map, sum_by, Option, None, Some, if◌then◌else◌}
use Rattle.colour_sorts.specs.Colours.{size}
use Rattle.net_model.specs.Ids.{constants_of}
use Rattle.net_model.specs.declared.terms.Term.{Term, fold-Term}
use Rattle.net_model.specs.declared.terms.Term.TheOpen.{Term-F, Variable, Operator, Dot, Number, Successor, Predecessor, Tuple, All, Empty, NumberOf, Scalar, Add, Subtract, BlockOf}
use Rattle.multiset_terms.specs.Context.{Context}
use Rattle.multiset_terms.specs.Typing.{sort_named}

-- the nodes of a term, its gross total, its support, and its first node, from 0, whose gross total is above 2^63 - 1
pub record Weighed : Type 0 where
  pub nodes : ℕ
  pub gross : ℕ
  pub support : ℕ
  pub heavy : Option ℕ

abbrev pub heavy_first : Option ℕ → ℕ → Option ℕ → Option ℕ
heavy_first None at others = others
heavy_first (Some number) at others = Some (at + number)

-- the first heavy node among children, the first child being counted from `at`
abbrev pub heavy_child : ℕ → List Weighed → Option ℕ
heavy_child at [] = None
heavy_child at (c ∷ cs) = heavy_first c.heavy at (heavy_child (at + c.nodes) cs)

abbrev pub weighed_node : ℕ → ℕ → List Weighed → Weighed
weighed_node gross support cs = record {
  nodes = suc (sum_by (λ c. c.nodes) cs);
  gross = gross;
  support = support;
  heavy = if nat_lt (2 ^ 63 - 1) gross then Some 0 else heavy_child 1 cs;
}

abbrev pub product : List ℕ → ℕ
product [] = 1
product (n ∷ ns) = n * product ns

-- a colour is one element, and a tuple has one for each choice of colours of its components
abbrev pub weighed_part : Context → Term-F Weighed → Weighed
weighed_part ctx (Variable _) = weighed_node 1 1 []
weighed_part ctx (Operator _) = weighed_node 1 1 []
weighed_part ctx Dot = weighed_node 1 1 []
weighed_part ctx (Number _ _) = weighed_node 1 1 []
weighed_part ctx (Successor c) = weighed_node 1 1 (c ∷ [])
weighed_part ctx (Predecessor c) = weighed_node 1 1 (c ∷ [])
weighed_part ctx (Tuple cs) = weighed_node (product (map (λ c. c.gross) cs)) (product (map (λ c. c.support) cs)) cs
weighed_part ctx (All written) = weighed_node (size (constants_of ctx.sorts) (sort_named ctx written)) (size (constants_of ctx.sorts) (sort_named ctx written)) []
weighed_part ctx (Empty _) = weighed_node 0 0 []
weighed_part ctx (NumberOf number c) = weighed_node (number * c.gross) c.support (c ∷ [])
weighed_part ctx (Scalar number c) = weighed_node (number * c.gross) c.support (c ∷ [])
weighed_part ctx (Add cs) = weighed_node (sum_by (λ c. c.gross) cs) (sum_by (λ c. c.support) cs) cs
weighed_part ctx (Subtract whole part) = weighed_node (whole.gross + part.gross) (whole.support + part.support) (whole ∷ part ∷ [])
weighed_part ctx (BlockOf _ c) = weighed_node 1 1 (c ∷ [])

abbrev pub weighed : Context → Term → Weighed
weighed ctx t = fold-Term Weighed (weighed_part ctx) t

abbrev pub gross_of : Context → Term → ℕ
gross_of ctx t = (weighed ctx t).gross

-- the support, as far as it is told
abbrev pub support_of : Context → Term → ℕ
support_of ctx t = min (weighed ctx t).support (2 ^ 63)

abbrev pub first_heavy : Context → Term → Option ℕ
first_heavy ctx t = (weighed ctx t).heavy
