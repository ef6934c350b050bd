-- The symbols that a declaration gives weigh no more than those that are noted of it.
use Rattle.std.proofs.Common.{◌≡◌, ℕ, ◌+◌, ◌≤◌, Bool, true, false, cond, List, [], ◌∷◌, map, slice_index_or, codes, refl, ap, sym, ◌∙◌, arith}
use Rattle.std.proofs.lemmas.Bool.{false≢true}
use Rattle.std.proofs.lemmas.List.Sums.{sum_by-cons}
use Rattle.std.specs.List.{count_by, filter, sum_by}
use Rattle.std.specs.Str.{bytes_eq}
use Rattle.doc_model.specs.declared.tree.Element.{Element, out-Element}
use Rattle.net_model.specs.declared.sorts.Span.{Span}
use Rattle.net_model.specs.declared.sorts.SortTerm.{SortTerm, out-SortTerm, out-roll-SortTerm}
use Rattle.net_model.specs.declared.sorts.SortTerm.TheOpen as layer
use Rattle.net_model.specs.declared.sorts.SortTerm.TheVariants as sort
use Rattle.net_elements.proofs.Counts.{count_by_map}
use Rattle.net_model.specs.declared.kinds.Kind.{Kind}
use Rattle.net_elements.specs.declared.roles.Role.{Role}
use Rattle.net_elements.specs.declared.roles.Role.TheVariants as role
use Rattle.net_elements.specs.Rules.{role_named}
use Rattle.net_elements.specs.Table.{word_of}
use Rattle.pnml_read.specs.Nets.{Given, child, given, is_block, kept, nothing, sort_part, sort_roles, text_in}
use Rattle.pnml_read.proofs.Each.{each_of}
use Rattle.pnml_read.proofs.Elements.{given_name, given_parts, name_is}
use Rattle.pnml_read.proofs.Noted.{are_fine, symbol_noted, symbol_weight}
use Rattle.pnml_read.proofs.Weights.{Weighs, children_weigh, inner, notes_parts}
use Rattle.net_model.specs.Ids.{constants_in_layer}

-- what an element gives as its id, as a sort and as a block
given_id : (e : Element) → (given e).id ≡ text_in (codes "id") (out-Element e).attributes
given_id e = ap (λ g. g.id) (given_parts e)

given_sort : (e : Element) (r : Role) → (given e).name ≡ word_of r
    → (given e).sort ≡ sort_part (role_named sort_roles (word_of r)) (out-Element e).attributes (map given (out-Element e).children)
given_sort e r h =
    ap (λ g. g.sort) (given_parts e)
    ∙ ap (λ n. sort_part (role_named sort_roles n) (out-Element e).attributes (map given (out-Element e).children)) (name_is e r h)

-- the constants of an enumeration
abbrev is_constant : Role → Bool
is_constant role.FeConstant = true
is_constant _ = false

abbrev id_weight : (List ℕ → Bool) → Given → ℕ
id_weight test g = cond (test g.id) 1 0

constant_weighs : (test : List ℕ → Bool) (kind : Kind) (e : Element) → Weighs (symbol_weight test) (id_weight test) kind is_constant e
constant_weighs test kind e role.FeConstant passes named fine =
    let parts = notes_parts e kind role.FeConstant fine in
    let is : id_weight test (given e) ≡ cond (test (text_in (codes "id") (out-Element e).attributes)) 1 0 = ap (λ i. cond (test i) 1 0) (given_id e) in
    omega (arith, is, symbol_noted test (out-Element e).at [] (out-Element e).attributes parts.fine_own, parts.weight (symbol_weight test))
constant_weighs test kind e _ passes named fine = absurd (false≢true passes)

-- a whole declared sort
abbrev is_sort : Role → Bool
is_sort role.Dot = true
is_sort role.UserSort = true
is_sort role.ProductSort = true
is_sort role.FiniteIntRange = true
is_sort role.FiniteEnumeration = true
is_sort role.CyclicEnumeration = true
is_sort _ = false

abbrev pub constants_weight : (List ℕ → Bool) → SortTerm → ℕ
constants_weight test s = count_by (test) (constants_in_layer (out-SortTerm s))

abbrev sort_weight : (List ℕ → Bool) → Given → ℕ
sort_weight test g = constants_weight test g.sort

-- sorts without constants, and enumerations
open_weight : (test : List ℕ → Bool) (s : SortTerm) (y : layer.SortTerm-F SortTerm) → out-SortTerm s ≡ y → constants_weight test s ≡ count_by (test) (constants_in_layer y)
open_weight test s y h = ap (λ z. count_by (test) (constants_in_layer z)) h

dot_weight : (test : List ℕ → Bool) → constants_weight test sort.Dot ≡ 0
dot_weight test = open_weight test sort.Dot layer.Dot (ap out-SortTerm (sym sort.rolls-Dot) ∙ out-roll-SortTerm layer.Dot)

named_weight : (test : List ℕ → Bool) (name : List ℕ) → constants_weight test (sort.Named name) ≡ 0
named_weight test name = open_weight test (sort.Named name) (layer.Named name) (ap out-SortTerm (sym (sort.rolls-Named name)) ∙ out-roll-SortTerm (layer.Named name))

product_weight : (test : List ℕ → Bool) (parts : List SortTerm) → constants_weight test (sort.Product parts) ≡ 0
product_weight test parts = open_weight test (sort.Product parts) (layer.Product parts) (ap out-SortTerm (sym (sort.rolls-Product parts)) ∙ out-roll-SortTerm (layer.Product parts))

range_weight : (test : List ℕ → Bool) (span : Span) → constants_weight test (sort.Range span) ≡ 0
range_weight test span = open_weight test (sort.Range span) (layer.Range span) (ap out-SortTerm (sym (sort.rolls-Range span)) ∙ out-roll-SortTerm (layer.Range span))

listed_weight : (test : List ℕ → Bool) (ids : List (List ℕ)) → constants_weight test (sort.Listed ids) ≡ count_by (test) ids
listed_weight test ids = open_weight test (sort.Listed ids) (layer.Listed ids) (ap out-SortTerm (sym (sort.rolls-Listed ids)) ∙ out-roll-SortTerm (layer.Listed ids))

cyclic_weight : (test : List ℕ → Bool) (ids : List (List ℕ)) → constants_weight test (sort.Cyclic ids) ≡ count_by (test) ids
cyclic_weight test ids = open_weight test (sort.Cyclic ids) (layer.Cyclic ids) (ap out-SortTerm (sym (sort.rolls-Cyclic ids)) ∙ out-roll-SortTerm (layer.Cyclic ids))

sort_weighs : (test : List ℕ → Bool) (kind : Kind) (e : Element) → Weighs (symbol_weight test) (sort_weight test) kind is_sort e
sort_weighs test kind e role.Dot passes named fine =
    let is : sort_weight test (given e) ≡ 0 = ap (constants_weight test) (given_sort e role.Dot named) ∙ dot_weight test in omega (arith, is)
sort_weighs test kind e role.UserSort passes named fine =
    let is : sort_weight test (given e) ≡ 0 = ap (constants_weight test) (given_sort e role.UserSort named) ∙ named_weight test _ in omega (arith, is)
sort_weighs test kind e role.ProductSort passes named fine =
    let is : sort_weight test (given e) ≡ 0 = ap (constants_weight test) (given_sort e role.ProductSort named) ∙ product_weight test _ in omega (arith, is)
sort_weighs test kind e role.FiniteIntRange passes named fine =
    let is : sort_weight test (given e) ≡ 0 = ap (constants_weight test) (given_sort e role.FiniteIntRange named) ∙ range_weight test _ in omega (arith, is)
sort_weighs test kind e role.FiniteEnumeration passes named fine =
    let parts = notes_parts e kind role.FiniteEnumeration fine in
    let constants = kept role.FiniteEnumeration (map given (out-Element e).children) in
    let is : sort_weight test (given e) ≡ sum_by (id_weight test) constants =
    ap (constants_weight test) (given_sort e role.FiniteEnumeration named) ∙ listed_weight test _ ∙ count_by_map (test) (λ c. c.id) constants in
    omega (
      arith,
      is,
      parts.weight (symbol_weight test),
      children_weigh (symbol_weight test) (id_weight test) kind is_constant role.FiniteEnumeration refl [] (out-Element e).children
          (each_of (Weighs (symbol_weight test) (id_weight test) kind is_constant) (constant_weighs test kind) (out-Element e).children) parts.fine_inner,
    )
sort_weighs test kind e role.CyclicEnumeration passes named fine =
    let parts = notes_parts e kind role.CyclicEnumeration fine in
    let constants = kept role.CyclicEnumeration (map given (out-Element e).children) in
    let is : sort_weight test (given e) ≡ sum_by (id_weight test) constants =
    ap (constants_weight test) (given_sort e role.CyclicEnumeration named) ∙ cyclic_weight test _ ∙ count_by_map (test) (λ c. c.id) constants in
    omega (
      arith,
      is,
      parts.weight (symbol_weight test),
      children_weigh (symbol_weight test) (id_weight test) kind is_constant role.CyclicEnumeration refl [] (out-Element e).children
          (each_of (Weighs (symbol_weight test) (id_weight test) kind is_constant) (constant_weighs test kind) (out-Element e).children) parts.fine_inner,
    )
sort_weighs test kind e _ passes named fine = absurd (false≢true passes)

first_weighs : (m : Given → ℕ) (gs : List Given) → m nothing ≡ 0 → m (slice_index_or gs 0 nothing) ≤ sum_by m gs
first_weighs m [] none = omega (arith, none)
first_weighs m (g ∷ gs) none = omega (arith, sum_by-cons m g gs)

-- the sort that is declared
pub declared_weighs : (test : List ℕ → Bool) (kind : Kind) (e : Element) → are_fine (inner e kind role.NamedSort) ≡ true
    → constants_weight test (child role.NamedSort 0 (map given (out-Element e).children)).sort ≤ sum_by (symbol_weight test) (inner e kind role.NamedSort)
declared_weighs test kind e fine =
    let sorts = kept role.NamedSort (map given (out-Element e).children) in
    omega (
      arith,
      first_weighs (sort_weight test) sorts (dot_weight test),
      children_weigh (symbol_weight test) (sort_weight test) kind is_sort role.NamedSort refl [] (out-Element e).children
          (each_of (Weighs (symbol_weight test) (sort_weight test) kind is_sort) (sort_weighs test kind) (out-Element e).children) fine,
    )

-- the blocks of a partition
abbrev is_divided : Role → Bool
is_divided role.Dot = true
is_divided role.UserSort = true
is_divided role.ProductSort = true
is_divided role.FiniteIntRange = true
is_divided role.PartitionElement = true
is_divided _ = false

abbrev block_weight : (List ℕ → Bool) → Given → ℕ
block_weight test g = cond (is_block g) (cond (test g.block.id) 1 0) 0

no_block : (test : List ℕ → Bool) (e : Element) (r : Role) → bytes_eq (word_of r) (word_of role.PartitionElement) ≡ false → (given e).name ≡ word_of r
    → block_weight test (given e) ≡ 0
no_block test e r other named =
    ap (λ n. cond (bytes_eq n (word_of role.PartitionElement)) (cond (test (given e).block.id) 1 0) 0) (given_name e ∙ name_is e r named)
    ∙ ap (λ b. cond b (cond (test (given e).block.id) 1 0) 0) other

at_most : (b : Bool) (n : ℕ) → cond b n 0 ≤ n
at_most true n = omega arith
at_most false n = omega arith

block_weighs : (test : List ℕ → Bool) (kind : Kind) (e : Element) → Weighs (symbol_weight test) (block_weight test) kind is_divided e
block_weighs test kind e role.Dot passes named fine = omega (arith, no_block test e role.Dot refl named)
block_weighs test kind e role.UserSort passes named fine = omega (arith, no_block test e role.UserSort refl named)
block_weighs test kind e role.ProductSort passes named fine = omega (arith, no_block test e role.ProductSort refl named)
block_weighs test kind e role.FiniteIntRange passes named fine = omega (arith, no_block test e role.FiniteIntRange refl named)
block_weighs test kind e role.PartitionElement passes named fine =
    let parts = notes_parts e kind role.PartitionElement fine in
    let count : ℕ = cond (test (given e).block.id) 1 0 in
    let is : count ≡ cond (test (text_in (codes "id") (out-Element e).attributes)) 1 0 = ap (λ g. cond (test g.block.id) 1 0) (given_parts e) in
    omega (
      arith,
      is,
      at_most (is_block (given e)) (cond (test (given e).block.id) 1 0),
      symbol_noted test (out-Element e).at [] (out-Element e).attributes parts.fine_own,
      parts.weight (symbol_weight test),
    )
block_weighs test kind e _ passes named fine = absurd (false≢true passes)

blocks_counted : (test : List ℕ → Bool) (gs : List Given)
    → count_by (test) (map (λ b. b.id) (map (λ c. c.block) (filter is_block gs))) ≡ sum_by (block_weight test) gs
blocks_counted test [] = refl
blocks_counted test (g ∷ gs) = by (is_block g) (blocks_counted test gs) ∙ sym (sum_by-cons (block_weight test) g gs)
  where
    by : (b : Bool) → count_by (test) (map (λ b. b.id) (map (λ c. c.block) (filter is_block gs))) ≡ sum_by (block_weight test) gs
        → count_by (test) (map (λ b. b.id) (map (λ c. c.block) (cond b (g ∷ filter is_block gs) (filter is_block gs))))
        ≡ cond b (cond (test g.block.id) 1 0) 0 + sum_by (block_weight test) gs
    by true rest =
        sum_by-cons (λ x. cond (test x) 1 0) g.block.id (map (λ b. b.id) (map (λ c. c.block) (filter is_block gs)))
        ∙ ap (λ n. cond (test g.block.id) 1 0 + n) rest
    by false rest = omega (arith, rest)

pub blocks_weigh : (test : List ℕ → Bool) (kind : Kind) (e : Element) → are_fine (inner e kind role.Partition) ≡ true
    → count_by (test) (map (λ b. b.id) (map (λ c. c.block) (filter is_block (kept role.Partition (map given (out-Element e).children)))))
    ≤ sum_by (symbol_weight test) (inner e kind role.Partition)
blocks_weigh test kind e fine =
    let gs = kept role.Partition (map given (out-Element e).children) in
    omega (
      arith,
      blocks_counted test gs,
      children_weigh (symbol_weight test) (block_weight test) kind is_divided role.Partition refl [] (out-Element e).children
          (each_of (Weighs (symbol_weight test) (block_weight test) kind is_divided) (block_weighs test kind) (out-Element e).children) fine,
    )
