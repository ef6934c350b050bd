-- What a compiled part of a term stands for, while a term is compiled.
use Rattle.std.specs.Prelude.{◌≡◌, suc, ◌+◌, ◌-◌, ◌*◌, ◌<◌, ◌≤◌, ◌^◌, min, ℕ, Bool, true, false, not, ◌&&◌, List, [], ◌∷◌, ◌++◌, map, sum_by, length, slice_get, Option, None, Some, Result, Ok, Err, nat_eq, nat_lt, if◌then◌else◌}
use Rattle.std.specs.List.{list_all}
use Rattle.colour_sorts.specs.declared.sorts.Colour.{Colour}
use Rattle.colour_sorts.specs.declared.sorts.Sort.{Sort}
use Rattle.colour_sorts.specs.Colours.{constants_at, size}
use Rattle.net_model.specs.declared.sorts.NamedSort.{NamedSort}
use Rattle.net_model.specs.declared.sorts.Partition.{Partition}
use Rattle.colour_sorts.specs.Calls.{blocks_at}
use Rattle.colour_sorts.specs.Domain.{Domain, domain_of}
use Rattle.colour_sorts.specs.Domain as domains
use Rattle.net_model.specs.declared.sorts.SortTerm.{SortTerm}
use Rattle.net_model.specs.Ids.{constants_of}
use Rattle.colour_sorts.specs.Naming.{broken_rule}
use Rattle.multiset_terms.specs.declared.asking.Found.{Found}
use Rattle.multiset_terms.specs.declared.faults.PartFault.{PartFault}
use Rattle.multiset_terms.specs.declared.faults.PartFault.TheVariants as fault
use Rattle.multiset_terms.specs.declared.compiled.CTerm.{CTerm}
use Rattle.multiset_terms.specs.declared.faults.TermFault.{TermFault}
use Rattle.multiset_terms.specs.declared.faults.TermFault.TheVariants as term_fault
use Rattle.multiset_terms.specs.declared.kinds.Kind.{Kind}
use Rattle.multiset_terms.specs.declared.kinds.Kind.TheVariants as kind
use Rattle.multiset_terms.specs.declared.parts.Children.{Children}
use Rattle.multiset_terms.specs.declared.parts.Part.{Part}
use Rattle.multiset_terms.specs.declared.parts.Totals.{Totals}
use Rattle.net_model.specs.declared.terms.Term.{Term}
use Rattle.multiset_terms.specs.Agreeing.{IsAgreed, IsChoice, IsOneColour}
use Rattle.multiset_terms.specs.declared.trees.Tree.{Tree}
use Rattle.multiset_terms.specs.declared.trees.Tree.TheVariants as tree
use Rattle.multiset_terms.specs.Context.{Context, Declarations}
use Rattle.multiset_terms.specs.Laws.{IsOnce}
use Rattle.multiset_terms.specs.Standing.{Binds, StandsFor, occurs}
use Rattle.multiset_terms.specs.Trees.{Reading, are_colours, most_colours, reading, uses_at}
use Rattle.multiset_terms.specs.Typing.{Broken, children, is_block, is_choice, is_colour, judged, leaf, over, sort_named, sort_of_kind, type_of, type_over}
use Rattle.multiset_terms.specs.Values.{Binding, Meaning, colours_of, many, meaning, one_colour}
use Rattle.multiset_terms.specs.Weights.{first_heavy, heavy_first, product, weighed, weighed_node}

-- the constants of each enumeration are distinct
abbrev pub AreDistinct : Context → Type 0
AreDistinct ctx = (at : ℕ) → IsOnce (constants_at (constants_of ctx.sorts) at)

-- a reading is the colour that a block has
pub record IsBlockWith (ctx : Context) (partition : ℕ) (m : Meaning) (r : Reading) : Type 0 where
  pub known : partition < length ctx.partitions
  pub colour : are_colours (r ∷ []) ≡ true
  pub block : slice_get (blocks_at (domain_of ctx.sorts ctx.partitions) partition) r.place ≡ Some m.block

-- a block is the one at this position, or else the one with the colour of the reading
abbrev pub IsBlockValue : Context → ℕ → Option ℕ → Meaning → Reading → Type 0
IsBlockValue ctx partition (Some position) m r = m.block ≡ position
IsBlockValue ctx partition None m r = IsBlockWith ctx partition m r

-- a reading is of a kind: over the colours of its sort it says what the meaning says
abbrev pub HasKind : Context → Option ℕ → Kind → Meaning → Reading → Type 0
HasKind ctx block (kind.Colour s) m r = IsOneColour (colours_of ctx s) m r × (r.gross ≡ 1)
HasKind ctx block (kind.Every s) m r = IsChoice (colours_of ctx s) m r
HasKind ctx block (kind.Multiset s) m r = IsAgreed (colours_of ctx s) m r
HasKind ctx block (kind.Block partition) m r = IsBlockValue ctx partition block m r

pub record PartValue (ctx : Context) (block : Option ℕ) (k : Kind) (gross : ℕ) (m : Meaning) (r : Reading) : Type 0 where
  pub of_kind : HasKind ctx block k m r
  pub sort : is_block k ≡ false → m.sort ≡ sort_of_kind k
  pub weight : is_block k ≡ false → r.gross ≡ gross

-- a part is told of a term: what it is, how many nodes it has, and its weights as far as they are told
pub record IsCounted (ctx : Context) (marking : Bool) (t : Term) (p : Part) : Type 0 where
  pub typed : type_of ctx marking t ≡ Ok p.kind
  pub nodes : (judged ctx marking t).nodes ≡ p.nodes
  pub weighed_nodes : (weighed ctx t).nodes ≡ p.nodes
  pub gross_total : min (weighed ctx t).gross (2 ^ 63) ≡ p.gross
  pub support_total : min (weighed ctx t).support (2 ^ 63) ≡ p.support
  pub heavy_node : (weighed ctx t).heavy ≡ p.heavy
  pub light : p.heavy ≡ None → p.gross ≤ 2 ^ 63 - 1

-- a part stands for a term, whose sort has some colours and not too many
pub record IsPart (ctx : Context) (marking : Bool) (t : Term) (p : Part) : Type 0 where
  pub counted : IsCounted ctx marking t p
  pub variables : (at : ℕ) (id : List ℕ) → slice_get ctx.variables.ids at ≡ Some id → uses_at at p.tree ≡ occurs id t
  pub size : length (colours_of ctx (sort_of_kind p.kind)) ≡ p.size
  pub some : 0 < p.size
  pub limit : p.size ≤ most_colours
  pub closed : (position : ℕ) → p.block ≡ Some position → (id : List ℕ) → occurs id t ≡ false
  pub values : (b : Binding) (indices : List ℕ) → Binds ctx b indices → p.heavy ≡ None → PartValue ctx p.block p.kind (weighed ctx t).gross (meaning ctx b t) (reading indices p.tree)

-- a term without children that is of a kind, with one weight for its gross total and its support
pub record IsLeaf (ctx : Context) (marking : Bool) (t : Term) (k : Kind) (gross : ℕ) : Type 0 where
  pub judges : judged ctx marking t ≡ leaf (Ok k)
  pub weighs : weighed ctx t ≡ weighed_node gross gross []

-- the number of colours of a sort, of which there are some and not too many
pub record HasSize (ctx : Context) (s : Sort) (size : ℕ) : Type 0 where
  pub is : length (colours_of ctx s) ≡ size
  pub some : 0 < size
  pub limit : size ≤ most_colours

-- a term without variables that is one colour, all colours or no colour of a sort
pub record IsConstant (ctx : Context) (marking : Bool) (t : Term) (s : Sort) (c : Colour) : Type 0 where
  pub is : IsLeaf ctx marking t (kind.Colour s) 1
  pub closed : (id : List ℕ) → occurs id t ≡ false
  pub means : (b : Binding) → meaning ctx b t ≡ one_colour s c true

pub record IsEvery (ctx : Context) (marking : Bool) (t : Term) (s : Sort) : Type 0 where
  pub is : IsLeaf ctx marking t (kind.Every s) (length (colours_of ctx s))
  pub closed : (id : List ℕ) → occurs id t ≡ false
  pub means : (b : Binding) → meaning ctx b t ≡ many s (λ _. 1) true

pub record IsEmpty (ctx : Context) (marking : Bool) (t : Term) (s : Sort) : Type 0 where
  pub is : IsLeaf ctx marking t (kind.Multiset s) 0
  pub closed : (id : List ℕ) → occurs id t ≡ false
  pub means : (b : Binding) → meaning ctx b t ≡ many s (λ _. 0) true

-- an element of the partition at a position, by its own position there
pub record IsElement (ctx : Context) (marking : Bool) (t : Term) (partition block : ℕ) : Type 0 where
  pub is : IsLeaf ctx marking t (kind.Block partition) 1
  pub means : (b : Binding) → (meaning ctx b t).block ≡ block
  pub closed : (id : List ℕ) → occurs id t ≡ false

-- what is answered of a term: its part, or its first broken node
abbrev pub IsFault : {A : Type 0} → PartFault → Result A Broken → Type 0
IsFault fault.Memory verdict = Unit {0}
IsFault (fault.Broken at rule) verdict = verdict ≡ Err (at, rule)

abbrev pub IsAnswer : Context → Bool → Term → Result Part PartFault → Type 0
IsAnswer ctx marking t (Ok part) = IsPart ctx marking t part
IsAnswer ctx marking t (Err found) = IsFault found (type_of ctx marking t)

-- a term and a part of it
pub record Piece : Type 0 where
  pub term : Term
  pub part : Part

abbrev pub terms_of : List Piece → List Term
terms_of pieces = map (λ x. x.term) pieces

abbrev pub kinds_of : List Piece → List Kind
kinds_of pieces = map (λ x. x.part.kind) pieces

abbrev pub AreParts : Context → Bool → List Piece → Type 0
AreParts ctx marking [] = Unit {0}
AreParts ctx marking (x ∷ xs) = IsPart ctx marking x.term x.part × AreParts ctx marking xs

-- the first heavy node of some parts, the first part being counted from `at`
abbrev pub heavy_part : ℕ → List Piece → Option ℕ
heavy_part at [] = None
heavy_part at (x ∷ xs) = heavy_first x.part.heavy at (heavy_part (at + x.part.nodes) xs)

-- what is added up of the children of a node, with the node itself
abbrev pub totals_of : List Piece → Totals
totals_of pieces = record {
  nodes = suc (sum_by (λ x. x.part.nodes) pieces);
  gross_sum = min (sum_by (λ x. x.part.gross) pieces) (2 ^ 63);
  gross_product = min (product (map (λ x. x.part.gross) pieces)) (2 ^ 63);
  support_sum = min (sum_by (λ x. x.part.support) pieces) (2 ^ 63);
  support_product = min (product (map (λ x. x.part.support) pieces)) (2 ^ 63);
  heavy = heavy_part 1 pieces;
}

-- the number of colours of the first child's sort, as far as it has some
abbrev pub first_size : List Piece → ℕ
first_size [] = 0
first_size (x ∷ xs) = if nat_eq x.part.size 0 then first_size xs else x.part.size

abbrev pub children_of : List Piece → Children
children_of pieces = record {
  trees = map (λ x. x.part.tree) pieces;
  sorts = map (λ x. sort_of_kind x.part.kind) pieces;
  are_colours = list_all (λ x. is_colour x.part.kind) pieces;
  are_choices = list_all (λ x. is_choice x.part.kind) pieces;
  are_multisets = list_all (λ x. not (is_block x.part.kind)) pieces;
  first = first_size pieces;
  size = min (product (map (λ x. x.part.size) pieces)) (2 ^ 21);
  totals = totals_of pieces;
}

-- compiled children stand for terms
pub record AreChildren (ctx : Context) (marking : Bool) (ts : List Term) (cs : Children) : Type 0 where
  pub pieces : List Piece
  pub parts : AreParts ctx marking pieces
  pub terms : terms_of pieces ≡ ts
  pub gathered : cs ≡ children_of pieces

abbrev pub AreAnswered : Context → Bool → List Term → Result Children PartFault → Type 0
AreAnswered ctx marking ts (Ok cs) = AreChildren ctx marking ts cs
AreAnswered ctx marking ts (Err found) = IsFault found (children 1 (map (judged ctx marking) ts))

-- a gross total as far as it is told, and the first heavy node of a node over its children
abbrev pub told : ℕ → ℕ
told gross = min gross (2 ^ 63)

abbrev pub heavy_over : ℕ → Option ℕ → Option ℕ
heavy_over gross child = if nat_lt (2 ^ 63 - 1) gross then Some 0 else child

-- the number of a node behind so many others
abbrev pub behind : ℕ → Option ℕ → Option ℕ
behind nodes None = None
behind nodes (Some number) = Some (nodes + number)

abbrev pub either : Option ℕ → Option ℕ → Option ℕ
either (Some number) other = Some number
either None other = other

-- with one more child
abbrev pub with_part : Totals → Part → Totals
with_part totals part = record {
  nodes = totals.nodes + part.nodes;
  gross_sum = told (totals.gross_sum + part.gross);
  gross_product = told (totals.gross_product * part.gross);
  support_sum = told (totals.support_sum + part.support);
  support_product = told (totals.support_product * part.support);
  heavy = either totals.heavy (behind totals.nodes part.heavy);
}

abbrev pub with_child : Children → Part → Children
with_child cs part = record {
  trees = cs.trees ++ part.tree ∷ [];
  sorts = cs.sorts ++ sort_of_kind part.kind ∷ [];
  are_colours = cs.are_colours && is_colour part.kind;
  are_choices = cs.are_choices && is_choice part.kind;
  are_multisets = cs.are_multisets && not (is_block part.kind);
  first = if nat_eq cs.first 0 then part.size else cs.first;
  size = min (cs.size * part.size) (2 ^ 21);
  totals = with_part cs.totals part;
}

-- the fault of a child as one of its node
abbrev pub IsMoved : ℕ → PartFault → PartFault → Type 0
IsMoved nodes before fault.Memory = Unit {0}
IsMoved nodes (fault.Broken number rule) (fault.Broken at same) = (at ≡ nodes + number) × (same ≡ rule)
IsMoved nodes fault.Memory (fault.Broken at same) = ⊥

-- the tuples of the choices of children, over a sort of so many colours
abbrev pub tuple_made : Sort → List Tree → Bool → ℕ → Totals → Part
tuple_made s trees are_colours size totals = record {
  tree = if are_colours then tree.Tuple size trees else tree.Product size trees;
  kind = if are_colours then kind.Colour s else kind.Multiset s;
  block = None;
  size = size;
  gross = totals.gross_product;
  support = totals.support_product;
  heavy = heavy_over totals.gross_product totals.heavy;
  nodes = totals.nodes;
}

-- declarations that terms are compiled over: what they stand for, with constants and ids of variables that are distinct
pub record IsScope (ctx : Context) (d : Domain) (v : Declarations) : Type 0 where
  pub domain : domains.StandsFor d ctx.sorts ctx.partitions
  pub variables : v ≡ ctx.variables
  pub distinct : AreDistinct ctx
  pub ids : IsOnce ctx.variables.ids

-- a domain stands for some declarations
pub record IsDeclared (d : Domain) : Type 0 where
  pub sorts : List NamedSort
  pub partitions : List Partition
  pub stands : domains.StandsFor d sorts partitions

-- sorts with some colours and not too many
abbrev pub AreSized : List (List (List ℕ)) → List Sort → Type 0
AreSized constants sorts = (at : ℕ) (s : Sort) → slice_get sorts at ≡ Some s → (0 < size constants s) × (size constants s ≤ most_colours)

-- a term is of a type
abbrev pub IsTyped : Context → Bool → Term → Type 0
IsTyped ctx marking t = (k : Kind) × (type_of ctx marking t ≡ Ok k)

-- what is answered of a whole term: the compiled term where it is well-typed and without a heavy node, else its first broken node, or
-- its first heavy node where it is well-typed
abbrev pub IsCompiled : Context → Bool → Term → Result CTerm TermFault → Type 0
IsCompiled ctx marking t (Ok compiled) = IsTyped ctx marking t × (first_heavy ctx t ≡ None) × (StandsFor ctx marking t compiled)
IsCompiled ctx marking t (Err (term_fault.IllTyped at rule)) = type_of ctx marking t ≡ Err (at, rule)
IsCompiled ctx marking t (Err (term_fault.Weight at)) = IsTyped ctx marking t × (first_heavy ctx t ≡ Some at)
IsCompiled ctx marking t (Err term_fault.Memory) = Unit {0}

-- the same of a term that has to stand over a sort
abbrev pub IsTypedOver : Context → Bool → Sort → Term → Type 0
IsTypedOver ctx marking s t = (k : Kind) × (type_over ctx marking s t ≡ Ok k)

abbrev pub IsCompiledOver : Context → Bool → Sort → Term → Result CTerm TermFault → Type 0
IsCompiledOver ctx marking s t (Ok compiled) = IsTypedOver ctx marking s t × (first_heavy ctx t ≡ None) × (StandsFor ctx marking t compiled)
IsCompiledOver ctx marking s t (Err (term_fault.IllTyped at rule)) = type_over ctx marking s t ≡ Err (at, rule)
IsCompiledOver ctx marking s t (Err (term_fault.Weight at)) = IsTypedOver ctx marking s t × (first_heavy ctx t ≡ Some at)
IsCompiledOver ctx marking s t (Err term_fault.Memory) = Unit {0}

-- the same of a fault that was met in a part
abbrev pub IsFaultOf : PartFault → TermFault → Type 0
IsFaultOf fault.Memory found = found ≡ term_fault.Memory
IsFaultOf (fault.Broken at rule) found = found ≡ term_fault.IllTyped at rule

-- the sort that a written sort stands for, with the number of its colours, or the first rule that it breaks
abbrev pub IsFound : Context → SortTerm → Result Found PartFault → Type 0
IsFound ctx t (Ok found) = (broken_rule ctx.sorts 0 t ≡ None) × (found.sort ≡ sort_named ctx t) × (HasSize ctx (sort_named ctx t) found.size)
IsFound ctx t (Err fault.Memory) = Unit {0}
IsFound ctx t (Err (fault.Broken at rule)) = (at ≡ 0) × (broken_rule ctx.sorts 0 t ≡ Some rule)
