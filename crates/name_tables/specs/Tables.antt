-- Lists of words in strictly rising byte order, and the word lists of the formats.
use Rattle.std.specs.Prelude.{ℕ, Bool, true, ◌&&◌, List, [], ◌∷◌, codes}
use Rattle.std.specs.Cmp.Lexicographic.{slice_cmp}
use Rattle.std.specs.Ordering.{is_lt, nat_cmp}

-- each word is below the next one, the first byte that differs deciding
abbrev pub are_rising : List (List ℕ) → Bool
are_rising [] = true
are_rising (_ ∷ []) = true
are_rising (first ∷ second ∷ rest) = is_lt (slice_cmp nat_cmp first second) && are_rising (second ∷ rest)

-- the elements of net files, those that are dropped and those inside labels and terms among them (ISO/IEC 15909-2)
unfoldable pub words_of_nets : List (List ℕ)
words_of_nets =
    codes "add" ∷ codes "all" ∷ codes "and" ∷ codes "arc" ∷ codes "booleanconstant" ∷ codes "condition" ∷
    codes "cyclicenumeration" ∷ codes "declaration" ∷ codes "declarations" ∷ codes "dot" ∷ codes "dotconstant" ∷
    codes "empty" ∷ codes "equality" ∷ codes "feconstant" ∷ codes "finiteenumeration" ∷ codes "finiteintrange" ∷
    codes "finiteintrangeconstant" ∷ codes "graphics" ∷ codes "greaterthan" ∷ codes "greaterthanorequal" ∷
    codes "hlinitialMarking" ∷ codes "hlinscription" ∷ codes "imply" ∷ codes "inequality" ∷ codes "initialMarking" ∷
    codes "inscription" ∷ codes "lessthan" ∷ codes "lessthanorequal" ∷ codes "name" ∷ codes "namedsort" ∷
    codes "natural" ∷ codes "net" ∷ codes "not" ∷ codes "numberconstant" ∷ codes "numberof" ∷ codes "or" ∷
    codes "page" ∷ codes "partition" ∷ codes "partitionelement" ∷ codes "partitionelementof" ∷ codes "place" ∷
    codes "pnml" ∷ codes "positive" ∷ codes "predecessor" ∷ codes "productsort" ∷ codes "referencePlace" ∷
    codes "referenceTransition" ∷ codes "scalarproduct" ∷ codes "structure" ∷ codes "subterm" ∷ codes "subtract" ∷
    codes "successor" ∷ codes "text" ∷ codes "toolspecific" ∷ codes "transition" ∷ codes "tuple" ∷ codes "type" ∷
    codes "useroperator" ∷ codes "usersort" ∷ codes "variable" ∷ codes "variabledecl" ∷ []

-- the attributes of these elements
unfoldable pub attributes_of_nets : List (List ℕ)
attributes_of_nets =
    codes "declaration" ∷ codes "end" ∷ codes "id" ∷ codes "name" ∷ codes "ref" ∷ codes "refpartition" ∷
    codes "refvariable" ∷ codes "source" ∷ codes "start" ∷ codes "target" ∷ codes "type" ∷ codes "value" ∷
    codes "xmlns" ∷ []

-- the elements of property files
unfoldable pub words_of_formulas : List (List ℕ)
words_of_formulas =
    codes "all-paths" ∷ codes "conjunction" ∷ codes "description" ∷ codes "disjunction" ∷ codes "exists-path" ∷
    codes "finally" ∷ codes "formula" ∷ codes "globally" ∷ codes "id" ∷ codes "integer-constant" ∷
    codes "integer-le" ∷ codes "is-fireable" ∷ codes "negation" ∷ codes "place" ∷ codes "property" ∷
    codes "property-set" ∷ codes "tokens-count" ∷ codes "transition" ∷ []

-- the first words of the lines of a certificate
unfoldable pub words_of_certificates : List (List ℕ)
words_of_certificates =
    codes "bound" ∷ codes "cases" ∷ codes "certificate" ∷ codes "clash" ∷ codes "close" ∷ codes "each" ∷ codes "end" ∷
    codes "flow" ∷ codes "proof" ∷ codes "property" ∷ codes "split" ∷ codes "step" ∷ codes "trap" ∷ []

-- the words for the rules of sorts, partitions, terms and nodes
unfoldable pub words_of_rules : List (List ℕ)
words_of_rules =
    codes "domain-limit" ∷ codes "empty-product" ∷ codes "empty-sort" ∷ codes "no-inscription" ∷ codes "no-order" ∷
    codes "not-a-colour" ∷ codes "not-a-multiset" ∷ codes "not-cyclic" ∷ codes "partition-cover" ∷
    codes "partition-member" ∷ codes "partition-sort" ∷ codes "range-constant" ∷ codes "range-upside-down" ∷
    codes "reference-circle" ∷ codes "reference-kind" ∷ codes "same-side" ∷ codes "sort-circle" ∷
    codes "sorts-differ" ∷ codes "unknown-node" ∷ codes "unknown-operator" ∷ codes "unknown-partition" ∷
    codes "unknown-sort" ∷ codes "unknown-variable" ∷ codes "variable-in-marking" ∷ []
