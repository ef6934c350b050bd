-- Small documents, a refusal and a depth, as instances of the definitions.
use Rattle.std.specs.Prelude.{ℕ, suc, zero, List, [], ◌∷◌, ◌++◌, Err, codes}
use Rattle.doc_model.specs.Trees.{attribute, element_at}
use Rattle.doc_tree.specs.declared.faults.DocFault.TheVariants as fault
use Rattle.doc_tree.specs.Documents.{Spells}
use Rattle.doc_tree.specs.Reading.{FeedAnswer}

-- an attribute, a text and a child
abbrev pub DocumentIsSpelled : Type 0
DocumentIsSpelled =
    Spells (codes "<a b='1'>x<c/></a>") (element_at 0 (codes "a") (attribute (codes "b") (codes "1") ∷ []) (element_at 10 (codes "c") [] [] [] ∷ []) (codes "x"))

-- references by name and by number
abbrev pub ReferencesAreSpelled : Type 0
ReferencesAreSpelled = Spells (codes "<a>&lt;&#65;&#x42;</a>") (element_at 0 (codes "a") [] [] (codes "<AB"))

-- an end tag of another name is refused at the first byte that differs
abbrev pub EndIsRefused : Type 0
EndIsRefused = FeedAnswer (codes "<a></b>") (Err (fault.Malformed 5))

-- a start tag, so many times
abbrev pub start_tags : ℕ → List ℕ
start_tags zero = []
start_tags (suc n) = codes "<a>" ++ start_tags n

-- an element within 256 open ones
abbrev pub DepthIsRefused : Type 0
DepthIsRefused = FeedAnswer (start_tags 257) (Err (fault.Deep 768))
