-- The open elements, as the reader keeps them.
use Rattle.std.specs.Prelude.{List, ◌∷◌, Option, Some, None}
use Rattle.doc_tree.specs.declared.places.Open.{Open}

-- the innermost beside the others
abbrev pub stacked : Option Open → List Open → List Open
stacked None os = os
stacked (Some o) os = o ∷ os
