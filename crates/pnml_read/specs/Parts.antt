-- Parts of the tree, as the program goes over them.
use Rattle.std.specs.Prelude.{List, Option, find}
use Rattle.std.specs.Str.{bytes_eq}
use Rattle.doc_model.specs.declared.tree.Element.{Element, out-Element}
use Rattle.net_elements.specs.declared.roles.Role.{Role}
use Rattle.net_elements.specs.Table.{word_of}

-- the first child of a name
abbrev pub named_element : Role → List Element → Option Element
named_element r children = find (λ e. bytes_eq (out-Element e).name (word_of r)) children
