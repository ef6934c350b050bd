-- What elements give, from their parts.
use Rattle.std.proofs.Common.{◌≡◌, ℕ, List, [], ◌∷◌, map, Option, refl, ap, sym, ◌∙◌}
use Rattle.doc_model.specs.declared.tree.Element.{Element, out-Element, fold_out-Element}
use Rattle.mcc_model.specs.declared.parts.Part.{Part}
use Rattle.mcc_model.specs.Table.{part_named}
use Rattle.mcc_model.specs.Goals.{Given, Nodes, count_part, count_parts, given, given_by_parts, node_of, nodes_in}

pub given_text : (nodes : Nodes) (e : Element) → (given nodes e).text ≡ (out-Element e).text
given_text nodes e = ap (λ g. g.text) (fold_out-Element Given (given_by_parts nodes) e)

-- the numbers of the nodes whose ids are the texts of elements
pub nodes_given : (nodes : Nodes) (names : List (List ℕ)) (es : List Element)
    → map (λ e. node_of names (out-Element e).text) es ≡ nodes_in names (map (given nodes) es)
nodes_given nodes names [] = refl
nodes_given nodes names (e ∷ es) =
    ap (λ t. node_of names t ∷ map (λ d. node_of names (out-Element d).text) es) (sym (given_text nodes e))
    ∙ ap (λ ns. node_of names (given nodes e).text ∷ ns) (nodes_given nodes names es)

pub given_count : (nodes : Nodes) (e : Element) (o : Option Part) → part_named count_parts (out-Element e).name ≡ o
    → (given nodes e).count ≡ count_part nodes o (map (given nodes) (out-Element e).children) (out-Element e).text
given_count nodes e o h =
    let parts = out-Element e in
    ap (λ g. g.count) (fold_out-Element Given (given_by_parts nodes) e)
    ∙ ap (λ p. count_part nodes p (map (given nodes) parts.children) parts.text) h
