use Rattle.std.proofs.Common.{◌≡◌, ℕ, List, [], ◌∷◌, ◌++◌, codes, decimal, ap, ◌∙◌}
use Rattle.std.specs.Fmt.{digits}
use Rattle.std.specs.List.{flat_map}
use Rattle.doc_model.specs.declared.tree.Attribute.{Attribute}
use Rattle.doc_model.specs.declared.tree.Element.{Element}
use Rattle.doc_model.specs.Texts.{attribute_text, content_text, first_line, start_text, text_of}
use Rattle.doc_model.proofs.TextLaws.{text_of-element}
use Rattle.net_elements.specs.declared.roles.Role.{Role}
use Rattle.net_elements.specs.declared.roles.Role.TheVariants as role
use Rattle.net_elements.specs.Table.{word_of}
use Rattle.pnml_write.specs.Canon.{branch}
use Rattle.pnml_write.proofs.laws.small_net_has_its_text.Goals as goal

-- an element with one child
around : (r : Role) (attributes : List Attribute) (child : Element) {text : List ℕ} → text_of child ≡ text
    → text_of (branch r attributes (child ∷ [])) ≡ start_text (word_of r) ++ flat_map attribute_text attributes ++ content_text (word_of r) (text ∷ []) []
around r attributes child is =
    text_of-element (word_of r) attributes (child ∷ []) []
    ∙ ap (λ text. start_text (word_of r) ++ flat_map attribute_text attributes ++ content_text (word_of r) (text ∷ []) []) is

pub returns : goal.returns
unfolding digits first_line
returns c =
    ap (λ text. first_line ++ text)
    (around role.Pnml _ _ (around role.Net _ _ (around role.Page _ _ (around role.Place _ _ (around role.InitialMarking _ _ (text_of-element (codes "text") [] [] (decimal 2)))))))
