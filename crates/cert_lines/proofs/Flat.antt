-- The text of the lines of a certificate, part by part.
use Rattle.std.proofs.Common.{◌≡◌, List, [], ◌∷◌, ◌++◌, flat_map, refl, ap, ◌∙◌}
use Rattle.std.proofs.lemmas.Grind.{flat_map-append}
use Rattle.cert_lines.specs.Order.{body_lines, fact_lines, property_lines, section_lines, tree_lines}
use Rattle.cert_lines.specs.Texts.{line_text}
use Rattle.cert_lines.specs.declared.certificates.Fact.{Fact}
use Rattle.cert_lines.specs.declared.certificates.Section.{Section}
use Rattle.cert_lines.specs.declared.certificates.Version.TheVariants.{One, Two}

flat_map-flat_map : {A B C : Type 0} (f : B → List C) (g : A → List B) (xs : List A) → flat_map f (flat_map g xs) ≡ flat_map (λ x. flat_map f (g x)) xs
flat_map-flat_map f g [] = refl
flat_map-flat_map f g (x ∷ xs) = flat_map-append f (g x) (flat_map g xs) ∙ ap (λ w. flat_map f (g x) ++ w) (flat_map-flat_map f g xs)

pub property_first : (facts : List Fact) (sections : List Section) → flat_map line_text (body_lines One facts sections)
    ≡ flat_map (λ section. flat_map line_text (property_lines section)) sections
    ++ (flat_map (λ fact. flat_map line_text (fact_lines fact)) facts ++ flat_map (λ section. flat_map line_text (tree_lines section)) sections)
property_first facts sections =
    flat_map-append line_text (flat_map property_lines sections) (flat_map fact_lines facts ++ flat_map tree_lines sections)
    ∙ ap (λ w. w ++ flat_map line_text (flat_map fact_lines facts ++ flat_map tree_lines sections)) (flat_map-flat_map line_text property_lines sections)
    ∙ ap (λ w. flat_map (λ section. flat_map line_text (property_lines section)) sections ++ w)
    (flat_map-append line_text (flat_map fact_lines facts) (flat_map tree_lines sections)
    ∙ ap (λ w. w ++ flat_map line_text (flat_map tree_lines sections)) (flat_map-flat_map line_text fact_lines facts)
    ∙ ap (λ w. flat_map (λ fact. flat_map line_text (fact_lines fact)) facts ++ w) (flat_map-flat_map line_text tree_lines sections))

pub facts_first : (facts : List Fact) (sections : List Section) → flat_map line_text (body_lines Two facts sections)
    ≡ flat_map (λ fact. flat_map line_text (fact_lines fact)) facts ++ flat_map (λ section. flat_map line_text (section_lines section)) sections
facts_first facts sections =
    flat_map-append line_text (flat_map fact_lines facts) (flat_map section_lines sections)
    ∙ ap (λ w. w ++ flat_map line_text (flat_map section_lines sections)) (flat_map-flat_map line_text fact_lines facts)
    ∙ ap (λ w. flat_map (λ fact. flat_map line_text (fact_lines fact)) facts ++ w) (flat_map-flat_map line_text section_lines sections)
