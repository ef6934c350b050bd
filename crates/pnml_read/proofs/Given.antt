-- The first child of a name, among elements and among what they give.
use Rattle.std.proofs.Common.{◌≡◌, Bool, true, false, cond, List, [], ◌∷◌, map, Option, None, Some, MatchOption, Bor, refl, ap, sym, ◌∙◌}
use Rattle.std.specs.Option.{option_map}
use Rattle.std.specs.Str.{bytes_eq}
use Rattle.doc_model.specs.declared.tree.Element.{Element, out-Element, fold_out-Element}
use Rattle.net_elements.specs.declared.roles.Role.{Role}
use Rattle.net_elements.specs.Table.{word_of}
use Rattle.pnml_read.specs.Nets.{Given, given, given_by_parts, named}
use Rattle.pnml_read.specs.Parts.{named_element}

given_name : (e : Element) → (given e).name ≡ (out-Element e).name
given_name e = ap (λ g. g.name) (fold_out-Element Given given_by_parts e)

pub named_given : (r : Role) (es : List Element) → named r (map given es) ≡ option_map given (named_element r es)
named_given r [] = refl
named_given r (e ∷ es) =
    ap (λ b. cond b (Some (given e)) (named r (map given es))) (ap (λ n. bytes_eq n (word_of r)) (given_name e))
    ∙ ap (cond (bytes_eq (out-Element e).name (word_of r)) (Some (given e))) (named_given r es)
    ∙ either (bytes_eq (out-Element e).name (word_of r)) e (named_element r es)
  where
    either : (b : Bool) (e : Element) (rest : Option Element) → cond b (Some (given e)) (option_map given rest) ≡ option_map given (cond b (Some e) rest)
    either true e rest = refl
    either false e rest = refl

-- what is found in the code
pub found_given : (r : Role) (es : List Element) (o : Option (Bor Element)) → MatchOption o (named_element r es ≡ None) (λ e. named_element r es ≡ Some e.now)
    → option_map (λ e. given e.now) o ≡ named r (map given es)
found_given r es None is = sym (named_given r es ∙ ap (option_map given) is)
found_given r es (Some e) is = sym (named_given r es ∙ ap (option_map given) is)
