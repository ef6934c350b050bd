-- What the trees of nodes and declarations have, in lists.
use Rattle.std.proofs.Common.{◌≡◌, false, List, [], ◌∷◌, ◌++◌, map, ap, ◌∙◌}
use Rattle.std.proofs.lemmas.List.{append-nil}
use Rattle.net_model.specs.declared.kinds.Kind.{Kind}
use Rattle.net_elements.specs.declared.roles.Role.{Role}
use Rattle.net_elements.specs.Rules.{is_passed_over}
use Rattle.pnml_read.specs.declared.lists.Lists.{Lists}
use Rattle.pnml_read.specs.Nets.{Given, both, joined, lists_in, no_lists}
use Rattle.pnml_read.proofs.Elements.{kept_first}

pub both_none : (a : Lists) → both a no_lists ≡ a
both_none a =
    ap (λ l. record { sorts = l; partitions = a.partitions ++ []; variables = a.variables ++ []; places = a.places ++ []; transitions = a.transitions ++ []; references = a.references ++ []; arcs = a.arcs ++ [] }) (append-nil a.sorts)
    ∙ ap (λ l. record { sorts = a.sorts; partitions = l; variables = a.variables ++ []; places = a.places ++ []; transitions = a.transitions ++ []; references = a.references ++ []; arcs = a.arcs ++ [] }) (append-nil a.partitions)
    ∙ ap (λ l. record { sorts = a.sorts; partitions = a.partitions; variables = l; places = a.places ++ []; transitions = a.transitions ++ []; references = a.references ++ []; arcs = a.arcs ++ [] }) (append-nil a.variables)
    ∙ ap (λ l. record { sorts = a.sorts; partitions = a.partitions; variables = a.variables; places = l; transitions = a.transitions ++ []; references = a.references ++ []; arcs = a.arcs ++ [] }) (append-nil a.places)
    ∙ ap (λ l. record { sorts = a.sorts; partitions = a.partitions; variables = a.variables; places = a.places; transitions = l; references = a.references ++ []; arcs = a.arcs ++ [] }) (append-nil a.transitions)
    ∙ ap (λ l. record { sorts = a.sorts; partitions = a.partitions; variables = a.variables; places = a.places; transitions = a.transitions; references = l; arcs = a.arcs ++ [] }) (append-nil a.references)
    ∙ ap (λ l. record { sorts = a.sorts; partitions = a.partitions; variables = a.variables; places = a.places; transitions = a.transitions; references = a.references; arcs = l }) (append-nil a.arcs)

-- what a child has, and what is behind it
pub first_lists : (r : Role) (kind : Kind) (g : Given) (gs : List Given) → is_passed_over r g.name ≡ false → lists_in r kind (g ∷ gs) ≡ both (g.lists kind) (lists_in r kind gs)
first_lists r kind g gs h = ap (λ ks. joined (map (λ c. c.lists kind) ks)) (kept_first r g gs h)

pub only_lists : (r : Role) (kind : Kind) (g : Given) → is_passed_over r g.name ≡ false → lists_in r kind (g ∷ []) ≡ g.lists kind
only_lists r kind g h = first_lists r kind g [] h ∙ both_none (g.lists kind)
