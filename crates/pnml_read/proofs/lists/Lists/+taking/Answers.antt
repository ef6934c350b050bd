use Rattle.std.proofs.Common.{◌≡◌, ◌∷◌, [], ◌++◌, MatchOption, OnOk, map, ap, subst, sym, ◌∙◌}
use Rattle.std.proofs.lemmas.Result.{on_ok_weaker}
use Rattle.pnml_read.specs.Nets.{both, given, lists_in}
use Rattle.pnml_read.proofs.TakenLists.{both_assoc, lists_append}
use Rattle.pnml_read.proofs.lists.Lists.+taking.Goals as goal

pub take_all-returns-in-Some : goal.take_all-returns-in-Some
take_all-returns-in-Some t c =
    let lists = lists_in c.args.role c.args.kind in
    let front = c.pop-last.new.self in
    let last = c.in-Some.child ∷ [] in
    let parts : c.args.children ≡ front ++ last = subst (λ r. MatchOption r ((c.args.children ≡ []) × (front ≡ [])) (λ x. c.args.children ≡ front ++ (x ∷ []))) c.in-Some.is c.pop-last.ensures in
    on_ok_weaker c.take_last.result
    (λ taken.
    taken
    ∙ ap (λ s. both s (lists (map given last))) c.in_ok-take_each.ensures
    ∙ sym (both_assoc c.args.self.now (lists (map given front)) (lists (map given last)))
    ∙ ap (both c.args.self.now) (sym (lists_append c.args.role c.args.kind front last) ∙ ap (λ cs. lists (map given cs)) (sym parts)))
    c.take_last.ensures
