use Rattle.std.proofs.Common.{◌≡◌, ◌++◌, ◌∷◌, [], map, length, set, ap, ◌∙◌, Some}
use Rattle.colour_sorts.specs.Held.{sort_numbered}
use Rattle.colour_sorts.proofs.Shared.{put-sorts}
use Rattle.colour_sorts.proofs.sharing.SortTable.put.Goals as goal

pub returns : goal.returns
returns c =
    let sorts = c.self.inside.sorts in
    let numbers = c.self.inside.numbers in
    let number : c.in-Ok.number ≡ length sorts = c.in-Ok.ensures.1 ∙ c.len.ensures in
    ap (λ ss. map (sort_numbered ss) c.set.new.self) c.in_ok-push.ensures.ok
    ∙ ap (map (sort_numbered (sorts ++ c.args.sort ∷ []))) (c.set.ensures ∙ ap (λ n. set numbers c.args.at (Some n)) number)
    ∙ put-sorts sorts numbers c.args.at c.args.sort c.self.invariant
    ∙ ap (λ v. set v c.args.at (Some c.args.sort)) c.self.view_is
