use Rattle.std.proofs.Common.{map, length, get_or, set, ap, sym, ◌∙◌, arith, Some, None}
use Rattle.std.proofs.lemmas.List.{length-map}
use Rattle.std.specs.List.{slice_get}
use Rattle.colour_sorts.specs.Held.{sort_numbered}
use Rattle.colour_sorts.proofs.Shared.{share-sorts}
use Rattle.colour_sorts.proofs.sharing.SortTable.share.Goals as goal

pub returns : goal.returns
returns c = λ sort e.
    (let sorts = c.self.inside.sorts in
    let numbers = c.self.inside.numbers in
    ap (map (sort_numbered sorts)) c.set.ensures
    ∙ share-sorts sorts numbers c.args.at c.args.other (get_or c.as_slice.result.now c.args.other None) sort (ap (λ ns. get_or ns c.args.other None) c.as_slice.ensures)
    (omega (arith, c.requires.other, ap length c.self.view_is, length-map numbers (sort_numbered sorts))) (ap (λ v. slice_get v c.args.other) c.self.view_is ∙ e)
    ∙ ap (λ v. set v c.args.at (Some sort)) c.self.view_is)
