use Rattle.std.proofs.Common.{◌≡◌, ◌<◌, length, get_or, ◌∙◌, ap, arith}
use Rattle.name_tables.proofs.Places.{name_has_its_number}
use Rattle.name_tables.proofs.numbering.Ids.name.Goals as goal

pub returns-clause-distinct : goal.returns-clause-distinct
returns-clause-distinct c =
    let keys = c.self.inside.set.keys in
    let name = c.index-as_slice-at.result in
    let within : c.args.at < length keys = omega (arith, c.requires, ap length c.self.view_is) in
    let at : name ≡ get_or keys c.args.at name = c.index-as_slice-at.is ∙ ap (λ ks. get_or ks c.args.at name) c.as_slice.ensures.keys in
    rw (← c.self.view_is)
    (rw (c.bytes.ensures ∙ at) (name_has_its_number keys c.args.at name c.as_slice.ensures.unique within))
