use Rattle.std.proofs.Common.{◌≡◌, sym, ap, subst, length, ◌∙◌}
use Rattle.net_nodes.specs.Links.{AreEnds, AreInside, IsRefusal, links_of}
use Rattle.net_nodes.specs.Nodes.{ids_of_nodes}
use Rattle.net_nodes.proofs.Tables.{links-inside, net_links, nodes-same, refused, unbroken}
use Rattle.net_nodes.proofs.table.NodeTable.of.Goals as goal

pub resolve-requires-clause-inside : goal.resolve-requires-clause-inside
resolve-requires-clause-inside c =
    let net = c.args.net.now in
    let links : c.as_slice-2.result.now ≡ net_links net =
    c.as_slice-2.ensures.value ∙ c.in-Ok-link_all.ensures ∙ ap (λ ids. links_of ids c.as_slice.result.now) c.in-Ok.ensures ∙ ap (links_of (ids_of_nodes net)) c.as_slice.ensures in
    subst AreInside (sym links) (links-inside net)

pub returns-in-Ok-resolve-clause-table : goal.returns-in-Ok-resolve-clause-table
returns-in-Ok-resolve-clause-table c =
    let net = c.args.net.now in
    let links : c.as_slice-2.result.now ≡ net_links net =
    c.as_slice-2.ensures.value ∙ c.in-Ok-link_all.ensures ∙ ap (λ ids. links_of ids c.as_slice.result.now) c.in-Ok.ensures ∙ ap (links_of (ids_of_nodes net)) c.as_slice.ensures in
    nodes-same net c.in-Ok.names c.in-Ok-resolve.ends.items c.in-Ok.ensures (subst (λ ls. AreEnds ls (length ls) c.in-Ok-resolve.ends.items) links c.in-Ok-resolve.ensures.ends)

pub returns-in-Ok-resolve-clause-unbroken : goal.returns-in-Ok-resolve-clause-unbroken
returns-in-Ok-resolve-clause-unbroken c =
    let net = c.args.net.now in
    let links : c.as_slice-2.result.now ≡ net_links net =
    c.as_slice-2.ensures.value ∙ c.in-Ok-link_all.ensures ∙ ap (λ ids. links_of ids c.as_slice.result.now) c.in-Ok.ensures ∙ ap (links_of (ids_of_nodes net)) c.as_slice.ensures in
    unbroken net c.in-Ok-resolve.ends.items (subst (λ ls. AreEnds ls (length ls) c.in-Ok-resolve.ends.items) links c.in-Ok-resolve.ensures.ends)

pub returns-in-Err-clause-refused : goal.returns-in-Err-clause-refused
returns-in-Err-clause-refused c =
    let net = c.args.net.now in
    let links : c.as_slice-2.result.now ≡ net_links net =
    c.as_slice-2.ensures.value ∙ c.in-Ok-link_all.ensures ∙ ap (λ ids. links_of ids c.as_slice.result.now) c.in-Ok.ensures ∙ ap (links_of (ids_of_nodes net)) c.as_slice.ensures in
    refused net c.in-Err.fault (subst (λ ls. IsRefusal ls c.in-Err.fault) links c.in-Err.ensures.refused)
