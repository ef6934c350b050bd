use Rattle.std.proofs.Common.{◌≡◌, ◌<◌, length, sym, ap, ◌∙◌, arith, get_or, subst, Some}
use Rattle.colour_sorts.specs.Compiling.{IsCompiledBy}
use Rattle.net_model.specs.Ids.{ids_of}
use Rattle.colour_sorts.specs.Naming.{place_of, term_at}
use Rattle.colour_sorts.specs.Searching.{Has, places_named}
use Rattle.colour_sorts.proofs.Compiled.{compiled-name, compiled-some, empty-place, named-leads, put-one}
use Rattle.colour_sorts.proofs.Named.{leads-inside, on-ok}
use Rattle.colour_sorts.proofs.Walks.{term-at}
use Rattle.colour_sorts.proofs.compiling.compile_at.Goals as goal

pub returns-in-Some-clause-compiled : goal.returns-in-Some-clause-compiled
returns-in-Some-clause-compiled c =
    (let sorts = c.args.sorts.now in
    let compiled = c.args.compiled.now in
    let at = c.args.at in
    let named = c.in-Some.ensures in
    let is = term-at sorts at c.index-sorts-at.result c.requires.within ∙ named.1 in
    let place = ap (λ ids. place_of ids named.0) (sym c.requires.ids) ∙ named.2 in
    let leads = named-leads sorts at c.in-Some.other named.0 is place in
    let some = compiled-some compiled c.in-Some.other (omega (arith, leads-inside sorts at c.in-Some.other leads, c.requires.compiled.as_long)) (c.requires.behind c.in-Some.other leads) in
    put-one sorts compiled c.share.new.self at some.0 c.requires.compiled c.requires.within
    (empty-place _ _ _ c.get.ensures (sym c.is_some.ensures ∙ c.if-is_some.false))
    (compiled-name sorts compiled at (term_at sorts at) named.0 c.in-Some.other some.0 is place some.1)
    (c.share.ensures some.0 some.1)).compiled

pub returns-in-Some-clause-grows : goal.returns-in-Some-clause-grows
returns-in-Some-clause-grows c =
    (let sorts = c.args.sorts.now in
    let compiled = c.args.compiled.now in
    let at = c.args.at in
    let named = c.in-Some.ensures in
    let is = term-at sorts at c.index-sorts-at.result c.requires.within ∙ named.1 in
    let place = ap (λ ids. place_of ids named.0) (sym c.requires.ids) ∙ named.2 in
    let leads = named-leads sorts at c.in-Some.other named.0 is place in
    let some = compiled-some compiled c.in-Some.other (omega (arith, leads-inside sorts at c.in-Some.other leads, c.requires.compiled.as_long)) (c.requires.behind c.in-Some.other leads) in
    put-one sorts compiled c.share.new.self at some.0 c.requires.compiled c.requires.within
    (empty-place _ _ _ c.get.ensures (sym c.is_some.ensures ∙ c.if-is_some.false))
    (compiled-name sorts compiled at (term_at sorts at) named.0 c.in-Some.other some.0 is place some.1)
    (c.share.ensures some.0 some.1)).grows

pub returns-in-Some-clause-here : goal.returns-in-Some-clause-here
returns-in-Some-clause-here c =
    (let sorts = c.args.sorts.now in
    let compiled = c.args.compiled.now in
    let at = c.args.at in
    let named = c.in-Some.ensures in
    let is = term-at sorts at c.index-sorts-at.result c.requires.within ∙ named.1 in
    let place = ap (λ ids. place_of ids named.0) (sym c.requires.ids) ∙ named.2 in
    let leads = named-leads sorts at c.in-Some.other named.0 is place in
    let some = compiled-some compiled c.in-Some.other (omega (arith, leads-inside sorts at c.in-Some.other leads, c.requires.compiled.as_long)) (c.requires.behind c.in-Some.other leads) in
    put-one sorts compiled c.share.new.self at some.0 c.requires.compiled c.requires.within
    (empty-place _ _ _ c.get.ensures (sym c.is_some.ensures ∙ c.if-is_some.false))
    (compiled-name sorts compiled at (term_at sorts at) named.0 c.in-Some.other some.0 is place some.1)
    (c.share.ensures some.0 some.1)).here

pub unreachable-requires : goal.unreachable-requires
unreachable-requires c =
    let sorts = c.args.sorts.now in
    let waits = rw c.in-None.is at c.in_ok-sort.ensures in
    let is = term-at sorts c.args.at c.index-sorts-at.result c.requires.within in
    c.requires.behind waits.0
    (subst (λ ids. Has (places_named ids (term_at sorts c.args.at)) waits.0) c.requires.ids (subst (λ t. Has (places_named c.args.ids.now t) waits.0) (sym is) waits.1)) waits.2

pub returns-clause-compiled : goal.returns-clause-compiled
returns-clause-compiled c =
    on-ok c.put.result
    (λ new. (let sorts = c.args.sorts.now in
    let at = c.args.at in
    let known = rw c.in-Some-2.is at c.in_ok-sort.ensures in
    let ours = subst (λ ids. IsCompiledBy ids c.args.compiled.now at (get_or sorts at c.index-sorts-at.result).sort c.in-Some-2.sort) c.requires.ids known in
    let there = subst (λ t. IsCompiledBy (ids_of sorts) c.args.compiled.now at t c.in-Some-2.sort) (sym (term-at sorts at c.index-sorts-at.result c.requires.within)) ours in
    (put-one sorts c.args.compiled.now c.put.new.self at c.in-Some-2.sort c.requires.compiled c.requires.within
    (empty-place _ _ _ c.get.ensures (sym c.is_some.ensures ∙ c.if-is_some.false)) there new).compiled)) c.put.ensures

pub returns-clause-grows : goal.returns-clause-grows
returns-clause-grows c =
    on-ok c.put.result
    (λ new. (let sorts = c.args.sorts.now in
    let at = c.args.at in
    let known = rw c.in-Some-2.is at c.in_ok-sort.ensures in
    let ours = subst (λ ids. IsCompiledBy ids c.args.compiled.now at (get_or sorts at c.index-sorts-at.result).sort c.in-Some-2.sort) c.requires.ids known in
    let there = subst (λ t. IsCompiledBy (ids_of sorts) c.args.compiled.now at t c.in-Some-2.sort) (sym (term-at sorts at c.index-sorts-at.result c.requires.within)) ours in
    (put-one sorts c.args.compiled.now c.put.new.self at c.in-Some-2.sort c.requires.compiled c.requires.within
    (empty-place _ _ _ c.get.ensures (sym c.is_some.ensures ∙ c.if-is_some.false)) there new).grows)) c.put.ensures

pub returns-clause-here : goal.returns-clause-here
returns-clause-here c =
    on-ok c.put.result
    (λ new. (let sorts = c.args.sorts.now in
    let at = c.args.at in
    let known = rw c.in-Some-2.is at c.in_ok-sort.ensures in
    let ours = subst (λ ids. IsCompiledBy ids c.args.compiled.now at (get_or sorts at c.index-sorts-at.result).sort c.in-Some-2.sort) c.requires.ids known in
    let there = subst (λ t. IsCompiledBy (ids_of sorts) c.args.compiled.now at t c.in-Some-2.sort) (sym (term-at sorts at c.index-sorts-at.result c.requires.within)) ours in
    (put-one sorts c.args.compiled.now c.put.new.self at c.in-Some-2.sort c.requires.compiled c.requires.within
    (empty-place _ _ _ c.get.ensures (sym c.is_some.ensures ∙ c.if-is_some.false)) there new).here)) c.put.ensures
