use Rattle.std.proofs.Common.{◌<◌, List, Some, get_or, length, sym, subst}
use Rattle.net_typing.specs.declared.arcs.ArcTyping.{ArcTyping}
use Rattle.net_typing.specs.Rules.{IsRefusal}
use Rattle.net_typing.specs.TypedArcs.{IsStop}
use Rattle.net_typing.specs.Weights.{AreWithinWeight, IsFirstOver, IsLight}
use Rattle.net_typing.proofs.ArcsGathered.{are-light, no_arc, no_typing, no-refusal, stop-refused, weight-refused}
use Rattle.net_typing.proofs.arcs.typed_arcs.Goals as goal

abbrev AreWithin : List ArcTyping → Type 0
AreWithin arcs = AreWithinWeight arcs (length arcs)

pub first_overweight-requires : goal.first_overweight-requires
first_overweight-requires g c = λ k d lt.
    let is = c.as_slice.ensures.value in
    subst (λ xs. IsLight (get_or xs k d)) (sym is) (are-light g.net c.args.arcs.now (length c.in_ok-typed.field-0.typed.items) c.in_ok-typed.field-0.typed.items no_arc c.in_ok-typed.ensures.typed.each k d (subst (λ xs. k < length xs) is lt))

pub returns-in-Some-clause-refused : goal.returns-in-Some-clause-refused
returns-in-Some-clause-refused g c =
    let arcs = c.args.arcs.now in
    let found = subst (λ xs. IsFirstOver xs (Some c.in-Some.at)) c.as_slice.ensures.value (subst (IsFirstOver c.as_slice.result.now) c.in-Some.is c.in_ok-at.ensures) in
    let refused = weight-refused g.net arcs (length c.in_ok-typed.field-0.typed.items) c.in-Some.at c.in_ok-typed.field-0.typed.items c.index-arcs-at.result no_typing c.requires.few c.in_ok-typed.ensures.within c.in_ok-typed.ensures.typed found.0 found.1 found.2 in
    subst (λ r. IsRefusal r c.too_heavy.result) (sym refused) c.too_heavy.ensures

pub returns-in-Some-stop-clause-refused : goal.returns-in-Some-stop-clause-refused
returns-in-Some-stop-clause-refused g c =
    let within = subst AreWithin c.as_slice.ensures.value (subst (IsFirstOver c.as_slice.result.now) c.in_default.is c.in_ok-at.ensures) in
    stop-refused g.net c.args.arcs.now (length c.in_ok-typed.field-0.typed.items) c.in_ok-typed.field-0.typed.items no_arc no_typing c.in-Some-stop.fault c.requires.few c.in_ok-typed.ensures.typed within (subst (IsStop g.net c.args.arcs.now (length c.in_ok-typed.field-0.typed.items)) c.in-Some-stop.is c.in_ok-typed.ensures.stop)

pub returns-in-None-clause-sound : goal.returns-in-None-clause-sound
returns-in-None-clause-sound g c =
    let within = subst AreWithin c.as_slice.ensures.value (subst (IsFirstOver c.as_slice.result.now) c.in_default.is c.in_ok-at.ensures) in
    no-refusal g.net c.args.arcs.now (length c.in_ok-typed.field-0.typed.items) c.in_ok-typed.field-0.typed.items no_arc no_typing c.requires.few c.in_ok-typed.ensures.typed within (subst (IsStop g.net c.args.arcs.now (length c.in_ok-typed.field-0.typed.items)) c.in-None.is c.in_ok-typed.ensures.stop)
