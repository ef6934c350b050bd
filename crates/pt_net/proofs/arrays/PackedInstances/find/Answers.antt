-- The search is by the heads' origins, which rise.
use Rattle.std.proofs.Common.{rules, arith, length, ap, sym, subst, ◌∙◌, ◌≡◌, ◌<◌, ◌^◌, AllPairs}
use Rattle.std.proofs.lemmas.List.Sorted.{answers_always}
use Rattle.pt_net.specs.Instances.{IsBefore, origin_of}
use Rattle.pt_net.specs.InArrays.{origin_from}
use Rattle.pt_net.proofs.InArrays.{heads_rising, instances_count, missing_in, origin_is}
use Rattle.pt_net.proofs.Origins.{equal_is, missing_origin}
use Rattle.pt_net.proofs.arrays.PackedInstances.find.Goals as goal

pub overflow_cast-result : goal.overflow_cast-result
overflow_cast-result c =
    let count = ap length (sym c.self.view_is) ∙ instances_count c.self.inside.heads.items c.self.inside.inputs.items c.self.inside.outputs.items in
    let long = ap length c.deref.ensures.value in
    let few = c.requires.few in
    let bound = c.in-Ok.ensures.bound in
    let low : c.in-Ok.found < 2 ^ 32 = omega arith in
    search (rules, low)

pub returns-in-Ok-clause-within : goal.returns-in-Ok-clause-within
returns-in-Ok-clause-within c =
    let count = ap length (sym c.self.view_is) ∙ instances_count c.self.inside.heads.items c.self.inside.inputs.items c.self.inside.outputs.items in
    let long = ap length c.deref.ensures.value in
    let bound = c.in-Ok.ensures.bound in
    omega arith

pub returns-in-Ok-clause-found : goal.returns-in-Ok-clause-found
returns-in-Ok-clause-found c =
    let found = rw c.deref.ensures.value at (c.in-Ok.ensures.position origin_from (answers_always _ _ _ (λ f a r g called. search rules))) in
    let bound = rw c.deref.ensures.value at c.in-Ok.ensures.bound in
    rw (← c.self.view_is) (sym (origin_is c.self.inside.heads.items c.self.inside.inputs.items c.self.inside.outputs.items c.in-Ok.found (record { transition = 0; binding = 0; inputs_end = 0; outputs_end = 0 }) bound) ∙ equal_is _ _ (found _))

pub returns-in-Err-clause-none : goal.returns-in-Err-clause-none
returns-in-Err-clause-none c =
    let missing = rw c.deref.ensures.value at (c.in-Err.ensures.position origin_from (answers_always _ _ _ (λ f a r g called. search rules))) in
    let rising = rw (← c.self.view_is) at c.requires.rising in
    rw (← c.self.view_is) (missing_in c.self.inside.heads.items c.self.inside.inputs.items c.self.inside.outputs.items c.args.origin.now (missing_origin c.args.origin.now c.self.inside.heads.items c.in-Err.field-0 (heads_rising c.self.inside.heads.items c.self.inside.inputs.items c.self.inside.outputs.items rising) missing))
