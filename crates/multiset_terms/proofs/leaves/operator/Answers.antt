use Rattle.std.proofs.Common.{◌≡◌, ℕ, ◌<◌, ◌≤◌, ◌^◌, List, [], Some, slice_get, sym, ap, ◌∙◌, subst}
use Rattle.net_model.specs.declared.sorts.NamedSort.{NamedSort}
use Rattle.net_model.specs.declared.sorts.Partition.{Partition}
use Rattle.colour_sorts.specs.declared.sorts.Sort.{Sort}
use Rattle.colour_sorts.specs.declared.sorts.Colour.TheVariants as colour
use Rattle.colour_sorts.specs.Colours.{size}
use Rattle.colour_sorts.specs.Domain.{Domain}
use Rattle.colour_sorts.specs.Domain as domains
use Rattle.net_model.specs.declared.terms.Term.TheVariants as written
use Rattle.multiset_terms.specs.Context.{Context}
use Rattle.multiset_terms.specs.Parts.{IsConstant}
use Rattle.multiset_terms.specs.Typing as typing
use Rattle.multiset_terms.specs.Values.{colours_of}
use Rattle.multiset_terms.proofs.LeafMakers.{has-size, sized-by}
use Rattle.multiset_terms.proofs.Operators.{IsFoundConstant, constant-found, constant-is, declared-at, element-found, element-is, nowhere-found, unknown-operator}
use Rattle.multiset_terms.proofs.leaves.operator.Goals as goal

abbrev context-of : List NamedSort → List Partition → Context
context-of sorts partitions = record { sorts = sorts; partitions = partitions; variables = record { ids = []; sorts = [] } }

sized : (d : Domain) (sorts : List NamedSort) (partitions : List Partition) (id : List ℕ) (s : Sort) (index : ℕ) → domains.StandsFor d sorts partitions → IsFoundConstant d id s index
    → (0 < size d.constants s) × (size d.constants s ≤ 2 ^ 20)
sized d sorts partitions id s index stands known =
    subst (λ z. (0 < size d.constants z) × (size d.constants z ≤ 2 ^ 20)) (sym known.sort)
    (declared-at (context-of sorts partitions) d id known.at stands known.place).sized

pub size-size-requires-clause-some : goal.size-size-requires-clause-some
size-size-requires-clause-some c =
    (sized c.args.domains.now c.requires.sorts c.requires.partitions c.args.id.now c.in-Some-Constant.sort c.in-Some-Constant.index c.requires.stands
    (constant-found c.args.domains.now c.args.id.now c.in-Some-Constant.sort c.in-Some-Constant.index (sym (ap Some c.in-Some-Constant.field-0-is) ∙ c.in-Some-Constant.ensures))).0

pub size-size-requires-clause-limit : goal.size-size-requires-clause-limit
size-size-requires-clause-limit c =
    (sized c.args.domains.now c.requires.sorts c.requires.partitions c.args.id.now c.in-Some-Constant.sort c.in-Some-Constant.index c.requires.stands
    (constant-found c.args.domains.now c.args.id.now c.in-Some-Constant.sort c.in-Some-Constant.index (sym (ap Some c.in-Some-Constant.field-0-is) ∙ c.in-Some-Constant.ensures))).1

pub returns-in-Some-Constant : goal.returns-in-Some-Constant
returns-in-Some-Constant c = λ ctx v marking scope.
    let d = c.args.domains.now in
    let id = c.args.id.now in
    let s = c.in-Some-Constant.sort in
    let known = constant-found d id s c.in-Some-Constant.index (sym (ap Some c.in-Some-Constant.field-0-is) ∙ c.in-Some-Constant.ensures) in
    let there = declared-at ctx d id known.at scope.domain known.place in
    let same : s ≡ typing.sort_at ctx known.at = known.sort ∙ there.sort in
    let two = sized d ctx.sorts ctx.partitions id s c.in-Some-Constant.index scope.domain known in
    c.constant.ensures ctx marking (written.Operator id) (colour.Constant id) scope.distinct
    (subst (λ z. IsConstant ctx marking (written.Operator id) z (colour.Constant id)) (sym same) (constant-is ctx d v marking id known.at scope known.place))
    (sized-by ctx s _ c.size-size.result same (has-size ctx d _ c.size-size.result s same scope.domain.is c.size-size.ensures two.0 two.1))
    (ap (λ z. slice_get (colours_of ctx z) c.in-Some-Constant.index) same
    ∙ ap (slice_get (colours_of ctx (typing.sort_at ctx known.at))) known.index_is ∙ there.here)

pub returns-in-Some-Block : goal.returns-in-Some-Block
returns-in-Some-Block c = λ ctx v marking scope.
    let d = c.args.domains.now in
    let id = c.args.id.now in
    c.element.ensures ctx marking (written.Operator id)
    (element-is ctx d v marking id c.in-Some-Block.partition c.in-Some-Block.block scope (element-found d id c.in-Some-Block.partition c.in-Some-Block.block (sym (ap Some c.in-Some-Block.field-0-is) ∙ c.in-Some-Block.ensures)))

pub returns-in-None : goal.returns-in-None
returns-in-None c = λ ctx v marking scope.
    unknown-operator ctx c.args.domains.now v marking c.args.id.now scope (nowhere-found c.args.domains.now c.args.id.now c.in-None.ensures)
