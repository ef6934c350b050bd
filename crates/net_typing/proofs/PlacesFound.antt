-- Why a place is refused, by its sort and its marking.
use Rattle.std.proofs.Common.{◌≡◌, ◌∙◌, ap, sym, ℕ, List, Bool, true, false, Option, Some, None, Ok, Err}
use Rattle.colour_sorts.specs.Calls.{IsResolved}
use Rattle.colour_sorts.specs.Domain.{Domain}
use Rattle.colour_sorts.specs.declared.rules.ResolveFault.{ResolveFault}
use Rattle.colour_sorts.specs.declared.rules.ResolveFault.TheVariants as refusal
use Rattle.colour_sorts.specs.declared.rules.Rule.{Rule}
use Rattle.net_model.specs.declared.nets.VariableDecl.{VariableDecl}
use Rattle.net_model.specs.declared.sorts.NamedSort.{NamedSort}
use Rattle.colour_sorts.specs.declared.sorts.Sort.{Sort}
use Rattle.colour_sorts.specs.Naming.{broken_rule}
use Rattle.net_model.specs.declared.nets.Place.{Place}
use Rattle.multiset_terms.specs.Context.{Context}
use Rattle.multiset_terms.specs.Typing.{sort_named}
use Rattle.net_typing.specs.declared.faults.NetFault.TheVariants as fault
use Rattle.net_typing.specs.declared.faults.Unfit.{Unfit}
use Rattle.net_typing.specs.declared.faults.Unfit.TheVariants as unfit
use Rattle.net_typing.specs.Rules.{IsUnfit, Refusal, ill_typed, is_heavy, label_rule, or_else, place_refusal, too_heavy, unfit_sort, variable_refusal}
use Rattle.net_typing.specs.Standing.{IsInscribedAnswer, IsSortAnswer}

-- a place by what is known of its sort, of the type of its marking and of its weight
made : (ctx : Context) (p : Place) (a b : Option Rule) (heavy : Bool) → broken_rule ctx.sorts 0 p.sort ≡ a → label_rule ctx true (sort_named ctx p.sort) p.marking ≡ b → is_heavy ctx p.marking ≡ heavy
    → place_refusal ctx p ≡ or_else (ill_typed p.id a) (or_else (ill_typed p.id b) (too_heavy p.id heavy))
made ctx p a b heavy sort rule weight =
    ap (λ x. or_else (ill_typed p.id x) (or_else (ill_typed p.id (label_rule ctx true (sort_named ctx p.sort) p.marking)) (too_heavy p.id (is_heavy ctx p.marking)))) sort
    ∙ ap (λ x. or_else (ill_typed p.id a) (or_else (ill_typed p.id x) (too_heavy p.id (is_heavy ctx p.marking)))) rule
    ∙ ap (λ x. or_else (ill_typed p.id a) (or_else (ill_typed p.id b) (too_heavy p.id x))) weight

pub place-sort-unfit : (ctx : Context) (d : Domain) (p : Place) (why : ResolveFault) → IsSortAnswer ctx d p.sort (Err why) → IsUnfit p.id (place_refusal ctx p) (unfit_sort why)
place-sort-unfit ctx d p (refusal.Bad broken) is =
    ap (λ x. or_else (ill_typed p.id x) (or_else (ill_typed p.id (label_rule ctx true (sort_named ctx p.sort) p.marking)) (too_heavy p.id (is_heavy ctx p.marking)))) is
place-sort-unfit ctx d p refusal.Memory is = tt

pub variable-unfit : (sorts : List NamedSort) (v : VariableDecl) (why : ResolveFault) → IsResolved sorts v.sort (Err why) → IsUnfit v.id (variable_refusal sorts v) (unfit_sort why)
variable-unfit sorts v (refusal.Bad broken) is = ap (ill_typed v.id) is
variable-unfit sorts v refusal.Memory is = tt

-- with a sort that breaks no rule
marked : (ctx : Context) (p : Place) (b : Option Rule) → broken_rule ctx.sorts 0 p.sort ≡ None → label_rule ctx true (sort_named ctx p.sort) p.marking ≡ b
    → place_refusal ctx p ≡ or_else (ill_typed p.id b) (too_heavy p.id (is_heavy ctx p.marking))
marked ctx p b sort rule =
    ap (λ x. or_else (ill_typed p.id x) (or_else (ill_typed p.id (label_rule ctx true (sort_named ctx p.sort) p.marking)) (too_heavy p.id (is_heavy ctx p.marking)))) sort
    ∙ ap (λ x. or_else (ill_typed p.id x) (too_heavy p.id (is_heavy ctx p.marking))) rule

pub place-marking-unfit : (ctx : Context) (p : Place) (s : Sort) (why : Unfit) → broken_rule ctx.sorts 0 p.sort ≡ None → s ≡ sort_named ctx p.sort → IsInscribedAnswer ctx true 0 s p.marking (Err why) → IsUnfit p.id (place_refusal ctx p) why
place-marking-unfit ctx p s (unfit.Broken broken) sort same is = marked ctx p (Some broken) sort (ap (λ x. label_rule ctx true x p.marking) (sym same) ∙ is)
place-marking-unfit ctx p s unfit.Heavy sort same (rule, heavy) = made ctx p None None true sort (ap (λ x. label_rule ctx true x p.marking) (sym same) ∙ rule) heavy
place-marking-unfit ctx p s unfit.Memory sort same is = tt

pub place-fits : (ctx : Context) (p : Place) → broken_rule ctx.sorts 0 p.sort ≡ None → label_rule ctx true (sort_named ctx p.sort) p.marking ≡ None → is_heavy ctx p.marking ≡ false → place_refusal ctx p ≡ None
place-fits ctx p sort rule light = made ctx p None None false sort rule light
