-- A term that has to stand over a sort.
use Rattle.std.proofs.Common.{◌≡◌, ◌∙◌, ap, sym, Bool, true, false, not, ℕ, Option, Some, Result, Ok, Err}
use Rattle.colour_sorts.specs.declared.rules.Rule.{Rule}
use Rattle.colour_sorts.specs.declared.sorts.Sort.{Sort}
use Rattle.net_model.specs.declared.terms.Term.{Term}
use Rattle.multiset_terms.specs.declared.compiled.CTerm.{CTerm}
use Rattle.multiset_terms.specs.declared.faults.TermFault.{TermFault}
use Rattle.multiset_terms.specs.declared.faults.TermFault.TheVariants as term_fault
use Rattle.multiset_terms.specs.declared.kinds.Kind.{Kind}
use Rattle.multiset_terms.specs.Context.{Context}
use Rattle.multiset_terms.specs.Parts.{IsCompiled, IsCompiledOver}
use Rattle.multiset_terms.specs.declared.kinds.Kind.TheVariants as kind
use Rattle.colour_sorts.specs.declared.rules.Rule.TheVariants as rule
use Rattle.multiset_terms.specs.Typing.{Broken, at_root, is_block, over, over_kind, sort_of_kind, stands_over, type_of, wants}
use Rattle.multiset_terms.proofs.Makers.{not-true, wanted}
use Rattle.colour_sorts.proofs.SameSort.{sort-told}

-- the type over a sort of a term of a type
pub typed-over : (ctx : Context) (marking : Bool) (s : Sort) (t : Term) (k : Kind) (r : Result Kind Rule) → type_of ctx marking t ≡ Ok k → over_kind s k ≡ r → over s (type_of ctx marking t) ≡ at_root r
typed-over ctx marking s t k r typed found = ap (over s) typed ∙ ap at_root found

-- a compiled term whose type stands over the sort
pub compiled-over : (ctx : Context) (marking : Bool) (s : Sort) (t : Term) (k : Kind) (r : Result CTerm TermFault) → type_of ctx marking t ≡ Ok k → over_kind s k ≡ Ok k → IsCompiled ctx marking t r → IsCompiledOver ctx marking s t r
compiled-over ctx marking s t k (Ok c) typed found (is, light, stands) = ((k, typed-over ctx marking s t k (Ok k) typed found), light, stands)
compiled-over ctx marking s t k (Err (term_fault.IllTyped at rule)) typed found is = ap (over s) is
compiled-over ctx marking s t k (Err (term_fault.Weight at)) typed found (is, heavy) = ((k, typed-over ctx marking s t k (Ok k) typed found), heavy)
compiled-over ctx marking s t k (Err term_fault.Memory) typed found is = tt

-- what stands over a sort is no block, and is of that sort
stands-at : (s : Sort) (k : Kind) → is_block k ≡ false → stands_over s k ≡ true → sort_of_kind k ≡ s
stands-at s (kind.Colour other) isnt h = sym (sort-told s other h)
stands-at s (kind.Every other) isnt h = sym (sort-told s other h)
stands-at s (kind.Multiset other) isnt h = sym (sort-told s other h)
stands-at s (kind.Block at) isnt h = absurd (cc)

pub is-over : (s : Sort) (k : Kind) → over_kind s k ≡ Ok k → (is_block k ≡ false) × (sort_of_kind k ≡ s)
is-over s k h =
    let outer = wanted (not (is_block k)) rule.NotAMultiset (wants (stands_over s k) rule.SortsDiffer (Ok k)) k (sym h) in
    let isnt = not-true (is_block k) outer.0 in
    (isnt, stands-at s k isnt (wanted (stands_over s k) rule.SortsDiffer (Ok k) k outer.1).0)
