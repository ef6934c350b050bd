-- So many dots stand for the term that is written so.
use Rattle.std.proofs.Common.{◌≡◌, ℕ, ◌*◌, ◌-◌, ◌<◌, ◌^◌, Bool, false, refl, subst, arith, None}
use Rattle.std.specs.Prelude.{nat_lt}
use Rattle.std.proofs.lemmas.Bool.Decides.{nat_tests}
use Rattle.colour_sorts.specs.declared.sorts.Colour.TheVariants as colour
use Rattle.colour_sorts.specs.declared.sorts.Sort.TheVariants as sort
use Rattle.net_model.specs.declared.terms.Term.TheVariants as term
use Rattle.net_model.proofs.Layers.{fold-NumberOf}
use Rattle.multiset_terms.specs.declared.kinds.Kind.TheVariants as kind
use Rattle.multiset_terms.specs.declared.parts.Part.{Part}
use Rattle.multiset_terms.specs.declared.trees.Tree.TheVariants as tree
use Rattle.multiset_terms.specs.Context.{Context}
use Rattle.multiset_terms.specs.Parts.{AreDistinct, IsPart, heavy_over, told}
use Rattle.multiset_terms.specs.Standing.{StandsFor}
use Rattle.multiset_terms.specs.Values.{meaning_part}
use Rattle.multiset_terms.proofs.LeafMakers.{constant-part, dot-constant, dot-here, dot-sized, leaf-of}
use Rattle.multiset_terms.proofs.Makers.{multiple-of, multiple-part, over-number, stands-for}

abbrev dot : Part
dot = leaf-of (tree.Constant 1 0) (kind.Colour sort.Dot) 1 1

dot-part : (ctx : Context) (marking : Bool) → AreDistinct ctx → IsPart ctx marking term.Dot dot
dot-part ctx marking distinct =
    let is = dot-constant ctx marking in
    constant-part ctx marking term.Dot sort.Dot colour.Dot 1 0 distinct is.is is.closed is.means (dot-sized ctx).is (dot-sized ctx).limit (dot-here ctx)

abbrev counted : ℕ → Part
counted n = multiple-of n term.Dot dot (kind.Multiset sort.Dot)

counted-part : (ctx : Context) (marking : Bool) (n : ℕ) → AreDistinct ctx → IsPart ctx marking (term.NumberOf n term.Dot) (counted n)
counted-part ctx marking n distinct =
    multiple-part ctx marking (term.NumberOf n term.Dot) term.Dot n dot (kind.Multiset sort.Dot) (over-number ctx marking n term.Dot)
    (λ b. fold-NumberOf (meaning_part ctx b) n term.Dot) (dot-part ctx marking distinct) refl

told-whole : (n : ℕ) → n < 2 ^ 63 → told (n * 1) ≡ n
told-whole n few = omega (arith, few)

light : (n : ℕ) → n < 2 ^ 63 → heavy_over (told (n * 1)) None ≡ None
light n few =
    let same = told-whole n few in
    let test : nat_lt (2 ^ 63 - 1) n ≡ false = grind (arith, nat_tests, few) in
    rw (same, test) refl

pub dots-stand : (ctx : Context) (marking : Bool) (n : ℕ) → n < 2 ^ 63 → AreDistinct ctx
    → StandsFor ctx marking (term.NumberOf n term.Dot) (record { tree = tree.Times n (tree.Constant 1 0); sort = sort.Dot; block = false; gross = n; support = 1 })
dots-stand ctx marking n few distinct =
    subst (λ g. StandsFor ctx marking (term.NumberOf n term.Dot) (record { tree = tree.Times n (tree.Constant 1 0); sort = sort.Dot; block = false; gross = g; support = 1 }))
    (told-whole n few) (stands-for ctx marking (term.NumberOf n term.Dot) (counted n) sort.Dot false (counted-part ctx marking n distinct) (light n few) refl refl)
