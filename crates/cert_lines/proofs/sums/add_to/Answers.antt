use Rattle.std.proofs.Common.{◌≡◌, ◌∙◌, ◌+◌, ◌<◌, ◌^◌, ap, sym, refl, Bool, true, false, cond, List, ℕ, Some, Bor, arith}
use Rattle.std.specs.Str.{bytes_eq}
use Rattle.std.proofs.lemmas.Map.Text.{hash_map_updates_str}
use Rattle.indexmap.specs.IndexMap.{get_by}
use Rattle.cert_lines.specs.Sums.{or_zero}
use Rattle.cert_lines.proofs.Amounts.{one_added}
use Rattle.cert_lines.proofs.sums.add_to.Goals as goal

same_test : {X : Type 0} (t : Bool) (x y z : X) → cond t x (cond t y z) ≡ cond t x z
same_test true x y z = refl
same_test false x y z = refl

pub overflow_sub-before : goal.overflow_sub-before
overflow_sub-before c =
    let was : or_zero (get_by {K = Bor (List ℕ)} (λ key. bytes_eq c.args.name.now key.now) c.args.sums.now) ≡ c.in-Some.before = ap or_zero (sym c.in_ok-before.ensures.old ∙ c.in-Some.is) in
    let low = c.requires c.args.name.now in
    omega (arith, was, low)

pub returns-in_default : goal.returns-in_default
returns-in_default c =
    let f = λ (q : List ℕ). get_by {K = Bor (List ℕ)} (λ key. bytes_eq q key.now) c.args.sums.now in
    let g = λ (q : List ℕ). get_by {K = Bor (List ℕ)} (λ key. bytes_eq q key.now) c.insert.new.self in
    let put = hash_map_updates_str c.args.name.now c.args.sums.now c.insert.new.self (Some c.args.size) c.in_ok-before.ensures.updates in
    let was : or_zero (f c.args.name.now) ≡ 0 = ap or_zero (sym c.in_ok-before.ensures.old ∙ c.in_default.is) in
    one_added f g c.args.name.now c.args.size 0 c.args.size put was (omega arith) (omega arith) c.requires

pub returns : goal.returns
returns c =
    let f = λ (q : List ℕ). get_by {K = Bor (List ℕ)} (λ key. bytes_eq q key.now) c.args.sums.now in
    let g = λ (q : List ℕ). get_by {K = Bor (List ℕ)} (λ key. bytes_eq q key.now) c.insert.new.self in
    let h = λ (q : List ℕ). get_by {K = Bor (List ℕ)} (λ key. bytes_eq q key.now) c.insert-2.new.self in
    let total = c.in-Some.before + c.args.size in
    let first = hash_map_updates_str c.args.name.now c.args.sums.now c.insert.new.self (Some c.args.size) c.in_ok-before.ensures.updates in
    let second = hash_map_updates_str c.args.name.now c.insert.new.self c.insert-2.new.self (Some total) c.in_ok-insert.ensures.updates in
    let was : or_zero (f c.args.name.now) ≡ c.in-Some.before = ap or_zero (sym c.in_ok-before.ensures.old ∙ c.in-Some.is) in
    let before = c.requires c.args.name.now in
    let low : total < 2 ^ 63 = omega (arith, was, before) in
    one_added f h c.args.name.now c.args.size c.in-Some.before total
    (λ q. second q ∙ ap (cond (bytes_eq c.args.name.now q) (Some total)) (first q) ∙ same_test (bytes_eq c.args.name.now q) (Some total) (Some c.args.size) (f q))
    was refl low c.requires
