use Rattle.std.proofs.Common.{◌≡◌, ◌++◌, ◌∷◌, ◌+◌, [], false, true, None, ℕ, List, arith, nat_eq, length, take, drop, get_or, refl, sym, ap, ◌∙◌}
use Rattle.std.proofs.lemmas.Bool.Decides.{nat_tests}
use Rattle.doc_tree.specs.declared.places.Place.TheVariants as place
use Rattle.doc_tree.specs.Characters.{is_white}
use Rattle.doc_tree.specs.Machine.{open_at, tag}
use Rattle.doc_tree.proofs.TakenRuns.{moved, no_more}
use Rattle.doc_tree.proofs.TakenTokens.{front_name, start_greater, start_white}
use Rattle.doc_tree.proofs.tokens.take_start.Goals as goal

pub returns-then-len-ge256-clause-read : goal.returns-then-len-ge256-clause-read
returns-then-len-ge256-clause-read c b h = no_more c.args.into.now c.args.opens.now None c.args.at b h

pub returns-in-None-clause-read : goal.returns-in-None-clause-read
returns-in-None-clause-read c b h = no_more c.args.into.now c.args.opens.now None c.args.at b h

pub returns-else-is_white-clause-read : goal.returns-else-is_white-clause-read
returns-else-is_white-clause-read c b h = no_more c.args.into.now c.args.opens.now None c.args.at b h

pub returns-then-behind-eq62-clause-read : goal.returns-then-behind-eq62-clause-read
returns-then-behind-eq62-clause-read c b h =
    let n = c.in-Some.more in
    let at = c.args.at in
    let bytes = c.args.bytes.now in
    let os = c.args.opens.now in
    let is = c.in-Some.ensures in
    let name = get_or bytes 1 0 ∷ take n (drop 2 bytes) in
    let shallow : nat_eq (length os) 256 ≡ false = grind (arith, nat_tests, c.if-len-ge256.false, c.len.ensures) in
    let stack : c.push.new.self ≡ open_at at name [] [] [] ∷ os =
    c.in_ok-push-in-Some.ensures ∙ ap (λ o. o ∷ os) (c.opened.ensures ∙ ap (λ (m : List ℕ). open_at at m [] [] []) (c.in_ok-name-in-Some.ensures ∙ front_name n bytes is.within)) in
    moved place.Between c.args.into.now (open_at at name [] [] [] ∷ os) c.push.new.self None (at + (n + 3)) (b ++ take (n + 3) bytes) (sym c.requires) (sym stack)
    (start_greater n at os b bytes is c.if-behind-eq62.true shallow (moved c.args.into.now place.Between os os None at b c.requires refl h))

pub returns-then-is_white-clause-read : goal.returns-then-is_white-clause-read
returns-then-is_white-clause-read c b h =
    let n = c.in-Some.more in
    let at = c.args.at in
    let bytes = c.args.bytes.now in
    let os = c.args.opens.now in
    let is = c.in-Some.ensures in
    let name = get_or bytes 1 0 ∷ take n (drop 2 bytes) in
    let shallow : nat_eq (length os) 256 ≡ false = grind (arith, nat_tests, c.if-len-ge256.false, c.len.ensures) in
    let white : is_white (get_or bytes (n + 2) 0) ≡ true = sym c.is_white.ensures ∙ c.if-is_white.true in
    let placed : c.put_place.new.into ≡ place.Blank (tag at name []) =
    c.put_place.ensures ∙ ap (λ a. place.Blank (tag at c.in_ok-name-in-Some-2.name a)) c.new-attributes.ensures
    ∙ ap (λ (m : List ℕ). place.Blank (tag at m [])) (c.in_ok-name-in-Some-2.ensures ∙ front_name n bytes is.within) in
    moved (place.Blank (tag at name [])) c.put_place.new.into os os None (at + (n + 3)) (b ++ take (n + 3) bytes) (sym placed) refl
    (start_white n at (get_or bytes (n + 2) 0) os b bytes is refl white shallow (moved c.args.into.now place.Between os os None at b c.requires refl h))
