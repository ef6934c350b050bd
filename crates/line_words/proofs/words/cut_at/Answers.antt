use Rattle.std.proofs.Common.{sym, ◌≡◌, ◌+◌, suc, arith}
use Rattle.std.proofs.lemmas.List.{take_rest}
use Rattle.line_words.proofs.Cutting.{mark-at, mark-none}
use Rattle.line_words.proofs.words.cut_at.Goals as goal

pub returns-in-Some-clause-before : goal.returns-in-Some-clause-before
returns-in-Some-clause-before c =
    let found = c.in-Some.ensures in
    sym (mark-at c.args.mark c.args.bytes.now c.in-Some.at found.0.high found.0.before found.1).0

pub returns-in-Some-clause-behind : goal.returns-in-Some-clause-behind
returns-in-Some-clause-behind c =
    let found = c.in-Some.ensures in
    let at = c.in-Some.at in
    let b = c.args.bytes.now in
    let next : at + 1 ≡ suc at = omega arith in
    rw (next, take_rest b (suc at)) (sym (mark-at c.args.mark b at found.0.high found.0.before found.1).1)

pub returns-in-None-clause-before : goal.returns-in-None-clause-before
returns-in-None-clause-before c = sym (mark-none c.args.mark c.args.bytes.now c.in-None.ensures).0

pub returns-in-None-clause-behind : goal.returns-in-None-clause-behind
returns-in-None-clause-behind c = sym (mark-none c.args.mark c.args.bytes.now c.in-None.ensures).1
