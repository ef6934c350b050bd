use Rattle.std.proofs.Common.{◌++◌, ◌+◌, IfOk, None, ℕ, List, take, refl, sym, subst}
use Rattle.doc_tree.specs.declared.places.Place.TheVariants as place
use Rattle.doc_tree.specs.declared.places.Part.TheVariants as part
use Rattle.doc_tree.specs.Fed.{HasReadBy}
use Rattle.doc_tree.specs.Machine.{state}
use Rattle.doc_tree.proofs.TakenRuns.{moved, no_more}
use Rattle.doc_tree.proofs.TakenTokens.{if_ok}
use Rattle.doc_tree.proofs.tokens.take_between.Goals as goal

pub returns-then-bytes-lt2-clause-read : goal.returns-then-bytes-lt2-clause-read
returns-then-bytes-lt2-clause-read c = if_ok c.take_run.result _ _ (λ n read b h. read c.args.root.now c.args.at b h) c.take_run.ensures.read

pub returns-then-bytes-eq47-clause-read : goal.returns-then-bytes-eq47-clause-read
returns-then-bytes-eq47-clause-read c =
    let new = c.take_end.new in
    if_ok c.take_end.result _ _
    (λ n read b h. moved place.Between c.args.into.now new.opens new.opens new.root (c.args.at + n) (b ++ take n c.args.bytes.now) (sym c.requires) refl
    (read c.args.at b (moved c.args.into.now place.Between c.args.opens.now c.args.opens.now c.args.root.now c.args.at b c.requires refl h)))
    c.take_end.ensures.read

pub returns-in-Some-clause-read : goal.returns-in-Some-clause-read
returns-in-Some-clause-read c b h = no_more c.args.into.now c.args.opens.now c.args.root.now c.args.at b h

pub returns-in-None-clause-read : goal.returns-in-None-clause-read
returns-in-None-clause-read c =
    let new = c.take_start.new in
    subst (λ r. IfOk c.take_start.result (λ n. (b : List ℕ) → HasReadBy None (state c.args.into.now part.Whole c.args.opens.now r) c.args.at b
    → HasReadBy None (state new.into part.Whole new.opens r) (c.args.at + n) (b ++ take n c.args.bytes.now)))
    (sym c.in-None.is) c.take_start.ensures.read
