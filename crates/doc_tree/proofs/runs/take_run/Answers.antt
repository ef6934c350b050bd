use Rattle.std.proofs.Common.{◌++◌, ap, sym, refl, take, arith, false}
use Rattle.doc_tree.specs.declared.places.Place.TheVariants as place
use Rattle.doc_tree.specs.declared.places.Dashes.TheVariants.{Neither}
use Rattle.doc_tree.proofs.Forward.{blank_white, after_key_white, equals_white}
use Rattle.doc_tree.proofs.TakenRuns.{white_taken, many, moved, length_more, stand, no_more, tag_name_run, key_run, value_run, target_run, comment_run, instruction_run}
use Rattle.doc_tree.proofs.TakenTokens.{if_ok}
use Rattle.doc_tree.proofs.runs.take_run.Goals as goal

pub returns-in-Between-clause-read : goal.returns-in-Between-clause-read
returns-in-Between-clause-read c =
    let os = c.args.opens.now in
    let new = c.take_text.new.opens in
    if_ok c.take_text.result _ _
    (λ n read r count b h. moved place.Between c.args.place.now new new r _ _ (sym c.in-Between.is) refl (read r count b (moved c.args.place.now place.Between os os r count b c.in-Between.is refl h)))
    c.take_text.ensures.read

pub returns-in-Blank-clause-read : goal.returns-in-Blank-clause-read
returns-in-Blank-clause-read c r count b h =
    let w = c.in-Blank in
    let os = c.args.opens.now in
    let run = c.run in
    white_taken c.args.place.now (place.Blank w.field-0) os r count run.result b c.args.bytes.now w.is (blank_white w.field-0 os r) (λ at. refl) run.ensures.within run.ensures.all h

pub returns-in-AfterKey-clause-read : goal.returns-in-AfterKey-clause-read
returns-in-AfterKey-clause-read c r count b h =
    let w = c.in-AfterKey in
    let os = c.args.opens.now in
    let run = c.run-in-AfterKey in
    white_taken c.args.place.now (place.AfterKey w.field-0 w.field-1) os r count run.result b c.args.bytes.now w.is (after_key_white w.field-0 w.field-1 os r) (λ at. refl) run.ensures.within run.ensures.all h

pub returns-in-Equals-clause-read : goal.returns-in-Equals-clause-read
returns-in-Equals-clause-read c r count b h =
    let w = c.in-Equals in
    let os = c.args.opens.now in
    let run = c.run-in-Equals in
    white_taken c.args.place.now (place.Equals w.field-0 w.field-1) os r count run.result b c.args.bytes.now w.is (equals_white w.field-0 w.field-1 os r) (λ at. refl) run.ensures.within run.ensures.all h

pub returns-in_ok-append-in-Value-clause-read : goal.returns-in_ok-append-in-Value-clause-read
returns-in_ok-append-in-Value-clause-read c r count b h =
    let w = c.in-Value in
    let bytes = c.args.bytes.now in
    let n = c.run-count.result in
    let os = c.args.opens.now in
    many (place.Value w.field-0 w.field-1 w.quote c.append.new.self) os r count n b bytes c.run-count.ensures.within
    (moved (place.Value w.field-0 w.field-1 w.quote (w.value ++ take n bytes)) (place.Value w.field-0 w.field-1 w.quote c.append.new.self) os os r _ _
    (ap (λ v. place.Value w.field-0 w.field-1 w.quote v) (sym c.in_ok-append-in-Value.ensures.appended)) refl
    (value_run (take n bytes) w.field-0 w.field-1 w.quote w.value os r count b c.run-count.ensures.all
    (moved c.args.place.now (place.Value w.field-0 w.field-1 w.quote w.value) os os r count b w.is refl h)))

pub returns-in_ok-count-in-TagName-clause-read : goal.returns-in_ok-count-in-TagName-clause-read
returns-in_ok-count-in-TagName-clause-read c r count b h =
    let w = c.in-TagName in
    let bytes = c.args.bytes.now in
    let n = c.in_ok-count-in-TagName.count in
    let taken = c.in_ok-count-in-TagName.ensures in
    let os = c.args.opens.now in
    many (place.TagName w.field-0 c.take_name.new.name) os r count n b bytes taken.within
    (moved (place.TagName w.field-0 (w.name ++ take n bytes)) (place.TagName w.field-0 c.take_name.new.name) os os r _ _ (ap (λ m. place.TagName w.field-0 m) (sym taken.appended)) refl
    (tag_name_run (take n bytes) w.field-0 w.name os r count b taken.all (moved c.args.place.now (place.TagName w.field-0 w.name) os os r count b w.is refl h)))

pub returns-in_ok-count-in-Key-clause-read : goal.returns-in_ok-count-in-Key-clause-read
returns-in_ok-count-in-Key-clause-read c r count b h =
    let w = c.in-Key in
    let bytes = c.args.bytes.now in
    let n = c.in_ok-count-in-Key.count in
    let taken = c.in_ok-count-in-Key.ensures in
    let os = c.args.opens.now in
    many (place.Key w.field-0 c.take_name-in-Key.new.name) os r count n b bytes taken.within
    (moved (place.Key w.field-0 (w.name ++ take n bytes)) (place.Key w.field-0 c.take_name-in-Key.new.name) os os r _ _ (ap (λ m. place.Key w.field-0 m) (sym taken.appended)) refl
    (key_run (take n bytes) w.field-0 w.name os r count b taken.all (moved c.args.place.now (place.Key w.field-0 w.name) os os r count b w.is refl h)))

pub returns-in-Close-clause-read : goal.returns-in-Close-clause-read
returns-in-Close-clause-read c r count b h =
    let os = c.args.opens.now in
    c.take_ended_name.ensures.read r count b (moved c.args.place.now (place.Close c.in-Close.read) os os r count b c.in-Close.is refl h)

pub returns-in-CloseWhite-clause-read : goal.returns-in-CloseWhite-clause-read
returns-in-CloseWhite-clause-read c r count b h =
    let os = c.args.opens.now in
    moved place.CloseWhite c.args.place.now os os r _ _ (sym c.in-CloseWhite.is) refl
    (c.end_white.ensures.read r count b (moved c.args.place.now place.CloseWhite os os r count b c.in-CloseWhite.is refl h))

pub returns-in-Target-clause-read : goal.returns-in-Target-clause-read
returns-in-Target-clause-read c r count b h =
    let bytes = c.args.bytes.now in
    let n = c.name_run.result in
    let os = c.args.opens.now in
    moved place.Target c.args.place.now os os r _ _ (sym c.in-Target.is) refl
    (many place.Target os r count n b bytes c.name_run.ensures.within
    (target_run (take n bytes) os r count b c.name_run.ensures.all (moved c.args.place.now place.Target os os r count b c.in-Target.is refl h)))

pub returns-then-count-gt0-clause-read : goal.returns-then-count-gt0-clause-read
returns-then-count-gt0-clause-read c r count b h =
    let bytes = c.args.bytes.now in
    let n = c.run-count-in-Comment.result in
    let os = c.args.opens.now in
    many (place.Comment Neither) os r count n b bytes c.run-count-in-Comment.ensures.within
    (comment_run (take n bytes) c.in-Comment.dashes os r count b (length_more n bytes c.run-count-in-Comment.ensures.within c.if-count-gt0.true) c.run-count-in-Comment.ensures.all
    (moved c.args.place.now (place.Comment c.in-Comment.dashes) os os r count b c.in-Comment.is refl h))

pub returns-else-count-gt0-clause-read : goal.returns-else-count-gt0-clause-read
returns-else-count-gt0-clause-read c r count b h =
    let os = c.args.opens.now in
    stand (place.Comment c.in-Comment.dashes) os r count c.run-count-in-Comment.result b c.args.bytes.now c.if-count-gt0.false
    (moved c.args.place.now (place.Comment c.in-Comment.dashes) os os r count b c.in-Comment.is refl h)

pub returns-then-count-gt0-2-clause-read : goal.returns-then-count-gt0-2-clause-read
returns-then-count-gt0-2-clause-read c r count b h =
    let bytes = c.args.bytes.now in
    let n = c.run-count-in-Instruction.result in
    let os = c.args.opens.now in
    many (place.Instruction false) os r count n b bytes c.run-count-in-Instruction.ensures.within
    (instruction_run (take n bytes) c.in-Instruction.ends os r count b (length_more n bytes c.run-count-in-Instruction.ensures.within c.if-count-gt0-2.true) c.run-count-in-Instruction.ensures.all
    (moved c.args.place.now (place.Instruction c.in-Instruction.ends) os os r count b c.in-Instruction.is refl h))

pub returns-else-count-gt0-2-clause-read : goal.returns-else-count-gt0-2-clause-read
returns-else-count-gt0-2-clause-read c r count b h =
    let os = c.args.opens.now in
    stand (place.Instruction c.in-Instruction.ends) os r count c.run-count-in-Instruction.result b c.args.bytes.now c.if-count-gt0-2.false
    (moved c.args.place.now (place.Instruction c.in-Instruction.ends) os os r count b c.in-Instruction.is refl h)

pub returns-in_default : goal.returns-in_default
returns-in_default c = record { within = omega arith; read = λ r count b h. no_more c.args.place.now c.args.opens.now r count b h }
