use Rattle.std.proofs.Common.{◌<◌, ◌≡◌, ◌∙◌, length, get_or, arith, refl}
use Rattle.pt_net.specs.declared.instances.Side.TheVariants.{Pre}
use Rattle.plain_rows.specs.declared.entries.Entry.{Entry}
use Rattle.plain_rows.specs.Entries.{HasRows, IsFillable, cell_of}
use Rattle.plain_rows.proofs.Rows.{instances_more, sizes_more, empty_rows, empty_sizes}
use Rattle.std.proofs.lemmas.List.{length-set}
use Rattle.std.proofs.lemmas.List.Elements.{All-set}
use Rattle.plain_rows.proofs.filling.fill.Goals as goal

abbrev default : Entry
default = record { side = Pre; transition = 0; place = 0; weight = 0 }

pub loop-entry-init : goal.loop-entry-init
loop-entry-init c = record {
  as_long = refl;
  filled = c.requires.empty;
  rows = empty_rows c.args.instances.now c.requires.empty;
  cells = empty_sizes c.args.instances.now c.requires.empty;
}

pub put-requires-clause-rows : goal.put-requires-clause-rows
put-requires-clause-rows c =
    let entry = get_or c.args.entries.now c.loop-entry.entry-index default in
    let range : IsFillable (length c.args.instances.now) entry = c.requires.entries c.loop-entry.entry-index default c.loop-entry-test.true in
    let inside : entry.transition < length c.args.instances.now = range.transition in
    let long : length c.loop-entry.instances ≡ length c.args.instances.now = c.loop-entry.invariant.as_long in
    c.loop-entry.invariant.rows entry.transition c.index-instances-entry.result (omega arith)

pub loop-entry-preserved : goal.loop-entry-preserved
loop-entry-preserved c =
    let entry = get_or c.args.entries.now c.loop-entry.entry-index default in
    let range : IsFillable (length c.args.instances.now) entry = c.requires.entries c.loop-entry.entry-index default c.loop-entry-test.true in
    let long : length c.loop-entry.instances ≡ length c.args.instances.now = c.loop-entry.invariant.as_long in
    let low : entry.transition < length c.args.instances.now = range.transition in
    let inside : entry.transition < length c.loop-entry.instances = omega arith in
    record {
      as_long = length-set c.loop-entry.instances entry.transition c.put.new.instance ∙ long;
      filled = instances_more c.args.entries.now c.loop-entry.entry-index default c.loop-entry.instances c.index-instances-entry.result c.put.new.instance
          c.loop-entry-test.true inside c.in_ok-put.ensures.put c.loop-entry.invariant.filled;
      rows = All-set HasRows c.loop-entry.instances entry.transition c.put.new.instance c.in_ok-put.ensures.rows c.loop-entry.invariant.rows;
      cells = sizes_more c.loop-entry.instances entry.transition c.loop-entry.entry-index entry.side (cell_of entry) c.index-instances-entry.result c.put.new.instance
          inside c.in_ok-put.ensures.put c.loop-entry.invariant.cells;
    }
