-- The row lies between its start and its end in the array of its side.
use Rattle.std.proofs.Common.{rules, arith, length, ap, ap₂, sym, subst, ◌∙◌, ◌≡◌, ◌<◌, slice_index, slice_range, ℕ, List}
use Rattle.wide_sums.specs.declared.rows.Cell.{Cell}
use Rattle.wide_sums.specs.Cells.{IsRow}
use Rattle.pt_net.specs.declared.arrays.Head.{Head}
use Rattle.pt_net.specs.InArrays.{array_of, ends_of, row_in, start_of}
use Rattle.pt_net.proofs.InArrays.{ends_long, packed_on, row_is, within_heads}
use Rattle.pt_net.proofs.arrays.PackedInstances.cells.Goals as goal

pub bounds-start-requires : goal.bounds-start-requires
bounds-start-requires c = let inside = within_heads c.self.inside.heads.items c.self.inside.inputs.items c.self.inside.outputs.items c.args.self.now c.args.instance c.self.view_is c.requires in let long = ap length c.as_slice.ensures.value in omega arith

starts : (c : goal.After-array_of-cells) → c.bounds-start.result.0 ≡ start_of (ends_of c.args.side c.self.inside.heads.items) c.args.instance
starts c = c.bounds-start.ensures.start ∙ ap (λ (hs : List Head). start_of (ends_of c.args.side hs) c.args.instance) c.as_slice.ensures.value

ends : (c : goal.After-array_of-cells) → c.bounds-start.result.1 ≡ slice_index (ends_of c.args.side c.self.inside.heads.items) c.args.instance
ends c = c.bounds-start.ensures.end ∙ ap (λ (hs : List Head). slice_index (ends_of c.args.side hs) c.args.instance) c.as_slice.ensures.value

cells_are : (c : goal.After-array_of-cells) → c.array_of-cells.result.now ≡ array_of c.args.side c.self.inside.inputs.items c.self.inside.outputs.items
cells_are c = c.array_of-cells.ensures ∙ ap₂ (array_of c.args.side) c.as_slice-2.ensures.value c.as_slice-3.ensures.value

pub part-requires-clause-order : goal.part-requires-clause-order
part-requires-clause-order c =
    let inside = within_heads c.self.inside.heads.items c.self.inside.inputs.items c.self.inside.outputs.items c.args.self.now c.args.instance c.self.view_is c.requires in
    let long = ends_long c.args.side c.self.inside.heads.items in
    let rises = (packed_on c.args.side c.self.inside.heads.items c.self.inside.inputs.items c.self.inside.outputs.items c.self.invariant).rising c.args.instance (omega arith) in
    let start = starts c in
    let end = ends c in
    omega arith

pub part-requires-clause-within : goal.part-requires-clause-within
part-requires-clause-within c =
    let inside = within_heads c.self.inside.heads.items c.self.inside.inputs.items c.self.inside.outputs.items c.args.self.now c.args.instance c.self.view_is c.requires in
    let long = ends_long c.args.side c.self.inside.heads.items in
    let low = (packed_on c.args.side c.self.inside.heads.items c.self.inside.inputs.items c.self.inside.outputs.items c.self.invariant).within c.args.instance (omega arith) in
    let end = ends c in
    let same = ap length (cells_are c) in
    omega arith

row_found : (c : goal.After-part) → c.part.result.now ≡ row_in (ends_of c.args.side c.self.inside.heads.items) (array_of c.args.side c.self.inside.inputs.items c.self.inside.outputs.items) c.args.instance
row_found c =
    c.part.ensures
    ∙ ap (λ (xs : List Cell). slice_range xs c.bounds-start.result.0 c.bounds-start.result.1) (cells_are c.before)
    ∙ ap₂ (slice_range (array_of c.args.side c.self.inside.inputs.items c.self.inside.outputs.items)) (starts c.before) (ends c.before)

pub returns-clause-cells : goal.returns-clause-cells
returns-clause-cells c = rw (← c.self.view_is) (row_found c ∙ row_is c.args.side c.self.inside.heads.items c.self.inside.inputs.items c.self.inside.outputs.items c.args.instance (within_heads c.self.inside.heads.items c.self.inside.inputs.items c.self.inside.outputs.items c.args.self.now c.args.instance c.self.view_is c.requires))

pub returns-clause-row : goal.returns-clause-row
returns-clause-row c =
    let inside = within_heads c.self.inside.heads.items c.self.inside.inputs.items c.self.inside.outputs.items c.args.self.now c.args.instance c.self.view_is c.requires in
    let long = ends_long c.args.side c.self.inside.heads.items in
    subst IsRow (sym (row_found c)) ((packed_on c.args.side c.self.inside.heads.items c.self.inside.inputs.items c.self.inside.outputs.items c.self.invariant).rows c.args.instance (omega arith))
