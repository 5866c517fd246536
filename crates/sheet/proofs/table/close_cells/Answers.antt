use Rattle.std.proofs.Common.{◌≡◌, ◌<◌, length, get_or, set, ap, ◌∙◌, arith}
use Rattle.std.proofs.lemmas.List.Edits.{map_over_more}
use Rattle.std.proofs.lemmas.List.{get_or_default}
use Rattle.sheet.specs.Cells.{cell_of, closed_cell}
use Rattle.sheet.specs.declared.cell.Cell.{Cell}
use Rattle.sheet.specs.declared.cell.State.TheVariants.{Free}
use Rattle.sheet.proofs.table.close_cells.Goals as goal

pub loop-cell-preserved : goal.loop-cell-preserved
loop-cell-preserved c =
    let i = c.loop-cell.cell-index in
    let cells = c.loop-cell.cell-items in
    let x : Cell = get_or cells i (cell_of Free) in
    let within : i < length cells = omega arith in
    let closed : c.close_cell.new.cell ≡ closed_cell x = c.close_cell.ensures in
    ap (set cells i) closed
    ∙ map_over_more closed_cell c.args.cells.now cells i x c.loop-cell-test.true c.loop-cell.invariant (get_or_default cells i (cell_of Free) x within)
