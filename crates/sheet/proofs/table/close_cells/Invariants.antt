use Rattle.std.proofs.Common.{◌≡◌, ◌++◌, map, take, drop}
use Rattle.sheet.specs.Cells.{closed_cell}
use Rattle.sheet.proofs.table.close_cells.Given as goal

-- the cells before the index are closed, the others as they were
abbrev pub invariant-loop-cell : goal.invariant-loop-cell
invariant-loop-cell l = l.cell-items ≡ map closed_cell (take l.cell-index l.initial.cell-items) ++ drop l.cell-index l.initial.cell-items
