use Rattle.std.proofs.Common.{◌≡◌, ◌%◌}
use Rattle.sheet.specs.Closing.{fold_from, words_below}
use Rattle.sheet.specs.Tables.{standing_of}
use Rattle.sheet.proofs.closing.fold_words.Given as goal

-- the total stands for the fold over the cells before the index
abbrev pub invariant-loop-cell : goal.invariant-loop-cell
invariant-loop-cell g l =
    g.S.System.remainder l.total ≡ fold_from l.weight 0 (words_below (standing_of l.table) l.cell-index) % g.S.System.modulus
