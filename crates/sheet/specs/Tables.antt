-- The table of a sheet: its cells in order, and how many of them are taken.
use Rattle.std.specs.Prelude.{ℕ, ◌+◌, Bool, cond, map, replicate, nat_lt, slice_index_or, slice_set}
use Rattle.sheet.specs.Cells.{cell_of, closed_cell}
use Rattle.sheet.specs.declared.cell.State.{State}
use Rattle.sheet.specs.declared.cell.State.TheVariants.{Free}
use Rattle.sheet.specs.declared.table.Table.{Table}

-- 256 cells, and none of them taken
abbrev pub empty_table : Table
empty_table = record { cells = replicate 256 (cell_of Free); taken = 0 }

-- the state of the cell with this number; from 256 on a number is that of no taken cell
abbrev pub state_at : Table → ℕ → State
state_at t n = cond (nat_lt n 256) (slice_index_or t.cells n (cell_of Free)).state Free

abbrev pub with_state : Table → ℕ → State → Table
with_state t n s = record { cells = slice_set t.cells n (cell_of s); taken = t.taken }

-- how the cells of a sheet stand: how many are taken, and the state of the cell with each number
pub record Standing : Type 0 where
  pub taken : ℕ
  pub state : ℕ → State

abbrev pub standing_of : Table → Standing
standing_of t = record { taken = t.taken; state = state_at t }

-- a cell is left to take
abbrev pub has_room : Standing → Bool
has_room s = nat_lt s.taken 256

-- the next cell, taken with this state
abbrev pub grown : Table → State → Table
grown t s = record { cells = slice_set t.cells t.taken (cell_of s); taken = t.taken + 1 }

abbrev pub closed_table : Table → Table
closed_table t = record { cells = map closed_cell t.cells; taken = t.taken }
