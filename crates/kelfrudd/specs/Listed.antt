-- A list of rows, put on a sheet one after the other.
use Rattle.std.specs.Prelude.{ℕ, zero, suc, List, [], Ok, Err, Result, slice_index_or}
use Rattle.sheet.specs.Calls.{Model, cells_of, opened, close_after}
use Rattle.sheet.specs.Closing.{closing_number}
use Rattle.kelfrudd.specs.Rows.{row_of, row_at, taken_reply, taken_after}
use Rattle.kelfrudd.specs.declared.listed.Stop.{Stop}
use Rattle.kelfrudd.specs.declared.refusal.Refusal.{Refusal}
use Rattle.kelfrudd.specs.declared.row.Row.{Row}

-- how many rows passed before, and the refusal of the next
abbrev pub stop_for : ℕ → Refusal → Stop
stop_for n r = record { passed = n; refusal = r }

abbrev pub unless_refused : ℕ → Result ℕ Refusal → Model → Result Model Stop
unless_refused n (Ok cell) m = Ok m
unless_refused n (Err r) m = Err (stop_for n r)

-- the sheet after the row with this number, or why the list stops there or stopped before
abbrev pub next_row : Result Model Stop → ℕ → Result Row Refusal → Result Model Stop
next_row (Ok m) n row = unless_refused n (taken_reply m row) (taken_after m row)
next_row (Err stop) n row = Err stop

-- the sheet after so many rows, each found by its number, or why the list was stopped before
unfoldable pub ran_by : ℕ → ℕ → (ℕ → Result Row Refusal) → ℕ → Result Model Stop
ran_by serial weight row zero = Ok (opened serial weight)
ran_by serial weight row (suc n) = next_row (ran_by serial weight row n) n (row n)

-- the rows one after the other in a list of numbers, ten to each
abbrev pub ran_to : ℕ → ℕ → List ℕ → ℕ → Result Model Stop
ran_to serial weight xs n = ran_by serial weight (row_at xs) n

-- the rows apart
abbrev pub ran_over : ℕ → ℕ → List (List ℕ) → ℕ → Result Model Stop
ran_over serial weight rows n = ran_by serial weight (λ k. row_of (slice_index_or rows k [])) n

-- a list that was taken to its end gives the closing number of its sheet
abbrev pub concluded : ℕ → Result Model Stop → Result ℕ Stop
concluded modulus (Ok m) = Ok (closing_number modulus m.weight (cells_of (close_after m)))
concluded modulus (Err stop) = Err stop
