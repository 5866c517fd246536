-- The calls of a sheet: what each answers, and what the sheet is afterwards.
use Rattle.std.specs.Prelude.{ℕ, cond, Some, None, Ok, Err, Option, Result, ◌==◌}
use Rattle.binary32.specs.Operations.{is_root, operation_of}
use Rattle.binary32.specs.declared.operation.Operation.{Operation}
use Rattle.binary32.specs.declared.word.Word.{Word}
use Rattle.checks.specs.Examined.{Outcome, claim_of, examined}
use Rattle.hints.specs.declared.writer.Hints.{Hints}
use Rattle.sheet.specs.Cells.{Checked, word_in, word_or_zero, settled_state}
use Rattle.sheet.specs.Operands.{claim_checked}
use Rattle.sheet.specs.Tables.{Standing, empty_table, standing_of, with_state, has_room, grown, closed_table}
use Rattle.sheet.specs.declared.cell.State.{State}
use Rattle.sheet.specs.declared.cell.State.TheVariants.{Free, Input, Pending, Accepted, Struck}
use Rattle.sheet.specs.declared.refusal.Refusal.{Refusal}
use Rattle.sheet.specs.declared.refusal.Refusal.TheVariants as refusal
use Rattle.sheet.specs.declared.table.Table.{Table}
use Rattle.sheet.specs.declared.ticket.Ticket.{Ticket}

-- a sheet, open or closed, without the system that its claims are examined in
pub record Model : Type 0 where
  pub serial : ℕ
  pub weight : ℕ
  pub table : Table

abbrev pub cells_of : Model → Standing
cells_of m = standing_of m.table

abbrev pub with_table : Model → Table → Model
with_table m t = record { serial = m.serial; weight = m.weight; table = t }

-- open: no cell is taken

abbrev pub opened : ℕ → ℕ → Model
opened serial weight = record { serial = serial; weight = weight; table = empty_table }

-- input: the next cell, if there is one

abbrev pub input_reply : Standing → Result ℕ Refusal
input_reply s = cond (has_room s) (Ok s.taken) (Err refusal.Full)

abbrev pub input_after : Model → Word → Model
input_after m word = with_table m (cond (has_room (cells_of m)) (grown m.table (Input word)) m.table)

-- enter: that there is room, then the code, then the operand cells

abbrev pub allowed_if : Checked → Operation → Result Operation Refusal
allowed_if (Ok _) operation = Ok operation
allowed_if (Err found) operation = Err found

abbrev pub allowed_for : Standing → Option Operation → ℕ → ℕ → Result Operation Refusal
allowed_for s None first second = Err refusal.UnknownCode
allowed_for s (Some operation) first second = allowed_if (claim_checked operation (s.state first) (s.state second)) operation

abbrev pub allowed : Standing → ℕ → ℕ → ℕ → Result Operation Refusal
allowed s code first second = cond (has_room s) (allowed_for s (operation_of code) first second) (Err refusal.Full)

abbrev pub ticket_for : ℕ → ℕ → Result Operation Refusal → Result Ticket Refusal
ticket_for serial cell (Ok operation) = Ok (record { serial = serial; cell = cell })
ticket_for serial cell (Err found) = Err found

abbrev pub pending_for : Table → Result Operation Refusal → ℕ → ℕ → Word → Table
pending_for t (Ok operation) first second word = grown t (Pending operation first second word)
pending_for t (Err found) first second word = t

abbrev pub enter_reply : ℕ → Standing → ℕ → ℕ → ℕ → Result Ticket Refusal
enter_reply serial s code first second = ticket_for serial s.taken (allowed s code first second)

abbrev pub enter_after : Model → ℕ → ℕ → ℕ → Word → Model
enter_after m code first second word = with_table m (pending_for m.table (allowed (cells_of m) code first second) first second word)

-- the state of the cell that a ticket names; one of another serial than the sheet's names none

abbrev pub presented : ℕ → Standing → Ticket → State
presented serial s ticket = cond (ticket.serial == serial) (s.state ticket.cell) Free

-- settle: what the checks find decides, and they are put to a pending claim alone

-- the word of a cell that a claim names
abbrev pub word_at : Standing → ℕ → Word
word_at s n = word_or_zero (s.state n)

-- the second cell of a root is not read
abbrev pub second_word : Standing → Operation → ℕ → Word
second_word s operation n = cond (is_root operation) (record { bits = 0 }) (word_at s n)

-- a claim is examined with the words of the cells that it names
unfoldable pub found : Standing → Operation → ℕ → ℕ → Word → Hints → Outcome
found s operation first second word hints =
    examined operation (word_at s first).bits (second_word s operation second).bits (claim_of word hints)

abbrev pub answer_of : ℕ → Outcome → Result ℕ Refusal
answer_of cell (Ok _) = Ok cell
answer_of cell (Err found) = Err (refusal.Flawed cell found)

abbrev pub settle_reply_at : Standing → ℕ → Hints → State → Result ℕ Refusal
settle_reply_at s cell hints Free = Err refusal.BadTicket
settle_reply_at s cell hints (Input word) = Err refusal.BadTicket
settle_reply_at s cell hints (Pending operation first second word) = answer_of cell (found s operation first second word hints)
settle_reply_at s cell hints (Accepted word) = Err refusal.BadTicket
settle_reply_at s cell hints Struck = Err refusal.BadTicket

abbrev pub settle_after_at : Table → ℕ → Hints → State → Table
settle_after_at t cell hints Free = t
settle_after_at t cell hints (Input word) = t
settle_after_at t cell hints (Pending operation first second word) =
    with_state t cell (settled_state word (found (standing_of t) operation first second word hints))
settle_after_at t cell hints (Accepted word) = t
settle_after_at t cell hints Struck = t

abbrev pub settle_reply : ℕ → Standing → Ticket → Hints → Result ℕ Refusal
settle_reply serial s ticket hints = settle_reply_at s ticket.cell hints (presented serial s ticket)

abbrev pub settle_after : Model → Ticket → Hints → Model
settle_after m ticket hints = with_table m (settle_after_at m.table ticket.cell hints (presented m.serial (cells_of m) ticket))

-- strike: the cell of a pending claim

abbrev pub strike_reply_at : ℕ → State → Result ℕ Refusal
strike_reply_at cell Free = Err refusal.BadTicket
strike_reply_at cell (Input word) = Err refusal.BadTicket
strike_reply_at cell (Pending operation first second word) = Ok cell
strike_reply_at cell (Accepted word) = Err refusal.BadTicket
strike_reply_at cell Struck = Err refusal.BadTicket

abbrev pub strike_after_at : Table → ℕ → State → Table
strike_after_at t cell Free = t
strike_after_at t cell (Input word) = t
strike_after_at t cell (Pending operation first second word) = with_state t cell Struck
strike_after_at t cell (Accepted word) = t
strike_after_at t cell Struck = t

abbrev pub strike_reply : ℕ → Standing → Ticket → Result ℕ Refusal
strike_reply serial s ticket = strike_reply_at ticket.cell (presented serial s ticket)

abbrev pub strike_after : Model → Ticket → Model
strike_after m ticket = with_table m (strike_after_at m.table ticket.cell (presented m.serial (cells_of m) ticket))

-- read: the word of an accepted cell

abbrev pub read_reply : Standing → ℕ → Result Word Refusal
read_reply s cell = word_in (s.state cell)

-- close: what is pending is struck

abbrev pub close_after : Model → Model
close_after m = with_table m (closed_table m.table)
