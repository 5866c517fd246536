-- What settling means: an accepted claim has the right word, and a refused one is struck or was never there.
use Rattle.std.specs.Prelude.{◌≡◌, ℕ, cond, Ok, Err, Result, nat_lt}
use Rattle.checks.specs.Examined.{claim_of}
use Rattle.hints.specs.Writer.{written_step}
use Rattle.hints.specs.declared.writer.Hints.{Hints}
use Rattle.sheet.specs.Calls.{Model, cells_of, presented, word_at, second_word, with_table}
use Rattle.sheet.specs.Refusals.{told_of}
use Rattle.sheet.specs.Tables.{Standing, with_state}
use Rattle.sheet.specs.declared.cell.State.{State}
use Rattle.sheet.specs.declared.cell.State.TheVariants.{Free, Input, Pending, Accepted, Struck}
use Rattle.sheet.specs.declared.refusal.Refusal.{Refusal}
use Rattle.sheet.specs.declared.ticket.Ticket.{Ticket}

-- a pending claim is accepted just where its word and its hints are what the writer gives for the words of its cells, and
-- nothing else is accepted
abbrev pub RightAt : Standing → ℕ → Hints → State → Result ℕ Refusal → Type 0
RightAt s cell hints Free reply = reply ≡ Ok cell → ⊥
RightAt s cell hints (Input word) reply = reply ≡ Ok cell → ⊥
RightAt s cell hints (Pending operation first second word) reply =
    (reply ≡ Ok cell → claim_of word hints ≡ written_step operation (word_at s first).bits (second_word s operation second).bits)
    × (claim_of word hints ≡ written_step operation (word_at s first).bits (second_word s operation second).bits → reply ≡ Ok cell)
RightAt s cell hints (Accepted word) reply = reply ≡ Ok cell → ⊥
RightAt s cell hints Struck reply = reply ≡ Ok cell → ⊥

abbrev pub Right : Model → Ticket → Hints → Result ℕ Refusal → Type 0
Right m ticket hints reply = RightAt (cells_of m) ticket.cell hints (presented m.serial (cells_of m) ticket) reply

-- a refusal with a number below 6 leaves the sheet as it was, one from 6 on strikes the cell
abbrev pub Refused : Model → Ticket → Result ℕ Refusal → Model → Type 0
Refused m ticket (Ok cell) after = Unit {0}
Refused m ticket (Err r) after = after ≡ cond (nat_lt (told_of r).number 6) m (with_table m (with_state m.table ticket.cell Struck))
