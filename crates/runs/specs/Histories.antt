-- A history: the calls that a sheet met, each with its answer, the newest first. How each cell stands follows from these alone.
use Rattle.std.specs.Prelude.{ℕ, ◌+◌, Bool, false, cond, List, [], ◌∷◌, is_some, is_ok, Some, None, Ok, Err, Option, ◌==◌}
use Rattle.binary32.specs.declared.word.Word.{Word}
use Rattle.sheet.specs.declared.ticket.Stub.{Stub}
use Rattle.runs.specs.declared.answer.ClosedAnswer.{ClosedAnswer}
use Rattle.runs.specs.declared.answer.OpenAnswer.{OpenAnswer}
use Rattle.runs.specs.declared.answer.OpenAnswer.TheVariants as answer
use Rattle.runs.specs.declared.call.ClosedCall.{ClosedCall}
use Rattle.runs.specs.declared.call.OpenCall.{OpenCall}
use Rattle.runs.specs.declared.call.OpenCall.TheVariants as call

-- a call on an open sheet with its answer, the close, or a call on a closed sheet with its answer
pub data Event : Type 0 where
  on_open : OpenCall → OpenAnswer → Event
  close : Event
  on_closed : ClosedCall → ClosedAnswer → Event

abbrev pub History : Type 0
History = List Event

-- A claim is an enter that was answered with a ticket. It has the ticket's serial, and the code, the cells and the word that were
-- entered.
pub record Claim : Type 0 where
  pub serial : ℕ
  pub code : ℕ
  pub first : ℕ
  pub second : ℕ
  pub word : Word

-- how a cell stands
pub data Status : Type 0 where
  untaken : Status
  given : Word → Status
  pending : Claim → Status
  accepted : Claim → Status
  struck : Status

-- the cell that an answered input takes
abbrev pub cell_in : OpenAnswer → Option ℕ
cell_in (answer.Input (Ok cell)) = Some cell
cell_in (answer.Input (Err r)) = None
cell_in (answer.Enter reply) = None
cell_in (answer.Settle reply) = None
cell_in (answer.Strike reply) = None
cell_in (answer.Read reply) = None

-- the ticket of an answered enter
abbrev pub ticket_in : OpenAnswer → Option Stub
ticket_in (answer.Input reply) = None
ticket_in (answer.Enter (Ok ticket)) = Some ticket
ticket_in (answer.Enter (Err r)) = None
ticket_in (answer.Settle reply) = None
ticket_in (answer.Strike reply) = None
ticket_in (answer.Read reply) = None

-- a settle answered without a refusal
abbrev pub granted : OpenAnswer → Bool
granted (answer.Input reply) = false
granted (answer.Enter reply) = false
granted (answer.Settle reply) = is_ok reply
granted (answer.Strike reply) = false
granted (answer.Read reply) = false

abbrev pub given_at : Option ℕ → Word → ℕ → Status → Status
given_at None word n s = s
given_at (Some cell) word n s = cond (n == cell) (given word) s

abbrev pub pending_at : Option Stub → ℕ → ℕ → ℕ → Word → ℕ → Status → Status
pending_at None code first second word n s = s
pending_at (Some t) code first second word n s =
    cond (n == t.cell) (pending (record { serial = t.serial; code = code; first = first; second = second; word = word })) s

-- A claim is pending until the next settle or strike of a ticket with its serial and cell. Then it is accepted if that was a
-- settle answered without a refusal, and struck otherwise.
abbrev pub decided : ℕ → Bool → Status → Status
decided serial passes untaken = untaken
decided serial passes (given word) = given word
decided serial passes (pending c) = cond (c.serial == serial) (cond passes (accepted c) struck) (pending c)
decided serial passes (accepted c) = accepted c
decided serial passes struck = struck

-- it is also pending no longer than until the close, which strikes it
abbrev pub closed_up : Status → Status
closed_up untaken = untaken
closed_up (given word) = given word
closed_up (pending c) = struck
closed_up (accepted c) = accepted c
closed_up struck = struck

-- what one call with its answer makes of the cell with the number n
abbrev pub becomes : Event → ℕ → Status → Status
becomes (on_open (call.Input word) a) n s = given_at (cell_in a) word n s
becomes (on_open (call.Enter code first second word) a) n s = pending_at (ticket_in a) code first second word n s
becomes (on_open (call.Settle ticket hints) a) n s = cond (n == ticket.cell) (decided ticket.serial (granted a) s) s
becomes (on_open (call.Strike ticket) a) n s = cond (n == ticket.cell) (decided ticket.serial false s) s
becomes (on_open (call.Read cell) a) n s = s
becomes close n s = closed_up s
becomes (on_closed c a) n s = s

-- how the cell with the number n stands after a history
abbrev pub status_of : History → ℕ → Status
status_of [] n = untaken
status_of (e ∷ h) n = becomes e n (status_of h n)

-- how many cells one call takes
abbrev pub takes : Event → ℕ
takes (on_open (call.Input word) a) = cond (is_some (cell_in a)) 1 0
takes (on_open (call.Enter code first second word) a) = cond (is_some (ticket_in a)) 1 0
takes (on_open (call.Settle ticket hints) a) = 0
takes (on_open (call.Strike ticket) a) = 0
takes (on_open (call.Read cell) a) = 0
takes close = 0
takes (on_closed c a) = 0

abbrev pub taken_in : History → ℕ
taken_in [] = 0
taken_in (e ∷ h) = taken_in h + takes e

-- the word of an accepted cell, an input's among them
abbrev pub accepted_word : Status → Option Word
accepted_word untaken = None
accepted_word (given word) = Some word
accepted_word (pending c) = None
accepted_word (accepted c) = Some c.word
accepted_word struck = None
