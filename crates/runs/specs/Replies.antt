-- The answers that the rules define, from the serial, the weight and how the cells stand.
use Rattle.std.specs.Prelude.{ℕ, Some, None, Ok, Err, Option, Result}
use Rattle.binary32.specs.Operations.{operation_of}
use Rattle.binary32.specs.declared.operation.Operation.{Operation}
use Rattle.sheet.specs.Calls.{input_reply, enter_reply, settle_reply, strike_reply, read_reply}
use Rattle.sheet.specs.Closing.{closing_number}
use Rattle.sheet.specs.Tables.{Standing}
use Rattle.sheet.specs.Tickets.{ticket_of}
use Rattle.sheet.specs.declared.cell.State.{State}
use Rattle.sheet.specs.declared.cell.State.TheVariants.{Free, Input, Pending, Accepted, Struck}
use Rattle.sheet.specs.declared.refusal.Refusal.{Refusal}
use Rattle.sheet.specs.declared.ticket.Stub.{Stub}
use Rattle.sheet.specs.declared.ticket.Ticket.{Ticket}
use Rattle.runs.specs.Histories.{Claim, History, Status, untaken, given, pending, accepted, struck, status_of, taken_in}
use Rattle.runs.specs.declared.answer.ClosedAnswer.{ClosedAnswer}
use Rattle.runs.specs.declared.answer.ClosedAnswer.TheVariants as ClosedAnswers
use Rattle.runs.specs.declared.answer.OpenAnswer.{OpenAnswer}
use Rattle.runs.specs.declared.answer.OpenAnswer.TheVariants as answer
use Rattle.runs.specs.declared.call.ClosedCall.{ClosedCall}
use Rattle.runs.specs.declared.call.ClosedCall.TheVariants as ClosedCalls
use Rattle.runs.specs.declared.call.OpenCall.{OpenCall}
use Rattle.runs.specs.declared.call.OpenCall.TheVariants as call

-- a claim's operation is that of its code; enter answers no other code with a ticket
abbrev pub pending_state : Option Operation → Claim → State
pending_state None c = Free
pending_state (Some operation) c = Pending operation c.first c.second c.word

abbrev pub state_of : Status → State
state_of untaken = Free
state_of (given word) = Input word
state_of (pending c) = pending_state (operation_of c.code) c
state_of (accepted c) = Accepted c.word
state_of struck = Struck

-- how the cells stand after a history
abbrev pub standing : History → Standing
standing h = record { taken = taken_in h; state = λ n. state_of (status_of h n) }

abbrev pub stubbed : Result Ticket Refusal → Result Stub Refusal
stubbed (Ok ticket) = Ok (record { serial = ticket.serial; cell = ticket.cell })
stubbed (Err r) = Err r

-- both equations of a settled claim are those of whole numbers
abbrev pub open_reply : ℕ → Standing → OpenCall → OpenAnswer
open_reply serial s (call.Input word) = answer.Input (input_reply s)
open_reply serial s (call.Enter code first second word) = answer.Enter (stubbed (enter_reply serial s code first second))
open_reply serial s (call.Settle ticket hints) = answer.Settle (settle_reply serial s (ticket_of ticket) hints)
open_reply serial s (call.Strike ticket) = answer.Strike (strike_reply serial s (ticket_of ticket))
open_reply serial s (call.Read cell) = answer.Read (read_reply s cell)

-- only the closing number depends on the system, by its modulus
abbrev pub closed_reply : ℕ → ℕ → Standing → ClosedCall → ClosedAnswer
closed_reply modulus weight s (ClosedCalls.Read cell) = ClosedAnswers.Read (read_reply s cell)
closed_reply modulus weight s ClosedCalls.ClosingNumber = ClosedAnswers.ClosingNumber (closing_number modulus weight s)
closed_reply modulus weight s (ClosedCalls.HandIn ticket) = ClosedAnswers.HandIn ticket
