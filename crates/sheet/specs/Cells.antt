-- What a cell answers and becomes, by its state.
use Rattle.std.specs.Prelude.{Ok, Err, Result}
use Rattle.binary32.specs.declared.word.Word.{Word}
use Rattle.checks.specs.Examined.{Outcome}
use Rattle.sheet.specs.declared.cell.Cell.{Cell}
use Rattle.sheet.specs.declared.cell.State.{State}
use Rattle.sheet.specs.declared.cell.State.TheVariants.{Free, Input, Pending, Accepted, Struck}
use Rattle.sheet.specs.declared.refusal.Operand.{Operand}
use Rattle.sheet.specs.declared.refusal.Operand.TheVariants.{First}
use Rattle.sheet.specs.declared.refusal.Refusal.{Refusal}
use Rattle.sheet.specs.declared.refusal.Refusal.TheVariants as refusal

abbrev pub cell_of : State → Cell
cell_of s = record { state = s }

abbrev pub Checked : Type 0
Checked = Result (Unit {0}) Refusal

-- a check of an operand that passes leaves the question to the checks after it
abbrev pub before : Checked → Checked → Checked
before (Ok _) later = later
before (Err found) later = Err found

-- the cell of an operand has to be taken
abbrev pub taken_in : State → Operand → Checked
taken_in Free operand = Err (refusal.NotTaken operand)
taken_in (Input word) operand = Ok tt
taken_in (Pending operation first second word) operand = Ok tt
taken_in (Accepted word) operand = Ok tt
taken_in Struck operand = Ok tt

-- and neither pending nor struck
abbrev pub accepted_in : State → Operand → Checked
accepted_in Free operand = Ok tt
accepted_in (Input word) operand = Ok tt
accepted_in (Pending operation first second word) operand = Err (refusal.NotAccepted operand)
accepted_in (Accepted word) operand = Ok tt
accepted_in Struck operand = Err (refusal.NotAccepted operand)

-- what is read of a cell: an input counts as accepted
abbrev pub word_in : State → Result Word Refusal
word_in Free = Err (refusal.NotTaken First)
word_in (Input word) = Ok word
word_in (Pending operation first second word) = Err (refusal.NotAccepted First)
word_in (Accepted word) = Ok word
word_in Struck = Err (refusal.NotAccepted First)

-- the word of a cell that a claim names; such a cell was accepted when the claim was entered, and any other state gives zero, so
-- that settling rests on nothing that has to last
abbrev pub word_or_zero : State → Word
word_or_zero Free = record { bits = 0 }
word_or_zero (Input word) = word
word_or_zero (Pending operation first second word) = record { bits = 0 }
word_or_zero (Accepted word) = word
word_or_zero Struck = record { bits = 0 }

-- a claim whose checks all passed has its word, any other is struck
abbrev pub settled_state : Word → Outcome → State
settled_state word (Ok _) = Accepted word
settled_state word (Err flaw) = Struck

-- closing strikes what is pending
abbrev pub closed_state : State → State
closed_state Free = Free
closed_state (Input word) = Input word
closed_state (Pending operation first second word) = Struck
closed_state (Accepted word) = Accepted word
closed_state Struck = Struck

abbrev pub closed_cell : Cell → Cell
closed_cell c = cell_of (closed_state c.state)
