-- The answers to a list of calls, one after another, by the equations of the calls.
use Rattle.std.specs.Prelude.{ℕ, List, [], ◌∷◌, map, Some, None, Option}
use Rattle.sheet.specs.Calls.{Model, cells_of, close_after}
use Rattle.runs.specs.Replies.{open_reply, closed_reply}
use Rattle.runs.specs.Sheets.{open_after}
use Rattle.runs.specs.declared.answer.ClosedAnswer.{ClosedAnswer}
use Rattle.runs.specs.declared.answer.OpenAnswer.{OpenAnswer}
use Rattle.runs.specs.declared.call.ClosedCall.{ClosedCall}
use Rattle.runs.specs.declared.call.OpenCall.{OpenCall}

-- the answers to calls, one after another, where each call has a reply and an effect
abbrev pub replies : {C A : Type 0} → (Model → C → A) → (Model → C → Model) → Model → List C → List A
replies reply after m [] = []
replies reply after m (c ∷ cs) = reply m c ∷ replies reply after (after m c) cs

abbrev pub after_each : {C : Type 0} → (Model → C → Model) → Model → List C → Model
after_each after m [] = m
after_each after m (c ∷ cs) = after_each after (after m c) cs

abbrev pub answers_from : Model → List OpenCall → List OpenAnswer
answers_from m cs = replies (λ k c. open_reply k.serial (cells_of k) c) open_after m cs

abbrev pub after_all : Model → List OpenCall → Model
after_all m cs = after_each open_after m cs

-- nothing alters a closed sheet
abbrev pub closed_answers : ℕ → Model → List ClosedCall → List ClosedAnswer
closed_answers modulus m cs = map (closed_reply modulus m.weight (cells_of m)) cs

-- the answers after the close, if the sheet is closed
abbrev pub later_answers : ℕ → Model → Option (List ClosedCall) → List ClosedAnswer
later_answers modulus m None = []
later_answers modulus m (Some cs) = closed_answers modulus (close_after m) cs
