-- That the law speaks of something: a step with the writer's word and hints passes, as the first on a newly opened sheet.
use Rattle.std.specs.Prelude.{◌≡◌, ℕ, [], ◌∷◌, Ok}
use Rattle.binary32.specs.Operations.{code_of}
use Rattle.binary32.specs.declared.operation.Operation.{Operation}
use Rattle.binary32.specs.declared.word.Word.{Word}
use Rattle.hints.specs.Writer.{written_step}
use Rattle.hints.specs.declared.writer.Written.{Written}
use Rattle.sheet.specs.declared.ticket.Stub.{Stub}
use Rattle.runs.specs.Histories.{Claim, History, on_open, close, on_closed, accepted, status_of}
use Rattle.runs.specs.Sheets.{Reached, Sheet}
use Rattle.runs.specs.declared.answer.ClosedAnswer.TheVariants as ClosedAnswers
use Rattle.runs.specs.declared.answer.OpenAnswer.TheVariants as answer
use Rattle.runs.specs.declared.call.ClosedCall.TheVariants as ClosedCalls
use Rattle.runs.specs.declared.call.OpenCall.TheVariants as call

abbrev pub third : ℕ → Stub
third serial = record { serial = serial; cell = 2 }

-- two words are put in, a claim about them is entered and settled, and none of these calls is refused
abbrev pub passing : ℕ → Operation → Word → Word → Written → History
passing serial op a b w =
    on_open (call.Settle (third serial) w.hints) (answer.Settle (Ok 2))
    ∷ on_open (call.Enter (code_of op) 0 1 w.word) (answer.Enter (Ok (third serial)))
    ∷ on_open (call.Input b) (answer.Input (Ok 1))
    ∷ on_open (call.Input a) (answer.Input (Ok 0))
    ∷ []

abbrev pub claim_in : ℕ → Operation → Written → Claim
claim_in serial op w = record { serial = serial; code = code_of op; first = 0; second = 1; word = w.word }

-- then the step is read on the open sheet, and after the close on the closed one
abbrev pub shown : ℕ → Operation → Word → Word → Written → History
shown serial op a b w =
    on_closed (ClosedCalls.Read 2) (ClosedAnswers.Read (Ok w.word))
    ∷ close
    ∷ on_open (call.Read 2) (answer.Read (Ok w.word))
    ∷ passing serial op a b w

-- With what the writer gives for any operation on any words, a sheet can meet that history, in which the settle meets a pending claim
-- and both reads an accepted step: so every premise of the law is met.
abbrev pub Honest : Type 0
Honest = (serial weight modulus : ℕ) (op : Operation) (a b : Word) →
    ((s : Sheet) × Reached serial weight modulus (shown serial op a b (written_step op a.bits b.bits)) s)
    × (status_of (passing serial op a b (written_step op a.bits b.bits)) 2 ≡ accepted (claim_in serial op (written_step op a.bits b.bits)))
