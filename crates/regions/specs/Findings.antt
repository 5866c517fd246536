-- What the answers of two sheets to the calls of a request say.
use Rattle.std.specs.Prelude.{◌≡◌, ℕ, ◌+◌, Bool, cond, List, [], ◌∷◌, Some, None, Ok, Err, vec_items, Option, Result, ◌==◌, slice_index_or}
use Rattle.binary32.specs.declared.word.Word.{Word}
use Rattle.runs.specs.declared.answer.OpenAnswer.{OpenAnswer}
use Rattle.runs.specs.declared.answer.OpenAnswer.TheVariants.{Input, Enter, Settle, Strike, Read}
use Rattle.runs.specs.declared.answer.ClosedAnswer.{ClosedAnswer}
use Rattle.runs.specs.declared.answer.ClosedAnswer.TheVariants as closed
use Rattle.runs.specs.declared.run.Replayed.{Replayed}
use Rattle.sheet.specs.declared.refusal.Operand.TheVariants.{First}
use Rattle.sheet.specs.declared.refusal.Refusal.{Refusal}
use Rattle.sheet.specs.declared.refusal.Refusal.TheVariants.{NotTaken}
use Rattle.sheet.specs.declared.ticket.Stub.{Stub}
use Rattle.regions.specs.Claims.{claims_of}
use Rattle.regions.specs.declared.claims.Claim.{Claim}
use Rattle.regions.specs.declared.findings.Outcome.{Outcome}
use Rattle.regions.specs.declared.findings.Outcome.TheVariants.{Accepted, Refused, Unanswered}
use Rattle.regions.specs.declared.findings.Report.{Report}
use Rattle.regions.specs.declared.findings.Step.{Step}
use Rattle.regions.specs.declared.findings.Verdict.{Verdict}
use Rattle.regions.specs.declared.findings.Verdict.TheVariants.{Inside, Outside, NotShown}
use Rattle.regions.specs.declared.reading.Request.{Request}

-- the answer at a place, and past the last one what a read of a cell that is not taken gets
abbrev pub answer_at : List OpenAnswer → ℕ → OpenAnswer
answer_at answers at = slice_index_or answers at (Read (Err (NotTaken First)))

abbrev pub settled_as : Result ℕ Refusal → Outcome
settled_as (Ok cell) = Accepted
settled_as (Err refusal) = Refused refusal

abbrev pub once_settled : OpenAnswer → Outcome
once_settled (Input reply) = Unanswered
once_settled (Enter reply) = Unanswered
once_settled (Settle reply) = settled_as reply
once_settled (Strike reply) = Unanswered
once_settled (Read reply) = Unanswered

abbrev pub once_entered : Result Stub Refusal → OpenAnswer → Outcome
once_entered (Ok ticket) settled = once_settled settled
once_entered (Err refusal) settled = Refused refusal

-- a claim is accepted where both calls are granted, and else refused by the first that is not
abbrev pub became_by : OpenAnswer → OpenAnswer → Outcome
became_by (Input reply) settled = Unanswered
became_by (Enter reply) settled = once_entered reply settled
became_by (Settle reply) settled = Unanswered
became_by (Strike reply) settled = Unanswered
became_by (Read reply) settled = Unanswered

abbrev pub outcome_from : List OpenAnswer → ℕ → Outcome
outcome_from answers at = became_by (answer_at answers at) (answer_at answers (at + 1))

-- a claim with its outcome
abbrev pub step_by : List OpenAnswer → ℕ → Claim → Step
step_by answers at c = record { claim = c; outcome = outcome_from answers at }

-- two answers for each claim, from a place on
abbrev pub steps_from : List OpenAnswer → ℕ → List Claim → List Step
steps_from answers at [] = []
steps_from answers at (c ∷ cs) = step_by answers at c ∷ steps_from answers (at + 2) cs

-- the word of the comparison is 1 for yes
abbrev pub verdict_by : Result Word Refusal → Verdict
verdict_by (Ok word) = cond (word.bits == 0x3f800000) Inside Outside
verdict_by (Err refusal) = NotShown

abbrev pub verdict_on : OpenAnswer → Verdict
verdict_on (Input reply) = NotShown
verdict_on (Enter reply) = NotShown
verdict_on (Settle reply) = NotShown
verdict_on (Strike reply) = NotShown
verdict_on (Read reply) = verdict_by reply

abbrev pub number_in : ClosedAnswer → Option ℕ
number_in (closed.Read reply) = None
number_in (closed.ClosingNumber number) = Some number
number_in (closed.HandIn stub) = None

-- the closing number, where it is the one answer of the closed sheet
abbrev pub closing_of : List ClosedAnswer → Option ℕ
closing_of [] = None
closing_of (answer ∷ []) = number_in answer
closing_of (answer ∷ another ∷ answers) = None

-- the open sheets gave the same answers
abbrev pub Agreed : Replayed → Type 0
Agreed r = vec_items r.first.opened ≡ vec_items r.second.opened

-- the answers to five inputs come first; outcomes and verdict are by the answers of the first sheet
abbrev pub report_of : Request → Replayed → Bool → Report
report_of q r agree = record {
  request = q;
  steps = steps_from (vec_items r.first.opened) 5 (claims_of q);
  agree = agree;
  verdict = verdict_on (answer_at (vec_items r.first.opened) 19);
  closings = closing_of (vec_items r.first.closed) ∷ closing_of (vec_items r.second.closed) ∷ [];
}
