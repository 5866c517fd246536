-- What a replay returns.
use Rattle.std.specs.Prelude.{◌≡◌, ℕ, List, [], ◌∷◌, map, length, IfOk, Some, None, vec_items, Option, Result}
use Rattle.std.specs.declared.alloc.AllocError.{AllocError}
use Rattle.runs.specs.Histories.{History, on_open, close, on_closed}
use Rattle.runs.specs.Honest.{Honest}
use Rattle.runs.specs.Law.{Law}
use Rattle.runs.specs.Rooms.{count_of}
use Rattle.runs.specs.Sheets.{Binding}
use Rattle.runs.specs.declared.answer.ClosedAnswer.{ClosedAnswer}
use Rattle.runs.specs.declared.answer.ClosedAnswer.TheVariants.{Read, ClosingNumber, HandIn}
use Rattle.runs.specs.declared.answer.OpenAnswer.{OpenAnswer}
use Rattle.runs.specs.declared.call.ClosedCall.{ClosedCall}
use Rattle.runs.specs.declared.call.OpenCall.{OpenCall}
use Rattle.runs.specs.declared.run.Answers.{Answers}
use Rattle.runs.specs.declared.run.Replayed.{Replayed}

-- a history and then these calls with these answers, each with its own
abbrev pub met : History → List OpenCall → List OpenAnswer → History
met h [] answers = h
met h (c ∷ cs) [] = h
met h (c ∷ cs) (a ∷ more) = met (on_open c a ∷ h) cs more

abbrev pub met_closed : History → List ClosedCall → List ClosedAnswer → History
met_closed h [] answers = h
met_closed h (c ∷ cs) [] = h
met_closed h (c ∷ cs) (a ∷ more) = met_closed (on_closed c a ∷ h) cs more

-- the calls on the open sheet, then perhaps the close and the calls on the closed one
abbrev pub history_of : List OpenCall → Option (List ClosedCall) → List OpenAnswer → List ClosedAnswer → History
history_of calls None answers later = met [] calls answers
history_of calls (Some closed) answers later = met_closed (close ∷ met [] calls answers) closed later

-- each call has its answer, and the history that they make obeys the law
pub record Obeys (serial weight modulus : ℕ) (calls : List OpenCall) (closed : Option (List ClosedCall)) (r : Answers) : Type 0 where
  pub each : length (vec_items r.opened) ≡ length calls
  pub each_closed : length (vec_items r.closed) ≡ count_of closed
  pub law : Law serial weight modulus (history_of calls closed (vec_items r.opened) (vec_items r.closed))

-- an answer but for the closing number
abbrev pub unnumbered : ClosedAnswer → ClosedAnswer
unnumbered (Read reply) = Read reply
unnumbered (ClosingNumber n) = ClosingNumber 0
unnumbered (HandIn ticket) = HandIn ticket

-- the same answers, closing numbers apart
pub record Alike (r s : Answers) : Type 0 where
  pub opened : vec_items r.opened ≡ vec_items s.opened
  pub closed : map unnumbered (vec_items r.closed) ≡ map unnumbered (vec_items s.closed)

-- The law of runs, of a replay over two systems with these moduli: the answers of both sheets obey the law, they are the same but for
-- closing numbers, the law binds every sheet that meets calls, not this replay alone, and there are steps that it is about.
pub record LawOfRuns (serial weight modulus other : ℕ) (calls : List OpenCall) (closed : Option (List ClosedCall)) (r : Result Replayed AllocError) : Type 0 where
  pub first : IfOk r (λ x. Obeys serial weight modulus calls closed x.first)
  pub second : IfOk r (λ x. Obeys serial weight other calls closed x.second)
  pub alike : IfOk r (λ x. Alike x.first x.second)
  pub binding : Binding
  pub honest : Honest
