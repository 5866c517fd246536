-- The law of runs, over calls and answers alone.
use Rattle.std.specs.Prelude.{◌≡◌, ℕ, true, false, [], ◌∷◌, Some, Ok}
use Rattle.binary32.specs.Operations.{is_root, operation_of}
use Rattle.binary32.specs.declared.operation.Operation.{Operation}
use Rattle.binary32.specs.declared.word.Word.{Word}
use Rattle.checks.specs.Examined.{claim_of}
use Rattle.hints.specs.Writer.{written_step}
use Rattle.hints.specs.declared.writer.Hints.{Hints}
use Rattle.rounding.specs.Nearest.{result}
use Rattle.runs.specs.Histories.{Claim, Event, History, on_open, close, on_closed, pending, accepted, status_of, accepted_word, granted}
use Rattle.runs.specs.Replies.{standing, open_reply, closed_reply}
use Rattle.runs.specs.declared.answer.ClosedAnswer.TheVariants as ClosedAnswers
use Rattle.runs.specs.declared.answer.OpenAnswer.TheVariants as answer
use Rattle.runs.specs.declared.call.ClosedCall.TheVariants as ClosedCalls
use Rattle.runs.specs.declared.call.OpenCall.TheVariants as call

-- the operation of a claim, and the accepted words that it names; a root names its first cell only
pub record Names (h : History) (c : Claim) (op : Operation) (a b : Word) : Type 0 where
  pub operation : operation_of c.code ≡ Some op
  pub first : accepted_word (status_of h c.first) ≡ Some a
  pub second : is_root op ≡ false → accepted_word (status_of h c.second) ≡ Some b

-- the claim's word is the result of its operation on the accepted words that it names
pub record Holds (h : History) (c : Claim) : Type 0 where
  pub op : Operation
  pub a : Word
  pub b : Word
  pub names : Names h c op a b
  pub result_is : c.word.bits ≡ result op a.bits b.bits

-- `passes` just where the claim's word and the hints are the writer's for its operation on the words that it names
pub record Writers (h : History) (c : Claim) (hints : Hints) (passes : Type 0) : Type 0 where
  pub op : Operation
  pub a : Word
  pub b : Word
  pub names : Names h c op a b
  pub only : passes → claim_of c.word hints ≡ written_step op a.bits b.bits
  pub all : claim_of c.word hints ≡ written_step op a.bits b.bits → passes

-- a read of an accepted step, of an open sheet or a closed one, returns its word
abbrev pub Reads : History → Event → Type 0
Reads h (on_open (call.Input word) a) = Unit {0}
Reads h (on_open (call.Enter code first second word) a) = Unit {0}
Reads h (on_open (call.Settle ticket hints) a) = Unit {0}
Reads h (on_open (call.Strike ticket) a) = Unit {0}
Reads h (on_open (call.Read cell) a) = (c : Claim) → status_of h cell ≡ accepted c → a ≡ answer.Read (Ok c.word)
Reads h close = Unit {0}
Reads h (on_closed (ClosedCalls.Read cell) a) = (c : Claim) → status_of h cell ≡ accepted c → a ≡ ClosedAnswers.Read (Ok c.word)
Reads h (on_closed ClosedCalls.ClosingNumber a) = Unit {0}
Reads h (on_closed (ClosedCalls.HandIn ticket) a) = Unit {0}

-- a settle that meets a pending claim of its serial and cell is answered without a refusal exactly when the claim's word and the
-- hints are the writer's
abbrev pub Settles : History → Event → Type 0
Settles h (on_open (call.Input word) a) = Unit {0}
Settles h (on_open (call.Enter code first second word) a) = Unit {0}
Settles h (on_open (call.Settle ticket hints) a) =
    (c : Claim) → status_of h ticket.cell ≡ pending c → c.serial ≡ ticket.serial → Writers h c hints (granted a ≡ true)
Settles h (on_open (call.Strike ticket) a) = Unit {0}
Settles h (on_open (call.Read cell) a) = Unit {0}
Settles h close = Unit {0}
Settles h (on_closed c a) = Unit {0}

-- the answer is the one that the rules define from the opening and the earlier calls and answers
abbrev pub Answered : ℕ → ℕ → ℕ → History → Event → Type 0
Answered serial weight modulus h (on_open c a) = a ≡ open_reply serial (standing h) c
Answered serial weight modulus h close = Unit {0}
Answered serial weight modulus h (on_closed c a) = a ≡ closed_reply modulus weight (standing h) c

-- what holds of the last call
abbrev pub OfLast : (History → Event → Type 0) → History → Type 0
OfLast P [] = Unit {0}
OfLast P (e ∷ h) = P h e

-- what holds after a history
pub record Lawful (serial weight modulus : ℕ) (h : History) : Type 0 where
  pub holds : (n : ℕ) (c : Claim) → status_of h n ≡ accepted c → Holds h c
  pub reads : OfLast Reads h
  pub settles : OfLast Settles h
  pub answered : OfLast (Answered serial weight modulus) h

-- what holds after a history and after every prefix of it
abbrev pub EveryPrefix : (History → Type 0) → History → Type 0
EveryPrefix P [] = P []
EveryPrefix P (e ∷ h) = P (e ∷ h) × EveryPrefix P h

-- The law of a sheet that was opened with a serial and a weight over a system with a modulus.
abbrev pub Law : ℕ → ℕ → ℕ → History → Type 0
Law serial weight modulus h = EveryPrefix (Lawful serial weight modulus) h
