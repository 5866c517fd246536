-- What the checks find in a pending claim, and what it says of the reply.
use Rattle.std.proofs.Common.{◌≡◌, ℕ, Ok, Err, Result, sym, refl, ap, subst}
use Rattle.binary32.specs.declared.operation.Operation.{Operation}
use Rattle.binary32.specs.declared.word.Word.{Word}
use Rattle.checks.proofs.Settled.{examined_sound}
use Rattle.checks.specs.Examined.{Outcome, Sound, claim_of}
use Rattle.hints.specs.declared.writer.Hints.{Hints}
use Rattle.sheet.specs.Calls.{Model, answer_of, cells_of, found, presented, second_word, settle_after, settle_after_at, settle_reply, settle_reply_at, with_table, word_at}
use Rattle.sheet.specs.Right.{Refused, Right, RightAt}
use Rattle.sheet.specs.Cells.{settled_state}
use Rattle.sheet.specs.Tables.{Standing, with_state}
use Rattle.checks.specs.declared.flaw.Flaw.TheVariants as flaw
use Rattle.sheet.specs.declared.cell.State.{State}
use Rattle.sheet.specs.declared.cell.State.TheVariants.{Free, Input, Pending, Accepted, Struck}
use Rattle.sheet.specs.declared.refusal.Refusal.{Refusal}
use Rattle.sheet.specs.declared.refusal.Refusal.TheVariants as refusal
use Rattle.sheet.specs.declared.ticket.Ticket.{Ticket}

pub found_sound : (s : Standing) (operation : Operation) (first second : ℕ) (word : Word) (hints : Hints) →
    Sound (found s operation first second word hints) operation (word_at s first).bits (second_word s operation second).bits (claim_of word hints)
unfolding found
found_sound s operation first second word hints =
    examined_sound operation (word_at s first).bits (second_word s operation second).bits (claim_of word hints) (found s operation first second word hints) refl

passed : (cell : ℕ) (o : Outcome) → answer_of cell o ≡ Ok cell → o ≡ Ok tt
passed cell (Ok u) same = refl
passed cell (Err flaw) same = cc

refused : (cell : ℕ) (r : Refusal) → Err r ≡ Ok cell → ⊥
refused cell r same = cc

right_at : (s : Standing) (cell : ℕ) (hints : Hints) (x : State) → RightAt s cell hints x (settle_reply_at s cell hints x)
right_at s cell hints Free = refused cell refusal.BadTicket
right_at s cell hints (Input word) = refused cell refusal.BadTicket
right_at s cell hints (Pending operation first second word) =
    let sound = found_sound s operation first second word hints in
    (λ ok. sound.0 (passed cell (found s operation first second word hints) ok), λ same. ap (answer_of cell) (sound.1 same))
right_at s cell hints (Accepted word) = refused cell refusal.BadTicket
right_at s cell hints Struck = refused cell refusal.BadTicket

pub right_reply : (m : Model) (ticket : Ticket) (hints : Hints) (r : Result ℕ Refusal) →
    r ≡ settle_reply m.serial (cells_of m) ticket hints → Right m ticket hints r
right_reply m ticket hints r is =
    subst (λ (x : Result ℕ Refusal). Right m ticket hints x) (sym is) (right_at (cells_of m) ticket.cell hints (presented m.serial (cells_of m) ticket))

struck_by : (m : Model) (ticket : Ticket) (word : Word) (o : Outcome) →
    Refused m ticket (answer_of ticket.cell o) (with_table m (with_state m.table ticket.cell (settled_state word o)))
struck_by m ticket word (Ok u) = tt
struck_by m ticket word (Err (flaw.Width hint)) = refl
struck_by m ticket word (Err flaw.FirstEquation) = refl
struck_by m ticket word (Err flaw.SecondEquation) = refl
struck_by m ticket word (Err flaw.Up) = refl
struck_by m ticket word (Err flaw.Word) = refl

refused_at : (m : Model) (ticket : Ticket) (hints : Hints) (x : State) →
    Refused m ticket (settle_reply_at (cells_of m) ticket.cell hints x) (with_table m (settle_after_at m.table ticket.cell hints x))
refused_at m ticket hints Free = refl
refused_at m ticket hints (Input word) = refl
refused_at m ticket hints (Pending operation first second word) = struck_by m ticket word (found (cells_of m) operation first second word hints)
refused_at m ticket hints (Accepted word) = refl
refused_at m ticket hints Struck = refl

pub refused_reply : (m after : Model) (ticket : Ticket) (hints : Hints) (r : Result ℕ Refusal) →
    r ≡ settle_reply m.serial (cells_of m) ticket hints → after ≡ settle_after m ticket hints → Refused m ticket r after
refused_reply m after ticket hints r is is_after =
    subst (λ (x : Result ℕ Refusal). Refused m ticket x after) (sym is)
    (subst (λ (n : Model). Refused m ticket (settle_reply m.serial (cells_of m) ticket hints) n) (sym is_after) (refused_at m ticket hints (presented m.serial (cells_of m) ticket)))
