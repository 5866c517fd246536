-- What is known of the cells is known after one call more, and the law holds of that call.
use Rattle.std.proofs.Common.{◌≡◌, ℕ, ◌+◌, ◌≤◌, Bool, true, false, cond, eqb, ◌∷◌, Some, Ok, Err, Result, sym, ap, ◌∙◌, subst, arith}
use Rattle.std.proofs.lemmas.Bool.{cond_both, eqb-true}
use Rattle.binary32.specs.declared.operation.Operation.{Operation}
use Rattle.binary32.specs.declared.word.Word.{Word}
use Rattle.sheet.specs.Calls.{allowed, ticket_for}
use Rattle.sheet.specs.Cells.{word_in}
use Rattle.sheet.specs.Tables.{has_room}
use Rattle.sheet.specs.declared.refusal.Refusal.{Refusal}
use Rattle.sheet.specs.declared.refusal.Refusal.TheVariants as refusal
use Rattle.runs.proofs.Moves.{Kept, Move, Waits, moves, same, given_now, pending_now, accepted_now, struck_now, writers}
use Rattle.runs.specs.Histories.{Claim, Event, History, Status, on_open, close, on_closed, untaken, given, pending, accepted, accepted_word, cell_in, closed_up, decided, given_at, granted, pending_at, status_of, taken_in, takes, ticket_in}
use Rattle.runs.specs.Law.{Answered, Holds, Lawful, Names, Reads, Settles, Writers}
use Rattle.runs.specs.Replies.{standing, state_of, stubbed}
use Rattle.runs.specs.declared.answer.ClosedAnswer.TheVariants as ClosedAnswers
use Rattle.runs.specs.declared.answer.OpenAnswer.TheVariants as answer
use Rattle.runs.specs.declared.call.ClosedCall.TheVariants as ClosedCalls
use Rattle.runs.specs.declared.call.OpenCall.TheVariants as call

-- accepted cells stay as they are
accepted_stays : (serial : ℕ) (h : History) (s r : Status) (w : Word) → Move serial h s r → accepted_word s ≡ Some w → accepted_word r ≡ Some w
accepted_stays serial h s r w (same as_was) is = ap accepted_word as_was ∙ is
accepted_stays serial h s r w (given_now v was now) is = cc
accepted_stays serial h s r w (pending_now c was now waits) is = cc
accepted_stays serial h s r w (accepted_now c was now holds) is = cc
accepted_stays serial h s r w (struck_now c was now) is = cc

-- a cell that is pending was so, or was entered just now
waits_since : (serial : ℕ) (h : History) (s r : Status) → Move serial h s r → ((c : Claim) → s ≡ pending c → Waits serial h c) →
    (c : Claim) → r ≡ pending c → Waits serial h c
waits_since serial h s r (same as_was) before c is = before c (sym as_was ∙ is)
waits_since serial h s r (given_now v was now) before c is = cc
waits_since serial h s r (pending_now d was now waits) before c is = let e : d ≡ c = cc in subst (Waits serial h) e waits
waits_since serial h s r (accepted_now d was now holds) before c is = cc
waits_since serial h s r (struck_now d was now) before c is = cc

holds_since : (serial : ℕ) (h : History) (s r : Status) → Move serial h s r → ((c : Claim) → s ≡ accepted c → Holds h c) →
    (c : Claim) → r ≡ accepted c → Holds h c
holds_since serial h s r (same as_was) before c is = before c (sym as_was ∙ is)
holds_since serial h s r (given_now v was now) before c is = cc
holds_since serial h s r (pending_now d was now waits) before c is = cc
holds_since serial h s r (accepted_now d was now holds) before c is = let e : d ≡ c = cc in subst (Holds h) e holds
holds_since serial h s r (struck_now d was now) before c is = cc

module _ (serial : ℕ) (h : History) (kept : Kept serial h) where
  -- cells beyond those that are taken stay untaken
  fresh_input : (word : Word) (n : ℕ) (room : Bool) →
      taken_in h + takes (on_open (call.Input word) (answer.Input (cond room (Ok (taken_in h)) (Err refusal.Full)))) ≤ n →
      given_at (cell_in (answer.Input (cond room (Ok (taken_in h)) (Err refusal.Full)))) word n (status_of h n) ≡ untaken
  fresh_input word n true beyond =
      cond_both (eqb n (taken_in h)) (given word) (status_of h n) (λ s. s ≡ untaken)
      (λ here. absurd (omega (arith, eqb-true n (taken_in h) here))) (λ elsewhere. kept.fresh n (omega arith))
  fresh_input word n false beyond = kept.fresh n (omega arith)

  fresh_enter : (code first second : ℕ) (word : Word) (n : ℕ) (reply : Result Operation Refusal) →
      taken_in h + takes (on_open (call.Enter code first second word) (answer.Enter (stubbed (ticket_for serial (taken_in h) reply)))) ≤ n →
      pending_at (ticket_in (answer.Enter (stubbed (ticket_for serial (taken_in h) reply)))) code first second word n (status_of h n) ≡ untaken
  fresh_enter code first second word n (Ok op) beyond =
      cond_both (eqb n (taken_in h)) (pending (record { serial = serial; code = code; first = first; second = second; word = word })) (status_of h n) (λ s. s ≡ untaken)
      (λ here. absurd (omega (arith, eqb-true n (taken_in h) here))) (λ elsewhere. kept.fresh n (omega arith))
  fresh_enter code first second word n (Err r) beyond = kept.fresh n (omega arith)

  fresh_decided : (cell ticket : ℕ) (passes : Bool) (n : ℕ) → status_of h n ≡ untaken →
      cond (eqb n cell) (decided ticket passes (status_of h n)) (status_of h n) ≡ untaken
  fresh_decided cell ticket passes n is =
      cond_both (eqb n cell) (decided ticket passes (status_of h n)) (status_of h n) (λ s. s ≡ untaken)
      (λ here. ap (decided ticket passes) is) (λ elsewhere. is)

  fresh_more : (weight modulus : ℕ) (e : Event) → Answered serial weight modulus h e → (n : ℕ) → taken_in (e ∷ h) ≤ n → status_of (e ∷ h) n ≡ untaken
  fresh_more weight modulus (on_open (call.Input word) a) is n =
      subst (λ x. taken_in h + takes (on_open (call.Input word) x) ≤ n → given_at (cell_in x) word n (status_of h n) ≡ untaken) (sym is)
      (fresh_input word n (has_room (standing h)))
  fresh_more weight modulus (on_open (call.Enter code first second word) a) is n =
      subst (λ x. taken_in h + takes (on_open (call.Enter code first second word) x) ≤ n → pending_at (ticket_in x) code first second word n (status_of h n) ≡ untaken) (sym is)
      (fresh_enter code first second word n (allowed (standing h) code first second))
  fresh_more weight modulus (on_open (call.Settle t hints) a) is n = λ beyond. fresh_decided t.cell t.serial (granted a) n (kept.fresh n (omega arith))
  fresh_more weight modulus (on_open (call.Strike t) a) is n = λ beyond. fresh_decided t.cell t.serial false n (kept.fresh n (omega arith))
  fresh_more weight modulus (on_open (call.Read cell) a) is n = λ beyond. kept.fresh n (omega arith)
  fresh_more weight modulus close is n = λ beyond. ap closed_up (kept.fresh n (omega arith))
  fresh_more weight modulus (on_closed c a) is n = λ beyond. kept.fresh n (omega arith)

  module _ (e : Event) (goes : (n : ℕ) → Move serial h (status_of h n) (status_of (e ∷ h) n)) where
    names_stay : (c : Claim) (op : Operation) (a b : Word) → Names h c op a b → Names (e ∷ h) c op a b
    names_stay c op a b names = record {
      operation = names.operation;
      first = accepted_stays serial h (status_of h c.first) (status_of (e ∷ h) c.first) a (goes c.first) names.first;
      second = λ not_root. accepted_stays serial h (status_of h c.second) (status_of (e ∷ h) c.second) b (goes c.second) (names.second not_root);
    }

    waits_stay : (c : Claim) → Waits serial h c → Waits serial (e ∷ h) c
    waits_stay c w = record { serial_is = w.serial_is; op = w.op; a = w.a; b = w.b; names = names_stay c w.op w.a w.b w.names }

    holds_stay : (c : Claim) → Holds h c → Holds (e ∷ h) c
    holds_stay c w = record { op = w.op; a = w.a; b = w.b; names = names_stay c w.op w.a w.b w.names; result_is = w.result_is }

  pub kept_more : (weight modulus : ℕ) (e : Event) → Answered serial weight modulus h e → Kept serial (e ∷ h)
  kept_more weight modulus e is =
      let goes = moves serial h kept weight modulus e is in
      record {
        fresh = fresh_more weight modulus e is;
        waits = λ n c now. waits_stay e goes c (waits_since serial h (status_of h n) (status_of (e ∷ h) n) (goes n) (kept.waits n) c now);
        holds = λ n c now. holds_stay e goes c (holds_since serial h (status_of h n) (status_of (e ∷ h) n) (goes n) (kept.holds n) c now);
      }

  -- a read of an accepted step returns its word
  reads_right : (weight modulus : ℕ) (e : Event) → Answered serial weight modulus h e → Reads h e
  reads_right weight modulus (on_open (call.Input word) a) is = tt
  reads_right weight modulus (on_open (call.Enter code first second word) a) is = tt
  reads_right weight modulus (on_open (call.Settle t hints) a) is = tt
  reads_right weight modulus (on_open (call.Strike t) a) is = tt
  reads_right weight modulus (on_open (call.Read cell) a) is = λ c met. is ∙ ap (λ s. answer.Read (word_in (state_of s))) met
  reads_right weight modulus close is = tt
  reads_right weight modulus (on_closed (ClosedCalls.Read cell) a) is = λ c met. is ∙ ap (λ s. ClosedAnswers.Read (word_in (state_of s))) met
  reads_right weight modulus (on_closed ClosedCalls.ClosingNumber a) is = tt
  reads_right weight modulus (on_closed (ClosedCalls.HandIn t) a) is = tt

  settles_right : (weight modulus : ℕ) (e : Event) → Answered serial weight modulus h e → Settles h e
  settles_right weight modulus (on_open (call.Input word) a) is = tt
  settles_right weight modulus (on_open (call.Enter code first second word) a) is = tt
  settles_right weight modulus (on_open (call.Settle t hints) a) is = λ c met own.
      subst (λ x. Writers h c hints (granted x ≡ true)) (sym is) (writers serial h kept t hints c met own)
  settles_right weight modulus (on_open (call.Strike t) a) is = tt
  settles_right weight modulus (on_open (call.Read cell) a) is = tt
  settles_right weight modulus close is = tt
  settles_right weight modulus (on_closed c a) is = tt

  pub lawful_more : (weight modulus : ℕ) (e : Event) → Answered serial weight modulus h e → Lawful serial weight modulus (e ∷ h)
  lawful_more weight modulus e is = record {
    holds = (kept_more weight modulus e is).holds;
    reads = reads_right weight modulus e is;
    settles = settles_right weight modulus e is;
    answered = is;
  }
