-- What one call, answered by the rules, makes of each cell, told by the history alone.
use Rattle.std.proofs.Common.{◌≡◌, ℕ, ◌≤◌, Bool, true, false, cond, eqb, ◌∷◌, is_ok, Some, Ok, Err, Result, sym, refl, ap, ◌∙◌, subst, arith}
use Rattle.std.proofs.lemmas.Bool.{cond_both, cond-true, cond-false, eq-eqb, eqb-true, both_ways}
use Rattle.binary32.specs.Operations.{is_root, operation_of}
use Rattle.binary32.specs.declared.operation.Operation.{Operation}
use Rattle.binary32.specs.declared.word.Word.{Word}
use Rattle.hints.specs.declared.writer.Hints.{Hints}
use Rattle.sheet.proofs.Found.{found_sound}
use Rattle.sheet.specs.Calls.{allowed, answer_of, found, presented, second_word, settle_reply, settle_reply_at, ticket_for, word_at}
use Rattle.sheet.specs.Operands.{operand_checked, operands_checked}
use Rattle.sheet.specs.Tables.{has_room}
use Rattle.sheet.specs.Tickets.{ticket_of}
use Rattle.sheet.specs.declared.cell.State.TheVariants.{Free, Pending}
use Rattle.sheet.specs.declared.refusal.Refusal.{Refusal}
use Rattle.sheet.specs.declared.refusal.Refusal.TheVariants as refusal
use Rattle.sheet.specs.declared.ticket.Stub.{Stub}
use Rattle.runs.proofs.Statuses.{allowed_ok, both_checked, granted_passed, one_checked, passed_granted, word_of}
use Rattle.runs.specs.Histories.{Claim, Event, History, Status, on_open, close, on_closed, untaken, given, pending, accepted, struck, cell_in, closed_up, decided, given_at, granted, pending_at, status_of, taken_in, ticket_in}
use Rattle.runs.specs.Law.{Answered, Holds, Names, Writers}
use Rattle.runs.specs.Replies.{pending_state, standing, state_of, stubbed}
use Rattle.runs.specs.declared.answer.OpenAnswer.TheVariants as answer
use Rattle.runs.specs.declared.call.OpenCall.TheVariants as call

-- a pending claim has the sheet's serial, an operation, and accepted operands
pub record Waits (serial : ℕ) (h : History) (c : Claim) : Type 0 where
  pub serial_is : c.serial ≡ serial
  pub op : Operation
  pub a : Word
  pub b : Word
  pub names : Names h c op a b

-- what is known of the cells after a history
pub record Kept (serial : ℕ) (h : History) : Type 0 where
  pub fresh : (n : ℕ) → taken_in h ≤ n → status_of h n ≡ untaken
  pub waits : (n : ℕ) (c : Claim) → status_of h n ≡ pending c → Waits serial h c
  pub holds : (n : ℕ) (c : Claim) → status_of h n ≡ accepted c → Holds h c

-- how a cell may go on
pub data Move (serial : ℕ) (h : History) (s r : Status) : Type 0 where
  same : r ≡ s → Move serial h s r
  given_now : (w : Word) → s ≡ untaken → r ≡ given w → Move serial h s r
  pending_now : (c : Claim) → s ≡ untaken → r ≡ pending c → Waits serial h c → Move serial h s r
  accepted_now : (c : Claim) → s ≡ pending c → r ≡ accepted c → Holds h c → Move serial h s r
  struck_now : (c : Claim) → s ≡ pending c → r ≡ struck → Move serial h s r

module _ (serial : ℕ) (h : History) (kept : Kept serial h) where
  -- an answered input takes the next cell, which is untaken
  move_input : (word : Word) (n : ℕ) (room : Bool) →
      Move serial h (status_of h n) (given_at (cell_in (answer.Input (cond room (Ok (taken_in h)) (Err refusal.Full)))) word n (status_of h n))
  move_input word n false = same refl
  move_input word n true =
      cond_both (eqb n (taken_in h)) (given word) (status_of h n) (Move serial h (status_of h n))
      (λ here. given_now word (kept.fresh n (omega (arith, eqb-true n (taken_in h) here))) refl) (λ elsewhere. same refl)

  -- the operands of a claim that may be entered are accepted
  names_root : (op : Operation) (c : Claim) → operation_of c.code ≡ Some op → is_root op ≡ true →
      operand_checked (state_of (status_of h c.first)) ≡ Ok tt → Names h c op (word_at (standing h) c.first) (word_at (standing h) c.second)
  names_root op c operation root checked = record {
    operation = operation;
    first = one_checked (status_of h c.first) checked;
    second = λ not_root. absurd (both_ways (is_root op) not_root root);
  }

  names_two : (op : Operation) (c : Claim) → operation_of c.code ≡ Some op →
      operands_checked (state_of (status_of h c.first)) (state_of (status_of h c.second)) ≡ Ok tt →
      Names h c op (word_at (standing h) c.first) (word_at (standing h) c.second)
  names_two op c operation checked =
      let both = both_checked (status_of h c.first) (status_of h c.second) checked in
      record { operation = operation; first = both.0; second = λ not_root. both.1 }

  names_checked : (op : Operation) (c : Claim) → operation_of c.code ≡ Some op → (root : Bool) → is_root op ≡ root →
      cond root (operand_checked (state_of (status_of h c.first))) (operands_checked (state_of (status_of h c.first)) (state_of (status_of h c.second))) ≡ Ok tt →
      Names h c op (word_at (standing h) c.first) (word_at (standing h) c.second)
  names_checked op c operation true root checked = names_root op c operation root checked
  names_checked op c operation false root checked = names_two op c operation checked

  -- an answered enter takes the next cell for its claim
  move_enter : (code first second : ℕ) (word : Word) (n : ℕ) (reply : Result Operation Refusal) → allowed (standing h) code first second ≡ reply →
      Move serial h (status_of h n)
      (pending_at (ticket_in (answer.Enter (stubbed (ticket_for serial (taken_in h) reply)))) code first second word n (status_of h n))
  move_enter code first second word n (Err r) is = same refl
  move_enter code first second word n (Ok op) is =
      let c : Claim = record { serial = serial; code = code; first = first; second = second; word = word } in
      let may = allowed_ok (standing h) code first second op (has_room (standing h)) refl is in
      let names = names_checked op c may.operation (is_root op) refl may.checked in
      cond_both (eqb n (taken_in h)) (pending c) (status_of h n) (Move serial h (status_of h n))
      (λ here. pending_now c (kept.fresh n (omega (arith, eqb-true n (taken_in h) here))) refl
      (record { serial_is = refl; op = op; a = word_at (standing h) first; b = word_at (standing h) second; names = names }))
      (λ elsewhere. same refl)

  -- a settle that meets a pending claim of its serial and cell
  pub writers : (t : Stub) (hints : Hints) (c : Claim) → status_of h t.cell ≡ pending c → c.serial ≡ t.serial →
      Writers h c hints (is_ok (settle_reply serial (standing h) (ticket_of t) hints) ≡ true)
  writers t hints c is own =
      let s = standing h in
      let waits = kept.waits t.cell c is in
      let names = waits.names in
      let op = waits.op in
      let o = found s op c.first c.second c.word hints in
      let state_is : state_of (status_of h t.cell) ≡ Pending op c.first c.second c.word
      = ap state_of is ∙ ap (λ p. pending_state p c) names.operation in
      let own_serial : t.serial ≡ serial = sym own ∙ waits.serial_is in
      let presented_is : presented serial s (ticket_of t) ≡ Pending op c.first c.second c.word
      = cond-true (eqb t.serial serial) (state_of (status_of h t.cell)) Free (eq-eqb t.serial serial own_serial) ∙ state_is in
      let reply_is : settle_reply serial s (ticket_of t) hints ≡ answer_of t.cell o = ap (settle_reply_at s t.cell hints) presented_is in
      let sound = found_sound s op c.first c.second c.word hints in
      record {
        op = op;
        a = word_at s c.first;
        b = second_word s op c.second;
        names = record {
          operation = names.operation;
          first = names.first ∙ ap Some (sym (word_of (status_of h c.first) waits.a names.first));
          second = λ not_root. names.second not_root
              ∙ ap Some (sym (word_of (status_of h c.second) waits.b (names.second not_root)) ∙ sym (cond-false (is_root op) (record { bits = 0 }) (word_at s c.second) not_root));
        };
        only = λ passes. sound.0 (granted_passed t.cell o (subst (λ r. is_ok r ≡ true) reply_is passes));
        all = λ written. subst (λ r. is_ok r ≡ true) (sym reply_is) (passed_granted t.cell o (sound.1 written));
      }

  -- what is the writer's has the result as its word
  holds_since : {passes : Type 0} (c : Claim) (hints : Hints) → Writers h c hints passes → passes → Holds h c
  holds_since c hints w passes =
      record { op = w.op; a = w.a; b = w.b; names = w.names; result_is = ap (λ r. r.word.bits) (w.only passes) }

  -- a settle or a strike decides a pending claim of its serial, and nothing else
  move_decided : (ticket : ℕ) (passes : Bool) (s : Status) → ((c : Claim) → s ≡ pending c → c.serial ≡ ticket → passes ≡ true → Holds h c) →
      Move serial h s (decided ticket passes s)
  move_decided ticket passes untaken holds = same refl
  move_decided ticket passes (given w) holds = same refl
  move_decided ticket passes (pending c) holds =
      cond_both (eqb c.serial ticket) (cond passes (accepted c) struck) (pending c) (Move serial h (pending c))
      (λ own. cond_both passes (accepted c) struck (Move serial h (pending c))
      (λ pass. accepted_now c refl refl (holds c refl (eqb-true c.serial ticket own) pass)) (λ fail. struck_now c refl refl))
      (λ other. same refl)
  move_decided ticket passes (accepted c) holds = same refl
  move_decided ticket passes struck holds = same refl

  move_at : (cell ticket : ℕ) (passes : Bool) (n : ℕ) →
      ((c : Claim) → status_of h cell ≡ pending c → c.serial ≡ ticket → passes ≡ true → Holds h c) →
      Move serial h (status_of h n) (cond (eqb n cell) (decided ticket passes (status_of h n)) (status_of h n))
  move_at cell ticket passes n holds =
      cond_both (eqb n cell) (decided ticket passes (status_of h n)) (status_of h n) (Move serial h (status_of h n))
      (λ here. move_decided ticket passes (status_of h n)
      (λ c is own pass. holds c (ap (status_of h) (sym (eqb-true n cell here)) ∙ is) own pass))
      (λ elsewhere. same refl)

  move_closed : (s : Status) → Move serial h s (closed_up s)
  move_closed untaken = same refl
  move_closed (given w) = same refl
  move_closed (pending c) = struck_now c refl refl
  move_closed (accepted c) = same refl
  move_closed struck = same refl

  never : (c : Claim) → false ≡ true → Holds h c
  never c passes = absurd (both_ways true (sym passes) refl)

  pub moves : (weight modulus : ℕ) (e : Event) → Answered serial weight modulus h e → (n : ℕ) → Move serial h (status_of h n) (status_of (e ∷ h) n)
  moves weight modulus (on_open (call.Input word) a) is n =
      subst (λ x. Move serial h (status_of h n) (given_at (cell_in x) word n (status_of h n))) (sym is) (move_input word n (has_room (standing h)))
  moves weight modulus (on_open (call.Enter code first second word) a) is n =
      subst (λ x. Move serial h (status_of h n) (pending_at (ticket_in x) code first second word n (status_of h n))) (sym is)
      (move_enter code first second word n (allowed (standing h) code first second) refl)
  moves weight modulus (on_open (call.Settle t hints) a) is n =
      subst (λ x. Move serial h (status_of h n) (cond (eqb n t.cell) (decided t.serial (granted x) (status_of h n)) (status_of h n))) (sym is)
      (move_at t.cell t.serial (is_ok (settle_reply serial (standing h) (ticket_of t) hints)) n
      (λ c met own pass. holds_since c hints (writers t hints c met own) pass))
  moves weight modulus (on_open (call.Strike t) a) is n =
      move_at t.cell t.serial false n (λ c met own pass. never c pass)
  moves weight modulus (on_open (call.Read cell) a) is n = same refl
  moves weight modulus close is n = move_closed (status_of h n)
  moves weight modulus (on_closed c a) is n = same refl
