-- A sheet and its history: how the cells stand in the one is how they stand in the other.
use Rattle.std.proofs.Common.{◌≡◌, ℕ, ◌+◌, ◌<◌, Bool, true, false, cond, eqb, ltb, [], ◌∷◌, length, is_ok, Ok, Err, Result, sym, refl, ap, ◌∙◌, subst, add-zero}
use Rattle.std.proofs.lemmas.List.{length-map, length-replicate, length-set}
use Rattle.std.proofs.lemmas.Bool.{cond_both, cond-true, cond-false, eq-eqb, eqb-true, eqb-false, ltb-true, ne_eqb}
use Rattle.binary32.specs.declared.operation.Operation.{Operation}
use Rattle.binary32.specs.declared.word.Word.{Word}
use Rattle.checks.specs.Examined.{Outcome}
use Rattle.hints.specs.declared.writer.Hints.{Hints}
use Rattle.sheet.specs.Calls.{Model, allowed, answer_of, cells_of, close_after, found, opened, pending_for, presented, settle_after_at, settle_reply, settle_reply_at, strike_after_at, ticket_for, with_table}
use Rattle.sheet.specs.Cells.{cell_of, closed_cell, closed_state, settled_state}
use Rattle.sheet.specs.Tables.{grown, has_room, state_at, with_state}
use Rattle.sheet.specs.Tickets.{ticket_of}
use Rattle.sheet.specs.declared.cell.State.{State}
use Rattle.sheet.specs.declared.cell.State.TheVariants.{Free, Input, Pending, Accepted, Struck}
use Rattle.sheet.specs.declared.refusal.Refusal.{Refusal}
use Rattle.sheet.specs.declared.refusal.Refusal.TheVariants as refusal
use Rattle.sheet.specs.declared.table.Table.{Table}
use Rattle.sheet.specs.declared.ticket.Stub.{Stub}
use Rattle.runs.proofs.Moves.{Kept}
use Rattle.runs.proofs.Statuses.{allowed_ok}
use Rattle.runs.proofs.Tables.{after_cond, empty_free, pending_within, state_closed, state_set}
use Rattle.runs.specs.Histories.{Claim, Event, History, Status, on_open, close, on_closed, untaken, given, pending, accepted, struck, closed_up, decided, status_of, taken_in, takes}
use Rattle.runs.specs.Replies.{open_reply, pending_state, standing, state_of, stubbed}
use Rattle.runs.specs.Sheets.{open_after}
use Rattle.runs.specs.declared.answer.ClosedAnswer.{ClosedAnswer}
use Rattle.runs.specs.declared.answer.OpenAnswer.{OpenAnswer}
use Rattle.runs.specs.declared.answer.OpenAnswer.TheVariants as answer
use Rattle.runs.specs.declared.call.ClosedCall.{ClosedCall}
use Rattle.runs.specs.declared.call.OpenCall.{OpenCall}
use Rattle.runs.specs.declared.call.OpenCall.TheVariants as call

pub record Follows (serial weight : ℕ) (h : History) (m : Model) : Type 0 where
  pub serial_is : m.serial ≡ serial
  pub weight_is : m.weight ≡ weight
  pub taken_is : taken_in h ≡ m.table.taken
  pub long : length m.table.cells ≡ 256
  pub states : (n : ℕ) → state_of (status_of h n) ≡ state_at m.table n

pub follows_opened : (serial weight : ℕ) → Follows serial weight [] (opened serial weight)
follows_opened serial weight = record {
  serial_is = refl;
  weight_is = refl;
  taken_is = refl;
  long = length-replicate 256 (cell_of Free);
  states = λ n. sym (empty_free n);
}

-- the cells stand alike
pub stand_alike : (serial weight : ℕ) (h : History) (m : Model) → Follows serial weight h m → standing h ≡ cells_of m
stand_alike serial weight h m follows = λ i. record { taken = follows.taken_is i; state = λ n. follows.states n i }

module _ (serial weight : ℕ) (h : History) (m : Model) (follows : Follows serial weight h m) (kept : Kept serial h) where
  -- a call that takes no cell and leaves the state of each
  follows_same : (e : Event) → takes e ≡ 0 → ((n : ℕ) → state_of (status_of (e ∷ h) n) ≡ state_of (status_of h n)) → Follows serial weight (e ∷ h) m
  follows_same e takes_none same = record {
    serial_is = follows.serial_is;
    weight_is = follows.weight_is;
    taken_is = ap (λ k. taken_in h + k) takes_none ∙ add-zero (taken_in h) ∙ follows.taken_is;
    long = follows.long;
    states = λ n. same n ∙ follows.states n;
  }

  -- the next cell is taken
  follows_taken : (e : Event) (s : Status) (x : State) → m.table.taken < 256 → takes e ≡ 1 → state_of s ≡ x →
      ((n : ℕ) → status_of (e ∷ h) n ≡ cond (eqb n m.table.taken) s (status_of h n)) →
      Follows serial weight (e ∷ h) (with_table m (grown m.table x))
  follows_taken e s x room takes_one is becomes = record {
    serial_is = follows.serial_is;
    weight_is = follows.weight_is;
    taken_is = ap (λ k. taken_in h + k) takes_one ∙ ap (λ k. k + 1) follows.taken_is;
    long = length-set m.table.cells m.table.taken (cell_of x) ∙ follows.long;
    states = λ n.
        let here = eqb n m.table.taken in
        ap state_of (becomes n) ∙ after_cond state_of here s (status_of h n) ∙ ap (λ y. cond here y (state_of (status_of h n))) is
        ∙ ap (cond here x) (follows.states n) ∙ sym (state_set m.table m.table.taken (m.table.taken + 1) n x room follows.long);
  }

  follows_input : (word : Word) (room : Bool) → ltb m.table.taken 256 ≡ room →
      Follows serial weight (on_open (call.Input word) (answer.Input (cond room (Ok m.table.taken) (Err refusal.Full))) ∷ h)
      (with_table m (cond room (grown m.table (Input word)) m.table))
  follows_input word true is_room =
      follows_taken (on_open (call.Input word) (answer.Input (Ok m.table.taken))) (given word) (Input word)
      (ltb-true m.table.taken 256 is_room) refl refl (λ n. refl)
  follows_input word false is_room = follows_same (on_open (call.Input word) (answer.Input (Err refusal.Full))) refl (λ n. refl)

  follows_enter : (code first second : ℕ) (word : Word) (reply : Result Operation Refusal) → allowed (cells_of m) code first second ≡ reply →
      Follows serial weight
      (on_open (call.Enter code first second word) (answer.Enter (stubbed (ticket_for m.serial m.table.taken reply))) ∷ h)
      (with_table m (pending_for m.table reply first second word))
  follows_enter code first second word (Ok op) is =
      let may = allowed_ok (cells_of m) code first second op (has_room (cells_of m)) refl is in
      let c : Claim = record { serial = m.serial; code = code; first = first; second = second; word = word } in
      follows_taken
      (on_open (call.Enter code first second word) (answer.Enter (Ok (record { serial = m.serial; cell = m.table.taken })))) (pending c) (Pending op first second word)
      (ltb-true m.table.taken 256 may.room) refl (ap (λ o. pending_state o c) may.operation) (λ n. refl)
  follows_enter code first second word (Err r) is =
      follows_same (on_open (call.Enter code first second word) (answer.Enter (Err r))) refl (λ n. refl)

  -- a call that finds nothing to decide
  follows_idle : (e : Event) (cell ticket : ℕ) (passes : Bool) → takes e ≡ 0 →
      ((n : ℕ) → status_of (e ∷ h) n ≡ cond (eqb n cell) (decided ticket passes (status_of h n)) (status_of h n)) →
      (s : Status) → status_of h cell ≡ s → decided ticket passes s ≡ s → (t : Table) → t ≡ m.table →
      Follows serial weight (e ∷ h) (with_table m t)
  follows_idle e cell ticket passes takes_none becomes s is undecided t unchanged =
      subst (λ u. Follows serial weight (e ∷ h) (with_table m u)) (sym unchanged)
      (follows_same e takes_none (λ n. ap state_of (becomes n ∙
      cond_both (eqb n cell) (decided ticket passes (status_of h n)) (status_of h n) (λ r. r ≡ status_of h n)
      (λ here.
      let was : status_of h n ≡ s = ap (status_of h) (eqb-true n cell here) ∙ is in
      ap (decided ticket passes) was ∙ undecided ∙ sym was)
      (λ elsewhere. refl))))

  -- a call that decides a pending claim
  follows_changed : (e : Event) (cell ticket : ℕ) (passes : Bool) → takes e ≡ 0 →
      ((n : ℕ) → status_of (e ∷ h) n ≡ cond (eqb n cell) (decided ticket passes (status_of h n)) (status_of h n)) →
      (s r : Status) → status_of h cell ≡ s → decided ticket passes s ≡ r → cell < 256 → (t : Table) → t ≡ with_state m.table cell (state_of r) →
      Follows serial weight (e ∷ h) (with_table m t)
  follows_changed e cell ticket passes takes_none becomes s r is decides within t changed =
      subst (λ u. Follows serial weight (e ∷ h) (with_table m u)) (sym changed) (record {
        serial_is = follows.serial_is;
        weight_is = follows.weight_is;
        taken_is = ap (λ k. taken_in h + k) takes_none ∙ add-zero (taken_in h) ∙ follows.taken_is;
        long = length-set m.table.cells cell (cell_of (state_of r)) ∙ follows.long;
        states = λ n.
            ap state_of (becomes n)
            ∙ cond_both (eqb n cell) (state_of r) (state_at m.table n)
            (λ x. state_of (cond (eqb n cell) (decided ticket passes (status_of h n)) (status_of h n)) ≡ x)
            (λ here. ap state_of (cond-true (eqb n cell) (decided ticket passes (status_of h n)) (status_of h n) here
            ∙ ap (λ k. decided ticket passes (status_of h k)) (eqb-true n cell here) ∙ ap (decided ticket passes) is ∙ decides))
            (λ elsewhere. ap state_of (cond-false (eqb n cell) (decided ticket passes (status_of h n)) (status_of h n) elsewhere) ∙ follows.states n)
            ∙ sym (state_set m.table cell m.table.taken n (state_of r) within follows.long);
      })

  -- What a settle or a strike makes of the table, by the state of the cell that its ticket names: only a pending claim is decided.
  module _ (e : Event) (t : Stub) (passes : Bool) (f : State → Table) (takes_none : takes e ≡ 0)
      (becomes : (n : ℕ) → status_of (e ∷ h) n ≡ cond (eqb n t.cell) (decided t.serial passes (status_of h n)) (status_of h n))
      (at_free : f Free ≡ m.table) (at_input : (w : Word) → f (Input w) ≡ m.table) (at_accepted : (w : Word) → f (Accepted w) ≡ m.table)
      (at_struck : f Struck ≡ m.table)
      (at_pending : (op : Operation) (c : Claim) → presented m.serial (cells_of m) (ticket_of t) ≡ Pending op c.first c.second c.word →
      f (Pending op c.first c.second c.word) ≡ with_state m.table t.cell (state_of (cond passes (accepted c) struck))) where
    left_alone : (s : Status) → status_of h t.cell ≡ s → f (state_of s) ≡ m.table → f (presented m.serial (cells_of m) (ticket_of t)) ≡ m.table
    left_alone s is unchanged =
        let own = eqb t.serial m.serial in
        ap (λ x. f (cond own x Free)) (sym (follows.states t.cell) ∙ ap state_of is)
        ∙ cond_both own (state_of s) Free (λ x. f x ≡ m.table) (λ b. unchanged) (λ b. at_free)

    follows_pending : (c : Claim) → status_of h t.cell ≡ pending c → (own : Bool) → eqb t.serial m.serial ≡ own →
        Follows serial weight (e ∷ h) (with_table m (f (presented m.serial (cells_of m) (ticket_of t))))
    follows_pending c is true own =
        let waits = kept.waits t.cell c is in
        let op = waits.op in
        let state_is : state_at m.table t.cell ≡ Pending op c.first c.second c.word
        = sym (follows.states t.cell) ∙ ap state_of is ∙ ap (λ o. pending_state o c) waits.names.operation in
        let presented_is : presented m.serial (cells_of m) (ticket_of t) ≡ Pending op c.first c.second c.word
        = cond-true (eqb t.serial m.serial) (state_at m.table t.cell) Free own ∙ state_is in
        let serials : c.serial ≡ t.serial = waits.serial_is ∙ sym follows.serial_is ∙ sym (eqb-true t.serial m.serial own) in
        follows_changed e t.cell t.serial passes takes_none becomes (pending c) (cond passes (accepted c) struck) is
        (cond-true (eqb c.serial t.serial) (cond passes (accepted c) struck) (pending c) (eq-eqb c.serial t.serial serials))
        (pending_within m.table t.cell op c.first c.second c.word state_is)
        (f (presented m.serial (cells_of m) (ticket_of t))) (ap f presented_is ∙ at_pending op c presented_is)
    follows_pending c is false other =
        let waits = kept.waits t.cell c is in
        let apart : c.serial ≡ t.serial → ⊥
        = λ same. eqb-false t.serial m.serial other (sym same ∙ waits.serial_is ∙ sym follows.serial_is) in
        follows_idle e t.cell t.serial passes takes_none becomes (pending c) is
        (cond-false (eqb c.serial t.serial) (cond passes (accepted c) struck) (pending c) (ne_eqb c.serial t.serial apart))
        (f (presented m.serial (cells_of m) (ticket_of t)))
        (ap f (cond-false (eqb t.serial m.serial) (state_at m.table t.cell) Free other) ∙ at_free)

    follows_ticket : (s : Status) → status_of h t.cell ≡ s →
        Follows serial weight (e ∷ h) (with_table m (f (presented m.serial (cells_of m) (ticket_of t))))
    follows_ticket untaken is = follows_idle e t.cell t.serial passes takes_none becomes untaken is refl _ (left_alone untaken is at_free)
    follows_ticket (given w) is = follows_idle e t.cell t.serial passes takes_none becomes (given w) is refl _ (left_alone (given w) is (at_input w))
    follows_ticket (pending c) is = follows_pending c is (eqb t.serial m.serial) refl
    follows_ticket (accepted c) is = follows_idle e t.cell t.serial passes takes_none becomes (accepted c) is refl _ (left_alone (accepted c) is (at_accepted c.word))
    follows_ticket struck is = follows_idle e t.cell t.serial passes takes_none becomes struck is refl _ (left_alone struck is at_struck)

  settled_state_lem : (cell : ℕ) (c : Claim) (o : Outcome) → settled_state c.word o ≡ state_of (cond (is_ok (answer_of cell o)) (accepted c) struck)
  settled_state_lem cell c (Ok u) = refl
  settled_state_lem cell c (Err found) = refl

  follows_settle : (t : Stub) (hints : Hints) →
      Follows serial weight (on_open (call.Settle t hints) (answer.Settle (settle_reply m.serial (cells_of m) (ticket_of t) hints)) ∷ h)
      (with_table m (settle_after_at m.table t.cell hints (presented m.serial (cells_of m) (ticket_of t))))
  follows_settle t hints =
      let reply = settle_reply m.serial (cells_of m) (ticket_of t) hints in
      follows_ticket (on_open (call.Settle t hints) (answer.Settle reply)) t (is_ok reply) (settle_after_at m.table t.cell hints) refl (λ n. refl)
      refl (λ w. refl) (λ w. refl) refl
      (λ op c met.
      let o = found (cells_of m) op c.first c.second c.word hints in
      ap (with_state m.table t.cell)
      (settled_state_lem t.cell c o ∙ ap (λ r. state_of (cond (is_ok r) (accepted c) struck)) (sym (ap (settle_reply_at (cells_of m) t.cell hints) met))))
      (status_of h t.cell) refl

  follows_strike : (t : Stub) (a : OpenAnswer) →
      Follows serial weight (on_open (call.Strike t) a ∷ h)
      (with_table m (strike_after_at m.table t.cell (presented m.serial (cells_of m) (ticket_of t))))
  follows_strike t a =
      follows_ticket (on_open (call.Strike t) a) t false (strike_after_at m.table t.cell) refl (λ n. refl)
      refl (λ w. refl) (λ w. refl) refl (λ op c met. refl) (status_of h t.cell) refl

  pub follows_open : (c : OpenCall) (a : OpenAnswer) → a ≡ open_reply m.serial (cells_of m) c → Follows serial weight (on_open c a ∷ h) (open_after m c)
  follows_open (call.Input word) a is =
      subst (λ x. Follows serial weight (on_open (call.Input word) x ∷ h) (open_after m (call.Input word))) (sym is)
      (follows_input word (ltb m.table.taken 256) refl)
  follows_open (call.Enter code first second word) a is =
      subst (λ x. Follows serial weight (on_open (call.Enter code first second word) x ∷ h) (open_after m (call.Enter code first second word))) (sym is)
      (follows_enter code first second word (allowed (cells_of m) code first second) refl)
  follows_open (call.Settle t hints) a is =
      subst (λ x. Follows serial weight (on_open (call.Settle t hints) x ∷ h) (open_after m (call.Settle t hints))) (sym is) (follows_settle t hints)
  follows_open (call.Strike t) a is = follows_strike t a
  follows_open (call.Read cell) a is = follows_same (on_open (call.Read cell) a) refl (λ n. refl)

  -- closing strikes what is pending
  state_closing : (n : ℕ) (s : Status) → status_of h n ≡ s → state_of (closed_up s) ≡ closed_state (state_of s)
  state_closing n untaken is = refl
  state_closing n (given w) is = refl
  state_closing n (pending c) is = ap (λ o. closed_state (pending_state o c)) (sym (kept.waits n c is).names.operation)
  state_closing n (accepted c) is = refl
  state_closing n struck is = refl

  pub follows_close : Follows serial weight (close ∷ h) (close_after m)
  follows_close = record {
    serial_is = follows.serial_is;
    weight_is = follows.weight_is;
    taken_is = add-zero (taken_in h) ∙ follows.taken_is;
    long = length-map m.table.cells closed_cell ∙ follows.long;
    states = λ n. state_closing n (status_of h n) refl ∙ ap closed_state (follows.states n) ∙ sym (state_closed m.table n follows.long);
  }

  pub follows_closed : (c : ClosedCall) (a : ClosedAnswer) → Follows serial weight (on_closed c a ∷ h) m
  follows_closed c a = follows_same (on_closed c a) refl (λ n. refl)
