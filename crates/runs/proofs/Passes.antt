-- A step with the writer's word and hints is accepted on every sheet.
use Rattle.std.proofs.Common.{◌≡◌, ℕ, cond, eqb, [], ◌∷◌, Some, Ok, sym, refl, ap, ◌∙◌}
use Rattle.std.proofs.lemmas.Bool.{cond-true, eq-eqb}
use Rattle.binary32.specs.Operations.{code_of, operation_of}
use Rattle.binary32.specs.declared.operation.Operation.{Operation}
use Rattle.binary32.specs.declared.operation.Operation.TheVariants.{Add, Subtract, Multiply, Divide, SquareRoot, Equal, Less, AtMost}
use Rattle.binary32.specs.declared.word.Word.{Word}
use Rattle.hints.specs.Writer.{written_step}
use Rattle.hints.specs.declared.writer.Written.{Written}
use Rattle.sheet.proofs.Found.{found_sound}
use Rattle.sheet.specs.Calls.{Model, answer_of, cells_of, close_after, found, opened, read_reply, second_word, settle_reply_at}
use Rattle.sheet.specs.Cells.{word_in}
use Rattle.sheet.specs.declared.cell.State.TheVariants.{Free, Pending}
use Rattle.runs.proofs.Follows.{stand_alike}
use Rattle.runs.proofs.Reaches.{known_reached}
use Rattle.runs.specs.Histories.{Claim, History, on_open, close, on_closed, accepted, closed_up, pending, status_of}
use Rattle.runs.specs.Honest.{Honest, claim_in, passing, third}
use Rattle.runs.specs.Replies.{open_reply, pending_state, standing, state_of}
use Rattle.runs.specs.Sheets.{Reached, Sheet, is_open, is_closed, open_after}
use Rattle.runs.specs.declared.answer.ClosedAnswer.TheVariants as ClosedAnswers
use Rattle.runs.specs.declared.answer.OpenAnswer.{OpenAnswer}
use Rattle.runs.specs.declared.answer.OpenAnswer.TheVariants as answer
use Rattle.runs.specs.declared.call.ClosedCall.TheVariants as ClosedCalls
use Rattle.runs.specs.declared.call.OpenCall.{OpenCall}
use Rattle.runs.specs.declared.call.OpenCall.TheVariants as call

-- an open sheet that met a history
record Met (serial weight modulus : ℕ) (h : History) : Type 0 where
  model : Model
  reached : Reached serial weight modulus h (is_open model)

-- one call more, answered by the rules
met_more : (serial weight modulus : ℕ) (h : History) → Met serial weight modulus h → (c : OpenCall) (a : OpenAnswer) →
    a ≡ open_reply serial (standing h) c → Met serial weight modulus (on_open c a ∷ h)
met_more serial weight modulus h met c a is =
    let m = met.model in
    let follows = (known_reached serial weight modulus h (is_open m) met.reached).follows in
    record {
      model = open_after m c;
      reached = (
        is_open m,
        met.reached,
        (is ∙ ap (λ s. open_reply serial s c) (stand_alike serial weight h m follows) ∙ ap (λ k. open_reply k (cells_of m) c) (sym follows.serial_is), refl),
      );
    }

-- two inputs, and a claim on them
abbrev inputs : Word → Word → History
inputs a b = on_open (call.Input b) (answer.Input (Ok 1)) ∷ on_open (call.Input a) (answer.Input (Ok 0)) ∷ []

abbrev entered : ℕ → Operation → Word → Word → Word → History
entered serial op a b word = on_open (call.Enter (code_of op) 0 1 word) (answer.Enter (Ok (third serial))) ∷ inputs a b

-- it may be entered, whatever its operation
may_enter : (serial : ℕ) (op : Operation) (a b word : Word) →
    answer.Enter (Ok (third serial)) ≡ open_reply serial (standing (inputs a b)) (call.Enter (code_of op) 0 1 word)
may_enter serial Add a b word = refl
may_enter serial Subtract a b word = refl
may_enter serial Multiply a b word = refl
may_enter serial Divide a b word = refl
may_enter serial SquareRoot a b word = refl
may_enter serial Equal a b word = refl
may_enter serial Less a b word = refl
may_enter serial AtMost a b word = refl

operation_coded : (op : Operation) → operation_of (code_of op) ≡ Some op
operation_coded Add = refl
operation_coded Subtract = refl
operation_coded Multiply = refl
operation_coded Divide = refl
operation_coded SquareRoot = refl
operation_coded Equal = refl
operation_coded Less = refl
operation_coded AtMost = refl

-- the second word of a root makes no difference to what the writer gives
same_written : (serial : ℕ) (op : Operation) (a b word : Word) →
    written_step op a.bits b.bits ≡ written_step op a.bits (second_word (standing (entered serial op a b word)) op 1).bits
same_written serial Add a b word = refl
same_written serial Subtract a b word = refl
same_written serial Multiply a b word = refl
same_written serial Divide a b word = refl
same_written serial SquareRoot a b word = refl
same_written serial Equal a b word = refl
same_written serial Less a b word = refl
same_written serial AtMost a b word = refl

may_settle : (serial : ℕ) (op : Operation) (a b : Word) (w : Written) → w ≡ written_step op a.bits b.bits →
    answer.Settle (Ok 2) ≡ open_reply serial (standing (entered serial op a b w.word)) (call.Settle (third serial) w.hints)
may_settle serial op a b w is =
    let s = standing (entered serial op a b w.word) in
    let presented_is : cond (eqb serial serial) (s.state 2) Free ≡ Pending op 0 1 w.word
    = cond-true (eqb serial serial) (s.state 2) Free (eq-eqb serial serial refl) ∙ ap (λ o. pending_state o (claim_in serial op w)) (operation_coded op) in
    let passes : found s op 0 1 w.word w.hints ≡ Ok tt
    = (found_sound s op 0 1 w.word w.hints).1 (is ∙ same_written serial op a b w.word) in
    ap answer.Settle (sym (ap (settle_reply_at s 2 w.hints) presented_is ∙ ap (answer_of 2) passes))

-- a step that is accepted is read on the closed sheet too
read_closed : (serial weight modulus : ℕ) (h : History) → Met serial weight modulus h → (n : ℕ) (c : Claim) → status_of h n ≡ accepted c →
    (s : Sheet) × Reached serial weight modulus (on_closed (ClosedCalls.Read n) (ClosedAnswers.Read (Ok c.word)) ∷ close ∷ h) s
read_closed serial weight modulus h met n c is =
    let m = close_after met.model in
    let reached : Reached serial weight modulus (close ∷ h) (is_closed m) = (is_open met.model, met.reached, refl) in
    let follows = (known_reached serial weight modulus (close ∷ h) (is_closed m) reached).follows in
    let reads : ClosedAnswers.Read (Ok c.word) ≡ ClosedAnswers.Read (read_reply (cells_of m) n)
    = sym (ap (λ s. ClosedAnswers.Read (word_in (state_of (closed_up s)))) is)
    ∙ ap (λ s. ClosedAnswers.Read (read_reply s n)) (stand_alike serial weight (close ∷ h) m follows) in
    (is_closed m, (is_closed m, reached, (reads, refl)))

pub honest : Honest
honest serial weight modulus op a b =
    let w = written_step op a.bits b.bits in
    let c = claim_in serial op w in
    let none : Met serial weight modulus [] = record { model = opened serial weight; reached = refl } in
    let one = met_more serial weight modulus [] none (call.Input a) (answer.Input (Ok 0)) refl in
    let two = met_more serial weight modulus (on_open (call.Input a) (answer.Input (Ok 0)) ∷ []) one (call.Input b) (answer.Input (Ok 1)) refl in
    let three = met_more serial weight modulus (inputs a b) two (call.Enter (code_of op) 0 1 w.word) (answer.Enter (Ok (third serial))) (may_enter serial op a b w.word) in
    let four = met_more serial weight modulus (entered serial op a b w.word) three (call.Settle (third serial) w.hints) (answer.Settle (Ok 2)) (may_settle serial op a b w refl) in
    let passes : status_of (passing serial op a b w) 2 ≡ accepted c = cond-true (eqb serial serial) (accepted c) (pending c) (eq-eqb serial serial refl) in
    let five = met_more serial weight modulus (passing serial op a b w) four (call.Read 2) (answer.Read (Ok w.word)) (sym (ap (λ s. answer.Read (word_in (state_of s))) passes)) in
    (read_closed serial weight modulus (on_open (call.Read 2) (answer.Read (Ok w.word)) ∷ passing serial op a b w) five 2 c passes, passes)
