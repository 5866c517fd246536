-- A claim on a sheet that has two inputs and nothing else.
use Rattle.std.proofs.Common.{◌≡◌, ℕ, eqb, is_ok, Ok, Err, Result, sym, refl, ap, ◌∙◌, subst, arith}
use Rattle.std.proofs.lemmas.Bool.{eq-eqb, ne_eqb}
use Rattle.binary32.specs.Operations.{code_of}
use Rattle.binary32.specs.declared.operation.Operation.{Operation}
use Rattle.binary32.specs.declared.operation.Operation.TheVariants.{Add, Subtract, Multiply, Divide, SquareRoot, Equal, Less, AtMost}
use Rattle.binary32.specs.declared.word.Word.{Word}
use Rattle.rounding.specs.Nearest.{result}
use Rattle.hints.specs.Writer.{written_step}
use Rattle.hints.specs.declared.writer.Hints.{Hints}
use Rattle.hints.specs.declared.writer.Written.{Written}
use Rattle.checks.specs.Examined.{Outcome, claim_of}
use Rattle.notation.specs.declared.line.Request.{Request}
use Rattle.sheet.specs.Calls.{Model, answer_of, cells_of, enter_after, enter_reply, found, input_after, input_reply, opened, settle_reply}
use Rattle.sheet.specs.Right.{Right}
use Rattle.sheet.specs.declared.refusal.Refusal.{Refusal}
use Rattle.sheet.specs.declared.ticket.Ticket.{Ticket}
use Rattle.settling.specs.Claimed.{is_accepted}

abbrev with_inputs : Word → Word → Model
with_inputs a b = input_after (input_after (opened 0 0) a) b

abbrev ticket : Ticket
ticket = record { serial = 0; cell = 2 }

-- a claim on the two inputs is allowed, and has the third cell
abbrev Allowed : Operation → Word → Word → Type 0
Allowed op a b = enter_reply 0 (cells_of (with_inputs a b)) (code_of op) 0 1 ≡ Ok ticket

allowed : (op : Operation) (a b : Word) → Allowed op a b
allowed Add a b = refl
allowed Subtract a b = refl
allowed Multiply a b = refl
allowed Divide a b = refl
allowed SquareRoot a b = refl
allowed Equal a b = refl
allowed Less a b = refl
allowed AtMost a b = refl

module _ (a b word : Word) (hints : Hints) where
  abbrev claimed : Operation → Model
  claimed op = enter_after (with_inputs a b) (code_of op) 0 1 word

  abbrev reply : Operation → Result ℕ Refusal
  reply op = settle_reply 0 (cells_of (claimed op)) ticket hints

  -- it is accepted just where the word is the result, if the hints are the writer's
  abbrev Decided : Operation → Type 0
  Decided op =
      Right (claimed op) ticket hints (reply op) → hints ≡ (written_step op a.bits b.bits).hints →
      is_ok (reply op) ≡ eqb word.bits (result op a.bits b.bits)

  -- from what settling ensures of the reply
  decided : (outcome : Outcome) (x : ℕ) (h : Hints) →
      (answer_of 2 outcome ≡ Ok 2 → claim_of word hints ≡ record { word = record { bits = x }; hints = h })
      × (claim_of word hints ≡ record { word = record { bits = x }; hints = h } → answer_of 2 outcome ≡ Ok 2) →
      hints ≡ h → is_ok (answer_of 2 outcome) ≡ eqb word.bits x
  decided (Ok u) x h right same = sym (eq-eqb word.bits x (ap (λ (w : Written). w.word.bits) (right.0 refl)))
  decided (Err flaw) x h right same =
      sym (ne_eqb word.bits x (λ equal. let z : ◌≡◌ {A = ℕ} 0 1 = cc (right.1 (λ i. record { word = record { bits = equal i }; hints = same i })) in omega arith))

  abbrev outcome : Operation → Outcome
  outcome op = found (cells_of (claimed op)) op 0 1 word hints

  pub decides : (op : Operation) → Decided op
  decides Add = decided (outcome Add) _ _
  decides Subtract = decided (outcome Subtract) _ _
  decides Multiply = decided (outcome Multiply) _ _
  decides Divide = decided (outcome Divide) _ _
  decides SquareRoot = decided (outcome SquareRoot) _ _
  decides Equal = decided (outcome Equal) _ _
  decides Less = decided (outcome Less) _ _
  decides AtMost = decided (outcome AtMost) _ _

-- what came of the calls that put the operands in
module _ (m0 m1 m2 : Model) (step : Request) (code first second : ℕ)
    (empty : m0 ≡ opened 0 0)
    (is_first : Ok first ≡ input_reply (cells_of m0)) (after_first : m1 ≡ input_after m0 step.first)
    (is_second : Ok second ≡ input_reply (cells_of m1)) (after_second : m2 ≡ input_after m1 step.second)
    (is_code : code ≡ code_of step.operation) where
  abbrev op : Operation
  op = step.operation

  abbrev inputs : Model
  inputs = with_inputs step.first step.second

  abbrev claim : Word → Hints → Model
  claim word hints = claimed step.first step.second word hints op

  one_input : m1 ≡ input_after (opened 0 0) step.first
  one_input = after_first ∙ ap (λ m. input_after m step.first) empty

  two_inputs : m2 ≡ inputs
  two_inputs = after_second ∙ ap (λ m. input_after m step.second) one_input

  first_is : first ≡ 0
  first_is = let same : ◌≡◌ {A = Result ℕ Refusal} (Ok first) (Ok 0) = is_first ∙ ap (λ m. input_reply (cells_of m)) empty in cc

  second_is : second ≡ 1
  second_is = let same : ◌≡◌ {A = Result ℕ Refusal} (Ok second) (Ok 1) = is_second ∙ ap (λ m. input_reply (cells_of m)) one_input in cc

  -- so the claim is allowed
  entered : (r : Result Ticket Refusal) → r ≡ enter_reply m2.serial (cells_of m2) code first second → r ≡ Ok ticket
  entered r is =
      is ∙ ap (λ m. enter_reply m.serial (cells_of m) code first second) two_inputs
      ∙ ap (λ n. enter_reply 0 (cells_of inputs) n first second) is_code
      ∙ ap (λ n. enter_reply 0 (cells_of inputs) (code_of op) n second) first_is
      ∙ ap (λ n. enter_reply 0 (cells_of inputs) (code_of op) 0 n) second_is
      ∙ allowed op step.first step.second

  entered_after : (word : Word) → enter_after m2 code first second word ≡ enter_after inputs (code_of op) 0 1 word
  entered_after word =
      ap (λ m. enter_after m code first second word) two_inputs
      ∙ ap (λ n. enter_after inputs n first second word) is_code
      ∙ ap (λ n. enter_after inputs (code_of op) n second word) first_is
      ∙ ap (λ n. enter_after inputs (code_of op) 0 n word) second_is

  -- what settling it says
  pub settles : (word : Word) (m3 : Model) (t : Ticket) (hints : Hints) (r : Result ℕ Refusal) →
      m3 ≡ enter_after m2 code first second word → Ok t ≡ enter_reply m2.serial (cells_of m2) code first second →
      hints ≡ (written_step step.operation step.first.bits step.second.bits).hints →
      r ≡ settle_reply m3.serial (cells_of m3) t hints → Right m3 t hints r → is_ok r ≡ is_accepted step word
  unfolding is_accepted
  settles word m3 t hints r after is_ticket hints_are is right =
      let pending = after ∙ entered_after word in
      let presents : t ≡ ticket = (let same = entered (Ok t) is_ticket in cc) in
      let r_is =
      is ∙ ap (λ m. settle_reply m.serial (cells_of m) t hints) pending
      ∙ ap (λ u. settle_reply 0 (cells_of (claim word hints)) u hints) presents in
      let right_there =
      subst (λ (x : Result ℕ Refusal). Right (claim word hints) ticket hints x) r_is
      (subst (λ (u : Ticket). Right (claim word hints) u hints r) presents
      (subst (λ (m : Model). Right m t hints r) pending right)) in
      ap is_ok r_is ∙ decides step.first step.second word hints op right_there hints_are
