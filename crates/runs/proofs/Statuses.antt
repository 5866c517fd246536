-- Facts about how one cell stands.
use Rattle.std.proofs.Common.{◌≡◌, ℕ, Bool, true, false, cond, is_ok, Some, None, Ok, Err, Option, refl, ap, subst}
use Rattle.binary32.specs.Operations.{operation_of}
use Rattle.binary32.specs.declared.operation.Operation.{Operation}
use Rattle.binary32.specs.declared.word.Word.{Word}
use Rattle.checks.specs.Examined.{Outcome}
use Rattle.sheet.specs.Calls.{allowed_for, allowed_if, answer_of}
use Rattle.sheet.specs.Cells.{Checked, taken_in, accepted_in, before, word_or_zero}
use Rattle.sheet.specs.Operands.{claim_checked, operand_checked, operands_checked}
use Rattle.sheet.specs.Tables.{Standing, has_room}
use Rattle.sheet.specs.declared.refusal.Operand.{Operand}
use Rattle.sheet.specs.declared.refusal.Operand.TheVariants.{First, Second}
use Rattle.sheet.specs.declared.refusal.Refusal.TheVariants as refusal
use Rattle.runs.specs.Histories.{Claim, Status, untaken, given, pending, accepted, struck, accepted_word}
use Rattle.runs.specs.Replies.{pending_state, state_of}

-- the word that a claim is examined with is that of the accepted cell
pub word_of : (s : Status) (w : Word) → accepted_word s ≡ Some w → word_or_zero (state_of s) ≡ w
word_of untaken w is = cc
word_of (given v) w is = cc
word_of (pending c) w is = cc
word_of (accepted c) w is = cc
word_of struck w is = cc

-- a cell that passes both checks of an operand is accepted
passed_pending : (o : Option Operation) (c : Claim) (operand : Operand) →
    taken_in (pending_state o c) operand ≡ Ok tt → accepted_in (pending_state o c) operand ≡ Ok tt → ⊥
passed_pending None c operand taken passed = cc
passed_pending (Some op) c operand taken passed = cc

pub passed_accepted : (s : Status) (operand : Operand) → taken_in (state_of s) operand ≡ Ok tt → accepted_in (state_of s) operand ≡ Ok tt →
    accepted_word s ≡ Some (word_or_zero (state_of s))
passed_accepted untaken operand taken passed = cc
passed_accepted (given w) operand taken passed = refl
passed_accepted (pending c) operand taken passed = absurd (passed_pending (operation_of c.code) c operand taken passed)
passed_accepted (accepted c) operand taken passed = refl
passed_accepted struck operand taken passed = cc

-- one check after another
before_first : (x y : Checked) → before x y ≡ Ok tt → x ≡ Ok tt
before_first (Ok u) y both = refl
before_first (Err r) y both = cc

before_second : (x y : Checked) → before x y ≡ Ok tt → y ≡ Ok tt
before_second (Ok u) y both = both
before_second (Err r) y both = cc

-- what the checks of operands leave
pub one_checked : (s : Status) → operand_checked (state_of s) ≡ Ok tt → accepted_word s ≡ Some (word_or_zero (state_of s))
one_checked s passed =
    let t = taken_in (state_of s) First in
    let a = accepted_in (state_of s) First in
    passed_accepted s First (before_first t a passed) (before_second t a passed)

pub both_checked : (s r : Status) → operands_checked (state_of s) (state_of r) ≡ Ok tt →
    (accepted_word s ≡ Some (word_or_zero (state_of s))) × (accepted_word r ≡ Some (word_or_zero (state_of r)))
both_checked s r passed =
    let t1 = taken_in (state_of s) First in
    let t2 = taken_in (state_of r) Second in
    let a1 = accepted_in (state_of s) First in
    let a2 = accepted_in (state_of r) Second in
    let rest = before_second t1 (before t2 (before a1 a2)) passed in
    let last = before_second t2 (before a1 a2) rest in (
      passed_accepted s First (before_first t1 (before t2 (before a1 a2)) passed) (before_first a1 a2 last),
      passed_accepted r Second (before_first t2 (before a1 a2) rest) (before_second a1 a2 last),
    )

-- a claim that may be entered has an operation, and its operands were checked
pub record Allowed (s : Standing) (code first second : ℕ) (op : Operation) : Type 0 where
  pub room : has_room s ≡ true
  pub operation : operation_of code ≡ Some op
  pub checked : claim_checked op (s.state first) (s.state second) ≡ Ok tt

allowed_if_lem : (x : Checked) (p op : Operation) → allowed_if x p ≡ Ok op → (x ≡ Ok tt) × (p ≡ op)
allowed_if_lem (Ok u) p op is = (refl, cc)
allowed_if_lem (Err r) p op is = cc

allowed_for_lem : (s : Standing) (o : Option Operation) (first second : ℕ) (op : Operation) → allowed_for s o first second ≡ Ok op →
    (o ≡ Some op) × (claim_checked op (s.state first) (s.state second) ≡ Ok tt)
allowed_for_lem s None first second op is = cc
allowed_for_lem s (Some p) first second op is =
    let both = allowed_if_lem (claim_checked p (s.state first) (s.state second)) p op is in
    (ap Some both.1, subst (λ q. claim_checked q (s.state first) (s.state second) ≡ Ok tt) both.1 both.0)

pub allowed_ok : (s : Standing) (code first second : ℕ) (op : Operation) (room : Bool) → has_room s ≡ room →
    cond room (allowed_for s (operation_of code) first second) (Err refusal.Full) ≡ Ok op → Allowed s code first second op
allowed_ok s code first second op true is_room is =
    let both = allowed_for_lem s (operation_of code) first second op is in
    record { room = is_room; operation = both.0; checked = both.1 }
allowed_ok s code first second op false is_room is = cc

-- a settle passes just where no check failed
pub granted_passed : (cell : ℕ) (o : Outcome) → is_ok (answer_of cell o) ≡ true → o ≡ Ok tt
granted_passed cell (Ok u) passes = refl
granted_passed cell (Err f) passes = cc

pub passed_granted : (cell : ℕ) (o : Outcome) → o ≡ Ok tt → is_ok (answer_of cell o) ≡ true
passed_granted cell o passed = ap (λ x. is_ok (answer_of cell x)) passed
