-- What the calls of a request show.
use Rattle.std.proofs.Common.{◌≡◌, ℕ, true, cond, eqb, List, sym, refl, ap, ◌∙◌, arith}
use Rattle.std.proofs.lemmas.Bool.Decides.{nat_tests}
use Rattle.binary32.specs.Operations.{code_of}
use Rattle.binary32.specs.declared.operation.Operation.{Operation}
use Rattle.binary32.specs.declared.operation.Operation.TheVariants.{Add, Subtract, Multiply, SquareRoot, AtMost}
use Rattle.hints.specs.declared.writer.Hints.{Hints}
use Rattle.rounding.specs.Nearest.{result}
use Rattle.runs.specs.declared.call.OpenCall.{OpenCall}
use Rattle.runs.specs.declared.call.OpenCall.TheVariants.{Enter}
use Rattle.regions.specs.Claims.{claimed, turned, forged_if, dx_squared, dy_squared, sum_claim, root_claim, inside_claim, settle_of, enter_of, calls_of, plan_of}
use Rattle.regions.specs.Distances.{squared, squared_distance, distance, within_radius, enters_comparison, settles_root, Shows}
use Rattle.regions.specs.declared.claims.Claim.{Claim}
use Rattle.regions.specs.declared.claims.Source.{Source}
use Rattle.regions.specs.declared.reading.Request.{Request}

-- the word of a claim is the operation's result
claimed_word : (cell : ℕ) (operation : Operation) (a b : Source) → (claimed cell operation a b).written.word.bits ≡ result operation a.word.bits b.word.bits
unfolding claimed
claimed_word cell operation a b = refl

claimed_enter : (cell : ℕ) (operation : Operation) (a b : Source) → enter_of (claimed cell operation a b) ≡ Enter (code_of operation) a.cell b.cell (record { bits = result operation a.word.bits b.word.bits })
unfolding claimed
claimed_enter cell operation a b = refl

claimed_cell : (cell : ℕ) (operation : Operation) (a b : Source) → (claimed cell operation a b).cell ≡ cell
unfolding claimed
claimed_cell cell operation a b = refl

module _ (q : Request) where
  dx_squared_lem : (dx_squared q).written.word.bits ≡ squared (result Subtract q.position.x.bits q.centre.x.bits)
  unfolding squared
  dx_squared_lem = claimed_word 7 Multiply _ _ ∙ ap (λ d. result Multiply d d) (claimed_word 5 Subtract _ _)

  dy_squared_lem : (dy_squared q).written.word.bits ≡ squared (result Subtract q.position.y.bits q.centre.y.bits)
  unfolding squared
  dy_squared_lem = claimed_word 8 Multiply _ _ ∙ ap (λ d. result Multiply d d) (claimed_word 6 Subtract _ _)

  sum_is : (sum_claim q).written.word.bits ≡ squared_distance q.position q.centre
  unfolding squared_distance
  sum_is =
      claimed_word 9 Add _ _ ∙ ap (λ a. result Add a (dy_squared q).written.word.bits) dx_squared_lem
      ∙ ap (result Add (squared (result Subtract q.position.x.bits q.centre.x.bits))) dy_squared_lem

  root_is : (root_claim q).written.word.bits ≡ distance q.position q.centre
  unfolding distance
  root_is = claimed_word 10 SquareRoot _ _ ∙ ap (λ s. result SquareRoot s 0) sum_is

  inside_is : result AtMost (root_claim q).written.word.bits q.radius.bits ≡ within_radius q
  unfolding within_radius
  inside_is = ap (λ d. result AtMost d q.radius.bits) root_is

  enters : enter_of (inside_claim q) ≡ Enter (code_of AtMost) 10 4 (record { bits = within_radius q })
  enters =
      claimed_enter 11 AtMost _ _
      ∙ ap (λ cell. Enter (code_of AtMost) cell 4 (record { bits = result AtMost (root_claim q).written.word.bits q.radius.bits })) (claimed_cell 10 SquareRoot _ _)
      ∙ ap (λ word. Enter (code_of AtMost) 10 4 (record { bits = word })) inside_is

up_other : (up : ℕ) → cond (eqb up 0) 1 0 ≡ up → ⊥
up_other up same = grind (arith, nat_tests)

turned_other : (h : Hints) → turned h ≡ h → ⊥
turned_other h same = up_other h.up (ap (λ (k : Hints). k.up) same)

forged_other : (serial : ℕ) (c : Claim) → settle_of serial (forged_if true c) ≡ settle_of serial c → ⊥
forged_other serial c same = let hints : turned c.written.hints ≡ c.written.hints = cc in turned_other c.written.hints hints

pub plan_shows : (q : Request) (serial : ℕ) (calls : List OpenCall) → calls ≡ plan_of q serial → Shows q serial calls
unfolding calls_of
plan_shows q serial calls same = record {
  compared = ap enters_comparison same ∙ enters q;
  forged = λ asked root. forged_other serial (root_claim q) (sym (ap (λ b. settle_of serial (forged_if b (root_claim q))) asked) ∙ sym (ap settles_root same) ∙ root);
}
