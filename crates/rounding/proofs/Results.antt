-- A step that is rounded has a sound exact result.
use Rattle.std.proofs.Common.{◌≡◌, ℕ, ◌<◌, Bool, true, false, cond, refl, ap, inl, inr, arith}
use Rattle.std.proofs.lemmas.Bool.{cases_eq}
use Rattle.binary32.specs.Sizes.{size}
use Rattle.binary32.specs.Words.{magnitude_of, field_of, fraction_of, class_of, turned_of}
use Rattle.binary32.specs.Steps.{step_of, quotient_of, opposite}
use Rattle.binary32.specs.declared.operation.Operation.{Operation}
use Rattle.binary32.specs.declared.operation.Operation.TheVariants.{Add, Subtract, Multiply, Divide, SquareRoot, Equal, Less, AtMost}
use Rattle.binary32.specs.declared.step.Exact.{Exact}
use Rattle.binary32.specs.declared.step.Step.{Step}
use Rattle.binary32.specs.declared.step.Step.TheVariants.{Direct, Rounded}
use Rattle.binary32.specs.declared.word.Class.{Class}
use Rattle.binary32.specs.declared.word.Class.TheVariants.{Nan, Infinity, Zero, Finite}
use Rattle.binary32.proofs.Sizes.{size_rises}
use Rattle.rounding.specs.Exact.{ratio, Sound, exact_of}

either_sound : (t : Bool) (m n : ℕ) → Sound (cond t (ratio m 1) (ratio n 1))
either_sound true m n = omega arith
either_sound false m n = omega arith

class_zero : (w : ℕ) → magnitude_of w ≡ 0 → class_of w ≡ Zero
class_zero w none =
    let field : field_of w ≡ 0 = omega arith in
    let fraction : fraction_of w ≡ 0 = omega arith in
    rw (field, fraction)

is_rounded : Step → ℕ
is_rounded (Direct w) = 0
is_rounded (Rounded negative exact) = 1

-- a quotient by zero is direct
direct_by_zero : (a b : ℕ) (p : Class) → is_rounded (quotient_of a b p Zero) ≡ 0
unfolding is_rounded
direct_by_zero a b Nan = refl
direct_by_zero a b Infinity = refl
direct_by_zero a b Zero = refl
direct_by_zero a b (Finite n) = refl

divisor : (a b : ℕ) (negative : Bool) (exact : Exact) → step_of Divide a b ≡ Rounded negative exact → 0 < size (magnitude_of b)
unfolding is_rounded
divisor a b negative exact rounded =
    elim (cases_eq (magnitude_of b) 0) [
      | inr some ↦ omega (arith, size_rises 0 (magnitude_of b) (omega arith))
      | inl none ↦
          let direct : is_rounded (step_of Divide a b) ≡ 0 = rw (class_zero b none) (direct_by_zero a b (class_of a)) in
          absurd (omega (arith, direct, ap is_rounded rounded))
    ]

pub sound_exact : (op : Operation) (a b : ℕ) (negative : Bool) (exact : Exact) → step_of op a b ≡ Rounded negative exact → Sound (exact_of op a b)
sound_exact Add a b negative exact rounded = either_sound (opposite a b) _ _
sound_exact Subtract a b negative exact rounded = either_sound (opposite a (turned_of b)) _ _
sound_exact Multiply a b negative exact rounded = omega arith
sound_exact Divide a b negative exact rounded = divisor a b negative exact rounded
sound_exact SquareRoot a b negative exact rounded = omega arith
sound_exact Equal a b negative exact rounded = omega arith
sound_exact Less a b negative exact rounded = omega arith
sound_exact AtMost a b negative exact rounded = omega arith
