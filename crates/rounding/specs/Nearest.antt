-- The nearest magnitude to a value, ties to even, and the result of an operation.
use Rattle.std.specs.Prelude.{◌≡◌, ℕ, zero, suc, ◌+◌, ◌-◌, ◌%◌, ◌^◌, ◌<◌, ◌≤◌, Bool, cond, ◌&&◌, ◌||◌, ◌==◌, nat_le, nat_lt}
use Rattle.binary32.specs.Sizes.{size}
use Rattle.binary32.specs.Words.{composed}
use Rattle.binary32.specs.Steps.{step_of}
use Rattle.binary32.specs.declared.operation.Operation.{Operation}
use Rattle.binary32.specs.declared.step.Step.{Step}
use Rattle.binary32.specs.declared.step.Step.TheVariants.{Direct, Rounded}
use Rattle.rounding.specs.Exact.{Value, weight, half, On, exact_of}

-- The candidates are the magnitudes from 0 to that of infinity, which stands for 2^128.
abbrev pub top : ℕ
top = 0x7f800000

-- the double of the middle of two magnitudes
abbrev pub middle : ℕ → ℕ → ℕ
middle x y = size x + size y

-- `m` is a candidate to which the value is at least as near as to any other, and it is even where some other
-- is just as near.
pub record Nearest (V : Value) (m : ℕ) : Type 0 where
  pub candidate : m ≤ top
  pub not_below : (x : ℕ) → x < m → half V (middle x m) ≤ weight V
  pub even_below : (x : ℕ) → x < m → On V (middle x m) → m % 2 ≡ 0
  pub not_above : (x : ℕ) → m < x → x ≤ top → weight V ≤ half V (middle m x)
  pub even_above : (x : ℕ) → m < x → x ≤ top → On V (middle m x) → m % 2 ≡ 0

-- A value passes a magnitude if it lies above the middle of it and the next, or on that middle and the
-- magnitude is odd.
abbrev pub passes : Value → ℕ → Bool
passes V c = nat_lt (half V (middle c (suc c))) (weight V) || (half V (middle c (suc c)) == weight V && c % 2 == 1)

-- `r` with its bits below bit `b` filled in, from the highest: each is set if the value passes all that is below the sum.
unfoldable pub climb : Value → ℕ → ℕ → ℕ
climb V zero r = r
climb V (suc b) r = climb V b (cond (nat_le (r + 2 ^ b) top && passes V (r + 2 ^ b - 1)) (r + 2 ^ b) r)

-- The nearest magnitude is the least that the value does not pass; the highest is passed by nothing.
unfoldable pub nearest : Value → ℕ
nearest V = climb V 31 0

abbrev pub result_with : Step → Value → ℕ
result_with (Direct w) V = w.bits
result_with (Rounded negative x) V = composed negative (nearest V)

-- The result of an operation on two words: direct, or the nearest magnitude to the exact result under its sign.
abbrev pub result : Operation → ℕ → ℕ → ℕ
result op a b = result_with (step_of op a b) (exact_of op a b)
