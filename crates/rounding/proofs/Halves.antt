-- Halves of whole numbers keep their order on the scale of a value.
use Rattle.std.proofs.Common.{ℕ, ◌<◌, ◌≤◌, inl, inr, mul-lt-mul_of_pos_right, arith}
use Rattle.std.proofs.lemmas.Bool.{cases_eq}
use Rattle.std.proofs.lemmas.Nat.{mul-lt}
use Rattle.rounding.specs.Exact.{Value, ratio, root, Sound, half}

pub half_rises : (V : Value) → Sound V → (g h : ℕ) → g < h → half V g < half V h
half_rises (ratio n d) divides g h less = mul-lt-mul_of_pos_right less divides
half_rises (root n) sound g h less = mul-lt g g h h less less

pub half_keeps : (V : Value) → Sound V → (g h : ℕ) → g ≤ h → half V g ≤ half V h
half_keeps V sound g h within =
    elim (cases_eq g h) [
      | inl same ↦ rw same (omega arith)
      | inr other ↦ omega (arith, half_rises V sound g h (omega arith))
    ]
