-- A magnitude is nearest to the values close to its size.
use Rattle.std.proofs.Common.{◌≡◌, ℕ, suc, ◌+◌, ◌-◌, ◌*◌, ◌^◌, ◌<◌, ◌≤◌, mul-le-mul_right, arith}
use Rattle.binary32.specs.Sizes.{size}
use Rattle.binary32.proofs.Sizes.{size_rises}
use Rattle.rounding.specs.Exact.{Value, ratio, Above, Below}
use Rattle.rounding.specs.Nearest.{middle}
use Rattle.rounding.specs.Cut.{Close}
use Rattle.rounding.specs.Laws.{KeepsClose}
use Rattle.rounding.proofs.Neighbours.{Reaches, Stays, from_neighbours}
use Rattle.rounding.proofs.Spacing.{size_apart}
use Rattle.rounding.proofs.Unique.{nearest_is}

module _ (V : Value) (c m S : ℕ) (normal : 2 ^ 23 ≤ m) (here : size c * 2 ^ 251 ≡ m * 2 ^ 26 * 2 ^ S) (close : Close V m S) where
  significant : 2 ^ 23 * 2 ^ S ≤ m * 2 ^ S
  significant = mul-le-mul_right (2 ^ S) normal

  reaches : 0 < c → Reaches V (c - 1)
  reaches some =
      let next : suc (c - 1) ≡ c = omega arith in
      let gap : 2 ^ 24 * size (c - 1) + size c ≤ 2 ^ 24 * size c = rw next at (size_apart (c - 1)) in
      let above : Above V (middle (c - 1) c) = close.over (middle (c - 1) c) (omega (arith, significant)) in
      record { not_below = rw next (omega arith); even = rw next (λ on. absurd (omega arith)) }

  stays : Stays V c
  stays =
      let below : Below V (middle c (suc c)) = close.under (middle c (suc c)) (omega (arith, significant, size_apart c, size_rises c (suc c) (omega arith))) in
      record { not_above = omega arith; even = λ on. absurd (omega arith) }

pub keeps_close : KeepsClose
keeps_close V c m S sound within normal here close =
    nearest_is V c sound (from_neighbours V sound c within (reaches V c m S normal here close) (λ _. stays V c m S normal here close))

-- a ratio is close to m · 2^26 · 2^S / 2^251 by its distance, times the divisor
pub close_ratio : (n d m S : ℕ) → m * 2 ^ 26 * 2 ^ S * d < n * 2 ^ 251 + 2 ^ 24 * 2 ^ S * d → n * 2 ^ 251 < m * 2 ^ 26 * 2 ^ S * d + 2 ^ 24 * 2 ^ S * d → Close (ratio n d) m S
close_ratio n d m S least most =
    record {
      over = λ h within. omega (arith, mul-le-mul_right d within);
      under = λ h beyond. omega (arith, mul-le-mul_right d beyond);
    }
