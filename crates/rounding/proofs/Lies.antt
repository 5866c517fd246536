-- A value lies by its leading bits if it is no less than they are, and less than with one more in them.
use Rattle.std.proofs.Common.{◌≡◌, ℕ, suc, ◌*◌, ◌^◌, ◌<◌, ◌≤◌, ap, mul-le-mul_right, mul-le-mul, mul-lt-mul_of_pos_right, arith}
use Rattle.std.proofs.lemmas.Nat.{mul-lt}
use Rattle.rounding.specs.Exact.{ratio, root}
use Rattle.rounding.specs.Cut.{Lies}

module _ (n d main rest S : ℕ) (divides : 0 < d) (least : main * 2 ^ S * d ≤ n * 2 ^ 251) (most : n * 2 ^ 251 < suc main * 2 ^ S * d)
    (exact : rest ≡ 0 → main * 2 ^ S * d ≡ n * 2 ^ 251) (inexact : (rest ≡ 0 → ⊥) → main * 2 ^ S * d < n * 2 ^ 251) where
  pub lies_ratio : Lies (ratio n d) main rest S
  lies_ratio =
      record {
        more = λ h over. omega (arith, mul-lt-mul_of_pos_right over divides);
        equal = λ h none same. omega (arith, ap (λ x. x * d) same, exact none);
        less = λ h none under. omega (arith, mul-lt-mul_of_pos_right under divides, exact none);
        beyond = λ h some same. omega (arith, ap (λ x. x * d) same, inexact some);
        short = λ h some under. omega (arith, mul-le-mul_right d under);
      }

-- the same of a square root, by squares
module _ (n main rest S : ℕ) (least : main * 2 ^ S * (main * 2 ^ S) ≤ n * 2 ^ 502)
    (most : n * 2 ^ 502 < suc main * 2 ^ S * (suc main * 2 ^ S))
    (exact : rest ≡ 0 → main * 2 ^ S * (main * 2 ^ S) ≡ n * 2 ^ 502)
    (inexact : (rest ≡ 0 → ⊥) → main * 2 ^ S * (main * 2 ^ S) < n * 2 ^ 502) where
  pub lies_root : Lies (root n) main rest S
  lies_root =
      record {
        more = λ h over. omega (arith, mul-lt _ _ _ _ over over);
        equal = λ h none same. omega (arith, ap (λ x. x * x) same, exact none);
        less = λ h none under. omega (arith, mul-lt _ _ _ _ under under, exact none);
        beyond = λ h some same. omega (arith, ap (λ x. x * x) same, inexact some);
        short = λ h some under. omega (arith, mul-le-mul under under);
      }
