-- Main is some number within its width, whatever the kind of step.
use Rattle.std.proofs.Common.{ℕ, ◌+◌, ◌*◌, ◌/◌, ◌^◌, ◌<◌, ◌≤◌, inl, inr, mul-le-mul, mul-le-mul_left, arith, pow_mono}
use Rattle.std.proofs.lemmas.Bool.{cases_lt}
use Rattle.std.proofs.lemmas.Nat.{div_below, le-div, mul-lt, shl_below}
use Rattle.hints.specs.Scheme.{principal_by, principal_of, main_width}
use Rattle.hints.specs.Settings.{Suits, Fit}
use Rattle.hints.specs.declared.setting.Setting.{Setting}
use Rattle.hints.specs.declared.setting.Kind.{Kind}
use Rattle.hints.specs.declared.setting.Kind.TheVariants.{Sum, Difference, Product, Quotient, Root}
use Rattle.hints.proofs.Roots.{IsRoot, digits_root}

-- a significand moved up by at most `most` bits
pub moved_below : (m by most : ℕ) → m < 2 ^ 24 → by ≤ most → m * 2 ^ by < 2 ^ (24 + most)
moved_below m by most high near = omega (arith, shl_below m 24 by high, pow_mono {i = 24 + by} {j = 24 + most} (omega arith))

pub record Within (k : Kind) (main : ℕ) : Type 0 where
  pub some : 0 < main
  pub width : main < 2 ^ main_width k

module _ (first second shift : ℕ) (low : 2 ^ 23 ≤ first) (high : first < 2 ^ 24) (second_high : second < 2 ^ 24) where
  -- a quotient of significands has 26 or 27 bits
  pub quotient_low : 2 ^ 23 ≤ second → 2 ^ 25 ≤ first * 2 ^ 26 / second
  quotient_low some = le-div (2 ^ 25) (first * 2 ^ 26) second (omega arith) (omega arith)

  quotient_high : 2 ^ 23 ≤ second → first * 2 ^ 26 / second < 2 ^ 27
  quotient_high some = div_below (first * 2 ^ 26) second (2 ^ 27) (omega arith) (omega arith)

  pub radicand_low : 26 ≤ shift → 2 ^ 49 ≤ first * 2 ^ shift
  radicand_low wide =
      let wider : first * 2 ^ 26 ≤ first * 2 ^ shift = mul-le-mul_left first (pow_mono {i = 26} {j = shift} wide) in
      omega arith

  pub radicand_high : shift ≤ 27 → first * 2 ^ shift < 2 ^ 51
  radicand_high near = moved_below first shift 27 high near

-- the root of a number from 2^49 to 2^51 has 25 or 26 bits
pub root_low : (n r : ℕ) → 2 ^ 48 ≤ n → IsRoot n r → 2 ^ 24 ≤ r
root_low n r large is =
    elim (cases_lt r (2 ^ 24)) [
      | inl less ↦ absurd (omega (arith, mul-le-mul {n₁ = r + 1} {m₁ = r + 1} {n₂ = 2 ^ 24} {m₂ = 2 ^ 24} (omega arith) (omega arith), is.above))
      | inr more ↦ more
    ]

root_high : (n r : ℕ) → n < 2 ^ 52 → IsRoot n r → r < 2 ^ 26
root_high n r small is =
    elim (cases_lt r (2 ^ 26)) [
      | inl less ↦ less
      | inr more ↦ absurd (omega (arith, mul-le-mul {n₁ = 2 ^ 26} {m₁ = 2 ^ 26} {n₂ = r} {m₂ = r} more more, is.below))
    ]

pub main_within : (k : Kind) (first second shift : ℕ) → 2 ^ 23 ≤ first → first < 2 ^ 24 → second < 2 ^ 24 →
    Suits k first second shift → Within k (principal_by k first second shift).0
main_within Sum first second shift low high second_high near =
    record { some = omega arith; width = omega (arith, moved_below second shift 26 second_high near) }
main_within Difference first second shift low high second_high suits =
    record { some = omega (arith, suits.1); width = omega arith }
main_within Product first second shift low high second_high some =
    record {
      some = omega (arith, mul-le-mul {n₁ = 2 ^ 23} {m₁ = 2 ^ 23} {n₂ = first} {m₂ = second} low some);
      width = mul-lt first second (2 ^ 24) (2 ^ 24) high second_high;
    }
main_within Quotient first second shift low high second_high some =
    record {
      some = omega (arith, quotient_low first second shift low high second_high some);
      width = quotient_high first second shift low high second_high some;
    }
main_within Root first second shift low high second_high suits =
    let n = first * 2 ^ shift in
    let large = radicand_low first second shift low high second_high suits.0 in
    let small = radicand_high first second shift low high second_high suits.1 in
    let is = digits_root 26 n (omega arith) in
    record { some = omega (arith, root_low n _ (omega arith) is); width = root_high n _ (omega arith) is }

-- no width is above 51
pub width_at_most : (k : Kind) → main_width k ≤ 51
width_at_most Sum = omega arith
width_at_most Difference = omega arith
width_at_most Product = omega arith
width_at_most Quotient = omega arith
width_at_most Root = omega arith

-- the main of a setting
pub record Main (main : ℕ) : Type 0 where
  pub some : 0 < main
  pub fits : main < 2 ^ 51

pub main_fits : (σ : Setting) → Fit σ → Main (principal_of σ).0
main_fits σ fit =
    let within = main_within σ.kind σ.first σ.second σ.shift fit.low fit.high fit.second_high fit.suits in
    record { some = within.some; fits = omega (arith, within.width, pow_mono {i = main_width σ.kind} {j = 51} (width_at_most σ.kind)) }
