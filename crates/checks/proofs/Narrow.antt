-- Hints within their widths keep both sides of each equation below 2^56.
use Rattle.std.proofs.Common.{ℕ, ◌+◌, ◌-◌, ◌*◌, ◌^◌, ◌<◌, ◌≤◌, mul-le-mul_left, arith, pow_mono, shl_lt}
use Rattle.std.proofs.lemmas.Nat.{mul-lt}
use Rattle.hints.specs.Backs.{rest_limit}
use Rattle.hints.specs.Scheme.{main_width}
use Rattle.hints.specs.Settings.{Suits}
use Rattle.hints.specs.declared.setting.Kind.{Kind}
use Rattle.hints.specs.declared.setting.Kind.TheVariants.{Sum, Difference, Product, Quotient, Root}
use Rattle.hints.specs.declared.writer.Hints.{Hints}
use Rattle.checks.specs.Equations.{first_equation, second_equation, Narrow}

-- a significand moved up by at most 27 bits
moved_below : (m by : ℕ) → m < 2 ^ 24 → by ≤ 27 → m * 2 ^ by < 2 ^ 51
moved_below m by high near =
    let wider : m * 2 ^ by ≤ m * 2 ^ 27 = mul-le-mul_left m (pow_mono {i = by} {j = 27} near) in
    omega arith

pub first_narrow : (kind : Kind) (first second shift main rest : ℕ) → first < 2 ^ 24 → second < 2 ^ 24 → Suits kind first second shift →
    main < 2 ^ main_width kind → rest < rest_limit kind second main → Narrow (first_equation kind first second shift main rest)
first_narrow Sum first second shift main rest high second_high near main_fits rest_width =
    record { left = omega (arith, moved_below second shift second_high (omega arith)); right = omega arith }
first_narrow Difference first second shift main rest high second_high suits main_fits rest_width =
    record { left = omega (arith, moved_below second shift second_high (omega (arith, suits.0))); right = omega arith }
first_narrow Product first second shift main rest high second_high some main_fits rest_width =
    record { left = omega (arith, mul-lt first second (2 ^ 24) (2 ^ 24) high second_high); right = omega arith }
first_narrow Quotient first second shift main rest high second_high some main_fits rest_width =
    record { left = omega arith; right = omega (arith, mul-lt main second (2 ^ 27) (2 ^ 24) main_fits second_high) }
first_narrow Root first second shift main rest high second_high suits main_fits rest_width =
    record {
      left = omega (arith, moved_below first shift high suits.1);
      right = omega (arith, mul-lt main main (2 ^ 26) (2 ^ 26) main_fits main_fits);
    }

pub second_narrow : (k : ℕ) (h : Hints) → k ≤ 52 → h.lift ≤ 50 → h.main < 2 ^ (51 - h.lift) →
    h.keep < 2 ^ (51 - k) → h.drop < 2 ^ k → Narrow (second_equation k h)
second_narrow k h cut lift_width lift_high keep_width drop_width =
    let lifted : h.main * 2 ^ h.lift < 2 ^ (51 - h.lift + h.lift) = shl_lt (51 - h.lift) h.lift lift_high in
    let kept : h.keep * 2 ^ k < 2 ^ (51 - k + k) = shl_lt (51 - k) k keep_width in
    record {
      left = omega (arith, pow_mono {i = 51 - h.lift + h.lift} {j = 52} (omega arith));
      right = omega (arith, pow_mono {i = 51 - k + k} {j = 52} (omega arith), pow_mono {i = k} {j = 52} cut);
    }
