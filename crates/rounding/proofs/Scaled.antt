-- A value known by its leading bits, against the multiples of half a power of two: as those bits moved up to where the power
-- is 2^k, against the same multiple of 2^k.
use Rattle.std.proofs.Common.{◌≡◌, ℕ, suc, ◌+◌, ◌-◌, ◌*◌, ◌^◌, ◌<◌, ◌≤◌, sym, ap, ◌∙◌, inl, inr, mul-le-mul_right, lt_of_mul-lt-mul_right, mul-lt-mul_of_pos_right, le_of_mul-le-mul_right, arith, pow_pos, pow-add}
use native.Mathlib.Nat.{eq_of_mul-eq-mul_right, pow-succ'}
use Rattle.std.proofs.lemmas.Bool.{cases_eq}
use Rattle.rounding.specs.Exact.{Value, Above, On, Below}
use Rattle.rounding.specs.Cut.{Lies}

module _ (main S lift U k : ℕ) (level : S + k ≡ U + 251 + lift) where
  scale : 2 ^ S * 2 ^ k ≡ 2 ^ U * 2 ^ 251 * 2 ^ lift
  scale = sym (pow-add 2 S k) ∙ ap (λ n. 2 ^ n) level ∙ pow-add 2 (U + 251) lift ∙ ap (λ n. n * 2 ^ lift) (pow-add 2 U 251)

  module _ (g : ℕ) where
    -- both sides times 2^lift
    scaled_multiple : g * 2 ^ U * 2 ^ 251 * 2 ^ lift ≡ g * 2 ^ k * 2 ^ S
    scaled_multiple = omega (arith, ap (λ n. g * n) scale)

    scaled_main : 2 * main * 2 ^ S * 2 ^ lift ≡ 2 * (main * 2 ^ lift) * 2 ^ S
    scaled_main = omega arith

    more : g * 2 ^ k < 2 * (main * 2 ^ lift) → g * 2 ^ U * 2 ^ 251 < 2 * main * 2 ^ S
    more over = lt_of_mul-lt-mul_right (2 ^ lift) (rw (scaled_multiple, scaled_main) (mul-lt-mul_of_pos_right over (pow_pos S)))

    equal : g * 2 ^ k ≡ 2 * (main * 2 ^ lift) → g * 2 ^ U * 2 ^ 251 ≡ 2 * main * 2 ^ S
    equal same = eq_of_mul-eq-mul_right (2 ^ lift) (pow_pos lift) _ _ (rw (scaled_multiple, scaled_main) (ap (λ n. n * 2 ^ S) same))

    less : 2 * (main * 2 ^ lift) < g * 2 ^ k → 2 * main * 2 ^ S < g * 2 ^ U * 2 ^ 251
    less under = lt_of_mul-lt-mul_right (2 ^ lift) (rw (scaled_multiple, scaled_main) (mul-lt-mul_of_pos_right under (pow_pos S)))

    -- where the cut is above what `main` was lifted by, whole numbers of 2^lift are compared, so less is less by one
    short : lift < k → 2 * (main * 2 ^ lift) < g * 2 ^ k → 2 * main * 2 ^ S + 2 * 2 ^ S ≤ g * 2 ^ U * 2 ^ 251
    short room under =
        let w = 2 ^ (k - suc lift) in
        let q = 2 ^ lift in
        let power : 2 ^ k ≡ 2 * q * w = ap (λ n. 2 ^ n) (omega arith) ∙ pow-add 2 (suc lift) (k - suc lift) ∙ ap (λ n. n * w) (pow-succ' 2 lift) in
        let under' : main * (2 * q) < g * w * (2 * q) = omega (arith, ap (λ n. g * n) power) in
        let by_one : suc main ≤ g * w = lt_of_mul-lt-mul_right (2 * q) under' in
        let lifted : suc main * (2 * q) ≤ g * w * (2 * q) = mul-le-mul_right (2 * q) by_one in
        let whole : 2 * (main * q) + 2 * q ≤ g * 2 ^ k = omega (arith, ap (λ n. g * n) power) in
        let scaled : (2 * (main * q) + 2 * q) * 2 ^ S ≤ g * 2 ^ k * 2 ^ S = mul-le-mul_right (2 ^ S) whole in
        let both : (2 * main * 2 ^ S + 2 * 2 ^ S) * q ≤ g * 2 ^ U * 2 ^ 251 * q = omega (arith, scaled_multiple) in
        le_of_mul-le-mul_right both (pow_pos lift)

module _ (V : Value) (main rest S lift U k : ℕ) (lies : Lies V main rest S) (level : S + k ≡ U + 251 + lift)
    (room : (rest ≡ 0 → ⊥) → lift < k) (g : ℕ) where
  pub above_scaled : g * 2 ^ k < 2 * (main * 2 ^ lift) → Above V (g * 2 ^ U)
  above_scaled over = lies.more (g * 2 ^ U) (more main S lift U k level g over)

  pub below_scaled : 2 * (main * 2 ^ lift) < g * 2 ^ k → Below V (g * 2 ^ U)
  below_scaled under =
      elim (cases_eq rest 0) [
        | inl none ↦ lies.less (g * 2 ^ U) none (less main S lift U k level g under)
        | inr some ↦ lies.short (g * 2 ^ U) some (short main S lift U k level g (room some) under)
      ]

  pub on_scaled : rest ≡ 0 → g * 2 ^ k ≡ 2 * (main * 2 ^ lift) → On V (g * 2 ^ U)
  on_scaled none same = lies.equal (g * 2 ^ U) none (equal main S lift U k level g same)

  pub past_scaled : (rest ≡ 0 → ⊥) → g * 2 ^ k ≡ 2 * (main * 2 ^ lift) → Above V (g * 2 ^ U)
  past_scaled some same = lies.beyond (g * 2 ^ U) some (equal main S lift U k level g same)
