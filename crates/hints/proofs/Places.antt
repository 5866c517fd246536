-- Where the exact result of a step lies, by the hints main and rest.
use Rattle.std.proofs.Common.{◌≡◌, ℕ, suc, ◌+◌, ◌-◌, ◌*◌, ◌/◌, ◌^◌, ◌<◌, ◌≤◌, sym, refl, ap, ◌∙◌, lt_of_mul-lt-mul_right, mul-lt-mul_of_pos_right, le_of_mul-le-mul_right, arith, pow_pos, pow-add}
use native.Mathlib.Nat.{eq_of_mul-eq-mul_right}
use Rattle.binary32.specs.declared.word.NormalForm.{NormalForm}
use Rattle.binary32.proofs.Normal.{Stands}
use Rattle.rounding.specs.Exact.{ratio, root}
use Rattle.rounding.specs.Cut.{Lies}
use Rattle.rounding.proofs.Lies.{lies_ratio, lies_root}
use Rattle.hints.specs.Settings.{alignment_of, radicand_shift}

product_some : (a b : ℕ) → 0 < a → 0 < b → 0 < a * b
product_some a b some some' = omega (arith, mul-lt-mul_of_pos_right {m = 0} {n = a} {k = b} some some')

-- a ratio that main gives exactly
pub lies_exactly : (n d main S : ℕ) → 0 < d → main * 2 ^ S * d ≡ n * 2 ^ 251 → Lies (ratio n d) main 0 S
lies_exactly n d main S divides same =
    lies_ratio n d main 0 S divides (omega arith)
    (omega (arith, product_some (2 ^ S) d (pow_pos S) divides))
    (λ none. same) (λ some. absurd (some refl))

module _ (x y : NormalForm) (s t : ℕ) (stands_x : Stands x s) (stands_y : Stands y t) where
  pub product_lies : Lies (ratio (s * t) (2 ^ 149)) (x.significand * y.significand) 0 (x.exponent + y.exponent + 56)
  product_lies =
      let p = 2 ^ x.exponent in
      let q = 2 ^ y.exponent in
      let powers : 2 ^ (x.exponent + y.exponent + 56) ≡ p * q * 2 ^ 56 =
      pow-add 2 (x.exponent + y.exponent) 56 ∙ ap (λ n. n * 2 ^ 56) (pow-add 2 x.exponent y.exponent) in
      let both : s * t * 2 ^ 46 ≡ x.significand * p * (y.significand * q) =
      omega (arith, ap (λ n. n * (t * 2 ^ 23)) stands_x, ap (λ n. x.significand * p * n) stands_y) in
      lies_exactly (s * t) (2 ^ 149) (x.significand * y.significand) (x.exponent + y.exponent + 56) (omega arith)
      (rw powers (omega arith))

  -- where the smaller operand of a sum is not cut off
  aligned : x.exponent - y.exponent ≤ 26 → y.exponent ≤ x.exponent → 2 ^ alignment_of x y * 2 ^ x.exponent ≡ 2 ^ 26 * 2 ^ y.exponent
  aligned near ordered =
      let same : alignment_of x y + x.exponent ≡ 26 + y.exponent = omega arith in
      sym (pow-add 2 (alignment_of x y) x.exponent) ∙ ap (λ n. 2 ^ n) same ∙ pow-add 2 26 y.exponent

  pub sum_lies : x.exponent - y.exponent ≤ 26 → y.exponent ≤ x.exponent →
      Lies (ratio (s + t) 1) (x.significand * 2 ^ 26 + y.significand * 2 ^ alignment_of x y) 0 (x.exponent + 202)
  sum_lies near ordered =
      let moved : y.significand * 2 ^ alignment_of x y * 2 ^ x.exponent ≡ y.significand * (2 ^ 26 * 2 ^ y.exponent) =
      omega (arith, ap (λ n. y.significand * n) (aligned near ordered)) in
      lies_exactly (s + t) 1 _ (x.exponent + 202) (omega arith) (rw (pow-add 2 x.exponent 202) (omega arith))

  pub difference_lies : (main : ℕ) → x.exponent - y.exponent ≤ 26 → y.exponent ≤ x.exponent →
      main + y.significand * 2 ^ alignment_of x y ≡ x.significand * 2 ^ 26 → Lies (ratio (s - t) 1) main 0 (x.exponent + 202)
  difference_lies main near ordered equation =
      let moved : y.significand * 2 ^ alignment_of x y * 2 ^ x.exponent ≡ y.significand * (2 ^ 26 * 2 ^ y.exponent) =
      omega (arith, ap (λ n. y.significand * n) (aligned near ordered)) in
      let scaled : main * 2 ^ x.exponent + y.significand * 2 ^ alignment_of x y * 2 ^ x.exponent ≡ x.significand * 2 ^ 26 * 2 ^ x.exponent =
      omega (arith, ap (λ n. n * 2 ^ x.exponent) equation) in
      lies_exactly (s - t) 1 main (x.exponent + 202) (omega arith) (rw (pow-add 2 x.exponent 202) (omega arith))

  pub quotient_lies : (main rest : ℕ) → y.exponent ≤ 276 → 0 < t → rest < y.significand →
      x.significand * 2 ^ 26 ≡ main * y.significand + rest → Lies (ratio (s * 2 ^ 149) t) main rest (x.exponent + 374 - y.exponent)
  quotient_lies main rest bounded divides width equation =
      let S = x.exponent + 374 - y.exponent in
      let m = x.significand in
      let d = y.significand in
      let p = 2 ^ x.exponent in
      let q = 2 ^ y.exponent in
      let level : S + y.exponent ≡ x.exponent + 374 = omega arith in
      let powers : 2 ^ S * q ≡ p * 2 ^ 374 = sym (pow-add 2 S y.exponent) ∙ ap (λ n. 2 ^ n) level ∙ pow-add 2 x.exponent 374 in
      let one : 2 ^ S * t * 2 ^ 23 ≡ d * (p * 2 ^ 374) =
      omega (arith, ap (λ n. 2 ^ S * n) stands_y, ap (λ n. d * n) powers) in
      let low : main * 2 ^ S * t * 2 ^ 23 ≡ main * d * p * 2 ^ 374 = omega (arith, ap (λ n. main * n) one) in
      let value : s * 2 ^ 400 * 2 ^ 23 ≡ (main * d + rest) * p * 2 ^ 374 =
      omega (arith, ap (λ n. n * p) equation) in
      let short : rest * p < d * p = mul-lt-mul_of_pos_right width (pow_pos x.exponent) in
      lies_ratio (s * 2 ^ 149) t main rest S divides (omega arith) (omega arith)
      (λ none. omega (arith, ap (λ n. n * p) none))
      (λ some. omega (arith, mul-lt-mul_of_pos_right {m = 0} {n = rest} {k = p} (omega arith) (pow_pos x.exponent)))

-- a root, with its powers of two as any numbers
module _ (main rest s m z f p A B C K : ℕ) (powers : z * z * f ≡ p * K) (stands : s * C ≡ m * p) (equation : m * f ≡ main * main + rest)
    (scale : K * C ≡ A * B) (some_f : 0 < f * C) (some_p : 0 < p * (A * B)) where
  scaled_square : (r : ℕ) → r * z * (r * z) * (f * C) ≡ r * r * (p * (A * B))
  scaled_square r = omega (arith, ap (λ n. r * r * C * n) powers, ap (λ n. r * r * p * n) scale)

  scaled_value : s * A * B * (f * C) ≡ (main * main + rest) * (p * (A * B))
  scaled_value = omega (arith, ap (λ n. A * B * f * n) stands, ap (λ n. p * A * B * n) equation)

  root_least : main * z * (main * z) ≤ s * A * B
  root_least = le_of_mul-le-mul_right {k = f * C} (omega (arith, scaled_square main, scaled_value)) some_f

  root_most : rest < 2 * main + 1 → s * A * B < suc main * z * (suc main * z)
  root_most width =
      let short : (main * main + rest) * (p * (A * B)) < suc main * suc main * (p * (A * B)) = mul-lt-mul_of_pos_right (omega arith) some_p in
      lt_of_mul-lt-mul_right (f * C) (omega (arith, scaled_square (suc main), scaled_value))

  root_exact : rest ≡ 0 → main * z * (main * z) ≡ s * A * B
  root_exact none =
      eq_of_mul-eq-mul_right (f * C) some_f (main * z * (main * z)) (s * A * B)
      (omega (arith, scaled_square main, scaled_value, ap (λ n. n * (p * (A * B))) none))

  root_inexact : (rest ≡ 0 → ⊥) → main * z * (main * z) < s * A * B
  root_inexact some =
      let more : 0 * (p * (A * B)) < rest * (p * (A * B)) = mul-lt-mul_of_pos_right {m = 0} {n = rest} {k = p * (A * B)} (omega arith) some_p in
      lt_of_mul-lt-mul_right (f * C) (omega (arith, scaled_square main, scaled_value))

module _ (x : NormalForm) (s : ℕ) (stands : Stands x s) where
  pub root_lies : (main rest : ℕ) → rest < 2 * main + 1 → x.significand * 2 ^ radicand_shift x ≡ main * main + rest →
      Lies (root (s * 2 ^ 149)) main rest ((x.exponent + 628 - radicand_shift x) / 2)
  root_lies main rest width equation =
      let S = (x.exponent + 628 - radicand_shift x) / 2 in
      let f = 2 ^ radicand_shift x in
      let p = 2 ^ x.exponent in
      let level : S + S + radicand_shift x ≡ x.exponent + 628 = omega arith in
      let powers : 2 ^ S * 2 ^ S * f ≡ p * 2 ^ 628 =
      ap (λ n. n * f) (sym (pow-add 2 S S)) ∙ sym (pow-add 2 (S + S) (radicand_shift x)) ∙ ap (λ n. 2 ^ n) level ∙ pow-add 2 x.exponent 628 in
      let some_f : 0 < f * 2 ^ 23 = omega (arith, pow_pos (radicand_shift x)) in
      let some_p : 0 < p * (2 ^ 149 * 2 ^ 502) = product_some p (2 ^ 149 * 2 ^ 502) (pow_pos x.exponent) (pow_pos 651) in
      lies_root (s * 2 ^ 149) main rest S
      (root_least main rest s x.significand (2 ^ S) f p (2 ^ 149) (2 ^ 502) (2 ^ 23) (2 ^ 628) powers stands equation refl some_f some_p)
      (root_most main rest s x.significand (2 ^ S) f p (2 ^ 149) (2 ^ 502) (2 ^ 23) (2 ^ 628) powers stands equation refl some_f some_p width)
      (root_exact main rest s x.significand (2 ^ S) f p (2 ^ 149) (2 ^ 502) (2 ^ 23) (2 ^ 628) powers stands equation refl some_f some_p)
      (root_inexact main rest s x.significand (2 ^ S) f p (2 ^ 149) (2 ^ 502) (2 ^ 23) (2 ^ 628) powers stands equation refl some_f some_p)
