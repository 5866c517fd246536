-- The size of a magnitude rises strictly.
use Rattle.std.proofs.Common.{◌≡◌, ℕ, ◌+◌, ◌-◌, ◌*◌, ◌/◌, ◌%◌, ◌^◌, ◌<◌, ◌≤◌, eqb, ap, ◌∙◌, inl, inr, mul-le-mul_right, mul-le-mul_left, mul-lt-mul_of_pos_right, arith, pow_pos, pow_mono}
use native.Mathlib.Nat.{pow-succ'}
use Rattle.std.proofs.lemmas.Bool.{eq-eqb, ne_eqb, cond-true, cond-false, cases_eq, cases_order}
use Rattle.binary32.specs.Sizes.{size}

-- below 2^23 a magnitude is its own size
pub size_small : (m : ℕ) → m / 2 ^ 23 ≡ 0 → size m ≡ m % 2 ^ 23
unfolding size
size_small m low = cond-true (eqb (m / 2 ^ 23) 0) _ _ (eq-eqb _ _ low)

pub size_large : (m : ℕ) → 0 < m / 2 ^ 23 → size m ≡ (2 ^ 23 + m % 2 ^ 23) * 2 ^ (m / 2 ^ 23 - 1)
unfolding size
size_large m high = cond-false (eqb (m / 2 ^ 23) 0) _ _ (ne_eqb _ _ (omega arith))

-- a power of two from its predecessor
pow_pred : (e : ℕ) → 0 < e → 2 ^ e ≡ 2 * 2 ^ (e - 1)
pow_pred e some = ap (λ n. 2 ^ n) (omega arith) ∙ pow-succ' 2 (e - 1)

-- the sizes with one exponent field lie below the next power of two
pub size_below : (m : ℕ) → size m < 2 ^ 23 * 2 ^ (m / 2 ^ 23)
size_below m =
    elim (cases_eq (m / 2 ^ 23) 0) [
      | inl low ↦ rw (size_small m low, low) (omega arith)
      | inr high ↦
          let some : 0 < m / 2 ^ 23 = omega arith in
          rw (size_large m some, pow_pred (m / 2 ^ 23) some)
          (let p = 2 ^ (m / 2 ^ 23 - 1) in
          let pos : 0 < p = pow_pos (m / 2 ^ 23 - 1) in
          let scaled : (2 ^ 23 + m % 2 ^ 23) * p < (2 ^ 24) * p = mul-lt-mul_of_pos_right (omega arith) pos in
          omega arith)
    ]

-- and from the power before
pub size_above : (m : ℕ) → 0 < m / 2 ^ 23 → 2 ^ 23 * 2 ^ (m / 2 ^ 23 - 1) ≤ size m
size_above m some = rw (size_large m some) (mul-le-mul_right (2 ^ (m / 2 ^ 23 - 1)) (omega arith))

rises_within : (m n : ℕ) → m / 2 ^ 23 ≡ n / 2 ^ 23 → m < n → size m < size n
rises_within m n same less =
    elim (cases_eq (m / 2 ^ 23) 0) [
      | inl low ↦ let low' : n / 2 ^ 23 ≡ 0 = omega arith in rw (size_small m low, size_small n low') (omega arith)
      | inr high ↦
          let some : 0 < m / 2 ^ 23 = omega arith in
          let some' : 0 < n / 2 ^ 23 = omega arith in
          rw (size_large m some, size_large n some', same)
          (mul-lt-mul_of_pos_right (omega arith) (pow_pos (n / 2 ^ 23 - 1)))
    ]

rises_across : (m n : ℕ) → m / 2 ^ 23 < n / 2 ^ 23 → size m < size n
rises_across m n apart =
    let some : 0 < n / 2 ^ 23 = omega arith in
    let wider : 2 ^ 23 * 2 ^ (m / 2 ^ 23) ≤ 2 ^ 23 * 2 ^ (n / 2 ^ 23 - 1) = mul-le-mul_left (2 ^ 23) (pow_mono (omega arith)) in
    omega (arith, size_below m, size_above n some)

pub size_rises : (m n : ℕ) → m < n → size m < size n
size_rises m n less =
    elim (cases_order (m / 2 ^ 23) (n / 2 ^ 23)) [
      | inl same ↦ rises_within m n same less
      | inr (inl apart) ↦ rises_across m n apart
      | inr (inr back) ↦ absurd (omega arith)
    ]
