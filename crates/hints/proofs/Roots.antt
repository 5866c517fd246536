-- The whole square root: its digits give it, and two numbers cannot both be it.
use Rattle.std.proofs.Common.{◌≡◌, ℕ, zero, suc, ◌+◌, ◌-◌, ◌*◌, ◌/◌, ◌^◌, ◌<◌, ◌≤◌, inl, inr, ap, mul-le-mul, arith}
use native.Mathlib.Nat.{pow-succ'}
use Rattle.std.proofs.lemmas.Bool.{cases_lt, cases_order, le-leb, lt-leb}
use Rattle.hints.specs.Scheme.{floor_root, root_with_rest}

-- r is the whole square root of n
pub record IsRoot (n r : ℕ) : Type 0 where
  pub below : r * r ≤ n
  pub above : n < (r + 1) * (r + 1)

pub root_unique : (n r s : ℕ) → IsRoot n r → IsRoot n s → r ≡ s
root_unique n r s is_r is_s =
    elim (cases_order r s) [
      | inl same ↦ same
      | inr (inl less) ↦ absurd (omega (arith, mul-le-mul {n₁ = r + 1} {m₁ = r + 1} {n₂ = s} {m₂ = s} (omega arith) (omega arith), is_r.above, is_s.below))
      | inr (inr more) ↦ absurd (omega (arith, mul-le-mul {n₁ = s + 1} {m₁ = s + 1} {n₂ = r} {m₂ = r} (omega arith) (omega arith), is_r.below, is_s.above))
    ]

pub digits_root : (b n : ℕ) → n < 4 ^ b → IsRoot n (floor_root b n)
unfolding floor_root
digits_root zero n fits = record { below = omega arith; above = omega arith }
digits_root (suc b) n fits =
    let q = floor_root b (n / 4) in
    let step : 4 ^ suc b ≡ 4 * 4 ^ b = pow-succ' 4 b in
    let found = digits_root b (n / 4) (omega arith) in
    elim (cases_lt n ((2 * q + 1) * (2 * q + 1))) [
      | inl less ↦ rw (lt-leb ((2 * q + 1) * (2 * q + 1)) n less) (record { below = omega (arith, found.below); above = less })
      | inr more ↦ rw (le-leb ((2 * q + 1) * (2 * q + 1)) n more) (record { below = more; above = omega (arith, found.above) })
    ]

-- the whole square root with what it leaves over, by what it squares to
pub root_found : (n r : ℕ) → n < 2 ^ 52 → r * r ≤ n → n < (r + 1) * (r + 1) → (r, n - r * r) ≡ root_with_rest n
root_found n r fits below above =
    ap (λ (x : ℕ). (x, n - x * x)) (root_unique n r (floor_root 26 n) (record { below = below; above = above }) (digits_root 26 n fits))
