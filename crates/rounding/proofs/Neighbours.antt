-- A candidate is nearest to a value if the value lies rightly by the middles to its two neighbours.
use Rattle.std.proofs.Common.{◌≡◌, ℕ, suc, ◌-◌, ◌*◌, ◌%◌, ◌<◌, ◌≤◌, inl, inr, arith}
use Rattle.std.proofs.lemmas.Bool.{cases_eq}
use Rattle.binary32.specs.Sizes.{size}
use Rattle.binary32.proofs.Sizes.{size_rises}
use Rattle.rounding.specs.Exact.{Value, Sound, weight, half, On}
use Rattle.rounding.specs.Nearest.{Nearest, top, middle}
use Rattle.rounding.proofs.Halves.{half_rises, half_keeps}

pub size_keeps : (m n : ℕ) → m ≤ n → size m ≤ size n
size_keeps m n within =
    elim (cases_eq m n) [
      | inl same ↦ rw same (omega arith)
      | inr other ↦ omega (arith, size_rises m n (omega arith))
    ]

-- the value is not below the middle of c and the next magnitude, and if it is on it then the next is even
pub record Reaches (V : Value) (c : ℕ) : Type 0 where
  pub not_below : half V (middle c (suc c)) ≤ weight V
  pub even : On V (middle c (suc c)) → suc c % 2 ≡ 0

-- the value is not above that middle, and if it is on it then c is even
pub record Stays (V : Value) (c : ℕ) : Type 0 where
  pub not_above : weight V ≤ half V (middle c (suc c))
  pub even : On V (middle c (suc c)) → c % 2 ≡ 0

module _ (V : Value) (sound : Sound V) where
  -- what holds of the middle to the next lower magnitude holds of every lower middle
  below : (m x : ℕ) → x < m → half V (middle x m) ≤ half V (middle (m - 1) m)
  below m x less = half_keeps V sound (middle x m) (middle (m - 1) m) (omega (arith, size_keeps x (m - 1) (omega arith)))

  above : (m x : ℕ) → m < x → half V (middle m (suc m)) ≤ half V (middle m x)
  above m x more = half_keeps V sound (middle m (suc m)) (middle m x) (omega (arith, size_keeps (suc m) x more))

  pub from_neighbours : (m : ℕ) → m ≤ top → (0 < m → Reaches V (m - 1)) → (m < top → Stays V m) → Nearest V m
  from_neighbours m within reaches stays =
      let next : 0 < m → suc (m - 1) ≡ m = omega arith in
      let low : 0 < m → half V (middle (m - 1) m) ≤ weight V = λ some. rw (next some) at (reaches some).not_below in
      let low_even : 0 < m → On V (middle (m - 1) m) → m % 2 ≡ 0 = λ some. rw (next some) at (reaches some).even in
      record {
        candidate = within;
        not_below = λ x less. omega (arith, below m x less, low (omega arith));
        even_below = λ x less on. low_even (omega arith) (omega (arith, below m x less, low (omega arith)));
        not_above = λ x more fits. omega (arith, above m x more, (stays (omega arith)).not_above);
        even_above = λ x more fits on. (stays (omega arith)).even (omega (arith, above m x more, (stays (omega arith)).not_above));
      }

  -- a value from a magnitude's own size up reaches it, and one up to that size stays
  pub reaches_from : (m : ℕ) → half V (2 * size m) ≤ weight V → 0 < m → Reaches V (m - 1)
  reaches_from m from some =
      let next : suc (m - 1) ≡ m = omega arith in
      let lower = half_rises V sound (middle (m - 1) m) (2 * size m) (omega (arith, size_rises (m - 1) m (omega arith))) in
      record {
        not_below = rw next (omega arith);
        even = rw next (λ on. absurd (omega arith));
      }

  pub stays_from : (m : ℕ) → weight V ≤ half V (2 * size m) → Stays V m
  stays_from m upto =
      let higher = half_rises V sound (2 * size m) (middle m (suc m)) (omega (arith, size_rises m (suc m) (omega arith))) in
      record { not_above = omega arith; even = λ on. absurd (omega arith) }
