-- A value has no two nearest magnitudes.
use Rattle.std.proofs.Common.{◌≡◌, ℕ, suc, ◌<◌, ◌≤◌, inl, inr, arith}
use Rattle.std.proofs.lemmas.Bool.{cases_eq, cases_order}
use Rattle.binary32.proofs.Sizes.{size_rises}
use Rattle.rounding.specs.Exact.{Value, Sound, On}
use Rattle.rounding.specs.Nearest.{Nearest, nearest, top, middle}
use Rattle.rounding.specs.Laws.{IsUnique}
use Rattle.rounding.proofs.Climb.{is_nearest}
use Rattle.rounding.proofs.Halves.{half_rises}

module _ (V : Value) (sound : Sound V) where
  -- The value would be on the middle of both. If they are neighbours, both are even; if not, then it would lie above the
  -- middle of the lower and the one after it.
  not_two : (m n : ℕ) → Nearest V m → Nearest V n → m < n → ⊥
  not_two m n at_m at_n less =
      let on : On V (middle m n) = omega (arith, at_m.not_above n less at_n.candidate, at_n.not_below m less) in
      elim (cases_eq (suc m) n) [
        | inl beside ↦ omega (arith, at_m.even_above n less at_n.candidate on, at_n.even_below m less on)
        | inr apart ↦
            let within : suc m ≤ top = omega (arith, at_n.candidate) in
            omega (arith, on, at_m.not_above (suc m) (omega arith) within, half_rises V sound (middle m (suc m)) (middle m n) (omega (arith, size_rises (suc m) n (omega arith))))
      ]

pub unique : IsUnique
unique V m n sound at_m at_n =
    elim (cases_order m n) [
      | inl same ↦ same
      | inr (inl less) ↦ absurd (not_two V sound m n at_m at_n less)
      | inr (inr more) ↦ absurd (not_two V sound n m at_n at_m more)
    ]

-- so a magnitude that is nearest is the nearest
pub nearest_is : (V : Value) (m : ℕ) → Sound V → Nearest V m → nearest V ≡ m
nearest_is V m sound near = unique V (nearest V) m sound (is_nearest V sound) near
