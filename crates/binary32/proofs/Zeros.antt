-- Leading zeros of one number in fields of different widths, and a number moved up to the top of its field.
use Rattle.std.proofs.Common.{◌≡◌, ℕ, suc, ◌+◌, ◌*◌, ◌^◌, ◌<◌, ◌≤◌, sym, ap, ◌∙◌, mul-le-mul_right, mul_assoc, mul-lt-mul_of_pos_right, arith, pow_pos, pow-add}
use native.Mathlib.Nat.{pow-succ'}
use lib.Count.{count_leading_zeros, leading_length, leading_unique, leading_top}

-- a field that is d bits wider has d zeros more in front
pub zeros_wider : (d k n : ℕ) → n < 2 ^ k → count_leading_zeros (d + k) n ≡ d + count_leading_zeros k n
zeros_wider d k n fits =
    let found = leading_length k n fits in
    sym (leading_unique (d + k) n (d + count_leading_zeros k n) found.0 (omega (arith, found.1)) found.2 found.3)

module _ (k a : ℕ) (some : 0 < a) (fits : a < 2 ^ k) where
  -- moved up by its leading zeros a number still fits its field
  pub lifted_below : a * 2 ^ count_leading_zeros k a < 2 ^ k
  lifted_below =
      let top = leading_top k a some fits in
      let whole : 2 ^ suc top.0 * 2 ^ count_leading_zeros k a ≡ 2 ^ k =
      sym (pow-add 2 (suc top.0) (count_leading_zeros k a)) ∙ ap (λ n. 2 ^ n) (omega (arith, top.1)) in
      rw whole at (mul-lt-mul_of_pos_right top.3 (pow_pos (count_leading_zeros k a)))

  -- and has the field's highest bit
  pub lifted_top : 2 ^ k ≤ 2 * (a * 2 ^ count_leading_zeros k a)
  lifted_top =
      let top = leading_top k a some fits in
      let z = count_leading_zeros k a in
      let whole : 2 ^ k ≡ 2 * (2 ^ top.0 * 2 ^ z) =
      ap (λ n. 2 ^ n) (omega (arith, top.1)) ∙ pow-add 2 (suc top.0) z ∙ ap (λ n. n * 2 ^ z) (pow-succ' 2 top.0) ∙ mul_assoc 2 (2 ^ top.0) (2 ^ z) in
      let below : 2 ^ top.0 * 2 ^ z ≤ a * 2 ^ z = mul-le-mul_right (2 ^ z) top.2 in
      omega arith
