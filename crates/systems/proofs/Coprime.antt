-- Two moduli without a common factor fix one number below their product. That p and q have none is shown by a multiple of p
-- that is one above a multiple of q: u * p ≡ v * q + 1.
use Rattle.std.proofs.Common.{◌≡◌, ℕ, ◌+◌, ◌-◌, ◌*◌, ◌/◌, ◌%◌, ◌<◌, ◌≤◌, sym, ap, ◌∙◌, inl, inr, mod-lt, mod-eq_of_lt, mul-le-mul_left, arith}
use native.Mathlib.Nat.{div-add-mod, mul-sub, mul-mod_left, mul-add-mod_self_right, add-mul-mod_self_left, add-mod-mod, mod-mod_of_dvd, dvd-mul_left, dvd-mul_right}
use Rattle.std.proofs.lemmas.Bool.{cases_lt}
use Rattle.std.proofs.lemmas.Nat.{mul-mod, mul-mod_second}
use Rattle.systems.specs.Fixed.{Fixed}

-- numbers with the same remainder lie a multiple of the modulus apart
pub apart_by_multiple : (m x y : ℕ) → x ≤ y → x % m ≡ y % m → y - x ≡ m * (y / m - x / m)
apart_by_multiple m x y ordered same =
    omega (arith, div-add-mod x m, div-add-mod y m, mul-sub m (y / m) (x / m))

module _ (p q u v : ℕ) (coprime : u * p ≡ v * q + 1) where
  -- only 0 is below p * q and a multiple of both
  common_multiple : (d s t : ℕ) → d < p * q → d ≡ p * s → d ≡ q * t → d ≡ 0
  common_multiple d s t within of_p of_q =
      let multiples : t * u * (p * q) ≡ s * v * (p * q) + d = omega (arith, ap (λ n. d * n) coprime, ap (λ n. n * (u * p)) of_q, ap (λ n. n * (v * q)) of_p) in
      sym (mod-eq_of_lt within) ∙ sym (mul-add-mod_self_right (s * v) (p * q) d) ∙ ap (λ n. n % (p * q)) (sym multiples) ∙ mul-mod_left (t * u) (p * q)

  fixed_in_order : (x y : ℕ) → x ≤ y → y < p * q → x % p ≡ y % p → x % q ≡ y % q → x ≡ y
  fixed_in_order x y ordered within same_p same_q =
      let apart : y - x ≡ 0 = common_multiple (y - x) (y / p - x / p) (y / q - x / q) (omega arith) (apart_by_multiple p x y ordered same_p) (apart_by_multiple q x y ordered same_q) in
      omega arith

  pub fixed_by_coprime_moduli : (x y : ℕ) → x < p * q → y < p * q → x % p ≡ y % p → x % q ≡ y % q → x ≡ y
  fixed_by_coprime_moduli x y x_within y_within same_p same_q =
      elim (cases_lt x y) [
        | inl less ↦ fixed_in_order x y (omega arith) y_within same_p same_q
        | inr more ↦ sym (fixed_in_order y x more x_within (sym same_p) (sym same_q))
      ]

  -- u undoes a step of p modulo q, so gap * u steps come to gap
  steps_come_to_gap : (a gap : ℕ) → (a + p * (gap * u % q)) % q ≡ (a + gap) % q
  steps_come_to_gap a gap =
      let multiples : a + p * (gap * u) ≡ gap * v * q + (a + gap) = omega (arith, ap (λ n. gap * n) coprime) in
      sym (add-mod-mod a (p * (gap * u % q)) q) ∙ ap (λ n. (a + n) % q) (mul-mod_second p (gap * u) q) ∙ add-mod-mod a (p * (gap * u)) q
      ∙ ap (λ n. n % q) multiples ∙ mul-add-mod_self_right (gap * v) q (a + gap)

  -- the number that a and b fix, where gap leads from a to b modulo q
  pub steps_fixed : (a b gap : ℕ) → a < p → b < q → (a + gap) % q ≡ b → Fixed p q a b (a + p * (gap * u % q))
  steps_fixed a b gap a_within b_within leads =
      let k : ℕ = gap * u % q in
      let k_within : k < q = mod-lt (gap * u) (omega arith) in
      let within : a + p * k < p * q = omega (arith, mul-le-mul_left p k_within) in
      let left_p : (a + p * k) % p ≡ a = add-mul-mod_self_left a p k ∙ mod-eq_of_lt a_within in
      let left_q : (a + p * k) % q ≡ b = steps_come_to_gap a gap ∙ leads in
      record {
        below = within;
        first_left = left_p;
        second_left = left_q;
        only = λ n n_within n_p n_q. fixed_by_coprime_moduli n (a + p * k) n_within within (n_p ∙ sym left_p) (n_q ∙ sym left_q);
      }

module _ {p q : ℕ} where
  -- a number that leaves both remainders has the fixed number as its remainder modulo p * q
  pub fixed_remainder : {a b x : ℕ} → Fixed p q a b x → (n : ℕ) → n % p ≡ a → n % q ≡ b → x ≡ n % (p * q)
  fixed_remainder fixed n n_p n_q =
      sym (fixed.only (n % (p * q)) (mod-lt n (omega (arith, fixed.below))) (mod-mod_of_dvd p n (dvd-mul_right p q) ∙ n_p) (mod-mod_of_dvd q n (dvd-mul_left q p) ∙ n_q))

  -- the products of the remainders fix the remainder of the product
  pub fixed_product : {a b c d x y z : ℕ} → Fixed p q a b x → Fixed p q c d y → Fixed p q (a * c % p) (b * d % q) z → z ≡ x * y % (p * q)
  fixed_product {x = x} {y = y} left right both =
      fixed_remainder both (x * y) (let s = mul-mod x y p in let l = left.first_left in let r = right.first_left in cc) (let s = mul-mod x y q in let l = left.second_left in let r = right.second_left in cc)
