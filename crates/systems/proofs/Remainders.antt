-- What remainders say of numbers: those of a sum and of a product are found by remainders alone, and small numbers are told apart.
use Rattle.std.specs.Prelude.{◌==◌}
use Rattle.std.proofs.Common.{◌≡◌, ℕ, ◌+◌, ◌*◌, ◌%◌, ◌^◌, ◌<◌, ◌≤◌, refl, arith}
use Rattle.std.proofs.Math.Nat.{add-mod, mod-eq_of_lt}
use Rattle.std.proofs.lemmas.Nat.{mul-mod}

pub two_products : (a b c d m : ℕ) → ((a % m) * (b % m) % m + (c % m) * (d % m) % m) % m ≡ (a * b + c * d) % m
two_products a b c d m = let front = mul-mod a b m in let back = mul-mod c d m in let whole = add-mod (a * b) (c * d) m in cc

pub product_and_term : (a b c m : ℕ) → ((a % m) * (b % m) % m + c % m) % m ≡ (a * b + c) % m
product_and_term a b c m = let product = mul-mod a b m in let whole = add-mod (a * b) c m in cc

-- modulo 2 ^ 56 or more, numbers below 2 ^ 56 are equal just where their remainders are
pub told_apart : (m l r : ℕ) → 2 ^ 56 ≤ m → l < 2 ^ 56 → r < 2 ^ 56 → (l % m == r % m) ≡ (l == r)
told_apart m l r large left_fits right_fits =
    let left : l % m ≡ l = mod-eq_of_lt (omega arith) in
    let right : r % m ≡ r = mod-eq_of_lt (omega arith) in
    rw (left, right) refl
