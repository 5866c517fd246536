-- The pair's two remainders fix one number.
use Rattle.std.proofs.Common.{◌≡◌, ℕ, ◌+◌, ◌-◌, ◌*◌, ◌%◌, ◌<◌, refl, arith}
use Rattle.systems.specs.Fixed.{Fixed}
use Rattle.systems.specs.Joined.{joined}
use Rattle.systems.proofs.Coprime.{steps_fixed, fixed_product}

pub joined_fixed : (a b : ℕ) → a < 2147483647 → b < 2013265921 → Fixed 2147483647 2013265921 a b (joined a b)
joined_fixed a b a_within b_within =
    let leads : (a + (b + 2 * 2013265921 - a)) % 2013265921 ≡ b = omega arith in
    steps_fixed 2147483647 2013265921 1039104991 1108378656 refl a b (b + 2 * 2013265921 - a) a_within b_within leads

-- the products of the remainders fix the remainder of the product
pub joined_product : (a b c d : ℕ) → a < 2147483647 → b < 2013265921 → c < 2147483647 → d < 2013265921
    → joined (a * c % 2147483647) (b * d % 2013265921) ≡ joined a b * joined c d % 0x3C00000007FFFFFF
joined_product a b c d a_within b_within c_within d_within =
    fixed_product (joined_fixed a b a_within b_within) (joined_fixed c d c_within d_within)
    (joined_fixed (a * c % 2147483647) (b * d % 2013265921) (omega arith) (omega arith))
