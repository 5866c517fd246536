-- The scheme of the six hints, over whole numbers.
use Rattle.std.specs.Prelude.{ℕ, zero, suc, ◌+◌, ◌-◌, ◌*◌, ◌/◌, ◌%◌, ◌^◌, min, cond, nat_le}
use Rattle.std.specs.Int.Count.{count_leading_zeros}
pub use Rattle.rounding.specs.Cut.{rounds_up}
use Rattle.hints.specs.declared.setting.Setting.{Setting}
use Rattle.hints.specs.declared.setting.Kind.{Kind}
use Rattle.hints.specs.declared.setting.Kind.TheVariants.{Sum, Difference, Product, Quotient, Root}

-- u + 149, where u is the larger of s − lift + 27 and −149: the difference stops at 0
abbrev pub exponent_of : ℕ → ℕ → ℕ
exponent_of scale lift = scale - (224 + lift)

-- k, the smaller of u + lift − s and 52
abbrev pub cut_of : ℕ → ℕ → ℕ
cut_of scale lift = min (exponent_of scale lift + 251 + lift - scale) 52

-- what the hint up has to be
abbrev pub up_of : ℕ → ℕ → ℕ → ℕ → ℕ
up_of k rest keep drop = cond (rounds_up k rest keep drop) 1 0

-- the magnitude of the word, which stops at infinity
abbrev pub magnitude_from : ℕ → ℕ → ℕ → ℕ
magnitude_from exponent keep up = min (exponent * 2 ^ 23 + keep + up) 0x7f800000

-- The whole square root of a number below 4^b, by its binary digits from the highest.
unfoldable pub floor_root : ℕ → ℕ → ℕ
floor_root zero n = 0
floor_root (suc b) n = let r = 2 * floor_root b (n / 4) in cond (nat_le ((r + 1) * (r + 1)) n) (r + 1) r

-- the whole square root of a number below 4^26, and what it leaves over
abbrev pub root_with_rest : ℕ → ℕ × ℕ
root_with_rest n = (floor_root 26 n, n - floor_root 26 n * floor_root 26 n)

abbrev pub principal_by : Kind → ℕ → ℕ → ℕ → ℕ × ℕ
principal_by Sum first second shift = (first * 2 ^ 26 + second * 2 ^ shift, 0)
principal_by Difference first second shift = (first * 2 ^ 26 - second * 2 ^ shift, 0)
principal_by Product first second shift = (first * second, 0)
principal_by Quotient first second shift = (first * 2 ^ 26 / second, first * 2 ^ 26 % second)
principal_by Root first second shift = root_with_rest (first * 2 ^ shift)

-- main and rest, by the kind of step
abbrev pub principal_of : Setting → ℕ × ℕ
principal_of σ = principal_by σ.kind σ.first σ.second σ.shift

-- the zeros in front of main in a field of 51 bits
abbrev pub lift_of : ℕ → ℕ
lift_of main = count_leading_zeros 51 main

-- main is below 2 to this power
abbrev pub main_width : Kind → ℕ
main_width Sum = 51
main_width Difference = 51
main_width Product = 48
main_width Quotient = 27
main_width Root = 26
