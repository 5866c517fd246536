-- The parts of a word, which is given by the number that its 32 bits are.
use Rattle.std.specs.Prelude.{ℕ, ◌+◌, ◌-◌, ◌*◌, ◌/◌, ◌%◌, ◌^◌, Bool, true, false, cond, not, ◌==◌}
use Rattle.std.specs.Int.Count.{count_leading_zeros}
use Rattle.binary32.specs.declared.word.NormalForm.{NormalForm}
use Rattle.binary32.specs.declared.word.Class.{Class}
use Rattle.binary32.specs.declared.word.Class.TheVariants.{Nan, Infinity, Zero, Finite}

-- bit 31: the word is negative
abbrev pub sign_bit : ℕ → Bool
sign_bit w = w / 2 ^ 31 % 2 ^ 1 == 1

-- bits 30 to 23
abbrev pub field_of : ℕ → ℕ
field_of w = w / 2 ^ 23 % 2 ^ 8

-- bits 22 to 0
abbrev pub fraction_of : ℕ → ℕ
fraction_of w = w / 2 ^ 0 % 2 ^ 23

-- bits 30 to 0
abbrev pub magnitude_of : ℕ → ℕ
magnitude_of w = w / 2 ^ 0 % 2 ^ 31

-- The normal form of the absolute value that an exponent field and a fraction stand for.
abbrev pub normal_of : ℕ → ℕ → NormalForm
normal_of E F =
    cond (E == 0)
    (record { significand = F * 2 ^ count_leading_zeros 24 F; exponent = 23 - count_leading_zeros 24 F })
    (record { significand = 2 ^ 23 + F; exponent = E + 22 })

abbrev pub class_with : ℕ → ℕ → Class
class_with E F = cond (E == 255) (cond (F == 0) Infinity Nan) (cond (E == 0) (cond (F == 0) Zero (Finite (normal_of E F))) (Finite (normal_of E F)))

abbrev pub class_of : ℕ → Class
class_of w = class_with (field_of w) (fraction_of w)

-- the word of a sign and a magnitude
abbrev pub composed : Bool → ℕ → ℕ
composed negative m = cond negative (2 ^ 31 + magnitude_of m) (magnitude_of m)

abbrev pub is_nan : Class → Bool
is_nan Nan = true
is_nan Infinity = false
is_nan Zero = false
is_nan (Finite n) = false

-- the word with its sign turned, unless it is a NaN
abbrev pub turned_of : ℕ → ℕ
turned_of w = cond (is_nan (class_of w)) w (composed (not (sign_bit w)) (magnitude_of w))
