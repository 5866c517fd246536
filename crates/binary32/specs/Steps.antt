-- The step that an operation takes on two words: direct by the first line that fits, else rounded.
use Rattle.std.specs.Prelude.{ℕ, Bool, true, false, cond, not, ◌&&◌, ◌||◌, ◌==◌, nat_lt, Option, None, Some}
use Rattle.std.specs.Ordering.{nat_cmp}
use Rattle.std.specs.declared.cmp.Ordering.{Ordering}
use Rattle.binary32.specs.Sizes.{level}
use Rattle.binary32.specs.Words.{sign_bit, magnitude_of, class_of, composed, turned_of, is_nan}
use Rattle.binary32.specs.declared.operation.Operation.{Operation}
use Rattle.binary32.specs.declared.operation.Operation.TheVariants.{Add, Subtract, Multiply, Divide, SquareRoot, Equal, Less, AtMost}
use Rattle.binary32.specs.declared.step.Exact.TheVariants.{Sum, Difference, Product, Quotient, Root}
use Rattle.binary32.specs.declared.step.Step.{Step}
use Rattle.binary32.specs.declared.step.Step.TheVariants.{Direct, Rounded}
use Rattle.binary32.specs.declared.word.NormalForm.{NormalForm}
use Rattle.binary32.specs.declared.word.Class.{Class}
use Rattle.binary32.specs.declared.word.Class.TheVariants.{Nan, Infinity, Zero, Finite}

abbrev pub is_infinity : Class → Bool
is_infinity Nan = false
is_infinity Infinity = true
is_infinity Zero = false
is_infinity (Finite n) = false

abbrev pub is_zero : Class → Bool
is_zero Nan = false
is_zero Infinity = false
is_zero Zero = true
is_zero (Finite n) = false

-- the normal form of a finite nonzero word
abbrev pub normal : Class → NormalForm
normal Nan = record { significand = 0; exponent = 0 }
normal Infinity = record { significand = 0; exponent = 0 }
normal Zero = record { significand = 0; exponent = 0 }
normal (Finite n) = n

-- just one of the two words is negative
abbrev pub opposite : ℕ → ℕ → Bool
opposite a b = cond (sign_bit a) (not (sign_bit b)) (sign_bit b)

-- a direct line: where its test fits it gives the word, else the lines below it decide
abbrev pub line : Bool → ℕ → Step → Step
line fits w others = cond fits (Direct (record { bits = w })) others

-- The word of a NaN result, by the operands.
abbrev pub nan_result : ℕ → ℕ → ℕ
nan_result a b = 0x7fc00000

abbrev pub infinity : ℕ
infinity = 0x7f800000

-- A rounded sum of two words, of which the first has the larger magnitude: it takes that word's sign.
abbrev pub rounded_sum : ℕ → ℕ → NormalForm → NormalForm → Step
rounded_sum a b x y = Rounded (sign_bit a) (cond (opposite a b) (Difference x y) (Sum x y))

abbrev pub sum_of : ℕ → ℕ → Class → Class → Step
sum_of a b p q =
    line (is_nan p || is_nan q) (nan_result a b)
    (line (is_infinity p && (is_infinity q && opposite a b)) (nan_result a b)
    (line (is_infinity p) a
    (line (is_infinity q) b
    (line (is_zero p && is_zero q) (cond (sign_bit a && sign_bit b) 0x80000000 0)
    (line (is_zero p) b
    (line (is_zero q) a
    (line (magnitude_of a == magnitude_of b && opposite a b) 0
    (cond (nat_lt (magnitude_of a) (magnitude_of b))
    (rounded_sum b a (normal q) (normal p))
    (rounded_sum a b (normal p) (normal q))))))))))

abbrev pub sum_step : ℕ → ℕ → Step
sum_step a b = sum_of a b (class_of a) (class_of b)

abbrev pub product_of : ℕ → ℕ → Class → Class → Step
product_of a b p q =
    line (is_nan p || is_nan q) (nan_result a b)
    (line ((is_zero p && is_infinity q) || (is_infinity p && is_zero q)) (nan_result a b)
    (line (is_infinity p || is_infinity q) (composed (opposite a b) infinity)
    (line (is_zero p || is_zero q) (composed (opposite a b) 0)
    (Rounded (opposite a b) (Product (normal p) (normal q))))))

abbrev pub quotient_of : ℕ → ℕ → Class → Class → Step
quotient_of a b p q =
    line (is_nan p || is_nan q) (nan_result a b)
    (line ((is_zero p && is_zero q) || (is_infinity p && is_infinity q)) (nan_result a b)
    (line (is_infinity p || is_zero q) (composed (opposite a b) infinity)
    (line (is_zero p || is_infinity q) (composed (opposite a b) 0)
    (Rounded (opposite a b) (Quotient (normal p) (normal q))))))

abbrev pub root_of : ℕ → Class → Step
root_of a p =
    line (is_nan p) (nan_result a a)
    (line (sign_bit a && not (is_zero p)) (nan_result a a)
    (line (is_zero p) a
    (line (is_infinity p) infinity
    (Rounded false (Root (normal p))))))

-- A comparison answers 1 for yes and 0 for no; of a NaN the answer is no.
abbrev pub comparison : Class → Class → Bool → Step
comparison p q holds = line (not (is_nan p || is_nan q) && holds) 0x3f800000 (Direct (record { bits = 0 }))

-- how two words stand by value: a NaN in no order
abbrev pub order_of : ℕ → ℕ → Option Ordering
order_of a b = cond (is_nan (class_of a) || is_nan (class_of b)) None (Some (nat_cmp (level a) (level b)))

abbrev pub answer_of : Bool → Step
answer_of holds = Direct (record { bits = cond holds 0x3f800000 0 })

-- Subtract is add with the second sign turned.
abbrev pub step_of : Operation → ℕ → ℕ → Step
step_of Add a b = sum_step a b
step_of Subtract a b = sum_step a (turned_of b)
step_of Multiply a b = product_of a b (class_of a) (class_of b)
step_of Divide a b = quotient_of a b (class_of a) (class_of b)
step_of SquareRoot a b = root_of a (class_of a)
step_of Equal a b = comparison (class_of a) (class_of b) (level a == level b)
step_of Less a b = comparison (class_of a) (class_of b) (nat_lt (level a) (level b))
step_of AtMost a b = comparison (class_of a) (class_of b) (nat_lt (level a) (level b) || level a == level b)
