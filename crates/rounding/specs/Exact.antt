-- The exact result of a step that is rounded: its absolute value in units of 2^(−149), and its place among halves.
use Rattle.std.specs.Prelude.{◌≡◌, ℕ, ◌+◌, ◌-◌, ◌*◌, ◌^◌, ◌<◌, min, max, cond}
use Rattle.binary32.specs.Sizes.{size}
use Rattle.binary32.specs.Words.{magnitude_of, turned_of}
use Rattle.binary32.specs.Steps.{opposite}
use Rattle.binary32.specs.declared.operation.Operation.{Operation}
use Rattle.binary32.specs.declared.operation.Operation.TheVariants.{Add, Subtract, Multiply, Divide, SquareRoot, Equal, Less, AtMost}

-- `ratio n d` is n / d units; `root n` is as many units as the square root of n.
pub data Value : Type 0 where
  ratio : ℕ → ℕ → Value
  root : ℕ → Value

-- A ratio has a divisor.
abbrev pub Sound : Value → Type 0
Sound (ratio n d) = 0 < d
Sound (root n) = 0 < 1

-- A value and the half of a whole number are compared in whole numbers: n / d with h / 2 as 2 n with h d, and
-- the square root of n with h / 2 as 4 n with h h. `weight` is the first side and `half` the second.
abbrev pub weight : Value → ℕ
weight (ratio n d) = 2 * n
weight (root n) = 4 * n

abbrev pub half : Value → ℕ → ℕ
half (ratio n d) h = h * d
half (root n) h = h * h

-- the value is more than h / 2, just that, or less
abbrev pub Above : Value → ℕ → Type 0
Above V h = half V h < weight V

abbrev pub On : Value → ℕ → Type 0
On V h = half V h ≡ weight V

abbrev pub Below : Value → ℕ → Type 0
Below V h = weight V < half V h

-- A sum of two words has the sum of their sizes where the signs agree, else the larger less the smaller.
abbrev pub sum_of : ℕ → ℕ → Value
sum_of a b =
    cond (opposite a b)
    (ratio (max (size (magnitude_of a)) (size (magnitude_of b)) - min (size (magnitude_of a)) (size (magnitude_of b))) 1)
    (ratio (size (magnitude_of a) + size (magnitude_of b)) 1)

-- The exact result of an operation on two finite words, without its sign. Subtract is add with the second sign
-- turned. A comparison is never rounded.
abbrev pub exact_of : Operation → ℕ → ℕ → Value
exact_of Add a b = sum_of a b
exact_of Subtract a b = sum_of a (turned_of b)
exact_of Multiply a b = ratio (size (magnitude_of a) * size (magnitude_of b)) (2 ^ 149)
exact_of Divide a b = ratio (size (magnitude_of a) * 2 ^ 149) (size (magnitude_of b))
exact_of SquareRoot a b = root (size (magnitude_of a) * 2 ^ 149)
exact_of Equal a b = ratio 0 1
exact_of Less a b = ratio 0 1
exact_of AtMost a b = ratio 0 1
