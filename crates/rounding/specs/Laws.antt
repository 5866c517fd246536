-- What holds of the nearest magnitude.
use Rattle.std.specs.Prelude.{◌≡◌, ℕ, ◌+◌, ◌*◌, ◌^◌, ◌≤◌, min}
use Rattle.binary32.specs.Sizes.{size}
use Rattle.rounding.specs.Exact.{Value, ratio, Sound, weight, half}
use Rattle.rounding.specs.Nearest.{Nearest, nearest, top}
use Rattle.rounding.specs.Cut.{Lies, Cut, Close}

-- The nearest magnitude of a value is nearest to it.
abbrev pub IsNearest : Type 0
IsNearest = (V : Value) → Sound V → Nearest V (nearest V)

-- No other is.
abbrev pub IsUnique : Type 0
IsUnique = (V : Value) (m n : ℕ) → Sound V → Nearest V m → Nearest V n → m ≡ n

-- From 2^128 up, which is 2^277 units, the nearest magnitude is that of infinity.
abbrev pub Overflows : Type 0
Overflows = (V : Value) → Sound V → half V (2 * 2 ^ 277) ≤ weight V → nearest V ≡ top

-- A value that a magnitude has is rounded to it.
abbrev pub KeepsSizes : Type 0
KeepsSizes = (m : ℕ) → m ≤ top → nearest (ratio (size m) 1) ≡ m

-- A value is rounded by its leading bits alone, and whether anything lies beyond them.
abbrev pub RoundsCut : Type 0
RoundsCut =
    (V : Value) (main rest S lift U k keep drop up : ℕ) → Sound V → Lies V main rest S → Cut main rest S lift U k keep drop up →
    nearest V ≡ min (U * 2 ^ 23 + keep + up) top

-- A magnitude whose size is m · 2^26 · 2^S / 2^251, where m has 24 bits, is nearest to each value close to it: the next sizes
-- are 2^26 · 2^S / 2^251 away or more, or half of that below a power of two.
abbrev pub KeepsClose : Type 0
KeepsClose =
    (V : Value) (c m S : ℕ) → Sound V → c ≤ top → 2 ^ 23 ≤ m → size c * 2 ^ 251 ≡ m * 2 ^ 26 * 2 ^ S → Close V m S → nearest V ≡ c

-- The laws of the nearest magnitude, together.
pub record Rounding : Type 0 where
  pub nearest_is : IsNearest
  pub only_one : IsUnique
  pub beyond_all : Overflows
  pub kept_sizes : KeepsSizes
