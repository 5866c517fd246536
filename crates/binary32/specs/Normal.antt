-- What a normal form is, and what the normal forms of a rounded step keep.
use Rattle.std.specs.Prelude.{◌≡◌, ℕ, ◌*◌, ◌^◌, ◌<◌, ◌≤◌}
use Rattle.binary32.specs.declared.word.NormalForm.{NormalForm}
use Rattle.binary32.specs.declared.word.Class.{Class}
use Rattle.binary32.specs.declared.word.Class.TheVariants.{Nan, Infinity, Zero, Finite}
use Rattle.binary32.specs.declared.step.Exact.{Exact}
use Rattle.binary32.specs.declared.step.Exact.TheVariants.{Sum, Difference, Product, Quotient, Root}
use Rattle.binary32.specs.declared.step.Step.{Step}
use Rattle.binary32.specs.declared.step.Step.TheVariants.{Direct, Rounded}

-- 2^23 ≤ m < 2^24, and e from −172 to 104
pub record Normalized (n : NormalForm) : Type 0 where
  pub low : 2 ^ 23 ≤ n.significand
  pub high : n.significand < 2 ^ 24
  pub bounded : n.exponent ≤ 276

-- A normal form stands for a size of s units of 2^(−149): m · 2^e is that many units.
abbrev pub Stands : NormalForm → ℕ → Type 0
Stands n s = s * 2 ^ 23 ≡ n.significand * 2 ^ n.exponent

-- what the class of a word says of its size: a finite nonzero word has the normal form that stands for it
abbrev pub Sized : Class → ℕ → Type 0
Sized Nan s = Unit {0}
Sized Infinity s = Unit {0}
Sized Zero s = s ≡ 0
Sized (Finite n) s = Normalized n × Stands n s

-- the first stands for no smaller value than the second
pub record Ordered (x y : NormalForm) : Type 0 where
  pub exponents : y.exponent ≤ x.exponent
  pub significands : x.exponent ≡ y.exponent → y.significand ≤ x.significand

-- what is known of the normal forms in an exact result
abbrev pub Proper : Exact → Type 0
Proper (Sum x y) = Normalized x × Normalized y × Ordered x y
Proper (Difference x y) = Normalized x × Normalized y × Ordered x y × (x.exponent ≡ y.exponent → y.significand < x.significand)
Proper (Product x y) = Normalized x × Normalized y
Proper (Quotient x y) = Normalized x × Normalized y
Proper (Root x) = Normalized x

abbrev pub ProperStep : Step → Type 0
ProperStep (Direct w) = Unit {0}
ProperStep (Rounded negative x) = Proper x
