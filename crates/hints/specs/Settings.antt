-- The setting of a rounded step, from its exact result.
use Rattle.std.specs.Prelude.{ℕ, ◌+◌, ◌-◌, ◌*◌, ◌/◌, ◌%◌, ◌^◌, ◌<◌, ◌≤◌, min, Bool}
use Rattle.binary32.specs.declared.word.NormalForm.{NormalForm}
use Rattle.binary32.specs.declared.step.Exact.{Exact}
use Rattle.binary32.specs.declared.step.Exact.TheVariants.{Sum, Difference, Product, Quotient, Root}
use Rattle.hints.specs.declared.setting.Kind.{Kind}
use Rattle.hints.specs.declared.setting.Kind.TheVariants as kind

-- what contracts see of a setting
pub record Figures : Type 0 where
  pub kind : Kind
  pub negative : Bool
  pub first : ℕ
  pub second : ℕ
  pub shift : ℕ
  pub scale : ℕ

-- The exponents of normal forms are 172 too high, and a scale is s + 400. So s = e₁ − 26 of a sum has the scale
-- (e₁ + 172) + 202; s = e₁ + e₂ of a product, s = e₁ − e₂ − 26 of a quotient and s = (e₁ − t) / 2 of a root go likewise.

-- 26 − g, where g is the smaller of e₁ − e₂ and 26
abbrev pub alignment_of : NormalForm → NormalForm → ℕ
alignment_of x y = 26 - min (x.exponent - y.exponent) 26

-- 26 or 27, whichever has the parity of e₁
abbrev pub radicand_shift : NormalForm → ℕ
radicand_shift x = 26 + x.exponent % 2

abbrev pub two_of : Kind → Bool → NormalForm → NormalForm → ℕ → ℕ → Figures
two_of k n x y shift scale =
    record { kind = k; negative = n; first = x.significand; second = y.significand; shift = shift; scale = scale }

abbrev pub kind_of : Exact → Kind
kind_of (Sum x y) = kind.Sum
kind_of (Difference x y) = kind.Difference
kind_of (Product x y) = kind.Product
kind_of (Quotient x y) = kind.Quotient
kind_of (Root x) = kind.Root

abbrev pub setting_of : Bool → Exact → Figures
setting_of n (Sum x y) = two_of kind.Sum n x y (alignment_of x y) (x.exponent + 202)
setting_of n (Difference x y) = two_of kind.Difference n x y (alignment_of x y) (x.exponent + 202)
setting_of n (Product x y) = two_of kind.Product n x y 0 (x.exponent + y.exponent + 56)
setting_of n (Quotient x y) = two_of kind.Quotient n x y 0 (x.exponent + 374 - y.exponent)
setting_of n (Root x) = record {
  kind = kind.Root;
  negative = n;
  first = x.significand;
  second = 0;
  shift = radicand_shift x;
  scale = (x.exponent + 628 - radicand_shift x) / 2;
}

-- the figures that are numbers
abbrev pub numbers_in : Figures → ℕ × ℕ × ℕ × ℕ
numbers_in s = (s.first, s.second, s.shift, s.scale)

-- what the significands of each kind of step keep
abbrev pub Suits : Kind → ℕ → ℕ → ℕ → Type 0
Suits kind.Sum first second shift = shift ≤ 26
Suits kind.Difference first second shift = (shift ≤ 26) × (second * 2 ^ shift < first * 2 ^ 26)
Suits kind.Product first second shift = 2 ^ 23 ≤ second
Suits kind.Quotient first second shift = 2 ^ 23 ≤ second
Suits kind.Root first second shift = (26 ≤ shift) × (shift ≤ 27)

pub record Fit (σ : Figures) : Type 0 where
  pub low : 2 ^ 23 ≤ σ.first
  pub high : σ.first < 2 ^ 24
  pub second_high : σ.second < 2 ^ 24
  pub scaled : σ.scale ≤ 1000
  pub suits : Suits σ.kind σ.first σ.second σ.shift
