-- The setting of a proper exact result fits the writer.
use Rattle.std.proofs.Common.{◌≡◌, ◌*◌, ◌^◌, ◌<◌, ◌≤◌, Bool, inl, inr, mul-le-mul_left, arith, pow_mono}
use Rattle.std.proofs.lemmas.Bool.{cases_eq}
use Rattle.binary32.specs.Normal.{Normalized, Ordered, Proper}
use Rattle.binary32.specs.declared.word.NormalForm.{NormalForm}
use Rattle.binary32.specs.declared.step.Exact.{Exact}
use Rattle.binary32.specs.declared.step.Exact.TheVariants.{Sum, Difference, Product, Quotient, Root}
use Rattle.std.proofs.Common.{false}
use Rattle.hints.specs.Settings.{kind_of, numbers_in, setting_of, alignment_of, Fit}

-- the smaller operand of a difference stays below the larger
smaller : (x y : NormalForm) → Normalized x → Normalized y → Ordered x y → (x.exponent ≡ y.exponent → y.significand < x.significand) →
    y.significand * 2 ^ alignment_of x y < x.significand * 2 ^ 26
smaller x y normal_x normal_y ordered strict =
    elim (cases_eq x.exponent y.exponent) [
      | inl same ↦
          let whole : alignment_of x y ≡ 26 = omega arith in
          let less = strict same in
          rw whole (omega arith)
      | inr apart ↦
          let near : alignment_of x y ≤ 25 = omega (arith, ordered.exponents) in
          let wider : y.significand * 2 ^ alignment_of x y ≤ y.significand * 2 ^ 25 =
          mul-le-mul_left y.significand (pow_mono {i = alignment_of x y} {j = 25} near) in
          omega (arith, normal_x.low, normal_y.high)
    ]

pub setting_fits : (n : Bool) (x : Exact) → Proper x → Fit (setting_of n x)
setting_fits n (Sum x y) proper = record {
  low = proper.0.low;
  high = proper.0.high;
  second_high = proper.1.high;
  scaled = omega (arith, proper.0.bounded);
  suits = omega arith;
}
setting_fits n (Difference x y) proper = record {
  low = proper.0.low;
  high = proper.0.high;
  second_high = proper.1.high;
  scaled = omega (arith, proper.0.bounded);
  suits = (omega arith, smaller x y proper.0 proper.1 proper.2 proper.3);
}
setting_fits n (Product x y) proper = record {
  low = proper.0.low;
  high = proper.0.high;
  second_high = proper.1.high;
  scaled = omega (arith, proper.0.bounded, proper.1.bounded);
  suits = proper.1.low;
}
setting_fits n (Quotient x y) proper = record {
  low = proper.0.low;
  high = proper.0.high;
  second_high = proper.1.high;
  scaled = omega (arith, proper.0.bounded, proper.1.bounded);
  suits = proper.1.low;
}
setting_fits n (Root x) proper = record {
  low = proper.low;
  high = proper.high;
  second_high = omega arith;
  scaled = omega (arith, proper.bounded);
  suits = (omega arith, omega arith);
}

-- the same of a setting by its kind and its numbers
pub figures_fit : (n : Bool) (x : Exact) → Proper x → Fit (record {
  kind = kind_of x;
  negative = n;
  first = (numbers_in (setting_of false x)).0;
  second = (numbers_in (setting_of false x)).1;
  shift = (numbers_in (setting_of false x)).2;
  scale = (numbers_in (setting_of false x)).3;
})
figures_fit n (Sum x y) = setting_fits n (Sum x y)
figures_fit n (Difference x y) = setting_fits n (Difference x y)
figures_fit n (Product x y) = setting_fits n (Product x y)
figures_fit n (Quotient x y) = setting_fits n (Quotient x y)
figures_fit n (Root x) = setting_fits n (Root x)
