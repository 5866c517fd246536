-- What holds of every direct step, and of the rounded step of two finite words, holds of the step of any two words.
use Rattle.std.proofs.Common.{◌≡◌, ℕ, Bool, true, false, not, ◌&&◌, ◌||◌, refl}
use Rattle.binary32.specs.Words.{sign_bit, is_nan}
use Rattle.binary32.specs.Steps.{line, opposite, sum_of, product_of, quotient_of, root_of, comparison}
use Rattle.binary32.specs.declared.step.Exact.TheVariants.{Product, Quotient, Root}
use Rattle.binary32.specs.declared.step.Step.{Step}
use Rattle.binary32.specs.declared.step.Step.TheVariants.{Direct, Rounded}
use Rattle.binary32.specs.declared.word.Word.{Word}
use Rattle.binary32.specs.declared.word.NormalForm.{NormalForm}
use Rattle.binary32.specs.declared.word.Class.{Class}
use Rattle.binary32.specs.declared.word.Class.TheVariants.{Nan, Infinity, Zero, Finite}

module _ (P : Step → Type 0) (direct : (w : Word) → P (Direct w)) where
  pub of_line : (fits : Bool) (w : ℕ) (others : Step) → P others → P (line fits w others)
  of_line true w others holds = direct _
  of_line false w others holds = holds

  pub of_sum : (a b : ℕ) (p q : Class) → ((x y : NormalForm) → p ≡ Finite x → q ≡ Finite y → P (sum_of a b (Finite x) (Finite y))) → P (sum_of a b p q)
  of_sum a b Nan q finite = direct _
  of_sum a b Infinity Nan finite = direct _
  of_sum a b Infinity Infinity finite = of_line (opposite a b) _ _ (direct _)
  of_sum a b Infinity Zero finite = direct _
  of_sum a b Infinity (Finite y) finite = direct _
  of_sum a b Zero Nan finite = direct _
  of_sum a b Zero Infinity finite = direct _
  of_sum a b Zero Zero finite = direct _
  of_sum a b Zero (Finite y) finite = direct _
  of_sum a b (Finite x) Nan finite = direct _
  of_sum a b (Finite x) Infinity finite = direct _
  of_sum a b (Finite x) Zero finite = direct _
  of_sum a b (Finite x) (Finite y) finite = finite x y refl refl

  pub of_product : (a b : ℕ) (p q : Class) →
      ((x y : NormalForm) → p ≡ Finite x → q ≡ Finite y → P (Rounded (opposite a b) (Product x y))) → P (product_of a b p q)
  of_product a b Nan q finite = direct _
  of_product a b Infinity Nan finite = direct _
  of_product a b Infinity Infinity finite = direct _
  of_product a b Infinity Zero finite = direct _
  of_product a b Infinity (Finite y) finite = direct _
  of_product a b Zero Nan finite = direct _
  of_product a b Zero Infinity finite = direct _
  of_product a b Zero Zero finite = direct _
  of_product a b Zero (Finite y) finite = direct _
  of_product a b (Finite x) Nan finite = direct _
  of_product a b (Finite x) Infinity finite = direct _
  of_product a b (Finite x) Zero finite = direct _
  of_product a b (Finite x) (Finite y) finite = finite x y refl refl

  pub of_quotient : (a b : ℕ) (p q : Class) →
      ((x y : NormalForm) → p ≡ Finite x → q ≡ Finite y → P (Rounded (opposite a b) (Quotient x y))) → P (quotient_of a b p q)
  of_quotient a b Nan q finite = direct _
  of_quotient a b Infinity Nan finite = direct _
  of_quotient a b Infinity Infinity finite = direct _
  of_quotient a b Infinity Zero finite = direct _
  of_quotient a b Infinity (Finite y) finite = direct _
  of_quotient a b Zero Nan finite = direct _
  of_quotient a b Zero Infinity finite = direct _
  of_quotient a b Zero Zero finite = direct _
  of_quotient a b Zero (Finite y) finite = direct _
  of_quotient a b (Finite x) Nan finite = direct _
  of_quotient a b (Finite x) Infinity finite = direct _
  of_quotient a b (Finite x) Zero finite = direct _
  of_quotient a b (Finite x) (Finite y) finite = finite x y refl refl

  pub of_root : (a : ℕ) (p : Class) → ((x : NormalForm) → p ≡ Finite x → P (Rounded false (Root x))) → P (root_of a p)
  of_root a Nan finite = direct _
  of_root a Infinity finite = of_line (sign_bit a && true) _ _ (direct _)
  of_root a Zero finite = of_line (sign_bit a && false) _ _ (direct _)
  of_root a (Finite x) finite = of_line (sign_bit a && true) _ _ (finite x refl)

  pub of_comparison : (p q : Class) (holds : Bool) → P (comparison p q holds)
  of_comparison p q holds = of_line (not (is_nan p || is_nan q) && holds) 0x3f800000 (Direct (record { bits = 0 })) (direct _)
