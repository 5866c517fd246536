-- What backs a rounded step has the magnitude nearest to the step's exact result.
use Rattle.std.proofs.Common.{◌≡◌, ℕ, ◌+◌, ◌-◌, ◌*◌, ◌^◌, ◌<◌, ◌≤◌, Bool, sym, refl, ap, ◌∙◌, subst, inl, inr, mul-le-mul_right, mul-le-mul, mul-lt-mul_of_pos_right, arith, pow_pos, pow_mono, pow-add}
use Rattle.std.proofs.lemmas.Bool.{cases_lt}
use Rattle.binary32.specs.Sizes.{size}
use Rattle.binary32.specs.Words.{composed}
use Rattle.binary32.specs.Normal.{Normalized, Proper}
use Rattle.binary32.specs.Steps.{step_of}
use Rattle.binary32.specs.declared.operation.Operation.{Operation}
use Rattle.binary32.specs.declared.word.NormalForm.{NormalForm}
use Rattle.binary32.specs.declared.step.Exact.{Exact}
use Rattle.binary32.specs.declared.step.Exact.TheVariants.{Sum, Difference, Product, Quotient, Root}
use Rattle.binary32.specs.declared.step.Step.{Step}
use Rattle.binary32.specs.declared.step.Step.TheVariants.{Direct, Rounded}
use Rattle.binary32.proofs.Steps.{step_proper}
use Rattle.rounding.specs.Exact.{Value, ratio, Sound, exact_of}
use Rattle.rounding.specs.Nearest.{nearest, result, result_with}
use Rattle.rounding.specs.Cut.{Lies, Cut, Close}
use Rattle.rounding.proofs.Close.{close_ratio, keeps_close}
use Rattle.rounding.proofs.Cuts.{rounds_cut}
use Rattle.rounding.proofs.Describes.{Operands, Magnitude, Describes, DescribesStep, step_describes}
use Rattle.rounding.proofs.Results.{sound_exact}
use Rattle.hints.specs.Scheme.{exponent_of, cut_of, magnitude_from}
use Rattle.hints.specs.Settings.{setting_of, alignment_of, Fit, Suits}
use Rattle.hints.specs.Backs.{Backs, BacksStep, rest_limit, FirstEquation}
use Rattle.hints.specs.declared.setting.Setting.{Setting}
use Rattle.hints.specs.declared.setting.Kind.{Kind}
use Rattle.hints.specs.declared.setting.Kind.TheVariants as kind
use Rattle.hints.specs.declared.writer.Written.{Written}
use Rattle.hints.proofs.Places.{lies_exactly, product_lies, sum_lies, difference_lies, quotient_lies, root_lies}
use Rattle.hints.proofs.Principals.{radicand_low, root_low}
use Rattle.hints.proofs.Settings.{setting_fits}

-- where something is left over, main has at least 25 bits
many_bits : (k : Kind) (first second shift main rest : ℕ) → 2 ^ 23 ≤ first → first < 2 ^ 24 → second < 2 ^ 24 → Suits k first second shift →
    FirstEquation k first second shift main rest → rest < rest_limit k second main → (rest ≡ 0 → ⊥) → 2 ^ 24 ≤ main
many_bits kind.Sum first second shift main rest low high second_high suits equation width some = absurd (some (omega arith))
many_bits kind.Difference first second shift main rest low high second_high suits equation width some = absurd (some (omega arith))
many_bits kind.Product first second shift main rest low high second_high suits equation width some = absurd (some (omega arith))
many_bits kind.Quotient first second shift main rest low high second_high suits equation width some =
    elim (cases_lt main (2 ^ 24)) [
      | inl less ↦ absurd (omega (arith, mul-le-mul {n₁ = main + 1} {m₁ = second} {n₂ = 2 ^ 24} {m₂ = 2 ^ 24} (omega arith) (omega arith)))
      | inr more ↦ more
    ]
many_bits kind.Root first second shift main rest low high second_high suits equation width some =
    root_low (first * 2 ^ shift) main (omega (arith, radicand_low first second shift low high second_high suits.0))
    (record { below = omega arith; above = omega arith })

module _ (σ : Setting) (w : Written) (fit : Fit σ) (backs : Backs σ w) where
  -- a lift of 27 or more would leave main less than 25 bits
  small_lift : (w.hints.rest ≡ 0 → ⊥) → w.hints.lift ≤ 26
  small_lift some =
      let bits = many_bits σ.kind σ.first σ.second σ.shift w.hints.main w.hints.rest
      fit.low fit.high fit.second_high fit.suits backs.first_balance backs.rest_width some in
      elim (cases_lt 26 w.hints.lift) [
        | inl more ↦ absurd (omega (arith, backs.lift_high, pow_mono {i = 51 - w.hints.lift} {j = 24} (omega arith)))
        | inr less ↦ less
      ]

  backs_cut : Cut w.hints.main w.hints.rest σ.scale w.hints.lift (exponent_of σ.scale w.hints.lift)
      (cut_of σ.scale w.hints.lift) w.hints.keep w.hints.drop w.hints.up
  backs_cut =
      let l = w.hints.lift in
      let main = w.hints.main in
      let p = 2 ^ l in
      let fits = backs.lift_width in
      let low_sum : (50 - l) + l ≡ 50 = omega arith in
      let high_sum : (51 - l) + l ≡ 51 = omega arith in
      let low_power : 2 ^ (50 - l) * p ≡ 2 ^ 50 = sym (pow-add 2 (50 - l) l) ∙ ap (λ n. 2 ^ n) low_sum in
      let high_power : 2 ^ (51 - l) * p ≡ 2 ^ 51 = sym (pow-add 2 (51 - l) l) ∙ ap (λ n. 2 ^ n) high_sum in
      record {
        high = rw low_power at (mul-le-mul_right p backs.lift_low);
        low = rw high_power at (mul-lt-mul_of_pos_right backs.lift_high (pow_pos l));
        spacing = refl;
        place = refl;
        parts = backs.second_balance;
        drop_fits = backs.drop_width;
        lift_within = small_lift;
        upward = backs.up_rule;
      }

  -- the magnitude that the hints give
  abbrev pub given : ℕ
  given = magnitude_from (exponent_of σ.scale w.hints.lift) w.hints.keep w.hints.up

  lies_nearest : (V : Value) → Sound V → Lies V w.hints.main w.hints.rest σ.scale → nearest V ≡ given
  lies_nearest V sound lies =
      rounds_cut V w.hints.main w.hints.rest σ.scale w.hints.lift (exponent_of σ.scale w.hints.lift)
      (cut_of σ.scale w.hints.lift) w.hints.keep w.hints.drop w.hints.up sound lies backs_cut

-- a sum or a difference whose smaller operand is more than 26 binades below: the larger one is nearest
module _ (x y : NormalForm) (s t : ℕ) (normal_x : Normalized x) (normal_y : Normalized y) (operands : Operands x y s t) (far : y.exponent + 27 ≤ x.exponent) where
  distant : 2 ^ 27 * 2 ^ y.exponent ≤ 2 ^ x.exponent
  distant = rw (← pow-add 2 27 y.exponent) (pow_mono {i = 27 + y.exponent} {j = x.exponent} (omega arith))

  tiny : y.significand * 2 ^ y.exponent < 2 ^ 24 * 2 ^ y.exponent
  tiny = mul-lt-mul_of_pos_right normal_y.high (pow_pos y.exponent)

  far_sum : Close (ratio (s + t) 1) x.significand (x.exponent + 202)
  far_sum =
      close_ratio (s + t) 1 x.significand (x.exponent + 202)
      (rw (pow-add 2 x.exponent 202) (omega (arith, operands.first, operands.second, tiny, distant, pow_pos x.exponent)))
      (rw (pow-add 2 x.exponent 202) (omega (arith, operands.first, operands.second, tiny, distant, pow_pos x.exponent)))

  far_difference : Close (ratio (s - t) 1) x.significand (x.exponent + 202)
  far_difference =
      close_ratio (s - t) 1 x.significand (x.exponent + 202)
      (rw (pow-add 2 x.exponent 202) (omega (arith, operands.first, operands.second, tiny, distant, pow_pos x.exponent)))
      (rw (pow-add 2 x.exponent 202) (omega (arith, operands.first, operands.second, tiny, distant, pow_pos x.exponent)))

  far_size : (place : Magnitude s) → size place.at * 2 ^ 251 ≡ x.significand * 2 ^ 26 * 2 ^ (x.exponent + 202)
  far_size place = rw (place.sized, pow-add 2 x.exponent 202) (omega (arith, operands.first))

  cut_off : alignment_of x y ≡ 0
  cut_off = omega arith

-- main itself, as the value that it stands for
standing : ℕ → ℕ → Value
standing main S = ratio (main * 2 ^ S) (2 ^ 251)

standing_lies : (main S : ℕ) → Lies (standing main S) main 0 S
unfolding standing
standing_lies main S = lies_exactly (main * 2 ^ S) (2 ^ 251) main S (omega arith) refl

standing_close_sum : (m n main S : ℕ) → n < 2 ^ 24 → m * 2 ^ 26 + n ≡ main → Close (standing main S) m S
unfolding standing
standing_close_sum m n main S small same =
    let little : n * 2 ^ S < 2 ^ 24 * 2 ^ S = mul-lt-mul_of_pos_right small (pow_pos S) in
    let whole : m * 2 ^ 26 * 2 ^ S + n * 2 ^ S ≡ main * 2 ^ S = omega (arith, ap (λ k. k * 2 ^ S) same) in
    close_ratio (main * 2 ^ S) (2 ^ 251) m S (omega (arith, pow_pos S)) (omega (arith, pow_pos S))

standing_close_difference : (m n main S : ℕ) → n < 2 ^ 24 → main + n ≡ m * 2 ^ 26 → Close (standing main S) m S
unfolding standing
standing_close_difference m n main S small same =
    let little : n * 2 ^ S < 2 ^ 24 * 2 ^ S = mul-lt-mul_of_pos_right small (pow_pos S) in
    let whole : main * 2 ^ S + n * 2 ^ S ≡ m * 2 ^ 26 * 2 ^ S = omega (arith, ap (λ k. k * 2 ^ S) same) in
    close_ratio (main * 2 ^ S) (2 ^ 251) m S (omega (arith, pow_pos S)) (omega (arith, pow_pos S))

no_rest : (rest : ℕ) → rest < 1 → rest ≡ 0
no_rest rest none = omega arith

-- a far sum: both its exact result and main have the larger operand as nearest
far_nearest : (σ : Setting) (w : Written) (fit : Fit σ) (backs : Backs σ w) (V : Value) (m s : ℕ) → w.hints.rest ≡ 0 → 2 ^ 23 ≤ m →
    (place : Magnitude s) → size place.at * 2 ^ 251 ≡ m * 2 ^ 26 * 2 ^ σ.scale → Sound V → Close V m σ.scale →
    Close (standing w.hints.main σ.scale) m σ.scale → nearest V ≡ given σ w fit backs
unfolding standing
far_nearest σ w fit backs V m s none low place sized sound close close_main =
    let S = σ.scale in
    let stood = standing w.hints.main S in
    let some : Sound stood = omega arith in
    keeps_close V place.at m S sound place.candidate low sized close
    ∙ sym (keeps_close stood place.at m S some place.candidate low sized close_main)
    ∙ lies_nearest σ w fit backs stood some (rw none (standing_lies w.hints.main S))

pub scheme_nearest : (negative : Bool) (x : Exact) (V : Value) (w : Written) → Proper x → Describes x V → Sound V →
    (fit : Fit (setting_of negative x)) (backs : Backs (setting_of negative x) w) → nearest V ≡ given (setting_of negative x) w fit backs
scheme_nearest negative (Sum x y) V w proper (s, t, operands, place, is) sound fit backs =
    let none = no_rest w.hints.rest backs.rest_width in
    let ordered = proper.2.exponents in
    elim (cases_lt x.exponent (y.exponent + 27)) [
      | inl near ↦
          lies_nearest (setting_of negative (Sum x y)) w fit backs V sound
          (rw (is, none, ← backs.first_balance) (sum_lies x y s t operands.first operands.second (omega arith) ordered))
      | inr far ↦
          let off = cut_off x y s t proper.0 proper.1 operands far in
          let main_is : x.significand * 2 ^ 26 + y.significand ≡ w.hints.main = omega (arith, rw off at backs.first_balance) in
          far_nearest (setting_of negative (Sum x y)) w fit backs V x.significand s none proper.0.low place
          (far_size x y s t proper.0 proper.1 operands far place) sound
          (rw is (far_sum x y s t proper.0 proper.1 operands far))
          (standing_close_sum x.significand y.significand w.hints.main (x.exponent + 202) proper.1.high main_is)
    ]
scheme_nearest negative (Difference x y) V w proper (s, t, operands, place, is) sound fit backs =
    let none = no_rest w.hints.rest backs.rest_width in
    let ordered = proper.2.exponents in
    elim (cases_lt x.exponent (y.exponent + 27)) [
      | inl near ↦
          lies_nearest (setting_of negative (Difference x y)) w fit backs V sound
          (rw (is, none) (difference_lies x y s t operands.first operands.second w.hints.main (omega arith) ordered backs.first_balance))
      | inr far ↦
          let off = cut_off x y s t proper.0 proper.1 operands far in
          let main_is : w.hints.main + y.significand ≡ x.significand * 2 ^ 26 = omega (arith, rw off at backs.first_balance) in
          far_nearest (setting_of negative (Difference x y)) w fit backs V x.significand s none proper.0.low place
          (far_size x y s t proper.0 proper.1 operands far place) sound
          (rw is (far_difference x y s t proper.0 proper.1 operands far))
          (standing_close_difference x.significand y.significand w.hints.main (x.exponent + 202) proper.1.high main_is)
    ]
scheme_nearest negative (Product x y) V w proper (s, t, operands, is) sound fit backs =
    let none = no_rest w.hints.rest backs.rest_width in
    lies_nearest (setting_of negative (Product x y)) w fit backs V sound
    (rw (is, none, ← backs.first_balance) (product_lies x y s t operands.first operands.second))
scheme_nearest negative (Quotient x y) V w proper (s, t, operands, is) sound fit backs =
    let some : 0 < t = rw is at sound in
    lies_nearest (setting_of negative (Quotient x y)) w fit backs V sound
    (rw is (quotient_lies x y s t operands.first operands.second w.hints.main w.hints.rest proper.1.bounded some backs.rest_width backs.first_balance))
scheme_nearest negative (Root x) V w proper (s, stands, is) sound fit backs =
    lies_nearest (setting_of negative (Root x)) w fit backs V sound
    (rw is (root_lies x s stands w.hints.main w.hints.rest backs.rest_width backs.first_balance))

kept_sign : (negative : Bool) (x : Exact) → (setting_of negative x).negative ≡ negative
kept_sign negative (Sum x y) = refl
kept_sign negative (Difference x y) = refl
kept_sign negative (Product x y) = refl
kept_sign negative (Quotient x y) = refl
kept_sign negative (Root x) = refl

step_result : (op : Operation) (a b : ℕ) (w : Written) (step : Step) → step_of op a b ≡ step → BacksStep step w → w.word.bits ≡ result_with step (exact_of op a b)
step_result op a b w (Direct d) is backs = ap (λ v. v.bits) backs.0
step_result op a b w (Rounded negative x) is backs =
    let proper : Proper x = rw is at (step_proper op a b) in
    let described : Describes x (exact_of op a b) = subst (λ step. DescribesStep step (exact_of op a b)) is (step_describes op a b) in
    let sound = sound_exact op a b negative x is in
    let near = scheme_nearest negative x (exact_of op a b) w proper described sound (setting_fits negative x proper) backs in
    let m : ℕ = magnitude_from (exponent_of (setting_of negative x).scale w.hints.lift) w.hints.keep w.hints.up in
    backs.word_is ∙ ap (λ n. composed n m) (kept_sign negative x) ∙ ap (composed negative) (sym near)

-- what backs a step has its result as word
pub backs_result : (op : Operation) (a b : ℕ) (w : Written) → BacksStep (step_of op a b) w → w.word.bits ≡ result op a b
backs_result op a b w backs = step_result op a b w (step_of op a b) refl backs
