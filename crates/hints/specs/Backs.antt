-- When a word and six hints back a rounded step: the widths, both equations, the rule for up, and the word.
use Rattle.std.specs.Prelude.{◌≡◌, ℕ, ◌+◌, ◌-◌, ◌*◌, ◌^◌, ◌<◌, ◌≤◌}
use Rattle.binary32.specs.Words.{composed}
use Rattle.binary32.specs.declared.step.Step.{Step}
use Rattle.binary32.specs.declared.step.Step.TheVariants.{Direct, Rounded}
use Rattle.hints.specs.Settings.{setting_of}
use Rattle.hints.specs.Scheme.{main_width, exponent_of, cut_of, up_of, magnitude_from}
use Rattle.hints.specs.declared.setting.Setting.{Setting}
use Rattle.hints.specs.declared.setting.Kind.{Kind}
use Rattle.hints.specs.declared.setting.Kind.TheVariants.{Sum, Difference, Product, Quotient, Root}
use Rattle.hints.specs.declared.writer.Hints.{Hints}
use Rattle.hints.specs.declared.writer.Written.{Written}

-- rest is below this: 0 in a sum and a product, below the divisor, at most twice the root
abbrev pub rest_limit : Kind → ℕ → ℕ → ℕ
rest_limit Sum second main = 1
rest_limit Difference second main = 1
rest_limit Product second main = 1
rest_limit Quotient second main = second
rest_limit Root second main = 2 * main + 1

-- the first equation
abbrev pub FirstEquation : Kind → ℕ → ℕ → ℕ → ℕ → ℕ → Type 0
FirstEquation Sum first second shift main rest = first * 2 ^ 26 + second * 2 ^ shift ≡ main
FirstEquation Difference first second shift main rest = main + second * 2 ^ shift ≡ first * 2 ^ 26
FirstEquation Product first second shift main rest = first * second ≡ main
FirstEquation Quotient first second shift main rest = first * 2 ^ 26 ≡ main * second + rest
FirstEquation Root first second shift main rest = first * 2 ^ shift ≡ main * main + rest

pub record Backs (σ : Setting) (w : Written) : Type 0 where
  pub main_fits : w.hints.main < 2 ^ main_width σ.kind
  pub rest_width : w.hints.rest < rest_limit σ.kind σ.second w.hints.main
  pub lift_width : w.hints.lift ≤ 50
  pub lift_low : 2 ^ (50 - w.hints.lift) ≤ w.hints.main
  pub lift_high : w.hints.main < 2 ^ (51 - w.hints.lift)
  -- below 2^(51 − k), and 0 where k is 52: the difference stops at 0
  pub keep_width : w.hints.keep < 2 ^ (51 - cut_of σ.scale w.hints.lift)
  pub drop_width : w.hints.drop < 2 ^ cut_of σ.scale w.hints.lift
  pub up_width : w.hints.up ≤ 1
  pub first_balance : FirstEquation σ.kind σ.first σ.second σ.shift w.hints.main w.hints.rest
  pub second_balance : w.hints.main * 2 ^ w.hints.lift ≡ w.hints.keep * 2 ^ cut_of σ.scale w.hints.lift + w.hints.drop
  pub up_rule : w.hints.up ≡ up_of (cut_of σ.scale w.hints.lift) w.hints.rest w.hints.keep w.hints.drop
  pub word_is : w.word.bits ≡ composed σ.negative (magnitude_from (exponent_of σ.scale w.hints.lift) w.hints.keep w.hints.up)

-- a direct step has six zeros
pub record NoHints (h : Hints) : Type 0 where
  pub no_main : h.main ≡ 0
  pub no_rest : h.rest ≡ 0
  pub no_lift : h.lift ≡ 0
  pub no_keep : h.keep ≡ 0
  pub no_drop : h.drop ≡ 0
  pub no_up : h.up ≡ 0

abbrev pub BacksStep : Step → Written → Type 0
BacksStep (Direct d) w = (w.word ≡ d) × NoHints w.hints
BacksStep (Rounded negative x) w = Backs (setting_of negative x) w
