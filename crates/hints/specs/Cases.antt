-- The case of a step: direct with its word, or rounded with its setting.
use Rattle.std.specs.Prelude.{ℕ}
use Rattle.binary32.specs.Steps.{step_of}
use Rattle.binary32.specs.declared.operation.Operation.{Operation}
use Rattle.binary32.specs.declared.step.Step.{Step}
use Rattle.binary32.specs.declared.step.Step.TheVariants as step
use Rattle.hints.specs.Settings.{setting_of}
use Rattle.hints.specs.declared.setting.Case.{Case}
use Rattle.hints.specs.declared.setting.Case.TheVariants.{Direct, Rounded}

abbrev pub case_from : Step → Case
case_from (step.Direct w) = Direct w
case_from (step.Rounded negative x) = Rounded (setting_of negative x)

abbrev pub case_of : Operation → ℕ → ℕ → Case
case_of op a b = case_from (step_of op a b)
