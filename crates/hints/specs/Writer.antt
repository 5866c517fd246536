-- What the writer gives.
use Rattle.std.specs.Prelude.{◌≡◌, ℕ, ◌*◌, ◌/◌, ◌%◌, ◌^◌, Bool, Some, None, Ok, Err, Option, Result}
use Rattle.binary32.specs.Words.{sign_bit, magnitude_of, composed}
use Rattle.binary32.specs.Operations.{operation_of}
use Rattle.binary32.specs.Steps.{step_of}
use Rattle.binary32.specs.declared.operation.Operation.{Operation}
use Rattle.binary32.specs.declared.step.Step.{Step}
use Rattle.binary32.specs.declared.step.Step.TheVariants.{Direct, Rounded}
use Rattle.rounding.specs.Exact.{Value, exact_of}
use Rattle.rounding.specs.Nearest.{Nearest, result}
use Rattle.hints.specs.Backs.{BacksStep}
use Rattle.hints.specs.Settings.{setting_of}
use Rattle.hints.specs.Scheme.{principal_of, lift_of, exponent_of, cut_of, up_of, magnitude_from}
use Rattle.hints.specs.declared.setting.Case.{Case}
use Rattle.hints.specs.declared.setting.Case.TheVariants as case
use Rattle.hints.specs.declared.setting.Setting.{Setting}
use Rattle.hints.specs.declared.writer.Written.{Written}
use Rattle.hints.specs.declared.refusal.Refusal.{Refusal}
use Rattle.hints.specs.declared.refusal.Refusal.TheVariants.{UnknownCode}

-- the word and the hints, from the sign, u + 149 and the six hints
abbrev pub filled : Bool → ℕ → ℕ → ℕ → ℕ → ℕ → ℕ → ℕ → Written
filled negative exponent main rest lift keep drop up = record {
  word = record { bits = composed negative (magnitude_from exponent keep up) };
  hints = record { main = main; rest = rest; lift = lift; keep = keep; drop = drop; up = up };
}

abbrev pub cut_at : Bool → ℕ → ℕ → ℕ → ℕ → ℕ → Written
cut_at negative exponent main rest lift k =
    filled negative exponent main rest lift
    (main * 2 ^ lift / 2 ^ k) (main * 2 ^ lift % 2 ^ k)
    (up_of k rest (main * 2 ^ lift / 2 ^ k) (main * 2 ^ lift % 2 ^ k))

abbrev pub from_principal : Bool → ℕ → ℕ → ℕ → Written
from_principal negative scale main rest =
    cut_at negative (exponent_of scale (lift_of main)) main rest (lift_of main) (cut_of scale (lift_of main))

abbrev pub rounded_with : Setting → Written
rounded_with σ = from_principal σ.negative σ.scale (principal_of σ).0 (principal_of σ).1

-- the scheme's word and hints; a direct step has its word and six zeros
abbrev pub written_for : Step → Written
written_for (Direct w) = record { word = w; hints = record { main = 0; rest = 0; lift = 0; keep = 0; drop = 0; up = 0 } }
written_for (Rounded negative x) = rounded_with (setting_of negative x)

-- the same by the case of the step
abbrev pub written_case : Case → Written
written_case (case.Direct w) = written_for (Direct w)
written_case (case.Rounded σ) = rounded_with σ

-- what the writer gives for an operation: its result, with the scheme's hints
abbrev pub written_step : Operation → ℕ → ℕ → Written
written_step op a b = record { word = record { bits = result op a b }; hints = (written_for (step_of op a b)).hints }

abbrev pub written_by : Option Operation → ℕ → ℕ → Result Written Refusal
written_by None a b = Err UnknownCode
written_by (Some op) a b = Ok (written_step op a b)

-- the writer's reply to any code and any two words
abbrev pub written : ℕ → ℕ → ℕ → Result Written Refusal
written code a b = written_by (operation_of code) a b

-- A rounded step's word has the step's sign, and its magnitude is nearest to the exact result, as no other is.
abbrev pub NearestWord : Step → Value → ℕ → Type 0
NearestWord (Direct d) V w = w ≡ d.bits
NearestWord (Rounded negative x) V w = (sign_bit w ≡ negative) × Nearest V (magnitude_of w) × ((m : ℕ) → Nearest V m → m ≡ magnitude_of w)

-- What a written step keeps: it backs the step, nothing else does, and its word is nearest to the exact result.
pub record Right (op : Operation) (a b : ℕ) (r : Written) : Type 0 where
  pub backed : BacksStep (step_of op a b) r
  pub only : (w : Written) → BacksStep (step_of op a b) w → w ≡ r
  pub nearest : NearestWord (step_of op a b) (exact_of op a b) r.word.bits

-- the reply is a refusal where there is no operation, and right where there is one
abbrev pub RightReply : Option Operation → ℕ → ℕ → Result Written Refusal → Type 0
RightReply None a b (Ok w) = ⊥
RightReply None a b (Err e) = Unit {0}
RightReply (Some op) a b (Ok w) = Right op a b w
RightReply (Some op) a b (Err e) = ⊥
