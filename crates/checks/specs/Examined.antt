-- What the checks find in a claim: the first that fails, over whole numbers.
use Rattle.std.specs.Prelude.{◌≡◌, ℕ, Bool, cond, Some, None, Ok, Err, Option, Result, ◌==◌, ◌↔◌}
use Rattle.binary32.specs.Words.{composed}
use Rattle.binary32.specs.declared.operation.Operation.{Operation}
use Rattle.binary32.specs.declared.word.Word.{Word}
use Rattle.hints.specs.Cases.{case_of}
use Rattle.hints.specs.Scheme.{exponent_of, cut_of, up_of, magnitude_from}
use Rattle.hints.specs.Writer.{written_step}
use Rattle.hints.specs.declared.hint.Hint.{Hint}
use Rattle.hints.specs.declared.setting.Case.{Case}
use Rattle.hints.specs.declared.setting.Case.TheVariants.{Direct, Rounded}
use Rattle.hints.specs.declared.setting.Setting.{Setting}
use Rattle.hints.specs.declared.writer.Hints.{Hints}
use Rattle.hints.specs.declared.writer.Written.{Written}
use Rattle.systems.specs.Equations.{balanced}
use Rattle.checks.specs.Equations.{first_equation, second_equation}
use Rattle.checks.specs.Widths.{front_outside, back_outside, some_hint}
use Rattle.checks.specs.declared.flaw.Flaw.{Flaw}
use Rattle.checks.specs.declared.flaw.Flaw.TheVariants as flaw

abbrev pub Outcome : Type 0
Outcome = Result (Unit {0}) Flaw

-- a check that passes leaves the question to the checks after it
abbrev pub check : Bool → Flaw → Outcome → Outcome
check passes found later = cond passes later (Err found)

-- so does a check of widths that finds no hint outside
abbrev pub check_widths : Option Hint → Outcome → Outcome
check_widths (Some hint) later = Err (flaw.Width hint)
check_widths None later = later

-- the last check: the claimed word is this one
abbrev pub word_checked : ℕ → ℕ → Outcome
word_checked claimed word = check (claimed == word) flaw.Word (Ok tt)

abbrev pub examined_direct : Word → Written → Outcome
examined_direct word w = check_widths (some_hint w.hints) (word_checked w.word.bits word.bits)

abbrev pub examined_at : Setting → ℕ → ℕ → Written → Outcome
examined_at σ exponent k w =
    check_widths (front_outside σ.kind σ.second w.hints)
    (check_widths (back_outside k w.hints)
    (check (balanced (first_equation σ.kind σ.first σ.second σ.shift w.hints.main w.hints.rest)) flaw.FirstEquation
    (check (balanced (second_equation k w.hints)) flaw.SecondEquation
    (check (w.hints.up == up_of k w.hints.rest w.hints.keep w.hints.drop) flaw.Up
    (word_checked w.word.bits (composed σ.negative (magnitude_from exponent w.hints.keep w.hints.up)))))))

abbrev pub examined_rounded : Setting → Written → Outcome
examined_rounded σ w = examined_at σ (exponent_of σ.scale w.hints.lift) (cut_of σ.scale w.hints.lift) w

abbrev pub examined_case : Case → Written → Outcome
examined_case (Direct word) w = examined_direct word w
examined_case (Rounded σ) w = examined_rounded σ w

abbrev pub examined : Operation → ℕ → ℕ → Written → Outcome
examined op a b w = examined_case (case_of op a b) w

-- the claim of a word with its hints
abbrev pub claim_of : Word → Hints → Written
claim_of claimed h = record { word = claimed; hints = h }

-- no check fails just where the claim is what the writer gives
abbrev pub Sound : Outcome → Operation → ℕ → ℕ → Written → Type 0
Sound found op a b w = (found ≡ Ok tt) ↔ (w ≡ written_step op a b)
