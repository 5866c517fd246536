-- A claim passes all checks just where it is what the writer gives: passing them is to back the step, the
-- writer's answer backs it, and no other does.
use Rattle.std.proofs.Common.{◌≡◌, ℕ, Bool, true, eqb, None, Ok, ◌↔◌, sym, refl, ◌∙◌, subst, arith}
use Rattle.std.proofs.lemmas.Bool.{eqb-true, eq-eqb}
use Rattle.binary32.specs.Normal.{ProperStep}
use Rattle.binary32.specs.Steps.{step_of}
use Rattle.binary32.specs.Words.{composed}
use Rattle.binary32.specs.declared.operation.Operation.{Operation}
use Rattle.binary32.specs.declared.step.Step.{Step}
use Rattle.binary32.specs.declared.step.Step.TheVariants.{Direct, Rounded}
use Rattle.binary32.specs.declared.word.Word.{Word}
use Rattle.binary32.proofs.Steps.{step_proper}
use Rattle.hints.specs.Backs.{Backs}
use Rattle.hints.specs.Cases.{case_from}
use Rattle.hints.specs.Scheme.{exponent_of, cut_of, up_of, magnitude_from}
use Rattle.hints.specs.Settings.{setting_of}
use Rattle.hints.specs.Writer.{rounded_with, written_for}
use Rattle.hints.specs.declared.setting.Setting.{Setting}
use Rattle.hints.specs.declared.writer.Hints.{Hints}
use Rattle.hints.specs.declared.writer.Written.{Written}
use Rattle.hints.proofs.Backed.{rounded_backs}
use Rattle.hints.proofs.Complete.{scheme_is_written}
use Rattle.hints.proofs.Settings.{setting_fits}
use Rattle.hints.proofs.Unique.{backs_unique}
use Rattle.systems.specs.Equations.{balanced}
use Rattle.checks.specs.Equations.{first_equation, second_equation}
use Rattle.checks.specs.Examined.{Outcome, examined_direct, examined_rounded, examined_case, examined, Sound}
use Rattle.checks.specs.Widths.{front_outside, back_outside, some_hint}
use Rattle.checks.specs.declared.flaw.Flaw.TheVariants as flaw
use Rattle.checks.proofs.Passed.{check_passed, widths_passed, front_within, within_front, back_within, within_back, no_hints, first_holds, holds_first}

module _ (σ : Setting) (w : Written) where
  abbrev h : Hints
  h = w.hints

  abbrev k : ℕ
  k = cut_of σ.scale h.lift

  abbrev first_test : Bool
  first_test = balanced (first_equation σ.kind σ.first σ.second σ.shift h.main h.rest)

  abbrev second_test : Bool
  second_test = balanced (second_equation k h)

  abbrev up_test : Bool
  up_test = eqb h.up (up_of k h.rest h.keep h.drop)

  abbrev word : ℕ
  word = composed σ.negative (magnitude_from (exponent_of σ.scale h.lift) h.keep h.up)

  -- a claim that passes backs the step
  passed_backs : examined_rounded σ w ≡ Ok tt → Backs σ w
  passed_backs ok =
      let fronts = widths_passed (front_outside σ.kind σ.second h) _ ok in
      let backs = widths_passed (back_outside k h) _ fronts.1 in
      let firsts = check_passed first_test flaw.FirstEquation _ backs.1 in
      let seconds = check_passed second_test flaw.SecondEquation _ firsts.1 in
      let ups = check_passed up_test flaw.Up _ seconds.1 in
      let words = check_passed (eqb w.word.bits word) flaw.Word (Ok tt) ups.1 in
      let front = front_within σ.kind σ.second h fronts.0 in
      let back = back_within k h backs.0 in
      record {
        main_fits = front.main_fits;
        rest_width = front.rest_width;
        lift_width = front.lift_width;
        lift_low = front.lift_low;
        lift_high = front.lift_high;
        keep_width = back.keep_width;
        drop_width = back.drop_width;
        up_width = back.up_width;
        first_balance = first_holds σ.kind σ.first σ.second σ.shift h.main h.rest firsts.0;
        second_balance = omega (arith, eqb-true _ _ seconds.0);
        up_rule = eqb-true _ _ ups.0;
        word_is = eqb-true _ _ words.0;
      }

  -- a claim that backs the step passes
  backs_passes : Backs σ w → examined_rounded σ w ≡ Ok tt
  backs_passes backs =
      let front : front_outside σ.kind σ.second h ≡ None =
      within_front σ.kind σ.second h (record {
        main_fits = backs.main_fits;
        rest_width = backs.rest_width;
        lift_width = backs.lift_width;
        lift_low = backs.lift_low;
        lift_high = backs.lift_high;
      }) in
      let back : back_outside k h ≡ None =
      within_back k h (record { keep_width = backs.keep_width; drop_width = backs.drop_width; up_width = backs.up_width }) in
      let first = holds_first σ.kind σ.first σ.second σ.shift h.main h.rest backs.first_balance in
      let second : second_test ≡ true = eq-eqb _ _ (omega (arith, backs.second_balance)) in
      let up : up_test ≡ true = eq-eqb _ _ backs.up_rule in
      let same : eqb w.word.bits word ≡ true = eq-eqb _ _ backs.word_is in
      rw (front, back, first, second, up, same) refl

module _ (word : Word) (w : Written) where
  -- a claim that passes has the word of the direct step and no hints
  direct_passed : examined_direct word w ≡ Ok tt → w ≡ written_for (Direct word)
  direct_passed ok =
      let widths = widths_passed (some_hint w.hints) _ ok in
      let words = check_passed (eqb w.word.bits word.bits) flaw.Word (Ok tt) widths.1 in
      let same = eqb-true _ _ words.0 in
      let zeros = no_hints w.hints widths.0 in
      λ i. record {
        word = record { bits = same i };
        hints = record { main = zeros.no_main i; rest = zeros.no_rest i; lift = zeros.no_lift i; keep = zeros.no_keep i; drop = zeros.no_drop i; up = zeros.no_up i };
      }

  direct_passes : w ≡ written_for (Direct word) → examined_direct word w ≡ Ok tt
  direct_passes same = subst (λ (v : Written). examined_direct word v ≡ Ok tt) (sym same) (rw (eq-eqb word.bits word.bits refl) refl)

step_settles : (step : Step) → ProperStep step → (w : Written) → (examined_case (case_from step) w ≡ Ok tt) ↔ (w ≡ written_for step)
step_settles (Direct word) proper w = (direct_passed word w, direct_passes word w)
step_settles (Rounded negative x) proper w =
    let σ = setting_of negative x in
    let backed = rounded_backs σ (setting_fits negative x proper) in
    (λ ok. backs_unique σ w (rounded_with σ) (passed_backs σ w ok) backed, λ same. backs_passes σ w (subst (λ (v : Written). Backs σ v) (sym same) backed))

pub examined_sound : (op : Operation) (a b : ℕ) (w : Written) (found : Outcome) → found ≡ examined op a b w → Sound found op a b w
examined_sound op a b w found is =
    let settles = step_settles (step_of op a b) (step_proper op a b) w in
    let written = scheme_is_written op a b in
    (λ ok. settles.0 (sym is ∙ ok) ∙ written, λ same. is ∙ settles.1 (same ∙ sym written))
