-- All that the writer promises of the record that it gives for a step.
use Rattle.std.proofs.Common.{◌≡◌, ℕ, ◌+◌, ◌/◌, ◌%◌, ◌^◌, ◌≤◌, Bool, true, false, sym, refl, ap, ◌∙◌, arith}
use Rattle.std.proofs.lemmas.Bool.{eq-eqb, ne_eqb}
use Rattle.binary32.specs.Words.{sign_bit, magnitude_of, composed}
use Rattle.binary32.specs.Normal.{ProperStep}
use Rattle.binary32.specs.Steps.{step_of}
use Rattle.binary32.specs.declared.operation.Operation.{Operation}
use Rattle.binary32.specs.declared.step.Step.{Step}
use Rattle.binary32.specs.declared.step.Step.TheVariants.{Direct, Rounded}
use Rattle.binary32.proofs.Steps.{step_proper}
use Rattle.rounding.specs.Exact.{exact_of}
use Rattle.rounding.specs.Nearest.{top, nearest, result_with}
use Rattle.rounding.specs.Laws.{Rounding}
use Rattle.rounding.proofs.Climb.{is_nearest}
use Rattle.rounding.proofs.Overflow.{overflows, keeps_sizes}
use Rattle.rounding.proofs.Unique.{unique}
use Rattle.rounding.proofs.Results.{sound_exact}
use Rattle.hints.specs.Cases.{case_from, case_of}
use Rattle.hints.specs.Settings.{setting_of}
use Rattle.hints.specs.Backs.{BacksStep}
use Rattle.hints.specs.Writer.{written_for, written_case, written_step, NearestWord, Right}
use Rattle.hints.specs.declared.writer.Written.{Written}
use Rattle.hints.proofs.Backed.{rounded_backs}
use Rattle.hints.proofs.Correct.{backs_result}
use Rattle.hints.proofs.Settings.{setting_fits}
use Rattle.hints.proofs.Unique.{backs_unique}

backs_for : (step : Step) → ProperStep step → BacksStep step (written_for step)
backs_for (Direct d) proper =
    (refl, record { no_main = refl; no_rest = refl; no_lift = refl; no_keep = refl; no_drop = refl; no_up = refl })
backs_for (Rounded negative x) proper = rounded_backs (setting_of negative x) (setting_fits negative x proper)

-- the scheme's record backs its step
pub step_backed : (op : Operation) (a b : ℕ) → BacksStep (step_of op a b) (written_for (step_of op a b))
step_backed op a b = backs_for (step_of op a b) (step_proper op a b)

-- and nothing else does
pub step_unique : (step : Step) (v w : Written) → BacksStep step v → BacksStep step w → v ≡ w
step_unique (Direct d) v w backs_v backs_w =
    let h = backs_v.1 in
    let g = backs_w.1 in
    λ i. record {
      word = (backs_v.0 ∙ sym backs_w.0) i;
      hints = record {
        main = (h.no_main ∙ sym g.no_main) i;
        rest = (h.no_rest ∙ sym g.no_rest) i;
        lift = (h.no_lift ∙ sym g.no_lift) i;
        keep = (h.no_keep ∙ sym g.no_keep) i;
        drop = (h.no_drop ∙ sym g.no_drop) i;
        up = (h.no_up ∙ sym g.no_up) i;
      };
    }
step_unique (Rounded negative x) v w backs_v backs_w = backs_unique (setting_of negative x) v w backs_v backs_w

-- the scheme's record has the result as its word
pub scheme_is_written : (op : Operation) (a b : ℕ) → written_for (step_of op a b) ≡ written_step op a b
scheme_is_written op a b =
    let w = written_for (step_of op a b) in
    let is = backs_result op a b w (step_backed op a b) in
    λ i. record { word = record { bits = is i }; hints = w.hints }

composed_sign : (negative : Bool) (m : ℕ) → sign_bit (composed negative m) ≡ negative
composed_sign true m = eq-eqb ((2 ^ 31 + magnitude_of m) / 2 ^ 31 % 2 ^ 1) 1 (omega arith)
composed_sign false m = ne_eqb (magnitude_of m / 2 ^ 31 % 2 ^ 1) 1 (omega arith)

composed_magnitude : (negative : Bool) (m : ℕ) → m ≤ top → magnitude_of (composed negative m) ≡ m
composed_magnitude true m within = omega arith
composed_magnitude false m within = omega arith

nearest_for : (op : Operation) (a b : ℕ) (step : Step) → step_of op a b ≡ step → NearestWord step (exact_of op a b) (result_with step (exact_of op a b))
nearest_for op a b (Direct d) is = refl
nearest_for op a b (Rounded negative x) is =
    let V = exact_of op a b in
    let sound = sound_exact op a b negative x is in
    let near = is_nearest V sound in
    let magnitude = composed_magnitude negative (nearest V) near.candidate in
    (composed_sign negative (nearest V), rw magnitude near, λ m nearest_m. unique V m (nearest V) sound nearest_m near ∙ sym magnitude)

pub nearest_written : (op : Operation) (a b : ℕ) → NearestWord (step_of op a b) (exact_of op a b) (written_step op a b).word.bits
nearest_written op a b = nearest_for op a b (step_of op a b) refl

-- together, of any record that is the scheme's
pub record Facts (op : Operation) (a b : ℕ) (r : Written) : Type 0 where
  pub value : r ≡ written_step op a b
  pub right : Right op a b r

pub facts : (op : Operation) (a b : ℕ) (r : Written) (step : Step) → step_of op a b ≡ step → r ≡ written_for step → Facts op a b r
facts op a b r step is scheme =
    let same : r ≡ written_for (step_of op a b) = scheme ∙ ap written_for (sym is) in
    let value : r ≡ written_step op a b = same ∙ scheme_is_written op a b in
    let backed : BacksStep (step_of op a b) r = rw same (step_backed op a b) in
    record {
      value = value;
      right = record {
        backed = backed;
        only = λ w backs. step_unique (step_of op a b) w r backs backed;
        nearest = rw value (nearest_written op a b);
      };
    }

-- the laws of the nearest magnitude
pub rounding : Rounding
rounding = record { nearest_is = is_nearest; only_one = unique; beyond_all = overflows; kept_sizes = keeps_sizes }

case_written : (s : Step) → written_case (case_from s) ≡ written_for s
case_written (Direct w) = refl
case_written (Rounded negative x) = refl

-- together, of the record that is the case's
pub case_facts : (op : Operation) (a b : ℕ) (r : Written) → r ≡ written_case (case_of op a b) → Facts op a b r
case_facts op a b r scheme = facts op a b r (step_of op a b) refl (scheme ∙ case_written (step_of op a b))
