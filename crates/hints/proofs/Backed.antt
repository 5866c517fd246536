-- What the writer fills in backs its step.
use Rattle.std.proofs.Common.{ℕ, ◌+◌, ◌-◌, ◌*◌, ◌/◌, ◌%◌, ◌^◌, ◌<◌, ◌≤◌, Bool, true, false, cond, sym, refl, arith, pow_pos, pow_mono, shr_lt}
use lib.Pow.{split}
use Rattle.std.proofs.lemmas.Nat.{div-add-mod', mod_below}
use Rattle.binary32.proofs.Zeros.{lifted_below}
use Rattle.hints.specs.Scheme.{floor_root, principal_by, principal_of, lift_of, cut_of, rounds_up}
use Rattle.hints.specs.Settings.{Suits, Fit}
use Rattle.hints.specs.Backs.{rest_limit, FirstEquation, Backs}
use Rattle.hints.specs.Writer.{rounded_with}
use Rattle.hints.specs.declared.setting.Setting.{Setting}
use Rattle.hints.specs.declared.setting.Kind.{Kind}
use Rattle.hints.specs.declared.setting.Kind.TheVariants.{Sum, Difference, Product, Quotient, Root}
use Rattle.hints.proofs.Roots.{digits_root}
use Rattle.hints.proofs.Lifts.{lift_at_most, lift_low, lift_high}
use Rattle.hints.proofs.Principals.{main_within, main_fits, radicand_high}

-- main and rest solve the first equation, and rest is within its width
pub record Solves (k : Kind) (first second shift main rest : ℕ) : Type 0 where
  pub equation : FirstEquation k first second shift main rest
  pub width : rest < rest_limit k second main

pub principal_solves : (k : Kind) (first second shift : ℕ) → 2 ^ 23 ≤ first → first < 2 ^ 24 → second < 2 ^ 24 →
    Suits k first second shift → Solves k first second shift (principal_by k first second shift).0 (principal_by k first second shift).1
principal_solves Sum first second shift low high second_high near = record { equation = refl; width = omega arith }
principal_solves Difference first second shift low high second_high suits = record { equation = omega (arith, suits.1); width = omega arith }
principal_solves Product first second shift low high second_high some = record { equation = refl; width = omega arith }
principal_solves Quotient first second shift low high second_high some =
    record { equation = sym (div-add-mod' (first * 2 ^ 26) second); width = mod_below (first * 2 ^ 26) second (omega arith) }
principal_solves Root first second shift low high second_high suits =
    let n = first * 2 ^ shift in
    let r = floor_root 26 n in
    let small = radicand_high first second shift low high second_high suits.1 in
    let is = digits_root 26 n (omega arith) in
    record { equation = omega (arith, is.below); width = omega (arith, is.below, is.above) }

-- what stands above bit k of a number below 2^51
kept_below : (n k : ℕ) → n < 2 ^ 51 → n / 2 ^ k < 2 ^ (51 - k)
kept_below n k small =
    let room : 2 ^ 51 ≤ 2 ^ (51 - k + k) = pow_mono {i = 51} {j = 51 - k + k} (omega arith) in
    shr_lt (51 - k) k (omega arith)

pub rounded_backs : (σ : Setting) → Fit σ → Backs σ (rounded_with σ)
rounded_backs σ fit =
    let k = σ.kind in
    let main = (principal_of σ).0 in
    let solved = principal_solves k σ.first σ.second σ.shift fit.low fit.high fit.second_high fit.suits in
    let within = main_within k σ.first σ.second σ.shift fit.low fit.high fit.second_high fit.suits in
    let small = (main_fits σ fit).fits in
    let lift = lift_of main in
    let cut = cut_of σ.scale lift in
    record {
      main_fits = within.width;
      rest_width = solved.width;
      lift_width = lift_at_most main within.some small;
      lift_low = lift_low main within.some small;
      lift_high = lift_high main within.some small;
      keep_width = kept_below (main * 2 ^ lift) cut (lifted_below 51 main within.some small);
      drop_width = mod_below (main * 2 ^ lift) (2 ^ cut) (pow_pos cut);
      up_width = up_small (rounds_up cut (principal_of σ).1 (main * 2 ^ lift / 2 ^ cut) (main * 2 ^ lift % 2 ^ cut));
      first_balance = solved.equation;
      second_balance = sym (split (main * 2 ^ lift) cut);
      up_rule = refl;
      word_is = refl;
    } where
      up_small : (b : Bool) → cond b 1 0 ≤ 1
      up_small true = omega arith
      up_small false = omega arith
