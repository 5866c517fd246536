-- What a check that passed tells, and when one passes.
use Rattle.std.proofs.Common.{rules, ◌≡◌, ℕ, ◌-◌, ◌^◌, ◌<◌, ◌≤◌, Bool, true, false, Some, None, Ok, Option, sym, refl, arith}
use Rattle.std.proofs.lemmas.Bool.{eqb-true, eq-eqb}
use Rattle.hints.specs.Backs.{rest_limit, FirstEquation, NoHints}
use Rattle.hints.specs.Scheme.{main_width}
use Rattle.hints.specs.declared.hint.Hint.{Hint}
use Rattle.hints.specs.declared.setting.Kind.{Kind}
use Rattle.hints.specs.declared.setting.Kind.TheVariants.{Sum, Difference, Product, Quotient, Root}
use Rattle.hints.specs.declared.writer.Hints.{Hints}
use Rattle.systems.specs.Equations.{balanced}
use Rattle.checks.specs.Equations.{first_equation}
use Rattle.checks.specs.Examined.{Outcome, check, check_widths}
use Rattle.checks.specs.Widths.{front_outside, back_outside, some_hint}
use Rattle.checks.specs.declared.flaw.Flaw.{Flaw}

-- where nothing is found, a check passes and the later ones find nothing
pub check_passed : (passes : Bool) (found : Flaw) (later : Outcome) → check passes found later ≡ Ok tt → (passes ≡ true) × (later ≡ Ok tt)
check_passed true found later ok = (refl, ok)
check_passed false found later ok = absurd cc

pub widths_passed : (o : Option Hint) (later : Outcome) → check_widths o later ≡ Ok tt → (None ≡ o) × (later ≡ Ok tt)
widths_passed (Some hint) later ok = absurd cc
widths_passed None later ok = (refl, ok)

-- main, rest and lift are within their widths
pub record Front (kind : Kind) (second : ℕ) (h : Hints) : Type 0 where
  pub main_fits : h.main < 2 ^ main_width kind
  pub rest_width : h.rest < rest_limit kind second h.main
  pub lift_width : h.lift ≤ 50
  pub lift_low : 2 ^ (50 - h.lift) ≤ h.main
  pub lift_high : h.main < 2 ^ (51 - h.lift)

pub front_within : (kind : Kind) (second : ℕ) (h : Hints) → None ≡ front_outside kind second h → Front kind second h
front_within kind second h none =
    record { main_fits = grind arith; rest_width = grind arith; lift_width = grind arith; lift_low = grind arith; lift_high = grind arith }

-- the check of their widths passed
pub front_passed : (kind : Kind) (second : ℕ) (h : Hints) → Ok tt ≡ check_widths (front_outside kind second h) (Ok tt) → Front kind second h
front_passed kind second h ok = front_within kind second h (widths_passed (front_outside kind second h) (Ok tt) (sym {a = Ok tt} ok)).0

pub within_front : (kind : Kind) (second : ℕ) (h : Hints) → Front kind second h → front_outside kind second h ≡ None
within_front kind second h front =
    let main = front.main_fits in
    let rest = front.rest_width in
    let lift = front.lift_width in
    let low = front.lift_low in
    let high = front.lift_high in
    search rules

-- keep, drop and up are within their widths
pub record Back (k : ℕ) (h : Hints) : Type 0 where
  pub keep_width : h.keep < 2 ^ (51 - k)
  pub drop_width : h.drop < 2 ^ k
  pub up_width : h.up ≤ 1

pub back_within : (k : ℕ) (h : Hints) → None ≡ back_outside k h → Back k h
back_within k h none = record { keep_width = grind arith; drop_width = grind arith; up_width = grind arith }

pub back_passed : (k : ℕ) (h : Hints) → Ok tt ≡ check_widths (back_outside k h) (Ok tt) → Back k h
back_passed k h ok = back_within k h (widths_passed (back_outside k h) (Ok tt) (sym {a = Ok tt} ok)).0

pub within_back : (k : ℕ) (h : Hints) → Back k h → back_outside k h ≡ None
within_back k h back =
    let keep = back.keep_width in
    let drop = back.drop_width in
    let up = back.up_width in
    search rules

-- every hint is 0
pub no_hints : (h : Hints) → None ≡ some_hint h → NoHints h
no_hints h none =
    record { no_main = grind arith; no_rest = grind arith; no_lift = grind arith; no_keep = grind arith; no_drop = grind arith; no_up = grind arith }

-- the first equation in its two forms
pub first_holds : (kind : Kind) (first second shift main rest : ℕ) →
    balanced (first_equation kind first second shift main rest) ≡ true → FirstEquation kind first second shift main rest
first_holds Sum first second shift main rest holds = omega (arith, eqb-true _ _ holds)
first_holds Difference first second shift main rest holds = omega (arith, eqb-true _ _ holds)
first_holds Product first second shift main rest holds = omega (arith, eqb-true _ _ holds)
first_holds Quotient first second shift main rest holds = omega (arith, eqb-true _ _ holds)
first_holds Root first second shift main rest holds = omega (arith, eqb-true _ _ holds)

pub holds_first : (kind : Kind) (first second shift main rest : ℕ) →
    FirstEquation kind first second shift main rest → balanced (first_equation kind first second shift main rest) ≡ true
holds_first Sum first second shift main rest equation = eq-eqb _ _ (omega arith)
holds_first Difference first second shift main rest equation = eq-eqb _ _ (omega arith)
holds_first Product first second shift main rest equation = eq-eqb _ _ (omega arith)
holds_first Quotient first second shift main rest equation = eq-eqb _ _ (omega arith)
holds_first Root first second shift main rest equation = eq-eqb _ _ (omega arith)
