-- The two equations of a rounded step, over whole numbers.
use Rattle.std.specs.Prelude.{ℕ, ◌^◌, ◌<◌}
use Rattle.hints.specs.declared.setting.Kind.{Kind}
use Rattle.hints.specs.declared.setting.Kind.TheVariants.{Sum, Difference, Product, Quotient, Root}
use Rattle.hints.specs.declared.writer.Hints.{Hints}
use Rattle.systems.specs.Equations.{left_side, right_side}
use Rattle.systems.specs.declared.equation.Equation.{Equation}

-- a × b + c × d = e × f + g
abbrev pub terms : ℕ → ℕ → ℕ → ℕ → ℕ → ℕ → ℕ → Equation
terms a b c d e f g = record { first = a; second = b; third = c; fourth = d; fifth = e; sixth = f; seventh = g }

-- every system tells numbers below 2^56 apart
pub record Narrow (q : Equation) : Type 0 where
  pub left : left_side q < 2 ^ 56
  pub right : right_side q < 2 ^ 56

abbrev pub first_equation : Kind → ℕ → ℕ → ℕ → ℕ → ℕ → Equation
first_equation Sum first second shift main rest = terms first (2 ^ 26) second (2 ^ shift) main 1 0
first_equation Difference first second shift main rest = terms main 1 second (2 ^ shift) first (2 ^ 26) 0
first_equation Product first second shift main rest = terms first second 0 0 main 1 0
first_equation Quotient first second shift main rest = terms first (2 ^ 26) 0 0 main second rest
first_equation Root first second shift main rest = terms first (2 ^ shift) 0 0 main main rest

abbrev pub second_equation : ℕ → Hints → Equation
second_equation k h = terms h.main (2 ^ h.lift) 0 0 h.keep (2 ^ k) h.drop
