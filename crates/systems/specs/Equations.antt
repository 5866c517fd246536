-- The two sides of an equation between sums of products, over whole numbers.
use Rattle.std.specs.Prelude.{ℕ, ◌+◌, ◌*◌, Bool, ◌==◌}
use Rattle.systems.specs.declared.equation.Equation.{Equation}

abbrev pub left_side : Equation → ℕ
left_side q = q.first * q.second + q.third * q.fourth

abbrev pub right_side : Equation → ℕ
right_side q = q.fifth * q.sixth + q.seventh

abbrev pub balanced : Equation → Bool
balanced q = left_side q == right_side q
