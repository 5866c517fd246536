use Rattle.std.proofs.Common.{◌≡◌, Ok}
use Rattle.kelfrudd.specs.Listed.{ran_over}
use Rattle.kelfrudd.proofs.listed.Listed.conclude.Given as goal

-- no row stopped the list so far, and the sheet is as the rows leave it
abbrev pub invariant-loop-n : goal.invariant-loop-n
invariant-loop-n g l = Ok l.sheet ≡ ran_over l.self.serial l.self.weight l.self.rows.now l.n-counter
