-- The first six numbers of a list, as hints.
use Rattle.std.proofs.Common.{◌≡◌, ℕ, List, take, sym, ap, ◌∙◌, arith}
use Rattle.std.proofs.lemmas.Grind.{common_steps}
use Rattle.hints.specs.Hints.{listed}
use Rattle.hints.specs.declared.writer.Hints.{Hints}
use Rattle.kelfrudd.specs.Checked.{hints_in}

-- what comes after them is not looked at
first_six : (xs : List ℕ) → hints_in (take 6 xs) ≡ hints_in xs
first_six xs = grind (arith, common_steps)

pub hints_are : (xs six : List ℕ) (h : Hints) → six ≡ take 6 xs → listed h ≡ six → hints_in xs ≡ h
hints_are xs six h first same = sym (first_six xs) ∙ ap hints_in (sym (same ∙ first))
