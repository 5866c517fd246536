-- What is told of each flaw: the number of the check that finds it, the hint that it is about, and the layer that refuses.
use Rattle.hints.specs.Hints.{number_of}
use Rattle.hints.specs.Refusals.{Told, told}
use Rattle.hints.specs.declared.refusal.Layer.TheVariants as layer
use Rattle.checks.specs.declared.flaw.Flaw.{Flaw}
use Rattle.checks.specs.declared.flaw.Flaw.TheVariants.{Width, FirstEquation, SecondEquation, Up, Word}

abbrev pub told_of : Flaw → Told
told_of (Width hint) = told 6 (number_of hint) 0 layer.Hints
told_of FirstEquation = told 7 0 0 layer.Equations
told_of SecondEquation = told 8 0 0 layer.Equations
told_of Up = told 9 0 0 layer.Equations
told_of Word = told 10 0 0 layer.Word
