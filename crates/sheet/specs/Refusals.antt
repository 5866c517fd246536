-- What is told of a refusal of the sheet: its number, its values, and the layer that refuses.
use Rattle.std.specs.Prelude.{ℕ}
use Rattle.checks.specs.Flaws as flaws
use Rattle.checks.specs.declared.flaw.Flaw.{Flaw}
use Rattle.hints.specs.Refusals.{Told, told}
use Rattle.hints.specs.declared.refusal.Layer.TheVariants as layer
use Rattle.sheet.specs.declared.refusal.Operand.{Operand}
use Rattle.sheet.specs.declared.refusal.Operand.TheVariants.{First, Second}
use Rattle.sheet.specs.declared.refusal.Refusal.{Refusal}
use Rattle.sheet.specs.declared.refusal.Refusal.TheVariants.{Full, UnknownCode, NotTaken, NotAccepted, BadTicket, Flawed}
use Rattle.sheet.specs.declared.refusal.Values.{Values}

-- an operand goes by its place, from 1
abbrev pub place_of : Operand → ℕ
place_of First = 1
place_of Second = 2

-- of a claim: the cell, and what is told of the flaw that was found
abbrev pub of_claim : ℕ → Flaw → Told
of_claim cell found = told (flaws.told_of found).number cell (flaws.told_of found).first (flaws.told_of found).layer

-- refusals 1 to 5 are the sheet's own and leave it as it was; 6 to 10 are of a claim, which is struck
abbrev pub told_of : Refusal → Told
told_of Full = told 1 0 0 layer.Sheet
told_of UnknownCode = told 2 0 0 layer.Sheet
told_of (NotTaken operand) = told 3 (place_of operand) 0 layer.Sheet
told_of (NotAccepted operand) = told 4 (place_of operand) 0 layer.Sheet
told_of BadTicket = told 5 0 0 layer.Sheet
told_of (Flawed cell found) = of_claim cell found

abbrev pub values_of : Refusal → Values
values_of r = record { first = (told_of r).first; second = (told_of r).second }
