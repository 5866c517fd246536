-- What is told of a refusal: its number, and its values.
use Rattle.std.specs.Prelude.{ℕ, Ok, Err, Result}
use Rattle.checks.specs.Flaws as flaws
use Rattle.hints.specs.Refusals as writer
use Rattle.sheet.specs.Refusals as sheet
use Rattle.sheet.specs.declared.refusal.Values.{Values}
use Rattle.kelfrudd.specs.declared.refusal.Refusal.{Refusal}
use Rattle.kelfrudd.specs.declared.refusal.Refusal.TheVariants.{TooShort, NoWholeRows, UnknownSystem, WideWord, Writer, Claim, Sheet}

-- the numbers from 101 on are those of this library, and the others those of the refusals within
abbrev pub number_of : Refusal → ℕ
number_of TooShort = 101
number_of NoWholeRows = 102
number_of UnknownSystem = 103
number_of WideWord = 104
number_of (Writer r) = (writer.told_of r).number
number_of (Claim found) = (flaws.told_of found).number
number_of (Sheet r) = (sheet.told_of r).number

abbrev pub values : ℕ → ℕ → Values
values first second = record { first = first; second = second }

-- 0 where there is nothing to tell
abbrev pub values_of : Refusal → Values
values_of TooShort = values 0 0
values_of NoWholeRows = values 0 0
values_of UnknownSystem = values 0 0
values_of WideWord = values 0 0
values_of (Writer r) = values (writer.told_of r).first (writer.told_of r).second
values_of (Claim found) = values (flaws.told_of found).first (flaws.told_of found).second
values_of (Sheet r) = sheet.values_of r

-- nothing is refused, or something is
abbrev pub Reply : Type 0
Reply = Result (Unit {0}) Refusal

-- 0 where nothing is refused
abbrev pub number_told : Reply → ℕ
number_told (Ok _) = 0
number_told (Err r) = number_of r
