-- What is answered of a whole sheet, where nothing is too short, the rows are whole and the system is known.
use Rattle.std.proofs.Common.{◌≡◌, ℕ, ◌/◌, ◌%◌, ◌≤◌, List, ◌++◌, length, drop, Ok, Err, Result, arith}
use Rattle.std.proofs.lemmas.Grind.{common_steps}
use Rattle.sheet.specs.Calls.{Model}
use Rattle.kelfrudd.specs.SystemNames.{system_named, modulus_of}
use Rattle.kelfrudd.specs.Listed.{concluded}
use Rattle.kelfrudd.specs.Whole.{five, laid_five, outcome_told, outcome_laid, outcome_reply, concluded_in, sheet_reply, sheet_places}
use Rattle.kelfrudd.specs.declared.system_name.SystemName.{SystemName}
use Rattle.kelfrudd.specs.declared.listed.Stop.{Stop}

-- five numbers in the first places
five_laid : (a b c d e : ℕ) (xs : List ℕ) → 5 ≤ length xs → five a b c d e ++ drop 5 xs ≡ laid_five a b c d e xs
five_laid a b c d e xs long = grind (arith, common_steps)

pub told_laid : (outcome : Result ℕ Stop) (rows : ℕ) (xs : List ℕ) → 5 ≤ length xs → outcome_told outcome rows ++ drop 5 xs ≡ outcome_laid outcome rows xs
told_laid (Ok closing) rows xs long = five_laid _ _ _ _ _ xs long
told_laid (Err stop) rows xs long = five_laid _ _ _ _ _ xs long

module _ (places : List ℕ) (numbers system : ℕ) (name : SystemName) (ran : Result Model Stop) (long : 5 ≤ length places) (whole : numbers % 10 ≡ 0) (known : system_named system ≡ Ok name) where
  pub sheet_reply_is : sheet_reply (length places) numbers (concluded_in system ran) ≡ outcome_reply (concluded (modulus_of name) ran)
  sheet_reply_is = grind arith

  pub sheet_places_are : sheet_places places numbers (concluded_in system ran) ≡ outcome_laid (concluded (modulus_of name) ran) (numbers / 10) places
  sheet_places_are = grind arith
