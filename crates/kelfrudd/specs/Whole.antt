-- What is answered of a whole sheet.
use Rattle.std.specs.Prelude.{◌≡◌, ◌<◌, ℕ, ◌/◌, ◌%◌, cond, List, [], ◌∷◌, length, Some, None, Ok, Err, Option, Result, ◌==◌, nat_lt, slice_set}
use Rattle.std.specs.Simd.{first_chunks}
use Rattle.sheet.specs.Calls.{Model}
use Rattle.kelfrudd.specs.SystemNames.{system_named, modulus_of}
use Rattle.kelfrudd.specs.Listed.{concluded}
use Rattle.kelfrudd.specs.Refusals.{Reply, number_of, number_told, values_of}
use Rattle.kelfrudd.specs.declared.system_name.SystemName.{SystemName}
use Rattle.kelfrudd.specs.declared.listed.Stop.{Stop}
use Rattle.kelfrudd.specs.declared.refusal.Refusal.{Refusal}
use Rattle.kelfrudd.specs.declared.refusal.Refusal.TheVariants.{TooShort, NoWholeRows, UnknownSystem}

-- rows of ten, one after the other, are these numbers to the last

abbrev pub AreRowsOf : List ℕ → List (List ℕ) → Type 0
AreRowsOf xs rows = (length xs % 10 ≡ 0) × (rows ≡ first_chunks 10 (length xs / 10) xs) × (length rows ≡ length xs / 10)

abbrev pub HasNoWholeRows : List ℕ → Refusal → Type 0
HasNoWholeRows xs r = (0 < length xs % 10) × (r ≡ NoWholeRows)

abbrev pub concluded_by : Result SystemName Refusal → Result Model Stop → Option (Result ℕ Stop)
concluded_by (Ok name) ran = Some (concluded (modulus_of name) ran)
concluded_by (Err r) ran = None

abbrev pub concluded_in : ℕ → Result Model Stop → Option (Result ℕ Stop)
concluded_in system ran = concluded_by (system_named system) ran

abbrev pub outcome_reply : Result ℕ Stop → Reply
outcome_reply (Ok closing) = Ok tt
outcome_reply (Err stop) = Err stop.refusal

-- a number, how many rows passed, what a refusal tells besides in two numbers, and the closing number
abbrev pub five : ℕ → ℕ → ℕ → ℕ → ℕ → List ℕ
five number passed first second closing = number ∷ passed ∷ first ∷ second ∷ closing ∷ []

abbrev pub outcome_told : Result ℕ Stop → ℕ → List ℕ
outcome_told (Ok closing) rows = five 0 rows 0 0 closing
outcome_told (Err stop) rows = five (number_of stop.refusal) stop.passed (values_of stop.refusal).first (values_of stop.refusal).second 0

abbrev pub laid_five : ℕ → ℕ → ℕ → ℕ → ℕ → List ℕ → List ℕ
laid_five number passed first second closing xs = slice_set (slice_set (slice_set (slice_set (slice_set xs 0 number) 1 passed) 2 first) 3 second) 4 closing

abbrev pub outcome_laid : Result ℕ Stop → ℕ → List ℕ → List ℕ
outcome_laid (Ok closing) rows xs = laid_five 0 rows 0 0 closing xs
outcome_laid (Err stop) rows xs = laid_five (number_of stop.refusal) stop.passed (values_of stop.refusal).first (values_of stop.refusal).second 0 xs

abbrev pub reply_in : Option (Result ℕ Stop) → Reply
reply_in None = Err UnknownSystem
reply_in (Some outcome) = outcome_reply outcome

abbrev pub laid_in : Option (Result ℕ Stop) → ℕ → List ℕ → List ℕ
laid_in None rows xs = xs
laid_in (Some outcome) rows xs = outcome_laid outcome rows xs

-- five places are needed, and the numbers have to make rows of ten
abbrev pub sheet_reply : ℕ → ℕ → Option (Result ℕ Stop) → Reply
sheet_reply places numbers outcome = cond (nat_lt places 5) (Err TooShort) (cond (numbers % 10 == 0) (reply_in outcome) (Err NoWholeRows))

abbrev pub sheet_number : ℕ → ℕ → Option (Result ℕ Stop) → ℕ
sheet_number places numbers outcome = number_told (sheet_reply places numbers outcome)

abbrev pub sheet_places : List ℕ → ℕ → Option (Result ℕ Stop) → List ℕ
sheet_places xs numbers outcome = cond (nat_lt (length xs) 5) xs (cond (numbers % 10 == 0) (laid_in outcome (numbers / 10) xs) xs)
