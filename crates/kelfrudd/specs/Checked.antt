-- What is answered of a claim.
use Rattle.std.specs.Prelude.{ℕ, Bool, cond, ◌||◌, List, length, Some, None, Ok, Err, Option, Result, nat_lt, slice_index, slice_set}
use Rattle.binary32.specs.declared.operation.Operation.{Operation}
use Rattle.binary32.specs.declared.word.Word.{Word}
use Rattle.checks.specs.Examined.{Outcome, examined}
use Rattle.checks.specs.declared.flaw.Flaw.TheVariants.{Width}
use Rattle.hints.specs.Hints.{number_of}
use Rattle.hints.specs.declared.refusal.Refusal.TheVariants.{UnknownCode}
use Rattle.hints.specs.declared.writer.Hints.{Hints}
use Rattle.kelfrudd.specs.SystemNames.{system_named}
use Rattle.kelfrudd.specs.Refusals.{Reply, number_told}
use Rattle.kelfrudd.specs.declared.system_name.SystemName.{SystemName}
use Rattle.kelfrudd.specs.declared.refusal.Refusal.{Refusal}
use Rattle.kelfrudd.specs.declared.refusal.Refusal.TheVariants.{TooShort, UnknownSystem, Writer, Claim}

-- the first six numbers, as hints
abbrev pub hints_in : List ℕ → Hints
hints_in xs = record {
  main = slice_index xs 0;
  rest = slice_index xs 1;
  lift = slice_index xs 2;
  keep = slice_index xs 3;
  drop = slice_index xs 4;
  up = slice_index xs 5;
}

-- the first check that fails refuses
abbrev pub reply_of : Outcome → Reply
reply_of (Ok _) = Ok tt
reply_of (Err found) = Err (Claim found)

-- a code of no operation is refused before any check
abbrev pub checked_by : Option Operation → ℕ → ℕ → Word → Hints → Reply
checked_by None a b claimed h = Err (Writer UnknownCode)
checked_by (Some op) a b claimed h = reply_of (examined op a b (record { word = claimed; hints = h }))

-- every system finds the same
abbrev pub found_by : Result SystemName Refusal → Reply → Option Reply
found_by (Ok name) found = Some found
found_by (Err r) found = None

abbrev pub checked_in : ℕ → Reply → Option Reply
checked_in system found = found_by (system_named system) found

-- six hints are needed, and a place to name one
abbrev pub too_few : ℕ → ℕ → Bool
too_few places hints = nat_lt places 1 || nat_lt hints 6

abbrev pub reply_found : Option Reply → Reply
reply_found None = Err UnknownSystem
reply_found (Some found) = found

abbrev pub checked_reply : ℕ → ℕ → Option Reply → Reply
checked_reply places hints found = cond (too_few places hints) (Err TooShort) (reply_found found)

abbrev pub checked_number : ℕ → ℕ → Option Reply → ℕ
checked_number places hints found = number_told (checked_reply places hints found)

-- the hint that is outside its width, or 0
abbrev pub hint_named : Reply → ℕ
hint_named (Err (Claim (Width hint))) = number_of hint
hint_named _ = 0

abbrev pub hint_placed : List ℕ → Option Reply → List ℕ
hint_placed xs None = xs
hint_placed xs (Some found) = slice_set xs 0 (hint_named found)

abbrev pub checked_places : List ℕ → ℕ → Option Reply → List ℕ
checked_places xs hints found = cond (too_few (length xs) hints) xs (hint_placed xs found)
