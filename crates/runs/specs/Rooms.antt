-- Room for the answers of a run.
use Rattle.std.specs.Prelude.{◌≡◌, ℕ, ◌≤◌, List, [], length, Some, None, vec_items, vec_len, vec_capacity, Option}
use Rattle.runs.specs.declared.call.ClosedCall.{ClosedCall}
use Rattle.runs.specs.declared.run.Answers.{Answers}

-- no answers yet, and room for so many
pub record Roomy (room : Answers) (opened closed : ℕ) : Type 0 where
  pub none_opened : vec_items room.opened ≡ []
  pub len_opened : vec_len room.opened ≡ 0
  pub cap_opened : opened ≤ vec_capacity room.opened
  pub none_closed : vec_items room.closed ≡ []
  pub len_closed : vec_len room.closed ≡ 0
  pub cap_closed : closed ≤ vec_capacity room.closed

abbrev pub count_of : Option (List ClosedCall) → ℕ
count_of None = 0
count_of (Some calls) = length calls
