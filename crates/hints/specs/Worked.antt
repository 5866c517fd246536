-- Steps worked out by hand: each has this word and these hints.
use Rattle.std.specs.Prelude.{◌≡◌, ℕ, ◌+◌, ◌-◌, ◌*◌, ◌^◌}
use Rattle.binary32.specs.declared.operation.Operation.{Operation}
use Rattle.binary32.specs.declared.operation.Operation.TheVariants.{Add, Subtract, Multiply, Divide, SquareRoot}
use Rattle.hints.specs.Writer.{written_step}

-- operation, operands, word, then main, rest, lift, keep, drop and up
abbrev pub Row : Operation → ℕ → ℕ → ℕ → ℕ → ℕ → ℕ → ℕ → ℕ → ℕ → Type 0
Row op a b word main rest lift keep drop up =
    written_step op a b ≡ record {
      word = record { bits = word };
      hints = record { main = main; rest = rest; lift = lift; keep = keep; drop = drop; up = up };
    }

pub record Worked : Type 0 where
  pub one_and_one : Row Add 0x3f800000 0x3f800000 0x40000000 (2 ^ 50) 0 0 (2 ^ 23) 0 0
  -- half of the spacing above 1: a tie, to the even side
  pub tie_down : Row Add 0x3f800000 0x33800000 0x3f800000 (2 ^ 49 + 2 ^ 25) 0 1 (2 ^ 23) (2 ^ 26) 0
  pub tie_up : Row Add 0x3f800001 0x33800000 0x3f800002 (2 ^ 49 + 2 ^ 26 + 2 ^ 25) 0 1 (2 ^ 23 + 1) (2 ^ 26) 1
  -- nearly everything cancels
  pub cancellation : Row Subtract 0x3f800000 0x3f7fffff 0x33800000 (2 ^ 25) 0 25 (2 ^ 23) 0 0
  -- a tie between the highest finite word and 2^128
  pub overflow : Row Add 0x7f7fffff 0x73000000 0x7f800000 (2 ^ 50 - 2 ^ 25) 0 1 (2 ^ 24 - 1) (2 ^ 26) 1
  -- half of the least word, and one and a half of it
  pub underflow : Row Multiply 1 0x3f000000 0 (2 ^ 46) 0 4 0 (2 ^ 50) 0
  pub subnormal : Row Multiply 3 0x3f000000 2 (3 * 2 ^ 45) 0 4 1 (2 ^ 49) 1
  -- a third: on the tie by its bits, above it by what is left over
  pub third : Row Divide 0x3f800000 0x40400000 0x3eaaaaab 44739242 8388608 25 11184810 (2 ^ 26) 1
  pub root_of_two : Row SquareRoot 0x40000000 0 0x3fb504f3 23726566 19268956 26 11863283 0 0
