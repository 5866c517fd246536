-- Which claims are accepted.
use Rattle.std.specs.Prelude.{Bool, ◌==◌, bit_xor}
use Rattle.binary32.specs.declared.word.Word.{Word}
use Rattle.notation.specs.declared.line.Request.{Request}
use Rattle.rounding.specs.Nearest.{result}

-- with the writer's hints, just the claim of the step's result
unfoldable pub is_accepted : Request → Word → Bool
is_accepted step word = word.bits == result step.operation step.first.bits step.second.bits

-- a word with its lowest bit turned
abbrev pub damaged_of : Word → Word
damaged_of word = record { bits = bit_xor word.bits 1 }
