-- A request as a line: five words with a space between two, and before them `forged ` where a hint is to be forged.
-- Indices count from 0 and columns from 1.
use Rattle.std.specs.Prelude.{ℕ, ◌+◌, Bool, true, false, cond, List, take, drop, codes, Result}
use Rattle.std.specs.Str.{bytes_eq}
use Rattle.binary32.specs.declared.word.Word.{Word}
use Rattle.notation.specs.Lines.{placed, operand_at, end_at, and_then}
use Rattle.notation.specs.Numerals.{word_of}
use Rattle.notation.specs.declared.fault.Fault.{Fault}
use Rattle.regions.specs.declared.reading.Request.{Request}

abbrev pub is_forged : List ℕ → Bool
is_forged line = bytes_eq (codes "forged ") (take 7 line)

abbrev pub request_of : Word → Word → Word → Word → Word → Bool → Request
request_of x y centre_x centre_y radius forged = record {
  position = record { x = x; y = y };
  centre = record { x = centre_x; y = centre_y };
  radius = radius;
  forged = forged;
}

-- the first word stands at the index and has eight digits, each other has nine bytes with its space, and then the line ends; the first fault is the answer
unfoldable pub request_from : List ℕ → ℕ → Bool → Result Request Fault
request_from line at forged =
    and_then (placed at (word_of (drop at line))) (λ x.
    and_then (operand_at line (at + 8)) (λ y.
    and_then (operand_at line (at + 8 + 9)) (λ centre_x.
    and_then (operand_at line (at + 8 + 9 + 9)) (λ centre_y.
    and_then (operand_at line (at + 8 + 9 + 9 + 9)) (λ radius.
    end_at line (at + 8 + 9 + 9 + 9 + 9) (request_of x y centre_x centre_y radius forged))))))

abbrev pub read_request : List ℕ → Result Request Fault
read_request line = cond (is_forged line) (request_from line 7 true) (request_from line 0 false)
