-- A step as a line: the operation's name, then a space and eight digits for each operand, then the end.
-- Indices count from 0 and columns from 1.
use Rattle.std.specs.Prelude.{◌≡◌, ℕ, ◌+◌, ◌^◌, ◌<◌, Bool, cond, not, List, [], ◌∷◌, ◌++◌, length, take, drop, Some, None, Ok, Err, Option, Result, ◌==◌, slice_index}
use Rattle.std.specs.List.{prefix_len}
use Rattle.binary32.specs.Operations.{is_root}
use Rattle.binary32.specs.declared.operation.Operation.{Operation}
use Rattle.binary32.specs.declared.word.Word.{Word}
use Rattle.notation.specs.Names.{name_of, operation_named}
use Rattle.notation.specs.Numerals.{word_of, digits_of}
use Rattle.notation.specs.declared.line.Request.{Request}
use Rattle.notation.specs.declared.fault.Fault.{Fault}
use Rattle.notation.specs.declared.fault.Fault.TheVariants.{UnknownOperation, MissingWord, BadDigit, TrailingText}

-- a space has the code 32
abbrev pub is_space : ℕ → Bool
is_space code = code == 32

abbrev pub in_name : ℕ → Bool
in_name code = not (is_space code)

-- where the name ends: at the first space, or at the line's end
abbrev pub name_end : List ℕ → ℕ
name_end line = prefix_len in_name line

-- a word that was to begin at an index: where it has too few digits, the next should stand after them
abbrev pub placed : ℕ → Result Word ℕ → Result Word Fault
placed start (Ok word) = Ok word
placed start (Err count) = Err (BadDigit (start + count + 1))

-- a space stands at the index, and a word after it
abbrev pub operand_at : List ℕ → ℕ → Result Word Fault
operand_at line at = cond (is_space (slice_index line at)) (placed (at + 1) (word_of (drop (at + 1) line))) (Err (MissingWord (at + 1)))

-- the line ends at the index: then this is read
abbrev pub end_at : {X : Type 0} → List ℕ → ℕ → X → Result X Fault
end_at line at read = cond (length line == at) (Ok read) (Err (TrailingText (at + 1)))

-- the first fault is the answer
abbrev pub and_then : {X Y : Type 0} → Result X Fault → (X → Result Y Fault) → Result Y Fault
and_then (Ok x) next = next x
and_then (Err fault) next = Err fault

-- What follows the second operand of a request, and the first: a root has one operand, each other operation two.
abbrev pub after_second : List ℕ → ℕ → Operation → Word → Word → Result Request Fault
after_second line at operation first second = end_at line at (record { operation = operation; first = first; second = second })

abbrev pub after_first : List ℕ → ℕ → Operation → Word → Result Request Fault
after_first line at operation first =
    cond (is_root operation)
    (after_second line at operation first (record { bits = 0 }))
    (and_then (operand_at line at) (after_second line (at + 9) operation first))

unfoldable pub operands_of : List ℕ → ℕ → Operation → Result Request Fault
operands_of line at operation = and_then (operand_at line at) (after_first line (at + 9) operation)

abbrev pub after_name : List ℕ → ℕ → Option Operation → Result Request Fault
after_name line end None = Err UnknownOperation
after_name line end (Some operation) = operands_of line end operation

abbrev pub read_step : List ℕ → Result Request Fault
read_step line = after_name line (name_end line) (operation_named (take (name_end line) line))

-- A step written as a line. A root's second operand is not written, and is read as zero.
abbrev pub line_of : Operation → Word → Word → List ℕ
line_of operation first second =
    name_of operation ++ (32 ∷ digits_of first.bits ++ cond (is_root operation) [] (32 ∷ digits_of second.bits))

abbrev pub request_of : Operation → Word → Word → Request
request_of operation first second =
    record { operation = operation; first = first; second = cond (is_root operation) (record { bits = 0 }) second }

-- a line that a step is written as is read as that step
abbrev pub ReadsBack : List ℕ → Result Request Fault → Type 0
ReadsBack line read =
    (operation : Operation) (first second : Word) → first.bits < 2 ^ 32 → second.bits < 2 ^ 32
    → line ≡ line_of operation first second → read ≡ Ok (request_of operation first second)
