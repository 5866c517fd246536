-- What is said of a line that is no step.
use Rattle.std.specs.Prelude.{ℕ, List, ◌++◌, codes, decimal}
use Rattle.notation.specs.declared.fault.Fault.{Fault}
use Rattle.notation.specs.declared.fault.Fault.TheVariants.{UnknownOperation, MissingWord, BadDigit, TrailingText}

abbrev pub message_of : Fault → List ℕ
message_of UnknownOperation = codes "column 1: no operation has this name"
message_of (MissingWord column) = codes "column " ++ (decimal column ++ codes ": a space and a word should stand here")
message_of (BadDigit column) = codes "column " ++ (decimal column ++ codes ": a word has eight digits, 0-9 and A-F")
message_of (TrailingText column) = codes "column " ++ (decimal column ++ codes ": the line should end here")
