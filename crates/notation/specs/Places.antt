-- A place in a line, and what stands there. Indices count from 0 and columns from 1.
use Rattle.std.specs.Prelude.{ℕ, ◌+◌, Bool, cond, List, length, take, drop, Ok, Err, Result, slice_index}
use Rattle.std.specs.Str.{bytes_eq}
use Rattle.binary32.specs.declared.word.Word.{Word}
use Rattle.notation.specs.Lines.{is_space, name_end, placed, operand_at, end_at}
use Rattle.notation.specs.Numerals.{word_of}
use Rattle.notation.specs.declared.fault.Fault.{Fault}
use Rattle.notation.specs.declared.fault.Fault.TheVariants.{MissingWord}

-- a line, and how many of its bytes stand before the place
pub record Place : Type 0 where
  pub line : List ℕ
  pub at : ℕ

abbrev pub start_of : List ℕ → Place
start_of line = record { line = line; at = 0 }

-- the place so many bytes further on
abbrev pub past : ℕ → Place → Place
past n p = record { line = p.line; at = p.at + n }

abbrev pub rest_of : Place → List ℕ
rest_of p = drop p.at p.line

-- what stands before the next space, or before the line's end
abbrev pub name_here : Place → List ℕ
name_here p = take (name_end (rest_of p)) (rest_of p)

abbrev pub stands_here : List ℕ → Place → Bool
stands_here text p = bytes_eq text (take (length text) (rest_of p))

-- a space stands here
abbrev pub space_here : Place → Result (Unit {0}) Fault
space_here p = cond (is_space (slice_index p.line p.at)) (Ok tt) (Err (MissingWord (p.at + 1)))

abbrev pub word_here : Place → Result Word Fault
word_here p = placed p.at (word_of (rest_of p))

abbrev pub operand_here : Place → Result Word Fault
operand_here p = operand_at p.line p.at

abbrev pub end_here : Place → Result (Unit {0}) Fault
end_here p = end_at p.line p.at tt
