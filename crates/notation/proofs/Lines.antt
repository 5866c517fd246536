-- A line that a step is written as is read as that step.
use Rattle.std.proofs.Common.{◌≡◌, ℕ, ◌^◌, ◌<◌, List, Ok, ap, ◌∙◌}
use Rattle.binary32.specs.declared.operation.Operation.{Operation}
use Rattle.binary32.specs.declared.operation.Operation.TheVariants.{Add, Subtract, Multiply, Divide, SquareRoot, Equal, Less, AtMost}
use Rattle.binary32.specs.declared.word.Word.{Word}
use Rattle.notation.specs.Lines.{ReadsBack, placed, and_then, after_first, after_second, operands_of, read_step, line_of, request_of}
use Rattle.notation.proofs.Written.{word_digits}

module _ (first second : Word) (fits : first.bits < 2 ^ 32) (fits' : second.bits < 2 ^ 32) where
  -- A name, a space and eight digits are read; for all but a root, a space and eight digits more.
  pub line_back : (operation : Operation) → read_step (line_of operation first second) ≡ Ok (request_of operation first second)
  unfolding operands_of
  line_back Add =
      ap (λ word. and_then (placed 4 word) (after_first (line_of Add first second) 12 Add)) (word_digits first fits)
      ∙ ap (λ word. and_then (placed 13 word) (after_second (line_of Add first second) 21 Add first)) (word_digits second fits')
  line_back Subtract =
      ap (λ word. and_then (placed 4 word) (after_first (line_of Subtract first second) 12 Subtract)) (word_digits first fits)
      ∙ ap (λ word. and_then (placed 13 word) (after_second (line_of Subtract first second) 21 Subtract first)) (word_digits second fits')
  line_back Multiply =
      ap (λ word. and_then (placed 4 word) (after_first (line_of Multiply first second) 12 Multiply)) (word_digits first fits)
      ∙ ap (λ word. and_then (placed 13 word) (after_second (line_of Multiply first second) 21 Multiply first)) (word_digits second fits')
  line_back Divide =
      ap (λ word. and_then (placed 4 word) (after_first (line_of Divide first second) 12 Divide)) (word_digits first fits)
      ∙ ap (λ word. and_then (placed 13 word) (after_second (line_of Divide first second) 21 Divide first)) (word_digits second fits')
  line_back SquareRoot =
      ap (λ word. and_then (placed 5 word) (after_first (line_of SquareRoot first second) 13 SquareRoot)) (word_digits first fits)
  line_back Equal =
      ap (λ word. and_then (placed 6 word) (after_first (line_of Equal first second) 14 Equal)) (word_digits first fits)
      ∙ ap (λ word. and_then (placed 15 word) (after_second (line_of Equal first second) 23 Equal first)) (word_digits second fits')
  line_back Less =
      ap (λ word. and_then (placed 5 word) (after_first (line_of Less first second) 13 Less)) (word_digits first fits)
      ∙ ap (λ word. and_then (placed 14 word) (after_second (line_of Less first second) 22 Less first)) (word_digits second fits')
  line_back AtMost =
      ap (λ word. and_then (placed 7 word) (after_first (line_of AtMost first second) 15 AtMost)) (word_digits first fits)
      ∙ ap (λ word. and_then (placed 16 word) (after_second (line_of AtMost first second) 24 AtMost first)) (word_digits second fits')

pub reads_back : (line : List ℕ) → ReadsBack line (read_step line)
reads_back line operation first second fits fits' written =
    ap read_step written ∙ line_back first second fits fits' operation
