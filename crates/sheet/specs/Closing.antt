-- The closing number of a sheet.
use Rattle.std.specs.Prelude.{ℕ, zero, suc, ◌+◌, ◌*◌, ◌%◌, List, [], ◌∷◌, ◌++◌}
use Rattle.binary32.specs.declared.word.Word.{Word}
use Rattle.sheet.specs.Tables.{Standing}
use Rattle.sheet.specs.declared.cell.State.{State}
use Rattle.sheet.specs.declared.cell.State.TheVariants.{Free, Input, Pending, Accepted, Struck}

-- the word of an accepted cell, an input's among them; any other cell has none
abbrev pub words_of : State → List Word
words_of Free = []
words_of (Input word) = word ∷ []
words_of (Pending operation first second word) = []
words_of (Accepted word) = word ∷ []
words_of Struck = []

-- those of the cells below a number, in order
unfoldable pub words_below : Standing → ℕ → List Word
words_below s zero = []
words_below s (suc n) = words_below s n ++ words_of (s.state n)

abbrev pub accepted_words : Standing → List Word
accepted_words s = words_below s 256

-- from a number on: for each word, times the weight, plus the word
abbrev pub fold_from : ℕ → ℕ → List Word → ℕ
fold_from weight total [] = total
fold_from weight total (w ∷ ws) = fold_from weight (total * weight + w.bits) ws

-- the accepted words in order, folded from 0, modulo the modulus of the system
abbrev pub closing_number : ℕ → ℕ → Standing → ℕ
closing_number modulus weight s = fold_from weight 0 (accepted_words s) % modulus
