-- The fold of the accepted words, cell by cell.
use Rattle.std.proofs.Common.{◌≡◌, ℕ, suc, ◌+◌, ◌*◌, ◌<◌, List, get_or, arith, [], ◌∷◌, ◌++◌, refl, ap, ◌∙◌, add-one}
use Rattle.std.specs.Prelude.{Result, Ok, Err}
use Rattle.std.proofs.lemmas.Bool.Decides.{nat_tests}
use Rattle.binary32.specs.declared.word.Word.{Word}
use Rattle.sheet.specs.Closing.{fold_from, words_below, words_of}
use Rattle.sheet.specs.Cells.{cell_of, word_in}
use Rattle.sheet.specs.Tables.{Standing, standing_of}
use Rattle.sheet.specs.declared.cell.State.{State}
use Rattle.sheet.specs.declared.cell.State.TheVariants.{Free, Input, Pending, Accepted, Struck}
use Rattle.sheet.specs.declared.refusal.Refusal.{Refusal}
use Rattle.sheet.specs.declared.table.Table.{Table}

fold_append : (weight total : ℕ) (ws vs : List Word) → fold_from weight total (ws ++ vs) ≡ fold_from weight (fold_from weight total ws) vs
fold_append weight total [] vs = refl
fold_append weight total (w ∷ ws) vs = fold_append weight (total * weight + w.bits) ws vs

words_more : (s : Standing) (n : ℕ) → words_below s (suc n) ≡ words_below s n ++ words_of (s.state n)
unfolding words_below
words_more s n = refl

pub fold_none : (weight : ℕ) (s : Standing) → fold_from weight 0 (words_below s 0) ≡ 0
unfolding words_below
fold_none weight s = refl

-- one cell more
pub fold_more : (weight : ℕ) (s : Standing) (n : ℕ) →
    fold_from weight 0 (words_below s (n + 1)) ≡ fold_from weight (fold_from weight 0 (words_below s n)) (words_of (s.state n))
fold_more weight s n =
    ap (λ k. fold_from weight 0 (words_below s k)) (add-one n) ∙ ap (fold_from weight 0) (words_more s n)
    ∙ fold_append weight 0 (words_below s n) (words_of (s.state n))

-- a cell that there is stands as its number does
pub state_in : (t : Table) (n : ℕ) → n < 256 → (get_or t.cells n (cell_of Free)).state ≡ (standing_of t).state n
state_in t n within = grind (arith, nat_tests)

-- the words of a cell by what is read of it
abbrev read_words : Result Word Refusal → List Word
read_words (Ok word) = word ∷ []
read_words (Err refusal) = []

pub words_read : (s : State) (r : Result Word Refusal) → r ≡ word_in s → words_of s ≡ read_words r
words_read Free r is = rw is refl
words_read (Input word) r is = rw is refl
words_read (Pending operation first second word) r is = rw is refl
words_read (Accepted word) r is = rw is refl
words_read Struck r is = rw is refl
