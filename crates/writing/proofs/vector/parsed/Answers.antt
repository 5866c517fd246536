-- After the word and a space stands the step.
use Rattle.std.proofs.Common.{◌≡◌, ℕ, Bool, true, false, cond, List, drop, is_ok, None, Ok, Err, Result, sym, refl, ap, ◌∙◌}
use Rattle.binary32.specs.declared.word.Word.{Word}
use Rattle.notation.specs.Lines.{placed, read_step}
use Rattle.notation.specs.Numerals.{word_of}
use Rattle.notation.specs.Places.{Place, start_of, past, rest_of, word_here, space_here}
use Rattle.notation.specs.declared.line.Request.{Request}
use Rattle.notation.specs.declared.fault.Fault.{Fault}
use Rattle.writing.specs.Verdicts.{expecting, after_word, vector_of}
use Rattle.writing.proofs.vector.parsed.Goals as goal

read_is : (r : Result Word ℕ) (word : Word) → Ok word ≡ placed 0 r → r ≡ Ok word
read_is (Ok w) word same = cc
read_is (Err count) word same = cc

passed : (b : Bool) (fault : Fault) → is_ok (cond b (Ok (tt {0})) (Err fault)) ≡ b
passed true fault = refl
passed false fault = refl

module _ (line : List ℕ) (start after_word_place after_space : Place) (word : Word)
    (starts : start ≡ start_of line)
    (read : Ok word ≡ word_here start) (read_on : after_word_place ≡ past 8 start)
    (space : true ≡ is_ok (space_here after_word_place)) (spaced_on : after_space ≡ past 1 after_word_place) where
  at_space : after_word_place ≡ past 8 (start_of line)
  at_space = read_on ∙ ap (past 8) starts

  at_step : after_space ≡ past 9 (start_of line)
  at_step = spaced_on ∙ ap (past 1) at_space

  vector_is : (text : List ℕ) (step : Result Request Fault) → text ≡ rest_of after_space → step ≡ read_step text → expecting word step ≡ vector_of line
  vector_is text step is_text is_step =
      let word_is = read_is (word_of line) word (read ∙ ap word_here starts) in
      let space_is = sym (space ∙ ap (λ p. is_ok (space_here p)) at_space ∙ passed _ _) in
      ap (expecting word) (is_step ∙ ap read_step (is_text ∙ ap rest_of at_step))
      ∙ sym (ap (after_word line) word_is ∙ ap (λ b. cond b (expecting word (read_step (drop 9 line))) None) space_is)

pub returns : goal.returns
returns c =
    c.expecting.ensures
    ∙ vector_is c.args.line.now _ _ _ _ c.new-reader.ensures c.in_ok-expected.ensures.value c.in_ok-expected.ensures.after (ap is_ok c.in_ok-space.ensures.value) c.in_ok-space.ensures.after _ _ c.rest.ensures c.read_step.ensures.value
