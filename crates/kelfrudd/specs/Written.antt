-- What is answered of a written step, and what is laid out.
use Rattle.std.specs.Prelude.{ℕ, cond, List, [], ◌∷◌, length, Ok, Err, Result, nat_lt, slice_set}
use Rattle.hints.specs.declared.refusal.Refusal as writer
use Rattle.hints.specs.declared.writer.Written.{Written}
use Rattle.kelfrudd.specs.Refusals.{Reply, number_told}
use Rattle.kelfrudd.specs.declared.refusal.Refusal.TheVariants.{TooShort, Writer}

-- the word and the six hints
abbrev pub seven : Written → List ℕ
seven w = w.word.bits ∷ w.hints.main ∷ w.hints.rest ∷ w.hints.lift ∷ w.hints.keep ∷ w.hints.drop ∷ w.hints.up ∷ []

-- they are in the first seven places; the places after them are as they were
abbrev pub laid : Written → List ℕ → List ℕ
laid w xs =
    slice_set (slice_set (slice_set (slice_set (slice_set (slice_set (slice_set xs 0 w.word.bits) 1 w.hints.main) 2 w.hints.rest) 3 w.hints.lift)
    4 w.hints.keep) 5 w.hints.drop) 6 w.hints.up

abbrev pub reply_written : Result Written writer.Refusal → Reply
reply_written (Ok w) = Ok tt
reply_written (Err r) = Err (Writer r)

-- too short where there are fewer than seven places
abbrev pub written_reply : ℕ → Result Written writer.Refusal → Reply
written_reply places reply = cond (nat_lt places 7) (Err TooShort) (reply_written reply)

abbrev pub written_number : ℕ → Result Written writer.Refusal → ℕ
written_number places reply = number_told (written_reply places reply)

abbrev pub laid_reply : Result Written writer.Refusal → List ℕ → List ℕ
laid_reply (Ok w) xs = laid w xs
laid_reply (Err r) xs = xs

abbrev pub written_places : Result Written writer.Refusal → List ℕ → List ℕ
written_places reply xs = cond (nat_lt (length xs) 7) xs (laid_reply reply xs)
