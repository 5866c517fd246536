-- A word's digits are read back as the word.
use Rattle.std.proofs.Common.{◌≡◌, ℕ, ◌^◌, ◌<◌, cond, eqb, List, [], ◌∷◌, map, length, is_some, Some, Ok, Err, Result, unwrap_or, refl, ap, ◌∙◌, arith, rules}
use Rattle.std.specs.Int.Digits.{number_from_digits, AllBelowBase}
use Rattle.std.specs.List.{prefix_len}
use Rattle.std.proofs.lemmas.Bool.Decides.{nat_tests}
use Rattle.binary32.specs.declared.word.Word.{Word}
use Rattle.notation.specs.Numerals.{digit_of, is_digit, value_of, word_of, code_of, places_of, digits_of}

pub digit_code : (value : ℕ) → value < 16 → digit_of (code_of value) ≡ Some value
digit_code value small = grind (arith, nat_tests)

-- Values that are written as digits are read back.
counted : (values : List ℕ) → AllBelowBase 16 values → prefix_len is_digit (map code_of values) ≡ length values
counted [] small = refl
counted (value ∷ values) small =
    rw (ap is_some (digit_code value small.0)) (omega (arith, counted values small.1))

read_back : (values : List ℕ) → AllBelowBase 16 values → map value_of (map code_of values) ≡ values
read_back [] small = refl
read_back (value ∷ values) small =
    let first : value_of (code_of value) ≡ value = ap (λ o. unwrap_or o 0) (digit_code value small.0) in
    let others = read_back values small.1 in
    cc

places_small : (bits : ℕ) → AllBelowBase 16 (places_of bits)
places_small bits = search rules

-- The digits of a number below 2^32 write it.
number_places : (bits : ℕ) → bits < 2 ^ 32 → number_from_digits 16 (places_of bits) ≡ bits
number_places bits fits = omega arith

-- what is read of a text that begins with this many digits, which write this number
abbrev answer : ℕ → ℕ → Result Word ℕ
answer count bits = cond (eqb count 8) (Ok (record { bits = bits })) (Err count)

pub word_digits : (word : Word) → word.bits < 2 ^ 32 → word_of (digits_of word.bits) ≡ Ok word
word_digits word fits =
    let small = places_small word.bits in
    ap (λ count. answer count (number_from_digits 16 (map value_of (digits_of word.bits)))) (counted (places_of word.bits) small)
    ∙ ap (answer 8) (ap (number_from_digits 16) (read_back (places_of word.bits) small) ∙ number_places word.bits fits)
