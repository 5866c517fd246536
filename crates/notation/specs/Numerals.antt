-- Words as eight hexadecimal digits with capitals.
use Rattle.std.specs.Prelude.{ℕ, ◌+◌, ◌-◌, ◌/◌, ◌%◌, ◌^◌, Bool, cond, ◌&&◌, List, [], ◌∷◌, map, take, is_some, Some, None, Ok, Err, Option, Result, ◌==◌, nat_le, nat_lt}
use Rattle.std.specs.Option.{unwrap_or}
use Rattle.std.specs.Int.Digits.{number_from_digits}
use Rattle.std.specs.List.{prefix_len}
use Rattle.binary32.specs.declared.word.Word.{Word}

-- the code lies between those of two characters
abbrev pub within : ℕ → ℕ → ℕ → Bool
within low high code = nat_le low code && nat_le code high

-- the value of a digit: 0 to 9 have the codes 48 to 57, and A to F the codes 65 to 70
abbrev pub digit_of : ℕ → Option ℕ
digit_of code = cond (within 48 57 code) (Some (code - 48)) (cond (within 65 70 code) (Some (code - 55)) None)

abbrev pub is_digit : ℕ → Bool
is_digit code = is_some (digit_of code)

abbrev pub value_of : ℕ → ℕ
value_of code = unwrap_or (digit_of code) 0

-- The word that a text begins with: its first eight bytes are digits, and the word is the number that
-- they write. Where it begins with fewer digits, how many those are.
abbrev pub word_of : List ℕ → Result Word ℕ
word_of text =
    cond (prefix_len is_digit (take 8 text) == 8)
    (Ok (record { bits = number_from_digits 16 (map value_of (take 8 text)) }))
    (Err (prefix_len is_digit (take 8 text)))

-- the code of the digit of a value below sixteen
abbrev pub code_of : ℕ → ℕ
code_of value = cond (nat_lt value 10) (48 + value) (55 + value)

-- the values of the eight digits of a word, the highest first
abbrev pub places_of : ℕ → List ℕ
places_of bits =
    bits / 16 ^ 7 % 16 ∷ bits / 16 ^ 6 % 16 ∷ bits / 16 ^ 5 % 16 ∷ bits / 16 ^ 4 % 16
    ∷ bits / 16 ^ 3 % 16 ∷ bits / 16 ^ 2 % 16 ∷ bits / 16 % 16 ∷ bits % 16 ∷ []

abbrev pub digits_of : ℕ → List ℕ
digits_of bits = map code_of (places_of bits)
