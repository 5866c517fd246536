-- Reading a word digit by digit: how many digits there are, and the number that they write.
use Rattle.std.proofs.Common.{◌≡◌, ℕ, ◌+◌, ◌*◌, ◌^◌, ◌<◌, ◌≤◌, cond, eqb, List, [], ◌∷◌, map, length, get_or, take, Ok, Err, Result, min, sym, ap, ◌∙◌, lt_of_lt_of_le, zero-lt-suc, arith}
use native.Mathlib.Nat.{pow-le-pow_right}
use Rattle.std.specs.Int.Digits.{number_from_digits, AllBelowBase}
use Rattle.std.specs.List.{prefix_len}
use Rattle.std.proofs.lemmas.Int.Digits.{number_lt, number_push}
use Rattle.std.proofs.lemmas.List.{length-take, length-map, map_more, take_min}
use Rattle.std.proofs.lemmas.Bool.{ne_eqb}
use Rattle.std.proofs.lemmas.Bool.Decides.{nat_tests}
use Rattle.binary32.specs.declared.word.Word.{Word}
use Rattle.notation.specs.Numerals.{is_digit, value_of, word_of}

pub value_small : (code : ℕ) → value_of code < 16
value_small code = grind (arith, nat_tests)

pub values_small : (text : List ℕ) → AllBelowBase 16 (map value_of text)
values_small [] = tt
values_small (code ∷ text) = (value_small code, values_small text)

-- seven digits write less than 2^28
pub number_small : (text : List ℕ) (i : ℕ) → i < 8 → number_from_digits 16 (map value_of (take i text)) < 2 ^ 28
number_small text i few =
    let short : length (map value_of (take i text)) ≤ 7 = simp (length-map, length-take) (omega arith) in
    lt_of_lt_of_le (number_lt 16 (map value_of (take i text)) (values_small (take i text))) (pow-le-pow_right {n = 16} (zero-lt-suc 15) short)

-- one more digit makes the number sixteen times as large
pub number_more : (text : List ℕ) (i : ℕ) → i < length text → number_from_digits 16 (map value_of (take (i + 1) text)) ≡ number_from_digits 16 (map value_of (take i text)) * 16 + value_of (get_or text i 0)
number_more text i there = ap (number_from_digits 16) (map_more value_of text i 0 there) ∙ number_push 16 (map value_of (take i text)) (value_of (get_or text i 0))

-- what is read of a text that begins with these bytes, of which so many are digits from the front on
abbrev answer : ℕ → List ℕ → Result Word ℕ
answer count front = cond (eqb count 8) (Ok (record { bits = number_from_digits 16 (map value_of front) })) (Err count)

pub front_is : (text : List ℕ) (n : ℕ) → n ≡ min (length text) 8 → take n text ≡ take 8 text
front_is text n least = let same : n ≡ min 8 (length text) = omega arith in ap (λ k. take k text) same ∙ take_min 8 text

module _ (text front : List ℕ) (is_front : front ≡ take 8 text) (count : ℕ) (digits : prefix_len is_digit front ≡ count) where
  answer_is : answer count front ≡ word_of text
  answer_is = ap (λ k. answer k front) (sym digits) ∙ ap (λ f. answer (prefix_len is_digit f) f) is_front

  pub fewer : count < 8 → Err count ≡ word_of text
  fewer few =
      let other = ne_eqb count 8 (omega arith) in
      sym (ap (λ b. cond b (Ok (record { bits = number_from_digits 16 (map value_of front) })) (Err count)) other) ∙ answer_is
