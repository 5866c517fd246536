use Rattle.std.proofs.Common.{◌≡◌, ◌+◌, map, take, drop}
use Rattle.std.specs.Int.Digits.{number_from_digits}
use Rattle.std.specs.List.{prefix_len}
use Rattle.notation.specs.Numerals.{is_digit, value_of}
use Rattle.notation.proofs.numeral.read_word.Given as goal

abbrev pub invariant-loop-count : goal.invariant-loop-count
invariant-loop-count l = record {
  digits : prefix_len is_digit l.front ≡ l.count + prefix_len is_digit (drop l.count l.front);
  number : l.bits ≡ number_from_digits 16 (map value_of (take l.count l.front));
}
