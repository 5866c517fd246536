-- Each call gives the digit at its place.
use Rattle.std.proofs.Common.{◌≡◌, ◌-◌, ◌*◌, ◌/◌, ◌%◌, ◌^◌, refl, ◌∙◌, arith, rules, tests}
use Rattle.notation.specs.Numerals.{code_of}
use Rattle.notation.proofs.Made.{made_is}
use Rattle.notation.proofs.numeral.digits_at_places.Goals as goal

pub returns : goal.returns
returns c =
    let whole : c.args.word.bits / 1 ≡ c.args.word.bits = omega arith in
    made_is _ _ _ (λ i. code_of (c.args.word.bits / 2 ^ (28 - 4 * i) % 16)) 8 (λ k y q few call. (search (rules, tests), search (rules, tests))) c.from_fn.ensures.items
    ∙ rw whole refl
