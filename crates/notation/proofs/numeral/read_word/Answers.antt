-- One more digit makes the front longer by one and the number sixteen times as large; the digits end at the
-- first byte that is none, at the text's end and after eight.
use Rattle.std.proofs.Common.{◌≡◌, ◌<◌, get_or, length, take, is_some, unwrap_or, sym, ap, ◌∙◌, arith, rules}
use Rattle.std.proofs.lemmas.List.{length-take}
use Rattle.std.proofs.lemmas.List.Sums.{prefix_len-drop_yes, prefix_len-drop_no, prefix_len-drop_all}
use Rattle.std.specs.List.{prefix_len}
use Rattle.notation.specs.Numerals.{is_digit, value_of}
use Rattle.notation.proofs.Reading.{value_small, number_small, number_more, front_is, fewer}
use Rattle.notation.proofs.numeral.read_word.Goals as goal

pub overflow_mul-bits : goal.overflow_mul-bits
overflow_mul-bits c =
    let front = take c.min.result c.args.text.now in
    let few : c.loop-count.count < 8 = omega (arith, length-take c.min.result c.args.text.now) in
    omega (arith, number_small front c.loop-count.count few)

pub overflow_add-bits : goal.overflow_add-bits
overflow_add-bits c =
    let front = take c.min.result c.args.text.now in
    let few : c.loop-count.count < 8 = omega (arith, length-take c.min.result c.args.text.now) in
    let code = get_or front c.loop-count.count 0 in
    let value : c.in_ok-bits.field-0 ≡ value_of code = ap (λ o. unwrap_or o 0) (sym c.in_ok-bits.ensures.ok_part ∙ c.digit.ensures) in
    omega (arith, number_small front c.loop-count.count few, value_small code)

pub returns-in_err-bits-clause-value : goal.returns-in_err-bits-clause-value
returns-in_err-bits-clause-value c =
    let text = c.args.text.now in
    let front = take c.min.result text in
    let none = sym (ap is_some (sym c.in_err-bits.ensures.ok_part ∙ c.digit.ensures)) in
    let stops = prefix_len-drop_no is_digit front c.loop-count.count 0 c.loop-count-test.true none in
    let digits : prefix_len is_digit front ≡ c.loop-count.count = omega (arith, stops, c.loop-count.invariant.digits) in
    let short = fewer text front (front_is text c.min.result c.min.ensures) c.loop-count.count digits (omega (arith, length-take c.min.result text)) in
    search (rules, short)

pub loop-count-preserved : goal.loop-count-preserved
loop-count-preserved c =
    let front = take c.min.result c.args.text.now in
    let code = get_or front c.loop-count.count 0 in
    let some = sym c.in_ok-bits.ensures.ok_part ∙ c.digit.ensures in
    let value : c.in_ok-bits.field-0 ≡ value_of code = ap (λ o. unwrap_or o 0) some in
    let longer = prefix_len-drop_yes is_digit front c.loop-count.count 0 c.loop-count-test.true (sym (ap is_some some)) in
    let larger = number_more front c.loop-count.count c.loop-count-test.true in
    record { digits = omega (arith, longer, c.loop-count.invariant.digits); number = omega (arith, larger, value, c.loop-count.invariant.number) }

pub returns-else-front-eq8-clause-value : goal.returns-else-front-eq8-clause-value
returns-else-front-eq8-clause-value c =
    let text = c.args.text.now in
    let front = take c.min.result text in
    let ends = prefix_len-drop_all is_digit front c.loop-count.count c.loop-count-test.false in
    let digits : prefix_len is_digit front ≡ length front = omega (arith, ends, c.loop-count.invariant.digits) in
    fewer text front (front_is text c.min.result c.min.ensures) (length front) digits (omega (arith, length-take c.min.result text))
