use Rattle.std.proofs.Common.{◌≡◌, ℕ, ◌≤◌, cond, ltb, length, Some, None, unwrap_or, ap, ◌∙◌, arith, rules, tests}
use Rattle.std.proofs.lemmas.Bool.Decides.{nat_tests}
use Rattle.std.proofs.lemmas.Iterator.{YieldsList-from_slice}
use Rattle.std.proofs.lemmas.Iterator.Search.{position_from_yields_List}
use Rattle.std.proofs.lemmas.List.Sums.{prefix_len-le-length}
use Rattle.notation.specs.Lines.{is_space, in_name, name_end}
use Rattle.notation.proofs.reader.name_end.Goals as goal

-- where no space is found, the name ends at the line's end
found_or_length : (end length : ℕ) → end ≤ length → unwrap_or (cond (ltb end length) (Some end) None) length ≡ end
found_or_length end length within = grind (arith, nat_tests)

pub returns-clause-value : goal.returns-clause-value
returns-clause-value c =
    let line = c.args.line.now in
    let found = position_from_yields_List is_space _ _ _ c.position.ensures.ran (YieldsList-from_slice line cc) (λ x b q k. search (rules, tests)) in
    c.unwrap_or.ensures ∙ ap (λ o. unwrap_or o (length line)) found ∙ found_or_length (name_end line) (length line) (prefix_len-le-length in_name line)
