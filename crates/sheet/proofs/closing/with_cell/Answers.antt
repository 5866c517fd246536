use Rattle.std.proofs.Common.{sym, ◌∙◌}
use Rattle.sheet.proofs.Folds.{words_read}
use Rattle.sheet.proofs.closing.with_cell.Goals as goal

pub returns-in-Ok : goal.returns-in-Ok
returns-in-Ok g c w n weight_is total_is =
    let words = words_read c.args.state _ (sym c.in-Ok.is ∙ c.word_in.ensures) in
    rw words (c.with_word.ensures w n weight_is total_is)
