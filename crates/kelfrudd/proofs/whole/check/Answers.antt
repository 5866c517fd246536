use Rattle.std.proofs.Common.{◌≡◌, ◌≤◌, ◌/◌, length, Ok, sym, ◌∙◌, arith}
use Rattle.kelfrudd.specs.SystemNames.{system_named}
use Rattle.kelfrudd.specs.Listed.{ran_over, ran_to}
use Rattle.kelfrudd.specs.Whole.{AreRowsOf, outcome_reply}
use Rattle.kelfrudd.proofs.Chunks.{ran_chunks}
use Rattle.kelfrudd.proofs.Concluded.{sheet_reply_is, sheet_places_are, told_laid}
use Rattle.kelfrudd.proofs.whole.check.Goals as goal

pub returns : goal.returns
returns c =
    let x = c.args in
    let rows = c.in_ok-rows.rows.now in
    let count = length x.numbers.now in
    let name = c.in_ok-name.name in
    let long : 5 ≤ length x.told.now = grind arith in
    let are : AreRowsOf x.numbers.now rows = grind arith in
    let known : system_named x.system ≡ Ok name = grind arith in
    let ran : ran_over x.serial x.weight rows (length rows) ≡ ran_to x.serial x.weight x.numbers.now (count / 10) =
    ran_chunks x.serial x.weight x.numbers.now rows are.1 are.2 in
    let reply : c.map_err.result ≡ outcome_reply c.conclude_in-outcome.result = grind arith in
    record {
      reply = rw (reply, c.conclude_in-outcome.ensures, ran) (sym (sheet_reply_is x.told.now count x.system name _ long are.0 known));
      after =
          rw (c.five_of.ensures, c.conclude_in-outcome.ensures, ran, are.2)
          (told_laid _ _ x.told.now long ∙ sym (sheet_places_are x.told.now count x.system name _ long are.0 known));
    }
