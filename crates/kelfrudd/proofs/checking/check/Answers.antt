use Rattle.std.proofs.Common.{◌≡◌, ◌≤◌, length, Ok, sym, ◌∙◌, arith, rules}
use Rattle.kelfrudd.specs.Checked.{hints_in}
use Rattle.kelfrudd.specs.SystemNames.{system_named}
use Rattle.kelfrudd.proofs.Checked.{checked_reply_is, checked_places_are}
use Rattle.kelfrudd.proofs.Hints.{hints_are}
use Rattle.kelfrudd.proofs.checking.check.Goals as goal

pub returns : goal.returns
returns c =
    let named = c.args.named.now in
    let count = length c.args.hints.now in
    let name = c.in_ok-name.name in
    let place : 1 ≤ length named = grind arith in
    let six : 6 ≤ count = grind arith in
    let known : system_named c.args.system ≡ Ok name = grind arith in
    let hints : hints_in c.args.hints.now ≡ c.from.result = hints_are c.args.hints.now _ c.from.result (search rules) c.from.ensures in
    record {
      reply = rw hints (c.check_in-found.ensures ∙ sym (checked_reply_is named count c.args.system name _ place six known));
      after = rw (hints, c.name_hint.ensures, c.check_in-found.ensures) (sym (checked_places_are named count c.args.system name _ place six known));
    }
