use Rattle.std.specs.Option.{option_map}
use Rattle.sheet.specs.Calls.{opened}
use Rattle.runs.proofs.Passes.{honest}
use Rattle.runs.proofs.Reaches.{binding}
use Rattle.runs.proofs.Replays.{alike, obeys}
use Rattle.runs.proofs.run.answers_of_both.Goals as goal

pub returns : goal.returns
returns g c =
    let x = c.args in
    let calls = x.run.opened.now in
    let closed = option_map (λ x. x.now) x.run.closed in
    let r = c.answers_on.result in
    let s = c.answers_on-2.result in
    record {
      first = obeys x.run.serial x.run.weight g.S.System.modulus calls closed r c.answers_on.ensures.opened c.answers_on.ensures.closed;
      second = obeys x.run.serial x.run.weight g.T.System.modulus calls closed s c.answers_on-2.ensures.opened c.answers_on-2.ensures.closed;
      alike = alike g.S.System.modulus g.T.System.modulus (opened x.run.serial x.run.weight) calls closed r s
          c.answers_on.ensures.opened c.answers_on.ensures.closed c.answers_on-2.ensures.opened c.answers_on-2.ensures.closed;
      binding = binding;
      honest = honest;
    }
