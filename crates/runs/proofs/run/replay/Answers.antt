use Rattle.std.specs.Option.{option_map}
use Rattle.runs.proofs.Replays.{law_refused}
use Rattle.runs.proofs.run.replay.Goals as goal

pub returns-in_err-room : goal.returns-in_err-room
returns-in_err-room g c =
    let x = c.args in
    law_refused x.run.serial x.run.weight g.S.System.modulus g.T.System.modulus x.run.opened.now (option_map (λ x. x.now) x.run.closed)
    c.from_residual.result c.from_residual.ensures.0

pub returns-in_err-other : goal.returns-in_err-other
returns-in_err-other g c =
    let x = c.args in
    law_refused x.run.serial x.run.weight g.S.System.modulus g.T.System.modulus x.run.opened.now (option_map (λ x. x.now) x.run.closed)
    c.from_residual-in_err-other.result c.from_residual-in_err-other.ensures.0
