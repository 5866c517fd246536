use Rattle.checks.proofs.Settled.{examined_sound}
use Rattle.checks.proofs.claim.examine.Goals as goal

pub returns-clause-sound : goal.returns-clause-sound
returns-clause-sound g c =
    examined_sound c.args.operation c.args.a.bits c.args.b.bits c.args.claimed c.outcome.result c.outcome.ensures
