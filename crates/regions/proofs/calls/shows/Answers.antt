use Rattle.regions.proofs.Shows.{plan_shows}
use Rattle.regions.proofs.calls.shows.Goals as goal

pub returns : goal.returns
returns c = plan_shows c.args.request c.args.serial c.args.calls c.requires
