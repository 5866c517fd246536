use Rattle.hints.proofs.Settings.{figures_fit}
use Rattle.hints.proofs.setting.Setting.of.Goals as goal

pub invariant_of-result : goal.invariant_of-result
invariant_of-result c = rw (c.of.ensures, c.from.ensures, c.from-2.ensures, c.figures-first.ensures) (figures_fit c.args.negative c.args.exact c.requires)
