use Rattle.notation.proofs.Lines.{reads_back}
use Rattle.notation.proofs.line.reads_back.Goals as goal

pub returns : goal.returns
returns c = reads_back c.args.line.now
