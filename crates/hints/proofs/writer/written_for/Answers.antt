use Rattle.std.proofs.Common.{ap, ◌∙◌}
use Rattle.hints.specs.Writer.{written_case}
use Rattle.hints.proofs.Complete.{case_facts, rounding}
use Rattle.hints.proofs.Worked.{worked}
use Rattle.hints.proofs.writer.written_for.Goals as goal

pub returns : goal.returns
returns c =
    let known = case_facts c.args.operation c.args.a.bits c.args.b.bits _ (c.written_case.ensures ∙ ap written_case c.requires) in
    record { value = known.value; right = known.right; rounding = rounding; worked = worked }
