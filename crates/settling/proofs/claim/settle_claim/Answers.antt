use Rattle.std.proofs.Common.{ap}
use Rattle.hints.specs.declared.writer.Written.{Written}
use Rattle.settling.proofs.Decided.{settles}
use Rattle.settling.proofs.claim.settle_claim.Goals as goal

pub returns : goal.returns
returns g c =
    settles c.new-sheet.result c.input.new.self c.input-2.new.self c.args.step c.into.result
    c.in_ok-first.first c.in_ok-second.second
    c.new-sheet.ensures c.in_ok-first.ensures.reply c.input.ensures.after
    c.in_ok-second.ensures.reply c.input-2.ensures.after c.into.ensures
    c.args.word c.enter.new.self c.in_ok-ticket.ticket c.write_step-written.result.hints c.settle.result
    c.enter.ensures.after c.in_ok-ticket.ensures.reply
    (ap (λ (w : Written). w.hints) c.write_step-written.ensures.value)
    c.settle.ensures.reply c.settle.ensures.right
