use Rattle.std.proofs.Common.{◌≡◌, ◌+◌, ◌≤◌, [], length, get_or, sym, ap, ◌∙◌, Ok, Err, arith}
use Rattle.kelfrudd.proofs.Ran.{ran_on, ran_stopped}
use Rattle.kelfrudd.specs.Listed.{stop_for, concluded}
use Rattle.kelfrudd.specs.Rows.{row_of, taken_reply}
use Rattle.kelfrudd.proofs.listed.Listed.conclude.Goals as goal

pub returns-in_err-map_err : goal.returns-in_err-map_err
returns-in_err-map_err g c =
    let x = c.args.self in
    let rows = x.rows.now in
    let n = c.loop-n.n-counter in
    let stop = c.in_err-map_err.field-0.0 in
    let within : n + 1 ≤ length rows = omega (arith, c.loop-n-test.true) in
    let passed : stop.passed ≡ n = grind arith in
    let refused : Err stop.refusal ≡ taken_reply c.loop-n.sheet (row_of (get_or rows n [])) = grind arith in
    let is : c.from_residual.result ≡ Err stop = grind arith in
    is ∙ ap (λ k. Err (stop_for k stop.refusal)) passed ∙ sym (ap (concluded g.S.System.modulus)
    (ran_stopped x.serial x.weight (λ k. row_of (get_or rows k [])) n (length rows) c.loop-n.sheet stop.refusal within c.loop-n.invariant refused))

pub loop-n-preserved : goal.loop-n-preserved
loop-n-preserved g c =
    let x = c.args.self in
    let n = c.loop-n.n-counter in
    let cell = c.in_ok-map_err.field-0 in
    let taken : Ok cell ≡ taken_reply c.loop-n.sheet (row_of (get_or x.rows.now n [])) = grind arith in
    ran_on x.serial x.weight (λ k. row_of (get_or x.rows.now k [])) n cell c.loop-n.sheet c.take_row.new.sheet
    c.loop-n.invariant taken c.take_row.ensures.after
