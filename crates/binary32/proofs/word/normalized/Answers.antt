use Rattle.std.proofs.Common.{◌≡◌, ◌-◌, ◌*◌, ◌%◌, ◌^◌, ◌<◌, arith}
use lib.Count.{count_leading_zeros}
use Rattle.binary32.proofs.Zeros.{zeros_wider, lifted_below}
use Rattle.binary32.proofs.word.normalized.Goals as goal

pub overflow_sub-zeros : goal.overflow_sub-zeros
overflow_sub-zeros c = omega (arith, zeros_wider 8 24 c.args.fraction (omega arith))

pub returns : goal.returns
returns c =
    let F = c.args.fraction in
    let fits : F < 2 ^ 24 = omega arith in
    let some : 0 < F = omega arith in
    let zeros : count_leading_zeros 32 F - 8 ≡ count_leading_zeros 24 F = omega (arith, zeros_wider 8 24 F fits) in
    let kept = lifted_below 24 F some fits in
    let whole : (F * 2 ^ count_leading_zeros 24 F) % 2 ^ 32 ≡ F * 2 ^ count_leading_zeros 24 F = omega arith in
    rw zeros (rw whole)
