use Rattle.std.proofs.Common.{◌≡◌, ◌-◌, ◌*◌, ◌%◌, ◌^◌, arith}
use lib.Count.{count_leading_zeros}
use Rattle.binary32.proofs.Zeros.{zeros_wider, lifted_below}
use Rattle.hints.proofs.Lifts.{lift_at_most}
use Rattle.hints.proofs.leaves.lifted.Goals as goal

pub overflow_sub-lift : goal.overflow_sub-lift
overflow_sub-lift c = omega (arith, zeros_wider 13 51 c.args.main c.requires.fits)

-- the field of 64 bits has 13 zeros more in front than that of 51
pub returns : goal.returns
returns c =
    let main = c.args.main in
    let zeros : count_leading_zeros 64 main - 13 ≡ count_leading_zeros 51 main = omega (arith, zeros_wider 13 51 main c.requires.fits) in
    let kept = lifted_below 51 main c.requires.some c.requires.fits in
    let whole : (main * 2 ^ count_leading_zeros 51 main) % 2 ^ 64 ≡ main * 2 ^ count_leading_zeros 51 main = omega arith in
    let few = lift_at_most main c.requires.some c.requires.fits in
    record {
      value = rw (zeros, whole);
      lift_bound = rw zeros few;
      bound = rw (zeros, whole) kept;
    }
