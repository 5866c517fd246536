-- The worked steps, by computation.
use Rattle.std.proofs.Common.{refl}
use lib.Count.{count_leading_zeros}
use Rattle.binary32.specs.Sizes.{size}
use Rattle.rounding.specs.Nearest.{nearest, climb}
use Rattle.hints.specs.Scheme.{floor_root}
use Rattle.hints.specs.Worked.{Worked}

pub worked : Worked
unfolding size nearest climb floor_root count_leading_zeros
worked = record {
  one_and_one = refl;
  tie_down = refl;
  tie_up = refl;
  cancellation = refl;
  overflow = refl;
  underflow = refl;
  subnormal = refl;
  third = refl;
  root_of_two = refl;
}
