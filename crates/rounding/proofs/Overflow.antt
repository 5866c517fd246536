-- The values that are magnitudes, and those from 2^128 up.
use Rattle.std.proofs.Common.{◌≡◌, ◌^◌, refl, arith}
use Rattle.binary32.specs.Sizes.{size}
use Rattle.binary32.proofs.Sizes.{size_rises}
use Rattle.rounding.specs.Exact.{ratio}
use Rattle.rounding.specs.Nearest.{top}
use Rattle.rounding.specs.Laws.{Overflows, KeepsSizes}
use Rattle.rounding.proofs.Neighbours.{from_neighbours, reaches_from}
use Rattle.rounding.proofs.Unique.{nearest_is}

pub size_top : size top ≡ 2 ^ 277
unfolding size
size_top = refl

pub overflows : Overflows
overflows V sound reaches =
    nearest_is V top sound
    (from_neighbours V sound top (omega arith) (reaches_from V sound top (rw size_top reaches)) (λ less. absurd (omega arith)))

pub keeps_sizes : KeepsSizes
keeps_sizes m within =
    nearest_is (ratio (size m) 1) m (omega arith)
    (record {
      candidate = within;
      not_below = λ x less. omega (arith, size_rises x m less);
      even_below = λ x less on. absurd (omega (arith, size_rises x m less));
      not_above = λ x more fits. omega (arith, size_rises m x more);
      even_above = λ x more fits on. absurd (omega (arith, size_rises m x more));
    })
