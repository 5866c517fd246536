-- The lift of main: how far it is from the top of its field of 51 bits.
use Rattle.std.proofs.Common.{◌≡◌, ℕ, suc, ◌-◌, ◌^◌, ◌<◌, ◌≤◌, arith}
use lib.Count.{leading_top}
use Rattle.hints.specs.Scheme.{lift_of}

module _ (main : ℕ) (some : 0 < main) (fits : main < 2 ^ 51) where
  pub lift_at_most : lift_of main ≤ 50
  lift_at_most = omega (arith, (leading_top 51 main some fits).1)

  -- main lies in the binade of its lift
  pub lift_low : 2 ^ (50 - lift_of main) ≤ main
  lift_low =
      let top = leading_top 51 main some fits in
      let e : top.0 ≡ 50 - lift_of main = omega (arith, top.1) in
      rw e at top.2

  pub lift_high : main < 2 ^ (51 - lift_of main)
  lift_high =
      let top = leading_top 51 main some fits in
      let e : suc top.0 ≡ 51 - lift_of main = omega (arith, top.1) in
      rw e at top.3
