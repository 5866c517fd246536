use Rattle.std.proofs.Common.{subst}
use Rattle.hints.specs.Settings.{Fit}
use Rattle.checks.proofs.Narrow.{first_narrow, second_narrow}
use Rattle.checks.proofs.Passed.{front_passed, back_passed}
use Rattle.checks.proofs.claim.examine_rounded.Goals as goal

-- the hints that came so far are within their widths
pub holds-requires : goal.holds-requires
holds-requires g c =
    let σ = c.args.setting in
    let h = c.args.claimed.hints in
    let fit : Fit σ = subst Fit c.setting.view_is c.setting.invariant in
    let front = front_passed σ.kind σ.second h c.in_ok-check_front.ensures in
    rw c.first_equation.ensures
    (first_narrow σ.kind σ.first σ.second σ.shift h.main h.rest fit.high fit.second_high fit.suits front.main_fits front.rest_width)

pub holds-requires-2 : goal.holds-requires-2
holds-requires-2 g c =
    let σ = c.args.setting in
    let h = c.args.claimed.hints in
    let cut = c.of-cut.result in
    let front = front_passed σ.kind σ.second h c.in_ok-check_front.ensures in
    let back = back_passed cut.k h c.in_ok-check_back.ensures in
    rw c.second_equation.ensures
    (second_narrow cut.k h cut.bound front.lift_width front.lift_high back.keep_width back.drop_width)
