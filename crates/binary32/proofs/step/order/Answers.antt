use Rattle.std.proofs.Common.{◌≡◌, false, ◌∙◌}
use Rattle.binary32.proofs.Levels.{rank_order}
use Rattle.binary32.proofs.Orders.{plain_class}
use Rattle.binary32.specs.Words.{class_of, is_nan}
use Rattle.binary32.proofs.step.order.Goals as goal

pub returns-in_default : goal.returns-in_default
returns-in_default c =
    let a = c.args.a.bits in
    let b = c.args.b.bits in
    let m : is_nan (class_of a) ≡ false = plain_class (class_of a) (λ e. c.in_default.not-Nan-0 (c.class.ensures.value ∙ e)) in
    let n : is_nan (class_of b) ≡ false = plain_class (class_of b) (λ e. c.in_default.not-Nan-1 (c.class-2.ensures.value ∙ e)) in
    rw (m, n, c.cmp.ensures, c.rank.ensures, c.rank-in_default.ensures, rank_order a b m n)
