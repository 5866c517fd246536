use Rattle.std.proofs.Common.{arith}
use Rattle.std.proofs.lemmas.Nat.{and_mask, one_shl}
use Rattle.binary32.proofs.word.part.Goals as goal

-- the mask is 2^width − 1, and a number under it is its remainder modulo 2^width
pub returns : goal.returns
returns c =
    let e = one_shl c.args.width 32 (omega arith) in
    rw e (and_mask _ c.args.width)
