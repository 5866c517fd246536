use Rattle.std.proofs.lemmas.Nat.{and_mask, one_shl}
use Rattle.hints.proofs.leaves.cut.Goals as goal

-- a number under the mask 2^k − 1 is its remainder modulo 2^k
pub returns : goal.returns
returns c = rw (one_shl c.args.k 64 c.requires, and_mask c.args.number c.args.k)
