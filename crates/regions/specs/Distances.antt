-- What a plan shows, by results of operations alone.
use Rattle.std.specs.Prelude.{◌≡◌, ℕ, true, List, ◌≢◌, slice_index_or}
use Rattle.binary32.specs.Operations.{code_of}
use Rattle.binary32.specs.declared.operation.Operation.TheVariants.{Add, Subtract, Multiply, SquareRoot, AtMost}
use Rattle.rounding.specs.Nearest.{result}
use Rattle.runs.specs.declared.call.OpenCall.{OpenCall}
use Rattle.runs.specs.declared.call.OpenCall.TheVariants.{Enter, Read}
use Rattle.regions.specs.Claims.{settle_of, root_claim}
use Rattle.regions.specs.declared.reading.Point.{Point}
use Rattle.regions.specs.declared.reading.Request.{Request}

unfoldable pub squared : ℕ → ℕ
squared a = result Multiply a a

unfoldable pub squared_distance : Point → Point → ℕ
squared_distance p c = result Add (squared (result Subtract p.x.bits c.x.bits)) (squared (result Subtract p.y.bits c.y.bits))

-- the root has no second operand
unfoldable pub distance : Point → Point → ℕ
distance p c = result SquareRoot (squared_distance p c) 0

-- 1 where the distance of position and centre is at most the radius, and else 0
unfoldable pub within_radius : Request → ℕ
within_radius q = result AtMost (distance q.position q.centre) q.radius.bits

-- the calls by which the comparison is entered and by which the root is settled
abbrev pub enters_comparison : List OpenCall → OpenCall
enters_comparison calls = slice_index_or calls 17 (Read 0)

abbrev pub settles_root : List OpenCall → OpenCall
settles_root calls = slice_index_or calls 16 (Read 0)

-- The claim on the last cell is that the comparison of the distance with the radius has its result. A forged root is not settled as the
-- writer would settle it.
pub record Shows (q : Request) (serial : ℕ) (calls : List OpenCall) : Type 0 where
  pub compared : enters_comparison calls ≡ Enter (code_of AtMost) 10 4 (record { bits = within_radius q })
  pub forged : q.forged ≡ true → settles_root calls ≢ settle_of serial (root_claim q)
