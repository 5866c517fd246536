-- The names of the operations.
use Rattle.std.specs.Prelude.{ℕ, cond, List, [], ◌∷◌, Some, None, codes, Option}
use Rattle.std.specs.Str.{bytes_eq}
use Rattle.binary32.specs.declared.operation.Operation.{Operation}
use Rattle.binary32.specs.declared.operation.Operation.TheVariants.{Add, Subtract, Multiply, Divide, SquareRoot, Equal, Less, AtMost}

abbrev pub name_of : Operation → List ℕ
name_of Add = codes "add"
name_of Subtract = codes "sub"
name_of Multiply = codes "mul"
name_of Divide = codes "div"
name_of SquareRoot = codes "root"
name_of Equal = codes "equal"
name_of Less = codes "less"
name_of AtMost = codes "atmost"

abbrev pub with_name : List ℕ → List Operation → Option Operation
with_name name [] = None
with_name name (o ∷ os) = cond (bytes_eq name (name_of o)) (Some o) (with_name name os)

-- the operation of a name, if there is one
abbrev pub operation_named : List ℕ → Option Operation
operation_named name = with_name name (Add ∷ Subtract ∷ Multiply ∷ Divide ∷ SquareRoot ∷ Equal ∷ Less ∷ AtMost ∷ [])
