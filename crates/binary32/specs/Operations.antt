-- The operations and their codes.
use Rattle.std.specs.Prelude.{ℕ, Bool, true, false, cond, List, [], ◌∷◌, Some, None, Option, Ok, Err, Result, ◌==◌}
use Rattle.binary32.specs.declared.operation.Operation.{Operation}
use Rattle.binary32.specs.declared.operation.UnknownCode.{UnknownCode}
use Rattle.binary32.specs.declared.operation.Operation.TheVariants.{Add, Subtract, Multiply, Divide, SquareRoot, Equal, Less, AtMost}

abbrev pub code_of : Operation → ℕ
code_of Add = 1
code_of Subtract = 2
code_of Multiply = 3
code_of Divide = 4
code_of SquareRoot = 5
code_of Equal = 6
code_of Less = 7
code_of AtMost = 8

abbrev pub with_code : ℕ → List Operation → Option Operation
with_code code [] = None
with_code code (o ∷ os) = cond (code_of o == code) (Some o) (with_code code os)

-- the operation of a code, if there is one
abbrev pub operation_of : ℕ → Option Operation
operation_of code = with_code code (Add ∷ Subtract ∷ Multiply ∷ Divide ∷ SquareRoot ∷ Equal ∷ Less ∷ AtMost ∷ [])

abbrev pub known : Option Operation → Result Operation UnknownCode
known None = Err (record {})
known (Some o) = Ok o

-- the same as a conversion has it: a code that is none of an operation is an error
abbrev pub decoded : ℕ → Result Operation UnknownCode
decoded code = known (operation_of code)

-- a root has one operand
abbrev pub is_root : Operation → Bool
is_root Add = false
is_root Subtract = false
is_root Multiply = false
is_root Divide = false
is_root SquareRoot = true
is_root Equal = false
is_root Less = false
is_root AtMost = false
