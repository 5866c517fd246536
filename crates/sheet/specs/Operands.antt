-- What the operand cells of a claim have to be when it is entered.
use Rattle.std.specs.Prelude.{cond}
use Rattle.binary32.specs.Operations.{is_root}
use Rattle.binary32.specs.declared.operation.Operation.{Operation}
use Rattle.sheet.specs.Cells.{Checked, before, taken_in, accepted_in}
use Rattle.sheet.specs.declared.cell.State.{State}
use Rattle.sheet.specs.declared.refusal.Operand.TheVariants.{First, Second}

abbrev pub operand_checked : State → Checked
operand_checked first = before (taken_in first First) (accepted_in first First)

-- first that both are taken, then that both are accepted; of each the first operand before the second
abbrev pub operands_checked : State → State → Checked
operands_checked first second =
    before (taken_in first First) (before (taken_in second Second) (before (accepted_in first First) (accepted_in second Second)))

-- the second cell of a root is not looked at
abbrev pub claim_checked : Operation → State → State → Checked
claim_checked operation first second = cond (is_root operation) (operand_checked first) (operands_checked first second)
