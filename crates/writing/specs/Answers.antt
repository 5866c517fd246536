-- The writer's answer to a line.
use Rattle.std.specs.Prelude.{ℕ, List, Ok, Err, Result}
use Rattle.hints.specs.Writer.{written_step}
use Rattle.notation.specs.Lines.{read_step}
use Rattle.notation.specs.declared.line.Request.{Request}
use Rattle.notation.specs.declared.fault.Fault.{Fault}
use Rattle.writing.specs.declared.answer.Answer.{Answer}

-- a step is answered by what the writer gives for it, a fault by the fault
abbrev pub answer_of : Result Request Fault → Result Answer Fault
answer_of (Ok request) =
    Ok (record { request = request; written = written_step request.operation request.first.bits request.second.bits })
answer_of (Err fault) = Err fault

abbrev pub answer_to : List ℕ → Result Answer Fault
answer_to line = answer_of (read_step line)
