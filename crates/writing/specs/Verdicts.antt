-- Vectors, and what the writer makes of them.
use Rattle.std.specs.Prelude.{ℕ, cond, List, drop, Some, None, Ok, Err, Option, Result, ◌==◌, nat_lt, slice_index}
use Rattle.binary32.specs.Words.{magnitude_of}
use Rattle.binary32.specs.declared.word.Word.{Word}
use Rattle.binary32.specs.declared.operation.Operation.{Operation}
use Rattle.hints.specs.Writer.{written_step}
use Rattle.notation.specs.Lines.{is_space, read_step}
use Rattle.notation.specs.Numerals.{word_of}
use Rattle.notation.specs.declared.line.Request.{Request}
use Rattle.notation.specs.declared.fault.Fault.{Fault}
use Rattle.writing.specs.declared.vector.Vector.{Vector}
use Rattle.writing.specs.declared.verdict.NoVector.{NoVector}
use Rattle.writing.specs.declared.verdict.Verdict.{Verdict}
use Rattle.writing.specs.declared.verdict.Verdict.TheVariants.{Agrees, Differs}

abbrev pub expecting : Word → Result Request Fault → Option Vector
expecting expected (Ok request) = Some (record { expected = expected; request = request })
expecting expected (Err fault) = None

abbrev pub after_word : List ℕ → Result Word ℕ → Option Vector
after_word line (Ok expected) = cond (is_space (slice_index line 8)) (expecting expected (read_step (drop 9 line))) None
after_word line (Err count) = None

-- eight digits of the expected word, a space, and a step
abbrev pub vector_of : List ℕ → Option Vector
vector_of line = after_word line (word_of line)

-- a word above infinity in magnitude is a NaN, and all of them stand for one
abbrev pub meant_by : Word → Word
meant_by expected = cond (nat_lt 0x7f800000 (magnitude_of expected.bits)) (record { bits = 0x7fc00000 }) expected

abbrev pub verdict_on : Operation → Word → Word → Verdict
verdict_on operation expected found = cond (expected.bits == found.bits) (Agrees operation) (Differs operation expected found)

abbrev pub operation_of : Verdict → Operation
operation_of (Agrees operation) = operation
operation_of (Differs operation expected found) = operation

abbrev pub verdict_of : Option Vector → Result Verdict NoVector
verdict_of None = Err (record {})
verdict_of (Some v) = Ok
    (verdict_on v.request.operation (meant_by v.expected)
    (written_step v.request.operation v.request.first.bits v.request.second.bits).word)

-- the expected word is held to the one that the writer gives; a line that is no vector has no verdict
abbrev pub judged : List ℕ → Result Verdict NoVector
judged line = verdict_of (vector_of line)
