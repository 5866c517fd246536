-- Answers, tallies and verdicts as text.
use Rattle.std.specs.Prelude.{ℕ, List, ◌++◌, codes, decimal}
use Rattle.hints.specs.declared.writer.Hints.{Hints}
use Rattle.notation.specs.Lines.{line_of}
use Rattle.notation.specs.Names.{name_of}
use Rattle.notation.specs.Numerals.{digits_of}
use Rattle.writing.specs.declared.answer.Answer.{Answer}
use Rattle.writing.specs.declared.counts.Count.{Count}
use Rattle.writing.specs.declared.tally.Tally.{Tally}
use Rattle.writing.specs.declared.verdict.Verdict.{Verdict}
use Rattle.writing.specs.declared.verdict.Verdict.TheVariants.{Agrees, Differs}

abbrev pub hints_text : Hints → List ℕ
hints_text h =
    codes "main " ++ (decimal h.main ++ (codes ", rest " ++ (decimal h.rest ++ (codes ", lift " ++ (decimal h.lift
    ++ (codes ", keep " ++ (decimal h.keep ++ (codes ", drop " ++ (decimal h.drop ++ (codes ", up " ++ decimal h.up))))))))))

-- a written step as its line, its word and its hints
abbrev pub answer_text : Answer → List ℕ
answer_text a =
    line_of a.request.operation a.request.first a.request.second
    ++ (codes " = " ++ (digits_of a.written.word.bits ++ (codes ": " ++ hints_text a.written.hints)))

abbrev pub tally_text : Tally → List ℕ
tally_text t =
    decimal t.direct ++ (codes " direct, " ++ (decimal t.rounded ++ (codes " rounded, " ++ (decimal t.refused ++ codes " refused"))))

abbrev pub verdict_text : Verdict → List ℕ
verdict_text (Agrees operation) = name_of operation ++ codes " agrees"
verdict_text (Differs operation expected found) =
    name_of operation
    ++ (codes ": expected " ++ (digits_of expected.bits ++ (codes ", the writer gives " ++ digits_of found.bits)))

abbrev pub no_vector_text : List ℕ
no_vector_text = codes "no vector"

abbrev pub count_text : Count → List ℕ
count_text c = decimal c.agreeing ++ (codes " agree, " ++ (decimal c.differing ++ codes " differ"))
