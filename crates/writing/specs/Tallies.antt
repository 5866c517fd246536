-- How many answers there were of each kind, and how many vectors of each operation.
use Rattle.std.specs.Prelude.{ℕ, ◌+◌, ◌-◌, ◌^◌, min, cond, replicate, ◌==◌, Ok, Err, Result, slice_index_or, slice_set}
use Rattle.binary32.specs.Operations.{code_of}
use Rattle.binary32.specs.declared.operation.Operation.{Operation}
use Rattle.writing.specs.declared.answer.Answer.{Answer}
use Rattle.notation.specs.declared.fault.Fault.{Fault}
use Rattle.writing.specs.declared.tally.Tally.{Tally}
use Rattle.writing.specs.declared.verdict.NoVector.{NoVector}
use Rattle.writing.specs.declared.verdict.Verdict.{Verdict}
use Rattle.writing.specs.declared.verdict.Verdict.TheVariants.{Agrees, Differs}
use Rattle.writing.specs.declared.counts.Count.{Count}
use Rattle.writing.specs.declared.counts.Counts.{Counts}
use Rattle.writing.specs.Verdicts.{operation_of}

-- one more, up to the highest number of 64 bits
abbrev pub more : ℕ → ℕ
more n = min (n + 1) (2 ^ 64 - 1)

abbrev pub none : Tally
none = record { direct = 0; rounded = 0; refused = 0 }

abbrev pub one_direct : Tally → Tally
one_direct t = record { direct = more t.direct; rounded = t.rounded; refused = t.refused }

abbrev pub one_rounded : Tally → Tally
one_rounded t = record { direct = t.direct; rounded = more t.rounded; refused = t.refused }

abbrev pub one_refused : Tally → Tally
one_refused t = record { direct = t.direct; rounded = t.rounded; refused = more t.refused }

-- a written step is direct if its main is 0
abbrev pub counted : Tally → Result Answer Fault → Tally
counted t (Ok answer) = cond (answer.written.hints.main == 0) (one_direct t) (one_rounded t)
counted t (Err fault) = one_refused t

abbrev pub none_judged : Count
none_judged = record { agreeing = 0; differing = 0 }

abbrev pub one_judged : Count → Verdict → Count
one_judged c (Agrees operation) = record { agreeing = more c.agreeing; differing = c.differing }
one_judged c (Differs operation expected found) = record { agreeing = c.agreeing; differing = more c.differing }

-- no vector of any of the eight operations
abbrev pub nothing : Counts
nothing = record { each = replicate 8 none_judged; all = none_judged; unread = 0 }

-- the place of an operation among the eight
abbrev pub place_of : Operation → ℕ
place_of operation = code_of operation - 1

abbrev pub count_of : Counts → Operation → Count
count_of c operation = slice_index_or c.each (place_of operation) none_judged

-- a vector counts for its operation and for all, and a line that is no vector counts as unread
abbrev pub added : Counts → Result Verdict NoVector → Counts
added c (Ok verdict) = record {
  each = slice_set c.each (place_of (operation_of verdict)) (one_judged (count_of c (operation_of verdict)) verdict);
  all = one_judged c.all verdict;
  unread = c.unread;
}
added c (Err _) = record { each = c.each; all = c.all; unread = more c.unread }
