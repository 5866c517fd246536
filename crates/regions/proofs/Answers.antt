-- The derived comparison of answers tells which are the same.
use Rattle.std.proofs.Common.{◌≡◌, Bool, List, Decides, rules}
use Rattle.std.proofs.lemmas.Slice.Eq.{slice_eq-Decides}
use lib.Pointwise.{pointwise}
use Rattle.runs.specs.declared.answer.OpenAnswer.{OpenAnswer}
use Rattle.runs.specs.declared.answer.OpenAnswer.TheVariants.{Input, Enter, Settle, Strike, Read}
use Rattle.runs.specs.contracts.answer.OpenAnswerPartialEq as derived

pub decided : (a b : OpenAnswer) → Decides ((derived.TheImpl.ghosts).eq a b) (a ≡ b)
decided (Input x) b = search rules
decided (Enter x) b = search rules
decided (Settle x) b = search rules
decided (Strike x) b = search rules
decided (Read x) b = search rules

-- and that of two lists, answer by answer, tells whether they are the same
pub same : (xs ys : List OpenAnswer) (r : Bool) → r ≡ pointwise (derived.TheImpl.ghosts).eq xs ys → Decides r (xs ≡ ys)
same xs ys r is = slice_eq-Decides decided xs ys r is
