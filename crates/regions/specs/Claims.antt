-- The seven steps of a request, and the calls on a sheet that show them.
use Rattle.std.specs.Prelude.{ℕ, Bool, cond, List, [], ◌∷◌, ◌++◌, ◌==◌}
use Rattle.binary32.specs.Operations.{code_of}
use Rattle.binary32.specs.declared.operation.Operation.{Operation}
use Rattle.binary32.specs.declared.operation.Operation.TheVariants.{Add, Subtract, Multiply, SquareRoot, AtMost}
use Rattle.binary32.specs.declared.word.Word.{Word}
use Rattle.hints.specs.Writer.{written_step}
use Rattle.hints.specs.declared.writer.Hints.{Hints}
use Rattle.runs.specs.declared.call.OpenCall.{OpenCall}
use Rattle.runs.specs.declared.call.OpenCall.TheVariants.{Input, Enter, Settle, Read}
use Rattle.regions.specs.declared.claims.Claim.{Claim}
use Rattle.regions.specs.declared.claims.Source.{Source}
use Rattle.regions.specs.declared.reading.Request.{Request}

abbrev pub source_at : ℕ → Word → Source
source_at cell word = record { cell = cell; word = word }

abbrev pub source_of : Claim → Source
source_of c = source_at c.cell c.written.word

-- the writer's claim for an operation on the words of two cells
unfoldable pub claimed : ℕ → Operation → Source → Source → Claim
claimed cell operation first second = record {
  cell = cell;
  operation = operation;
  first = first.cell;
  second = second.cell;
  written = written_step operation first.word.bits second.word.bits;
}

-- up is 1 for 0, and 0 for any other
abbrev pub turned : Hints → Hints
turned h = record {
  main = h.main;
  rest = h.rest;
  lift = h.lift;
  keep = h.keep;
  drop = h.drop;
  up = cond (h.up == 0) 1 0;
}

abbrev pub forged_of : Claim → Claim
forged_of c = record {
  cell = c.cell;
  operation = c.operation;
  first = c.first;
  second = c.second;
  written = record { word = c.written.word; hints = turned c.written.hints };
}

abbrev pub forged_if : Bool → Claim → Claim
forged_if forged c = cond forged (forged_of c) c

-- The differences of position and centre, their squares, the sum and its root, and whether that is at most the radius. The
-- words of the request are in the cells 0 to 4.
module _ (q : Request) where
  abbrev pub dx_claim : Claim
  dx_claim = claimed 5 Subtract (source_at 0 q.position.x) (source_at 2 q.centre.x)

  abbrev pub dy_claim : Claim
  dy_claim = claimed 6 Subtract (source_at 1 q.position.y) (source_at 3 q.centre.y)

  abbrev pub dx_squared : Claim
  dx_squared = claimed 7 Multiply (source_of dx_claim) (source_of dx_claim)

  abbrev pub dy_squared : Claim
  dy_squared = claimed 8 Multiply (source_of dy_claim) (source_of dy_claim)

  abbrev pub sum_claim : Claim
  sum_claim = claimed 9 Add (source_of dx_squared) (source_of dy_squared)

  -- a root has no second operand
  abbrev pub root_claim : Claim
  root_claim = claimed 10 SquareRoot (source_of sum_claim) (source_at 0 (record { bits = 0 }))

  abbrev pub inside_claim : Claim
  inside_claim = claimed 11 AtMost (source_of root_claim) (source_at 4 q.radius)

  abbrev pub claims_of : List Claim
  claims_of =
      dx_claim ∷ dy_claim ∷ dx_squared ∷ dy_squared ∷ sum_claim ∷ forged_if q.forged root_claim ∷ inside_claim ∷ []

-- a claim is entered with its word, and settled with its hints and the ticket of its cell
abbrev pub enter_of : Claim → OpenCall
enter_of c = Enter (code_of c.operation) c.first c.second c.written.word

abbrev pub settle_of : ℕ → Claim → OpenCall
settle_of serial c = Settle (record { serial = serial; cell = c.cell }) c.written.hints

abbrev pub calls_for : ℕ → List Claim → List OpenCall
calls_for serial [] = []
calls_for serial (c ∷ cs) = enter_of c ∷ settle_of serial c ∷ calls_for serial cs

abbrev pub inputs_of : Request → List OpenCall
inputs_of q =
    Input q.position.x ∷ Input q.position.y ∷ Input q.centre.x ∷ Input q.centre.y ∷ Input q.radius ∷ []

-- the five words, the claims, and at last the word of the comparison
unfoldable pub calls_of : Request → ℕ → List Claim → List OpenCall
calls_of q serial claims = inputs_of q ++ (calls_for serial claims ++ (Read 11 ∷ []))

abbrev pub plan_of : Request → ℕ → List OpenCall
plan_of q serial = calls_of q serial (claims_of q)
