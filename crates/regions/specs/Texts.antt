-- Requests, claims, outcomes, reports and tallies as text.
use Rattle.std.specs.Prelude.{ℕ, ◌-◌, ◌^◌, Bool, true, false, cond, List, [], ◌∷◌, ◌++◌, codes, decimal, flat_map, Some, None, Option}
use Rattle.std.specs.Fmt.{format_spec, padded_integral, digits}
use Rattle.binary32.specs.Operations.{is_root}
use Rattle.checks.specs.declared.flaw.Flaw.{Flaw}
use Rattle.checks.specs.declared.flaw.Flaw.TheVariants.{Width, FirstEquation, SecondEquation, Up, Word}
use Rattle.hints.specs.Hints.{number_of}
use Rattle.notation.specs.Names.{name_of}
use Rattle.notation.specs.Numerals.{digits_of}
use Rattle.sheet.specs.Refusals.{place_of, told_of}
use Rattle.sheet.specs.declared.refusal.Refusal.{Refusal}
use Rattle.sheet.specs.declared.refusal.Refusal.TheVariants.{Full, UnknownCode, NotTaken, NotAccepted, BadTicket, Flawed}
use Rattle.regions.specs.declared.claims.Claim.{Claim}
use Rattle.regions.specs.declared.count.Tally.{Tally}
use Rattle.regions.specs.declared.findings.Outcome.{Outcome}
use Rattle.regions.specs.declared.findings.Outcome.TheVariants.{Accepted, Refused, Unanswered}
use Rattle.regions.specs.declared.findings.Report.{Report}
use Rattle.regions.specs.declared.findings.Step.{Step}
use Rattle.regions.specs.declared.findings.Verdict.{Verdict}
use Rattle.regions.specs.declared.findings.Verdict.TheVariants.{Inside, Outside, NotShown}
use Rattle.regions.specs.declared.reading.Point.{Point}
use Rattle.regions.specs.declared.reading.Request.{Request}

abbrev pub point_text : Point → List ℕ
point_text p = digits_of p.x.bits ++ (codes " " ++ digits_of p.y.bits)

abbrev pub request_text : Request → List ℕ
request_text q =
    codes "position " ++ (point_text q.position ++ (codes ", centre " ++ (point_text q.centre
    ++ (codes ", radius " ++ (digits_of q.radius.bits ++ cond q.forged (codes ", the root's up turned") [])))))

-- the operation with the cells of its operands: a root has one
abbrev pub operation_text : Claim → List ℕ
operation_text c =
    name_of c.operation ++ (codes " " ++ (decimal c.first ++ cond (is_root c.operation) [] (codes " " ++ decimal c.second)))

-- the claim with its cell and its word
abbrev pub claim_text : Claim → List ℕ
claim_text c =
    codes "cell " ++ (decimal c.cell ++ (codes ": " ++ (operation_text c ++ (codes " = " ++ digits_of c.written.word.bits))))

-- the hint that a flaw is about, where it is about one
abbrev pub hint_text : Flaw → List ℕ
hint_text (Width hint) = codes ", hint " ++ decimal (number_of hint)
hint_text FirstEquation = []
hint_text SecondEquation = []
hint_text Up = []
hint_text Word = []

-- what a refusal tells beside its number
abbrev pub besides : Refusal → List ℕ
besides Full = []
besides UnknownCode = []
besides (NotTaken operand) = codes ", operand " ++ decimal (place_of operand)
besides (NotAccepted operand) = codes ", operand " ++ decimal (place_of operand)
besides BadTicket = []
besides (Flawed cell flaw) = codes ", cell " ++ (decimal cell ++ hint_text flaw)

abbrev pub refusal_text : Refusal → List ℕ
refusal_text r = codes "refused by " ++ (decimal (told_of r).number ++ besides r)

abbrev pub outcome_text : Outcome → List ℕ
outcome_text Accepted = codes "accepted"
outcome_text (Refused refusal) = refusal_text refusal
outcome_text Unanswered = codes "unanswered"

abbrev pub step_text : Step → List ℕ
step_text s = claim_text s.claim ++ (codes ", " ++ outcome_text s.outcome)

abbrev pub verdict_text : Verdict → List ℕ
verdict_text Inside = codes "inside"
verdict_text Outside = codes "outside"
verdict_text NotShown = codes "not shown"

abbrev pub tally_text : Tally → List ℕ
tally_text t =
    decimal t.inside ++ (codes " inside, " ++ (decimal t.outside ++ (codes " outside, "
    ++ (decimal t.not_shown ++ (codes " not shown, " ++ (decimal t.bad ++ codes " bad lines"))))))

-- a number in sixteen hexadecimal digits with capitals, filled up with zeros
abbrev pub sixteen_digits : ℕ → List ℕ
sixteen_digits number = padded_integral (format_spec 32 0 4 16 (2 ^ 64 - 1)) false [] (digits 16 true number)

abbrev pub closing_text : Option ℕ → List ℕ
closing_text (Some number) = sixteen_digits number
closing_text None = codes "none"

abbrev pub closings_text : List (Option ℕ) → List ℕ
closings_text [] = []
closings_text (number ∷ []) = closing_text number
closings_text (number ∷ next ∷ numbers) = closing_text number ++ (codes " and " ++ closings_text (next ∷ numbers))

-- each step stands on a line of its own
abbrev pub line_text : Step → List ℕ
line_text step = codes "\n  " ++ step_text step

abbrev pub steps_text : List Step → List ℕ
steps_text steps = flat_map line_text steps

abbrev pub agreement_text : Bool → List ℕ
agreement_text agree = cond agree (codes "both sheets gave the same answers") (codes "the sheets gave different answers")

-- the request, its steps, whether the sheets agree, their closing numbers and the verdict
abbrev pub report_text : Report → List ℕ
report_text r =
    request_text r.request ++ (steps_text r.steps ++ (codes "\n  " ++ (agreement_text r.agree
    ++ (codes "\n  closing numbers " ++ (closings_text r.closings ++ (codes "\n  " ++ verdict_text r.verdict))))))
