-- Counts of claims as text.
use Rattle.std.specs.Prelude.{ℕ, List, ◌++◌, codes, decimal}
use Rattle.settling.specs.declared.count.Claims.{Claims}

abbrev pub claims_text : Claims → List ℕ
claims_text c = decimal c.accepted ++ (codes " accepted, " ++ (decimal c.refused ++ codes " refused"))
