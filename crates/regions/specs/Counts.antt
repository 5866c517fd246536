-- How many requests there were of each verdict, and how many lines were none.
use Rattle.std.specs.Prelude.{ℕ, ◌+◌, ◌-◌, ◌^◌, min, Some, None, Option}
use Rattle.regions.specs.declared.count.Tally.{Tally}
use Rattle.regions.specs.declared.findings.Verdict.{Verdict}
use Rattle.regions.specs.declared.findings.Verdict.TheVariants.{Inside, Outside, NotShown}

-- one more, up to the highest number of 64 bits
abbrev pub more : ℕ → ℕ
more n = min (n + 1) (2 ^ 64 - 1)

abbrev pub tally_with : ℕ → ℕ → ℕ → ℕ → Tally
tally_with inside outside not_shown bad = record { inside = inside; outside = outside; not_shown = not_shown; bad = bad }

abbrev pub counted : Tally → Option Verdict → Tally
counted t (Some Inside) = tally_with (more t.inside) t.outside t.not_shown t.bad
counted t (Some Outside) = tally_with t.inside (more t.outside) t.not_shown t.bad
counted t (Some NotShown) = tally_with t.inside t.outside (more t.not_shown) t.bad
counted t None = tally_with t.inside t.outside t.not_shown (more t.bad)
