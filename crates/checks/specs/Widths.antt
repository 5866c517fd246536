-- The first hint that is outside its width.
use Rattle.std.specs.Prelude.{ℕ, ◌-◌, ◌^◌, Bool, cond, ◌&&◌, Some, None, Option, ◌==◌, nat_le, nat_lt}
use Rattle.hints.specs.Backs.{rest_limit}
use Rattle.hints.specs.Scheme.{main_width}
use Rattle.hints.specs.declared.hint.Hint.{Hint}
use Rattle.hints.specs.declared.hint.Hint.TheVariants.{Main, Rest, Lift, Keep, Drop, Up}
use Rattle.hints.specs.declared.setting.Kind.{Kind}
use Rattle.hints.specs.declared.writer.Hints.{Hints}

-- a hint that fits leaves the question to the hints after it
abbrev pub unless : Bool → Hint → Option Hint → Option Hint
unless fits hint later = cond fits later (Some hint)

-- main reaches up to bit 50 − lift
abbrev pub lift_fits : ℕ → ℕ → Bool
lift_fits lift main = nat_le lift 50 && (nat_le (2 ^ (50 - lift)) main && nat_lt main (2 ^ (51 - lift)))

-- of main, rest and lift
abbrev pub front_outside : Kind → ℕ → Hints → Option Hint
front_outside kind second h =
    unless (nat_lt h.main (2 ^ main_width kind)) Main
    (unless (nat_lt h.rest (rest_limit kind second h.main)) Rest
    (unless (lift_fits h.lift h.main) Lift None))

-- of keep, drop and up, where the cut is at bit k: the difference stops at 0, so keep is 0 where k is 52
abbrev pub back_outside : ℕ → Hints → Option Hint
back_outside k h =
    unless (nat_lt h.keep (2 ^ (51 - k))) Keep
    (unless (nat_lt h.drop (2 ^ k)) Drop
    (unless (nat_le h.up 1) Up None))

-- of a direct step, where each hint has to be 0
abbrev pub some_hint : Hints → Option Hint
some_hint h =
    unless (h.main == 0) Main
    (unless (h.rest == 0) Rest
    (unless (h.lift == 0) Lift
    (unless (h.keep == 0) Keep
    (unless (h.drop == 0) Drop
    (unless (h.up == 0) Up None)))))
