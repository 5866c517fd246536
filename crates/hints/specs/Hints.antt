-- The six hints by their names, their numbers and their order.
use Rattle.std.specs.Prelude.{ℕ, List, [], ◌∷◌}
use Rattle.hints.specs.declared.hint.Hint.{Hint}
use Rattle.hints.specs.declared.hint.Hint.TheVariants.{Main, Rest, Lift, Keep, Drop, Up}
use Rattle.hints.specs.declared.writer.Hints.{Hints}

abbrev pub number_of : Hint → ℕ
number_of Main = 1
number_of Rest = 2
number_of Lift = 3
number_of Keep = 4
number_of Drop = 5
number_of Up = 6

-- the hints in their order
abbrev pub listed : Hints → List ℕ
listed h = h.main ∷ h.rest ∷ h.lift ∷ h.keep ∷ h.drop ∷ h.up ∷ []
