-- An array of seven, element by element.
use Rattle.std.proofs.Common.{◌≡◌, List, [], ◌∷◌, length, get_or, arith}
use Rattle.std.proofs.lemmas.Grind.{common_steps}

abbrev pub seven : {X : Type 0} → X → List X → List X
seven d xs = get_or xs 0 d ∷ get_or xs 1 d ∷ get_or xs 2 d ∷ get_or xs 3 d ∷ get_or xs 4 d ∷ get_or xs 5 d ∷ get_or xs 6 d ∷ []

-- an array of seven has its seven elements
pub seven_is : {X : Type 0} (d : X) (xs : List X) → length xs ≡ 7 → seven d xs ≡ xs
seven_is d xs long = grind (arith, common_steps)
