-- The definition of a name searches a list as the library's does.
use Rattle.std.proofs.Common.{◌≡◌, ℕ, cond, List, [], ◌∷◌, Some, refl, ap}
use Rattle.std.specs.List.{find}
use Rattle.std.specs.Str.{bytes_eq}
use Rattle.binary32.specs.declared.operation.Operation.{Operation}
use Rattle.notation.specs.Names.{name_of, with_name}

pub found_with_name : (name : List ℕ) (operations : List Operation) → find (λ o. bytes_eq name (name_of o)) operations ≡ with_name name operations
found_with_name name [] = refl
found_with_name name (o ∷ os) = ap (cond (bytes_eq name (name_of o)) (Some o)) (found_with_name name os)
