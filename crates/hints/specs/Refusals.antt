-- What is told of a refusal: one definition gives each case its number, its values and the layer that refuses.
use Rattle.std.specs.Prelude.{ℕ}
use Rattle.hints.specs.declared.refusal.Layer.{Layer}
use Rattle.hints.specs.declared.refusal.Layer.TheVariants.{Writer}
use Rattle.hints.specs.declared.refusal.Refusal.{Refusal}
use Rattle.hints.specs.declared.refusal.Refusal.TheVariants.{UnknownCode}

-- the number, at most two values, which are 0 where there are none, and the layer
pub record Told : Type 0 where
  pub number : ℕ
  pub first : ℕ
  pub second : ℕ
  pub layer : Layer

abbrev pub told : ℕ → ℕ → ℕ → Layer → Told
told number first second by = record { number = number; first = first; second = second; layer = by }

abbrev pub told_of : Refusal → Told
told_of UnknownCode = told 2 0 0 Writer
