-- What two remainders say of a number.
use Rattle.std.specs.Prelude.{◌≡◌, ℕ, ◌*◌, ◌%◌, ◌<◌}

-- `number` is the one number below p * q that leaves `first` modulo p and `second` modulo q.
pub record Fixed (p q first second number : ℕ) : Type 0 where
  pub below : number < p * q
  pub first_left : number % p ≡ first
  pub second_left : number % q ≡ second
  pub only : (n : ℕ) → n < p * q → n % p ≡ first → n % q ≡ second → n ≡ number
