-- A value known by its leading bits, and where those are cut to round it.
use Rattle.std.specs.Prelude.{◌≡◌, ℕ, ◌+◌, ◌-◌, ◌*◌, ◌%◌, ◌^◌, ◌<◌, ◌≤◌, min, Bool, cond, not, ◌&&◌, ◌||◌, ◌==◌, ◌≢◌, nat_lt}
use Rattle.rounding.specs.Exact.{Value, Above, On, Below}

-- The value is (main + ε) · 2^S / 2^251 units, where 0 ≤ ε < 1, and ε is 0 just where `rest` is. So it compares with h / 2
-- as 2 · main · 2^S with h · 2^251 if `rest` is 0. If not, it is above where those are equal, and is known to be below
-- where one more in `main` would not go past.
pub record Lies (V : Value) (main rest S : ℕ) : Type 0 where
  pub more : (h : ℕ) → h * 2 ^ 251 < 2 * main * 2 ^ S → Above V h
  pub equal : (h : ℕ) → rest ≡ 0 → h * 2 ^ 251 ≡ 2 * main * 2 ^ S → On V h
  pub less : (h : ℕ) → rest ≡ 0 → 2 * main * 2 ^ S < h * 2 ^ 251 → Below V h
  pub beyond : (h : ℕ) → (rest ≢ 0) → h * 2 ^ 251 ≡ 2 * main * 2 ^ S → Above V h
  pub short : (h : ℕ) → (rest ≢ 0) → 2 * main * 2 ^ S + 2 * 2 ^ S ≤ h * 2 ^ 251 → Below V h

-- Of what is dropped, more than half a unit of what is kept rounds up, and so does just half if something lies
-- beyond it or the kept part is odd.
abbrev pub rounds_up : ℕ → ℕ → ℕ → ℕ → Bool
rounds_up k rest keep drop = nat_lt (2 ^ k) (2 * drop) || ((2 * drop) == 2 ^ k && (not (rest == 0) || keep % 2 == 1))

-- `main`, moved up by `lift` to a number of 51 bits, is cut at bit k into what is kept and what is dropped. The kept part
-- counts steps of 2^U units, the spacing of magnitudes there. Where the cut would be above bit 52, nothing is kept at bit
-- 52 either. If something lies beyond `main`, it is moved up by less than what is dropped.
pub record Cut (main rest S lift U k keep drop up : ℕ) : Type 0 where
  pub high : 2 ^ 50 ≤ main * 2 ^ lift
  pub low : main * 2 ^ lift < 2 ^ 51
  pub spacing : U ≡ S - (224 + lift)
  pub place : k ≡ min (U + 251 + lift - S) 52
  pub parts : main * 2 ^ lift ≡ keep * 2 ^ k + drop
  pub drop_fits : drop < 2 ^ k
  pub lift_within : (rest ≢ 0) → lift ≤ 26
  pub upward : up ≡ cond (rounds_up k rest keep drop) 1 0

-- The value lies less than 2^24 · 2^S / 2^251 units away from m · 2^26 · 2^S / 2^251.
pub record Close (V : Value) (m S : ℕ) : Type 0 where
  pub over : (h : ℕ) → h * 2 ^ 251 + 2 ^ 25 * 2 ^ S ≤ 2 * (m * 2 ^ 26) * 2 ^ S → Above V h
  pub under : (h : ℕ) → 2 * (m * 2 ^ 26) * 2 ^ S + 2 ^ 25 * 2 ^ S ≤ h * 2 ^ 251 → Below V h
