-- The systems, by their numbers.
use Rattle.std.specs.Prelude.{ℕ, ◌^◌, cond, Ok, Err, Result, ◌==◌}
use Rattle.kelfrudd.specs.declared.system_name.SystemName.{SystemName}
use Rattle.kelfrudd.specs.declared.system_name.SystemName.TheVariants.{Wrapping, Pair}
use Rattle.kelfrudd.specs.declared.refusal.Refusal.{Refusal}
use Rattle.kelfrudd.specs.declared.refusal.Refusal.TheVariants.{UnknownSystem}

-- the systems have the numbers 1 and 2
abbrev pub system_named : ℕ → Result SystemName Refusal
system_named number = cond (number == 1) (Ok Wrapping) (cond (number == 2) (Ok Pair) (Err UnknownSystem))

-- the one is modulo 2^64, the other the pair
abbrev pub modulus_of : SystemName → ℕ
modulus_of Wrapping = 2 ^ 64
modulus_of Pair = 0x3C00000007FFFFFF
