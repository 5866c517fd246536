-- What is answered of a claim, where nothing is too short and the system is known.
use Rattle.std.proofs.Common.{◌≡◌, ℕ, ◌≤◌, List, length, cond, false, Ok, set, ap, ◌∙◌, arith}
use Rattle.kelfrudd.specs.Checked.{checked_in, checked_reply, checked_places, hint_named, found_by, too_few, reply_found}
use Rattle.kelfrudd.specs.SystemNames.{system_named}
use Rattle.kelfrudd.specs.Refusals.{Reply}
use Rattle.kelfrudd.specs.declared.system_name.SystemName.{SystemName}
use Rattle.kelfrudd.specs.declared.refusal.Refusal.TheVariants.{TooShort}
use Rattle.std.specs.Prelude.{Err}

module _ (places : List ℕ) (hints system : ℕ) (name : SystemName) (found : Reply) (place : 1 ≤ length places) (six : 6 ≤ hints) (known : system_named system ≡ Ok name) where
  enough : too_few (length places) hints ≡ false
  enough = grind arith

  pub checked_reply_is : checked_reply (length places) hints (checked_in system found) ≡ found
  checked_reply_is =
      ap (λ b. cond b (Err TooShort) (reply_found (checked_in system found))) enough ∙ ap (λ e. reply_found (found_by e found)) known

  pub checked_places_are : checked_places places hints (checked_in system found) ≡ set places 0 (hint_named found)
  checked_places_are = grind arith
