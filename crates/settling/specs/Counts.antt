-- How many claims of vectors are accepted and refused.
use Rattle.std.specs.Prelude.{Bool, cond}
use Rattle.writing.specs.Tallies.{more}
use Rattle.writing.specs.Verdicts.{meant_by}
use Rattle.writing.specs.declared.vector.Vector.{Vector}
use Rattle.settling.specs.Claimed.{is_accepted, damaged_of}
use Rattle.settling.specs.declared.count.Claims.{Claims}
use Rattle.settling.specs.declared.settlements.Settlements.{Settlements}

abbrev pub no_claims : Claims
no_claims = record { accepted = 0; refused = 0 }

abbrev pub one_claim : Claims → Bool → Claims
one_claim c accepted =
    cond accepted (record { accepted = more c.accepted; refused = c.refused }) (record { accepted = c.accepted; refused = more c.refused })

abbrev pub nothing : Settlements
nothing = record { expected = no_claims; damaged = no_claims }

-- a vector has two claims: with the word that it expects, and with that word damaged
abbrev pub settled : Settlements → Vector → Settlements
settled s v = record {
  expected = one_claim s.expected (is_accepted v.request (meant_by v.expected));
  damaged = one_claim s.damaged (is_accepted v.request (damaged_of (meant_by v.expected)));
}
