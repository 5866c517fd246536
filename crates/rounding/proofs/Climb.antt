-- The climb bit by bit ends at a magnitude that the value does not pass, above one that it passes.
use Rattle.std.proofs.Common.{◌≡◌, ℕ, zero, suc, ◌+◌, ◌-◌, ◌%◌, ◌^◌, ◌<◌, ◌≤◌, true, false, ◌&&◌, leb, inl, inr, arith}
use Rattle.std.proofs.lemmas.Bool.{cases_Bool, ltb-true, ltb-false, eqb-true, eqb-false, leb-true, leb-false, and_parts, and_cases, or_cases, or_parts, cond-true, cond-false}
use Rattle.rounding.specs.Exact.{Value, weight, half}
use Rattle.rounding.specs.Nearest.{top, middle, passes, climb, nearest}
use Rattle.rounding.specs.Laws.{IsNearest}
use Rattle.rounding.proofs.Neighbours.{Reaches, Stays, from_neighbours}

pub passes_reaches : (V : Value) (c : ℕ) → passes V c ≡ true → Reaches V c
passes_reaches V c passed =
    elim (or_cases _ _ passed) [
      | inl beyond ↦
          let more = ltb-true (half V (middle c (suc c))) (weight V) beyond in
          record { not_below = omega arith; even = λ on. absurd (omega arith) }
      | inr tie ↦
          let parts = and_parts _ _ tie in
          let on = eqb-true (half V (middle c (suc c))) (weight V) parts.0 in
          let odd = eqb-true (c % 2) 1 parts.1 in
          record { not_below = omega arith; even = λ _. omega arith }
    ]

pub not_passes_stays : (V : Value) (c : ℕ) → passes V c ≡ false → Stays V c
not_passes_stays V c kept =
    let parts = or_parts _ _ kept in
    record {
      not_above = ltb-false (half V (middle c (suc c))) (weight V) parts.0;
      even = λ on.
          elim (and_cases _ _ parts.1) [
            | inl off ↦ absurd (eqb-false _ _ off on)
            | inr even ↦ let other = eqb-false (c % 2) 1 even in omega arith
          ];
    }

twice : (b r : ℕ) → r + 2 ^ suc b ≡ r + 2 ^ b + 2 ^ b
twice b r = omega arith

module _ (V : Value) where
  -- the value passes what is below r, and not what is 2^b above that
  record Between (b r : ℕ) : Type 0 where
    fits : r ≤ top
    passed : 0 < r → Reaches V (r - 1)
    kept : r + 2 ^ b ≤ top → Stays V (r + 2 ^ b - 1)

  climbs : (b r : ℕ) → Between b r → Between 0 (climb V b r)
  unfolding climb
  climbs zero r between = between
  climbs (suc b) r between =
      let t = leb (r + 2 ^ b) top && passes V (r + 2 ^ b - 1) in
      elim (cases_Bool t) [
        | inl taken ↦
            let parts = and_parts _ _ taken in
            rw (cond-true t (r + 2 ^ b) r taken)
            (climbs b (r + 2 ^ b) (record {
              fits = leb-true _ _ parts.0;
              passed = λ _. passes_reaches V (r + 2 ^ b - 1) parts.1;
              kept = rw (twice b r) at between.kept;
            }))
        | inr left ↦
            rw (cond-false t (r + 2 ^ b) r left)
            (climbs b r (record {
              fits = between.fits;
              passed = between.passed;
              kept = λ within.
                  elim (and_cases (leb (r + 2 ^ b) top) (passes V (r + 2 ^ b - 1)) left) [
                    | inl over ↦ let more = leb-false (r + 2 ^ b) top over in absurd (omega arith)
                    | inr kept ↦ not_passes_stays V (r + 2 ^ b - 1) kept
                  ];
            }))
      ]

pub is_nearest : IsNearest
unfolding nearest
is_nearest V sound =
    let ended = climbs V 31 0 (record { fits = omega arith; passed = λ some. absurd (omega arith); kept = λ within. absurd (omega arith) }) in
    let m = climb V 31 0 in
    let same : m + 2 ^ 0 - 1 ≡ m = omega arith in
    from_neighbours V sound m ended.fits ended.passed (λ less. rw same at (ended.kept (omega arith)))
