-- A value is rounded by the cut of its leading bits.
use Rattle.std.proofs.Common.{◌≡◌, ℕ, suc, ◌+◌, ◌-◌, ◌*◌, ◌%◌, ◌^◌, ◌<◌, ◌≤◌, min, true, false, cond, not, ◌&&◌, ◌||◌, eqb, ltb, ◌⊎◌, sym, ap, ◌∙◌, inl, inr, mul-le-mul_left, arith, pow_mono}
use native.Mathlib.Nat.{min-eq_left, min-eq_right}
use Rattle.std.proofs.lemmas.Bool.{cases_eq, cases_lt, cases_Bool, ltb-true, ltb-false, eqb-true, eqb-false, or_cases, or_parts, and_parts, and_cases, not-true, not-false, cond-true, cond-false, or_from, and_left, le-ltb, ne_eqb}
use Rattle.binary32.specs.Sizes.{size}
use Rattle.rounding.specs.Exact.{Value, Sound, weight, half, Above, On, Below}
use Rattle.rounding.specs.Nearest.{nearest, top, middle}
use Rattle.rounding.specs.Cut.{Lies, Cut, rounds_up}
use Rattle.rounding.specs.Laws.{RoundsCut}
use Rattle.rounding.proofs.Halves.{half_keeps}
use Rattle.rounding.proofs.Neighbours.{Reaches, Stays, size_keeps, from_neighbours, reaches_from, stays_from}
use Rattle.rounding.proofs.Overflow.{overflows, size_top}
use Rattle.rounding.proofs.Scaled.{above_scaled, below_scaled, on_scaled, past_scaled}
use Rattle.rounding.proofs.Spacing.{size_spaced}
use Rattle.rounding.proofs.Unique.{nearest_is}

module _ (V : Value) (sound : Sound V) (c : ℕ) (from : half V (2 * size c) ≤ weight V) where
  high_overflows : top ≤ c → nearest V ≡ top
  high_overflows high =
      let larger = half_keeps V sound (2 * 2 ^ 277) (2 * size c) (omega (arith, size_top, size_keeps top c high)) in
      overflows V sound (omega arith)

  -- from its size up a magnitude is nearest if the value stays there
  stays_nearest : Stays V c → nearest V ≡ min c top
  stays_nearest stays =
      elim (cases_lt c top) [
        | inl less ↦ nearest_is V c sound (from_neighbours V sound c (omega arith) (reaches_from V sound c from) (λ _. stays)) ∙ sym (min-eq_left (omega arith))
        | inr high ↦ high_overflows high ∙ sym (min-eq_right high)
      ]

  -- and below the next size the next one is, if the value reaches it
  reaches_nearest : weight V ≤ half V (2 * size (suc c)) → Reaches V c → nearest V ≡ min (suc c) top
  reaches_nearest upto reaches =
      elim (cases_lt c top) [
        | inl less ↦
            let back : suc c - 1 ≡ c = omega arith in
            nearest_is V (suc c) sound (from_neighbours V sound (suc c) less (λ _. rw back reaches) (λ _. stays_from V sound (suc c) upto)) ∙ sym (min-eq_left less)
        | inr high ↦ high_overflows high ∙ sym (min-eq_right (omega arith))
      ]

-- a cut that is not held down at bit 52
module _ (V : Value) (main rest S lift U k keep drop : ℕ) (sound : Sound V) (lies : Lies V main rest S)
    (level : S + k ≡ U + 251 + lift) (room : (rest ≡ 0 → ⊥) → lift < k) (parts : main * 2 ^ lift ≡ keep * 2 ^ k + drop)
    (drop_fits : drop < 2 ^ k) (keep_fits : keep < 2 ^ 24) (normal : (U ≡ 0) ⊎ (2 ^ 23 ≤ keep)) where
  -- the kept part is the size of a magnitude, and one more is that of the next
  here : size (U * 2 ^ 23 + keep) ≡ keep * 2 ^ U
  here = size_spaced U keep (omega arith) normal

  next : size (suc (U * 2 ^ 23 + keep)) ≡ suc keep * 2 ^ U
  next =
      let moved : U * 2 ^ 23 + suc keep ≡ suc (U * 2 ^ 23 + keep) = omega arith in
      ap size (sym moved) ∙ size_spaced U (suc keep) keep_fits (elim normal [ inl none ↦ inl none | inr high ↦ inr (omega arith) ])

  mid : middle (U * 2 ^ 23 + keep) (suc (U * 2 ^ 23 + keep)) ≡ (2 * keep + 1) * 2 ^ U
  mid = rw (here, next) (omega arith)

  -- the value lies from the one to the other
  from_here : half V (2 * size (U * 2 ^ 23 + keep)) ≤ weight V
  from_here =
      let double : 2 * size (U * 2 ^ 23 + keep) ≡ 2 * keep * 2 ^ U = rw here (omega arith) in
      rw double
      (elim (cases_eq drop 0) [
        | inr some ↦ omega (arith, above_scaled V main rest S lift U k lies level room (2 * keep) (omega arith))
        | inl none ↦
            let same : 2 * keep * 2 ^ k ≡ 2 * (main * 2 ^ lift) = omega arith in
            elim (cases_eq rest 0) [
              | inl exact ↦ omega (arith, on_scaled V main rest S lift U k lies level room (2 * keep) exact same)
              | inr beyond ↦ omega (arith, past_scaled V main rest S lift U k lies level room (2 * keep) beyond same)
            ]
      ])

  below_next : weight V ≤ half V (2 * size (suc (U * 2 ^ 23 + keep)))
  below_next =
      let double : 2 * size (suc (U * 2 ^ 23 + keep)) ≡ 2 * suc keep * 2 ^ U = rw next (omega arith) in
      rw double (omega (arith, below_scaled V main rest S lift U k lies level room (2 * suc keep) (omega arith)))

  -- and on this or that side of their middle as what is dropped is less or more than half
  stays_less : 2 * drop < 2 ^ k → Stays V (U * 2 ^ 23 + keep)
  stays_less less =
      let below : Below V ((2 * keep + 1) * 2 ^ U) = below_scaled V main rest S lift U k lies level room (2 * keep + 1) (omega arith) in
      record { not_above = rw mid (omega arith); even = rw mid (λ on. absurd (omega arith)) }

  stays_half : 2 * drop ≡ 2 ^ k → rest ≡ 0 → keep % 2 ≡ 0 → Stays V (U * 2 ^ 23 + keep)
  stays_half tie exact even =
      let on : On V ((2 * keep + 1) * 2 ^ U) = on_scaled V main rest S lift U k lies level room (2 * keep + 1) exact (omega arith) in
      record { not_above = rw mid (omega arith); even = λ _. omega arith }

  reaches_above : Above V ((2 * keep + 1) * 2 ^ U) → Reaches V (U * 2 ^ 23 + keep)
  reaches_above above = record { not_below = rw mid (omega arith); even = rw mid (λ on. absurd (omega arith)) }

  reaches_more : 2 ^ k < 2 * drop → Reaches V (U * 2 ^ 23 + keep)
  reaches_more more = reaches_above (above_scaled V main rest S lift U k lies level room (2 * keep + 1) (omega arith))

  reaches_beyond : 2 * drop ≡ 2 ^ k → (rest ≡ 0 → ⊥) → Reaches V (U * 2 ^ 23 + keep)
  reaches_beyond tie beyond = reaches_above (past_scaled V main rest S lift U k lies level room (2 * keep + 1) beyond (omega arith))

  reaches_half : 2 * drop ≡ 2 ^ k → rest ≡ 0 → keep % 2 ≡ 1 → Reaches V (U * 2 ^ 23 + keep)
  reaches_half tie exact odd =
      let on : On V ((2 * keep + 1) * 2 ^ U) = on_scaled V main rest S lift U k lies level room (2 * keep + 1) exact (omega arith) in
      record { not_below = rw mid (omega arith); even = λ _. omega arith }

  rounds_down : Stays V (U * 2 ^ 23 + keep) → nearest V ≡ min (U * 2 ^ 23 + keep) top
  rounds_down stays = stays_nearest V sound (U * 2 ^ 23 + keep) from_here stays

  rounds_up_lem : Reaches V (U * 2 ^ 23 + keep) → nearest V ≡ min (suc (U * 2 ^ 23 + keep)) top
  rounds_up_lem reaches = reaches_nearest V sound (U * 2 ^ 23 + keep) from_here below_next reaches

  reaches_by : rounds_up k rest keep drop ≡ true → Reaches V (U * 2 ^ 23 + keep)
  reaches_by upward =
      elim (or_cases (ltb (2 ^ k) (2 * drop)) (eqb (2 * drop) (2 ^ k) && (not (eqb rest 0) || eqb (keep % 2) 1)) upward) [
        | inl more ↦ reaches_more (ltb-true _ _ more)
        | inr tie ↦
            let halves = and_parts _ _ tie in
            let same = eqb-true (2 * drop) (2 ^ k) halves.0 in
            elim (cases_eq rest 0) [
              | inr beyond ↦ reaches_beyond same beyond
              | inl exact ↦
                  elim (or_cases (not (eqb rest 0)) (eqb (keep % 2) 1) halves.1) [
                    | inl some ↦ absurd (eqb-false rest 0 (not-true (eqb rest 0) some) exact)
                    | inr odd ↦ reaches_half same exact (eqb-true _ _ odd)
                  ]
            ]
      ]

  stays_by : rounds_up k rest keep drop ≡ false → Stays V (U * 2 ^ 23 + keep)
  stays_by downward =
      let halves = or_parts (ltb (2 ^ k) (2 * drop)) (eqb (2 * drop) (2 ^ k) && (not (eqb rest 0) || eqb (keep % 2) 1)) downward in
      let most = ltb-false (2 ^ k) (2 * drop) halves.0 in
      elim (and_cases (eqb (2 * drop) (2 ^ k)) (not (eqb rest 0) || eqb (keep % 2) 1) halves.1) [
        | inl off ↦ let other = eqb-false (2 * drop) (2 ^ k) off in stays_less (omega arith)
        | inr even ↦
            elim (cases_eq (2 * drop) (2 ^ k)) [
              | inr other ↦ stays_less (omega arith)
              | inl same ↦
                  let both = or_parts (not (eqb rest 0)) (eqb (keep % 2) 1) even in
                  let exact = eqb-true rest 0 (not-false (eqb rest 0) both.0) in
                  let other = eqb-false (keep % 2) 1 both.1 in
                  stays_half same exact (omega arith)
            ]
      ]

  rounds : (up : ℕ) → up ≡ cond (rounds_up k rest keep drop) 1 0 → nearest V ≡ min (U * 2 ^ 23 + keep + up) top
  rounds up upward =
      elim (cases_Bool (rounds_up k rest keep drop)) [
        | inl upper ↦
            let one : up ≡ 1 = upward ∙ cond-true (rounds_up k rest keep drop) 1 0 upper in
            rounds_up_lem (reaches_by upper) ∙ ap (λ n. min n top) (omega arith)
        | inr lower ↦
            let none : up ≡ 0 = upward ∙ cond-false (rounds_up k rest keep drop) 1 0 lower in
            rounds_down (stays_by lower) ∙ ap (λ n. min n top) (omega arith)
      ]

module _ (V : Value) (main rest S lift U k keep drop up : ℕ) (sound : Sound V) (lies : Lies V main rest S)
    (cut : Cut main rest S lift U k keep drop up) where
  rounds_free : U + 251 + lift - S ≤ 52 → nearest V ≡ min (U * 2 ^ 23 + keep + up) top
  rounds_free free =
      let level : S + k ≡ U + 251 + lift = omega (arith, cut.spacing, cut.place) in
      let from : 27 ≤ k = omega (arith, cut.spacing, cut.place) in
      let power : 2 ^ 27 ≤ 2 ^ k = pow_mono from in
      let least : keep * 2 ^ 27 ≤ keep * 2 ^ k = mul-le-mul_left keep power in
      let keep_fits : keep < 2 ^ 24 = omega (arith, cut.parts, cut.low) in
      let normal : (U ≡ 0) ⊎ (2 ^ 23 ≤ keep) =
      elim (cases_eq U 0) [
        | inl none ↦ inl none
        | inr some ↦
            let at_27 : k ≡ 27 = omega (arith, cut.spacing, cut.place) in
            let parts : main * 2 ^ lift ≡ keep * 2 ^ 27 + drop = rw at_27 at cut.parts in
            let drop_fits : drop < 2 ^ 27 = rw at_27 at cut.drop_fits in
            inr (omega (arith, cut.high))
      ] in
      rounds V main rest S lift U k keep drop sound lies level (λ some. omega (arith, cut.lift_within some)) cut.parts cut.drop_fits keep_fits normal up cut.upward

  -- where the cut is held down at bit 52 the value lies below half of the least size
  rounds_held : 52 < U + 251 + lift - S → nearest V ≡ min (U * 2 ^ 23 + keep + up) top
  rounds_held held =
      let none : U ≡ 0 = omega (arith, cut.spacing) in
      let at_52 : k ≡ 52 = omega (arith, cut.place) in
      let parts : main * 2 ^ lift ≡ keep * 2 ^ 52 + drop = rw at_52 at cut.parts in
      let kept : keep ≡ 0 = omega (arith, cut.low) in
      let less : 2 * drop < 2 ^ k = rw at_52 (omega (arith, cut.low)) in
      let lower : rounds_up k rest keep drop ≡ false = or_from _ _ (le-ltb (2 ^ k) (2 * drop) (omega arith)) (and_left _ _ (ne_eqb (2 * drop) (2 ^ k) (omega arith))) in
      let level_up : up ≡ 0 = cut.upward ∙ cond-false (rounds_up k rest keep drop) 1 0 lower in
      let whole = U + 251 + lift - S in
      let power : 2 ^ 53 ≤ 2 ^ whole = pow_mono held in
      let level : S + whole ≡ U + 251 + lift = omega arith in
      let room : (rest ≡ 0 → ⊥) → lift < whole = λ some. omega (arith, cut.lift_within some) in
      let split : main * 2 ^ lift ≡ 0 * 2 ^ whole + main * 2 ^ lift = omega arith in
      let within : main * 2 ^ lift < 2 ^ whole = omega (arith, cut.low) in
      let stays = stays_less V main rest S lift U whole 0 (main * 2 ^ lift) sound lies level room split within (omega arith) (inl none) (omega (arith, cut.low)) in
      rounds_down V main rest S lift U whole 0 (main * 2 ^ lift) sound lies level room split within (omega arith) (inl none) stays
      ∙ ap (λ n. min n top) (omega arith)

pub rounds_cut : RoundsCut
rounds_cut V main rest S lift U k keep drop up sound lies cut =
    elim (cases_lt 52 (U + 251 + lift - S)) [
      | inl held ↦ rounds_held V main rest S lift U k keep drop up sound lies cut held
      | inr free ↦ rounds_free V main rest S lift U k keep drop up sound lies cut free
    ]
