-- The normal forms of a rounded step are normalized, and in a sum the larger one comes first.
use Rattle.std.proofs.Common.{◌≡◌, ℕ, ◌*◌, ◌^◌, ◌<◌, ◌≤◌, false, ◌&&◌, eqb, sym, refl, ap, ◌∙◌, subst, inl, inr, mul-le-mul_right, mul-lt-mul_of_pos_right, arith, pow_pos, pow_mono}
use native.Mathlib.Nat.{pow-succ'}
use Rattle.std.proofs.lemmas.Bool.{cases_lt, cases_eq, cases_Bool, eq-eqb, ne_eqb, lt-ltb, le-ltb, and_from, true≢false}
use Rattle.binary32.specs.Words.{sign_bit, magnitude_of, class_of, turned_of}
use Rattle.binary32.specs.Sizes.{size}
use Rattle.binary32.specs.Steps.{opposite, rounded_sum, sum_of, step_of}
use Rattle.binary32.specs.Normal.{Normalized, Ordered, ProperStep}
use Rattle.binary32.specs.declared.operation.Operation.{Operation}
use Rattle.binary32.specs.declared.operation.Operation.TheVariants.{Add, Subtract, Multiply, Divide, SquareRoot, Equal, Less, AtMost}
use Rattle.binary32.specs.declared.word.NormalForm.{NormalForm}
use Rattle.binary32.specs.declared.word.Class.TheVariants.{Finite}
use Rattle.binary32.proofs.Sizes.{size_rises}
use Rattle.binary32.proofs.Direct.{of_sum, of_product, of_quotient, of_root, of_comparison}
use Rattle.binary32.proofs.Normal.{Stands, Sized, class_stands}

module _ (x y : NormalForm) (s t : ℕ) (normal_x : Normalized x) (normal_y : Normalized y) (stands_x : Stands x s) (stands_y : Stands y t) where
  -- the value with the smaller exponent is smaller
  exponent_decides : x.exponent < y.exponent → s < t
  exponent_decides less =
      let p = 2 ^ x.exponent in
      let q = 2 ^ y.exponent in
      let next : 2 * p ≤ q = rw (← pow-succ' 2 x.exponent) (pow_mono less) in
      let above : x.significand * p < 2 ^ 24 * p = mul-lt-mul_of_pos_right normal_x.high (pow_pos x.exponent) in
      let below : 2 ^ 23 * q ≤ y.significand * q = mul-le-mul_right q normal_y.low in
      omega arith

  -- at one exponent the larger value has the larger significand
  significand_decides : x.exponent ≡ y.exponent → x.significand ≤ y.significand → s ≤ t
  significand_decides same less =
      let scaled : x.significand * 2 ^ x.exponent ≤ y.significand * 2 ^ x.exponent = mul-le-mul_right (2 ^ x.exponent) less in
      let e : y.significand * 2 ^ x.exponent ≡ y.significand * 2 ^ y.exponent = ap (λ n. y.significand * 2 ^ n) same in
      omega arith

module _ (x y : NormalForm) (s t : ℕ) (normal_x : Normalized x) (normal_y : Normalized y) (stands_x : Stands x s) (stands_y : Stands y t) where
  -- strictly larger at one exponent: a strictly larger significand
  pub larger_significand : t < s → x.exponent ≡ y.exponent → y.significand < x.significand
  larger_significand less same =
      elim (cases_lt y.significand x.significand) [
        | inl h ↦ h
        | inr h ↦ absurd (omega (arith, significand_decides x y s t normal_x normal_y stands_x stands_y same h))
      ]

  pub larger_first : t ≤ s → Ordered x y
  larger_first less = record {
    exponents =
        elim (cases_lt x.exponent y.exponent) [
          | inl h ↦ absurd (omega (arith, exponent_decides x y s t normal_x normal_y stands_x stands_y h))
          | inr h ↦ h
        ];
    significands = λ same.
        elim (cases_lt x.significand y.significand) [
          | inl h ↦ absurd (omega (arith, larger_significand' same h))
          | inr h ↦ h
        ];
  } where
    larger_significand' : x.exponent ≡ y.exponent → x.significand < y.significand → s < t
    larger_significand' same h =
        let scaled : x.significand * 2 ^ x.exponent < y.significand * 2 ^ x.exponent = mul-lt-mul_of_pos_right h (pow_pos x.exponent) in
        let e : y.significand * 2 ^ x.exponent ≡ y.significand * 2 ^ y.exponent = ap (λ n. y.significand * 2 ^ n) same in
        omega arith

-- a sum of two finite words that do not cancel, the first of no smaller magnitude
proper_rounded : (a b : ℕ) (x y : NormalForm) → Sized (Finite x) (size (magnitude_of a)) → Sized (Finite y) (size (magnitude_of b)) →
    magnitude_of b ≤ magnitude_of a → ((eqb (magnitude_of a) (magnitude_of b) && opposite a b) ≡ false) → ProperStep (rounded_sum a b x y)
proper_rounded a b x y sized_x sized_y larger kept =
    elim (cases_Bool (opposite a b)) [
      | inr same ↦ rw same (sized_x.0, sized_y.0, ordered)
      | inl apart ↦
          let strict : magnitude_of b < magnitude_of a =
          elim (cases_eq (magnitude_of a) (magnitude_of b)) [
            | inl e ↦ absurd (true≢false (sym (and_from _ _ (eq-eqb _ _ e) apart) ∙ kept))
            | inr ne ↦ omega arith
          ] in
          let less = size_rises (magnitude_of b) (magnitude_of a) strict in
          rw apart (sized_x.0, sized_y.0, ordered, larger_significand x y _ _ sized_x.0 sized_y.0 sized_x.1 sized_y.1 less)
    ] where
      ordered : Ordered x y
      ordered =
          elim (cases_eq (magnitude_of a) (magnitude_of b)) [
            | inl e ↦ larger_first x y _ _ sized_x.0 sized_y.0 sized_x.1 sized_y.1 (omega (arith, ap size e))
            | inr ne ↦
                larger_first x y _ _ sized_x.0 sized_y.0 sized_x.1 sized_y.1
                (omega (arith, size_rises (magnitude_of b) (magnitude_of a) (omega arith)))
          ]

pub opposite_comm : (a b : ℕ) → opposite b a ≡ opposite a b
opposite_comm a b =
    elim (cases_Bool (sign_bit a)) [
      | inl p ↦ elim (cases_Bool (sign_bit b)) [ inl q ↦ rw (p, q) refl | inr q ↦ rw (p, q) refl ]
      | inr p ↦ elim (cases_Bool (sign_bit b)) [ inl q ↦ rw (p, q) refl | inr q ↦ rw (p, q) refl ]
    ]

cancel_comm : (a b : ℕ) → (eqb (magnitude_of b) (magnitude_of a) && opposite b a) ≡ (eqb (magnitude_of a) (magnitude_of b) && opposite a b)
cancel_comm a b =
    elim (cases_eq (magnitude_of a) (magnitude_of b)) [
      | inl e ↦ rw (eq-eqb _ _ e, eq-eqb _ _ (sym e)) (opposite_comm a b)
      | inr ne ↦ rw (ne_eqb _ _ ne, ne_eqb (magnitude_of b) (magnitude_of a) (λ e. ne (sym e))) refl
    ]

proper_finite : (a b : ℕ) (x y : NormalForm) → Sized (Finite x) (size (magnitude_of a)) → Sized (Finite y) (size (magnitude_of b)) → ProperStep (sum_of a b (Finite x) (Finite y))
proper_finite a b x y sized_x sized_y =
    elim (cases_Bool (eqb (magnitude_of a) (magnitude_of b) && opposite a b)) [
      | inl cancels ↦ rw cancels tt
      | inr kept ↦
          elim (cases_lt (magnitude_of a) (magnitude_of b)) [
            | inl less ↦
                rw (kept, lt-ltb _ _ less) (proper_rounded b a y x sized_y sized_x (omega arith) (cancel_comm a b ∙ kept))
            | inr more ↦ rw (kept, le-ltb _ _ more) (proper_rounded a b x y sized_x sized_y more kept)
          ]
    ]

-- a class that is finite has a normal form that stands for the size
finite_sized : (w : ℕ) (x : NormalForm) → class_of w ≡ Finite x → Sized (Finite x) (size (magnitude_of w))
finite_sized w x is = subst (λ p. Sized p (size (magnitude_of w))) is (class_stands w)

proper_sum : (a b : ℕ) → ProperStep (sum_of a b (class_of a) (class_of b))
proper_sum a b =
    of_sum ProperStep (λ w. tt) a b (class_of a) (class_of b)
    (λ x y is_x is_y. proper_finite a b x y (finite_sized a x is_x) (finite_sized b y is_y))

pub step_proper : (op : Operation) (a b : ℕ) → ProperStep (step_of op a b)
step_proper Add a b = proper_sum a b
step_proper Subtract a b = proper_sum a (turned_of b)
step_proper Multiply a b =
    of_product ProperStep (λ w. tt) a b (class_of a) (class_of b) (λ x y is_x is_y. ((finite_sized a x is_x).0, (finite_sized b y is_y).0))
step_proper Divide a b =
    of_quotient ProperStep (λ w. tt) a b (class_of a) (class_of b) (λ x y is_x is_y. ((finite_sized a x is_x).0, (finite_sized b y is_y).0))
step_proper SquareRoot a b = of_root ProperStep (λ w. tt) a (class_of a) (λ x is. (finite_sized a x is).0)
step_proper Equal a b = of_comparison ProperStep (λ w. tt) (class_of a) (class_of b) _
step_proper Less a b = of_comparison ProperStep (λ w. tt) (class_of a) (class_of b) _
step_proper AtMost a b = of_comparison ProperStep (λ w. tt) (class_of a) (class_of b) _
