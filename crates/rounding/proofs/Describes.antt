-- What the normal forms of a rounded step say of its exact result.
use Rattle.std.proofs.Common.{◌≡◌, ℕ, ◌+◌, ◌-◌, ◌*◌, ◌^◌, ◌≤◌, min, max, ◌&&◌, eqb, refl, ap, subst, inl, inr, arith}
use Rattle.std.proofs.lemmas.Bool.{cases_Bool, cases_lt, lt-ltb, le-ltb}
use Rattle.binary32.specs.Sizes.{size}
use Rattle.binary32.specs.Words.{magnitude_of, class_of, turned_of, is_nan}
use Rattle.binary32.specs.Steps.{opposite, rounded_sum, step_of}
use Rattle.binary32.specs.Steps.{sum_of as sum_step_of}
use Rattle.binary32.specs.declared.operation.Operation.{Operation}
use Rattle.binary32.specs.declared.operation.Operation.TheVariants.{Add, Subtract, Multiply, Divide, SquareRoot, Equal, Less, AtMost}
use Rattle.binary32.specs.declared.step.Exact.{Exact}
use Rattle.binary32.specs.declared.step.Exact.TheVariants.{Sum, Difference, Product, Quotient, Root}
use Rattle.binary32.specs.declared.step.Step.{Step}
use Rattle.binary32.specs.declared.step.Step.TheVariants.{Direct, Rounded}
use Rattle.binary32.specs.declared.word.NormalForm.{NormalForm}
use Rattle.binary32.specs.declared.word.Class.TheVariants.{Finite}
use Rattle.binary32.proofs.Direct.{of_sum, of_product, of_quotient, of_root, of_comparison}
use Rattle.binary32.proofs.Levels.{plain_magnitude}
use Rattle.binary32.proofs.Normal.{Stands, Sized, class_stands}
use Rattle.binary32.proofs.Steps.{opposite_comm}
use Rattle.rounding.specs.Exact.{Value, ratio, root, sum_of, exact_of}
use Rattle.rounding.specs.Nearest.{top}
use Rattle.rounding.proofs.Neighbours.{size_keeps}

-- x and y stand for the sizes of two operands
pub record Operands (x y : NormalForm) (s t : ℕ) : Type 0 where
  pub first : Stands x s
  pub second : Stands y t

-- s is the size of a magnitude
pub record Magnitude (s : ℕ) : Type 0 where
  pub at : ℕ
  pub candidate : at ≤ top
  pub sized : size at ≡ s

abbrev pub Describes : Exact → Value → Type 0
Describes (Sum x y) V = (s : ℕ) × (t : ℕ) × Operands x y s t × Magnitude s × (V ≡ ratio (s + t) 1)
Describes (Difference x y) V = (s : ℕ) × (t : ℕ) × Operands x y s t × Magnitude s × (V ≡ ratio (s - t) 1)
Describes (Product x y) V = (s : ℕ) × (t : ℕ) × Operands x y s t × (V ≡ ratio (s * t) (2 ^ 149))
Describes (Quotient x y) V = (s : ℕ) × (t : ℕ) × Operands x y s t × (V ≡ ratio (s * 2 ^ 149) t)
Describes (Root x) V = (s : ℕ) × Stands x s × (V ≡ root (s * 2 ^ 149))

abbrev pub DescribesStep : Step → Value → Type 0
DescribesStep (Direct w) V = Unit {0}
DescribesStep (Rounded negative x) V = Describes x V

exact_comm : (a b : ℕ) → sum_of b a ≡ sum_of a b
exact_comm a b =
    let s = size (magnitude_of a) in
    let t = size (magnitude_of b) in
    let apart : max t s - min t s ≡ max s t - min s t = omega arith in
    let whole : t + s ≡ s + t = omega arith in
    rw (opposite_comm a b, apart, whole)

-- a sum whose first operand has no smaller magnitude
describes_rounded : (a b : ℕ) (x y : NormalForm) → Stands x (size (magnitude_of a)) → Stands y (size (magnitude_of b)) →
    magnitude_of b ≤ magnitude_of a → magnitude_of a ≤ top → DescribesStep (rounded_sum a b x y) (sum_of a b)
describes_rounded a b x y stands_x stands_y larger candidate =
    let s = size (magnitude_of a) in
    let t = size (magnitude_of b) in
    let operands : Operands x y s t = record { first = stands_x; second = stands_y } in
    let place : Magnitude s = record { at = magnitude_of a; candidate = candidate; sized = refl } in
    let ordered : t ≤ s = size_keeps (magnitude_of b) (magnitude_of a) larger in
    let apart : max s t - min s t ≡ s - t = omega arith in
    elim (cases_Bool (opposite a b)) [
      | inl differ ↦ rw differ (s, t, operands, place, ap (λ n. ratio n 1) apart)
      | inr alike ↦ rw alike (s, t, operands, place, refl)
    ]

describes_finite : (a b : ℕ) (x y : NormalForm) → Stands x (size (magnitude_of a)) → Stands y (size (magnitude_of b)) →
    magnitude_of a ≤ top → magnitude_of b ≤ top → DescribesStep (sum_step_of a b (Finite x) (Finite y)) (sum_of a b)
describes_finite a b x y stands_x stands_y candidate_a candidate_b =
    elim (cases_Bool (eqb (magnitude_of a) (magnitude_of b) && opposite a b)) [
      | inl cancels ↦ rw cancels tt
      | inr kept ↦
          elim (cases_lt (magnitude_of a) (magnitude_of b)) [
            | inl less ↦
                rw (kept, lt-ltb _ _ less, ← exact_comm a b) (describes_rounded b a y x stands_y stands_x (omega arith) candidate_b)
            | inr more ↦ rw (kept, le-ltb _ _ more) (describes_rounded a b x y stands_x stands_y more candidate_a)
          ]
    ]

finite_stands : (w : ℕ) (x : NormalForm) → class_of w ≡ Finite x → Stands x (size (magnitude_of w))
finite_stands w x is = (subst (λ p. Sized p (size (magnitude_of w))) is (class_stands w)).1

-- a finite nonzero word is no NaN
finite_candidate : (w : ℕ) (x : NormalForm) → class_of w ≡ Finite x → magnitude_of w ≤ top
finite_candidate w x is = plain_magnitude w (ap is_nan is)

describes_sum : (a b : ℕ) → DescribesStep (sum_step_of a b (class_of a) (class_of b)) (sum_of a b)
describes_sum a b =
    of_sum (λ step. DescribesStep step (sum_of a b)) (λ w. tt) a b (class_of a) (class_of b)
    (λ x y is_x is_y.
    describes_finite a b x y (finite_stands a x is_x) (finite_stands b y is_y) (finite_candidate a x is_x) (finite_candidate b y is_y))

both_stand : (a b : ℕ) (x y : NormalForm) → class_of a ≡ Finite x → class_of b ≡ Finite y → Operands x y (size (magnitude_of a)) (size (magnitude_of b))
both_stand a b x y is_x is_y = record { first = finite_stands a x is_x; second = finite_stands b y is_y }

pub step_describes : (op : Operation) (a b : ℕ) → DescribesStep (step_of op a b) (exact_of op a b)
step_describes Add a b = describes_sum a b
step_describes Subtract a b = describes_sum a (turned_of b)
step_describes Multiply a b =
    of_product (λ step. DescribesStep step (exact_of Multiply a b)) (λ w. tt) a b (class_of a) (class_of b)
    (λ x y is_x is_y. (size (magnitude_of a), size (magnitude_of b), both_stand a b x y is_x is_y, refl))
step_describes Divide a b =
    of_quotient (λ step. DescribesStep step (exact_of Divide a b)) (λ w. tt) a b (class_of a) (class_of b)
    (λ x y is_x is_y. (size (magnitude_of a), size (magnitude_of b), both_stand a b x y is_x is_y, refl))
step_describes SquareRoot a b =
    of_root (λ step. DescribesStep step (exact_of SquareRoot a b)) (λ w. tt) a (class_of a)
    (λ x is. (size (magnitude_of a), finite_stands a x is, refl))
step_describes Equal a b = of_comparison (λ step. DescribesStep step (exact_of Equal a b)) (λ w. tt) (class_of a) (class_of b) _
step_describes Less a b = of_comparison (λ step. DescribesStep step (exact_of Less a b)) (λ w. tt) (class_of a) (class_of b) _
step_describes AtMost a b = of_comparison (λ step. DescribesStep step (exact_of AtMost a b)) (λ w. tt) (class_of a) (class_of b) _
