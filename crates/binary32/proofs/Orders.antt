-- What the order of two words says of a comparison.
use Rattle.std.specs.Ordering.{nat_cmp, is_eq, is_lt, is_le}
use Rattle.std.proofs.Common.{◌≡◌, ℕ, false, ◌||◌, eqb, ltb, refl, inl, inr, arith}
use Rattle.std.proofs.lemmas.Bool.{lt-ltb, le-ltb, eq-eqb, ne_eqb, cases_order}
use Rattle.binary32.specs.Words.{is_nan}
use Rattle.binary32.specs.declared.word.Class.{Class}
use Rattle.binary32.specs.declared.word.Class.TheVariants.{Nan, Infinity, Zero, Finite}

-- a class that is no NaN's
pub plain_class : (p : Class) → (p ≡ Nan → ⊥) → is_nan p ≡ false
plain_class Nan other = absurd (other refl)
plain_class Infinity other = refl
plain_class Zero other = refl
plain_class (Finite n) other = refl

-- what the order of two numbers says
pub cmp_eq : (m n : ℕ) → is_eq (nat_cmp m n) ≡ eqb m n
cmp_eq m n =
    elim (cases_order m n) [
      | inl e ↦ rw (le-ltb m n (omega arith), eq-eqb m n e)
      | inr (inl h) ↦ rw (lt-ltb m n h, ne_eqb m n (omega arith))
      | inr (inr h) ↦ rw (le-ltb m n (omega arith), ne_eqb m n (omega arith))
    ]

pub cmp_lt : (m n : ℕ) → is_lt (nat_cmp m n) ≡ ltb m n
cmp_lt m n =
    elim (cases_order m n) [
      | inl e ↦ rw (le-ltb m n (omega arith), eq-eqb m n e)
      | inr (inl h) ↦ rw (lt-ltb m n h)
      | inr (inr h) ↦ rw (le-ltb m n (omega arith), ne_eqb m n (omega arith))
    ]

pub cmp_le : (m n : ℕ) → is_le (nat_cmp m n) ≡ ltb m n || eqb m n
cmp_le m n =
    elim (cases_order m n) [
      | inl e ↦ rw (le-ltb m n (omega arith), eq-eqb m n e)
      | inr (inl h) ↦ rw (lt-ltb m n h)
      | inr (inr h) ↦ rw (le-ltb m n (omega arith), ne_eqb m n (omega arith))
    ]
