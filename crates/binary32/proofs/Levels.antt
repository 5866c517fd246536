-- Words that are no NaN stand in the same order by rank as by value.
use Rattle.std.proofs.Common.{◌≡◌, ℕ, ◌+◌, ◌-◌, ◌^◌, ◌<◌, ◌≤◌, Bool, true, false, cond, eqb, ltb, sym, refl, ap, ◌∙◌, inl, inr, arith}
use Rattle.std.specs.Ordering.{nat_cmp}
use Rattle.std.proofs.lemmas.Bool.{lt-ltb, le-ltb, eq-eqb, ne_eqb, cases_order, cases_eq, cases_lt, true≢false}
use Rattle.binary32.specs.Words.{sign_bit, magnitude_of, field_of, fraction_of, class_of, is_nan}
use Rattle.binary32.specs.Sizes.{size, level, rank_of}
use Rattle.binary32.proofs.Sizes.{size_rises}

-- the highest magnitude that is no NaN
abbrev top : ℕ
top = 0x7f800000

size_zero : size 0 ≡ 0
unfolding size
size_zero = refl

size_top : size top ≡ 2 ^ 277
unfolding size
size_top = refl

pub size_at_most : (m : ℕ) → m ≤ top → size m ≤ 2 ^ 277
size_at_most m within =
    elim (cases_eq m top) [
      | inl same ↦ rw same (omega (arith, size_top))
      | inr other ↦ omega (arith, size_rises m top (omega arith), size_top)
    ]

abbrev signed : ℕ → Bool → ℕ → ℕ
signed middle negative n = cond negative (middle - n) (middle + n)

above_zero : (m : ℕ) → 0 < m → 0 < size m
above_zero m some = omega (arith, size_rises 0 m some, size_zero)

rank_rises : (s t : Bool) (m n : ℕ) → m ≤ top → n ≤ top → signed (2 ^ 31) s m < signed (2 ^ 31) t n →
    signed (2 ^ 277) s (size m) < signed (2 ^ 277) t (size n)
rank_rises false false m n fits fits' less = omega (arith, size_rises m n (omega arith))
rank_rises true true m n fits fits' less = omega (arith, size_rises n m (omega arith), size_at_most m fits)
rank_rises false true m n fits fits' less = absurd (omega arith)
rank_rises true false m n fits fits' less =
    elim (cases_eq m 0) [
      | inl none ↦ omega (arith, above_zero n (omega arith), size_at_most m fits)
      | inr some ↦ omega (arith, above_zero m (omega arith), size_at_most m fits)
    ]

rank_fixes : (s t : Bool) (m n : ℕ) → m ≤ top → n ≤ top → signed (2 ^ 31) s m ≡ signed (2 ^ 31) t n →
    signed (2 ^ 277) s (size m) ≡ signed (2 ^ 277) t (size n)
rank_fixes false false m n fits fits' same = ap (λ k. 2 ^ 277 + size k) (omega arith)
rank_fixes true true m n fits fits' same = ap (λ k. 2 ^ 277 - size k) (omega arith)
rank_fixes false true m n fits fits' same =
    let none : m ≡ 0 = omega arith in
    let none' : n ≡ 0 = omega arith in
    rw (none, none', size_zero)
rank_fixes true false m n fits fits' same =
    let none : m ≡ 0 = omega arith in
    let none' : n ≡ 0 = omega arith in
    rw (none, none', size_zero)

-- a NaN is a word with a magnitude above that of infinity
pub plain_magnitude : (w : ℕ) → is_nan (class_of w) ≡ false → magnitude_of w ≤ top
plain_magnitude w plain =
    elim (cases_lt top (magnitude_of w)) [
      | inr within ↦ within
      | inl above ↦
          let field : field_of w ≡ 255 = omega arith in
          let some : fraction_of w ≡ 0 → ⊥ = omega arith in
          let whole = eq-eqb (field_of w) 255 field in
          let part = ne_eqb (fraction_of w) 0 some in
          absurd (true≢false (rw (whole, part) at plain))
    ]

module _ (a b : ℕ) (plain_a : is_nan (class_of a) ≡ false) (plain_b : is_nan (class_of b) ≡ false) where
  less : rank_of a < rank_of b → level a < level b
  less = rank_rises (sign_bit a) (sign_bit b) (magnitude_of a) (magnitude_of b) (plain_magnitude a plain_a) (plain_magnitude b plain_b)

  more : rank_of b < rank_of a → level b < level a
  more = rank_rises (sign_bit b) (sign_bit a) (magnitude_of b) (magnitude_of a) (plain_magnitude b plain_b) (plain_magnitude a plain_a)

  same : rank_of a ≡ rank_of b → level a ≡ level b
  same = rank_fixes (sign_bit a) (sign_bit b) (magnitude_of a) (magnitude_of b) (plain_magnitude a plain_a) (plain_magnitude b plain_b)

  pub rank_less : ltb (rank_of a) (rank_of b) ≡ ltb (level a) (level b)
  rank_less =
      elim (cases_order (rank_of a) (rank_of b)) [
        | inl e ↦ le-ltb _ _ (omega arith) ∙ sym (le-ltb (level a) (level b) (omega (arith, same e)))
        | inr (inl h) ↦ lt-ltb _ _ h ∙ sym (lt-ltb (level a) (level b) (less h))
        | inr (inr h) ↦ le-ltb _ _ (omega arith) ∙ sym (le-ltb (level a) (level b) (omega (arith, more h)))
      ]

  pub rank_same : eqb (rank_of a) (rank_of b) ≡ eqb (level a) (level b)
  rank_same =
      elim (cases_order (rank_of a) (rank_of b)) [
        | inl e ↦ eq-eqb _ _ e ∙ sym (eq-eqb (level a) (level b) (same e))
        | inr (inl h) ↦ ne_eqb _ _ (omega arith) ∙ sym (ne_eqb (level a) (level b) (omega (arith, less h)))
        | inr (inr h) ↦ ne_eqb _ _ (omega arith) ∙ sym (ne_eqb (level a) (level b) (omega (arith, more h)))
      ]

  pub rank_order : nat_cmp (rank_of a) (rank_of b) ≡ nat_cmp (level a) (level b)
  rank_order = rw (rank_less, rank_same)
