-- The normal form of a finite nonzero word: its bounds, and that it stands for the word's size.
use Rattle.std.proofs.Common.{◌≡◌, ℕ, ◌+◌, ◌-◌, ◌*◌, ◌/◌, ◌%◌, ◌^◌, ◌<◌, ◌≤◌, sym, ap, ◌∙◌, inl, inr, mul_assoc, arith, pow-add}
use lib.Count.{count_leading_zeros, leading_top}
use Rattle.std.proofs.lemmas.Bool.{eq-eqb, ne_eqb, cases_eq}
use Rattle.binary32.specs.Words.{field_of, fraction_of, magnitude_of, class_of, class_with}
use Rattle.binary32.specs.Sizes.{size}
pub use Rattle.binary32.specs.Normal.{Stands, Sized}
use Rattle.binary32.specs.Normal.{Normalized}
use Rattle.binary32.specs.declared.word.NormalForm.{NormalForm}
use Rattle.binary32.proofs.Sizes.{size_small, size_large}
use Rattle.binary32.proofs.Zeros.{lifted_below, lifted_top}

-- a subnormal's fraction moved up, the exponent lowered alike
subnormal : ℕ → NormalForm
subnormal F = record { significand = F * 2 ^ count_leading_zeros 24 F; exponent = 23 - count_leading_zeros 24 F }

module _ (F : ℕ) (some : 0 < F) (fits : F < 2 ^ 23) where
  few_zeros : count_leading_zeros 24 F ≤ 23
  few_zeros = omega (arith, (leading_top 24 F some (omega arith)).1)

  subnormal_normalized : Normalized (subnormal F)
  unfolding subnormal
  subnormal_normalized =
      let fits' : F < 2 ^ 24 = omega arith in
      record {
        low = omega (arith, lifted_top 24 F some fits');
        high = lifted_below 24 F some fits';
        bounded = omega arith;
      }

  subnormal_stands : Stands (subnormal F) F
  unfolding subnormal
  subnormal_stands =
      let z = count_leading_zeros 24 F in
      let sum : z + (23 - z) ≡ 23 = omega (arith, few_zeros) in
      let whole : 2 ^ z * 2 ^ (23 - z) ≡ 2 ^ 23 = sym (pow-add 2 z (23 - z)) ∙ ap (λ n. 2 ^ n) sum in
      ap (λ n. F * n) (sym whole) ∙ sym (mul_assoc F (2 ^ z) (2 ^ (23 - z)))

usual : ℕ → ℕ → NormalForm
usual E F = record { significand = 2 ^ 23 + F; exponent = E + 22 }

module _ (E F : ℕ) (some : 0 < E) (low : E < 255) (fits : F < 2 ^ 23) where
  usual_normalized : Normalized (usual E F)
  unfolding usual
  usual_normalized = record { low = omega arith; high = omega arith; bounded = omega arith }

  usual_stands : Stands (usual E F) ((2 ^ 23 + F) * 2 ^ (E - 1))
  unfolding usual
  usual_stands =
      let whole : 2 ^ (E - 1) * 2 ^ 23 ≡ 2 ^ (E + 22) = sym (pow-add 2 (E - 1) 23) ∙ ap (λ n. 2 ^ n) (omega arith) in
      mul_assoc (2 ^ 23 + F) (2 ^ (E - 1)) (2 ^ 23) ∙ ap (λ n. (2 ^ 23 + F) * n) whole

-- what a class says of a magnitude with the field E and the fraction F
class_sized : (E F m : ℕ) → E < 256 → F < 2 ^ 23 → m / 2 ^ 23 ≡ E → m % 2 ^ 23 ≡ F → Sized (class_with E F) (size m)
unfolding subnormal usual
class_sized E F m narrow fits field fraction =
    elim (cases_eq E 255) [
      | inl top ↦
          let whole = eq-eqb E 255 top in
          elim (cases_eq F 0) [
            | inl none ↦ let e = eq-eqb F 0 none in rw (whole, e) tt
            | inr some ↦ let e = ne_eqb F 0 some in rw (whole, e) tt
          ]
      | inr below ↦
          let part = ne_eqb E 255 below in
          elim (cases_eq E 0) [
            | inl low ↦
                let zero = eq-eqb E 0 low in
                elim (cases_eq F 0) [
                  | inl none ↦ let e = eq-eqb F 0 none in rw (part, zero, e) (size_small m (field ∙ low) ∙ fraction ∙ none)
                  | inr some ↦
                      let e = ne_eqb F 0 some in
                      let positive : 0 < F = omega arith in
                      let is : size m ≡ F = size_small m (field ∙ low) ∙ fraction in
                      rw (part, zero, e, is) (subnormal_normalized F positive fits, subnormal_stands F positive fits)
                ]
            | inr high ↦
                let other = ne_eqb E 0 high in
                let positive : 0 < E = omega arith in
                let is : size m ≡ (2 ^ 23 + F) * 2 ^ (E - 1) = rw (← field, ← fraction) (size_large m (omega arith)) in
                rw (part, other, is) (usual_normalized E F positive (omega arith) fits, usual_stands E F positive (omega arith) fits)
          ]
    ]

-- a finite nonzero word has a normal form, which stands for its size
pub class_stands : (w : ℕ) → Sized (class_of w) (size (magnitude_of w))
class_stands w = class_sized (field_of w) (fraction_of w) (magnitude_of w) (omega arith) (omega arith) (omega arith) (omega arith)
