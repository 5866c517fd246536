-- The sizes by their spacing: whole multiples of a power of two, each at most 2^24 times as large as its distance to the
-- size before it.
use Rattle.std.proofs.Common.{◌≡◌, ℕ, suc, ◌+◌, ◌-◌, ◌*◌, ◌/◌, ◌%◌, ◌^◌, ◌<◌, ◌≤◌, ◌⊎◌, sym, ap, ◌∙◌, inl, inr, mul-le-mul_right, arith}
use native.Mathlib.Nat.{pow-succ'}
use Rattle.std.proofs.lemmas.Bool.{cases_eq, cases_lt}
use Rattle.binary32.specs.Sizes.{size}
use Rattle.binary32.proofs.Sizes.{size_small, size_large}

size_normal : (U j : ℕ) → 2 ^ 23 ≤ j → j < 2 ^ 24 → size (U * 2 ^ 23 + j) ≡ j * 2 ^ U
size_normal U j high low =
    let m = U * 2 ^ 23 + j in
    let field : m / 2 ^ 23 ≡ suc U = omega arith in
    let fraction : 2 ^ 23 + m % 2 ^ 23 ≡ j = omega arith in
    let power : m / 2 ^ 23 - 1 ≡ U = omega arith in
    size_large m (omega arith) ∙ rw (fraction, power)

pub size_spaced : (U j : ℕ) → j ≤ 2 ^ 24 → (U ≡ 0) ⊎ (2 ^ 23 ≤ j) → size (U * 2 ^ 23 + j) ≡ j * 2 ^ U
size_spaced U j within normal =
    elim (cases_lt j (2 ^ 23)) [
      | inl low ↦
          let none : U ≡ 0 = omega arith in
          let whole : (U * 2 ^ 23 + j) % 2 ^ 23 ≡ j * 2 ^ 0 = omega arith in
          size_small (U * 2 ^ 23 + j) (omega arith) ∙ whole ∙ ap (λ n. j * 2 ^ n) (sym none)
      | inr high ↦
          elim (cases_eq j (2 ^ 24)) [
            | inr other ↦ size_normal U j high (omega arith)
            | inl next ↦
                let moved : U * 2 ^ 23 + j ≡ suc U * 2 ^ 23 + 2 ^ 23 = omega arith in
                rw (moved, size_normal (suc U) (2 ^ 23) (omega arith) (omega arith), next, pow-succ' 2 U) (omega arith)
          ]
    ]

pub size_apart : (c : ℕ) → 2 ^ 24 * size c + size (suc c) ≤ 2 ^ 24 * size (suc c)
size_apart c =
    let U = c / 2 ^ 23 - 1 in
    let j = c - U * 2 ^ 23 in
    let low : suc j ≤ 2 ^ 24 = omega arith in
    let normal : (U ≡ 0) ⊎ (2 ^ 23 ≤ j) = elim (cases_lt (c / 2 ^ 23) 1) [ inl none ↦ inl (omega arith) | inr some ↦ inr (omega arith) ] in
    let normal' : (U ≡ 0) ⊎ (2 ^ 23 ≤ suc j) = elim normal [ inl none ↦ inl none | inr high ↦ inr (omega arith) ] in
    let same : U * 2 ^ 23 + j ≡ c = omega arith in
    let same' : U * 2 ^ 23 + suc j ≡ suc c = omega arith in
    let here : size c ≡ j * 2 ^ U = ap size (sym same) ∙ size_spaced U j (omega arith) normal in
    let next : size (suc c) ≡ suc j * 2 ^ U = ap size (sym same') ∙ size_spaced U (suc j) low normal' in
    rw (here, next) (omega (arith, mul-le-mul_right (2 ^ U) low))
