-- One record only backs a step: main and rest by the first equation, the lift by main's binade, keep and drop by the cut.
use Rattle.std.proofs.Common.{◌≡◌, ℕ, ◌+◌, ◌-◌, ◌*◌, ◌/◌, ◌%◌, ◌^◌, ◌<◌, ◌≤◌, sym, ap, ◌∙◌, inl, inr, arith, pow_mono}
use lib.Arith.{digits_div, digits_mod}
use Rattle.std.proofs.lemmas.Bool.{cases_order}
use Rattle.hints.specs.Scheme.{cut_of}
use Rattle.hints.specs.Backs.{rest_limit, FirstEquation, Backs}
use Rattle.hints.specs.declared.setting.Setting.{Setting}
use Rattle.hints.specs.declared.setting.Kind.{Kind}
use Rattle.hints.specs.declared.setting.Kind.TheVariants.{Sum, Difference, Product, Quotient, Root}
use Rattle.hints.specs.declared.writer.Written.{Written}
use Rattle.hints.proofs.Roots.{IsRoot, root_unique}

-- two pairs with one quotient and remainder are equal
euclid_unique : (m q r p s : ℕ) → r < m → s < m → q * m + r ≡ p * m + s → (q ≡ p) × (r ≡ s)
euclid_unique m q r p s small small' same =
    (sym (digits_div q small) ∙ ap (λ n. n / m) same ∙ digits_div p small', sym (digits_mod q small) ∙ ap (λ n. n % m) same ∙ digits_mod p small')

solution_is_root : (n main rest : ℕ) → n ≡ main * main + rest → rest < 2 * main + 1 → IsRoot n main
solution_is_root n main rest equation width = record { below = omega arith; above = omega arith }

principal_unique : (k : Kind) (first second shift main rest main' rest' : ℕ) →
    FirstEquation k first second shift main rest → rest < rest_limit k second main →
    FirstEquation k first second shift main' rest' → rest' < rest_limit k second main' → (main ≡ main') × (rest ≡ rest')
principal_unique Sum first second shift main rest main' rest' equation width equation' width' = (omega arith, omega arith)
principal_unique Difference first second shift main rest main' rest' equation width equation' width' = (omega arith, omega arith)
principal_unique Product first second shift main rest main' rest' equation width equation' width' = (omega arith, omega arith)
principal_unique Quotient first second shift main rest main' rest' equation width equation' width' =
    euclid_unique second main rest main' rest' width width' (sym equation ∙ equation')
principal_unique Root first second shift main rest main' rest' equation width equation' width' =
    let n = first * 2 ^ shift in
    let same : main ≡ main' =
    root_unique n main main' (solution_is_root n main rest equation width) (solution_is_root n main' rest' equation' width') in
    let squares : main * main ≡ main' * main' = ap (λ m. m * m) same in
    (same, omega arith)

-- a number lies in one binade only
lift_unique : (main l m : ℕ) → l ≤ 50 → m ≤ 50 → 2 ^ (50 - l) ≤ main → main < 2 ^ (51 - l) → 2 ^ (50 - m) ≤ main → main < 2 ^ (51 - m) → l ≡ m
lift_unique main l m l_fits m_fits l_low l_high m_low m_high =
    elim (cases_order l m) [
      | inl same ↦ same
      | inr (inl less) ↦ absurd (omega (arith, pow_mono {i = 51 - m} {j = 50 - l} (omega arith)))
      | inr (inr more) ↦ absurd (omega (arith, pow_mono {i = 51 - l} {j = 50 - m} (omega arith)))
    ]

pub backs_unique : (σ : Setting) (v w : Written) → Backs σ v → Backs σ w → v ≡ w
backs_unique σ v w backs_v backs_w =
    let S = σ.scale in
    let h = v.hints in
    let g = w.hints in
    let principal = principal_unique σ.kind σ.first σ.second σ.shift h.main h.rest g.main g.rest
    backs_v.first_balance backs_v.rest_width backs_w.first_balance backs_w.rest_width in
    let main_same = principal.0 in
    let rest_same = principal.1 in
    let low : 2 ^ (50 - g.lift) ≤ h.main = rw main_same backs_w.lift_low in
    let high : h.main < 2 ^ (51 - g.lift) = rw main_same backs_w.lift_high in
    let lift_same : h.lift ≡ g.lift =
    lift_unique h.main h.lift g.lift backs_v.lift_width backs_w.lift_width backs_v.lift_low backs_v.lift_high low high in
    let k_same : cut_of S h.lift ≡ cut_of S g.lift = ap (cut_of S) lift_same in
    let product_same : h.main * 2 ^ h.lift ≡ g.main * 2 ^ g.lift = rw (main_same, lift_same) in
    let drop_small : h.drop < 2 ^ cut_of S g.lift = rw (← lift_same) backs_v.drop_width in
    let equal : h.keep * 2 ^ cut_of S g.lift + h.drop ≡ g.keep * 2 ^ cut_of S g.lift + g.drop =
    ap (λ k. h.keep * 2 ^ k + h.drop) (sym k_same) ∙ sym backs_v.second_balance ∙ product_same ∙ backs_w.second_balance in
    let parts = euclid_unique (2 ^ cut_of S g.lift) h.keep h.drop g.keep g.drop drop_small backs_w.drop_width equal in
    let keep_same = parts.0 in
    let drop_same = parts.1 in
    let up_same : h.up ≡ g.up =
    backs_v.up_rule ∙ rw (lift_same, rest_same, keep_same, drop_same) (sym backs_w.up_rule) in
    let word_same : v.word.bits ≡ w.word.bits =
    backs_v.word_is ∙ rw (lift_same, keep_same, up_same) (sym backs_w.word_is) in
    λ i. record {
      word = record { bits = word_same i };
      hints = record { main = main_same i; rest = rest_same i; lift = lift_same i; keep = keep_same i; drop = drop_same i; up = up_same i };
    }
