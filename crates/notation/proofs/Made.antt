-- An array made by a function of the index that leaves what it captures as it was.
use Rattle.std.proofs.Common.{◌≡◌, ℕ, suc, zero, ◌+◌, ◌<◌, ◌≤◌, List, map, get_or, sym, ap, ◌∙◌, subst, ⊎_elim, arith}
use denote.Param.Members.{Mut}
use Rattle.std.specs.Fn.{Called}
use Rattle.std.specs.Array.{IsFromFnResultFrom, IsFromFnResult}
use Rattle.std.specs.List.{range_with_len}
use Rattle.std.proofs.lemmas.List.FromFn.{fill_by_all}
use Rattle.std.proofs.str.Laws.{order}

module _ {F : Type 0} (g : Mut F (ℕ × Unit {0}) ℕ) (f : F) (ys : List ℕ) (h : ℕ → ℕ) (end : ℕ)
    (gives : (k y : ℕ) (q : F) → k < end → Called g f (k, tt) y q → (q ≡ f) × (y ≡ h k)) where
  at_each : (i n : ℕ) → i + n ≡ end → IsFromFnResultFrom g f ys i n → (k : ℕ) → i ≤ k → k < end → get_or ys k 0 ≡ h k
  at_each i zero ends made k from below = absurd (omega arith)
  at_each i (suc n) ends made k from below =
      let here = gives i made.1 made.0 (omega arith) made.3 in
      ⊎_elim
      (λ later. at_each (i + 1) n (omega arith) (subst (λ (q : F). IsFromFnResultFrom g q ys (i + 1) n) here.0 made.4) k (omega arith) below)
      (λ not_later. let same : k ≡ i = omega arith in ap (λ j. get_or ys j 0) same ∙ made.2.1 0 ∙ here.1 ∙ ap h (sym same))
      (order i k)

  pub made_is : IsFromFnResult g f ys end → ys ≡ map h (range_with_len 0 end)
  made_is made = fill_by_all h ys end 0 made.long (λ k below. at_each 0 end (omega arith) made.each k (omega arith) below)
