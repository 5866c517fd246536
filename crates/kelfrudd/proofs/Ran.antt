-- A list of rows, row by row.
use Rattle.std.proofs.Common.{◌≡◌, ℕ, zero, suc, ◌+◌, ◌-◌, ◌≤◌, ◌<◌, Ok, Err, sym, refl, ap, ◌∙◌, subst, add-zero, add-suc, add-one, arith, Result}
use Rattle.sheet.specs.Calls.{Model, opened}
use Rattle.kelfrudd.specs.Listed.{next_row, ran_by, unless_refused, stop_for}
use Rattle.kelfrudd.specs.Rows.{taken_reply, taken_after}
use Rattle.kelfrudd.specs.declared.listed.Stop.{Stop}
use Rattle.kelfrudd.specs.declared.refusal.Refusal.{Refusal}
use Rattle.kelfrudd.specs.declared.row.Row.{Row}

module _ (serial weight : ℕ) (row : ℕ → Result Row Refusal) where
  pub ran_none : ran_by serial weight row 0 ≡ Ok (opened serial weight)
  unfolding ran_by
  ran_none = refl

  next_is : (n : ℕ) → ran_by serial weight row (suc n) ≡ next_row (ran_by serial weight row n) n (row n)
  unfolding ran_by
  next_is n = refl

  -- one row more, from the sheet that the rows before it leave
  ran_next : (n : ℕ) (m : Model) → Ok m ≡ ran_by serial weight row n →
      ran_by serial weight row (n + 1) ≡ unless_refused n (taken_reply m (row n)) (taken_after m (row n))
  ran_next n m so_far =
      ap (ran_by serial weight row) (add-one n) ∙ next_is n ∙ ap (λ p. next_row p n (row n)) (sym so_far)

  pub ran_on : (n cell : ℕ) (m after : Model) → Ok m ≡ ran_by serial weight row n →
      Ok cell ≡ taken_reply m (row n) → after ≡ taken_after m (row n) → Ok after ≡ ran_by serial weight row (n + 1)
  ran_on n cell m after so_far taken is_after =
      ap (λ x. Ok x) is_after ∙ ap (λ r. unless_refused n r (taken_after m (row n))) taken ∙ sym (ran_next n m so_far)

  -- a list that is stopped stays so
  past : (n : ℕ) (stop : Stop) → ran_by serial weight row n ≡ Err stop → (k : ℕ) → ran_by serial weight row (n + k) ≡ Err stop
  past n stop stopped zero = ap (ran_by serial weight row) (add-zero n) ∙ stopped
  past n stop stopped (suc k) =
      ap (ran_by serial weight row) (add-suc n k) ∙ next_is (n + k) ∙ ap (λ p. next_row p (n + k) (row (n + k))) (past n stop stopped k)

  pub ran_stopped : (n count : ℕ) (m : Model) (r : Refusal) → n + 1 ≤ count → Ok m ≡ ran_by serial weight row n →
      Err r ≡ taken_reply m (row n) → ran_by serial weight row count ≡ Err (stop_for n r)
  ran_stopped n count m r within so_far refused =
      let here : ran_by serial weight row (n + 1) ≡ Err (stop_for n r) = ran_next n m so_far ∙ ap (λ r. unless_refused n r (taken_after m (row n))) (sym refused) in
      let whole : (n + 1) + (count - (n + 1)) ≡ count = omega arith in
      subst (λ c. ran_by serial weight row c ≡ Err (stop_for n r)) whole (past (n + 1) (stop_for n r) here (count - (n + 1)))

-- what comes of a list is by its rows alone
pub ran_alike : (serial weight : ℕ) (row other : ℕ → Result Row Refusal) (n : ℕ) → ((k : ℕ) → k < n → row k ≡ other k) →
    ran_by serial weight row n ≡ ran_by serial weight other n
unfolding ran_by
ran_alike serial weight row other zero same = refl
ran_alike serial weight row other (suc n) same =
    ap (λ p. next_row p n (row n)) (ran_alike serial weight row other n (λ k within. same k (omega arith)))
    ∙ ap (next_row (ran_by serial weight other n) n) (same n (omega arith))
