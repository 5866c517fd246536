-- The state of each cell of a table after it was changed.
use Rattle.std.proofs.Common.{◌≡◌, ℕ, ◌<◌, Bool, true, false, cond, eqb, ltb, map, length, get_or, set, replicate, refl, ap, ◌∙◌, arith}
use Rattle.std.proofs.lemmas.List.{get_or-set_same, get_or-set_other, get_or-map, get_or-replicate}
use Rattle.std.proofs.lemmas.Bool.{cond_both, cond-true, cond-false, lt-ltb, ltb-true, eqb-true, eqb-false}
use Rattle.binary32.specs.declared.operation.Operation.{Operation}
use Rattle.binary32.specs.declared.word.Word.{Word}
use Rattle.sheet.specs.Cells.{cell_of, closed_cell, closed_state}
use Rattle.sheet.specs.Tables.{empty_table, state_at, closed_table}
use Rattle.sheet.specs.declared.cell.State.{State}
use Rattle.sheet.specs.declared.cell.State.TheVariants.{Free, Pending}
use Rattle.sheet.specs.declared.table.Table.{Table}

-- a function may be applied before or after a choice
pub after_cond : {A B : Type 0} (f : A → B) (b : Bool) (x y : A) → f (cond b x y) ≡ cond b (f x) (f y)
after_cond f true x y = refl
after_cond f false x y = refl

pub empty_free : (n : ℕ) → state_at empty_table n ≡ Free
empty_free n =
    cond_both (ltb n 256) (get_or (replicate 256 (cell_of Free)) n (cell_of Free)).state Free (λ s. s ≡ Free)
    (λ within. ap (λ c. c.state) (get_or-replicate 256 n (cell_of Free) (cell_of Free) (ltb-true n 256 within))) (λ beyond. refl)

-- one cell is changed, the others are as they were
pub state_set : (t : Table) (k taken n : ℕ) (x : State) → k < 256 → length t.cells ≡ 256 →
    state_at (record { cells = set t.cells k (cell_of x); taken = taken }) n ≡ cond (eqb n k) x (state_at t n)
state_set t k taken n x within long =
    cond_both (eqb n k) x (state_at t n) (λ s. state_at (record { cells = set t.cells k (cell_of x); taken = taken }) n ≡ s)
    (λ here.
    let is : n ≡ k = eqb-true n k here in
    let n_within : n < 256 = omega arith in
    cond-true (ltb n 256) (get_or (set t.cells k (cell_of x)) n (cell_of Free)).state Free (lt-ltb n 256 n_within)
    ∙ ap (λ j. (get_or (set t.cells k (cell_of x)) j (cell_of Free)).state) is
    ∙ ap (λ c. c.state) (get_or-set_same t.cells k (cell_of x) (cell_of Free) (omega arith)))
    (λ elsewhere.
    ap (λ c. cond (ltb n 256) c.state Free) (get_or-set_other t.cells k n (cell_of x) (cell_of Free) (eqb-false n k elsewhere)))

pub state_closed : (t : Table) (n : ℕ) → length t.cells ≡ 256 → state_at (closed_table t) n ≡ closed_state (state_at t n)
state_closed t n long =
    cond_both (ltb n 256) (get_or t.cells n (cell_of Free)).state Free
    (λ s. state_at (closed_table t) n ≡ closed_state s)
    (λ within.
    cond-true (ltb n 256) (get_or (map closed_cell t.cells) n (cell_of Free)).state Free within
    ∙ ap (λ c. c.state) (get_or-map closed_cell t.cells n (cell_of Free) (cell_of Free) (omega (arith, ltb-true n 256 within))))
    (λ beyond. cond-false (ltb n 256) (get_or (map closed_cell t.cells) n (cell_of Free)).state Free beyond)

-- a cell that is pending is one of the table
pub pending_within : (t : Table) (n : ℕ) (op : Operation) (first second : ℕ) (word : Word) → state_at t n ≡ Pending op first second word → n < 256
pending_within t n op first second word is =
    cond_both (ltb n 256) (get_or t.cells n (cell_of Free)).state Free (λ s. s ≡ Pending op first second word → n < 256)
    (λ within found. ltb-true n 256 within) (λ beyond found. cc) is
