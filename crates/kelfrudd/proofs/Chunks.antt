-- Rows apart, and one after the other in a list.
use Rattle.std.proofs.Common.{◌≡◌, ℕ, zero, suc, ◌+◌, ◌*◌, ◌/◌, ◌<◌, List, [], length, take, drop, get_or, refl, ap, ◌∙◌, arith}
use Rattle.std.proofs.lemmas.List.{drop-drop}
use Rattle.std.specs.Simd.{first_chunks}
use Rattle.kelfrudd.proofs.Ran.{ran_alike}
use Rattle.kelfrudd.specs.Listed.{ran_over, ran_to}
use Rattle.kelfrudd.specs.Rows.{row_of, row_at, ten_at}

chunk_at : (count n : ℕ) (xs : List ℕ) → n < count → get_or (first_chunks 10 count xs) n [] ≡ ten_at xs n
chunk_at zero n xs within = absurd (omega arith)
chunk_at (suc count) zero xs within = refl
chunk_at (suc count) (suc n) xs within =
    let next : 10 + 10 * n ≡ 10 * suc n = omega arith in
    chunk_at count n (drop 10 xs) (omega arith) ∙ ap (take 10) (drop-drop (10 * n) 10 xs ∙ ap (λ at. drop at xs) next)

-- so much comes of the one as of the other
pub ran_chunks : (serial weight : ℕ) (xs : List ℕ) (rows : List (List ℕ)) → rows ≡ first_chunks 10 (length xs / 10) xs → length rows ≡ length xs / 10 →
    ran_over serial weight rows (length rows) ≡ ran_to serial weight xs (length xs / 10)
ran_chunks serial weight xs rows apart count =
    ap (ran_over serial weight rows) count
    ∙ ran_alike serial weight (λ k. row_of (get_or rows k [])) (row_at xs) (length xs / 10)
    (λ k within. ap row_of (ap (λ r. get_or r k []) apart ∙ chunk_at (length xs / 10) k xs within))
