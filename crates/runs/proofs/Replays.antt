-- The loops of a replay, and what its answers say.
use Rattle.std.proofs.Common.{◌≡◌, ℕ, suc, true, List, [], ◌∷◌, ◌++◌, map, length, is_err, Some, None, Ok, Err, vec_items, Option, Result, sym, refl, ap, ◌∙◌, subst}
use Rattle.std.proofs.lemmas.List.{length-map}
use Rattle.std.specs.declared.alloc.AllocError.{AllocError}
use Rattle.sheet.specs.Calls.{Model, cells_of, close_after, opened}
use Rattle.runs.proofs.Passes.{honest}
use Rattle.runs.proofs.Reaches.{binding}
use Rattle.runs.specs.Histories.{History, on_open, close, on_closed}
use Rattle.runs.specs.Law.{Law}
use Rattle.runs.specs.Met.{replies, answers_from, after_all, closed_answers, later_answers}
use Rattle.runs.specs.Replies.{open_reply, closed_reply}
use Rattle.runs.specs.Rooms.{count_of}
use Rattle.runs.specs.Runs.{Alike, LawOfRuns, Obeys, history_of, met, met_closed, unnumbered}
use Rattle.runs.specs.Sheets.{Reached, is_open, is_closed, open_after}
use Rattle.runs.specs.declared.answer.ClosedAnswer.{ClosedAnswer}
use Rattle.runs.specs.declared.call.ClosedCall.{ClosedCall}
use Rattle.runs.specs.declared.call.ClosedCall.TheVariants as ClosedCalls
use Rattle.runs.specs.declared.call.OpenCall.{OpenCall}
use Rattle.runs.specs.declared.run.Answers.{Answers}
use Rattle.runs.specs.declared.run.Replayed.{Replayed}

-- nothing alters a closed sheet, so that each call on it meets the same
unaltered : (modulus : ℕ) (m : Model) (calls : List ClosedCall) →
    replies (λ k c. closed_reply modulus k.weight (cells_of k) c) (λ k _. k) m calls ≡ closed_answers modulus m calls
unaltered modulus m [] = refl
unaltered modulus m (c ∷ cs) = ap (λ rest. closed_reply modulus m.weight (cells_of m) c ∷ rest) (unaltered modulus m cs)

-- each call has its answer
answers_length : (m : Model) (calls : List OpenCall) → length (answers_from m calls) ≡ length calls
answers_length m [] = refl
answers_length m (c ∷ cs) = ap suc (answers_length (open_after m c) cs)

-- the history of the answers is one that the calls allow
module _ (serial weight modulus : ℕ) where
  reached_met : (h : History) (m : Model) → Reached serial weight modulus h (is_open m) → (calls : List OpenCall) →
      Reached serial weight modulus (met h calls (answers_from m calls)) (is_open (after_all m calls))
  reached_met h m reached [] = reached
  reached_met h m reached (c ∷ cs) =
      reached_met (on_open c (open_reply m.serial (cells_of m) c) ∷ h) (open_after m c) (is_open m, reached, (refl, refl)) cs

  reached_closed : (h : History) (m : Model) → Reached serial weight modulus h (is_closed m) → (calls : List ClosedCall) →
      Reached serial weight modulus (met_closed h calls (closed_answers modulus m calls)) (is_closed m)
  reached_closed h m reached [] = reached
  reached_closed h m reached (c ∷ cs) =
      reached_closed (on_closed c (closed_reply modulus m.weight (cells_of m) c) ∷ h) m (is_closed m, reached, (refl, refl)) cs

  law_met : (calls : List OpenCall) (closed : Option (List ClosedCall)) →
      Law serial weight modulus (history_of calls closed (answers_from (opened serial weight) calls) (later_answers modulus (after_all (opened serial weight) calls) closed))
  law_met calls None = binding serial weight modulus _ _ (reached_met [] (opened serial weight) refl calls)
  law_met calls (Some cs) =
      let m = after_all (opened serial weight) calls in
      let before = reached_met [] (opened serial weight) refl calls in
      binding serial weight modulus _ _ (reached_closed (close ∷ met [] calls (answers_from (opened serial weight) calls)) (close_after m) (is_open m, before, refl) cs)

  later_length : (m : Model) (closed : Option (List ClosedCall)) → length (later_answers modulus m closed) ≡ count_of closed
  later_length m None = refl
  later_length m (Some cs) = length-map cs (closed_reply modulus m.weight (cells_of (close_after m)))

  pub obeys : (calls : List OpenCall) (closed : Option (List ClosedCall)) (r : Answers) →
      vec_items r.opened ≡ answers_from (opened serial weight) calls →
      vec_items r.closed ≡ later_answers modulus (after_all (opened serial weight) calls) closed → Obeys serial weight modulus calls closed r
  obeys calls closed r opened_are closed_are = record {
    each = ap length opened_are ∙ answers_length (opened serial weight) calls;
    each_closed = ap length closed_are ∙ later_length (after_all (opened serial weight) calls) closed;
    law = subst (λ as_opened. Law serial weight modulus (history_of calls closed as_opened (vec_items r.closed))) (sym opened_are)
        (subst (λ as_closed. Law serial weight modulus (history_of calls closed (answers_from (opened serial weight) calls) as_closed)) (sym closed_are) (law_met calls closed));
  }

-- the modulus shows in closing numbers alone
alike_call : (modulus other : ℕ) (m : Model) (c : ClosedCall) →
    unnumbered (closed_reply modulus m.weight (cells_of m) c) ≡ unnumbered (closed_reply other m.weight (cells_of m) c)
alike_call modulus other m (ClosedCalls.Read cell) = refl
alike_call modulus other m ClosedCalls.ClosingNumber = refl
alike_call modulus other m (ClosedCalls.HandIn t) = refl

alike_closed : (modulus other : ℕ) (m : Model) (cs : List ClosedCall) →
    map unnumbered (closed_answers modulus m cs) ≡ map unnumbered (closed_answers other m cs)
alike_closed modulus other m [] = refl
alike_closed modulus other m (c ∷ cs) =
    ap (λ a. a ∷ map unnumbered (closed_answers modulus m cs)) (alike_call modulus other m c)
    ∙ ap (λ rest. unnumbered (closed_reply other m.weight (cells_of m) c) ∷ rest) (alike_closed modulus other m cs)

alike_later : (modulus other : ℕ) (m : Model) (closed : Option (List ClosedCall)) →
    map unnumbered (later_answers modulus m closed) ≡ map unnumbered (later_answers other m closed)
alike_later modulus other m None = refl
alike_later modulus other m (Some cs) = alike_closed modulus other (close_after m) cs

pub alike : (modulus other : ℕ) (m : Model) (calls : List OpenCall) (closed : Option (List ClosedCall)) (r s : Answers) →
    vec_items r.opened ≡ answers_from m calls → vec_items r.closed ≡ later_answers modulus (after_all m calls) closed →
    vec_items s.opened ≡ answers_from m calls → vec_items s.closed ≡ later_answers other (after_all m calls) closed → Alike r s
alike modulus other m calls closed r s r_opened r_closed s_opened s_closed = record {
  opened = r_opened ∙ sym s_opened;
  closed = ap (map unnumbered) r_closed ∙ alike_later modulus other (after_all m calls) closed ∙ sym (ap (map unnumbered) s_closed);
}

-- answers into an empty list, on a sheet that is known
pub later_answers_lem : (modulus : ℕ) (m k : Model) (cs : List ClosedCall) (closed : Option (List ClosedCall)) (now before : List ClosedAnswer) →
    now ≡ before ++ replies (λ k c. closed_reply modulus k.weight (cells_of k) c) (λ k _. k) k cs → before ≡ [] → k ≡ close_after m → closed ≡ Some cs →
    now ≡ later_answers modulus m closed
later_answers_lem modulus m k cs closed now before are none is calls =
    are ∙ ap (λ xs. xs ++ replies (λ k c. closed_reply modulus k.weight (cells_of k) c) (λ k _. k) k cs) none ∙ unaltered modulus k cs
    ∙ ap (λ j. closed_answers modulus j cs) is ∙ ap (later_answers modulus m) (sym calls)

-- want of memory comes before the first call
pub law_refused : (serial weight modulus other : ℕ) (calls : List OpenCall) (closed : Option (List ClosedCall)) (r : Result Replayed AllocError) →
    is_err r ≡ true → LawOfRuns serial weight modulus other calls closed r
law_refused serial weight modulus other calls closed (Ok x) failed = cc
law_refused serial weight modulus other calls closed (Err e) failed = record { first = tt; second = tt; alike = tt; binding = binding; honest = honest }
