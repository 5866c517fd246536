-- Every history that the calls of a sheet allow obeys the law.
use Rattle.std.proofs.Common.{◌≡◌, ℕ, [], ◌∷◌, sym, refl, ap, ◌∙◌, subst}
use Rattle.sheet.specs.Calls.{Model, cells_of, opened}
use Rattle.runs.proofs.Follows.{Follows, follows_opened, follows_open, follows_close, follows_closed, stand_alike}
use Rattle.runs.proofs.Keeps.{kept_more, lawful_more}
use Rattle.runs.proofs.Moves.{Kept}
use Rattle.runs.specs.Histories.{Event, History, on_open, close, on_closed}
use Rattle.runs.specs.Law.{Answered, Law}
use Rattle.runs.specs.Replies.{open_reply, closed_reply, standing}
use Rattle.runs.specs.Sheets.{Binding, Reached, Sheet, Step, is_open, is_closed, open_after}
use Rattle.runs.specs.declared.answer.ClosedAnswer.{ClosedAnswer}
use Rattle.runs.specs.declared.answer.OpenAnswer.{OpenAnswer}
use Rattle.runs.specs.declared.call.ClosedCall.{ClosedCall}
use Rattle.runs.specs.declared.call.OpenCall.{OpenCall}

abbrev pub model_in : Sheet → Model
model_in (is_open m) = m
model_in (is_closed m) = m

pub record Known (serial weight modulus : ℕ) (h : History) (s : Sheet) : Type 0 where
  pub kept : Kept serial h
  pub follows : Follows serial weight h (model_in s)
  pub law : Law serial weight modulus h

-- before the first call no cell is taken
known_opened : (serial weight modulus : ℕ) → Known serial weight modulus [] (is_open (opened serial weight))
known_opened serial weight modulus = record {
  kept = record {
    fresh = λ n beyond. refl;
    waits = λ n c is. cc;
    holds = λ n c is. cc;
  };
  follows = follows_opened serial weight;
  law = record { holds = λ n c is. cc; reads = tt; settles = tt; answered = tt };
}

module _ (serial weight modulus : ℕ) (h : History) where
  known_event : (e : Event) (before s : Sheet) → Known serial weight modulus h before → Answered serial weight modulus h e →
      Follows serial weight (e ∷ h) (model_in s) → Known serial weight modulus (e ∷ h) s
  known_event e before s known is follows = record {
    kept = kept_more serial h known.kept weight modulus e is;
    follows = follows;
    law = (lawful_more serial h known.kept weight modulus e is, known.law);
  }

  answered_open : (m : Model) → Follows serial weight h m → (c : OpenCall) (a : OpenAnswer) → a ≡ open_reply m.serial (cells_of m) c →
      a ≡ open_reply serial (standing h) c
  answered_open m follows c a is =
      is ∙ ap (λ k. open_reply k (cells_of m) c) follows.serial_is ∙ ap (λ s. open_reply serial s c) (sym (stand_alike serial weight h m follows))

  answered_closed : (m : Model) → Follows serial weight h m → (c : ClosedCall) (a : ClosedAnswer) → a ≡ closed_reply modulus m.weight (cells_of m) c →
      a ≡ closed_reply modulus weight (standing h) c
  answered_closed m follows c a is =
      is ∙ ap (λ k. closed_reply modulus k (cells_of m) c) follows.weight_is ∙ ap (λ s. closed_reply modulus weight s c) (sym (stand_alike serial weight h m follows))

  known_more : (before : Sheet) → Known serial weight modulus h before → (e : Event) (s : Sheet) → Step modulus before e s → Known serial weight modulus (e ∷ h) s
  known_more (is_open m) known (on_open c a) s step =
      subst (Known serial weight modulus (on_open c a ∷ h)) (sym step.1)
      (known_event (on_open c a) (is_open m) (is_open (open_after m c)) known (answered_open m known.follows c a step.0)
      (follows_open serial weight h m known.follows known.kept c a step.0))
  known_more (is_open m) known close s step =
      subst (Known serial weight modulus (close ∷ h)) (sym step)
      (known_event close (is_open m) (is_closed _) known tt (follows_close serial weight h m known.follows known.kept))
  known_more (is_open m) known (on_closed c a) s step = absurd step
  known_more (is_closed m) known (on_open c a) s step = absurd step
  known_more (is_closed m) known close s step = absurd step
  known_more (is_closed m) known (on_closed c a) s step =
      subst (Known serial weight modulus (on_closed c a ∷ h)) (sym step.1)
      (known_event (on_closed c a) (is_closed m) (is_closed m) known (answered_closed m known.follows c a step.0)
      (follows_closed serial weight h m known.follows known.kept c a))

pub known_reached : (serial weight modulus : ℕ) (h : History) (s : Sheet) → Reached serial weight modulus h s → Known serial weight modulus h s
known_reached serial weight modulus [] s is = subst (Known serial weight modulus []) (sym is) (known_opened serial weight modulus)
known_reached serial weight modulus (e ∷ h) s reached =
    known_more serial weight modulus h reached.0 (known_reached serial weight modulus h reached.0 reached.1) e s reached.2

pub binding : Binding
binding serial weight modulus h s reached = (known_reached serial weight modulus h s reached).law
