-- The histories that the public calls of a sheet allow, by the equations of their contracts: each call's answer, and the sheet
-- afterwards.
use Rattle.std.specs.Prelude.{◌≡◌, ℕ, [], ◌∷◌}
use Rattle.sheet.specs.Calls.{Model, cells_of, opened, input_after, enter_after, settle_after, strike_after, close_after}
use Rattle.sheet.specs.Tickets.{ticket_of}
use Rattle.runs.specs.Histories.{Event, History, on_open, close, on_closed}
use Rattle.runs.specs.Law.{Law}
use Rattle.runs.specs.Replies.{open_reply, closed_reply}
use Rattle.runs.specs.declared.call.OpenCall.{OpenCall}
use Rattle.runs.specs.declared.call.OpenCall.TheVariants as call

-- an open sheet or a closed one, without its system
pub data Sheet : Type 0 where
  is_open : Model → Sheet
  is_closed : Model → Sheet

abbrev pub open_after : Model → OpenCall → Model
open_after m (call.Input word) = input_after m word
open_after m (call.Enter code first second word) = enter_after m code first second word
open_after m (call.Settle ticket hints) = settle_after m (ticket_of ticket) hints
open_after m (call.Strike ticket) = strike_after m (ticket_of ticket)
open_after m (call.Read cell) = m

-- one call, its answer, and the sheet afterwards; what a sheet does not allow cannot be called
abbrev pub Step : ℕ → Sheet → Event → Sheet → Type 0
Step modulus (is_open m) (on_open c a) after = (a ≡ open_reply m.serial (cells_of m) c) × (after ≡ is_open (open_after m c))
Step modulus (is_open m) close after = after ≡ is_closed (close_after m)
Step modulus (is_open m) (on_closed c a) after = ⊥
Step modulus (is_closed m) (on_open c a) after = ⊥
Step modulus (is_closed m) close after = ⊥
Step modulus (is_closed m) (on_closed c a) after = (a ≡ closed_reply modulus m.weight (cells_of m) c) × (after ≡ is_closed m)

-- a sheet that was opened with this serial and weight and met this history
abbrev pub Reached : ℕ → ℕ → ℕ → History → Sheet → Type 0
Reached serial weight modulus [] s = s ≡ is_open (opened serial weight)
Reached serial weight modulus (e ∷ h) s = (before : Sheet) × Reached serial weight modulus h before × Step modulus before e s

-- every such history obeys the law, whoever makes the calls
abbrev pub Binding : Type 0
Binding = (serial weight modulus : ℕ) (h : History) (s : Sheet) → Reached serial weight modulus h s → Law serial weight modulus h
