-- A row of a list: ten numbers that say what is put on a sheet.
use Rattle.std.specs.Prelude.{ℕ, ◌*◌, ◌^◌, min, cond, List, take, drop, Ok, Err, Result, ◌==◌, nat_lt, slice_index}
use Rattle.sheet.specs.Calls.{Model, cells_of, input_reply, input_after, enter_reply, enter_after, settle_reply, settle_after}
use Rattle.sheet.specs.declared.refusal.Refusal as sheet
use Rattle.sheet.specs.declared.ticket.Ticket.{Ticket}
use Rattle.kelfrudd.specs.declared.refusal.Refusal.{Refusal}
use Rattle.kelfrudd.specs.declared.refusal.Refusal.TheVariants.{WideWord, Sheet}
use Rattle.kelfrudd.specs.declared.claim.Claim.{Claim}
use Rattle.kelfrudd.specs.declared.row.Row.{Row}
use Rattle.kelfrudd.specs.declared.row.Row.TheVariants as row

-- a code above 32 bits is read as FFFFFFFF, which is none of an operation either
abbrev pub code_from : ℕ → ℕ
code_from number = min number 0xFFFFFFFF

-- the code, the two cells, the word and the six hints
abbrev pub claim_from : List ℕ → Claim ℕ
claim_from numbers = record {
  code = code_from (slice_index numbers 0);
  first = slice_index numbers 1;
  second = slice_index numbers 2;
  written = record {
    word = record { bits = slice_index numbers 3 };
    hints = record {
      main = slice_index numbers 4;
      rest = slice_index numbers 5;
      lift = slice_index numbers 6;
      keep = slice_index numbers 7;
      drop = slice_index numbers 8;
      up = slice_index numbers 9;
    };
  };
}

-- a row with the code 0 is an input, and any other a claim
abbrev pub row_from : List ℕ → Row
row_from numbers =
    cond (slice_index numbers 0 == 0) (row.Input (record { bits = slice_index numbers 3 })) (row.Claim (claim_from numbers))

-- a word above 32 bits makes no row
abbrev pub row_of : List ℕ → Result Row Refusal
row_of numbers = cond (nat_lt (slice_index numbers 3) (2 ^ 32)) (Ok (row_from numbers)) (Err WideWord)

-- the ten numbers of the row with this number
abbrev pub ten_at : List ℕ → ℕ → List ℕ
ten_at xs n = take 10 (drop (10 * n) xs)

abbrev pub row_at : List ℕ → ℕ → Result Row Refusal
row_at xs n = row_of (ten_at xs n)

-- a claim is entered; the ticket is settled at once

abbrev pub claim_entered : Model → Claim ℕ → Result Ticket sheet.Refusal
claim_entered m claim = enter_reply m.serial (cells_of m) claim.code claim.first claim.second

abbrev pub pending_model : Model → Claim ℕ → Model
pending_model m claim = enter_after m claim.code claim.first claim.second claim.written.word

abbrev pub settled_reply : Model → Claim ℕ → Result Ticket sheet.Refusal → Result ℕ sheet.Refusal
settled_reply m claim (Ok ticket) = settle_reply m.serial (cells_of m) ticket claim.written.hints
settled_reply m claim (Err r) = Err r

abbrev pub settled_model : Model → Claim ℕ → Result Ticket sheet.Refusal → Model
settled_model m claim (Ok ticket) = settle_after m ticket claim.written.hints
settled_model m claim (Err r) = m

abbrev pub claim_reply : Model → Claim ℕ → Result ℕ sheet.Refusal
claim_reply m claim = settled_reply (pending_model m claim) claim (claim_entered m claim)

abbrev pub claim_after : Model → Claim ℕ → Model
claim_after m claim = settled_model (pending_model m claim) claim (claim_entered m claim)

abbrev pub row_reply : Model → Row → Result ℕ sheet.Refusal
row_reply m (row.Input word) = input_reply (cells_of m)
row_reply m (row.Claim claim) = claim_reply m claim

abbrev pub row_after : Model → Row → Model
row_after m (row.Input word) = input_after m word
row_after m (row.Claim claim) = claim_after m claim

-- the sheet's refusal is the row's

abbrev pub reply_for : Result ℕ sheet.Refusal → Result ℕ Refusal
reply_for (Ok cell) = Ok cell
reply_for (Err r) = Err (Sheet r)

-- a word above 32 bits is refused before anything is called

abbrev pub taken_reply : Model → Result Row Refusal → Result ℕ Refusal
taken_reply m (Ok row) = reply_for (row_reply m row)
taken_reply m (Err r) = Err r

abbrev pub taken_after : Model → Result Row Refusal → Model
taken_after m (Ok row) = row_after m row
taken_after m (Err r) = m
