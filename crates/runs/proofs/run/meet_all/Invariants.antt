use Rattle.std.proofs.Common.{◌≡◌, ◌+◌, ◌≤◌, ◌++◌, length, drop, vec_items, vec_len, vec_capacity}
use Rattle.runs.specs.Met.{replies, after_each}
use Rattle.runs.proofs.run.meet_all.Given as goal

-- there is room for the answers to come; with them, the answers so far are all, and the sheet comes to be what it is after all calls
abbrev pub invariant-loop-call : goal.invariant-loop-call
invariant-loop-call g l =
    let m = g.M.Meets in
    record {
      room : vec_len l.answers + length l.calls ≤ vec_capacity l.answers + l.call-index;
      items : vec_items l.answers ++ replies m.reply m.after (m.model l.sheet) (drop l.call-index l.calls)
          ≡ vec_items l.initial.answers ++ replies m.reply m.after (m.model l.initial.sheet) l.calls;
      after : after_each m.after (m.model l.sheet) (drop l.call-index l.calls) ≡ after_each m.after (m.model l.initial.sheet) l.calls;
    }
