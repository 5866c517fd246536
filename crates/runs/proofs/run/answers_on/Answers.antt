use Rattle.std.proofs.Common.{◌≡◌, vec_items, sym, ap, ◌∙◌}
use Rattle.std.specs.Option.{option_map}
use Rattle.sheet.specs.Calls.{close_after, opened}
use Rattle.runs.proofs.Replays.{later_answers_lem}
use Rattle.runs.specs.Met.{after_all, later_answers}
use Rattle.runs.proofs.run.answers_on.Goals.{in-Some, in_default}
use Rattle.runs.proofs.run.answers_on.Goals as goal

pub returns-clause-closed : goal.returns-clause-closed
returns-clause-closed g c =
    let x = c.args in
    let calls = x.run.opened.now in
    let m = opened x.run.serial x.run.weight in
    let modulus = g.S.System.modulus in
    let after : c.meet_all.new.sheet.sheet ≡ after_all m calls
    = c.meet_all.ensures.after ∙ ap (λ k. after_all k calls) c.opened_for-sheet.ensures in
    elim c.match-run.branch [
      | in-Some w ↦
          ap vec_items w.closed-is
          ∙ later_answers_lem modulus (after_all m calls) w.close.result w.in-Some.calls.now (option_map (λ x. x.now) x.run.closed)
          (vec_items w.meet_all-in-Some.new.answers) (vec_items x.room.closed)
          w.meet_all-in-Some.ensures.items c.requires.none_closed (w.close.ensures ∙ ap close_after after) (ap (option_map (λ x. x.now)) w.in-Some.is)
      | in_default w ↦
          ap vec_items w.closed-is ∙ c.requires.none_closed
          ∙ ap (λ o. later_answers modulus (after_all m calls) (option_map (λ x. x.now) o)) (sym w.in_default.is)
    ]
