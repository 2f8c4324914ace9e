use Rattle.std.proofs.Common.{◌≡◌, ap, sym, ◌∙◌, get_or}
use Rattle.events.specs.declared.event.Event.{Event}
use Rattle.linspec.specs.KeptMarks.{marks_of_kept, option_items}
use Rattle.linspec.proofs.EventMarks.{element_at, marks-none, marks-one}
use Rattle.linspec.proofs.kept_marks.marks_of.Goals as goal
use Rattle.linspec.proofs.kept_marks.marks_of.Goals.{in-Some+in_ok-push, in_default}

pub loop-at-preserved : goal.loop-at-preserved
loop-at-preserved c =
    let events = c.args.events.now in
    let at = c.loop-at.at in
    let e : (e : Event) × (e ≡ get_or events at e) = element_at events at c.loop-at-test.true in
    elim c.match-branch-2.branch [
      | in-Some+in_ok-push w ↦ ap (λ all. marks_of_kept all.items) w.all-is ∙ ap marks_of_kept w.in_ok-push.ensures.items
          ∙ marks-one events at e.0 c.loop-at-test.true e.1 c.loop-at.all.items w.in-Some.mark c.loop-at.invariant (sym (ap (λ m. marks_of_kept (option_items m)) w.in-Some.is) ∙ c.in_ok-mark.ensures)
      | in_default w ↦ ap (λ all. marks_of_kept all.items) w.all-is
          ∙ marks-none events at e.0 c.loop-at-test.true e.1 c.loop-at.all.items c.loop-at.invariant (sym (ap (λ m. marks_of_kept (option_items m)) w.in_default.is) ∙ c.in_ok-mark.ensures)
    ]
