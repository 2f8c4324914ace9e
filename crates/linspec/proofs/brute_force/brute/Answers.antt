use Rattle.std.proofs.Common.{◌≡◌, ℕ, ap, ◌∙◌, IsTrue, ◌↔◌}
use Rattle.std.proofs.lemmas.Result.{IfOk-weaker}
use Rattle.kinds.specs.declared.model_kind.ModelKind.{ModelKind}
use Rattle.events.specs.Events.{entries_of, indexed_from, marks}
use Rattle.linspec.specs.Orders.{IsLinearizable, product}
use Rattle.linspec.specs.KindsOf.{AgreeWith, HaveKinds}
use Rattle.linspec.specs.KeptMarks.{marks_of_kept}
use Rattle.linspec.specs.Finishing.{CanFinish}
use Rattle.linspec.specs.Attempts.{Steps}
use Rattle.linspec.proofs.Keys.{answer_of_search}
use Rattle.linspec.proofs.brute_force.brute.Goals as goal

pub returns : goal.returns
returns c =
    let all = marks (entries_of (indexed_from 0 c.args.history.now.events)) in
    let same : marks_of_kept c.deref.result.now ≡ all = ap marks_of_kept c.deref.ensures.value ∙ c.in_ok-marks.ensures ∙ ap (λ events. marks (entries_of (indexed_from 0 events))) c.events.ensures in
    IfOk-weaker c.can_finish.result
    (λ b. IsTrue b ↔ CanFinish Steps (marks_of_kept c.deref.result.now) c.new.result.items c.in_ok-start_states.field-0.items)
    (λ b. (by : ℕ → ModelKind) → AgreeWith by c.args.kinds.now → HaveKinds c.args.kinds.now all → IsTrue b ↔ IsLinearizable (product by) all)
    (answer_of_search c.args.kinds.now (marks_of_kept c.deref.result.now) all c.new.result.items c.in_ok-start_states.field-0.items same c.new.ensures.items c.in_ok-start_states.ensures)
    c.can_finish.ensures
