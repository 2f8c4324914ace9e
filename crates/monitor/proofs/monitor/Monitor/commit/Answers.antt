use Rattle.std.proofs.Common.{◌∷◌, ◌++◌, [], refl, ap, sym, ◌∙◌}
use Rattle.checkpoints.specs.KeyLineView.{KeyLineView}
use Rattle.monitor.specs.Rows.{nows}
use Rattle.monitor.specs.SoundMonitor.{judged_of}
use Rattle.monitor.proofs.Carried.{nows_push, prepared_ready, sound_at_rest, event_carried}
use Rattle.monitor.proofs.monitor.Monitor.commit.Goals as goal

pub invariant_of-self-in-Append : goal.invariant_of-self-in-Append
invariant_of-self-in-Append c =
    let ready = prepared_ready c.self.invariant (sym c.take.ensures.value ∙ c.in-Some.is) c.in-Append.is in
    event_carried ready refl ready.taken refl c.commit-in-Append.ensures (c.commit_line.ensures ready.rows ready.brings) refl c.take.ensures.after

pub invariant_of-self-in-Begin : goal.invariant_of-self-in-Begin
invariant_of-self-in-Begin c =
    let ready = prepared_ready c.self.invariant (sym c.take.ensures.value ∙ c.in-Some.is) c.in-Begin.is in
    event_carried ready refl ready.taken refl c.commit-in-Begin.ensures
    (ap nows (c.add.ensures ∙ ap (λ (l : KeyLineView). c.self.inside.lines.rows ++ (c.in-Begin.key, l) ∷ []) c.into_inner.ensures) ∙ nows_push c.self.inside.lines.rows c.in-Begin.key c.in-Begin.line.value ∙ sym ready.brings.2)
    refl c.take.ensures.after

pub invariant_of-self-in-Set : goal.invariant_of-self-in-Set
invariant_of-self-in-Set c =
    let ready = prepared_ready c.self.invariant (sym c.take.ensures.value ∙ c.in-Some.is) c.in-Set.is in
    sound_at_rest (ap (judged_of c.self.inside.history) c.put.ensures) (c.commit_line-in-Set.ensures ready.rows ready.brings) refl c.take.ensures.after ready.judged
