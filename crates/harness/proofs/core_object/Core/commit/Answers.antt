use Rattle.std.proofs.Common.{◌≡◌, ◌<◌, IfSome, IsSome, length, sym, ap, subst, ◌∙◌}
use Rattle.test_store.specs.declared.outcome.Outcome.{Outcome}
use Rattle.machine.specs.Trials.{served_as}
use Rattle.machine.specs.Machine.{Machine}
use Rattle.harness.specs.CoreView.{CoreView, at_rest}
use Rattle.harness.specs.SoundCore.{IsReady}
use Rattle.harness.proofs.Preparing.{seen}
use Rattle.harness.proofs.Committing.{noted, serve_brings, serve_sound}
use Rattle.std.specs.Vec.{vec_capacity}
use Rattle.std.proofs.Math.ListN.{set}
use Rattle.harness.proofs.core_object.Core.commit.Goals as goal

pub invariant_of-self-in-Serve : goal.invariant_of-self-in-Serve
invariant_of-self-in-Serve c =
    let a = c.self.inside in
    let number = c.in-Serve.number in
    let boxed = c.in-Serve.outcome in
    let is = sym c.in-Serve.ensures.value in
    let below : number < length a.tickets.items = subst (IsReady (vec_capacity a.tickets) a.tickets.items) is c.self.invariant.ready in
    serve_sound a.monitor a.source a.schedule a.store c.commit-in-Serve.new.self a.tickets.items (set a.tickets.items number c.note_outcome.new.ticket) a.change c.replace.new.dest number boxed (vec_capacity a.tickets) is c.replace.ensures.after
    c.commit-in-Serve.ensures (noted a.tickets.items number boxed.value c.index_mut.result.now c.note_outcome.new.ticket below c.index_mut.ensures.value
    (c.note_outcome.ensures ∙ ap (λ (o : Outcome). served_as o c.index_mut.result.now) c.into_inner-in-Serve.ensures))
    (subst (λ (v : CoreView). IsSome v.next) (sym c.self.view_is) c.requires) c.self.invariant.then

pub returns-in-Serve : goal.returns-in-Serve
returns-in-Serve c =
    let a = c.self.inside in
    let number = c.in-Serve.number in
    let boxed = c.in-Serve.outcome in
    let is = sym c.in-Serve.ensures.value in
    let below : number < length a.tickets.items = subst (IsReady (vec_capacity a.tickets) a.tickets.items) is c.self.invariant.ready in
    let tickets = set a.tickets.items number c.note_outcome.new.ticket in
    subst (λ (v : CoreView). IfSome v.next (λ (next : Machine). seen a.monitor a.source a.schedule c.commit-in-Serve.new.self tickets c.replace.new.dest ≡ at_rest next)) c.self.view_is
    (serve_brings a.monitor a.source a.schedule a.store c.commit-in-Serve.new.self a.tickets.items tickets a.change c.replace.new.dest number boxed is c.replace.ensures.after
    c.commit-in-Serve.ensures (noted a.tickets.items number boxed.value c.index_mut.result.now c.note_outcome.new.ticket below c.index_mut.ensures.value
    (c.note_outcome.ensures ∙ ap (λ (o : Outcome). served_as o c.index_mut.result.now) c.into_inner-in-Serve.ensures)))
