use Rattle.std.proofs.Common.{◌≡◌, ◌+◌, ◌^◌, ◌++◌, ◌∷◌, [], length, Some, refl, sym, ◌∙◌, ap, subst, arith}
use mathlib.Core.List.{IsPrefix}
use Rattle.board.specs.declared.tape.NewEntry.{NewEntry}
use Rattle.board.specs.Tape.{Leads, IsLegalTape}
use Rattle.board.specs.TapeRule.{entry_of}
use Rattle.board.proofs.Adding.{leads_new, ends_new, length_new}
use Rattle.board.proofs.Publishing.{taken, held_as}
use Rattle.board.proofs.locked.Locked.call.Goals as goal

pub returns-then-count-ge-MOST_ENTRIES-clause-begins : goal.returns-then-count-ge-MOST_ENTRIES-clause-begins
returns-then-count-ge-MOST_ENTRIES-clause-begins g c =
    subst (λ t. IsPrefix t c.args.self.now) (c.tape.ensures ∙ ap (λ s. s.tape) c.seat.view_is)
    (subst (λ w. IsPrefix c.tape.result.now w) c.self.view_is c.confirm.ensures.begins)

pub returns-then-count-ge-MOST_ENTRIES-clause-refused : goal.returns-then-count-ge-MOST_ENTRIES-clause-refused
returns-then-count-ge-MOST_ENTRIES-clause-refused g c =
    let state = g.X.OneThread.state c.self.inside.object in
    let full : length c.args.self.now ≡ 2 ^ 32 =
    omega (arith, ap length c.self.view_is, c.count.ensures.length, c.count.ensures.most, c.if-count-ge-MOST_ENTRIES.true) in
    let found : c.published_by.result.now ≡ c.self.inside.tape =
    taken c.self.inside.writer (λ w. g.T.HoldsPublished.holds w.desk.shown.value) c.self.inside.tape c.published_by.result.now c.self.invariant.4 c.published_by.ensures in (
      c.confirm.ensures.same ∙ c.self.view_is,
      record {
        legal = (state, subst (λ t. Leads g.X.OneThread.replies t state) c.self.view_is c.self.invariant.0);
        begins =
            subst (λ t. IsPrefix t c.args.self.now) (c.tape.ensures ∙ ap (λ s. s.tape) c.seat.view_is)
            (subst (λ w. IsPrefix c.tape.result.now w) c.self.view_is c.confirm.ensures.begins);
        cause = (full, c.again.ensures ∙ (found ∙ c.self.view_is));
        count = ap (λ s. s.count) c.seat.view_is;
      },
    )

pub add-requires-clause-legal : goal.add-requires-clause-legal
add-requires-clause-legal g c =
    let X = g.X.OneThread in
    let entry : NewEntry g.row.X-Command.Denot g.row.X-Reply.Denot = record { seat = c.seat.inside.number; command = c.of-said.result; reply = c.of.result } in
    let ready : (s : g.row.X-State.Denot) × X.replies (X.state c.self.inside.object) c.args.command c.in-Ok.reply s × (X.promised c.prepare.new.self ≡ Some s) × X.summarizes s c.in-Ok.summary = c.in-Ok.ensures.ready in
    let whole = c.self.inside.tape ++ entry_of entry ∷ [] in (
      ready.0,
      leads_new X.replies c.self.inside.tape whole whole (X.state c.self.inside.object) ready.0 entry c.args.command c.in-Ok.reply
          c.of-said.ensures c.of.ensures refl refl c.self.invariant.0 ready.1,
    )

pub new-published-requires : goal.new-published-requires
new-published-requires g c =
    let X = g.X.OneThread in
    let entry : NewEntry g.row.X-Command.Denot g.row.X-Reply.Denot = record { seat = c.seat.inside.number; command = c.of-said.result; reply = c.of.result } in
    let ready : (s : g.row.X-State.Denot) × X.replies (X.state c.self.inside.object) c.args.command c.in-Ok.reply s × (X.promised c.prepare.new.self ≡ Some s) × X.summarizes s c.in-Ok.summary = c.in-Ok.ensures.ready in (
      ready.0,
      leads_new X.replies c.self.inside.tape c.add.new.self c.seen.result (X.state c.self.inside.object) ready.0 entry c.args.command c.in-Ok.reply
          c.of-said.ensures c.of.ensures c.add.ensures.added c.seen.ensures c.self.invariant.0 ready.1,
      ready.3,
    )

pub invariant_of-self-2 : goal.invariant_of-self-2
invariant_of-self-2 g c =
    let X = g.X.OneThread in
    let entry : NewEntry g.row.X-Command.Denot g.row.X-Reply.Denot = record { seat = c.seat.inside.number; command = c.of-said.result; reply = c.of.result } in
    let ready : (s : g.row.X-State.Denot) × X.replies (X.state c.self.inside.object) c.args.command c.in-Ok.reply s × (X.promised c.prepare.new.self ≡ Some s) × X.summarizes s c.in-Ok.summary = c.in-Ok.ensures.ready in
    let now : X.promised c.prepare.new.self ≡ Some (X.state c.commit.new.self) = c.commit.ensures in
    let kept = ready.2 in
    let there : ready.0 ≡ X.state c.commit.new.self = cc (kept, now) in
    let leads = leads_new X.replies c.self.inside.tape c.add.new.self c.add.new.self (X.state c.self.inside.object) ready.0 entry c.args.command c.in-Ok.reply
    c.of-said.ensures c.of.ensures c.add.ensures.added refl c.self.invariant.0 ready.1 in (
      subst (λ s. Leads X.replies c.add.new.self s) there leads,
      omega (arith, length_new c.self.inside.tape c.add.new.self entry c.add.ensures.added, c.self.invariant.1, c.add-2.ensures.total),
      c.self.invariant.2,
      c.self.invariant.3,
      held_as c.publish.new.writer (λ w. g.T.HoldsPublished.holds w.desk.shown.value) c.new-published.result c.add.new.self c.publish.ensures (c.new-published.ensures ∙ c.seen.ensures),
    )

pub returns-clause-begins : goal.returns-clause-begins
returns-clause-begins g c =
    subst (λ t. IsPrefix t c.args.self.now) (c.tape-2.ensures ∙ ap (λ s. s.tape) c.seat.view_is)
    (subst (λ w. IsPrefix c.tape-2.result.now w) c.self.view_is c.add.ensures.begins)

pub returns-clause-answered : goal.returns-clause-answered
returns-clause-answered g c =
    let tape = c.self.inside.tape in
    let entry : NewEntry g.row.X-Command.Denot g.row.X-Reply.Denot = record { seat = c.seat.inside.number; command = c.of-said.result; reply = c.of.result } in
    let found : c.published_by-2.result.now ≡ c.new-published.result =
    taken c.publish.new.writer (λ w. g.T.HoldsPublished.holds w.desk.shown.value) c.new-published.result c.published_by-2.result.now c.publish.ensures c.published_by-2.ensures in
    let newest : c.again-2.result ≡ c.add.new.self = c.again-2.ensures ∙ (found ∙ (c.new-published.ensures ∙ c.seen.ensures)) in
    record {
      entry = (
        tape,
        subst (λ t. IsPrefix t tape) (c.tape-2.ensures ∙ ap (λ s. s.tape) c.seat.view_is) c.add.ensures.begins,
        ends_new tape c.add.new.self c.again-2.result entry c.args.seat.now.number c.args.command c.in-Ok.reply
            (ap (λ s. s.number) c.seat.view_is) c.of-said.ensures c.of.ensures c.add.ensures.added newest,
      );
      legal = subst (λ t. IsLegalTape g.X.OneThread.replies t) c.tape-3.ensures c.count-2.ensures.legal;
      number = ap length (sym c.tape-3.ensures) ∙ c.count-2.ensures.length;
      count = c.add-2.ensures.amount ∙ ap (λ s. s.count + 1) c.seat.view_is;
      told = c.news.ensures;
    }
