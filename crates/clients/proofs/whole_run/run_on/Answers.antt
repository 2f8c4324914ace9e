use Rattle.std.proofs.Common.{ℕ, ◌-◌, length, sym, subst, arith}
use Rattle.board.specs.Tape.{IsTapeOf}
use Rattle.board.specs.CoreTape.{CoreTape, opening_tape}
use Rattle.clients.proofs.whole_run.run_on.Goals as goal

pub returns-in-Ok-clause-run : goal.returns-in-Ok-clause-run
returns-in-Ok-clause-run g c =
    let opened = c.in_ok-board.ensures in
    let ended = c.end.ensures in
    let m = c.args.blank.object.machine in
    let seats = c.in_ok-board.seats.items in
    let back = c.in-Ok.back.items in
    let ours : IsTapeOf (opening_tape m) back (length seats) ended.0 =
    subst (λ (n : ℕ). IsTapeOf (opening_tape m) back n ended.0) (sym opened.seats.1)
    (subst (λ (t : CoreTape). IsTapeOf t back g.B.Ledger.parts ended.0) opened.opening ended.2) in
    record {
      tape = ended.0;
      opens = ours.opens;
      played = c.trials_alone.ensures.played m (c.args.blank.seats - 1) seats back ended.0 (omega (arith, opened.seats.0, c.requires.seats)) opened.fresh c.in-Ok.ensures.back ours;
      struck = c.trials_alone.ensures.struck m (c.args.blank.seats - 1) seats back ended.0 (omega (arith, opened.seats.0, c.requires.seats)) opened.fresh c.in-Ok.ensures.back ours;
      others = λ seat far. c.trials_alone.ensures.others m seats back ended.0 opened.fresh c.in-Ok.ensures.back ours seat (omega (arith, opened.seats.0, c.requires.seats, far));
      begun = c.trials_alone.ensures.begun m (c.args.blank.seats - 1) seats back ended.0 (omega (arith, opened.seats.0, c.requires.seats)) opened.fresh c.in-Ok.ensures.back ours;
      leads = ended.1;
    }
