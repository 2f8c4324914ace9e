use Rattle.std.proofs.Common.{◌+◌, ◌∙◌, ap, subst}
use Rattle.std.specs.List.{All}
use mathlib.Core.List.{IsPrefix}
use Rattle.board.proofs.board.Board+X+B.finish.Goals as goal

pub returns : goal.returns
returns g c =
    let tape = c.object.inside.tape in
    let inv = c.object.invariant in (
      tape,
      inv.0,
      record {
        opens = subst (λ l. IsPrefix l tape) c.self.view_is c.confirm.ensures.begins;
        seen = subst (λ t. All (λ s. IsPrefix s.tape t) c.args.seats.items) c.confirm.ensures.same c.gather.ensures.begins;
        calls = λ all. inv.1 ∙ ap (λ n. n + 1) (c.gather.ensures.counts all);
      },
    )
