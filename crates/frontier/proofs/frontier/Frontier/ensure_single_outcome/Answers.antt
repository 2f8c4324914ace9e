use Rattle.models.specs.Objects.{of_table}
use Rattle.frontier.proofs.Preparing.{listed_again}
use Rattle.frontier.proofs.frontier.Frontier.ensure_single_outcome.Goals as goal

pub returns-else-has_scalar_states-clause-keeps : goal.returns-else-has_scalar_states-clause-keeps
returns-else-has_scalar_states-clause-keeps g c marks =
    let o = of_table g.row.M-State.Denot g.M.SeqObject.start_state g.M.SeqObject.apply_to in
    listed_again o c.args.self.now c.make_rows.new.self marks c.make_rows.ensures.same.keeps c.make_rows.ensures.same.fresh
