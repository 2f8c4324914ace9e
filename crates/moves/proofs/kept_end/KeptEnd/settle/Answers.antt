use Rattle.std.proofs.Common.{rules}
use Rattle.std.proofs.lemmas.Fn.{filter_same}
use Rattle.moves.proofs.Changes.{settled_by}
use Rattle.moves.proofs.kept_end.KeptEnd.settle.Goals as goal

pub returns : goal.returns
returns g c =
    settled_by c.args.self.now.state c.args.self.now.pending.items c.retain.new.self.items c.args.self.now.crashed.items c.args.id
    (filter_same _ _ _ (λ x b f' k. search rules) _ _ c.retain.ensures.filtered)
