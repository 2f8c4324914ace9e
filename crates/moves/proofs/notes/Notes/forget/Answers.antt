use Rattle.moves.proofs.Noting.{are_untried}
use Rattle.moves.proofs.notes.Notes.forget.Goals as goal

pub returns : goal.returns
returns c = are_untried c.stamp_after-self-inside.new.list.items c.stamp_after-self-inside.result c.stamp_after-self-inside.ensures
