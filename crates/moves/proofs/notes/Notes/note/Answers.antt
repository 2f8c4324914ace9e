use Rattle.moves.proofs.Noting.{known_with}
use Rattle.moves.proofs.notes.Notes.note.Goals as goal

pub returns : goal.returns
returns c p =
    rw (← c.self.view_is) (known_with c.self.inside.list.items c.put_at.new.list.items c.args.place p (record { stamp = c.self.inside.stamp; to = c.args.to }) (c.put_at.ensures p))
