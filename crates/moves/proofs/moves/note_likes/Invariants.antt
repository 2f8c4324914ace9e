use Rattle.std.proofs.Common.{◌≡◌, ◌-◌, length}
use Rattle.moves.specs.Moves.{AreAll, AreAlike}
use Rattle.moves.proofs.moves.note_likes.Given as goal

abbrev pub invariant-loop-behind : goal.invariant-loop-behind
invariant-loop-behind g l =
    record {
      long : length l.moves.likes.items ≡ l.behind;
      all : AreAll l.calls (length l.calls - l.behind) l.like;
      likes : AreAlike l.calls l.moves.likes.items;
      known : l.moves.known ≡ l.initial.moves.known;
      targets : l.moves.targets ≡ l.initial.moves.targets;
    }
