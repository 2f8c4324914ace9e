use Rattle.std.proofs.Common.{List, ℕ, ◌↔◌}
use Rattle.products.specs.Products.{IsInOne, IsLeft}
use Rattle.products.specs.Taking.{IsLeftOf}
use Rattle.products.proofs.Leaving.{on_ok, one_left}
use Rattle.products.proofs.taking.take_marked.Goals as goal

pub returns-in-Some-clause-left : goal.returns-in-Some-clause-left
returns-in-Some-clause-left c =
    on_ok c.join_marked.result ((row : List ℕ) → IsInOne c.join_marked.new.products.1 row ↔ IsLeftOf c.args.other.now.1 c.args.place c.in-Some.number row)
    ((row : List ℕ) → IsInOne c.join_marked.new.products.1 row ↔ IsLeft c.args.other.now.1 c.args.place c.args.marks.now row)
    (one_left c.args.other.now.1 c.join_marked.new.products.1 c.args.place c.args.marks.now c.in-Some.number c.requires.after c.in-Some.ensures) c.join_marked.ensures.left
