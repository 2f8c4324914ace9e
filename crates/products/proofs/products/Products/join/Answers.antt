use Rattle.std.proofs.lemmas.Result.{on_ok_weaker}
use Rattle.products.specs.Products.{Product}
use Rattle.products.proofs.Putting.{puts_has}
use Rattle.products.proofs.products.Products.join.Goals as goal

pub returns-clause-joins : goal.returns-clause-joins
returns-clause-joins c =
    let added : Product = (c.args.first, c.args.sets.now) in
    on_ok_weaker c.join_from.result (puts_has added 0 c.args.self.now.1 c.join_from.new.self.1) c.join_from.ensures.puts
