use Rattle.std.proofs.Common.{◌≡◌}
use Rattle.products.proofs.Families.{longer}
use Rattle.products.proofs.products.Products.lengthen.Given as goal

abbrev pub invariant-loop-at : goal.invariant-loop-at
invariant-loop-at l = l.words.items ≡ longer l.self-inside.places l.at l.self-inside.words.items
