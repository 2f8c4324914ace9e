use Rattle.std.proofs.Common.{arith}
use Rattle.std.proofs.lemmas.Option.{slice_get_within}
use Rattle.products.proofs.Families.{view_long}
use Rattle.products.proofs.products.Products.put.Goals as goal

pub put_rest-requires-clause-within : goal.put_rest-requires-clause-within
put_rest-requires-clause-within c =
    let i = c.self.inside in
    let long = view_long i.places i.firsts.items i.words.items c.args.self.now c.self.view_is in
    omega (arith, long)

pub put_rest-requires-clause-apart : goal.put_rest-requires-clause-apart
put_rest-requires-clause-apart c k row h stands =
    let i = c.self.inside in
    let long = view_long i.places i.firsts.items i.words.items c.args.self.now c.self.view_is in
    let lower = slice_get_within c.args.self.now.1 k stands.0 stands.1 in
    omega (arith, long, lower)
