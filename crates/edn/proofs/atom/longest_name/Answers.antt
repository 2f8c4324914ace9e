use Rattle.std.proofs.Common.{◌≡◌, ◌∷◌, IsTrue, arith}
use Rattle.edn.specs.Bytes.{is_letter}
use Rattle.edn.proofs.Names.{name_start, name_more, name_found}
use Rattle.edn.proofs.atom.longest_name.Goals as goal

pub loop-next-init : goal.loop-next-init
loop-next-init c =
    let first : c.args.text.now ≡ c.in_ok-first.first.now ∷ c.in_ok-first.rest.now = grind arith in
    let on : IsTrue (is_letter c.in_ok-first.first.now) = cc in
    name_start _ _ _ first on

pub loop-next-preserved : goal.loop-next-preserved
loop-next-preserved c =
    let h = c.in-Some.ensures.found in
    name_more _ _ _ h.0 c.loop-next.invariant h.1 h.2

pub returns-clause-found : goal.returns-clause-found
returns-clause-found c = name_found _ _ _ _ c.loop-next.invariant c.in_default.ensures.none c.split_at.ensures.front c.split_at.ensures.back
