use Rattle.std.proofs.Common.{◌≡◌, arith, pos, to_z, of_z, w64}
use Rattle.std.proofs.lemmas.Int.{ints, to_z_pos}
use Rattle.edn.proofs.Longest.{word_atom, longest_keyword, no_keyword, longest_minus, no_minus_numeral, longest_plain, no_plain}
use Rattle.edn.proofs.atom.longest_atom.Goals as goal

pub returns-in-Some-clause-found : goal.returns-in-Some-clause-found
returns-in-Some-clause-found c = word_atom _ _ _ c.in-Some.ensures.found

pub returns-in-Some-after-clause-found : goal.returns-in-Some-after-clause-found
returns-in-Some-after-clause-found c = longest_keyword _ _ _ _ c.in-Some-after.ensures.found c.in_ok-name.ensures.found

pub returns-in_err-name-clause-none : goal.returns-in_err-name-clause-none
returns-in_err-name-clause-none c = rw c.from_residual.ensures (no_keyword _ _ c.in-Some-after.ensures.found c.in_err-name.ensures.none)

pub returns-in-Some-after-2-clause-found : goal.returns-in-Some-after-2-clause-found
returns-in-Some-after-2-clause-found c =
    let size : to_z w64 (of_z w64 c.negated.result) ≡ c.negated.result = grind (arith, ints) in
    let here = longest_minus _ _ _ _ c.in-Some-after-2.ensures.found c.in_ok-size.ensures.found in
    rw (size, c.negated.ensures) here

pub returns-in_err-size-clause-none : goal.returns-in_err-size-clause-none
returns-in_err-size-clause-none c = rw c.from_residual-in_err-size.ensures (no_minus_numeral _ _ c.in-Some-after-2.ensures.found c.in_err-size.ensures.none)

pub returns-clause-found : goal.returns-clause-found
returns-clause-found c =
    let h = c.in_ok-size-2.ensures.found in
    let size : to_z w64 c.in_ok-size-2.size ≡ pos c.in_ok-size-2.size = to_z_pos w64 _ (let l = h.spells.2 in omega arith) in
    rw size (longest_plain _ _ _ _ c.in_default.ensures.none c.in_default-after.ensures.none c.in_default-after-2.ensures.none c.without_plus.ensures h)

pub returns-in_err-size-2-clause-none : goal.returns-in_err-size-2-clause-none
returns-in_err-size-2-clause-none c =
    rw c.from_residual-in_err-size-2.ensures (no_plain _ _ c.in_default.ensures.none c.in_default-after.ensures.none c.in_default-after-2.ensures.none c.without_plus.ensures c.in_err-size-2.ensures.none)
