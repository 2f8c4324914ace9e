use Rattle.edn.proofs.Digits.{digits_start, digits_more, longest_found, zero_found, none_found}
use Rattle.edn.proofs.atom.longest_numeral.Goals as goal

pub returns-in-Some-clause-found : goal.returns-in-Some-clause-found
returns-in-Some-clause-found c = zero_found _ _ _ c.in-Some.ensures.found

pub loop-more-init : goal.loop-more-init
loop-more-init c =
    let h = c.in_ok-value.ensures.found in
    digits_start _ _ h.0 _ _ c.in_default.ensures.none h.1 h.2 h.3

pub loop-more-preserved : goal.loop-more-preserved
loop-more-preserved c =
    let h = c.in-Some-with_digit.ensures.found in
    digits_more _ _ _ _ h.0 _ _ c.loop-more.invariant h.1 h.2 h.3

pub returns-clause-found : goal.returns-clause-found
returns-clause-found c = longest_found _ _ _ _ c.loop-more.invariant c.in_default-with_digit.ensures.none

pub returns-in_err-value-clause-none : goal.returns-in_err-value-clause-none
returns-in_err-value-clause-none c =
    let none = none_found c.args.most c.args.text.now c.in_err-value.ensures.none in
    rw c.from_residual.ensures none
