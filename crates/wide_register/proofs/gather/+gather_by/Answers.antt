use Rattle.std.proofs.Common.{arith}
use Rattle.std.proofs.lemmas.List.Elements.{Contains-get_or}
use Rattle.wide_register.proofs.Gathering.{halves_apart, halves_each, halves_kept}
use Rattle.wide_register.proofs.gather.+gather_by.Goals as goal

pub returns-clause-each : goal.returns-clause-each
returns-clause-each t c = halves_each c.args.calls.now _ (c.requires _ (Contains-get_or c.args.ids.now c.args.at 0 (omega arith))) c.args.rows.items c.in_ok-left.left.items c.in_ok-others.others.items
    c.in_ok-halves.halves c.in_ok-halves.ensures c.in_ok-left.ensures.each c.in_ok-others.ensures.each c.append.new.self.items c.in_ok-append.ensures.items

pub returns-clause-kept : goal.returns-clause-kept
returns-clause-kept t c = halves_kept c.args.calls.now _ (c.requires _ (Contains-get_or c.args.ids.now c.args.at 0 (omega arith))) c.args.rows.items c.in_ok-left.left.items c.in_ok-others.others.items
    c.in_ok-halves.halves c.in_ok-halves.ensures c.in_ok-left.ensures.each c.in_ok-others.ensures.each c.append.new.self.items c.in_ok-append.ensures.items c.in_ok-left.ensures.kept c.in_ok-others.ensures.kept

pub returns-clause-apart : goal.returns-clause-apart
returns-clause-apart t c = halves_apart c.args.calls.now _ (c.requires _ (Contains-get_or c.args.ids.now c.args.at 0 (omega arith))) c.args.rows.items c.in_ok-left.left.items c.in_ok-others.others.items
    c.in_ok-halves.halves c.in_ok-halves.ensures c.in_ok-left.ensures.each c.in_ok-others.ensures.each c.append.new.self.items c.in_ok-append.ensures.items c.in_ok-left.ensures.apart c.in_ok-others.ensures.apart
