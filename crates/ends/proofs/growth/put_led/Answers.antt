use Rattle.std.proofs.Common.{OnOk, ◌<◌, ℕ, [], length, get_or, refl, sym, subst, arith}
use Rattle.std.specs.List.{Contains}
use Rattle.std.proofs.lemmas.List.Elements.{Contains-push}
use Rattle.std.proofs.lemmas.Option.{get_or_from_slice_get, slice_get_within}
use Rattle.std.proofs.lemmas.Result.{on_ok_weaker}
use Rattle.moves.specs.EndSteps.{Along}
use Rattle.moves.specs.Moves.{targets_of}
use Rattle.moves.specs.Tables.{Shows, ShownWith, row_led, rows_of, with_rows}
use Rattle.moves.proofs.Showing.{led_one}
use Rattle.ends.proofs.growth.put_led.Goals as goal

pub put_next-requires-clause-within : goal.put_next-requires-clause-within
put_next-requires-clause-within g c =
    let there = c.requires.zero_there (subst (λ m. 0 < length (targets_of m c.args.targets.now)) (sym c.in-To.is) (omega arith)) in
    slice_get_within (get_or (rows_of c.args.table.now) c.args.from []) c.args.place 0 there

pub put_next-requires-clause-zero_there : goal.put_next-requires-clause-zero_there
put_next-requires-clause-zero_there g c =
    let there = c.requires.zero_there (subst (λ m. 0 < length (targets_of m c.args.targets.now)) (sym c.in-To.is) (omega arith)) in
    get_or_from_slice_get (get_or (rows_of c.args.table.now) c.args.from []) c.args.place 0 0 there

pub returns-in-To-clause-puts : goal.returns-in-To-clause-puts
returns-in-To-clause-puts g c calls ends shown each =
    let t = c.args.table.now in
    let row = get_or (rows_of t) c.args.from [] in
    let to : ℕ × ℕ = (c.in-To.number, c.in-To.slot) in
    let f = each to (subst (λ m. Contains (targets_of m c.args.targets.now) to) (sym c.in-To.is) (Contains-push [] to)) in
    on_ok_weaker c.put_next.result
    (λ put. subst (λ m. ShownWith (with_rows t c.put_next.new.self) calls ends (Along (λ x g. Shows t calls (row_led row c.args.place x) g) (targets_of m c.args.targets.now))) (sym c.in-To.is)
    (led_one calls t (with_rows t c.put_next.new.self) row c.args.place to ends refl refl f.0 f.1 put shown))
    c.put_next.ensures.put

pub returns-in-ToEach-clause-puts : goal.returns-in-ToEach-clause-puts
returns-in-ToEach-clause-puts g c calls ends shown each =
    let t = c.args.table.now in
    let targets = c.args.targets.now in
    let row = get_or (rows_of t) c.args.from [] in
    subst (λ m. OnOk c.put_each.result (ShownWith c.put_each.new.table calls ends (Along (λ x g. Shows t calls (row_led row c.args.place x) g) (targets_of m targets)))) (sym c.in-ToEach.is)
    (c.put_each.ensures.puts calls ends shown (λ to h. each to (subst (λ m. Contains (targets_of m targets) to) (sym c.in-ToEach.is) h)))
