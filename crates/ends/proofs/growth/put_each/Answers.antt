use Rattle.std.proofs.Common.{◌<◌, ℕ, [], length, get_or, refl, ap, ◌∙◌, subst, arith}
use Rattle.std.proofs.lemmas.List.{take_all}
use Rattle.std.proofs.lemmas.List.Elements.{Contains-get_or}
use Rattle.std.proofs.lemmas.Option.{get_or_from_slice_get, slice_get-get_or, slice_get_within}
use Rattle.words.specs.Puts.{IsPut}
use Rattle.moves.specs.EndSteps.{Along}
use Rattle.moves.specs.Tables.{Shows, ShownWith, row_led, rows_of, with_rows}
use Rattle.moves.proofs.Adding.{IsPrefixOf-trans}
use Rattle.moves.proofs.Showing.{front_by, front_stays, front_within, led_more}
use Rattle.ends.proofs.growth.put_each.Goals as goal

pub put_next-requires-clause-within : goal.put_next-requires-clause-within
put_next-requires-clause-within g c =
    let there = c.requires.zero_there (omega arith) in
    let lt = slice_get_within (get_or (rows_of c.args.table.now) c.args.from []) c.args.place 0 there in
    let long = ap length c.loop-at.invariant.here in
    omega (arith, lt, long)

pub put_next-requires-clause-zero_there : goal.put_next-requires-clause-zero_there
put_next-requires-clause-zero_there g c =
    let there = c.requires.zero_there (omega arith) in
    ap (λ l. get_or l c.args.place 0) c.loop-at.invariant.here ∙ get_or_from_slice_get (get_or (rows_of c.args.table.now) c.args.from []) c.args.place 0 0 there

pub loop-at-preserved : goal.loop-at-preserved
loop-at-preserved g c =
    let i = c.loop-at.invariant in
    let to : ℕ × ℕ = get_or c.args.targets.now c.loop-at.at (0, 0) in
    let lt : c.loop-at.at < length c.args.targets.now = omega arith in
    let put : IsPut (row_led (get_or c.loop-at.table.rows c.args.from []) c.args.place to) c.loop-at.table.rows c.put_next.new.self = c.in_ok-put_next.ensures.put in
    let front = front_by c.loop-at.table.rows c.loop-at.table.rows c.put_next.new.self (row_led (get_or c.loop-at.table.rows c.args.from []) c.args.place to) refl put in
    record {
      states = i.states;
      founds = i.founds;
      front = IsPrefixOf-trans (rows_of c.args.table.now) c.loop-at.table.rows c.put_next.new.self i.front front;
      here = front_stays c.loop-at.table.rows c.put_next.new.self c.args.from i.within front ∙ i.here;
      within = front_within c.loop-at.table.rows c.put_next.new.self c.args.from i.within front;
      puts = λ calls ends shown each.
          let f = each to (Contains-get_or c.args.targets.now c.loop-at.at (0, 0) lt) in
          led_more calls c.args.table.now c.loop-at.table (with_rows c.loop-at.table c.put_next.new.self) (get_or (rows_of c.args.table.now) c.args.from []) c.args.place c.args.targets.now c.loop-at.at to ends
          (slice_get-get_or c.args.targets.now c.loop-at.at (0, 0) lt) i.states i.founds refl refl f.0 f.1
          (subst (λ r. IsPut (row_led r c.args.place to) c.loop-at.table.rows c.put_next.new.self) i.here put) (i.puts calls ends shown each);
    }

pub returns-clause-puts : goal.returns-clause-puts
returns-clause-puts g c calls ends shown each =
    subst (λ l. ShownWith c.loop-at.table calls ends (Along (λ to f. Shows c.args.table.now calls (row_led (get_or (rows_of c.args.table.now) c.args.from []) c.args.place to) f) l))
    (take_all c.loop-at.at c.args.targets.now (omega arith)) (c.loop-at.invariant.puts calls ends shown each)
