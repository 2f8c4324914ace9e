use Rattle.std.proofs.Common.{◌≡◌, arith, sym, subst}
use Rattle.std.proofs.lemmas.Grind.{common_steps}
use Rattle.plain_events.specs.Prefixes.{BeginsNumeral}
use Rattle.plain_events.proofs.usual.head.Goals as goal

pub returns : goal.returns
returns c =
    let first : c.in_ok-index.index ≡ c.in_ok-first.first = grind (arith, common_steps) in
    let second : c.in_ok-process.process ≡ c.in_ok-second.second = grind (arith, common_steps) in
    record {
      number = c.in_ok-value.value.now;
      behind = c.in_ok-first.behind.now;
      client = c.in_ok-kind.client.now;
      cut = c.in_ok-value.ensures;
      index_at = subst (λ n. BeginsNumeral c.in_ok-value.value.now n c.in_ok-first.behind.now) (sym first) c.in_ok-first.ensures;
      small_index = grind (arith, common_steps);
      kind_at = c.in_ok-kind.ensures;
      process_at = subst (λ n. BeginsNumeral c.in_ok-kind.client.now n c.in_ok-second.rest.now) (sym second) c.in_ok-second.ensures;
      small = grind (arith, common_steps);
    }
