-- the integers of each part are put behind those of the parts before it, so all are there at the end, and ascend
use Rattle.std.proofs.Common.{◌≡◌, length, sym, ap, ◌∙◌, subst, arith}
use Rattle.std.proofs.lemmas.List.{take_all}
use Rattle.values.specs.Members.{IsAscending}
use Rattle.values.specs.Sums.{sum_of}
use Rattle.values.specs.Spans.{integers_in}
use Rattle.values.proofs.InSpans.{integers_ascend}
use Rattle.values.proofs.Joining.{part_apart}
use Rattle.values.proofs.spans.Spans.to_members.Goals as goal

pub append_spans-requires : goal.append_spans-requires
append_spans-requires c =
    let part = c.part_at-part.result.now in
    part_apart c.self.inside.spans part c.parts.at (length part) c.self.invariant.apart c.part_at-part.ensures.part

pub of_listed-requires : goal.of_listed-requires
of_listed-requires c =
    let xs = c.self.inside.spans in
    let len = c.len-len.ensures in
    let all : c.parts.items.items ≡ integers_in xs = c.parts.invariant.so_far ∙ ap integers_in (take_all c.parts.at xs (omega (arith, len))) in
    record {
      ascending = subst IsAscending (sym all) (integers_ascend xs c.self.invariant.apart);
      sums = c.self.invariant.sums ∙ ap sum_of (sym all);
    }
