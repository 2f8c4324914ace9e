use Rattle.std.proofs.Common.{rules, ◌≡◌, ◌++◌, true, take, sym, ap, ◌∙◌, arith}
use Rattle.std.proofs.lemmas.Bool.{true≢false}
use Rattle.persistent.proofs.Rows.{take_part, same_pieces}
use Rattle.persistent.proofs.tree.Tree.same_by_parts.Goals as goal

pub returns-then-not-are_same : goal.returns-then-not-are_same
returns-then-not-are_same g c =
    let ours = c.part_at-ours in
    let theirs = c.part_at-theirs in
    let many = c.min-many.result in
    let less = c.min-many.ensures in (
      (λ t. absurd (true≢false (sym t))),
      (λ e.
          let alike : c.are_same.result ≡ true = c.are_same.ensures.1 (same_pieces c.args.self.now c.args.other.now ours.result.now theirs.result.now c.parts.at many ours.ensures.within ours.ensures.part (omega (arith, less))
          theirs.ensures.within theirs.ensures.part (omega (arith, less)) e) in
          absurd (cc)),
    )

pub parts-preserved : goal.parts-preserved
parts-preserved g c =
    let ours = c.part_at-ours in
    let theirs = c.part_at-theirs in
    let many = c.min-many.result in
    let less = c.min-many.ensures in
    let within = ours.ensures.within in
    let alike : c.are_same.result ≡ true = search rules in
    record {
      within = omega (arith, less, within);
      same = take_part c.args.self.now ours.result.now c.parts.at many ours.ensures.within ours.ensures.part (omega (arith, less))
          ∙ ap (λ l. l ++ take many ours.result.now) c.parts.invariant.same
          ∙ ap (λ l. take c.parts.at c.args.other.now ++ l) (c.are_same.ensures.0 alike)
          ∙ sym (take_part c.args.other.now theirs.result.now c.parts.at many theirs.ensures.within theirs.ensures.part (omega (arith, less)));
    }
