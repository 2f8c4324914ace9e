use Rattle.std.proofs.Common.{take, ap, ◌∙◌, arith}
use Rattle.std.proofs.lemmas.Grind.{common_steps}
use Rattle.std.proofs.lemmas.List.{take-map}
use Rattle.rows.proofs.Listing.{first_hashed, first_indexed, not_indexed}
use Rattle.rows.proofs.lists.Lists.truncate.Goals.{then-len, else-len}
use Rattle.rows.proofs.lists.Lists.truncate.Goals as goal

pub invariant_of-self : goal.invariant_of-self
invariant_of-self c =
    let n = c.args.len in
    let inside = c.self.inside in
    elim c.if-len.branch [
      | then-len w ↦ (
          not_indexed _ _ _ _
          (first_hashed inside.items.items _ inside.hashes.items _ n c.self.invariant.hashed
          (c.truncate-2.ensures.items ∙ ap (λ s. take n s.items.items) w.self-inside-is)
          (c.truncate.ensures.items ∙ ap (λ s. take n s.hashes.items) w.self-inside-is))
          (ap (λ s. s.index.last.items) w.self-inside-is ∙ w.clear.ensures.last)
          (ap (λ s. s.index.before.items) w.self-inside-is ∙ w.clear.ensures.before))
      | else-len w ↦ record {
        hashed =
            first_hashed inside.items.items _ inside.hashes.items _ n c.self.invariant.hashed
            (c.truncate-2.ensures.items ∙ ap (λ s. take n s.items.items) w.self-inside-is)
            (c.truncate.ensures.items ∙ ap (λ s. take n s.hashes.items) w.self-inside-is);
        index =
            first_indexed inside.hashes.items _ inside.index.last.items _ inside.index.before.items _ n c.self.invariant.index
            (let e = c.len.ensures in let l = w.if-len in omega (arith, e, l))
            (c.truncate.ensures.items ∙ ap (λ s. take n s.hashes.items) w.self-inside-is)
            (ap (λ s. s.index.last.items) w.self-inside-is)
            (ap (λ s. s.index.before.items) w.self-inside-is);
      }
    ]

pub returns : goal.returns
returns c = grind (arith, common_steps, take-map)
