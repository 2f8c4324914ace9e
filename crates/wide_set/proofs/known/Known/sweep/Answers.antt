use Rattle.std.proofs.Common.{subst}
use Rattle.std.specs.List.{Contains}
use Rattle.wide_set.specs.Facts.{facts_of}
use Rattle.wide_set.proofs.Bases.{swept_are}
use Rattle.wide_set.proofs.known.Known.sweep.Goals as goal

pub returns : goal.returns
returns c ms facts = swept_are (facts_of c.args.self.now) ms facts c.in_ok-log.log c.in_ok-log.ensures.was (λ a h out. c.in_ok-log.ensures.stays a h (λ i. out (subst (λ l. Contains l a.value) c.as_slice.ensures.value i)))
