-- a history without events
use Rattle.std.proofs.Common.{◌≡◌, ◌+◌, ◌≤◌, suc, List, [], ◌∷◌, ◌++◌, length, refl, sym, ap, subst, arith, length-append}
use Rattle.events.specs.Events.{Mark}
use Rattle.linspec.specs.MarkRule.{AreWellFormed}
use Rattle.linspec.proofs.Lists.{Contains-nil}
use Rattle.bag_matches.specs.Counts.{enqueued, dequeued, IsBalanced}
use Rattle.wide_unordered_queue.specs.Facts.{no_facts, AreFacts}

none_well : AreWellFormed []
none_well before after m cut =
    let a : length (before ++ m ∷ after) ≡ length before + suc (length after) = length-append before (m ∷ after) in
    let b : length (before ++ m ∷ after) ≡ 0 = ap length cut in
    absurd (omega arith)

no_front : (front rest : List Mark) → front ++ rest ≡ [] → front ≡ []
no_front [] rest cut = refl
no_front (x ∷ front) rest cut = cc

none_balanced : IsBalanced []
none_balanced = record {
  known = λ id r. absurd (Contains-nil _ r.1);
  covered = λ v front rest cut. subst (λ l. dequeued [] v l ≤ enqueued [] v l) (sym (no_front front rest cut)) (omega arith);
}

pub no_facts_are : AreFacts no_facts []
no_facts_are = record {
  well = none_well;
  balanced = none_balanced;
  pending = record { is = λ p h. absurd (Contains-nil p h); all = λ id o. absurd (Contains-nil _ o.invoked.1) };
  counted = λ v. refl;
}
