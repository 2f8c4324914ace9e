-- a history without events
use Rattle.std.proofs.Common.{◌≡◌, ◌+◌, suc, [], ◌∷◌, ◌++◌, length, refl, ap, arith, length-append}
use Rattle.linspec.specs.MarkRule.{AreWellFormed}
use Rattle.linspec.proofs.Lists.{Contains-nil}
use Rattle.queue_pairs.specs.Pairs.{IsPaired}
use Rattle.wide_fifo_queue.specs.Facts.{no_facts, AreFacts}

none_well : AreWellFormed []
none_well before after m cut =
    let a : length (before ++ m ∷ after) ≡ length before + suc (length after) = length-append before (m ∷ after) in
    let b : length (before ++ m ∷ after) ≡ 0 = ap length cut in
    absurd (omega arith)

none_paired : IsPaired []
none_paired = record {
  known = λ id r. absurd (Contains-nil _ r.1);
  added = λ d v h. absurd (Contains-nil _ h.answer);
  once = λ c d v h k. absurd (Contains-nil _ h.answer);
  in_turn = λ u v c d b h k p. Contains-nil _ h.answer;
  taken = (
    (λ u. 0),
    record {
      may = λ u d o. absurd (Contains-nil _ o.dequeued.answer);
      in_time = λ u d o p. Contains-nil _ o.dequeued.answer;
      apart = λ u w d e o q same. absurd (Contains-nil _ o.dequeued.answer);
    },
  );
}

pub no_facts_are : AreFacts no_facts []
no_facts_are = record {
  well = none_well;
  paired = none_paired;
  now = refl;
  pending = record { is = λ p h. absurd (Contains-nil p h); all = λ id o. absurd (Contains-nil _ o.invoked.1) };
  entries = record {
    is = λ e h. absurd (Contains-nil e h);
    is_late = λ e h. absurd (Contains-nil e h);
    all = λ id v a. absurd (Contains-nil _ a.0.1);
    by_value = tt;
    taken = λ e n h t. absurd (Contains-nil e h);
    told = λ e d h k. absurd (Contains-nil e h);
  };
  waiting = record { is = λ w h. absurd (Contains-nil w h); not_passed = λ w t h p. Contains-nil w h; in_order = tt };
  owed = record {
    is = λ o h. absurd (Contains-nil o h);
    passed = λ o h. absurd (Contains-nil o h);
    least = λ o t h p. absurd (Contains-nil o h);
    in_order = tt;
  };
  among = λ v n w. absurd (Contains-nil w.entry w.here);
  takers = record { is = λ t h. absurd (Contains-nil t h); all = λ id m. absurd (Contains-nil _ m.invoked); in_order = tt };
}
