-- a history without events
use Rattle.std.proofs.Common.{◌≡◌, ◌+◌, suc, [], ◌∷◌, ◌++◌, length, refl, ap, arith, length-append}
use Rattle.linspec.specs.MarkRule.{AreWellFormed}
use Rattle.linspec.proofs.Lists.{Contains-nil}
use Rattle.set_chains.specs.Chains.{IsChained}
use Rattle.wide_set.specs.Facts.{no_facts, AreFacts}

none_well : AreWellFormed []
none_well before after m cut =
    let a : length (before ++ m ∷ after) ≡ length before + suc (length after) = length-append before (m ∷ after) in
    let b : length (before ++ m ∷ after) ≡ 0 = ap length cut in
    absurd (omega arith)

none_chained : IsChained []
none_chained = record {
  known = λ id r. absurd (Contains-nil _ r.1);
  chain = λ a b these those h k. absurd (Contains-nil _ h.answer);
  added = λ read members v id h i comes. absurd (Contains-nil _ h.answer);
  in_turn = λ read members id h comes p. Contains-nil _ h.answer;
}

pub no_facts_are : AreFacts no_facts []
no_facts_are = record {
  well = none_well;
  chained = none_chained;
  now = refl;
  pending = record { is = λ p h. absurd (Contains-nil p h); all = λ id o. absurd (Contains-nil _ o.invoked.1) };
  logged = record {
    is = λ a h. absurd (Contains-nil a h);
    all = λ v id n op a out c s. absurd (Contains-nil _ a.1);
    done = λ v id n answer a out s. absurd (Contains-nil _ a.1);
  };
  answers = record { is = λ a h. absurd (Contains-nil a h); all = λ id n members r s. absurd (Contains-nil _ r.answer) };
  nested = record { ascending = λ a h. absurd (Contains-nil a h); nested = tt };
  based = λ v h. absurd (Contains-nil v h);
}
