-- A history that is linearizable is not Illegal, whatever keys are set aside
use Rattle.std.proofs.Common.{ℕ, ⊎_elim, Bool, not, List, [], ◌∷◌, ◌++◌, sym, ap, subst}
use Rattle.std.proofs.lemmas.Bool.{cases_Bool}
use Rattle.kinds.specs.declared.model_kind.ModelKind.{ModelKind}
use Rattle.kinds.specs.Kinds.{object_of}
use Rattle.events.specs.Events.{Entry, marks, of_key}
use Rattle.linspec.specs.Orders.{IsLinearizable, product}
use Rattle.linspec.specs.MarkRule.{AreWellFormed, IsKeyed}
use Rattle.linspec.specs.Verdicts.{IsVerdict, EndsShortestBadPrefix, set_aside}
use Rattle.linspec.specs.declared.verdict.Verdict.TheVariants.{Illegal}
use Rattle.linspec.proofs.Prefixes.{IsLinearizable-front}
use Rattle.linspec.proofs.Linearizable.{IsLinearizable-empty}
use Rattle.locality.proofs.SetAside.{IsKeyed-filter, AreWellFormed-filter, of_key-kept, of_key-aside}
use Rattle.locality.proofs.Locality.{IsLinearizable-keys}

module _ (kinds : ℕ → ModelKind) (entries : List Entry) (keyed : IsKeyed entries) (well : AreWellFormed (marks entries)) (lin : IsLinearizable (product kinds) (marks entries)) (blown : ℕ → Bool) where
  kept_keyed : IsKeyed (set_aside blown entries)
  kept_keyed = IsKeyed-filter (λ (e : Entry). not (blown e.key)) entries keyed

  kept_well : AreWellFormed (marks (set_aside blown entries))
  kept_well = AreWellFormed-filter (λ (e : Entry). not (blown e.key)) (λ e f same. ap (λ k. not (blown k)) same) entries keyed well

  each : (k : ℕ) → IsLinearizable (object_of (kinds k)) (marks (of_key k (set_aside blown entries)))
  each k = ⊎_elim
      (λ t. subst (λ l. IsLinearizable (object_of (kinds k)) (marks l)) (sym (of_key-aside blown k entries t)) (IsLinearizable-empty (object_of (kinds k))))
      (λ f. subst (λ l. IsLinearizable (object_of (kinds k)) (marks l)) (sym (of_key-kept blown k entries f)) ((IsLinearizable-keys kinds entries keyed well).0 lin k))
      (cases_Bool (blown k))

  pub aside_linearizable : IsLinearizable (product kinds) (marks (set_aside blown entries))
  aside_linearizable = (IsLinearizable-keys kinds (set_aside blown entries) kept_keyed kept_well).1 each

  pub no_bad_front : (last : Entry) → EndsShortestBadPrefix (product kinds) (set_aside blown entries) last → ⊥
  no_bad_front last bad =
      bad.bad (IsLinearizable-front (product kinds) (bad.before ++ last ∷ []) (set_aside blown entries) kept_well bad.front aside_linearizable)

pub never_illegal : (kinds : ℕ → ModelKind) (budgets : ℕ → ℕ) (entries : List Entry) → IsKeyed entries → AreWellFormed (marks entries) → IsLinearizable (product kinds) (marks entries) → (key index : ℕ) → IsVerdict kinds budgets entries (Illegal key index) → ⊥
never_illegal kinds budgets entries keyed well lin key index v = no_bad_front kinds entries keyed well lin v.0 v.2.0 v.2.1
