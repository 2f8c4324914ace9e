-- where all entries are of one key, its status gives the verdict
use Rattle.std.proofs.Common.{◌≡◌, ℕ, ⊎_elim, nat_eq, List, [], ◌∷◌, ◌++◌, refl, sym, ap, ◌∙◌, subst}
use Rattle.std.specs.List.{Contains}
use Rattle.std.proofs.lemmas.Bool.{eq-eqb}
use Rattle.kinds.specs.declared.model_kind.ModelKind.{ModelKind}
use Rattle.kinds.specs.Kinds.{object_of}
use Rattle.events.specs.Events.{Entry, of_key, marks}
use Rattle.linspec.specs.declared.verdict.KeyStatus.{KeyStatus}
use Rattle.linspec.specs.declared.verdict.KeyStatus.TheVariants.{Alive, Dead, Over}
use Rattle.linspec.specs.declared.verdict.Verdict.TheVariants.{Legal}
use Rattle.linspec.specs.MarkRule.{AreWellFormed, IsKeyed}
use Rattle.linspec.specs.Ends.{Count}
use Rattle.linspec.specs.Verdicts.{IsKeyStatusBy, IsRising, AreStatusesBy, IsJoin, IsVerdictBy}
use Rattle.linspec.proofs.Lists.{Contains-nil, Contains-head, Contains-tail, Contains-cons_cases}
use Rattle.linspec.proofs.Filters.{filter-yes}
use Rattle.locality.specs.OneKey.{IsOfKey, verdict_of}
use Rattle.locality.proofs.BadKeys.{IsJoin-none}
use Rattle.locality.proofs.Joins.{IsVerdict-join}
use Rattle.locality.proofs.MoreStatuses.{IsJoin-alive, IsJoin-dead_legal, IsJoin-over_legal}

-- the entries of the key are all entries
of_key-all : (key : ℕ) (entries : List Entry) → IsOfKey key entries → of_key key entries ≡ entries
of_key-all key [] all = refl
of_key-all key (e ∷ entries) all =
    filter-yes (λ (x : Entry). nat_eq x.key key) e entries (eq-eqb e.key key (all e (Contains-head e entries)))
    ∙ ap (λ l. e ∷ l) (of_key-all key entries (λ x h. all x (Contains-tail e entries x h)))

-- the statuses of all keys are that of this key alone
AreStatuses-one : (more : ModelKind → Count) (kinds : ℕ → ModelKind) (budgets : ℕ → ℕ) (key : ℕ) (entries : List Entry) (status : KeyStatus) → IsOfKey key entries
    → IsKeyStatusBy (more (kinds key)) (object_of (kinds key)) (budgets key) entries status → AreStatusesBy more kinds budgets entries ((key, status) ∷ [])
AreStatuses-one more kinds budgets key entries status all is = record {
  each = λ k s h. ⊎_elim
      (λ (e : ◌≡◌ {A = ℕ × KeyStatus} (key, status) (k, s)).
      subst (λ (p : ℕ × KeyStatus). IsKeyStatusBy (more (kinds p.0)) (object_of (kinds p.0)) (budgets p.0) (of_key p.0 entries) p.1) e
      (subst (λ (l : List Entry). IsKeyStatusBy (more (kinds key)) (object_of (kinds key)) (budgets key) l status) (sym (of_key-all key entries all)) is))
      (λ n. absurd (Contains-nil (k, s) n))
      (Contains-cons_cases (key, status) [] (k, s) h);
  once = ((λ p h. absurd (Contains-nil p h)), tt);
  all = λ e h. (status, subst (λ (k : ℕ). Contains {X = ℕ × KeyStatus} ((key, status) ∷ []) (k, status)) (sym (all e h)) (Contains-head (key, status) []));
}

IsJoin-one : (key : ℕ) (status : KeyStatus) → IsJoin ((key, status) ∷ []) (verdict_of key status)
IsJoin-one key Alive = IsJoin-alive [] key Legal IsJoin-none
IsJoin-one key (Dead index) = IsJoin-dead_legal [] key index IsJoin-none
IsJoin-one key (Over index) = IsJoin-over_legal [] key index IsJoin-none

pub IsVerdict-one : (more : ModelKind → Count) (kinds : ℕ → ModelKind) (budgets : ℕ → ℕ) (key : ℕ) (entries : List Entry) (status : KeyStatus)
    → IsKeyed entries → AreWellFormed (marks entries) → IsRising entries → IsOfKey key entries
    → IsKeyStatusBy (more (kinds key)) (object_of (kinds key)) (budgets key) entries status → IsVerdictBy more kinds budgets entries (verdict_of key status)
IsVerdict-one more kinds budgets key entries status keyed well rising all is =
    IsVerdict-join more kinds budgets entries ((key, status) ∷ []) keyed well rising (AreStatuses-one more kinds budgets key entries status all is) (verdict_of key status) (IsJoin-one key status)

pub IsVerdict-none : (more : ModelKind → Count) (kinds : ℕ → ModelKind) (budgets : ℕ → ℕ) → IsVerdictBy more kinds budgets [] Legal
IsVerdict-none more kinds budgets =
    IsVerdict-join more kinds budgets [] []
    (record { op_key = λ e id op h. absurd (Contains-nil e h); one_key = λ e f h. absurd (Contains-nil e h) })
    (λ before after m cut. absurd (no_cut before after m cut)) tt
    (record { each = λ k s h. absurd (Contains-nil (k, s) h); once = tt; all = λ e h. absurd (Contains-nil e h) })
    Legal IsJoin-none
  where
    no_cut : {X : Type 0} (before after : List X) (x : X) → before ++ x ∷ after ≡ [] → ⊥
    no_cut [] after x e = cc
    no_cut (b ∷ before) after x e = cc
