-- An event has one refusal at most, and a well-formed one has none
use Rattle.std.proofs.Common.{◌≡◌, ◌⊎◌, inl, inr, ℕ, Option, Some, None, List, refl, sym, ap, ◌∙◌, subst}
use Rattle.edn.specs.declared.refusal.Refusal.{Refusal}
use Rattle.edn.specs.declared.refusal.Refusal.TheVariants.{NotOpen, Mismatch, BadValue, BadIndex, HistoryFull}
use Rattle.models.specs.declared.operation.Op.{Op}
use Rattle.events.specs.declared.event.EventKind.{EventKind}
use Rattle.events.specs.declared.event.EventKind.TheVariants.{Invoke}
use Rattle.events.specs.declared.event.Process.{Process}
use Rattle.events.specs.declared.event.Process.TheVariants.{Client, Nemesis}
use Rattle.events.specs.declared.event.Body.{Body}
use Rattle.events.specs.declared.event.Body.TheVariants.{Op as AnOp, Fault as AFault}
use Rattle.events.specs.declared.event.Event.{Event}
use Rattle.processes.specs.MoveRule.{RefusesMove}
use Rattle.processes.specs.MoveRule.Move.{Invokes}
use Rattle.processes.proofs.Refused.{one}
use Rattle.processes.proofs.Refused.{none as never}
use Rattle.events.specs.Tables.{Completes}
use Rattle.history.specs.WellFormed.{IsValue, IsIndex, HasRoom, moves_of, open_of, FollowsRule, BreaksRule, IfClient, IsClientAnd, IsWellFormed, Refuses}

-- one test: an event that fails it is refused for x, and an event that passes it as the later tests say
abbrev Test : Type 0 → Refusal → Refusal → Type 0 → Type 0
Test Passes x why Later = ((why ≡ x) × ¬ Passes) ⊎ (Passes × Later)

one_test : (Passes : Type 0) (x why other : Refusal) (Later Others : Type 0) → (Later → Others → why ≡ other) → Test Passes x why Later → Test Passes x other Others → why ≡ other
one_test Passes x why other Later Others one (inl a) (inl b) = a.0 ∙ sym b.0
one_test Passes x why other Later Others one (inl a) (inr b) = absurd (a.1 b.0)
one_test Passes x why other Later Others one (inr a) (inl b) = absurd (b.1 a.0)
one_test Passes x why other Later Others one (inr a) (inr b) = one a.1 b.1

-- a completion that is not the one of an open operation
abbrev IsMismatch : List Event → EventKind → ℕ → Op → Type 0
IsMismatch events kind p op = (i : ℕ) × (invoked : Op) × (open_of events p ≡ Some (i, invoked)) × ¬ Completes kind invoked op

-- the tests of the process rule in turn
abbrev RuleTests : ℕ → List Event → EventKind → ℕ → Op → Refusal → Type 0
RuleTests c events Invoke p op why = RefusesMove c (moves_of events) (Invokes p) why
RuleTests c events kind p op why = ((why ≡ NotOpen) × (open_of events p ≡ None)) ⊎ ((why ≡ Mismatch) × IsMismatch events kind p op)

rule_tests : (c : ℕ) (events : List Event) (kind : EventKind) (p : ℕ) (op : Op) (why : Refusal) → BreaksRule c events kind p op why → RuleTests c events kind p op why
rule_tests c events Invoke p op why h = h
rule_tests c events kind p op NotOpen h = inl (refl, h)
rule_tests c events kind p op Mismatch h = inr (refl, h)
rule_tests c events kind p op _ h = absurd h

not_open : (found : Option (ℕ × Op)) (i : ℕ) (invoked : Op) → found ≡ None → found ≡ Some (i, invoked) → ⊥
not_open found i invoked a b = (let both : ◌≡◌ {A = Option (ℕ × Op)} None (Some (i, invoked)) = sym a ∙ b in cc)

one_completion : (found : Option (ℕ × Op)) (Wrong : Type 0) (why other : Refusal) → ((found ≡ None) → Wrong → ⊥)
    → ((why ≡ NotOpen) × (found ≡ None)) ⊎ ((why ≡ Mismatch) × Wrong) → ((other ≡ NotOpen) × (found ≡ None)) ⊎ ((other ≡ Mismatch) × Wrong) → why ≡ other
one_completion found Wrong why other apart (inl a) (inl b) = a.0 ∙ sym b.0
one_completion found Wrong why other apart (inl a) (inr b) = absurd (apart a.1 b.1)
one_completion found Wrong why other apart (inr a) (inl b) = absurd (apart b.1 a.1)
one_completion found Wrong why other apart (inr a) (inr b) = a.0 ∙ sym b.0

one_break : (c : ℕ) (events : List Event) (kind : EventKind) (p : ℕ) (op : Op) (why other : Refusal) → RuleTests c events kind p op why → RuleTests c events kind p op other → why ≡ other
one_break c events Invoke p op why other a b = one c (moves_of events) (Invokes p) why other a b
one_break c events kind p op why other a b =
    one_completion (open_of events p) (IsMismatch events kind p op) why other (λ none m. not_open (open_of events p) m.0 m.1 none m.2) a b

one_rule : (c : ℕ) (events : List Event) (kind : EventKind) (process : Process) (body : Body) (why other : Refusal)
    → IsClientAnd process body (λ p op. BreaksRule c events kind p op why) → IsClientAnd process body (λ p op. BreaksRule c events kind p op other) → why ≡ other
one_rule c events kind (Client p) (AnOp op) why other a b = one_break c events kind p op why other (rule_tests c events kind p op why a) (rule_tests c events kind p op other b)
one_rule c events kind (Client p) (AFault fault) why other a b = absurd a
one_rule c events kind Nemesis body why other a b = absurd a

-- the event breaks the rule by this refusal
abbrev Breaks : ℕ → List Event → Event → Refusal → Type 0
Breaks c events e why = IsClientAnd e.process e.body (λ p op. BreaksRule c events e.kind p op why)

abbrev AfterIndex : ℕ → List Event → Event → Refusal → Type 0
AfterIndex c events e why = Test (HasRoom events) HistoryFull why (Breaks c events e why)

abbrev AfterValue : ℕ → List Event → Event → Refusal → Type 0
AfterValue c events e why = Test (IsIndex events e.index) BadIndex why (AfterIndex c events e why)

-- the tests of an event in turn
abbrev Tests : ℕ → List Event → Event → Refusal → Type 0
Tests c events e why = Test (IsValue e) BadValue why (AfterValue c events e why)

tests : (c : ℕ) (events : List Event) (e : Event) (why : Refusal) → Refuses c events e why → Tests c events e why
tests c events e BadValue h = inl (refl, h)
tests c events e BadIndex h = inr (h.0, inl (refl, h.1))
tests c events e HistoryFull h = inr (h.0, inr (h.1, inl (refl, h.2)))
tests c events e _ h = inr (h.0.0, inr (h.0.1, inr (h.0.2, h.1)))

one_of_tests : (c : ℕ) (events : List Event) (e : Event) (why other : Refusal) → Tests c events e why → Tests c events e other → why ≡ other
one_of_tests c events e why other a b =
    one_test (IsValue e) BadValue why other (AfterValue c events e why) (AfterValue c events e other)
    (λ x y. one_test (IsIndex events e.index) BadIndex why other (AfterIndex c events e why) (AfterIndex c events e other)
    (λ v w. one_test (HasRoom events) HistoryFull why other (Breaks c events e why) (Breaks c events e other) (λ r s. one_rule c events e.kind e.process e.body why other r s) v w) x y) a b

pub refusal_one : (c : ℕ) (events : List Event) (e : Event) (why other : Refusal) → Refuses c events e why → Refuses c events e other → why ≡ other
refusal_one c events e why other a b = one_of_tests c events e why other (tests c events e why a) (tests c events e other b)

same_open : (found : Option (ℕ × Op)) (i j : ℕ) (op other : Op) → found ≡ Some (i, op) → found ≡ Some (j, other) → op ≡ other
same_open found i j op other a b =
    (let both : ◌≡◌ {A = Option (ℕ × Op)} (Some (i, op)) (Some (j, other)) = sym a ∙ b in
    let same : ◌≡◌ {A = ℕ × Op} (i, op) (j, other) = cc in
    ap (λ (x : ℕ × Op). x.1) same)

completion_stands : (events : List Event) (kind : EventKind) (p : ℕ) (op : Op) (why : Refusal) → (i : ℕ) × (invoked : Op) × (open_of events p ≡ Some (i, invoked)) × Completes kind invoked op
    → ((why ≡ NotOpen) × (open_of events p ≡ None)) ⊎ ((why ≡ Mismatch) × IsMismatch events kind p op) → ⊥
completion_stands events kind p op why f (inl a) = not_open (open_of events p) f.0 f.1 a.1 f.2
completion_stands events kind p op why f (inr a) = a.1.3 (subst (λ x. Completes kind x op) (same_open (open_of events p) f.0 a.1.0 f.1 a.1.1 f.2 a.1.2) f.3)

rule_stands : (c : ℕ) (events : List Event) (kind : EventKind) (p : ℕ) (op : Op) (why : Refusal) → FollowsRule c events kind p op → RuleTests c events kind p op why → ⊥
rule_stands c events Invoke p op why f a = never c (moves_of events) (Invokes p) why f a
rule_stands c events kind p op why f a = completion_stands events kind p op why f a

client_stands : (c : ℕ) (events : List Event) (kind : EventKind) (process : Process) (body : Body) (why : Refusal)
    → IfClient process body (λ p op. FollowsRule c events kind p op) → IsClientAnd process body (λ p op. BreaksRule c events kind p op why) → ⊥
client_stands c events kind (Client p) (AnOp op) why f h = rule_stands c events kind p op why f (rule_tests c events kind p op why h)
client_stands c events kind (Client p) (AFault fault) why f h = h
client_stands c events kind Nemesis body why f h = h

pub well_formed_stands : (c : ℕ) (events : List Event) (e : Event) (why : Refusal) → IsWellFormed c events e → ¬ Refuses c events e why
well_formed_stands c events e BadValue w h = h w.0
well_formed_stands c events e BadIndex w h = h.1 w.1
well_formed_stands c events e HistoryFull w h = h.2 w.2
well_formed_stands c events e why w h = client_stands c events e.kind e.process e.body why w.3 h.1
