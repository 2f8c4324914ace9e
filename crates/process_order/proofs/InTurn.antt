-- The first of two operations of a process is over before the second is invoked
use Rattle.std.proofs.Common.{◌≡◌, ◌≢◌, ℕ, ◌+◌, ◌<◌, ◌⊎◌, inl, inr, ⊎_elim, cond, Option, Some, List, [], ◌∷◌, ◌++◌, length, refl, sym, ap, ◌∙◌, subst, append_assoc, length-append, arith}
use Rattle.std.specs.List.{Contains}
use Rattle.std.proofs.lemmas.Bool.{cases_eq, eq-eqb, ne_eqb}
use Rattle.std.proofs.lemmas.List.Elements.{Contains-append_left, Contains-append_right}
use Rattle.models.specs.declared.operation.Op.{Op}
use Rattle.models.specs.Objects.{answer_of}
use Rattle.processes.specs.MoveRule.{process_of}
use Rattle.processes.specs.MoveRule.Move.{Invokes}
use Rattle.events.specs.declared.event.EventKind.{EventKind}
use Rattle.events.specs.declared.event.EventKind.TheVariants.{Invoke, Ok, Fail, Info}
use Rattle.events.specs.declared.event.Process.{Process}
use Rattle.events.specs.declared.event.Process.TheVariants.{Client, Nemesis}
use Rattle.events.specs.declared.event.Body.{Body}
use Rattle.events.specs.declared.event.Body.TheVariants.{Op as AnOp, Fault as AFault}
use Rattle.events.specs.declared.event.Event.{Event}
use Rattle.events.specs.Events.{Mark, act_by, op_event, mark_by_act, entries_by, last_by, last_after, entries_from, entries_of, indexed_from, marks}
use Rattle.events.specs.Events.Mark.{Invoked, Returned, Failed}
use Rattle.history.specs.WellFormed.{move_by, move_of, open_of, IsHistoryOf}
use Rattle.history.proofs.Appending.{open_of-own, open_of-other}
use Rattle.history.proofs.Keeping.{by_client}
use Rattle.linspec.specs.Operations.{IsInvoked, Precedes}
use Rattle.linspec.proofs.Lists.{Contains-head}
use Rattle.linspec.proofs.Prefixes.{marks-append}
use Rattle.process_order.specs.ProcessOrder.{InvokesAt, IsOverBefore}
use Rattle.process_order.proofs.Moves.{invokes_client, busy_waits, crashed_is_gone, two_cuts}

-- the same behind more marks
over_behind : (xs ms : List Mark) (i j : ℕ) → IsOverBefore ms i j → IsOverBefore (xs ++ ms) i j
over_behind xs ms i j h = record {
  before = xs ++ h.before;
  after = h.after;
  cut = append_assoc xs h.before h.after ∙ ap (λ l. xs ++ l) h.cut;
  over = ⊎_elim
      (λ returned. inl (returned.0, Contains-append_right xs h.before (Returned i returned.0) returned.1))
      (λ failed. inr (Contains-append_right xs h.before (Failed i) failed))
      h.over;
  invoked = h.invoked;
}

process_of_move : (kind : EventKind) (p : ℕ) → process_of (move_by kind p) ≡ p
process_of_move Invoke p = refl
process_of_move Ok p = refl
process_of_move Fail p = refl
process_of_move Info p = refl

-- an event of another process leaves the last invocation of a process
last_of_other : (n : ℕ) (last : ℕ → ℕ) (q p : ℕ) (kind : EventKind) (op : Op) → p ≢ q → last_by n last q (act_by kind op) p ≡ last p
last_of_other n last q p Invoke op ne = ap (λ b. cond b n (last p)) (ne_eqb p q ne)
last_of_other n last q p Ok op ne = refl
last_of_other n last q p Fail op ne = refl
last_of_other n last q p Info op ne = refl

module _ (c p i j : ℕ) (pos : 0 < c) (second : Event) (after : List Event) (invokes : move_of second ≡ Some (Invokes p)) where
  -- the marks of these events and of the rest, where the last invocation of each process is known
  abbrev rest_from : ℕ → (ℕ → ℕ) → List Event → List Mark
  rest_from n last between = marks (entries_from last (indexed_from n (between ++ second ∷ after)))

  -- the second operation is invoked there
  second_comes : (between : List Event) (n : ℕ) (last : ℕ → ℕ) → j ≡ n + length between → IsInvoked (rest_from n last between) j
  second_comes [] n last at =
      (let is = invokes_client second p invokes in
      let j_is : n ≡ j = omega arith in (
        is.0,
        subst (λ k. Contains (rest_from n last []) (Invoked k is.0)) j_is
            (subst (λ e. Contains (marks (entries_from last (indexed_from n (e ∷ after)))) (Invoked n is.0)) (sym is.1)
            (Contains-head (Invoked n is.0) (marks (entries_from (last_after n last (op_event (by_client second.index Invoke p is.0))) (indexed_from (n + 1) after))))),
      ))
  second_comes (x ∷ between) n last at =
      (let r = second_comes between (n + 1) (last_after n last (op_event x)) (let q : j ≡ n + length (x ∷ between) = at in omega arith) in (
        r.0,
        subst (λ l. Contains l (Invoked j r.0)) (sym (marks-append (entries_by n last (op_event x)) (entries_from (last_after n last (op_event x)) (indexed_from (n + 1) (between ++ second ∷ after)))))
            (Contains-append_right (marks (entries_by n last (op_event x))) (rest_from (n + 1) (last_after n last (op_event x)) between) (Invoked j r.0) r.1),
      ))

  -- an event of the process whose operation is open
  own : (seen between : List Event) (n : ℕ) (last : ℕ → ℕ) (op : Op) (index : Option ℕ) (kind : EventKind) (o : Op) → j ≡ n + 1 + length between → open_of seen p ≡ Some (i, op) → last p ≡ i
      → IsHistoryOf c (seen ++ by_client index kind p o ∷ (between ++ second ∷ after)) → IsOverBefore (rest_from n last (by_client index kind p o ∷ between)) i j
  own seen between n last op index Invoke o at opened is h = absurd (busy_waits c seen (by_client index Invoke p o) p (i, op) refl (h seen (between ++ second ∷ after) (by_client index Invoke p o) refl) opened)
  own seen between n last op index Ok o at opened is h = record {
    before = Returned (last p) (answer_of o.part) ∷ [];
    after = rest_from (n + 1) (last_after n last (op_event (by_client index Ok p o))) between;
    cut = refl;
    over = inl (answer_of o.part, subst (λ k. Contains (Returned (last p) (answer_of o.part) ∷ []) (Returned k (answer_of o.part))) is (Contains-head (Returned (last p) (answer_of o.part)) []));
    invoked = second_comes between (n + 1) (last_after n last (op_event (by_client index Ok p o))) at;
  }
  own seen between n last op index Fail o at opened is h = record {
    before = Failed (last p) ∷ [];
    after = rest_from (n + 1) (last_after n last (op_event (by_client index Fail p o))) between;
    cut = refl;
    over = inr (subst (λ k. Contains (Failed (last p) ∷ []) (Failed k)) is (Contains-head (Failed (last p)) []));
    invoked = second_comes between (n + 1) (last_after n last (op_event (by_client index Fail p o))) at;
  }
  own seen between n last op index Info o at opened is h = absurd (crashed_is_gone c seen between after index o second p pos invokes h)

  -- one event, where the events behind it are known
  one : (seen between : List Event) (n : ℕ) (last : ℕ → ℕ) (op : Op) (index : Option ℕ) (kind : EventKind) (process : Process) (body : Body) → j ≡ n + 1 + length between → open_of seen p ≡ Some (i, op) → last p ≡ i
      → IsHistoryOf c (seen ++ record { index = index; kind = kind; process = process; body = body } ∷ (between ++ second ∷ after))
      → ((last' : ℕ → ℕ) → open_of (seen ++ record { index = index; kind = kind; process = process; body = body } ∷ []) p ≡ Some (i, op) → last' p ≡ i → IsOverBefore (rest_from (n + 1) last' between) i j)
      → IsOverBefore (rest_from n last (record { index = index; kind = kind; process = process; body = body } ∷ between)) i j
  one seen between n last op index kind (Client q) (AnOp o) at opened is h next =
      ⊎_elim
      (λ same. subst (λ k. IsHistoryOf c (seen ++ by_client index kind k o ∷ (between ++ second ∷ after)) → IsOverBefore (rest_from n last (by_client index kind k o ∷ between)) i j) same (λ g. own seen between n last op index kind o at opened is g) h)
      (λ ne. over_behind (mark_by_act n (last q) (act_by kind o) ∷ []) (rest_from (n + 1) (last_by n last q (act_by kind o)) between) i j
      (next (last_by n last q (act_by kind o))
      (open_of-other seen (by_client index kind q o) p (ne_eqb p (process_of (move_by kind q)) (λ e. ne (e ∙ process_of_move kind q))) ∙ opened)
      (last_of_other n last q p kind o ne ∙ is)))
      (cases_eq p q)
  one seen between n last op index kind (Client q) (AFault fault) at opened is h next =
      next last (open_of-other seen (record { index = index; kind = kind; process = Client q; body = AFault fault }) p refl ∙ opened) is
  one seen between n last op index kind Nemesis body at opened is h next =
      next last (open_of-other seen (record { index = index; kind = kind; process = Nemesis; body = body }) p refl ∙ opened) is

  -- the events between the two invocations
  walk : (between seen : List Event) (n : ℕ) (last : ℕ → ℕ) (op : Op) → j ≡ n + length between → open_of seen p ≡ Some (i, op) → last p ≡ i → IsHistoryOf c (seen ++ (between ++ second ∷ after)) → IsOverBefore (rest_from n last between) i j
  walk [] seen n last op at opened is h = absurd (busy_waits c seen second p (i, op) invokes (h seen after second refl) opened)
  walk (x ∷ between) seen n last op at opened is h =
      one seen between n last op x.index x.kind x.process x.body (let q : j ≡ n + length (x ∷ between) = at in omega arith) opened is h
      (λ last' opened' is'. walk between (seen ++ x ∷ []) (n + 1) last' op (let q : j ≡ n + length (x ∷ between) = at in omega arith) opened' is' (subst (IsHistoryOf c) (sym (append_assoc seen (x ∷ []) (between ++ second ∷ after))) h))

-- from the first invocation on
from_first : (c p i j : ℕ) (pos : 0 < c) (seen between after : List Event) (last : ℕ → ℕ) (first second : Event) → i ≡ length seen → j ≡ i + 1 + length between → move_of first ≡ Some (Invokes p) → move_of second ≡ Some (Invokes p)
    → IsHistoryOf c (seen ++ first ∷ (between ++ second ∷ after)) → IsOverBefore (marks (entries_from last (indexed_from i (first ∷ (between ++ second ∷ after))))) i j
from_first c p i j pos seen between after last first second here at invokes invokes_next h =
    (let is = invokes_client first p invokes in
    let e = by_client first.index Invoke p is.0 in
    let opened : open_of (seen ++ e ∷ []) p ≡ Some (i, is.0) = open_of-own seen e p (eq-eqb p p refl) ∙ ap (λ k. Some (k, is.0)) (sym here) in
    let now : last_by i last p (act_by Invoke is.0) p ≡ i = ap (λ b. cond b i (last p)) (eq-eqb p p refl) in
    let history : IsHistoryOf c ((seen ++ e ∷ []) ++ (between ++ second ∷ after)) = subst (IsHistoryOf c) (sym (append_assoc seen (e ∷ []) (between ++ second ∷ after))) (subst (λ f. IsHistoryOf c (seen ++ f ∷ (between ++ second ∷ after))) is.1 h) in
    subst (λ f. IsOverBefore (marks (entries_from last (indexed_from i (f ∷ (between ++ second ∷ after))))) i j) (sym is.1)
    (over_behind (Invoked i is.0 ∷ []) (marks (entries_from (last_by i last p (act_by Invoke is.0)) (indexed_from (i + 1) (between ++ second ∷ after)))) i j
    (walk c p i j pos second after invokes_next between (seen ++ e ∷ []) (i + 1) (last_by i last p (act_by Invoke is.0)) is.0 at opened now history)))

-- the events before it
from_start : (c p i j : ℕ) (pos : 0 < c) (before seen between after : List Event) (n : ℕ) (last : ℕ → ℕ) (first second : Event) → n ≡ length seen → i ≡ n + length before → j ≡ i + 1 + length between
    → move_of first ≡ Some (Invokes p) → move_of second ≡ Some (Invokes p) → IsHistoryOf c (seen ++ (before ++ first ∷ (between ++ second ∷ after)))
    → IsOverBefore (marks (entries_from last (indexed_from n (before ++ first ∷ (between ++ second ∷ after))))) i j
from_start c p i j pos [] seen between after n last first second len here at invokes invokes_next h =
    (let n_is : i ≡ n = (let q : i ≡ n + 0 = here in omega arith) in
    subst (λ k. IsOverBefore (marks (entries_from last (indexed_from k (first ∷ (between ++ second ∷ after))))) i j) n_is
    (from_first c p i j pos seen between after last first second (n_is ∙ len) at invokes invokes_next h))
from_start c p i j pos (x ∷ before) seen between after n last first second len here at invokes invokes_next h =
    (let r = from_start c p i j pos before (seen ++ x ∷ []) between after (n + 1) (last_after n last (op_event x)) first second
    (let more : length (seen ++ x ∷ []) ≡ length seen + 1 = length-append seen (x ∷ []) in omega arith)
    (let q : i ≡ n + length (x ∷ before) = here in omega arith) at invokes invokes_next
    (subst (IsHistoryOf c) (sym (append_assoc seen (x ∷ []) (before ++ first ∷ (between ++ second ∷ after)))) h) in
    let rest = entries_from (last_after n last (op_event x)) (indexed_from (n + 1) (before ++ first ∷ (between ++ second ∷ after))) in
    subst (λ l. IsOverBefore l i j) (sym (marks-append (entries_by n last (op_event x)) rest)) (over_behind (marks (entries_by n last (op_event x))) (marks rest) i j r))

pub in_turn : (c : ℕ) (events : List Event) (p i j : ℕ) → 0 < c → IsHistoryOf c events → InvokesAt events p i → InvokesAt events p j → i < j → IsOverBefore (marks (entries_of (indexed_from 0 events))) i j
in_turn c events p i j pos h first second less =
    (let t = two_cuts events p i j less first second in
    subst (λ l. IsOverBefore (marks (entries_of (indexed_from 0 l))) i j) (sym t.whole)
    (from_start c p i j pos t.before [] t.between t.after 0 (λ _. 0) t.first t.second refl (let q : i ≡ length t.before = t.place in omega arith) t.next_place t.invokes t.invokes_next (subst (IsHistoryOf c) t.whole h)))

-- what is over has failed, or precedes
failed_or_first : (all : List Mark) (i j : ℕ) → IsOverBefore all i j → Contains all (Failed i) ⊎ Precedes all i j
failed_or_first all i j h =
    ⊎_elim
    (λ returned. inr (record { before = h.before; after = h.after; cut = h.cut; returned = returned; invoked = h.invoked }))
    (λ failed. inl (subst (λ l. Contains l (Failed i)) h.cut (Contains-append_left h.before h.after (Failed i) failed)))
    h.over

pub fails_or_precedes : (c : ℕ) (events : List Event) (p i j : ℕ) → 0 < c → IsHistoryOf c events → InvokesAt events p i → InvokesAt events p j → i < j
    → Contains (marks (entries_of (indexed_from 0 events))) (Failed i) ⊎ Precedes (marks (entries_of (indexed_from 0 events))) i j
fails_or_precedes c events p i j pos h first second less = failed_or_first (marks (entries_of (indexed_from 0 events))) i j (in_turn c events p i j pos h first second less)
