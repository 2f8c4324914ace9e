-- The open operation of a process is its last invocation, and is open
use Rattle.std.proofs.Common.{◌≡◌, ◌≢◌, ℕ, ◌==◌, ⊎_elim, nat_eq, cond, true, Option, Some, None, List, [], ◌∷◌, ◌++◌, length, refl, sym, ap, ◌∙◌, subst}
use Rattle.std.specs.List.{Contains}
use Rattle.std.proofs.lemmas.Bool.{cases_eq, eq-eqb, ne_eqb}
use Rattle.std.proofs.lemmas.Option.{some_pair_parts}
use Rattle.std.proofs.lemmas.List.{append-nil}
use Rattle.models.specs.Objects.{answer_of}
use Rattle.std.proofs.lemmas.List.Elements.{Contains-append_left, Contains-push}
use Rattle.models.specs.declared.operation.Op.{Op}
use Rattle.events.specs.declared.event.EventKind.{EventKind}
use Rattle.events.specs.declared.event.EventKind.TheVariants.{Invoke, Ok, Fail, Info}
use Rattle.events.specs.declared.event.Process.TheVariants.{Client, Nemesis}
use Rattle.events.specs.declared.event.Body.TheVariants.{Op as AnOp, Fault as AFault}
use Rattle.events.specs.declared.event.Fault.{Fault}
use Rattle.events.specs.declared.event.Event.{Event}
use Rattle.events.specs.Events.{Mark}
use Rattle.events.specs.Events.Mark.{Invoked, Returned, Failed, Crashed}
use Rattle.history.specs.WellFormed.{open_of, move_of, is_of_process, IsHistoryOf}
use Rattle.history.proofs.Appending.{open_of-own, open_of-other}
use Rattle.linspec.specs.KeptMarks.{last_invocation}
use Rattle.linspec.specs.MarkRule.{id_of, IsNew}
use Rattle.linspec.specs.Operations.{IsOpen}
use Rattle.linspec.proofs.Open.{IsCompletion, stays_open, open_with_new, new_is_open}
use Rattle.machine.proofs.Pushes.{marks_in, new_marks, marks-push, last-push, may_follow}

pub record Opens (events : List Event) : Type 0 where
  pub last : (p i : ℕ) (op : Op) → open_of events p ≡ Some (i, op) → last_invocation events p ≡ i
  pub invoked : (p i : ℕ) (op : Op) → open_of events p ≡ Some (i, op) → Contains (marks_in events) (Invoked i op)
  pub is_open : (p i : ℕ) (op : Op) → open_of events p ≡ Some (i, op) → IsOpen (marks_in events) i
  pub apart : (p q i : ℕ) (op other : Op) → open_of events p ≡ Some (i, op) → open_of events q ≡ Some (i, other) → p ≡ q

no_open : (p i : ℕ) (op : Op) → open_of [] p ≡ Some (i, op) → ⊥
no_open p i op h = (let q : ◌≡◌ {A = Option (ℕ × Op)} None (Some (i, op)) = h in cc)

pub opens_none : Opens []
opens_none = record {
  last = λ p i op h. absurd (no_open p i op h);
  invoked = λ p i op h. absurd (no_open p i op h);
  is_open = λ p i op h. absurd (no_open p i op h);
  apart = λ p q i op other h. absurd (no_open p i op h);
}

-- an event of the client's process p
abbrev client : EventKind → ℕ → Op → Event
client kind p op = record { index = None; kind = kind; process = Client p; body = AnOp op }

own_test : (p : ℕ) → nat_eq p p ≡ true
own_test p = eq-eqb p p refl

pub opens_invocation : (c : ℕ) (events : List Event) (p : ℕ) (op : Op) → Opens events → IsHistoryOf c (events ++ client Invoke p op ∷ []) → Opens (events ++ client Invoke p op ∷ [])
opens_invocation c events p op o h = record {
  last = λ q i f is. ⊎_elim
      (λ same. last_at q ∙ ap (λ b. cond b n (last_invocation events q)) (eq-eqb q p same) ∙ (own q i f same is).0)
      (λ ne. last_at q ∙ ap (λ b. cond b n (last_invocation events q)) (ne_eqb q p ne) ∙ o.last q i f (was q ne ∙ is))
      (cases_eq q p);
  invoked = λ q i f is. ⊎_elim
      (λ same. (let w = own q i f same is in subst (λ l. Contains l (Invoked i f)) (sym more) (subst (λ j. Contains (marks_in events ++ Invoked n op ∷ []) (Invoked j f)) w.0 (subst (λ g. Contains (marks_in events ++ Invoked n op ∷ []) (Invoked n g)) w.1 (Contains-push (marks_in events) (Invoked n op))))))
      (λ ne. subst (λ l. Contains l (Invoked i f)) (sym more) (Contains-append_left (marks_in events) (Invoked n op ∷ []) (Invoked i f) (o.invoked q i f (was q ne ∙ is))))
      (cases_eq q p);
  is_open = λ q i f is. ⊎_elim
      (λ same. subst (λ l. IsOpen l i) (sym more) (subst (IsOpen (marks_in events ++ Invoked n op ∷ [])) (own q i f same is).0 (new_is_open (marks_in events) n op new)))
      (λ ne. subst (λ l. IsOpen l i) (sym more) (open_with_new (marks_in events) n op new i (o.is_open q i f (was q ne ∙ is))))
      (cases_eq q p);
  apart = λ q r i f g is iz. ⊎_elim
      (λ same. ⊎_elim (λ also. same ∙ sym also) (λ ne. absurd (far r i g (was r ne ∙ iz) (own q i f same is).0)) (cases_eq r p))
      (λ nq. ⊎_elim (λ also. absurd (far q i f (was q nq ∙ is) (own r i g also iz).0)) (λ nr. o.apart q r i f g (was q nq ∙ is) (was r nr ∙ iz)) (cases_eq r p))
      (cases_eq q p);
}
  where
    n : ℕ
    n = length events

    e : Event
    e = client Invoke p op

    new : IsNew (marks_in events) n
    new = may_follow c events e (Invoked n op) h refl

    more : marks_in (events ++ e ∷ []) ≡ marks_in events ++ Invoked n op ∷ []
    more = marks-push events e

    last_at : (q : ℕ) → last_invocation (events ++ e ∷ []) q ≡ cond (nat_eq q p) n (last_invocation events q)
    last_at q = last-push events e q

    was : (q : ℕ) → q ≢ p → open_of events q ≡ open_of (events ++ e ∷ []) q
    was q ne = sym (open_of-other events e q (ne_eqb q p ne))

    own : (q i : ℕ) (f : Op) → q ≡ p → open_of (events ++ e ∷ []) q ≡ Some (i, f) → (n ≡ i) × (op ≡ f)
    own q i f same is = some_pair_parts n i op f (sym (open_of-own events e q (eq-eqb q p same)) ∙ is)

    far : (q i : ℕ) (f : Op) → open_of events q ≡ Some (i, f) → n ≡ i → ⊥
    far q i f is at = new (Invoked i f) (o.invoked q i f is) (sym at)

-- an event that completes the operation of process p
module _ (events : List Event) (p i : ℕ) (op : Op) (o : Opens events) (here : open_of events p ≡ Some (i, op)) where
  completed : (e : Event) (m : Mark) → IsCompletion m → id_of m ≡ i → ((q : ℕ) → is_of_process q (move_of e) ≡ (q == p)) → new_marks events e ≡ m ∷ []
      → ((q : ℕ) → last_invocation (events ++ e ∷ []) q ≡ last_invocation events q)
      → open_of (events ++ e ∷ []) p ≡ None → Opens (events ++ e ∷ [])
  completed e m done id own said last none = record {
    last = λ q j f is. last q ∙ o.last q j f (was q (other q j f is) ∙ is);
    invoked = λ q j f is. subst (λ l. Contains l (Invoked j f)) (sym more) (Contains-append_left (marks_in events) (m ∷ []) (Invoked j f) (o.invoked q j f (was q (other q j f is) ∙ is)));
    is_open = λ q j f is. (let before = was q (other q j f is) ∙ is in
        subst (λ l. IsOpen l j) (sym more) (stays_open (marks_in events) m done j (o.is_open q j f before) (λ s. other q j f is (o.apart q p j f op before (here ∙ ap (λ k. Some (k, op)) (sym (s ∙ id)))))));
    apart = λ q r j f g is iz. o.apart q r j f g (was q (other q j f is) ∙ is) (was r (other r j g iz) ∙ iz);
  }
    where
      more : marks_in (events ++ e ∷ []) ≡ marks_in events ++ m ∷ []
      more = marks-push events e ∙ ap (λ l. marks_in events ++ l) said

      clash : (a : Option (ℕ × Op)) (j : ℕ) (f : Op) → a ≡ None → a ≡ Some (j, f) → ⊥
      clash a j f s t = cc

      other : (q j : ℕ) (f : Op) → open_of (events ++ e ∷ []) q ≡ Some (j, f) → q ≢ p
      other q j f is same = clash (open_of (events ++ e ∷ []) p) j f none (ap (open_of (events ++ e ∷ [])) (sym same) ∙ is)

      was : (q : ℕ) → q ≢ p → open_of events q ≡ open_of (events ++ e ∷ []) q
      was q ne = sym (open_of-other events e q (own q ∙ ne_eqb q p ne))

  pub opens_ok : (f : Op) → Opens (events ++ client Ok p f ∷ [])
  opens_ok f = completed (client Ok p f) (Returned i (answer_of f.part)) tt refl (λ q. refl) (ap (λ j. Returned j (answer_of f.part) ∷ []) (o.last p i op here)) (last-push events (client Ok p f)) (open_of-own events (client Ok p f) p (own_test p))

  pub opens_fail : (f : Op) → Opens (events ++ client Fail p f ∷ [])
  opens_fail f = completed (client Fail p f) (Failed i) tt refl (λ q. refl) (ap (λ j. Failed j ∷ []) (o.last p i op here)) (last-push events (client Fail p f)) (open_of-own events (client Fail p f) p (own_test p))

  pub opens_info : (f : Op) → Opens (events ++ client Info p f ∷ [])
  opens_info f = completed (client Info p f) (Crashed i) tt refl (λ q. refl) (ap (λ j. Crashed j ∷ []) (o.last p i op here)) (last-push events (client Info p f)) (open_of-own events (client Info p f) p (own_test p))

-- a fault makes no mark
pub no_marks : (events : List Event) (fault : Fault) → marks_in (events ++ record { index = None; kind = Info; process = Nemesis; body = AFault fault } ∷ []) ≡ marks_in events
no_marks events fault = marks-push events (record { index = None; kind = Info; process = Nemesis; body = AFault fault }) ∙ append-nil (marks_in events)

pub opens_strike : (events : List Event) (fault : Fault) → Opens events → Opens (events ++ record { index = None; kind = Info; process = Nemesis; body = AFault fault } ∷ [])
opens_strike events fault o = record {
  last = λ p i op is. last-push events e p ∙ o.last p i op (was p ∙ is);
  invoked = λ p i op is. subst (λ l. Contains l (Invoked i op)) (sym (no_marks events fault)) (o.invoked p i op (was p ∙ is));
  is_open = λ p i op is. subst (λ l. IsOpen l i) (sym (no_marks events fault)) (o.is_open p i op (was p ∙ is));
  apart = λ p q i op other is iz. o.apart p q i op other (was p ∙ is) (was q ∙ iz);
}
  where
    e : Event
    e = record { index = None; kind = Info; process = Nemesis; body = AFault fault }

    was : (p : ℕ) → open_of events p ≡ open_of (events ++ e ∷ []) p
    was p = sym (open_of-other events e p refl)
