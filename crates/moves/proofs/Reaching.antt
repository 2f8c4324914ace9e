-- ends that calls lead to, and ends that are reached by pending operations
use Rattle.std.proofs.Common.{◌≡◌, IsTrue, ℕ, zero, suc, ◌↔◌, inl, inr, ⊎_elim, Bool, true, false, Option, Some, None, is_some, List, [], ◌∷◌, ◌++◌, refl, sym, ap, subst}
use Rattle.std.specs.List.{Contains}
use Rattle.std.specs.FinMap as finmap
use Rattle.std.proofs.lemmas.Bool.{true≢false}
use Rattle.models.specs.Objects.{Object}
use Rattle.events.specs.Events.{Mark}
use Rattle.events.specs.Events.Mark.{Crashed}
use Rattle.linspec.specs.Orders.{Taken}
use Rattle.linspec.specs.Ends.{End, IsEnd}
use Rattle.linspec.proofs.Reach.{Extends, Reaches, leaves_more}
use Rattle.moves.specs.declared.pending_op.PendingOp.{PendingOp}
use Rattle.moves.specs.KeptEnds.{IsPending, ArePending}
use Rattle.moves.specs.EndSteps.{is_in, with_call, TakesLast, Next, ReachesIn, IsReached}
use Rattle.moves.proofs.JustInTime.{Reaches-append}

none_from : {X : Type 0} (r : Option X) → is_some r ≡ false → r ≡ None
none_from None e = refl
none_from (Some x) e = absurd (true≢false e)

-- to take one call last is to extend by a pending operation
module _ (o : Object) (calls : List PendingOp) (marks : List Mark) (are : ArePending calls marks) where
  made_by : (e f : End o.State) (x : Taken) (b : Bool) → is_in e x.id b ≡ false → f ≡ with_call e x.id b x.found f.state → (IsTrue b ↔ Contains marks (Crashed x.id)) → IsPending marks x.id x.op
      → o.Steps e.state x.op x.found f.state → Extends o marks e x f
  made_by e f x true not_in made is p step = record {
    invoked = p.invoked;
    not_returned = p.not_returned;
    not_failed = p.not_failed;
    counted = p.counted;
    step = step;
    made = inr (is.0 refl, not_in, made);
  }
  made_by e f x false not_in made is p step = record {
    invoked = p.invoked;
    not_returned = p.not_returned;
    not_failed = p.not_failed;
    counted = p.counted;
    step = step;
    made = inl ((λ k. true≢false (sym (is.1 k))), none_from (finmap.get e.pending x.id) not_in, made);
  }

  extends_by : (e f : End o.State) → Next o calls e f → (x : Taken) × Extends o marks e x f
  extends_by e f n =
      let c : PendingOp = n.0 in
      let t : TakesLast o e c f = n.2 in
      let p = (are c).0 n.1 in
      let x : Taken = record { id = c.id; op = c.op; found = t.found } in
      (x, made_by e f x c.crashed t.not_in t.made p.1 p.0 t.step)

  call_of : (e f : End o.State) (x : Taken) → Extends o marks e x f → (c : PendingOp) × Contains calls c × TakesLast o e c f × (c.id ≡ x.id)
  call_of e f x h =
      let p : IsPending marks x.id x.op = record { invoked = h.invoked; not_returned = h.not_returned; not_failed = h.not_failed; counted = h.counted } in
      ⊎_elim
      (λ m.
      let c : PendingOp = record { id = x.id; op = x.op; crashed = false } in (
        c,
        (are c).1 (p, ((λ t. absurd (true≢false (sym t))), (λ k. absurd (m.0 k)))),
        record { not_in = ap is_some m.1; found = x.found; step = h.step; made = m.2 },
        refl,
      ))
      (λ m.
      let c : PendingOp = record { id = x.id; op = x.op; crashed = true } in (
        c,
        (are c).1 (p, ((λ t. m.0), (λ k. refl))),
        record { not_in = m.1; found = x.found; step = h.step; made = m.2 },
        refl,
      ))
      h.made

  -- an end that is reached from an end is an end
  pub end_further : (n : ℕ) (e f : End o.State) → IsEnd o marks e → ReachesIn o calls n e f → IsEnd o marks f
  end_further zero e f end r = subst (IsEnd o marks) r end
  end_further (suc n) e f end r =
      let m : IsEnd o marks r.0 = end_further n e r.0 end r.1 in
      let x = extends_by r.0 f r.2 in
      (m.0 ++ x.0 ∷ [], leaves_more o marks m.0 r.0 f x.0 m.1 x.1)

  -- pending operations one after another are calls one after another, and back
  by_calls : (xs : List Taken) (n : ℕ) (e mid f : End o.State) → ReachesIn o calls n e mid → Reaches o marks mid xs f → (m : ℕ) × ReachesIn o calls m e f
  by_calls [] n e mid f r s = (n, subst (ReachesIn o calls n e) s r)
  by_calls (x ∷ xs) n e mid f r s =
      let c = call_of mid s.0 x s.1 in
      by_calls xs (suc n) e s.0 f (mid, r, (c.0, c.1, c.2)) s.2

  pub calls_of : (xs : List Taken) (e f : End o.State) → Reaches o marks e xs f → (m : ℕ) × ReachesIn o calls m e f
  calls_of xs e f s = by_calls xs zero e e f refl s

  pub reaches_of : (n : ℕ) (e f : End o.State) → ReachesIn o calls n e f → (xs : List Taken) × Reaches o marks e xs f
  reaches_of zero e f r = ([], r)
  reaches_of (suc n) e f r =
      let before = reaches_of n e r.0 r.1 in
      let x = extends_by r.0 f r.2 in
      (before.0 ++ x.0 ∷ [], Reaches-append o marks before.0 (x.0 ∷ []) e r.0 f before.1 (f, x.1, refl))

-- a list that is closed under the calls has all ends that they lead to
pub closed_has : (o : Object) (calls : List PendingOp) (P : End o.State → Type 0) → ((e f : End o.State) → P e → Next o calls e f → P f) → (n : ℕ) (e f : End o.State) → P e → ReachesIn o calls n e f → P f
closed_has o calls P closed zero e f p r = subst P r p
closed_has o calls P closed (suc n) e f p r = closed r.0 f (closed_has o calls P closed n e r.0 p r.1) r.2

pub reached_itself : (o : Object) (calls : List PendingOp) (ends : List (End o.State)) (e : End o.State) → Contains ends e → IsReached o calls ends e
reached_itself o calls ends e h = (zero, e, h, refl)

pub reached_next : (o : Object) (calls : List PendingOp) (ends : List (End o.State)) (e f : End o.State) → IsReached o calls ends e → Next o calls e f → IsReached o calls ends f
reached_next o calls ends e f r n = (suc r.0, r.1, r.2, (e, r.3, n))
