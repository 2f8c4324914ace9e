-- what is kept of open operations after one more event
use Rattle.std.proofs.Common.{◌≡◌, ◌≢◌, ℕ, ◌+◌, ◌≤◌, ℤ, ⊎_elim, List, [], ◌∷◌, ◌++◌, map, refl, sym, ◌∙◌, subst, arith}
use Rattle.std.specs.List.{Contains, filter}
use Rattle.std.proofs.lemmas.List.Elements.{Contains-append_left, Contains-push, Contains-push_cases}
use Rattle.models.specs.declared.operation.Op.{Op}
use Rattle.events.specs.Events.{Mark}
use Rattle.events.specs.Events.Mark.{Invoked}
use Rattle.linspec.specs.MarkRule.{id_of, IsNew, AreWellFormed}
use Rattle.linspec.specs.Operations.{IsInvoked, IsOpen}
use Rattle.linspec.proofs.Filters.{from_filter, to_filter, from_map, to_map}
use Rattle.linspec.proofs.Open.{IsCompletion, was_open, stays_open, open_with_new, open_without_new, new_is_open}
use Rattle.bag_matches.specs.Counts.{enqueued, dequeued}
use Rattle.bag_matches.proofs.Events.{kept, cuts, extended, dequeued_same}
use Rattle.wide_unordered_queue.specs.declared.pending.Call.TheVariants as calls
use Rattle.wide_unordered_queue.specs.declared.pending.Pending.{Pending}
use Rattle.wide_unordered_queue.specs.Facts.{call_by, IsLeast, IsPending, ArePending, is_other}
use Rattle.wide_unordered_queue.proofs.Tests.{not_same, is_not_same, same_or_not}

module _ (ms : List Mark) (m : Mark) (well : AreWellFormed (ms ++ m ∷ [])) where
  abbrev longer : List Mark
  longer = ms ++ m ∷ []

  -- a least, by the fronts before the mark and the whole with it
  pub least_within : (id : ℕ) (v : ℤ) (least : ℕ)
      → ((front rest : List Mark) → front ++ rest ≡ ms → IsInvoked front id → dequeued ms v front + least ≤ enqueued longer v front)
      → dequeued longer v longer + least ≤ enqueued longer v longer
      → (front rest : List Mark) → front ++ rest ≡ longer → IsInvoked front id → dequeued longer v front + least ≤ enqueued longer v front
  least_within id v least parts whole front rest cut i = ⊎_elim
      (λ (e : front ≡ longer). subst (λ l. dequeued longer v l + least ≤ enqueued longer v l) (sym e) whole)
      (λ c. (
      let le : dequeued ms v front + least ≤ enqueued longer v front = parts front c.0 c.1 i in
      let a : dequeued longer v front ≡ dequeued ms v front = dequeued_same ms m well v front c.0 c.1 in
      omega (arith, le, a)))
      (cuts ms m well front rest cut)

  -- the least of an operation stays, if the fronts and the whole count the same
  pub least_stays : (id : ℕ) (v : ℤ) (least : ℕ)
      → ((front rest : List Mark) → front ++ rest ≡ ms → IsInvoked front id → enqueued longer v front ≡ enqueued ms v front)
      → dequeued longer v longer + least ≤ enqueued longer v longer → IsLeast ms id v least → IsLeast longer id v least
  least_stays id v least same whole is = record {
    within = least_within id v least
        (λ front rest cut i. (let le : dequeued ms v front + least ≤ enqueued ms v front = is.within front rest cut i in let b : enqueued longer v front ≡ enqueued ms v front = same front rest cut i in omega (arith, le, b)))
        whole;
    met =
        let front : List Mark = is.met.0 in
        let e : dequeued ms v front + least ≡ enqueued ms v front = is.met.4 in
        let a : dequeued longer v front ≡ dequeued ms v front = dequeued_same ms m well v front is.met.1 is.met.2 in
        let b : enqueued longer v front ≡ enqueued ms v front = same front is.met.1 is.met.2 is.met.3 in
        (front, is.met.1 ++ m ∷ [], extended ms m well front is.met.1 is.met.2, is.met.3, omega (arith, e, a, b));
  }

  -- the pending operations after a completion, each made of one before it
  module _ (completes : IsCompletion m) (g : Pending → Pending) (ids : (p : Pending) → (g p).id ≡ p.id) (same_call : (p : Pending) → (g p).call ≡ p.call) (pending : List Pending) (are : ArePending pending ms)
      (more : (p : Pending) → Contains pending p → p.id ≢ id_of m → (v : ℤ) → p.call ≡ calls.Enqueue v → IsLeast longer p.id v (g p).least) where
    one : (p : Pending) → Contains pending p → (g p).id ≢ id_of m → IsPending longer (g p)
    one p h out =
        let is : IsPending ms p = are.is p h in
        let ne : p.id ≢ id_of m = λ e. out (ids p ∙ e) in
        record {
          is_open = subst (IsOpen longer) (sym (ids p)) (stays_open ms m completes p.id is.is_open ne);
          op = is.op;
          invoked = subst (λ n. Contains longer (Invoked n is.op)) (sym (ids p)) (kept ms m well _ is.invoked);
          call = is.call ∙ sym (same_call p);
          least = λ v e. subst (λ n. IsLeast longer n v (g p).least) (sym (ids p)) (more p h ne v (sym (same_call p) ∙ e));
        }

    pub pending_after : ArePending (filter (is_other (id_of m)) (map g pending)) longer
    pending_after = record {
      is = λ q h. (
          let k = from_filter (is_other (id_of m)) (map g pending) q h in
          let r = from_map g pending q k.0 in
          subst (IsPending longer) r.2 (one r.0 r.1 (λ e. not_same q.id (id_of m) k.1 (sym (λ i. (r.2 i).id) ∙ e))));
      all = λ id o. (
          let w = was_open ms m completes id o in
          let k = are.all id w.0 in
          (g k.0, to_filter (is_other (id_of m)) (map g pending) (g k.0) (to_map g pending k.0 k.1) (is_not_same (g k.0).id (id_of m) (λ e. w.1 (sym k.2 ∙ sym (ids k.0) ∙ e))), ids k.0 ∙ k.2));
    }

-- the pending operations after an invocation
module _ (ms : List Mark) (id : ℕ) (op : Op) (well : AreWellFormed (ms ++ Invoked id op ∷ [])) (pending : List Pending) (are : ArePending pending ms) where
  abbrev with_new : List Mark
  with_new = ms ++ Invoked id op ∷ []

  new : IsNew ms id
  new = well ms [] (Invoked id op) refl

  pub pending_with : (p : Pending) → p.id ≡ id → call_by op.name op.part ≡ p.call
      → ((v : ℤ) → p.call ≡ calls.Enqueue v → IsLeast with_new id v p.least)
      → ((q : Pending) → Contains pending q → (v : ℤ) → q.call ≡ calls.Enqueue v → IsLeast with_new q.id v q.least)
      → ArePending (pending ++ p ∷ []) with_new
  pending_with p e call least others = record {
    is = λ q h. ⊎_elim
        (λ k. (let i : IsPending ms q = are.is q k in record {
          is_open = open_with_new ms id op new q.id i.is_open;
          op = i.op;
          invoked = Contains-append_left ms (Invoked id op ∷ []) _ i.invoked;
          call = i.call;
          least = others q k;
        }))
        (λ same. subst (IsPending with_new) same (record {
          is_open = subst (IsOpen with_new) (sym e) (new_is_open ms id op new);
          op = op;
          invoked = subst (λ n. Contains with_new (Invoked n op)) (sym e) (Contains-push ms (Invoked id op));
          call = call;
          least = λ v c. subst (λ n. IsLeast with_new n v p.least) (sym e) (least v c);
        }))
        (Contains-push_cases pending p q h);
    all = λ i o. ⊎_elim
        (λ (s : i ≡ id). (p, Contains-push pending p, e ∙ sym s))
        (λ (n : i ≢ id). (let k = are.all i (open_without_new ms id op new i n o) in (k.0, Contains-append_left pending (p ∷ []) k.0 k.1, k.2)))
        (same_or_not i id);
  }
