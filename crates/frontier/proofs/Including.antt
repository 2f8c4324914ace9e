-- the operations that ends include are among the calls, after each event
use Rattle.std.proofs.Common.{◌≡◌, ◌≢◌, ◌↔◌, IsTrue, ℕ, zero, suc, ⊎_elim, Bool, true, false, not, Option, Some, None, List, [], ◌∷◌, ◌++◌, map, refl, sym, ap, ◌∙◌, subst}
use Rattle.std.specs.List.{filter, Contains}
use Rattle.std.specs.Ordering.{nat_cmp}
use Rattle.std.specs.FinMap as finmap
use Rattle.std.specs.FinSet as finset
use Rattle.std.proofs.lemmas.Bool.{true≢false, cases_eq, ne_eqb}
use Rattle.std.proofs.lemmas.List.Elements.{Contains-append_left}
use Rattle.models.specs.declared.finding.Answer.{Answer}
use Rattle.models.specs.declared.finding.Found.{Found}
use Rattle.models.specs.Objects.{Object}
use Rattle.events.specs.Events.{Mark}
use Rattle.events.specs.Events.Mark.{Crashed}
use Rattle.linspec.specs.Operations.{IsOpen}
use Rattle.linspec.specs.Ends.{End}
use Rattle.linspec.proofs.FinLaws.{get-remove_same, get-remove_other, contains-insert_other}
use Rattle.linspec.proofs.Filters.{to_filter, to_map}
use Rattle.linspec.proofs.Lists.{Contains-nil, Contains-cons_cases}
use Rattle.moves.specs.declared.pending_op.PendingOp.{PendingOp}
use Rattle.moves.specs.declared.kept_end.KeptEnd.{KeptEnd}
use Rattle.moves.specs.KeptEnds.{ArePending, AreIncluded, IsIncluded, crashed_in, end_kept, pending_in}
use Rattle.moves.specs.EndSteps.{TakesLast, Next, ReachesIn, IsReached, Settles, settled, Crashes, crashed_if, is_other, crash_call, calls_after_crash, Along, Adds}
use Rattle.moves.proofs.CallsInTurn.{crash_call-same, crash_call-other}
use Rattle.moves.proofs.Changes.{same_parts}
use Rattle.moves.proofs.Rows.{included_with}
use Rattle.interner.proofs.Lists.{clash}

stays : (calls : List PendingOp) (id : ℕ) (c : PendingOp) (q : ℕ) → Contains calls c → c.id ≡ q → q ≢ id → Contains (filter (is_other id) calls) c
stays calls id c q h is ne = to_filter (is_other id) calls c h (ap not (ne_eqb c.id id (λ k. ne (sym is ∙ k))))

none_here : (id : ℕ) (p : finmap.FinMap nat_cmp Found) (q : ℕ) (x : Found) → finmap.get p id ≡ None → finmap.get p q ≡ Some x → q ≢ id
none_here id p q x none k is = clash x _ none (subst (λ i. finmap.get p i ≡ Some x) is k)

told : (calls : List PendingOp) (id : ℕ) (c : PendingOp) → Contains calls c → Contains (map (crash_call id) calls) (crash_call id c)
told calls id c h = to_map (crash_call id) calls c h

other_stays : (id : ℕ) (c : PendingOp) (q : ℕ) → c.id ≡ q → q ≢ id → crash_call id c ≡ c
other_stays id c q is ne = crash_call-other c id (λ k. ne (sym is ∙ k))

same_id : (id : ℕ) (c : PendingOp) → c.id ≡ id → c.id ≡ (crash_call id c).id
same_id id c k = ap (λ (x : PendingOp). x.id) (crash_call-same c id k)

same_crash : (id : ℕ) (c : PendingOp) → c.id ≡ id → true ≡ (crash_call id c).crashed
same_crash id c k = ap (λ (x : PendingOp). x.crashed) (crash_call-same c id k)

now_crashed : (id : ℕ) (c : PendingOp) (q : ℕ) → c.id ≡ q → c.crashed ≡ true → ((crash_call id c).id ≡ q) × ((crash_call id c).crashed ≡ true)
now_crashed id c q is t =
    ⊎_elim
    (λ k. (sym (same_id id c k) ∙ is, sym (same_crash id c k)))
    (λ ne. (ap (λ (x : PendingOp). x.id) (crash_call-other c id ne) ∙ is, ap (λ (x : PendingOp). x.crashed) (crash_call-other c id ne) ∙ t))
    (cases_eq c.id id)

module _ {S : Type 0} (calls : List PendingOp) where
  pub included_at_start : (s : S) → AreIncluded calls (record { state = s; pending = finmap.empty; crashed = finset.empty } ∷ [])
  included_at_start s e h =
      ⊎_elim
      (λ is. subst (IsIncluded calls) is (record {
        pending = λ id x k. absurd (clash x _ (finmap.get-empty {X = Found} nat_cmp id) k);
        crashed = λ id k. absurd (true≢false (sym k ∙ finset.contains-empty nat_cmp id));
      }))
      (λ k. absurd (Contains-nil e k))
      (Contains-cons_cases (record { state = s; pending = finmap.empty; crashed = finset.empty }) [] e h)

  pub included_of_start : (items : List (KeptEnd S)) (k : KeptEnd S) → items ≡ k ∷ [] → k.pending.items ≡ [] → k.crashed.items ≡ [] → AreIncluded calls (map end_kept items)
  included_of_start items k is a b =
      subst (AreIncluded calls)
      (sym (ap (map end_kept) is ∙ ap (λ e. e ∷ []) (same_parts (end_kept k) (record { state = k.state; pending = finmap.empty; crashed = finset.empty }) refl (ap pending_in a) (ap crashed_in b))))
      (included_at_start k.state)

  pub included_more : (more : List PendingOp) (ends : List (End S)) → AreIncluded calls ends → AreIncluded (calls ++ more) ends
  included_more more ends a e h = record {
    pending = λ id x k. let c = (a e h).pending id x k in (c.0, Contains-append_left calls more c.0 c.1, c.2, c.3);
    crashed = λ id k. let c = (a e h).crashed id k in (c.0, Contains-append_left calls more c.0 c.1, c.2, c.3);
  }

  -- an open operation is removed from the calls
  module _ (marks : List Mark) (are : ArePending calls marks) (id : ℕ) (is_open : IsOpen marks id) where
    not_crashed : (e : End S) → IsIncluded calls e → (q : ℕ) → IsTrue (finset.contains e.crashed q) → q ≢ id
    not_crashed e a q k is =
        let c = a.crashed q k in
        is_open.not_crashed (subst (λ i. Contains marks (Crashed i)) (c.2 ∙ is) (((are c.0).0 c.1).1.0 c.3))

    included_without : (e f : End S) → IsIncluded calls e → f.crashed ≡ e.crashed → ((q : ℕ) (x : Found) → finmap.get f.pending q ≡ Some x → (q ≢ id) × (finmap.get e.pending q ≡ Some x)) → IsIncluded (filter (is_other id) calls) f
    included_without e f a same fewer = record {
      pending = λ q x k.
          let b = fewer q x k in
          let c = a.pending q x b.1 in
          (c.0, stays calls id c.0 q c.1 c.2 b.0, c.2, c.3);
      crashed = λ q k.
          let k' = subst (λ s. IsTrue (finset.contains s q)) same k in
          let c = a.crashed q k' in
          (c.0, stays calls id c.0 q c.1 c.2 (not_crashed e a q k'), c.2, c.3);
    }

    pub included_after_ok : (answer : Answer) (all after : List (End S)) → AreIncluded calls all → Adds (Along (Settles id answer) all) [] after → AreIncluded (filter (is_other id) calls) after
    included_after_ok answer all after a adds f h =
        ⊎_elim
        (λ k. absurd (Contains-nil f k))
        (λ s. subst (IsIncluded (filter (is_other id) calls)) s.2.1
        (included_without s.0 (settled s.0 id) (a s.0 s.1) refl (λ q x k.
        let ne : q ≢ id = none_here id (finmap.remove s.0.pending id) q x (get-remove_same s.0.pending id) k in
        (ne, sym (get-remove_other s.0.pending id q ne) ∙ k))))
        ((adds.each f).0 h)

    aside_included : (ends after : List (End S)) → AreIncluded calls ends → ((f : End S) → Contains after f ↔ Along (Crashes false id) ends f) → AreIncluded (filter (is_other id) calls) after
    aside_included ends after a each f h =
        let s = (each f).0 h in
        subst (IsIncluded (filter (is_other id) calls)) s.2
        (included_without s.0 (settled s.0 id) (a s.0 s.1) refl (λ q x k.
        let ne : q ≢ id = none_here id (finmap.remove s.0.pending id) q x (get-remove_same s.0.pending id) k in
        (ne, sym (get-remove_other s.0.pending id q ne) ∙ k)))

  -- an operation crashes
  module _ (id : ℕ) where
    included_crashed : (e : End S) (r : Option Found) → finmap.get e.pending id ≡ r → IsIncluded calls e → IsIncluded (map (crash_call id) calls) (crashed_if r e id)
    included_crashed e None none a = record {
      pending = λ q x k.
          let c = a.pending q x k in
          let s = other_stays id c.0 q c.2 (λ is. clash x _ none (subst (λ i. finmap.get e.pending i ≡ Some x) is k)) in
          (c.0, subst (Contains (map (crash_call id) calls)) s (told calls id c.0 c.1), c.2, c.3);
      crashed = λ q k. let c = a.crashed q k in let n = now_crashed id c.0 q c.2 c.3 in (crash_call id c.0, told calls id c.0 c.1, n.0, n.1);
    }
    included_crashed e (Some found) some a = record {
      pending = λ q x k.
          let ne : q ≢ id = λ is. clash x _ (get-remove_same e.pending id) (subst (λ i. finmap.get (finmap.remove e.pending id) i ≡ Some x) is k) in
          let c = a.pending q x (sym (get-remove_other e.pending id q ne) ∙ k) in
          (c.0, subst (Contains (map (crash_call id) calls)) (other_stays id c.0 q c.2 ne) (told calls id c.0 c.1), c.2, c.3);
      crashed = λ q k.
          ⊎_elim
          (λ is.
          let c = a.pending id found some in
          (crash_call id c.0, told calls id c.0 c.1, sym (same_id id c.0 c.2) ∙ c.2 ∙ sym is, sym (same_crash id c.0 c.2)))
          (λ ne.
          let c = a.crashed q (sym (contains-insert_other e.crashed id q ne) ∙ k) in
          let n = now_crashed id c.0 q c.2 c.3 in
          (crash_call id c.0, told calls id c.0 c.1, n.0, n.1))
          (cases_eq q id);
    }

    told_included : (ends after : List (End S)) → AreIncluded calls ends → ((f : End S) → Contains after f ↔ Along (Crashes true id) ends f) → AreIncluded (map (crash_call id) calls) after
    told_included ends after a each f h =
        let s = (each f).0 h in
        subst (IsIncluded (map (crash_call id) calls)) s.2 (included_crashed s.0 (finmap.get s.0.pending id) refl (a s.0 s.1))

pub included_after_crash : {S : Type 0} (calls : List PendingOp) (marks : List Mark) → ArePending calls marks → (id : ℕ) → IsOpen marks id → (counted : Bool) (ends after : List (End S)) → AreIncluded calls ends
    → ((f : End S) → Contains after f ↔ Along (Crashes counted id) ends f) → AreIncluded (calls_after_crash counted id calls) after
included_after_crash calls marks are id is_open true ends after a each = told_included calls id ends after a each
included_after_crash calls marks are id is_open false ends after a each = aside_included calls marks are id is_open ends after a each

-- ends that calls lead to include calls alone
module _ (o : Object) (calls : List PendingOp) where
  included_next : (e f : End o.State) → IsIncluded calls e → Next o calls e f → IsIncluded calls f
  included_next e f a n =
      let c : PendingOp = n.0 in
      let t : TakesLast o e c f = n.2 in
      subst (IsIncluded calls) (sym t.made) (included_with calls e c c.crashed t.found f.state refl n.1 a)

  included_further : (n : ℕ) (e f : End o.State) → IsIncluded calls e → ReachesIn o calls n e f → IsIncluded calls f
  included_further zero e f a r = subst (IsIncluded calls) r a
  included_further (suc n) e f a r = included_next r.0 f (included_further n e r.0 a r.1) r.2

  pub included_all : (ends all : List (End o.State)) → AreIncluded calls ends → Adds (IsReached o calls ends) ends all → AreIncluded calls all
  included_all ends all a adds f h =
      ⊎_elim
      (λ k. a f k)
      (λ r. included_further r.0 r.1 f (a r.1 r.2) r.3)
      ((adds.each f).0 h)
