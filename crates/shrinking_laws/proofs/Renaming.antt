-- whether a history is linearizable does not depend on how its operations are numbered
use Rattle.std.proofs.Common.{◌≡◌, ◌↔◌, ℕ, inr, List, [], ◌∷◌, ◌++◌, refl, sym, ap, ◌∙◌, subst}
use Rattle.std.specs.List.{Contains}
use Rattle.std.proofs.lemmas.List.{map-append}
use Rattle.std.proofs.lemmas.List.Elements.{Contains-append_right}
use Rattle.models.specs.declared.operation.Op.{Op}
use Rattle.models.specs.declared.finding.Answer.{Answer}
use Rattle.models.specs.Objects.{Object, Fits}
use Rattle.events.specs.Events.{Mark}
use Rattle.events.specs.Events.Mark.{Invoked, Returned, Failed, Crashed}
use Rattle.linspec.specs.Operations.{Precedes}
use Rattle.linspec.specs.Orders.{Taken, IsLegalOrder, IsLinearizable}
use Rattle.linspec.proofs.Lists.{Contains-head}
use Rattle.linspec.proofs.Filters.{map-cut, from_map, to_map}
use Rattle.shrinking_laws.specs.Renamed.{IsOneToOne, renamed_mark, renamed}
use Rattle.shrinking_laws.proofs.Matching.{IsLegalOrder-similar, simulated}

module _ (name : ℕ → ℕ) (one : IsOneToOne name) where
  abbrev f : Mark → Mark
  f = renamed_mark name

  invoked_of : (m : Mark) (id : ℕ) (op : Op) → f m ≡ Invoked id op → (i : ℕ) × (m ≡ Invoked i op) × (name i ≡ id)
  invoked_of (Invoked i p) id op e =
      let same : name i ≡ id = cc in
      let is : p ≡ op = cc in
      (i, ap (λ q. Invoked i q) is, same)
  invoked_of (Returned i a) id op e = cc
  invoked_of (Failed i) id op e = cc
  invoked_of (Crashed i) id op e = cc

  returned_of : (m : Mark) (id : ℕ) (answer : Answer) → f m ≡ Returned id answer → (i : ℕ) × (m ≡ Returned i answer) × (name i ≡ id)
  returned_of (Returned i a) id answer e =
      let same : name i ≡ id = cc in
      let is : a ≡ answer = cc in
      (i, ap (λ q. Returned i q) is, same)
  returned_of (Invoked i p) id answer e = cc
  returned_of (Failed i) id answer e = cc
  returned_of (Crashed i) id answer e = cc

  failed_of : (m : Mark) (id : ℕ) → f m ≡ Failed id → (i : ℕ) × (m ≡ Failed i) × (name i ≡ id)
  failed_of (Failed i) id e = let same : name i ≡ id = cc in (i, refl, same)
  failed_of (Invoked i p) id e = cc
  failed_of (Returned i a) id e = cc
  failed_of (Crashed i) id e = cc

  from_invoked : (ms : List Mark) (id : ℕ) (op : Op) → Contains (renamed name ms) (Invoked id op) → (i : ℕ) × Contains ms (Invoked i op) × (name i ≡ id)
  from_invoked ms id op h = let r = from_map f ms (Invoked id op) h in let q = invoked_of r.0 id op r.2 in (q.0, subst (Contains ms) q.1 r.1, q.2)

  from_returned : (ms : List Mark) (id : ℕ) (answer : Answer) → Contains (renamed name ms) (Returned id answer) → (i : ℕ) × Contains ms (Returned i answer) × (name i ≡ id)
  from_returned ms id answer h = let r = from_map f ms (Returned id answer) h in let q = returned_of r.0 id answer r.2 in (q.0, subst (Contains ms) q.1 r.1, q.2)

  -- of an operation of the history
  its_returned : (ms : List Mark) (i : ℕ) (answer : Answer) → Contains (renamed name ms) (Returned (name i) answer) → Contains ms (Returned i answer)
  its_returned ms i answer h = let r = from_returned ms (name i) answer h in subst (λ n. Contains ms (Returned n answer)) (one r.0 i r.2) r.1

  its_failed : (ms : List Mark) (i : ℕ) → Contains (renamed name ms) (Failed (name i)) → Contains ms (Failed i)
  its_failed ms i h = let r = from_map f ms (Failed (name i)) h in let q = failed_of r.0 (name i) r.2 in subst (λ n. Contains ms (Failed n)) (one q.0 i q.2) (subst (Contains ms) q.1 r.1)

  from_precedes : (ms : List Mark) (a b : ℕ) → Precedes (renamed name ms) (name a) (name b) → Precedes ms a b
  from_precedes ms a b p =
      let c = map-cut f ms p.before p.after p.cut in
      let i = from_invoked c.1 (name b) p.invoked.0 (subst (λ l. Contains l (Invoked (name b) p.invoked.0)) c.4 p.invoked.1) in
      record {
        before = c.0;
        after = c.1;
        cut = sym c.2;
        returned = (p.returned.0, its_returned c.0 a p.returned.0 (subst (λ l. Contains l (Returned (name a) p.returned.0)) c.3 p.returned.1));
        invoked = (p.invoked.0, subst (λ n. Contains c.1 (Invoked n p.invoked.0)) (one i.0 b i.2) i.1);
      }

  to_precedes : (ms : List Mark) (a b : ℕ) → Precedes ms a b → Precedes (renamed name ms) (name a) (name b)
  to_precedes ms a b p = record {
    before = renamed name p.before;
    after = renamed name p.after;
    cut = sym (map-append f p.before p.after) ∙ ap (renamed name) p.cut;
    returned = (p.returned.0, to_map f p.before (Returned a p.returned.0) p.returned.1);
    invoked = (p.invoked.0, to_map f p.after (Invoked b p.invoked.0) p.invoked.1);
  }

  abbrev Never : Taken → Type 0
  Never x = ⊥

  middle : (before after order : List Taken) (x : Taken) → before ++ x ∷ after ≡ order → Contains order x
  middle before after order x whole = subst (λ l. Contains l x) whole (Contains-append_right before (x ∷ after) x (Contains-head x after))

  -- y is x by its new name; x by its old one
  record Named (x y : Taken) : Type 0 where
    id : y.id ≡ name x.id
    op : y.op ≡ x.op
    found : y.found ≡ x.found

  record Was (ms : List Mark) (x y : Taken) : Type 0 where
    id : name y.id ≡ x.id
    invoked : Contains ms (Invoked y.id y.op)
    found : y.found ≡ x.found

  module _ (o : Object) (ms : List Mark) where
    to_renamed : IsLinearizable o ms → IsLinearizable o (renamed name ms)
    to_renamed h =
        let l : IsLegalOrder o ms h.0 h.1 = h.2 in
        let r = simulated o o Never Named (λ before s v. s ≡ v) h.0
        (λ before after x s t v whole same step. inr (record x { id = name x.id }, t, record { id = refl; op = refl; found = refl }, subst (λ z. o.Steps z x.op x.found t) same step, refl))
        [] h.0 o.start h.1 o.start refl refl l.run in (
          r.0,
          r.1,
          IsLegalOrder-similar Never Named ms (renamed name ms) o o h.0 r.0 h.1 r.1 l r.2 r.3
              (λ x z y w k j ne e. ne (one x.id z.id (sym k.id ∙ e ∙ j.id)))
              (λ x z y w k j p. from_precedes ms z.id x.id (subst (λ n. Precedes (renamed name ms) (name z.id) n) k.id (subst (λ n. Precedes (renamed name ms) n y.id) j.id p)))
              (λ x y i k. subst (λ n. Contains (renamed name ms) (Invoked n y.op)) (sym k.id) (subst (λ p. Contains (renamed name ms) (Invoked (name x.id) p)) (sym k.op) (to_map f ms (Invoked x.id x.op) (l.invoked x i))))
              (λ x y i k d. its_failed ms x.id (subst (λ n. Contains (renamed name ms) (Failed n)) k.id d))
              (λ id d. (let q = from_returned ms id d.0 d.1 in (q.0, (d.0, q.1), (λ x i e. (λ no. no)), (λ x y e k. k.id ∙ ap name e ∙ q.2))))
              (λ x y answer i k d. subst (λ g. Fits g answer) (sym k.found) (l.fits x answer i (its_returned ms x.id answer (subst (λ n. Contains (renamed name ms) (Returned n answer)) k.id d)))),
        )

    from_renamed : IsLinearizable o (renamed name ms) → IsLinearizable o ms
    from_renamed h =
        let l : IsLegalOrder o (renamed name ms) h.0 h.1 = h.2 in
        let r = simulated o o Never (Was ms) (λ before s v. s ≡ v) h.0
        (λ before after x s t v whole same step.
        let i = from_invoked ms x.id x.op (l.invoked x (middle before after h.0 x whole)) in
        inr (record x { id = i.0 }, t, record { id = i.2; invoked = i.1; found = refl }, subst (λ z. o.Steps z x.op x.found t) same step, refl))
        [] h.0 o.start h.1 o.start refl refl l.run in (
          r.0,
          r.1,
          IsLegalOrder-similar Never (Was ms) (renamed name ms) ms o o h.0 r.0 h.1 r.1 l r.2 r.3
              (λ x z y w k j ne e. ne (sym k.id ∙ ap name e ∙ j.id))
              (λ x z y w k j p. subst (λ n. Precedes (renamed name ms) z.id n) k.id (subst (λ n. Precedes (renamed name ms) n (name y.id)) j.id (to_precedes ms w.id y.id p)))
              (λ x y i k. k.invoked)
              (λ x y i k d. subst (λ n. Contains (renamed name ms) (Failed n)) k.id (to_map f ms (Failed y.id) d))
              (λ id d. (name id, (d.0, to_map f ms (Returned id d.0) d.1), (λ x i e. (λ no. no)), (λ x y e k. one y.id id (k.id ∙ e))))
              (λ x y answer i k d. subst (λ g. Fits g answer) (sym k.found) (l.fits x answer i (subst (λ n. Contains (renamed name ms) (Returned n answer)) k.id (to_map f ms (Returned y.id answer) d)))),
        )

    pub IsLinearizable-renamed : IsLinearizable o ms ↔ IsLinearizable o (renamed name ms)
    IsLinearizable-renamed = (to_renamed, from_renamed)
