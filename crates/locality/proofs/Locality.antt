-- locality: a history is linearizable where each key's part of it is (Herlihy and Wing 1990, section 3.1)
use Rattle.std.proofs.Common.{◌≡◌, ◌≢◌, ◌↔◌, ℕ, ◌+◌, ◌<◌, suc, ⊎_elim, nat_eq, List, [], ◌∷◌, refl, sym, ap, ◌∙◌, subst, arith}
use Rattle.std.specs.List.{Contains}
use Rattle.std.proofs.lemmas.Bool.{cases_eq}
use Rattle.kinds.specs.declared.model_kind.ModelKind.{ModelKind}
use Rattle.kinds.specs.Kinds.{object_of}
use Rattle.events.specs.Events.{Mark, Entry, of_key, marks}
use Rattle.events.specs.Events.Mark.{Invoked, Returned, Failed}
use Rattle.linspec.specs.MarkRule.{id_of, AreWellFormed, IsKeyed}
use Rattle.linspec.specs.Operations.{Precedes}
use Rattle.linspec.specs.Orders.{Taken, Pairwise, Includes, Run, IsLegalOrder, IsLinearizable}
use Rattle.linspec.specs.Orders.{product}
use Rattle.linspec.proofs.Lists.{Contains-nil, Contains-head, Contains-tail, Contains-cons_cases, Pairwise-weaker}
use Rattle.linspec.proofs.Filters.{Pairwise-filter}
use Rattle.locality.proofs.Products.{on_key, on_key-same, on_key-other, Run-split, Run-join, from_on_key, to_on_key}
use Rattle.linspec.proofs.Keyed.{from_of_key, to_of_key, from_marks, of_key-marks, Precedes-whole, Precedes-key}
use Rattle.locality.proofs.Merge.{Rest, merge}

-- pairwise among each key's operations, and between those of two keys
Pairwise-keys : (R : Taken → Taken → Type 0) (xs : List Taken) → ((k : ℕ) → Pairwise R (on_key k xs)) → ((x y : Taken) → Contains xs x → Contains xs y → x.op.key ≢ y.op.key → R x y) → Pairwise R xs
Pairwise-keys R [] each cross = tt
Pairwise-keys R (x ∷ xs) each cross = (
  (λ y h. ⊎_elim
      (λ same. (let p : Pairwise R (x ∷ on_key x.op.key xs) = subst (Pairwise R) (on_key-same x.op.key x xs refl) (each x.op.key) in p.0 y (to_on_key x.op.key xs y h (sym same))))
      (λ ne. cross x y (Contains-head x xs) (Contains-tail x xs y h) ne)
      (cases_eq x.op.key y.op.key)),
  Pairwise-keys R xs
      (λ k. ⊎_elim
      (λ e. (let p : Pairwise R (x ∷ on_key k xs) = subst (Pairwise R) (on_key-same k x xs e) (each k) in p.1))
      (λ ne. subst (Pairwise R) (on_key-other k x xs ne) (each k))
      (cases_eq x.op.key k))
      (λ a b h j ne. cross a b (Contains-tail x xs a h) (Contains-tail x xs b j) ne),
)

-- a number above the keys of all entries
key_bound : (entries : List Entry) → (n : ℕ) × ((e : Entry) → Contains entries e → e.key < n)
key_bound [] = (0, λ e h. absurd (Contains-nil e h))
key_bound (x ∷ entries) =
    let r : (n : ℕ) × ((e : Entry) → Contains entries e → e.key < n) = key_bound entries in
    (suc (x.key + r.0), λ e h. ⊎_elim (λ q. (let k : x.key ≡ e.key = ap (λ (w : Entry). w.key) q in omega arith)) (λ j. (let l : e.key < r.0 = r.1 e j in omega arith)) (Contains-cons_cases x entries e h))

empty_list : (l : List Taken) → ((x : Taken) → ¬ Contains l x) → l ≡ []
empty_list [] h = refl
empty_list (x ∷ l) h = absurd (h x (Contains-head x l))

module _ (kinds : ℕ → ModelKind) (entries : List Entry) (keyed : IsKeyed entries) where
  -- an entry that speaks of an operation of the order is of its key
  key_is : (x : Taken) (f : Entry) → Contains (marks entries) (Invoked x.id x.op) → Contains entries f → id_of f.mark ≡ x.id → f.key ≡ x.op.key
  key_is x f h j q =
      let i = from_marks entries _ h in
      keyed.one_key f i.0 j i.1 (q ∙ sym (ap id_of i.2)) ∙ sym (keyed.op_key i.0 x.id x.op i.1 i.2)

  -- a mark of an operation of the order is one of its key's history
  of_its_key : (x : Taken) (m : Mark) → Contains (marks entries) (Invoked x.id x.op) → Contains (marks entries) m → id_of m ≡ x.id → Contains (marks (of_key x.op.key entries)) m
  of_its_key x m h j q =
      let f = from_marks entries m j in
      subst (Contains (marks (of_key x.op.key entries))) f.2 (to_of_key x.op.key entries f.0 f.1 (key_is x f.0 h f.1 (ap id_of f.2 ∙ q)))

  pub IsLinearizable-split : IsLinearizable (product kinds) (marks entries) → (k : ℕ) → IsLinearizable (object_of (kinds k)) (marks (of_key k entries))
  IsLinearizable-split h k =
      let order : List Taken = h.0 in
      let l : IsLegalOrder (product kinds) (marks entries) order h.1 = h.2 in (
        on_key k order,
        h.1 k,
        record {
          invoked = λ x i. (let r = from_on_key k order x i in subst (λ j. Contains (marks (of_key j entries)) (Invoked x.id x.op)) r.1 (of_its_key x (Invoked x.id x.op) (l.invoked x r.0) (l.invoked x r.0) refl));
          once = Pairwise-filter (λ x. nat_eq x.op.key k) (λ x y. x.id ≢ y.id) order l.once;
          none_failed = λ x i f. l.none_failed x (from_on_key k order x i).0 (of_key-marks k entries _ f);
          all_done = λ id d. (
              let f = from_of_key k entries _ d.1 in
              let i : Includes order id = l.all_done id (d.0, of_key-marks k entries _ d.1) in
              (i.0, to_on_key k order i.0 i.1 (sym (key_is i.0 f.0 (l.invoked i.0 i.1) f.1 (ap id_of f.3 ∙ sym i.2)) ∙ f.2), i.2));
          in_time = Pairwise-weaker (λ x y. ¬ Precedes (marks entries) y.id x.id) (λ x y. ¬ Precedes (marks (of_key k entries)) y.id x.id) (on_key k order)
              (λ x y i j n p. n (Precedes-whole k entries y.id x.id p)) (Pairwise-filter (λ x. nat_eq x.op.key k) (λ x y. ¬ Precedes (marks entries) y.id x.id) order l.in_time);
          run = Run-split kinds order (product kinds).start h.1 l.run k;
          fits = λ x a i d. l.fits x a (from_on_key k order x i).0 (of_key-marks k entries _ d);
        },
      )

  module _ (well : AreWellFormed (marks entries)) (each : (k : ℕ) → IsLinearizable (object_of (kinds k)) (marks (of_key k entries))) where
    legal : (k : ℕ) → IsLegalOrder (object_of (kinds k)) (marks (of_key k entries)) (each k).0 (each k).1
    legal k = (each k).2

    own : (k : ℕ) (x : Taken) → Contains (each k).0 x → x.op.key ≡ k
    own k x h = let f = from_of_key k entries _ ((legal k).invoked x h) in keyed.op_key f.0 x.id x.op f.1 f.3 ∙ f.2

    first : Rest entries keyed well [] (λ k. (each k).0)
    first = record {
      own = own;
      invoked = λ k x h. of_key-marks k entries _ ((legal k).invoked x h);
      once = λ k. (legal k).once;
      in_time = λ k. Pairwise-weaker (λ x y. ¬ Precedes (marks (of_key k entries)) y.id x.id) (λ x y. ¬ Precedes (marks entries) y.id x.id) (each k).0
          (λ x y h j n p. n (Precedes-key k entries y.id x.id
          (λ e i. ⊎_elim
          (λ q. key_is y e (of_key-marks k entries _ ((legal k).invoked y j)) i q ∙ own k y j)
          (λ q. key_is x e (of_key-marks k entries _ ((legal k).invoked x h)) i q ∙ own k x h)) p))
          (legal k).in_time;
      waiting = λ k x h d. Contains-nil _ d.1;
    }

    pub IsLinearizable-join : IsLinearizable (product kinds) (marks entries)
    IsLinearizable-join =
        let n = key_bound entries in
        let m = merge entries keyed well n.0 entries [] (λ k. (each k).0) refl
        (λ k le. empty_list (each k).0 (λ x h. (let f = from_of_key k entries _ ((legal k).invoked x h) in let b : f.0.key < n.0 = n.1 f.0 f.1 in let q : f.0.key ≡ k = f.2 in omega arith))) first in
        let order : List Taken = m.0 in
        let in_own : (x : Taken) → Contains order x → Contains (each x.op.key).0 x = λ x h. subst (λ l. Contains l x) (m.1 x.op.key) (to_on_key x.op.key order x h refl) in
        let invoked : (x : Taken) → Contains order x → Contains (marks entries) (Invoked x.id x.op) = λ x h. of_key-marks x.op.key entries _ ((legal x.op.key).invoked x (in_own x h)) in (
          order,
          (λ k. (each k).1),
          record {
            invoked = invoked;
            once = Pairwise-keys (λ x y. x.id ≢ y.id) order (λ k. subst (Pairwise (λ x y. x.id ≢ y.id)) (sym (m.1 k)) (legal k).once)
                (λ x y h j ne e. (let i = from_marks entries _ (invoked x h) in ne (keyed.op_key i.0 x.id x.op i.1 i.2 ∙ key_is y i.0 (invoked y j) i.1 (ap id_of i.2 ∙ e))));
            none_failed = λ x h f. (legal x.op.key).none_failed x (in_own x h) (of_its_key x (Failed x.id) (invoked x h) f refl);
            all_done = λ id d. (
                let f = from_marks entries _ d.1 in
                let i : Includes (each f.0.key).0 id = (legal f.0.key).all_done id (d.0, subst (Contains (marks (of_key f.0.key entries))) f.2 (to_of_key f.0.key entries f.0 f.1 refl)) in
                (i.0, (from_on_key f.0.key order i.0 (subst (λ l. Contains l i.0) (sym (m.1 f.0.key)) i.1)).0, i.2));
            in_time = m.2;
            run = Run-join kinds order (product kinds).start (λ k. (each k).1) (λ k. subst (λ l. Run (object_of (kinds k)) (object_of (kinds k)).start l (each k).1) (sym (m.1 k)) (legal k).run);
            fits = λ x a h d. (legal x.op.key).fits x a (in_own x h) (of_its_key x (Returned x.id a) (invoked x h) d refl);
          },
        )

pub IsLinearizable-keys : (kinds : ℕ → ModelKind) (entries : List Entry) → IsKeyed entries → AreWellFormed (marks entries) → IsLinearizable (product kinds) (marks entries) ↔ ((k : ℕ) → IsLinearizable (object_of (kinds k)) (marks (of_key k entries)))
IsLinearizable-keys kinds entries keyed well = (IsLinearizable-split kinds entries keyed, IsLinearizable-join kinds entries keyed well)
