-- the entries of a key, and precedence among them
use Rattle.std.proofs.Common.{◌≡◌, ℕ, ◌⊎◌, inl, inr, true, nat_eq, List, sym, ap, ◌∙◌, subst}
use Rattle.std.specs.List.{Contains}
use Rattle.std.proofs.lemmas.Bool.{eqb-true, eq-eqb}
use Rattle.std.proofs.lemmas.List.Elements.{Contains-append_left, Contains-append_right, filter-append}
use Rattle.events.specs.Events.{Mark, Entry, of_key, marks}
use Rattle.events.specs.Events.Mark.{Invoked, Returned}
use Rattle.linspec.specs.MarkRule.{id_of}
use Rattle.linspec.specs.Operations.{Precedes}
use Rattle.linspec.proofs.Filters.{from_filter, to_filter, to_map, from_map, map-cut, filter-cut}
use Rattle.linspec.proofs.Prefixes.{marks-append}

-- a mark of a key's entries comes from an entry of that key, and the other way round
pub from_of_key : (k : ℕ) (entries : List Entry) (m : Mark) → Contains (marks (of_key k entries)) m → (e : Entry) × Contains entries e × (e.key ≡ k) × (e.mark ≡ m)
from_of_key k entries m h =
    let r : (e : Entry) × Contains (of_key k entries) e × (e.mark ≡ m) = from_map (λ (e : Entry). e.mark) (of_key k entries) m h in
    let q : Contains entries r.0 × (nat_eq r.0.key k ≡ true) = from_filter (λ (e : Entry). nat_eq e.key k) entries r.0 r.1 in
    (r.0, q.0, eqb-true r.0.key k q.1, r.2)

pub to_of_key : (k : ℕ) (entries : List Entry) (e : Entry) → Contains entries e → e.key ≡ k → Contains (marks (of_key k entries)) e.mark
to_of_key k entries e h is = to_map (λ (e : Entry). e.mark) (of_key k entries) e (to_filter (λ (e : Entry). nat_eq e.key k) entries e h (eq-eqb e.key k is))

pub from_marks : (entries : List Entry) (m : Mark) → Contains (marks entries) m → (e : Entry) × Contains entries e × (e.mark ≡ m)
from_marks entries m h = from_map (λ (e : Entry). e.mark) entries m h

pub of_key-marks : (k : ℕ) (entries : List Entry) (m : Mark) → Contains (marks (of_key k entries)) m → Contains (marks entries) m
of_key-marks k entries m h = let r = from_of_key k entries m h in subst (Contains (marks entries)) r.3 (to_map (λ (e : Entry). e.mark) entries r.0 r.1)

-- precedence of a key is precedence in the whole
pub Precedes-whole : (k : ℕ) (entries : List Entry) (a b : ℕ) → Precedes (marks (of_key k entries)) a b → Precedes (marks entries) a b
Precedes-whole k entries a b p =
    let c = map-cut (λ (e : Entry). e.mark) (of_key k entries) p.before p.after p.cut in
    let d = filter-cut (λ (e : Entry). nat_eq e.key k) entries c.0 c.1 (sym c.2) in
    record {
      before = marks d.0;
      after = marks d.1;
      cut = sym (marks-append d.0 d.1) ∙ ap marks (sym d.2);
      returned = (p.returned.0, of_key-marks k d.0 _ (subst (λ l. Contains l (Returned a p.returned.0)) (c.3 ∙ ap marks d.3) p.returned.1));
      invoked = (p.invoked.0, of_key-marks k d.1 _ (subst (λ l. Contains l (Invoked b p.invoked.0)) (c.4 ∙ ap marks d.4) p.invoked.1));
    }

-- and the other way round, for operations of the key
pub Precedes-key : (k : ℕ) (entries : List Entry) (a b : ℕ) → ((e : Entry) → Contains entries e → (id_of e.mark ≡ a) ⊎ (id_of e.mark ≡ b) → e.key ≡ k) → Precedes (marks entries) a b → Precedes (marks (of_key k entries)) a b
Precedes-key k entries a b keyed p =
    let c = map-cut (λ (e : Entry). e.mark) entries p.before p.after p.cut in
    record {
      before = marks (of_key k c.0);
      after = marks (of_key k c.1);
      cut = sym (marks-append (of_key k c.0) (of_key k c.1)) ∙ ap marks (sym (filter-append (λ (e : Entry). nat_eq e.key k) c.0 c.1)) ∙ ap (λ l. marks (of_key k l)) (sym c.2);
      returned = (
        p.returned.0,
        (
            let e = from_marks c.0 _ (subst (λ l. Contains l (Returned a p.returned.0)) c.3 p.returned.1) in
            let in' : Contains entries e.0 = subst (λ l. Contains l e.0) (sym c.2) (Contains-append_left c.0 c.1 e.0 e.1) in
            subst (Contains (marks (of_key k c.0))) e.2 (to_of_key k c.0 e.0 e.1 (keyed e.0 in' (inl (ap id_of e.2))))),
      );
      invoked = (
        p.invoked.0,
        (
            let e = from_marks c.1 _ (subst (λ l. Contains l (Invoked b p.invoked.0)) c.4 p.invoked.1) in
            let in' : Contains entries e.0 = subst (λ l. Contains l e.0) (sym c.2) (Contains-append_right c.0 c.1 e.0 e.1) in
            subst (Contains (marks (of_key k c.1))) e.2 (to_of_key k c.1 e.0 e.1 (keyed e.0 in' (inr (ap id_of e.2))))),
      );
    }
