-- the history without some keys
use Rattle.std.proofs.Common.{◌≡◌, ℕ, ⊎_elim, Bool, true, false, not, nat_eq, List, [], ◌∷◌, ◌++◌, refl, sym, ap, ◌∙◌, subst, append_assoc}
use Rattle.std.specs.List.{filter, Contains}
use Rattle.std.proofs.lemmas.Bool.{cases_Bool, cases_eq, eq-eqb, ne_eqb, true≢false}
use Rattle.std.proofs.lemmas.List.Elements.{Contains-append_left, Contains-append_right}
use Rattle.events.specs.Events.{Mark, Entry, of_key, marks, IsPrefixOf}
use Rattle.events.specs.Events.Mark.{Invoked, Returned, Failed, Crashed}
use Rattle.linspec.specs.MarkRule.{id_of, MayFollow, AreWellFormed, IsKeyed}
use Rattle.linspec.specs.Operations.{IsOpen}
use Rattle.linspec.proofs.Lists.{Contains-head}
use Rattle.linspec.proofs.Filters.{from_filter, to_filter, to_map, from_map, map-cut, filter-cut_at, filter-yes, filter-no, filter-none}
use Rattle.linspec.proofs.Prefixes.{marks-append}
use Rattle.linspec.proofs.Keyed.{from_marks}

pub IsKeyed-filter : (p : Entry → Bool) (entries : List Entry) → IsKeyed entries → IsKeyed (filter p entries)
IsKeyed-filter p entries keyed = record {
  op_key = λ e id op h. keyed.op_key e id op (from_filter p entries e h).0;
  one_key = λ e f h k. keyed.one_key e f (from_filter p entries e h).0 (from_filter p entries f k).0;
}

pub IsKeyed-front : (front entries : List Entry) → IsPrefixOf front entries → IsKeyed entries → IsKeyed front
IsKeyed-front front entries is keyed = record {
  op_key = λ e id op h. keyed.op_key e id op (subst (λ l. Contains l e) is.1 (Contains-append_left front is.0 e h));
  one_key = λ e f h k. keyed.one_key e f (subst (λ l. Contains l e) is.1 (Contains-append_left front is.0 e h)) (subst (λ l. Contains l f) is.1 (Contains-append_left front is.0 f k));
}

pub AreWellFormed-front : (front entries : List Entry) → IsPrefixOf front entries → AreWellFormed (marks entries) → AreWellFormed (marks front)
AreWellFormed-front front entries is well before after m cut = well before (after ++ marks is.0) m (sym (append_assoc before (m ∷ after) (marks is.0)) ∙ ap (λ l. l ++ marks is.0) cut ∙ sym (marks-append front is.0) ∙ ap marks is.1)

fewer_marks : (p : Entry → Bool) (us : List Entry) (m : Mark) → Contains (marks (filter p us)) m → Contains (marks us) m
fewer_marks p us m h = let e = from_map (λ (e : Entry). e.mark) (filter p us) m h in subst (Contains (marks us)) e.2 (to_map (λ (e : Entry). e.mark) us e.0 (from_filter p us e.0 e.1).0)

still_open : (p : Entry → Bool) (us : List Entry) (id : ℕ) → ((e : Entry) → Contains us e → id_of e.mark ≡ id → p e ≡ true) → IsOpen (marks us) id → IsOpen (marks (filter p us)) id
still_open p us id kept h = record {
  invoked = (
    h.invoked.0,
    (let e = from_marks us _ h.invoked.1 in
        subst (Contains (marks (filter p us))) e.2 (to_map (λ (e : Entry). e.mark) (filter p us) e.0 (to_filter p us e.0 e.1 (kept e.0 e.1 (ap id_of e.2))))),
  );
  not_returned = λ r. h.not_returned (r.0, fewer_marks p us _ r.1);
  not_failed = λ f. h.not_failed (fewer_marks p us _ f);
  not_crashed = λ f. h.not_crashed (fewer_marks p us _ f);
}

still_may : (p : Entry → Bool) (us : List Entry) (m : Mark) → ((e : Entry) → Contains us e → id_of e.mark ≡ id_of m → p e ≡ true) → MayFollow (marks us) m → MayFollow (marks (filter p us)) m
still_may p us (Invoked id op) kept new = λ m h. new m (fewer_marks p us m h)
still_may p us (Returned id a) kept h = still_open p us id kept h
still_may p us (Failed id) kept h = still_open p us id kept h
still_may p us (Crashed id) kept h = still_open p us id kept h

pub AreWellFormed-filter : (p : Entry → Bool) → ((e f : Entry) → e.key ≡ f.key → p e ≡ p f) → (entries : List Entry) → IsKeyed entries → AreWellFormed (marks entries) → AreWellFormed (marks (filter p entries))
AreWellFormed-filter p by_key entries keyed well before after m cut =
    let c = map-cut (λ (e : Entry). e.mark) (filter p entries) before (m ∷ after) cut in
    at_head c.0 c.1 c.2 c.3 c.4
  where
    at_head : (ys zs : List Entry) → filter p entries ≡ ys ++ zs → before ≡ marks ys → m ∷ after ≡ marks zs → MayFollow before m
    at_head ys [] e f g = cc
    at_head ys (z ∷ zs) e f g =
        let is : z.mark ≡ m = cc in
        let c = filter-cut_at p entries ys zs z (sym e) in
        let z_in : Contains entries z = subst (λ l. Contains l z) (sym c.2) (Contains-append_right c.0 (z ∷ c.1) z (Contains-head z c.1)) in
        subst (λ l. MayFollow l m) (sym (f ∙ ap marks c.3)) (still_may p c.0 m
        (λ e h q. by_key e z (keyed.one_key e z (subst (λ l. Contains l e) (sym c.2) (Contains-append_left c.0 (z ∷ c.1) e h)) z_in (q ∙ ap id_of (sym is))) ∙ c.5)
        (well (marks c.0) (marks c.1) m (ap (λ w. marks c.0 ++ w ∷ marks c.1) (sym is) ∙ sym (marks-append c.0 (z ∷ c.1)) ∙ ap marks (sym c.2))))

-- the entries of a key, where that key is kept, and if it is set aside
module _ (blown : ℕ → Bool) (k : ℕ) where
  pub of_key-kept : (entries : List Entry) → blown k ≡ false → of_key k (filter (λ (e : Entry). not (blown e.key)) entries) ≡ of_key k entries
  of_key-kept [] e = refl
  of_key-kept (x ∷ entries) e =
      ⊎_elim
      (λ q. ap (of_key k) (filter-yes (λ (e : Entry). not (blown e.key)) x entries (ap (λ j. not (blown j)) q ∙ ap not e))
      ∙ filter-yes (λ (e : Entry). nat_eq e.key k) x (filter (λ (e : Entry). not (blown e.key)) entries) (eq-eqb x.key k q)
      ∙ ap (λ l. x ∷ l) (of_key-kept entries e) ∙ sym (filter-yes (λ (e : Entry). nat_eq e.key k) x entries (eq-eqb x.key k q)))
      (λ ne. ⊎_elim
      (λ t. ap (of_key k) (filter-yes (λ (e : Entry). not (blown e.key)) x entries t)
      ∙ filter-no (λ (e : Entry). nat_eq e.key k) x (filter (λ (e : Entry). not (blown e.key)) entries) (ne_eqb x.key k ne)
      ∙ of_key-kept entries e ∙ sym (filter-no (λ (e : Entry). nat_eq e.key k) x entries (ne_eqb x.key k ne)))
      (λ t. ap (of_key k) (filter-no (λ (e : Entry). not (blown e.key)) x entries t)
      ∙ of_key-kept entries e ∙ sym (filter-no (λ (e : Entry). nat_eq e.key k) x entries (ne_eqb x.key k ne)))
      (cases_Bool (not (blown x.key))))
      (cases_eq x.key k)

  pub of_key-aside : (entries : List Entry) → blown k ≡ true → of_key k (filter (λ (e : Entry). not (blown e.key)) entries) ≡ []
  of_key-aside entries e = filter-none (λ (e : Entry). nat_eq e.key k) (filter (λ (e : Entry). not (blown e.key)) entries)
      (λ x h. ne_eqb x.key k (λ q. (let r = from_filter (λ (e : Entry). not (blown e.key)) entries x h in clash (blown k) e (subst (λ j. not (blown j) ≡ true) q r.1))))
    where
      clash : (b : Bool) → b ≡ true → not b ≡ true → ⊥
      clash true e f = true≢false (sym f)
      clash false e f = true≢false (sym e)
