-- histories with other operations and other answers
use Rattle.std.proofs.Common.{◌≡◌, ℕ, List, [], ◌∷◌, ◌++◌, refl, sym, ap, ◌∙◌, subst}
use Rattle.std.specs.List.{Contains}
use Rattle.std.proofs.lemmas.List.{map-append}
use Rattle.models.specs.declared.operation.Op.{Op}
use Rattle.models.specs.declared.finding.Answer.{Answer}
use Rattle.events.specs.Events.{Mark}
use Rattle.events.specs.Events.Mark.{Invoked, Returned, Failed, Crashed}
use Rattle.shrinking_laws.specs.Changed.{changed_mark, changed}
use Rattle.linspec.specs.MarkRule.{id_of, IsNew, MayFollow, AreWellFormed}
use Rattle.linspec.specs.Operations.{IsOpen, Precedes}
use Rattle.linspec.proofs.Filters.{map-cut, from_map, to_map}

module _ (ops : ℕ → Op → Op) (answers : ℕ → Answer → Answer) where
  abbrev change : Mark → Mark
  change = changed_mark ops answers

  pub changed-id : (m : Mark) → id_of (change m) ≡ id_of m
  changed-id (Invoked id op) = refl
  changed-id (Returned id answer) = refl
  changed-id (Failed id) = refl
  changed-id (Crashed id) = refl

  pub change_invoked : (m : Mark) (id : ℕ) (op : Op) → change m ≡ Invoked id op → (before : Op) × (m ≡ Invoked id before) × (ops id before ≡ op)
  change_invoked (Invoked i p) id op e =
      let same : i ≡ id = cc in
      let is : ops i p ≡ op = cc in
      (p, ap (λ j. Invoked j p) same, ap (λ j. ops j p) (sym same) ∙ is)
  change_invoked (Returned i a) id op e = cc
  change_invoked (Failed i) id op e = cc
  change_invoked (Crashed i) id op e = cc

  change_returned : (m : Mark) (id : ℕ) (answer : Answer) → change m ≡ Returned id answer → (before : Answer) × (m ≡ Returned id before) × (answers id before ≡ answer)
  change_returned (Returned i a) id answer e =
      let same : i ≡ id = cc in
      let is : answers i a ≡ answer = cc in
      (a, ap (λ j. Returned j a) same, ap (λ j. answers j a) (sym same) ∙ is)
  change_returned (Invoked i p) id answer e = cc
  change_returned (Failed i) id answer e = cc
  change_returned (Crashed i) id answer e = cc

  change_failed : (m : Mark) (id : ℕ) → change m ≡ Failed id → m ≡ Failed id
  change_failed (Failed i) id e = e
  change_failed (Invoked i p) id e = cc
  change_failed (Returned i a) id e = cc
  change_failed (Crashed i) id e = cc

  change_crashed : (m : Mark) (id : ℕ) → change m ≡ Crashed id → m ≡ Crashed id
  change_crashed (Crashed i) id e = e
  change_crashed (Invoked i p) id e = cc
  change_crashed (Returned i a) id e = cc
  change_crashed (Failed i) id e = cc

  abbrev all_changed : List Mark → List Mark
  all_changed ms = changed ops answers ms

  pub from_invoked : (ms : List Mark) (id : ℕ) (op : Op) → Contains (all_changed ms) (Invoked id op) → (before : Op) × Contains ms (Invoked id before) × (ops id before ≡ op)
  from_invoked ms id op h = let r = from_map change ms (Invoked id op) h in let q = change_invoked r.0 id op r.2 in (q.0, subst (Contains ms) q.1 r.1, q.2)

  pub from_returned : (ms : List Mark) (id : ℕ) (answer : Answer) → Contains (all_changed ms) (Returned id answer) → (before : Answer) × Contains ms (Returned id before) × (answers id before ≡ answer)
  from_returned ms id answer h = let r = from_map change ms (Returned id answer) h in let q = change_returned r.0 id answer r.2 in (q.0, subst (Contains ms) q.1 r.1, q.2)

  pub to_invoked : (ms : List Mark) (id : ℕ) (op : Op) → Contains ms (Invoked id op) → Contains (all_changed ms) (Invoked id (ops id op))
  to_invoked ms id op h = to_map change ms (Invoked id op) h

  pub to_returned : (ms : List Mark) (id : ℕ) (answer : Answer) → Contains ms (Returned id answer) → Contains (all_changed ms) (Returned id (answers id answer))
  to_returned ms id answer h = to_map change ms (Returned id answer) h

  pub to_failed : (ms : List Mark) (id : ℕ) → Contains ms (Failed id) → Contains (all_changed ms) (Failed id)
  to_failed ms id h = to_map change ms (Failed id) h

  pub from_failed : (ms : List Mark) (id : ℕ) → Contains (all_changed ms) (Failed id) → Contains ms (Failed id)
  from_failed ms id h = let r = from_map change ms (Failed id) h in subst (Contains ms) (change_failed r.0 id r.2) r.1

  from_crashed : (ms : List Mark) (id : ℕ) → Contains (all_changed ms) (Crashed id) → Contains ms (Crashed id)
  from_crashed ms id h = let r = from_map change ms (Crashed id) h in subst (Contains ms) (change_crashed r.0 id r.2) r.1

  pub from_precedes : (ms : List Mark) (a b : ℕ) → Precedes (all_changed ms) a b → Precedes ms a b
  from_precedes ms a b p =
      let c = map-cut change ms p.before p.after p.cut in
      let i = from_invoked c.1 b p.invoked.0 (subst (λ l. Contains l (Invoked b p.invoked.0)) c.4 p.invoked.1) in
      let r = from_returned c.0 a p.returned.0 (subst (λ l. Contains l (Returned a p.returned.0)) c.3 p.returned.1) in
      record { before = c.0; after = c.1; cut = sym c.2; returned = (r.0, r.1); invoked = (i.0, i.1) }

  pub to_precedes : (ms : List Mark) (a b : ℕ) → Precedes ms a b → Precedes (all_changed ms) a b
  to_precedes ms a b p = record {
    before = all_changed p.before;
    after = all_changed p.after;
    cut = sym (map-append change p.before p.after) ∙ ap all_changed p.cut;
    returned = (answers a p.returned.0, to_map change p.before (Returned a p.returned.0) p.returned.1);
    invoked = (ops b p.invoked.0, to_map change p.after (Invoked b p.invoked.0) p.invoked.1);
  }

  change_open : (ms : List Mark) (id : ℕ) → IsOpen ms id → IsOpen (all_changed ms) id
  change_open ms id is = record {
    invoked = (ops id is.invoked.0, to_map change ms (Invoked id is.invoked.0) is.invoked.1);
    not_returned = λ r. (let q = from_returned ms id r.0 r.1 in is.not_returned (q.0, q.1));
    not_failed = λ f. is.not_failed (from_failed ms id f);
    not_crashed = λ f. is.not_crashed (from_crashed ms id f);
  }

  change_new : (ms : List Mark) (id : ℕ) → IsNew ms id → IsNew (all_changed ms) id
  change_new ms id new m h e = let r = from_map change ms m h in new r.0 r.1 (sym (changed-id r.0) ∙ ap id_of r.2 ∙ e)

  change_follow : (ms : List Mark) (m : Mark) → MayFollow ms m → MayFollow (all_changed ms) (change m)
  change_follow ms (Invoked id op) may = change_new ms id may
  change_follow ms (Returned id answer) may = change_open ms id may
  change_follow ms (Failed id) may = change_open ms id may
  change_follow ms (Crashed id) may = change_open ms id may

  first_of_changed : (zs after : List Mark) (m : Mark) → m ∷ after ≡ all_changed zs → (n : Mark) × (vs : List Mark) × (zs ≡ n ∷ vs) × (change n ≡ m)
  first_of_changed [] after m e = cc
  first_of_changed (n ∷ vs) after m e = let head : m ≡ change n = cc in (n, vs, refl, sym head)

  pub AreWellFormed-changed : (ms : List Mark) → AreWellFormed ms → AreWellFormed (all_changed ms)
  AreWellFormed-changed ms well before after m cut =
      let c = map-cut change ms before (m ∷ after) cut in
      let d = first_of_changed c.1 after m c.4 in
      subst (λ l. MayFollow l m) (sym c.3) (subst (MayFollow (all_changed c.0)) d.3 (change_follow c.0 d.0 (well c.0 d.1 d.0 (ap (λ l. c.0 ++ l) (sym d.2) ∙ sym c.2))))
