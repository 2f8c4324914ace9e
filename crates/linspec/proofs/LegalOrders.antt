-- an order of a written-out history is legal where tests say so that compute
use Rattle.std.proofs.Common.{◌≡◌, ◌≢◌, ℕ, ⊎_elim, Bool, true, false, not, ◌&&◌, ◌||◌, nat_eq, List, [], ◌∷◌, ◌++◌, refl, sym, ap, ◌∙◌, subst}
use Rattle.std.specs.Bool.{OnTrue}
use Rattle.std.specs.List.{Contains}
use Rattle.std.proofs.lemmas.Bool.{cases_Bool, true≢false, eqb-true, eq-eqb, and_parts, and_from, not-true}
use Rattle.models.specs.declared.finding.Answer.{Answer}
use Rattle.models.specs.Objects.{Object, Fits}
use Rattle.events.specs.Events.{Mark}
use Rattle.events.specs.Events.Mark.{Invoked, Returned, Failed, Crashed}
use Rattle.linspec.specs.Operations.{HasReturned, IsInvoked, Precedes}
use Rattle.linspec.specs.Orders.{Taken, Includes, Pairwise, Run, IsLegalOrder}
use Rattle.linspec.proofs.Lists.{Contains-nil, Contains-head, Contains-tail, Contains-cons_cases}

-- the operation is in the order
abbrev includes : List Taken → ℕ → Bool
includes [] id = false
includes (x ∷ order) id = nat_eq x.id id || includes order id

-- none is in it twice
abbrev pub is_once : List Taken → Bool
is_once [] = true
is_once (x ∷ order) = not (includes order x.id) && is_once order

-- each done operation is in it, and no failed one
abbrev pub keeps_fates : List Mark → List Taken → Bool
keeps_fates [] order = true
keeps_fates (Invoked id op ∷ marks) order = keeps_fates marks order
keeps_fates (Returned id answer ∷ marks) order = includes order id && keeps_fates marks order
keeps_fates (Failed id ∷ marks) order = not (includes order id) && keeps_fates marks order
keeps_fates (Crashed id ∷ marks) order = keeps_fates marks order

abbrev invokes : List Mark → ℕ → Bool
invokes [] id = false
invokes (Invoked i op ∷ marks) id = nat_eq i id || invokes marks id
invokes (Returned i answer ∷ marks) id = invokes marks id
invokes (Failed i ∷ marks) id = invokes marks id
invokes (Crashed i ∷ marks) id = invokes marks id

-- a has returned and then b is invoked
abbrev pub precedes : List Mark → ℕ → ℕ → Bool
precedes [] a b = false
precedes (Invoked id op ∷ marks) a b = precedes marks a b
precedes (Returned id answer ∷ marks) a b = (nat_eq id a && invokes marks b) || precedes marks a b
precedes (Failed id ∷ marks) a b = precedes marks a b
precedes (Crashed id ∷ marks) a b = precedes marks a b

abbrev none_precedes : List Mark → ℕ → List Taken → Bool
none_precedes marks id [] = true
none_precedes marks id (y ∷ order) = not (precedes marks y.id id) && none_precedes marks id order

-- none stands after one that it precedes
abbrev pub is_in_time : List Mark → List Taken → Bool
is_in_time marks [] = true
is_in_time marks (x ∷ order) = none_precedes marks x.id order && is_in_time marks order

-- each operation of the order is invoked
abbrev pub EachIsInvoked : List Mark → List Taken → Type 0
EachIsInvoked marks [] = Unit {0}
EachIsInvoked marks (x ∷ order) = Contains marks (Invoked x.id x.op) × EachIsInvoked marks order

abbrev EachFitsOne : List Taken → ℕ → Answer → Type 0
EachFitsOne [] id answer = Unit {0}
EachFitsOne (x ∷ order) id answer = OnTrue (nat_eq x.id id) (Fits x.found answer) × EachFitsOne order id answer

-- the value that each done operation finds fits its answer
abbrev pub EachFits : List Mark → List Taken → Type 0
EachFits [] order = Unit {0}
EachFits (Invoked id op ∷ marks) order = EachFits marks order
EachFits (Returned id answer ∷ marks) order = EachFitsOne order id answer × EachFits marks order
EachFits (Failed id ∷ marks) order = EachFits marks order
EachFits (Crashed id ∷ marks) order = EachFits marks order

or_right : (x y : Bool) → y ≡ true → (x || y) ≡ true
or_right true y e = refl
or_right false y e = e

or_left : (x y : Bool) → x ≡ true → (x || y) ≡ true
or_left x y e = ap (λ b. b || y) e

not_both : (b : Bool) → not b ≡ true → b ≡ true → ⊥
not_both b n e = true≢false (sym e ∙ not-true b n)

to_includes : (order : List Taken) (id : ℕ) → Includes order id → includes order id ≡ true
to_includes [] id h = absurd (Contains-nil h.0 h.1)
to_includes (x ∷ order) id h =
    ⊎_elim
    (λ e. or_left (nat_eq x.id id) (includes order id) (eq-eqb x.id id (ap (λ (w : Taken). w.id) e ∙ h.2)))
    (λ k. or_right (nat_eq x.id id) (includes order id) (to_includes order id (h.0, k, h.2)))
    (Contains-cons_cases x order h.0 h.1)

from_includes : (order : List Taken) (id : ℕ) → includes order id ≡ true → Includes order id
from_includes [] id e = absurd (true≢false (sym e))
from_includes (x ∷ order) id e =
    ⊎_elim
    (λ q. (x, Contains-head x order, eqb-true x.id id q))
    (λ q. (let r : Includes order id = from_includes order id (sym (ap (λ b. b || includes order id) q) ∙ e) in (r.0, Contains-tail x order r.0 r.1, r.2)))
    (cases_Bool (nat_eq x.id id))

from_once : (order : List Taken) → is_once order ≡ true → Pairwise (λ x y. x.id ≢ y.id) order
from_once [] e = tt
from_once (x ∷ order) e =
    let p = and_parts (not (includes order x.id)) (is_once order) e in
    ((λ y h q. not_both (includes order x.id) p.0 (to_includes order x.id (y, h, sym q))), from_once order p.1)

from_fates_done : (marks : List Mark) (order : List Taken) → keeps_fates marks order ≡ true → (id : ℕ) (answer : Answer) → Contains marks (Returned id answer) → includes order id ≡ true
from_fates_done [] order e id answer h = absurd (Contains-nil (Returned id answer) h)
from_fates_done (Invoked i op ∷ marks) order e id answer h =
    ⊎_elim (λ q. cc) (from_fates_done marks order e id answer) (Contains-cons_cases (Invoked i op) marks (Returned id answer) h)
from_fates_done (Returned i a ∷ marks) order e id answer h =
    let p = and_parts (includes order i) (keeps_fates marks order) e in
    ⊎_elim (λ q. (let t : i ≡ id = cc in subst (λ n. includes order n ≡ true) t p.0)) (from_fates_done marks order p.1 id answer) (Contains-cons_cases (Returned i a) marks (Returned id answer) h)
from_fates_done (Failed i ∷ marks) order e id answer h =
    let p = and_parts (not (includes order i)) (keeps_fates marks order) e in
    ⊎_elim (λ q. cc) (from_fates_done marks order p.1 id answer) (Contains-cons_cases (Failed i) marks (Returned id answer) h)
from_fates_done (Crashed i ∷ marks) order e id answer h =
    ⊎_elim (λ q. cc) (from_fates_done marks order e id answer) (Contains-cons_cases (Crashed i) marks (Returned id answer) h)

from_fates_failed : (marks : List Mark) (order : List Taken) → keeps_fates marks order ≡ true → (id : ℕ) → Contains marks (Failed id) → not (includes order id) ≡ true
from_fates_failed [] order e id h = absurd (Contains-nil (Failed id) h)
from_fates_failed (Invoked i op ∷ marks) order e id h =
    ⊎_elim (λ q. cc) (from_fates_failed marks order e id) (Contains-cons_cases (Invoked i op) marks (Failed id) h)
from_fates_failed (Returned i a ∷ marks) order e id h =
    let p = and_parts (includes order i) (keeps_fates marks order) e in
    ⊎_elim (λ q. cc) (from_fates_failed marks order p.1 id) (Contains-cons_cases (Returned i a) marks (Failed id) h)
from_fates_failed (Failed i ∷ marks) order e id h =
    let p = and_parts (not (includes order i)) (keeps_fates marks order) e in
    ⊎_elim (λ q. (let t : i ≡ id = cc in subst (λ n. not (includes order n) ≡ true) t p.0)) (from_fates_failed marks order p.1 id) (Contains-cons_cases (Failed i) marks (Failed id) h)
from_fates_failed (Crashed i ∷ marks) order e id h =
    ⊎_elim (λ q. cc) (from_fates_failed marks order e id) (Contains-cons_cases (Crashed i) marks (Failed id) h)

to_invokes : (marks : List Mark) (id : ℕ) → IsInvoked marks id → invokes marks id ≡ true
to_invokes [] id h = absurd (Contains-nil _ h.1)
to_invokes (Invoked i op ∷ marks) id h =
    ⊎_elim
    (λ q. (let t : i ≡ id = cc in or_left (nat_eq i id) (invokes marks id) (eq-eqb i id t)))
    (λ k. or_right (nat_eq i id) (invokes marks id) (to_invokes marks id (h.0, k)))
    (Contains-cons_cases (Invoked i op) marks (Invoked id h.0) h.1)
to_invokes (Returned i a ∷ marks) id h = ⊎_elim (λ q. cc) (λ k. to_invokes marks id (h.0, k)) (Contains-cons_cases (Returned i a) marks (Invoked id h.0) h.1)
to_invokes (Failed i ∷ marks) id h = ⊎_elim (λ q. cc) (λ k. to_invokes marks id (h.0, k)) (Contains-cons_cases (Failed i) marks (Invoked id h.0) h.1)
to_invokes (Crashed i ∷ marks) id h = ⊎_elim (λ q. cc) (λ k. to_invokes marks id (h.0, k)) (Contains-cons_cases (Crashed i) marks (Invoked id h.0) h.1)

invokes-after : (before after : List Mark) (id : ℕ) → invokes after id ≡ true → invokes (before ++ after) id ≡ true
invokes-after [] after id e = e
invokes-after (Invoked i op ∷ before) after id e = or_right (nat_eq i id) (invokes (before ++ after) id) (invokes-after before after id e)
invokes-after (Returned i a ∷ before) after id e = invokes-after before after id e
invokes-after (Failed i ∷ before) after id e = invokes-after before after id e
invokes-after (Crashed i ∷ before) after id e = invokes-after before after id e

precedes-cut : (before after : List Mark) (a b : ℕ) → HasReturned before a → invokes after b ≡ true → precedes (before ++ after) a b ≡ true
precedes-cut [] after a b r i = absurd (Contains-nil _ r.1)
precedes-cut (Invoked id op ∷ before) after a b r i = ⊎_elim (λ q. cc) (λ k. precedes-cut before after a b (r.0, k) i) (Contains-cons_cases (Invoked id op) before (Returned a r.0) r.1)
precedes-cut (Returned id answer ∷ before) after a b r i =
    ⊎_elim
    (λ q. (let t : id ≡ a = cc in
    or_left (nat_eq id a && invokes (before ++ after) b) (precedes (before ++ after) a b) (and_from (nat_eq id a) (invokes (before ++ after) b) (eq-eqb id a t) (invokes-after before after b i))))
    (λ k. or_right (nat_eq id a && invokes (before ++ after) b) (precedes (before ++ after) a b) (precedes-cut before after a b (r.0, k) i))
    (Contains-cons_cases (Returned id answer) before (Returned a r.0) r.1)
precedes-cut (Failed id ∷ before) after a b r i = ⊎_elim (λ q. cc) (λ k. precedes-cut before after a b (r.0, k) i) (Contains-cons_cases (Failed id) before (Returned a r.0) r.1)
precedes-cut (Crashed id ∷ before) after a b r i = ⊎_elim (λ q. cc) (λ k. precedes-cut before after a b (r.0, k) i) (Contains-cons_cases (Crashed id) before (Returned a r.0) r.1)

to_precedes : (marks : List Mark) (a b : ℕ) → Precedes marks a b → precedes marks a b ≡ true
to_precedes marks a b p = subst (λ l. precedes l a b ≡ true) p.cut (precedes-cut p.before p.after a b p.returned (to_invokes p.after b p.invoked))

from_none_precedes : (marks : List Mark) (id : ℕ) (order : List Taken) → none_precedes marks id order ≡ true → (y : Taken) → Contains order y → ¬ Precedes marks y.id id
from_none_precedes marks id [] e y h p = Contains-nil y h
from_none_precedes marks id (z ∷ order) e y h p =
    let parts = and_parts (not (precedes marks z.id id)) (none_precedes marks id order) e in
    ⊎_elim
    (λ q. not_both (precedes marks z.id id) parts.0 (to_precedes marks z.id id (subst (λ (w : Taken). Precedes marks w.id id) (sym q) p)))
    (λ k. from_none_precedes marks id order parts.1 y k p)
    (Contains-cons_cases z order y h)

from_in_time : (marks : List Mark) (order : List Taken) → is_in_time marks order ≡ true → Pairwise (λ x y. ¬ Precedes marks y.id x.id) order
from_in_time marks [] e = tt
from_in_time marks (x ∷ order) e =
    let parts = and_parts (none_precedes marks x.id order) (is_in_time marks order) e in
    (from_none_precedes marks x.id order parts.0, from_in_time marks order parts.1)

from_each_invoked : (marks : List Mark) (order : List Taken) → EachIsInvoked marks order → (x : Taken) → Contains order x → Contains marks (Invoked x.id x.op)
from_each_invoked marks [] each x h = absurd (Contains-nil x h)
from_each_invoked marks (y ∷ order) each x h =
    ⊎_elim (λ q. subst (λ (w : Taken). Contains marks (Invoked w.id w.op)) q each.0) (from_each_invoked marks order each.1 x) (Contains-cons_cases y order x h)

on_true : (b : Bool) (P : Type 0) → b ≡ true → OnTrue b P → P
on_true true P e h = h
on_true false P e h = absurd (true≢false (sym e))

from_fits_one : (order : List Taken) (id : ℕ) (answer : Answer) → EachFitsOne order id answer → (x : Taken) → Contains order x → x.id ≡ id → Fits x.found answer
from_fits_one [] id answer each x h e = absurd (Contains-nil x h)
from_fits_one (y ∷ order) id answer each x h e =
    ⊎_elim
    (λ q. subst (λ (w : Taken). Fits w.found answer) q (on_true (nat_eq y.id id) (Fits y.found answer) (eq-eqb y.id id (ap (λ (w : Taken). w.id) q ∙ e)) each.0))
    (λ k. from_fits_one order id answer each.1 x k e)
    (Contains-cons_cases y order x h)

from_fits : (marks : List Mark) (order : List Taken) → EachFits marks order → (x : Taken) (answer : Answer) → Contains order x → Contains marks (Returned x.id answer) → Fits x.found answer
from_fits [] order each x answer h d = absurd (Contains-nil _ d)
from_fits (Invoked i op ∷ marks) order each x answer h d = ⊎_elim (λ q. cc) (from_fits marks order each x answer h) (Contains-cons_cases (Invoked i op) marks (Returned x.id answer) d)
from_fits (Returned i a ∷ marks) order each x answer h d =
    ⊎_elim
    (λ q. (let t : i ≡ x.id = cc in let u : a ≡ answer = cc in subst (Fits x.found) u (from_fits_one order i a each.0 x h (sym t))))
    (from_fits marks order each.1 x answer h)
    (Contains-cons_cases (Returned i a) marks (Returned x.id answer) d)
from_fits (Failed i ∷ marks) order each x answer h d = ⊎_elim (λ q. cc) (from_fits marks order each x answer h) (Contains-cons_cases (Failed i) marks (Returned x.id answer) d)
from_fits (Crashed i ∷ marks) order each x answer h d = ⊎_elim (λ q. cc) (from_fits marks order each x answer h) (Contains-cons_cases (Crashed i) marks (Returned x.id answer) d)

-- an order that passes is legal
pub legal_by : (o : Object) (marks : List Mark) (order : List Taken) (s : o.State) → is_once order ≡ true → keeps_fates marks order ≡ true → is_in_time marks order ≡ true
    → EachIsInvoked marks order → EachFits marks order → Run o o.start order s → IsLegalOrder o marks order s
legal_by o marks order s once fates in_time invoked fits run = record {
  invoked = from_each_invoked marks order invoked;
  once = from_once order once;
  none_failed = λ x h f. not_both (includes order x.id) (from_fates_failed marks order fates x.id f) (to_includes order x.id (x, h, refl));
  all_done = λ id d. from_includes order id (from_fates_done marks order fates id d.0 d.1);
  in_time = from_in_time marks order in_time;
  run = run;
  fits = from_fits marks order fits;
}
