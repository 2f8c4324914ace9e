-- histories that meet what the laws ask for
use Rattle.std.proofs.Common.{◌≡◌, ◌≢◌, ◌↔◌, ℕ, zero, suc, ◌≤◌, ℤ, ◌⊎◌, inl, inr, ⊎_elim, Bool, true, IsTrue, nat_eq, Option, Some, None, List, [], ◌∷◌, ◌++◌, refl, sym, ap, ◌∙◌, subst, arith, ◌||◌}
use Rattle.std.specs.Ordering.{int_eq}
use Rattle.std.specs.List.{Contains}
use Rattle.std.proofs.lemmas.Bool.{true≢false, eqb-true, cases_Bool}
use Rattle.models.specs.declared.operation.Name.{Name}
use Rattle.models.specs.declared.operation.Name.TheVariants.{Read, Write, Cas, Acquire, Release, Enqueue, Dequeue, Add}
use Rattle.models.specs.declared.operation.Part.{Part}
use Rattle.models.specs.declared.operation.Part.TheVariants.{Nil, Int}
use Rattle.models.specs.declared.operation.Op.{Op}
use Rattle.models.specs.declared.finding.Answer.TheVariants.{Nothing, Number}
use Rattle.models.specs.Objects.{register}
use Rattle.kinds.specs.declared.model_kind.ModelKind.TheVariants.{Register}
use Rattle.values.proofs.Bags.{same_int}
use Rattle.events.specs.Events.{Mark, Entry}
use Rattle.events.specs.Events.Mark.{Invoked, Returned, Failed, Crashed}
use Rattle.linspec.specs.Operations.{Precedes}
use Rattle.linspec.proofs.Lists.{Contains-nil, Contains-head, Contains-tail, Contains-cons_cases}
use Rattle.linspec.proofs.Counts.{no_longer_than}
use Rattle.shrinking_laws.specs.Intervals.{HasNarrowerIntervals}
use Rattle.shrinking_laws.specs.LeftOut.{HaveFailed, HaveNotReturned, AreReads, AreForeign}
use Rattle.shrinking_laws.specs.Renamed.{IsOneToOne}
use Rattle.shrinking_laws.specs.Registers.{brought_by, compared_by, IsBringer, IsFinder, DragsFinders}
use Rattle.shrinking_laws.specs.ReadsAsCas.{AreAnsweredReads, HasNoCas}
use Rattle.shrinking_laws.specs.Sets.{AreRepeatedAdds, AreAddsOf}
use Rattle.shrinking_laws.specs.Queues.{AreOfValues}
use Rattle.shrinking_laws.specs.Counts.{AreQueueOperations, AreDequeues, IsLeftOver, AreOfOneRank}
use Rattle.shrinking_laws.specs.Bags.{AreValues}
use Rattle.shrinking_laws.specs.Locks.{IsCalled, IsPair, IsLast, StandFirst, IsBlock}

-- a fact about each element of a list that is written out
abbrev Each : {X : Type 0} → (X → Type 0) → List X → Type 0
Each P [] = Unit {0}
Each P (x ∷ xs) = P x × Each P xs

from_each : {X : Type 0} (P : X → Type 0) (xs : List X) → Each P xs → (x : X) → Contains xs x → P x
from_each P [] each x h = absurd (Contains-nil x h)
from_each P (y ∷ xs) each x h = ⊎_elim (λ e. subst P e each.0) (from_each P xs each.1 x) (Contains-cons_cases y xs x h)

abbrev call : Name → Part → Op
call name part = record { name = name; key = 0; part = part }

first : (m n : Mark) → Contains (m ∷ n ∷ []) m
first m n = Contains-head m (n ∷ [])

second : (m n : Mark) → Contains (m ∷ n ∷ []) n
second m n = Contains-tail m (n ∷ []) n (Contains-head n [])

-- one write, within a shorter time
module _ (v : ℤ) where
  abbrev wide : List Entry
  wide = record { index = 0; key = 0; mark = Invoked 0 (call Write (Int v)) } ∷ record { index = 9; key = 0; mark = Returned 0 (Number v) } ∷ []

  abbrev narrow : List Entry
  narrow = record { index = 3; key = 0; mark = Invoked 0 (call Write (Int v)) } ∷ record { index = 5; key = 0; mark = Returned 0 (Number v) } ∷ []

  intervals : HasNarrowerIntervals wide narrow
  intervals = record {
    operations = λ id op. ((λ h. h), (λ h. h));
    answers = λ id answer h. h;
    failures = λ id h. h;
    invoked_no_earlier = λ e f id op h k. from_each (λ (e : Entry). e.mark ≡ Invoked id op → f.mark ≡ Invoked id op → e.index ≤ f.index) wide
        ((λ p. from_each (λ (f : Entry). f.mark ≡ Invoked id op → 0 ≤ f.index) narrow ((λ q. omega arith), ((λ q. omega arith), tt)) f k), ((λ p. cc), tt)) e h;
    returned_no_later = λ e f id answer h k. from_each (λ (e : Entry). e.mark ≡ Returned id answer → f.mark ≡ Returned id answer → f.index ≤ e.index) wide
        ((λ p. cc), ((λ p. from_each (λ (f : Entry). f.mark ≡ Returned id answer → f.index ≤ 9) narrow ((λ q. omega arith), ((λ q. omega arith), tt)) f k), tt)) e h;
  }

-- the operation 0 alone
abbrev zero_alone : ℕ → Bool
zero_alone id = nat_eq id 0

is_zero : (id : ℕ) → IsTrue (zero_alone id) → 0 ≡ id
is_zero id e = sym (eqb-true id 0 e)

a_failed_write : (v : ℤ) → HaveFailed zero_alone (Invoked 0 (call Write (Int v)) ∷ Failed 0 ∷ [])
a_failed_write v id e i = subst (λ n. Contains (Invoked 0 (call Write (Int v)) ∷ Failed 0 ∷ []) (Failed n)) (is_zero id e) (second (Invoked 0 (call Write (Int v))) (Failed 0))

abbrev crashed_read : List Mark
crashed_read = Invoked 0 (call Read Nil) ∷ Crashed 0 ∷ []

a_crashed_read : HaveNotReturned zero_alone crashed_read × AreReads zero_alone crashed_read
a_crashed_read = (
  (λ id e d. from_each (λ m. m ≡ Returned id d.0 → ⊥) crashed_read ((λ q. cc), ((λ q. cc), tt)) _ d.1 refl),
  (λ id op e h. from_each (λ m. m ≡ Invoked id op → op.name ≡ Read) crashed_read
      ((λ q. let same : call Read Nil ≡ op = cc in ap (λ (p : Op). p.name) (sym same)), ((λ q. cc), tt)) _ h refl),
)

a_foreign_enqueue : (v : ℤ) → AreForeign Register zero_alone (Invoked 0 (call Enqueue (Int v)) ∷ [])
a_foreign_enqueue v id op e h s t found step =
    from_each (λ m. m ≡ Invoked id op → ⊥) (Invoked 0 (call Enqueue (Int v)) ∷ [])
    ((λ q. (let same : call Enqueue (Int v) ≡ op = cc in subst (λ (p : Op). register.Steps s p found t) (sym same) step)), tt) _ h refl

later_names : IsOneToOne suc
later_names a b e = let same : a ≡ b = omega arith in same

-- a write that nobody has read, between a write of another value and a read of that one
module _ (u v : ℤ) (apart : u ≢ v) where
  abbrev unread : List Mark
  unread = Invoked 0 (call Write (Int u)) ∷ Returned 0 (Number u) ∷ Invoked 1 (call Write (Int v)) ∷ Returned 1 (Number v)
      ∷ Invoked 2 (call Read Nil) ∷ Returned 2 (Number u) ∷ []

  abbrev one_alone : ℕ → Bool
  one_alone id = nat_eq id 1

  brings_there : (id : ℕ) (w : ℤ) → IsBringer unread id w → ((id ≡ 0) × (w ≡ u)) ⊎ ((id ≡ 1) × (w ≡ v))
  brings_there id w h = from_each (λ m. m ≡ Invoked id h.0 → ((id ≡ 0) × (w ≡ u)) ⊎ ((id ≡ 1) × (w ≡ v))) unread (
    (λ q. inl (let i : 0 ≡ id = cc in let p : call Write (Int u) ≡ h.0 = cc in (sym i, (let r : Some w ≡ Some u = sym h.2 ∙ ap (λ (o : Op). brought_by o.name o.part) (sym p) in cc)))),
    (
      (λ q. cc),
      (
        (λ q. inr (let i : 1 ≡ id = cc in let p : call Write (Int v) ≡ h.0 = cc in (sym i, (let r : Some w ≡ Some v = sym h.2 ∙ ap (λ (o : Op). brought_by o.name o.part) (sym p) in cc)))),
        (
          (λ q. cc),
          (
            (λ q. (let p : call Read Nil ≡ h.0 = cc in let r : None ≡ Some w = ap (λ (o : Op). brought_by o.name o.part) p ∙ h.2 in cc)),
            ((λ q. cc), tt),
          ),
        ),
      ),
    ),
  )
      _ h.1 refl

  finds_there : (id : ℕ) (w : ℤ) → IsFinder unread id w → (id ≡ 2) × (w ≡ u)
  finds_there id w h = from_each (λ m. m ≡ Invoked id h.0 → (id ≡ 2) × (w ≡ u)) unread (
    (λ q. (let p : call Write (Int u) ≡ h.0 = cc in absurd (no_write u p))),
    (
      (λ q. cc),
      (
        (λ q. (let p : call Write (Int v) ≡ h.0 = cc in absurd (no_write v p))),
        (
          (λ q. cc),
          (
            (λ q. (let i : 2 ≡ id = cc in let p : call Read Nil ≡ h.0 = cc in (
              sym i,
              ⊎_elim
                  (λ k. answer_of_two i k.1)
                  (λ k. (let r : None ≡ Some w = ap (λ (o : Op). compared_by o.name o.part) p ∙ k in cc))
                  h.2,
            ))),
            ((λ q. cc), tt),
          ),
        ),
      ),
    ),
  )
      _ h.1 refl
    where
      no_write : (x : ℤ) → call Write (Int x) ≡ h.0 → ⊥
      no_write x p = ⊎_elim
          (λ k. (let r : Write ≡ Read = ap (λ (o : Op). o.name) p ∙ k.0 in cc))
          (λ k. (let r : None ≡ Some w = ap (λ (o : Op). compared_by o.name o.part) p ∙ k in cc))
          h.2

      answer_of_two : 2 ≡ id → Contains unread (Returned id (Number w)) → w ≡ u
      answer_of_two i k = from_each (λ m. m ≡ Returned id (Number w) → w ≡ u) unread (
        (λ q. cc),
        (
          (λ q. (let r : 0 ≡ id = cc in absurd (omega (arith, i, r)))),
          (
            (λ q. cc),
            (
              (λ q. (let r : 1 ≡ id = cc in absurd (omega (arith, i, r)))),
              ((λ q. cc), ((λ q. (let r : u ≡ w = cc in sym r)), tt)),
            ),
          ),
        ),
      )
          _ k refl

  it_drags_nothing : DragsFinders one_alone unread
  it_drags_nothing bringer finder w b f may e = ⊎_elim
      (λ k. (let is : bringer ≡ 1 = eqb-true bringer 1 e in let zero : bringer ≡ 0 = k.0 in absurd (omega arith)))
      (λ k. absurd (apart (sym (finds_there finder w f).1 ∙ k.1)))
      (brings_there bringer w b)

-- a read that has answered, and no cas
module _ (u : ℤ) where
  abbrev answered_read : List Mark
  answered_read = Invoked 0 (call Read Nil) ∷ Returned 0 (Number u) ∷ []

  abbrev value_read : ℕ → Option ℤ
  value_read zero = Some u
  value_read (suc n) = None

  a_read : AreAnsweredReads value_read answered_read
  a_read zero v e = (
    call Read Nil,
    first (Invoked 0 (call Read Nil)) (Returned 0 (Number u)),
    refl,
    refl,
    (let same : u ≡ v = cc in subst (λ w. Contains answered_read (Returned 0 (Number w))) same (second (Invoked 0 (call Read Nil)) (Returned 0 (Number u)))),
  )
  a_read (suc n) v e = cc

  no_cas_there : HasNoCas answered_read
  no_cas_there id op h = from_each (λ m. m ≡ Invoked id op → op.name ≢ Cas) answered_read
      ((λ q k. (let p : call Read Nil ≡ op = cc in let r : Read ≡ Cas = ap (λ (o : Op). o.name) p ∙ k in cc)), ((λ q. cc), tt)) _ h refl

-- two adds of one value, one after the other
module _ (v : ℤ) where
  abbrev two_adds : List Mark
  two_adds = (Invoked 0 (call Add (Int v)) ∷ Returned 0 (Number v) ∷ []) ++ Invoked 1 (call Add (Int v)) ∷ Returned 1 (Number v) ∷ []

  abbrev one_add : ℕ → Bool
  one_add id = nat_eq id 1

  the_second_repeats : AreRepeatedAdds one_add two_adds
  the_second_repeats id e i =
      let is : 1 ≡ id = sym (eqb-true id 1 e) in
      subst (λ n. (w : ℤ) × ((op : Op) × Contains two_adds (Invoked n op) × ((op.name ≡ Add) × (op.part ≡ Int w)))
      × ((f : ℕ) × ((op : Op) × Contains two_adds (Invoked f op) × ((op.name ≡ Add) × (op.part ≡ Int w))) × Precedes two_adds f n × (¬ IsTrue (nat_eq f 1)))) is (
        v,
        (call Add (Int v), (2, omega arith, refl), (refl, refl)),
        (
          0,
          (call Add (Int v), (0, omega arith, refl), (refl, refl)),
          record {
            before = Invoked 0 (call Add (Int v)) ∷ Returned 0 (Number v) ∷ [];
            after = Invoked 1 (call Add (Int v)) ∷ Returned 1 (Number v) ∷ [];
            cut = refl;
            returned = (Number v, second (Invoked 0 (call Add (Int v))) (Returned 0 (Number v)));
            invoked = (call Add (Int v), first (Invoked 1 (call Add (Int v))) (Returned 1 (Number v)));
          },
          (λ q. true≢false (sym q)),
        ),
      )

  abbrev one_value : List Mark
  one_value = Invoked 0 (call Add (Int v)) ∷ []

  its_adds : AreAddsOf (λ w. int_eq w v) zero_alone one_value
  its_adds id op h = from_each (λ m. m ≡ Invoked id op → IsTrue (zero_alone id) ↔ ((w : ℤ) × ((op.name ≡ Add) × (op.part ≡ Int w)) × IsTrue (int_eq w v))) one_value (
    (λ q. (let i : 0 ≡ id = cc in let p : call Add (Int v) ≡ op = cc in (
      (λ e. (v, (ap (λ (o : Op). o.name) (sym p), ap (λ (o : Op). o.part) (sym p)), same_int v v refl)),
      (λ k. ap zero_alone (sym i)),
    ))),
    tt,
  ) _ h refl

-- a value that went into a queue, and came out
module _ (v : ℤ) where
  abbrev in_and_out : List Mark
  in_and_out = Invoked 0 (call Enqueue (Int v)) ∷ Returned 0 (Number v) ∷ Invoked 1 (call Dequeue Nil) ∷ Returned 1 (Number v) ∷ []

  invoked_there : (id : ℕ) (op : Op) → Contains in_and_out (Invoked id op) → ((0 ≡ id) × (call Enqueue (Int v) ≡ op)) ⊎ ((1 ≡ id) × (call Dequeue Nil ≡ op))
  invoked_there id op h = from_each (λ m. m ≡ Invoked id op → ((0 ≡ id) × (call Enqueue (Int v) ≡ op)) ⊎ ((1 ≡ id) × (call Dequeue Nil ≡ op))) in_and_out
      ((λ q. inl ((let i : 0 ≡ id = cc in i), (let p : call Enqueue (Int v) ≡ op = cc in p))), ((λ q. cc), ((λ q. inr ((let i : 1 ≡ id = cc in i), (let p : call Dequeue Nil ≡ op = cc in p))), ((λ q. cc), tt)))) _ h refl

  returned_there : Contains in_and_out (Returned 1 (Number v))
  returned_there = (3, omega arith, refl)

  both_of_v : AreValues (λ id. Some v) in_and_out
  both_of_v id op h = ⊎_elim
      (λ k. inl (v, ap (λ (o : Op). o.name) (sym k.1), ap (λ (o : Op). o.part) (sym k.1), refl))
      (λ k. inr (inl (v, ap (λ (o : Op). o.name) (sym k.1), ap (λ (o : Op). o.part) (sym k.1), subst (λ n. Contains in_and_out (Returned n (Number v))) k.0 returned_there, refl)))
      (invoked_there id op h)

  queue_operations : AreQueueOperations in_and_out
  queue_operations id op h d = ⊎_elim
      (λ k. inl (v, (ap (λ (o : Op). o.name) (sym k.1), ap (λ (o : Op). o.part) (sym k.1))))
      (λ k. inr (v, ap (λ (o : Op). o.name) (sym k.1), ap (λ (o : Op). o.part) (sym k.1), subst (λ n. Contains in_and_out (Returned n (Number v))) k.0 returned_there))
      (invoked_there id op h)

  -- nothing has come out before the dequeue answers
  abbrev before_answer : List Mark
  before_answer = Invoked 0 (call Enqueue (Int v)) ∷ Returned 0 (Number v) ∷ Invoked 1 (call Dequeue Nil) ∷ []

  no_answer : (id : ℕ) → ((op : Op) × Contains before_answer (Invoked id op) × (op.name ≡ Dequeue)) → Contains before_answer (Returned id (Number v)) → ⊥
  no_answer id op h = from_each (λ m. m ≡ Returned id (Number v) → ⊥) before_answer
      ((λ q. cc), ((λ q. (let i : 0 ≡ id = cc in zero_is_none i)), ((λ q. cc), tt))) _ h refl
    where
      zero_is_none : 0 ≡ id → ⊥
      zero_is_none i = from_each (λ m. m ≡ Invoked id op.0 → ⊥) before_answer
          ((λ q. (let p : call Enqueue (Int v) ≡ op.0 = cc in let r : Enqueue ≡ Dequeue = ap (λ (o : Op). o.name) p ∙ op.2 in cc)), ((λ q. cc), ((λ q. (let j : 1 ≡ id = cc in absurd (omega (arith, i, j)))), tt))) _ op.1 refl

  the_pair : AreOfOneRank in_and_out v 0 1
  the_pair = record {
    op = call Enqueue (Int v);
    enqueues = (refl, refl);
    before_enqueue = [];
    after_enqueue = Returned 0 (Number v) ∷ Invoked 1 (call Dequeue Nil) ∷ Returned 1 (Number v) ∷ [];
    invoked = refl;
    taker = call Dequeue Nil;
    dequeues = refl;
    invokes = (2, omega arith, refl);
    before_dequeue = before_answer;
    after_dequeue = [];
    returned = refl;
    enough = λ dequeues those. (
      [],
      record { once = tt; each = λ id h. absurd (Contains-nil id h) },
      no_longer_than dequeues [] those.once (λ id h. (let d = those.each id h in absurd (no_answer id d.0 d.1))),
    );
  }

  all_of_v : AreOfValues (λ w. int_eq w v) (λ id. true) in_and_out
  all_of_v = record {
    enqueues = λ id op w h e. ⊎_elim
        (λ k. ((λ t. same_int w v (let r : Int w ≡ Int v = sym e.1 ∙ ap (λ (o : Op). o.part) (sym k.1) in cc)), (λ t. refl)))
        (λ k. (let r : Dequeue ≡ Enqueue = ap (λ (o : Op). o.name) k.1 ∙ e.0 in absurd (let none : ⊥ = cc in none)))
        (invoked_there id op h);
    dequeues = λ id op w h e d. ((λ t. same_int w v (answer_is id w d)), (λ t. refl));
    unanswered = λ id op w h e n. ⊎_elim
        (λ k. (let r : Enqueue ≡ Dequeue = ap (λ (o : Op). o.name) k.1 ∙ e in absurd (let none : ⊥ = cc in none)))
        (λ k. absurd (n (Number v, subst (λ j. Contains in_and_out (Returned j (Number v))) k.0 returned_there)))
        (invoked_there id op h);
  }
    where
      answer_is : (id : ℕ) (w : ℤ) → Contains in_and_out (Returned id (Number w)) → w ≡ v
      answer_is id w d = from_each (λ m. m ≡ Returned id (Number w) → w ≡ v) in_and_out
          ((λ q. cc), ((λ q. (let r : v ≡ w = cc in sym r)), ((λ q. cc), ((λ q. (let r : v ≡ w = cc in sym r)), tt)))) _ d refl

  a_dequeue_alone : AreDequeues zero_alone (Invoked 0 (call Dequeue Nil) ∷ [])
  a_dequeue_alone id op e h = from_each (λ m. m ≡ Invoked id op → op.name ≡ Dequeue) (Invoked 0 (call Dequeue Nil) ∷ [])
      ((λ q. (let p : call Dequeue Nil ≡ op = cc in ap (λ (o : Op). o.name) (sym p))), tt) _ h refl

  an_enqueue_alone : IsLeftOver (Invoked 0 (call Enqueue (Int v)) ∷ []) v 0
  an_enqueue_alone = record {
    op = call Enqueue (Int v);
    enqueues = (refl, refl);
    before = [];
    after = [];
    invoked = refl;
    enough = λ dequeues those. (
      [],
      record { once = tt; each = λ id h. absurd (Contains-nil id h) },
      no_longer_than dequeues [] those.once (λ id h. (let d = those.each id h in
          absurd (from_each (λ m. m ≡ Returned id (Number v) → ⊥) (Invoked 0 (call Enqueue (Int v)) ∷ []) ((λ q. cc), tt) _ d.1 refl))),
    );
  }

-- a lock that was held once
abbrev held_once : List Mark
held_once = (Invoked 0 (call Acquire Nil) ∷ Returned 0 Nothing ∷ []) ++ Invoked 1 (call Release Nil) ∷ Returned 1 Nothing ∷ []

acquire_then_release : Precedes held_once 0 1
acquire_then_release = record {
  before = Invoked 0 (call Acquire Nil) ∷ Returned 0 Nothing ∷ [];
  after = Invoked 1 (call Release Nil) ∷ Returned 1 Nothing ∷ [];
  cut = refl;
  returned = (Nothing, second (Invoked 0 (call Acquire Nil)) (Returned 0 Nothing));
  invoked = (call Release Nil, first (Invoked 1 (call Release Nil)) (Returned 1 Nothing));
}

-- the release alone is called so
release_is_one : (id : ℕ) (op : Op) → Contains held_once (Invoked id op) → op.name ≡ Release → 1 ≡ id
release_is_one id op h e = from_each (λ m. m ≡ Invoked id op → 1 ≡ id) held_once
    ((λ q. (let p : call Acquire Nil ≡ op = cc in let r : Acquire ≡ Release = ap (λ (o : Op). o.name) p ∙ e in cc)), ((λ q. cc), ((λ q. (let i : 1 ≡ id = cc in i)), ((λ q. cc), tt)))) _ h refl

release_there : Contains held_once (Invoked 1 (call Release Nil))
release_there = (2, omega arith, refl)

a_pair : IsPair held_once Acquire Release 0 1
a_pair = record {
  called = (call Acquire Nil, (0, omega arith, refl), refl);
  called_other = (call Release Nil, release_there, refl);
  precedes = acquire_then_release;
  returned = (Nothing, (3, omega arith, refl));
  none_between = λ x y ne me others own m n k. absurd (ne (sym (release_is_one x others.0.0 others.0.1 others.0.2)));
}

abbrev release_then_acquire : List Mark
release_then_acquire = (Invoked 0 (call Release Nil) ∷ Returned 0 Nothing ∷ []) ++ Invoked 1 (call Acquire Nil) ∷ Returned 1 Nothing ∷ []

a_last_acquire : IsLast release_then_acquire Acquire Release 1
a_last_acquire = (
  (call Acquire Nil, (2, omega arith, refl), refl),
  (λ x others. subst (λ n. Precedes release_then_acquire n 1)
      (from_each (λ m. m ≡ Invoked x others.0.0 → 0 ≡ x) release_then_acquire
      ((λ q. (let i : 0 ≡ x = cc in i)), ((λ q. cc), ((λ q. (let p : call Acquire Nil ≡ others.0.0 = cc in let r : Acquire ≡ Release = ap (λ (o : Op). o.name) p ∙ others.0.2 in cc)), ((λ q. cc), tt)))) _ others.0.1 refl)
      (record {
        before = Invoked 0 (call Release Nil) ∷ Returned 0 Nothing ∷ [];
        after = Invoked 1 (call Acquire Nil) ∷ Returned 1 Nothing ∷ [];
        cut = refl;
        returned = (Nothing, second (Invoked 0 (call Release Nil)) (Returned 0 Nothing));
        invoked = (call Acquire Nil, first (Invoked 1 (call Acquire Nil)) (Returned 1 Nothing));
      })),
)

-- the same, and then it is acquired again: the first two are a block
abbrev held_twice : List Mark
held_twice = held_once ++ Invoked 2 (call Acquire Nil) ∷ Returned 2 Nothing ∷ []

one_at_zero : (id : ℕ) → Contains (0 ∷ []) id → 0 ≡ id
one_at_zero id h = ⊎_elim (λ e. e) (λ k. absurd (Contains-nil id k)) (Contains-cons_cases 0 [] id h)

its_release : (id : ℕ) (op : Op) → Contains held_twice (Invoked id op) → op.name ≡ Release → 1 ≡ id
its_release id op h e = from_each (λ m. m ≡ Invoked id op → 1 ≡ id) held_twice (
  (λ q. (let p : call Acquire Nil ≡ op = cc in let r : Acquire ≡ Release = ap (λ (o : Op). o.name) p ∙ e in cc)),
  (
    (λ q. cc),
    (
      (λ q. (let i : 1 ≡ id = cc in i)),
      (
        (λ q. cc),
        ((λ q. (let p : call Acquire Nil ≡ op = cc in let r : Acquire ≡ Release = ap (λ (o : Op). o.name) p ∙ e in cc)), ((λ q. cc), tt)),
      ),
    ),
  ),
) _ h refl

two_first : StandFirst held_twice (0 ∷ []) (1 ∷ [])
two_first = record {
  acquire = 2;
  called = (call Acquire Nil, (4, omega arith, refl), refl);
  returned = (Nothing, (5, omega arith, refl));
  once_acquires = ((λ id h. absurd (Contains-nil id h)), tt);
  once_releases = ((λ id h. absurd (Contains-nil id h)), tt);
  as_many = refl;
  forced = inl (
    (λ id h. subst (λ n. IsCalled held_twice Acquire n × Precedes held_twice n 2) (one_at_zero id h) (
      (call Acquire Nil, (0, omega arith, refl), refl),
      record {
        before = held_once;
        after = Invoked 2 (call Acquire Nil) ∷ Returned 2 Nothing ∷ [];
        cut = refl;
        returned = (Nothing, (1, omega arith, refl));
        invoked = (call Acquire Nil, (0, omega arith, refl));
      },
    )),
    (λ id ne others n. subst (Contains (1 ∷ [])) (its_release id others.0.0 others.0.1 others.0.2) (Contains-head 1 [])),
  );
}

the_two : ℕ → Bool
the_two id = nat_eq id 0 || nat_eq id 1

a_block : IsBlock held_twice the_two
unfolding the_two
a_block = record {
  smaller = [];
  larger = 0 ∷ 1 ∷ [];
  begins = inl refl;
  ends = (0 ∷ [], 1 ∷ [], two_first, refl);
  within = λ id h. absurd (Contains-nil id h);
  names = λ id. (
    (λ e. (
      ⊎_elim
          (λ z. subst (Contains (0 ∷ 1 ∷ [])) (sym (eqb-true id 0 z)) (Contains-head 0 (1 ∷ [])))
          (λ n. subst (Contains (0 ∷ 1 ∷ [])) (sym (eqb-true id 1 (sym (ap (λ r. r || nat_eq id 1) n) ∙ e))) (Contains-tail 0 (1 ∷ []) 1 (Contains-head 1 [])))
          (cases_Bool (nat_eq id 0)),
      (λ h. Contains-nil id h),
    )),
    (λ h. ⊎_elim
        (λ q. subst (λ n. (nat_eq n 0 || nat_eq n 1) ≡ true) q refl)
        (λ k. ⊎_elim (λ q. subst (λ n. (nat_eq n 0 || nat_eq n 1) ≡ true) q refl) (λ j. absurd (Contains-nil id j)) (Contains-cons_cases 1 [] id k))
        (Contains-cons_cases 0 (1 ∷ []) id h.0)),
  );
}
