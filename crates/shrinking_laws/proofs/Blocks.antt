-- a block of a lock's history stands in one piece, and the lock is free before it and after it
use Rattle.std.proofs.Common.{◌≡◌, ◌≢◌, ◌↔◌, ℕ, suc, ◌+◌, ◌≤◌, ◌⊎◌, inl, inr, ⊎_elim, Bool, true, false, not, cond, List, [], ◌∷◌, ◌++◌, length, refl, sym, ap, ◌∙◌, subst, append_assoc, arith}
use Rattle.std.specs.List.{filter, Contains}
use Rattle.std.proofs.lemmas.Bool.{cases_Bool, cases_eq, true≢false}
use Rattle.std.proofs.lemmas.List.{append-nil}
use Rattle.std.proofs.lemmas.List.Elements.{Contains-append_left, Contains-append_right, Contains-append_cases}
use Rattle.models.specs.declared.operation.Name.{Name}
use Rattle.models.specs.declared.operation.Name.TheVariants.{Acquire, Release}
use Rattle.models.specs.Objects.{mutex}
use Rattle.events.specs.Events.{Mark, IsPrefixOf}
use Rattle.linspec.specs.MarkRule.{AreWellFormed}
use Rattle.linspec.specs.Operations.{Precedes}
use Rattle.linspec.specs.Orders.{Taken, Includes, Pairwise, Run, IsLegalOrder}
use Rattle.linspec.proofs.Lists.{Contains-nil, Contains-head, Contains-tail, Contains-cons_cases, Pairwise-left, Pairwise-right, Pairwise-across, cut_at}
use Rattle.linspec.proofs.Filters.{two_cuts, Pairwise-filter}
use Rattle.linspec.proofs.Marks.{Precedes-returned, Run-cut}
use Rattle.linspec.proofs.Counts.{no_longer_than}
use Rattle.shrinking_laws.specs.Locks.{IsCalled, MayTakePlace, AreForced, StandFirst, IsFirstPart, IsBlock}
use Rattle.shrinking_laws.proofs.Once.{not_before_itself}
use Rattle.shrinking_laws.proofs.LeftOut.{step_of}
use Rattle.shrinking_laws.proofs.Counting.{ids_of, count, from_ids, to_ids, each_once}
use Rattle.shrinking_laws.proofs.Locks.{name_at, name_at-once, mutex_view, called_in}

abbrev is_name : Bool → Name → Bool
is_name false Acquire = true
is_name true Release = true
is_name _ _ = false

-- the operations of an order that take place in this state
abbrev takes_at : Bool → Taken → Bool
takes_at b x = is_name b x.op.name

abbrev held : Bool → ℕ
held false = 0
held true = 1

step_counts : (name : Name) (s t : Bool) → name ≡ name_at s → t ≡ not s → cond (is_name false name) 1 0 + held s ≡ cond (is_name true name) 1 0 + held t
step_counts name false t e f =
    let acquires : cond {A = ℕ} (is_name false name) 1 0 ≡ 1 = ap (λ n. cond (is_name false n) 1 0) e in
    let releases : cond {A = ℕ} (is_name true name) 1 0 ≡ 0 = ap (λ n. cond (is_name true n) 1 0) e in
    let after : held t ≡ 1 = ap held f in
    omega (arith, acquires, releases, after)
step_counts name true t e f =
    let acquires : cond {A = ℕ} (is_name false name) 1 0 ≡ 0 = ap (λ n. cond (is_name false n) 1 0) e in
    let releases : cond {A = ℕ} (is_name true name) 1 0 ≡ 1 = ap (λ n. cond (is_name true n) 1 0) e in
    let after : held t ≡ 0 = ap held f in
    omega (arith, acquires, releases, after)

counted : (order : List Taken) (s t : Bool) → Run mutex s order t → length (ids_of (takes_at false) order) + held s ≡ length (ids_of (takes_at true) order) + held t
counted [] s t run = ap (λ l. 0 + held l) run
counted (x ∷ order) s t run =
    let k = mutex_view x.op.name x.op.part s run.0 x.found run.1 in
    let first = step_counts x.op.name s run.0 k.0 k.2 in
    let rest = counted order run.0 t run.2 in
    let acquires = count (takes_at false) x order in
    let releases = count (takes_at true) x order in
    omega (arith, first, rest, acquires, releases)

named : (b : Bool) (name : Name) → is_name b name ≡ true → name ≡ name_at b
named false Acquire e = refl
named true Release e = refl
named false _ e = absurd (true≢false (sym e))
named true _ e = absurd (true≢false (sym e))

is_named : (b : Bool) (name : Name) → name ≡ name_at b → is_name b name ≡ true
is_named false name e = ap (is_name false) e
is_named true name e = ap (is_name true) e

-- a list as long as a part of it, whose elements differ, has no others
in_or_not : (xs : List ℕ) (y : ℕ) → Contains xs y ⊎ (¬ Contains xs y)
in_or_not [] y = inr (λ h. Contains-nil y h)
in_or_not (x ∷ xs) y = ⊎_elim
    (λ e. inl (subst (Contains (x ∷ xs)) e (Contains-head x xs)))
    (λ ne. ⊎_elim (λ k. inl (Contains-tail x xs y k)) (λ n. inr (λ h. ⊎_elim ne n (Contains-cons_cases x xs y h))) (in_or_not xs y))
    (cases_eq x y)

no_others : (xs ys : List ℕ) → Pairwise (λ a b. a ≢ b) xs → ((x : ℕ) → Contains xs x → Contains ys x) → length ys ≤ length xs → (y : ℕ) → Contains ys y → Contains xs y
no_others xs ys once among fits y h = ⊎_elim
    (λ k. k)
    (λ n. (let longer : suc (length xs) ≤ length ys = no_longer_than (y ∷ xs) ys ((λ x k e. n (subst (Contains xs) (sym e) k)), once)
    (λ x k. ⊎_elim (λ e. subst (Contains ys) e h) (among x) (Contains-cons_cases y xs x k)) in absurd (omega (arith, longer, fits))))
    (in_or_not xs y)

-- a part of an order that stands in one piece, with the lock free before and after, and that out names
pub record Piece (order : List Taken) (out : ℕ → Bool) : Type 0 where
  pub before : List Taken
  pub middle : List Taken
  pub after : List Taken
  pub whole : before ++ (middle ++ after) ≡ order
  pub free_before : Run mutex false before false
  pub free_after : Run mutex false (before ++ middle) false
  pub named : (z : Taken) → Contains middle z → out z.id ≡ true
  pub others_before : (z : Taken) → Contains before z → out z.id ≡ false
  pub others_after : (z : Taken) → Contains after z → out z.id ≡ false

-- a run of a lock ends in one state
pub one_end : (zs : List Taken) (s u v : Bool) → Run mutex s zs u → Run mutex s zs v → u ≡ v
one_end [] s u v h k = sym h ∙ k
one_end (z ∷ zs) s u v h k =
    let e = (mutex_view z.op.name z.op.part s h.0 z.found h.1).2 in
    let f = (mutex_view z.op.name z.op.part s k.0 z.found k.1).2 in
    one_end zs h.0 u v h.2 (subst (λ w. Run mutex w zs v) (f ∙ sym e) k.2)

module _ (ms : List Mark) (well : AreWellFormed ms) (order : List Taken) (end : Bool) (l : IsLegalOrder mutex ms order end) where
  abbrev InTime : Taken → Taken → Type 0
  InTime x y = ¬ Precedes ms y.id x.id

  abbrev Apart : Taken → Taken → Type 0
  Apart x y = x.id ≢ y.id

  -- a prefix of the order that has just these operations, and leaves the lock free
  record FirstPart (ids : List ℕ) : Type 0 where
    front : List Taken
    rest : List Taken
    whole : front ++ rest ≡ order
    free : Run mutex false front false
    from : (z : Taken) → Contains front z → Contains ids z.id
    to : (id : ℕ) → Contains ids id → Includes front id

  module _ (acquires releases : List ℕ) (first : StandFirst ms acquires releases) where
    place : Includes order first.acquire
    place = l.all_done first.acquire first.returned

    abbrev a : Taken
    a = place.0

    cut : (xs : List Taken) × (ys : List Taken) × (order ≡ xs ++ a ∷ ys)
    cut = cut_at order a place.1

    abbrev xs : List Taken
    xs = cut.0

    abbrev ys : List Taken
    ys = cut.1

    in_time : Pairwise InTime (xs ++ a ∷ ys)
    in_time = subst (Pairwise InTime) cut.2 l.in_time

    apart : Pairwise Apart (xs ++ a ∷ ys)
    apart = subst (Pairwise Apart) cut.2 l.once

    xs_there : (z : Taken) → Contains xs z → Contains order z
    xs_there z h = subst (λ k. Contains k z) (sym cut.2) (Contains-append_left xs (a ∷ ys) z h)

    runs : (u : Bool) × Run mutex false xs u × Run mutex u (a ∷ ys) end
    runs = Run-cut mutex false end xs (a ∷ ys) (subst (λ k. Run mutex false k end) cut.2 l.run)

    free_here : runs.0 ≡ false
    free_here = name_at-once runs.0 false (sym (mutex_view a.op.name a.op.part runs.0 runs.2.0 a.found runs.2.1).0 ∙ called_in ms well Acquire first.acquire a first.called place.2 (l.invoked a place.1))

    run_free : Run mutex false xs false
    run_free = subst (Run mutex false xs) free_here runs.1

    as_many_there : length (ids_of (takes_at false) xs) ≡ length (ids_of (takes_at true) xs)
    as_many_there = let sums = counted xs false false run_free in omega arith

    -- who precedes the acquire stands before it
    stands_before : (b : Bool) (id : ℕ) → IsCalled ms (name_at b) id → Precedes ms id first.acquire → Contains (ids_of (takes_at b) xs) id
    stands_before b id called p =
        let i : Includes order id = l.all_done id (Precedes-returned ms id first.acquire p) in
        let z : Taken = i.0 in
        let p' : Precedes ms z.id a.id = subst (λ n. Precedes ms n a.id) (sym i.2) (subst (Precedes ms id) (sym place.2) p) in
        let before : Contains xs z = ⊎_elim
        (λ k. k)
        (λ k. ⊎_elim
        (λ (e : a ≡ z). absurd (not_before_itself ms well a.id (subst (λ (w : Taken). Precedes ms w.id a.id) (sym e) p')))
        (λ j. absurd ((Pairwise-right InTime xs (a ∷ ys) in_time).0 z j p'))
        (Contains-cons_cases a ys z k))
        (Contains-append_cases xs (a ∷ ys) z (subst (λ k. Contains k z) cut.2 i.1)) in
        subst (Contains (ids_of (takes_at b) xs)) i.2 (to_ids (takes_at b) xs z before (is_named b z.op.name (called_in ms well (name_at b) id z called i.2 (l.invoked z i.1))))

    -- who stands before it may
    is_listed : (b : Bool) (those : List ℕ) → ((id : ℕ) → id ≢ first.acquire → MayTakePlace ms (name_at b) id → ¬ Precedes ms first.acquire id → Contains those id)
        → (id : ℕ) → Contains (ids_of (takes_at b) xs) id → Contains those id
    is_listed b those all id h =
        let r = from_ids (takes_at b) xs id h in
        let z : Taken = r.0 in
        let there : Contains order z = xs_there z r.1 in
        subst (Contains those) r.3 (all z.id
        (λ e. Pairwise-across Apart xs (a ∷ ys) apart z a r.1 (Contains-head a ys) (e ∙ sym place.2))
        ((z.op, l.invoked z there, named b z.op.name r.2), l.none_failed z there)
        (λ p. Pairwise-across InTime xs (a ∷ ys) in_time z a r.1 (Contains-head a ys) (subst (λ n. Precedes ms n z.id) (sym place.2) p)))

    once_there : (b : Bool) → Pairwise (λ c d. c ≢ d) (ids_of (takes_at b) xs)
    once_there b = each_once (filter (takes_at b) xs) (Pairwise-filter (takes_at b) Apart xs (Pairwise-left Apart xs (a ∷ ys) apart))

    -- so these stand there, and no others
    just_these : (b : Bool) (these those : List ℕ) → Pairwise (λ c d. c ≢ d) these → length these ≡ length those → length (ids_of (takes_at b) xs) ≡ length (ids_of (takes_at (not b)) xs)
        → AreForced ms first.acquire (name_at b) (name_at (not b)) these those
        → ((id : ℕ) → Contains these id ↔ Contains (ids_of (takes_at b) xs) id) × ((id : ℕ) → Contains those id ↔ Contains (ids_of (takes_at (not b)) xs) id)
    just_these b these those once same same_there forced =
        let among : (id : ℕ) → Contains these id → Contains (ids_of (takes_at b) xs) id = (λ id h. let f = forced.0 id h in stands_before b id f.0 f.1) in
        let listed : (id : ℕ) → Contains (ids_of (takes_at (not b)) xs) id → Contains those id = is_listed (not b) those forced.1 in
        let few : length these ≤ length (ids_of (takes_at b) xs) = no_longer_than these (ids_of (takes_at b) xs) once among in
        let most : length (ids_of (takes_at (not b)) xs) ≤ length those = no_longer_than (ids_of (takes_at (not b)) xs) those (once_there (not b)) listed in (
          (λ id. (among id, no_others these (ids_of (takes_at b) xs) once among (omega (arith, few, most, same, same_there)) id)),
          (λ id. (no_others (ids_of (takes_at (not b)) xs) those (once_there (not b)) listed (omega (arith, few, most, same, same_there)) id, listed id)),
        )

    both : ((id : ℕ) → Contains acquires id ↔ Contains (ids_of (takes_at false) xs) id) × ((id : ℕ) → Contains releases id ↔ Contains (ids_of (takes_at true) xs) id)
    both = ⊎_elim
        (λ f. just_these false acquires releases first.once_acquires first.as_many as_many_there f)
        (λ f. (let r = just_these true releases acquires first.once_releases (sym first.as_many) (sym as_many_there) f in (r.1, r.0)))
        first.forced

    first_part : FirstPart (acquires ++ releases)
    first_part = record {
      front = xs;
      rest = a ∷ ys;
      whole = sym cut.2;
      free = run_free;
      from = λ z h. (
          let step = step_of mutex xs false false run_free z h in
          let name : z.op.name ≡ name_at step.0 = (mutex_view z.op.name z.op.part step.0 step.1 z.found step.2).0 in
          ⊎_elim
          (λ (held_then : step.0 ≡ true). Contains-append_right acquires releases z.id ((both.1 z.id).1 (to_ids (takes_at true) xs z h (is_named true z.op.name (name ∙ ap name_at held_then)))))
          (λ (free_then : step.0 ≡ false). Contains-append_left acquires releases z.id ((both.0 z.id).1 (to_ids (takes_at false) xs z h (is_named false z.op.name (name ∙ ap name_at free_then)))))
          (cases_Bool step.0));
      to = λ id h. ⊎_elim
          (λ k. (let r = from_ids (takes_at false) xs id ((both.0 id).0 k) in (r.0, r.1, r.3)))
          (λ k. (let r = from_ids (takes_at true) xs id ((both.1 id).0 k) in (r.0, r.1, r.3)))
          (Contains-append_cases acquires releases id h);
    }

  part_of : (ids : List ℕ) → IsFirstPart ms ids → FirstPart ids
  part_of ids is = subst FirstPart (sym is.3) (first_part is.0 is.1 is.2)

  empty_part : FirstPart []
  empty_part = record { front = []; rest = order; whole = refl; free = refl; from = λ z h. absurd (Contains-nil z h); to = λ id h. absurd (Contains-nil id h) }

  begins_with : (ids : List ℕ) → (ids ≡ []) ⊎ IsFirstPart ms ids → FirstPart ids
  begins_with ids is = ⊎_elim (λ e. subst FirstPart (sym e) empty_part) (part_of ids) is

  -- of two such fronts, the one within the other, the first is a beginning of the second
  begins : (s t : List ℕ) → ((id : ℕ) → Contains s id → Contains t id) → (p : FirstPart s) (q : FirstPart t) → IsPrefixOf p.front q.front
  begins s t within p q = ⊎_elim
      (λ f. f)
      (λ (f : IsPrefixOf q.front p.front). ([], append-nil p.front ∙ sym f.1 ∙ ap (λ k. q.front ++ k) (nothing_more f.0 f.1) ∙ append-nil q.front))
      (two_cuts p.front p.rest q.front q.rest (p.whole ∙ sym q.whole))
    where
      nothing_more : (more : List Taken) → q.front ++ more ≡ p.front → more ≡ []
      nothing_more [] e = refl
      nothing_more (z ∷ more) e =
          let z_in : Contains p.front z = subst (λ k. Contains k z) e (Contains-append_right q.front (z ∷ more) z (Contains-head z more)) in
          let i : Includes q.front z.id = q.to z.id (within z.id (p.from z z_in)) in
          let once : Pairwise Apart (q.front ++ z ∷ more) = subst (Pairwise Apart) (sym e) (Pairwise-left Apart p.front p.rest (subst (Pairwise Apart) (sym p.whole) l.once)) in
          absurd (Pairwise-across Apart q.front (z ∷ more) once i.0 z i.1 (Contains-head z more) i.2)

  module _ (out : ℕ → Bool) (block : IsBlock ms out) where
    p : FirstPart block.smaller
    p = begins_with block.smaller block.begins

    q : FirstPart block.larger
    q = part_of block.larger block.ends

    behind : IsPrefixOf p.front q.front
    behind = begins block.smaller block.larger block.within p q

    abbrev middle : List Taken
    middle = behind.0

    whole : p.front ++ (middle ++ q.rest) ≡ order
    whole = sym (append_assoc p.front middle q.rest) ∙ ap (λ k. k ++ q.rest) behind.1 ∙ q.whole

    once : Pairwise Apart (p.front ++ (middle ++ q.rest))
    once = subst (Pairwise Apart) (sym whole) l.once

    not_named : (x : Taken) → (out x.id ≡ true → ⊥) → out x.id ≡ false
    not_named x n = ⊎_elim (λ e. absurd (n e)) (λ e. e) (cases_Bool (out x.id))

    pub piece_of : Piece order out
    piece_of = record {
      before = p.front;
      middle = behind.0;
      after = q.rest;
      whole = whole;
      free_before = p.free;
      free_after = subst (λ k. Run mutex false k false) (sym behind.1) q.free;
      named = λ x h. (block.names x.id).1 (
        q.from x (subst (λ z. Contains z x) behind.1 (Contains-append_right p.front middle x h)),
        (λ s. (let i : Includes p.front x.id = p.to x.id s in Pairwise-across Apart p.front (middle ++ q.rest) once i.0 x i.1 (Contains-append_left middle q.rest x h) i.2)),
      );
      others_before = λ x h. not_named x (λ e. ((block.names x.id).0 e).1 (p.from x h));
      others_after = λ x h. not_named x (λ e. (let i : Includes q.front x.id = q.to x.id ((block.names x.id).0 e).0 in
          Pairwise-across Apart q.front q.rest (subst (Pairwise Apart) (sym q.whole) l.once) i.0 x i.1 h i.2));
    }
