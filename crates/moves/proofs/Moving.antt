-- the known moves of calls in states, by numbers
use Rattle.std.proofs.Common.{◌≡◌, ℕ, ◌+◌, ◌-◌, ◌*◌, ◌<◌, ◌≤◌, ◌⊎◌, inl, inr, ⊎_elim, Bool, Some, Ok, Err, Result, OnOk, List, [], ◌∷◌, ◌++◌, zero, suc, length, take, drop, append-nil, slice_get, slice_range, get_or, refl, sym, ap, ◌∙◌, subst, arith}
use Rattle.std.proofs.lemmas.Bool.{cases_order}
use Rattle.std.proofs.lemmas.List.{drop-append-le, length-append, length-drop, take-append-le, take_all}
use Rattle.std.proofs.lemmas.List.Elements.{Contains-append_left, Contains-push, Contains-push_cases}
use Rattle.std.proofs.Math.Seq.{drop-append_seam}
use Rattle.linspec.proofs.Lists.{Contains-nil}
use Rattle.std.proofs.lemmas.Option.{slice_get_within}
use Rattle.std.proofs.Math.Nat.{mul-le-mul_right}
use Rattle.models.specs.declared.operation.Op.{Op}
use Rattle.models.specs.declared.finding.Found.{Found}
use Rattle.moves.specs.declared.pending_op.PendingOp.{PendingOp}
use Rattle.moves.specs.declared.table.Table.{Table}
use Rattle.moves.specs.declared.moves.Known.{Known}
use Rattle.moves.specs.declared.moves.Move.{Move}
use Rattle.moves.specs.declared.moves.Move.TheVariants.{Untried, Nowhere, To, ToEach}
use Rattle.moves.specs.Moves.{AreMoves, AreTo, IsKnown, IsTo, LeadsTo, known_at, known_from, targets_of}
use Rattle.moves.specs.Notes.{AreUntried}
use Rattle.moves.specs.Tables.{Widens, told_by}
use Rattle.moves.proofs.Rows.{slot_more}
use Rattle.interner.proofs.Lists.{get_front, one_of}

-- places of pairs
place_lt : (n m w a b : ℕ) → a < w → n < m → n * w + a ≡ m * w + b → ⊥
place_lt n m w a b lt less e =
    let one : (n + 1) * w ≡ n * w + w = grind arith in
    let le : (n + 1) * w ≤ m * w = mul-le-mul_right w (omega (arith, less)) in
    omega (arith, one, le, lt, e)

same_place : (n m w a b : ℕ) → a < w → b < w → n * w + a ≡ m * w + b → (n ≡ m) × (a ≡ b)
same_place n m w a b la lb e =
    ⊎_elim
    (λ q. (q, let r : n * w ≡ m * w = ap (λ k. k * w) q in omega (arith, r, e)))
    (λ h. absurd (⊎_elim (λ lt. place_lt n m w a b la lt e) (λ lt. place_lt m n w b a lb lt (sym e)) h))
    (cases_order n m)

-- the known moves from a base on, if the list says nothing, at a place of the list, and if one place of it is another
from_none : (base calls n at : ℕ) (moves : List Move) → AreUntried moves → known_from base moves calls n at ≡ Untried
from_none zero calls n at moves none = none (n * calls + at)
from_none (suc base) calls zero at moves none = refl
from_none (suc base) calls (suc n) at moves none = from_none base calls n at moves none

pub from_there : (base : ℕ) (moves : List Move) (calls n at : ℕ) → base ≤ n → known_from base moves calls n at ≡ get_or moves ((n - base) * calls + at) Untried
from_there zero moves calls n at le = ap (λ k. get_or moves (k * calls + at) Untried) (let same : n ≡ n - 0 = omega arith in same)
from_there (suc base) moves calls zero at le = absurd (omega (arith, le))
from_there (suc base) moves calls (suc n) at le =
    from_there base moves calls n at (omega (arith, le)) ∙ ap (λ k. get_or moves (k * calls + at) Untried) (let same : n - base ≡ suc n - suc base = omega arith in same)

pub from_with : (base : ℕ) (old new : List Move) (calls number at : ℕ) (to : Move) → at < calls → base ≤ number
    → ((p : ℕ) → (get_or new p Untried ≡ get_or old p Untried) ⊎ ((p ≡ (number - base) * calls + at) × (get_or new p Untried ≡ to)))
    → (n b : ℕ) → b < calls → (known_from base new calls n b ≡ known_from base old calls n b) ⊎ ((n ≡ number) × (b ≡ at) × (known_from base new calls n b ≡ to))
from_with zero old new calls number at to lt le each n b less =
    ⊎_elim
    (λ same. inl same)
    (λ q.
    let p = same_place n number calls b at less lt (q.0 ∙ ap (λ k. k * calls + at) (let same : number - 0 ≡ number = omega arith in same)) in
    inr (p.0, p.1, q.1))
    (each (n * calls + b))
from_with (suc base) old new calls zero at to lt le each n b less = absurd (omega (arith, le))
from_with (suc base) old new calls (suc number) at to lt le each zero b less = inl refl
from_with (suc base) old new calls (suc number) at to lt le each (suc n) b less =
    ⊎_elim
    (λ same. inl same)
    (λ q. inr (ap suc q.0, q.1, q.2))
    (from_with base old new calls number at to lt (omega (arith, le))
    (λ p. subst (λ k. (get_or new p Untried ≡ get_or old p Untried) ⊎ ((p ≡ k * calls + at) × (get_or new p Untried ≡ to))) (let same : suc number - suc base ≡ number - base = omega arith in same) (each p)) n b less)

-- a list that is one element, by its length
pub alone : {X : Type 0} (xs ys : List X) (x : X) → xs ≡ ys ++ x ∷ [] → length xs ≤ 1 → xs ≡ x ∷ []
alone xs [] x is few = is
alone xs (y ∷ ys) x is few = absurd (let long : length xs ≡ suc (length ys + 1) = ap length is ∙ ap suc (length-append ys (x ∷ [])) in omega (arith, long, few))

-- a fact that holds anyway
pub on_ok : {T E P : Type 0} (r : Result T E) → P → OnOk r P
on_ok (Ok x) p = p
on_ok (Err e) p = tt

-- a part of a list that becomes longer
pub range_stays : {X : Type 0} (xs more : List X) (first end : ℕ) → first ≤ end → end ≤ length xs → slice_range (xs ++ more) first end ≡ slice_range xs first end
range_stays xs more first end low high =
    ap (take (end - first)) (drop-append-le first xs more (omega arith))
    ∙ take-append-le (end - first) (drop first xs) more (let long = length-drop first xs in omega arith)

pub range_new : {X : Type 0} (xs more new : List X) → new ≡ xs ++ more → slice_range new (length xs) (length new) ≡ more
range_new xs more new is =
    let long : length new ≡ length xs + length more = ap length is ∙ length-append xs more in
    ap (λ l. take (length new - length xs) (drop (length xs) l)) is ∙ ap (take (length new - length xs)) (drop-append_seam xs more) ∙ take_all (length new - length xs) more (omega arith)

-- a move to the target that was put last
pub to_last : (old new : List (ℕ × ℕ)) (target : ℕ × ℕ) (first : ℕ) (to : Move) → new ≡ old ++ target ∷ [] → first ≡ length old → to ≡ ToEach first (length new)
    → IsKnown to new × (targets_of to new ≡ target ∷ [])
to_last old new target first to longer begins is =
    let long : length new ≡ length old + 1 = ap length longer ∙ length-append old (target ∷ []) in
    let there : slice_range new first (length new) ≡ target ∷ [] = ap (λ k. slice_range new k (length new)) begins ∙ range_new old (target ∷ []) new longer in
    subst (λ m. IsKnown m new × (targets_of m new ≡ target ∷ [])) (sym is) ((omega arith, omega arith), there)

-- moves by a list of targets that becomes longer
known_more : (targets more : List (ℕ × ℕ)) (m : Move) → IsKnown m targets → IsKnown m (targets ++ more)
known_more targets more Untried h = h
known_more targets more Nowhere h = h
known_more targets more (To number slot) h = h
known_more targets more (ToEach first end) h =
    let long = length-append targets more in
    let high : end ≤ length targets = h.1 in
    (h.0, omega (arith, long, high))

targets_stay : (targets more : List (ℕ × ℕ)) (m : Move) → IsKnown m targets → targets_of m (targets ++ more) ≡ targets_of m targets
targets_stay targets more Untried h = refl
targets_stay targets more Nowhere h = refl
targets_stay targets more (To number slot) h = refl
targets_stay targets more (ToEach first end) h = range_stays targets more first end h.0 h.1

module _ {S : Type 0} where
  pub to_more : (t u : Table S) (crashed : Bool) (outcome : S × Found) (target : ℕ × ℕ) → Widens t u → IsTo t crashed outcome target → IsTo u crashed outcome target
  to_more t u crashed outcome target w h = (get_front t.states u.states target.0 outcome.0 w.states h.0, slot_more t.founds u.founds target.1 (Some (told_by crashed outcome.1)) w.founds h.1)

  pub are_to_more : (t u : Table S) (crashed : Bool) (outcomes : List (S × Found)) (targets : List (ℕ × ℕ)) → Widens t u → AreTo t crashed outcomes targets → AreTo u crashed outcomes targets
  are_to_more t u crashed outcomes targets w are = record {
    each = λ x h. let o = are.each x h in (o.0, o.1, to_more t u crashed o.0 x w o.2);
    all = λ o h. let x = are.all o h in (x.0, x.1, to_more t u crashed o x.0 w x.2);
  }

  pub alike_to : (t : Table S) (apply : Op → S → List (S × Found)) (c d : PendingOp) (s : S) (targets : List (ℕ × ℕ)) → d.op ≡ c.op → d.crashed ≡ c.crashed → AreTo t d.crashed (apply d.op s) targets → AreTo t c.crashed (apply c.op s) targets
  alike_to t apply c d s targets op crashed are = subst (λ b. AreTo t b (apply c.op s) targets) crashed (subst (λ o. AreTo t d.crashed (apply o s) targets) op are)

  pub are_to_none : (t : Table S) (crashed : Bool) → AreTo t crashed [] []
  are_to_none t crashed = record { each = λ x h. absurd (Contains-nil x h); all = λ o h. absurd h }

  pub are_to_with : (t : Table S) (crashed : Bool) (outcome : S × Found) (outcomes : List (S × Found)) (targets : List (ℕ × ℕ)) (target : ℕ × ℕ) → IsTo t crashed outcome target → AreTo t crashed outcomes targets
      → AreTo t crashed (outcome ∷ outcomes) (targets ++ target ∷ [])
  are_to_with t crashed outcome outcomes targets target is are = record {
    each = λ x h.
        ⊎_elim
        (λ k. let o = are.each x k in (o.0, inr o.1, o.2))
        (λ e. (outcome, inl refl, subst (IsTo t crashed outcome) e is))
        (Contains-push_cases targets target x h);
    all = λ o h.
        ⊎_elim
        (λ e. (target, Contains-push targets target, subst (λ p. IsTo t crashed p target) e is))
        (λ k. let x = are.all o k in (x.0, Contains-append_left targets (target ∷ []) x.0 x.1, x.2))
        h;
  }

  -- the targets that were put last
  pub leads_each : (t : Table S) (crashed : Bool) (outcomes : List (S × Found)) (old more new : List (ℕ × ℕ)) (first end : ℕ) → AreTo t crashed outcomes more → new ≡ old ++ more → first ≡ length old → end ≡ length new
      → LeadsTo t crashed outcomes new (ToEach first end)
  leads_each t crashed outcomes old more new first end are longer begins ends =
      let long : length new ≡ length old + length more = ap length longer ∙ length-append old more in
      let there : slice_range new first end ≡ more = ap (λ k. slice_range new k end) begins ∙ ap (slice_range new (length old)) ends ∙ range_new old more new longer in
      ((omega arith, omega arith), subst (AreTo t crashed outcomes) (sym there) are)

  leads_more : (t u : Table S) (crashed : Bool) (outcomes : List (S × Found)) (targets more : List (ℕ × ℕ)) (m : Move) → Widens t u → LeadsTo t crashed outcomes targets m → LeadsTo u crashed outcomes (targets ++ more) m
  leads_more t u crashed outcomes targets more m w h = (
    known_more targets more m h.0,
    subst (AreTo u crashed outcomes) (sym (targets_stay targets more m h.0)) (are_to_more t u crashed outcomes (targets_of m targets) w h.1),
  )

  module _ (apply : Op → S → List (S × Found)) (calls : List PendingOp) where
    pub moves_none : (t : Table S) (moves : Known) (targets : List (ℕ × ℕ)) → AreUntried moves.list → AreMoves apply t calls moves targets
    moves_none t moves targets none n at c here = inl (from_none moves.base (length calls) n at moves.list none)

    pub moves_more : (t u : Table S) (moves : Known) (targets more new : List (ℕ × ℕ)) → Widens t u → new ≡ targets ++ more → AreMoves apply t calls moves targets → AreMoves apply u calls moves new
    moves_more t u moves targets more new w is a n at c here =
        ⊎_elim
        (λ h. inl h)
        (λ h. inr (
          h.0,
          get_front t.states u.states n h.0 w.states h.1,
          subst (λ l. LeadsTo u c.crashed (apply c.op h.0) l (known_at moves (length calls) n at)) (sym is) (leads_more t u c.crashed (apply c.op h.0) targets more (known_at moves (length calls) n at) w h.2),
        ))
        (a n at c here)

    pub moves_wider : (t u : Table S) (moves : Known) (targets : List (ℕ × ℕ)) → Widens t u → AreMoves apply t calls moves targets → AreMoves apply u calls moves targets
    moves_wider t u moves targets w a = moves_more t u moves targets [] targets w (sym (append-nil targets)) a

    module _ (t : Table S) (number at : ℕ) (call : PendingOp) (is_call : slice_get calls at ≡ Some call) (s : S) (is_state : slice_get t.states number ≡ Some s) where
      -- one that is known
      pub known_does : (moves : Known) (targets : List (ℕ × ℕ)) (to : Move) → AreMoves apply t calls moves targets → to ≡ known_at moves (length calls) number at → IsKnown to targets
          → AreTo t call.crashed (apply call.op s) (targets_of to targets)
      known_does moves targets to a told known =
          ⊎_elim
          (λ q. absurd (subst (λ m. IsKnown m targets) (told ∙ q) known))
          (λ h. subst (λ x. AreTo t call.crashed (apply call.op x) (targets_of to targets)) (one_of h.0 s (sym h.1 ∙ is_state)) (subst (LeadsTo t call.crashed (apply call.op h.0) targets) (sym told) h.2).1)
          (a number at call is_call)

      -- one more
      pub moves_with : (old new : Known) (targets : List (ℕ × ℕ)) (to : Move) → LeadsTo t call.crashed (apply call.op s) targets to
          → ((n b : ℕ) → b < length calls → (known_at new (length calls) n b ≡ known_at old (length calls) n b) ⊎ ((n ≡ number) × (b ≡ at) × (known_at new (length calls) n b ≡ to)))
          → AreMoves apply t calls old targets → AreMoves apply t calls new targets
      moves_with old new targets to is each a n b c here =
          ⊎_elim
          (λ same. ⊎_elim (λ h. inl (same ∙ h)) (λ h. inr (h.0, h.1, subst (LeadsTo t c.crashed (apply c.op h.0) targets) (sym same) h.2)) (a n b c here))
          (λ q.
          let same : call ≡ c = one_of call c (sym is_call ∙ ap (slice_get calls) (sym q.1) ∙ here) in
          inr (s, subst (λ k. slice_get t.states k ≡ Some s) (sym q.0) is_state, subst (λ (x : PendingOp). LeadsTo t x.crashed (apply x.op s) targets (known_at new (length calls) n b)) same (subst (LeadsTo t call.crashed (apply call.op s) targets) (sym q.2) is)))
          (each n b (slice_get_within calls b c here))
