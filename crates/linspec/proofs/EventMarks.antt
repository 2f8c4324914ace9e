-- the marks of a history's events, one event after another
use Rattle.std.proofs.Common.{◌≡◌, cond, ◌&&◌, nat_eq, Option, Some, None, ℕ, ◌+◌, ◌<◌, List, [], ◌∷◌, ◌++◌, length, take, drop, get_or, refl, sym, ap, ◌∙◌, append_assoc, arith, add-one, drop-cons}
use Rattle.std.proofs.lemmas.List.{append-nil, take_more, length-take-le, map-append, get_or_default}
use Rattle.events.specs.declared.event.Event.{Event}
use Rattle.events.specs.Events.{Act, OpEvent, op_event, Entry, entries_by, last_by, last_after, entries_from, entries_of, indexed_from, marks}
use Rattle.events.specs.Events.Act.{Invokes, Returns, Fails, Crashes}
use Rattle.linspec.specs.declared.kept_marks.KeptMark as kept
use Rattle.linspec.specs.KeptMarks.{mark_of, marks_of_kept, last_invocation_from, last_invocation, marks_made, marks_of_first, marks_at, is_invocation, is_invocation_by}

-- the last invocations after one more event
pub last_invocation_from-push : (i : ℕ) (last : ℕ → ℕ) (xs : List Event) (e : Event) → last_invocation_from i last (xs ++ e ∷ []) ≡ last_after (i + length xs) (last_invocation_from i last xs) (op_event e)
last_invocation_from-push i last [] e = ap (λ n. last_after n last (op_event e)) (let t : i ≡ i + 0 = omega arith in t)
last_invocation_from-push i last (x ∷ xs) e =
    last_invocation_from-push (i + 1) (last_after i last (op_event x)) xs e
    ∙ ap (λ n. last_after n (last_invocation_from (i + 1) (last_after i last (op_event x)) xs) (op_event e)) (let t : i + 1 + length xs ≡ i + length (x ∷ xs) = omega arith in t)

-- the entries with those of one more event
pub entries_from-push : (i : ℕ) (last : ℕ → ℕ) (xs : List Event) (e : Event) → entries_from last (indexed_from i (xs ++ e ∷ [])) ≡ entries_from last (indexed_from i xs) ++ entries_by (i + length xs) (last_invocation_from i last xs) (op_event e)
entries_from-push i last [] e = append-nil _ ∙ ap (λ n. entries_by n last (op_event e)) (let t : i ≡ i + 0 = omega arith in t)
entries_from-push i last (x ∷ xs) e =
    ap (λ l. entries_by i last (op_event x) ++ l) (entries_from-push (i + 1) (last_after i last (op_event x)) xs e)
    ∙ sym (append_assoc (entries_by i last (op_event x)) (entries_from (last_after i last (op_event x)) (indexed_from (i + 1) xs)) _)
    ∙ ap (λ n. entries_from last (indexed_from i (x ∷ xs)) ++ entries_by n (last_invocation_from i last (x ∷ xs)) (op_event e)) (let t : i + 1 + length xs ≡ i + length (x ∷ xs) = omega arith in t)

marks-append : (xs ys : List Entry) → marks (xs ++ ys) ≡ marks xs ++ marks ys
marks-append [] ys = refl
marks-append (x ∷ xs) ys = ap (λ l. x.mark ∷ l) (marks-append xs ys)

-- the last invocation of a process after one more event
last_by-cases : (i : ℕ) (last : ℕ → ℕ) (q p : ℕ) (act : Act) → last_by i last q act p ≡ cond (is_invocation act && nat_eq p q) i (last p)
last_by-cases i last q p (Invokes op) = refl
last_by-cases i last q p (Returns a) = refl
last_by-cases i last q p Fails = refl
last_by-cases i last q p Crashes = refl

last_after-cases : (i : ℕ) (last : ℕ → ℕ) (p : ℕ) (o : Option OpEvent) → last_after i last o p ≡ cond (is_invocation_by p o) i (last p)
last_after-cases i last p None = refl
last_after-cases i last p (Some e) = last_by-cases i last e.process p e.act

length-before : (events : List Event) (at : ℕ) → at < length events → length (take at events) ≡ at
length-before events at l = length-take-le at events (omega arith)

module _ (events : List Event) (at : ℕ) (e : Event) (l : at < length events) (is : e ≡ get_or events at e) where
  front : take (at + 1) events ≡ take at events ++ e ∷ []
  front = take_more events at e l ∙ ap (λ x. take at events ++ x ∷ []) (sym is)

  -- the last invocation of a process
  pub last_invocation-more : (p : ℕ) → last_invocation (take (at + 1) events) p ≡ cond (is_invocation_by p (op_event e)) at (last_invocation (take at events) p)
  last_invocation-more p =
      ap (λ xs. last_invocation xs p) front
      ∙ ap (λ (f : ℕ → ℕ). f p) (last_invocation_from-push 0 (λ _. 0) (take at events) e)
      ∙ ap (λ n. last_after n (last_invocation (take at events)) (op_event e) p) (let t : 0 + length (take at events) ≡ at = omega (arith, length-before events at l) in t)
      ∙ last_after-cases at (last_invocation (take at events)) p (op_event e)

  pub marks_at-is : marks_at events at ≡ marks_made at (take at events) e
  marks_at-is = ap (λ rest. marks_of_first at (take at events) rest) (let t : drop at events ≡ get_or events at e ∷ drop (at + 1) events = rw (add-one, drop-cons events at e) in t ∙ ap (λ x. x ∷ drop (at + 1) events) (sym is))

  pub marks-more : marks (entries_of (indexed_from 0 (take (at + 1) events))) ≡ marks (entries_of (indexed_from 0 (take at events))) ++ marks_at events at
  marks-more =
      ap (λ xs. marks (entries_of (indexed_from 0 xs))) front
      ∙ ap marks (entries_from-push 0 (λ _. 0) (take at events) e)
      ∙ marks-append (entries_of (indexed_from 0 (take at events))) (entries_by (0 + length (take at events)) (last_invocation (take at events)) (op_event e))
      ∙ ap (λ n. marks (entries_of (indexed_from 0 (take at events))) ++ marks (entries_by n (last_invocation (take at events)) (op_event e))) (let t : 0 + length (take at events) ≡ at = omega (arith, length-before events at l) in t)
      ∙ ap (λ m. marks (entries_of (indexed_from 0 (take at events))) ++ m) (sym marks_at-is)

  -- the kept marks after one more event
  pub marks-none : (all : List kept.KeptMark) → marks_of_kept all ≡ marks (entries_of (indexed_from 0 (take at events))) → [] ≡ marks_at events at → marks_of_kept all ≡ marks (entries_of (indexed_from 0 (take (at + 1) events)))
  marks-none all h none = h ∙ sym (append-nil _) ∙ ap (λ m. marks (entries_of (indexed_from 0 (take at events))) ++ m) none ∙ sym marks-more

  pub marks-one : (all : List kept.KeptMark) (m : kept.KeptMark) → marks_of_kept all ≡ marks (entries_of (indexed_from 0 (take at events))) → mark_of m ∷ [] ≡ marks_at events at → marks_of_kept (all ++ m ∷ []) ≡ marks (entries_of (indexed_from 0 (take (at + 1) events)))
  marks-one all m h one = map-append mark_of all (m ∷ []) ∙ ap (λ l. l ++ mark_of m ∷ []) h ∙ ap (λ l. marks (entries_of (indexed_from 0 (take at events))) ++ l) one ∙ sym marks-more

pub element_at : {X : Type 0} (xs : List X) (at : ℕ) → at < length xs → (x : X) × (x ≡ get_or xs at x)
element_at [] at l = absurd (omega arith)
element_at (y ∷ ys) at l = (get_or (y ∷ ys) at y, get_or_default (y ∷ ys) at _ _ l)
