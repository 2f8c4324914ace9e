-- Threads after one more move
use Rattle.std.proofs.Common.{◌≡◌, ◌≢◌, ℕ, ◌+◌, ◌<◌, ◌%◌, Bool, true, false, Some, List, [], ◌∷◌, ◌++◌, length, slice_get, slice_set, get_or, refl, sym, ap, ◌∙◌, subst, ⊎_elim, arith}
use Rattle.std.proofs.lemmas.Bool.{cases_eq, eq-eqb, ne_eqb}
use Rattle.std.proofs.lemmas.Option.{slice_get-get_or, get_or_from_slice_get, slice_get_within}
use Rattle.std.proofs.lemmas.List.{length-set, get_or-set_same, get_or-set_other}
use Rattle.std.proofs.Math.Nat.{mod-lt, add-mod_right}
use Rattle.processes.specs.declared.threads.Thread.{Thread}
use Rattle.processes.specs.MoveRule.{Move, process_of, thread_of, is_crash_on, current_of, is_busy, IsConcurrency, IsCurrent, MayMove, FollowMoveRule}
use Rattle.processes.specs.MoveRule.Move.{Invokes, Completes, Crashes}
use Rattle.processes.specs.Threads.{thread_after, StandAfter, HaveMoves}
use Rattle.processes.proofs.Pushing.{is_busy-own, is_busy-other, current_of-same, current_of-crashed, thread_of_current}
use Rattle.processes.proofs.Following.{follow-nil, follow-push, busy_is_current}

-- the thread of the process that moves, afterwards
abbrev pub moved : ℕ → Move → Thread
moved c (Invokes p) = record { process = p; busy = true }
moved c (Completes p) = record { process = p; busy = false }
moved c (Crashes p) = record { process = p + c; busy = false }

thread_same : (a b : ℕ) (x y : Bool) → a ≡ b → x ≡ y → ◌≡◌ {A = Thread} (record { process = a; busy = x }) (record { process = b; busy = y })
thread_same a b x y p q =
    ap (λ (k : ℕ). let thread : Thread = record { process = k; busy = x } in thread) p ∙ ap (λ (o : Bool). let thread : Thread = record { process = b; busy = o } in thread) q

not_busy : (moves : List Move) (p : ℕ) → (is_busy moves p ≡ true → ⊥) → is_busy moves p ≡ false
not_busy moves p h = by_cases (is_busy moves p) refl
  where
    by_cases : (b : Bool) → is_busy moves p ≡ b → b ≡ false
    by_cases true is = absurd (h is)
    by_cases false is = refl

-- where the process stays current
stays : (c : ℕ) (moves : List Move) (m : Move) (busy : Bool) → is_crash_on c (thread_of c (process_of m)) m ≡ false → IsCurrent c moves (process_of m) → is_busy (moves ++ m ∷ []) (process_of m) ≡ busy
    → ◌≡◌ {A = Thread} (record { process = process_of m; busy = busy }) (thread_after c (moves ++ m ∷ []) (thread_of c (process_of m)))
stays c moves m busy here is now =
    thread_same _ _ _ _ at (sym now ∙ ap (is_busy (moves ++ m ∷ [])) at)
  where
    at : process_of m ≡ current_of c (moves ++ m ∷ []) (thread_of c (process_of m))
    at = is ∙ sym (current_of-same c (thread_of c (process_of m)) moves m here)

crashes : (c : ℕ) (moves : List Move) (p : ℕ) → 0 < c → FollowMoveRule c moves → IsCurrent c moves p
    → ◌≡◌ {A = Thread} (record { process = p + c; busy = false }) (thread_after c (moves ++ Crashes p ∷ []) (thread_of c p))
crashes c moves p pos rule is =
    thread_same _ _ _ _ (sym at) (sym (ap (is_busy (moves ++ Crashes p ∷ [])) at ∙ is_busy-other moves (Crashes p) (p + c) (λ q. omega arith) ∙ idle))
  where
    at : current_of c (moves ++ Crashes p ∷ []) (thread_of c p) ≡ p + c
    at = current_of-crashed c (thread_of c p) moves (Crashes p) (eq-eqb (thread_of c p) (thread_of c p) refl) ∙ ap (λ k. k + c) (sym is)

    idle : is_busy moves (p + c) ≡ false
    idle = not_busy moves (p + c) (λ b. (let q : p + c ≡ p = busy_is_current c moves rule (p + c) b ∙ ap (current_of c moves) (add-mod_right p c) ∙ sym is in omega arith))

own_thread : (c : ℕ) (moves : List Move) (m : Move) → 0 < c → FollowMoveRule c moves → MayMove c moves m → moved c m ≡ thread_after c (moves ++ m ∷ []) (thread_of c (process_of m))
own_thread c moves (Invokes p) pos rule may = stays c moves (Invokes p) true refl may.0 (is_busy-own moves (Invokes p) p refl)
own_thread c moves (Completes p) pos rule may = stays c moves (Completes p) false refl (busy_is_current c moves rule p may) (is_busy-own moves (Completes p) p refl)
own_thread c moves (Crashes p) pos rule may = crashes c moves p pos rule (busy_is_current c moves rule p may)

elsewhere : (c t : ℕ) (m : Move) → thread_of c (process_of m) ≢ t → is_crash_on c t m ≡ false
elsewhere c t (Invokes p) ne = refl
elsewhere c t (Completes p) ne = refl
elsewhere c t (Crashes p) ne = ne_eqb (thread_of c p) t ne

other_thread : (c t : ℕ) (moves : List Move) (m : Move) → t < c → thread_of c (process_of m) ≢ t → thread_after c moves t ≡ thread_after c (moves ++ m ∷ []) t
other_thread c t moves m below ne =
    sym (thread_same _ _ _ _ same (ap (is_busy (moves ++ m ∷ [])) same ∙ is_busy-other moves m (current_of c moves t) (λ q. ne (ap (thread_of c) (sym q) ∙ thread_of_current c t moves below))))
  where
    same : current_of c (moves ++ m ∷ []) t ≡ current_of c moves t
    same = current_of-same c t moves m (elsewhere c t m ne)

-- an element after a write
get_set_same : {X : Type 0} (xs : List X) (i : ℕ) (v : X) → i < length xs → slice_get (slice_set xs i v) i ≡ Some v
get_set_same xs i v within =
    (let len : length (slice_set xs i v) ≡ length xs = length-set xs i v in
    slice_get-get_or (slice_set xs i v) i v (omega arith) ∙ ap Some (get_or-set_same xs i v v within))

get_set_other : {X : Type 0} (xs : List X) (i j : ℕ) (v x : X) → j ≢ i → slice_get xs j ≡ Some x → slice_get (slice_set xs i v) j ≡ Some x
get_set_other xs i j v x ne h =
    (let within : j < length xs = slice_get_within xs j x h in let len : length (slice_set xs i v) ≡ length xs = length-set xs i v in
    slice_get-get_or (slice_set xs i v) j x (omega arith) ∙ ap Some (get_or-set_other xs i j v x ne ∙ get_or_from_slice_get xs j x x h))

-- the threads after one more move, where c is their number
after_move : (c : ℕ) (threads : List Thread) (moves : List Move) (m : Move) → length threads ≡ c → StandAfter threads moves → MayMove c moves m
    → (t : ℕ) → t < c → slice_get (slice_set threads (thread_of c (process_of m)) (moved c m)) t ≡ Some (thread_after c (moves ++ m ∷ []) t)
after_move c threads moves m len stand may t below =
    ⊎_elim
    (λ same. ap (slice_get after) same ∙ get_set_same threads (thread_of c (process_of m)) (moved c m) (let here : thread_of c (process_of m) < c = mod-lt (process_of m) pos in omega arith)
    ∙ ap Some (own_thread c moves m pos (subst (λ k. FollowMoveRule k moves) len stand.rule) may) ∙ ap (λ u. Some (thread_after c (moves ++ m ∷ []) u)) (sym same))
    (λ ne. get_set_other threads (thread_of c (process_of m)) t (moved c m) (thread_after c moves t) ne
    (stand.each t (omega arith) ∙ ap (λ k. Some (thread_after k moves t)) len) ∙ ap Some (other_thread c t moves m below (λ q. ne (sym q))))
    (cases_eq t (thread_of c (process_of m)))
  where
    pos : 0 < c
    pos = (let limits : IsConcurrency (length threads) = stand.concurrency in omega arith)

    after : List Thread
    after = slice_set threads (thread_of c (process_of m)) (moved c m)

stand_after_write : (c : ℕ) (threads new : List Thread) (moves : List Move) (m : Move) → length threads ≡ c → length new ≡ c → StandAfter threads moves → MayMove c moves m
    → new ≡ slice_set threads (thread_of c (process_of m)) (moved c m) → StandAfter new (moves ++ m ∷ [])
stand_after_write c threads new moves m len len' stand may is = record {
  concurrency = subst IsConcurrency (len ∙ sym len') stand.concurrency;
  rule = subst (λ k. FollowMoveRule k (moves ++ m ∷ [])) (sym len') (follow-push c moves m (subst (λ k. FollowMoveRule k moves) len stand.rule) may);
  each = λ t below. ap (λ l. slice_get l t) is ∙ after_move c threads moves m len stand may t (omega arith) ∙ ap (λ k. Some (thread_after k (moves ++ m ∷ []) t)) (sym len');
}

-- the threads after one more move, written over the items that hold them
pub stand_after_move : (items threads : List Thread) (moves : List Move) (m : Move) (i : ℕ) (row : Thread) → items ≡ threads → i ≡ process_of m % length threads → row ≡ moved (length threads) m
    → StandAfter threads moves → MayMove (length threads) moves m → StandAfter (slice_set items i row) (moves ++ m ∷ [])
stand_after_move items threads moves m i row same at is stand may =
    stand_after_write (length threads) threads (slice_set items i row) moves m refl (length-set items i row ∙ ap length same) stand may
    (ap (λ l. slice_set l i row) same ∙ ap (λ k. slice_set threads k row) at ∙ ap (slice_set threads (process_of m % length threads)) is)

pub have_moves_after : (items threads : List Thread) (m : Move) (i : ℕ) (row : Thread) → items ≡ threads → i ≡ process_of m % length threads → row ≡ moved (length threads) m
    → HaveMoves items → ((moves : List Move) → StandAfter threads moves → MayMove (length threads) moves m) → HaveMoves (slice_set items i row)
have_moves_after items threads m i row same at is have may =
    (let stand : StandAfter threads have.0 = subst (λ l. StandAfter l have.0) same have.1 in (have.0 ++ m ∷ [], stand_after_move items threads have.0 m i row same at is stand (may have.0 stand)))

pub stand_at_first : (c : ℕ) (threads : List Thread) → IsConcurrency c → length threads ≡ c → ((t : ℕ) → t < c → slice_get threads t ≡ Some (thread_after c [] t)) → StandAfter threads []
stand_at_first c threads limits len each = record {
  concurrency = subst IsConcurrency (sym len) limits;
  rule = follow-nil (length threads);
  each = λ t below. each t (omega arith) ∙ ap (λ k. Some (thread_after k [] t)) (sym len);
}

-- the thread of a process
thread_found : (items threads : List Thread) (moves : List Move) (p i : ℕ) (thread : Thread) → items ≡ threads → StandAfter threads moves → i ≡ p % length threads → thread ≡ get_or items i thread
    → thread ≡ thread_after (length threads) moves (thread_of (length threads) p)
thread_found items threads moves p i thread same stand at is =
    is ∙ ap (λ l. get_or l i thread) same ∙ ap (λ k. get_or threads k thread) at
    ∙ get_or_from_slice_get threads (p % length threads) (thread_after (length threads) moves (p % length threads)) thread
    (stand.each (p % length threads) (mod-lt p (let limits : IsConcurrency (length threads) = stand.concurrency in omega arith)))

pub wrong : (items threads : List Thread) (moves : List Move) (p i : ℕ) (thread : Thread) → items ≡ threads → StandAfter threads moves → i ≡ p % length threads → thread ≡ get_or items i thread
    → thread.process ≢ p → ¬ IsCurrent (length threads) moves p
wrong items threads moves p i thread same stand at is ne current = ne (ap (λ (t : Thread). t.process) (thread_found items threads moves p i thread same stand at is) ∙ sym current)

pub current : (items threads : List Thread) (moves : List Move) (p i : ℕ) (thread : Thread) → items ≡ threads → StandAfter threads moves → i ≡ p % length threads → thread ≡ get_or items i thread
    → thread.process ≡ p → IsCurrent (length threads) moves p × (is_busy moves p ≡ thread.busy)
current items threads moves p i thread same stand at is here = (now, ap (is_busy moves) now ∙ sym (ap (λ (t : Thread). t.busy) found))
  where
    found : thread ≡ thread_after (length threads) moves (thread_of (length threads) p)
    found = thread_found items threads moves p i thread same stand at is

    now : IsCurrent (length threads) moves p
    now = sym here ∙ ap (λ (t : Thread). t.process) found

pub not_open : (items threads : List Thread) (moves : List Move) (p i : ℕ) (thread : Thread) → items ≡ threads → StandAfter threads moves → i ≡ p % length threads → thread ≡ get_or items i thread
    → thread.process ≢ p → is_busy moves p ≡ false
not_open items threads moves p i thread same stand at is ne =
    not_busy moves p (λ b. wrong items threads moves p i thread same stand at is ne (busy_is_current (length threads) moves stand.rule p b))
