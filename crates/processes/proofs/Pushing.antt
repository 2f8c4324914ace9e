-- The effect of one more move: the last move of a process, whether it is busy, and the current process of a thread
use Rattle.std.proofs.Common.{◌≡◌, ◌≢◌, ◌==◌, ℕ, ◌+◌, ◌*◌, ◌<◌, true, false, cond, Option, Some, None, List, [], ◌∷◌, ◌++◌, count_by, refl, sym, ap, ◌∙◌, arith}
use Rattle.std.specs.Option.{option_or, option_map_or}
use Rattle.std.proofs.lemmas.Bool.{eq-eqb, ne_eqb}
use Rattle.std.proofs.lemmas.List.Sums.{sum_by-append}
use Rattle.std.proofs.Math.Nat.{add-mul-mod_self_left, mod-eq_of_lt}
use Rattle.processes.specs.MoveRule.{Move, process_of, is_invocation, thread_of, is_crash_on, current_of, last_move_of, is_busy}

option_or-none : {X : Type 0} (o : Option X) → option_or o None ≡ o
option_or-none None = refl
option_or-none (Some x) = refl

option_or-assoc : {X : Type 0} (a b c : Option X) → option_or (option_or a b) c ≡ option_or a (option_or b c)
option_or-assoc None b c = refl
option_or-assoc (Some x) b c = refl

-- the move, if it is of the process
abbrev entry_for : Move → ℕ → Option Move
entry_for m p = cond (p == process_of m) (Some m) None

pub last_move_of-append : (xs ys : List Move) (p : ℕ) → last_move_of (xs ++ ys) p ≡ option_or (last_move_of ys p) (last_move_of xs p)
last_move_of-append [] ys p = sym (option_or-none (last_move_of ys p))
last_move_of-append (x ∷ xs) ys p =
    ap (λ o. option_or o (entry_for x p)) (last_move_of-append xs ys p) ∙ option_or-assoc (last_move_of ys p) (last_move_of xs p) (entry_for x p)

pub is_busy-own : (moves : List Move) (m : Move) (p : ℕ) → p ≡ process_of m → is_busy (moves ++ m ∷ []) p ≡ is_invocation m
is_busy-own moves m p own =
    ap (λ o. option_map_or is_invocation o false)
    (last_move_of-append moves (m ∷ []) p ∙ ap (λ b. option_or (cond b (Some m) None) (last_move_of moves p)) (eq-eqb p (process_of m) own))

pub is_busy-other : (moves : List Move) (m : Move) (p : ℕ) → p ≢ process_of m → is_busy (moves ++ m ∷ []) p ≡ is_busy moves p
is_busy-other moves m p other =
    ap (λ o. option_map_or is_invocation o false)
    (last_move_of-append moves (m ∷ []) p ∙ ap (λ b. option_or (cond b (Some m) None) (last_move_of moves p)) (ne_eqb p (process_of m) other))

-- how often the current process of a thread moves on
pub current_of-append : (c t : ℕ) (xs ys : List Move) → current_of c (xs ++ ys) t ≡ current_of c xs t + c * count_by (is_crash_on c t) ys
current_of-append c t xs ys =
    (let s : count_by (is_crash_on c t) (xs ++ ys) ≡ count_by (is_crash_on c t) xs + count_by (is_crash_on c t) ys = sum_by-append (λ x. cond (is_crash_on c t x) 1 0) xs ys in
    let m : c * count_by (is_crash_on c t) (xs ++ ys) ≡ c * (count_by (is_crash_on c t) xs + count_by (is_crash_on c t) ys) = ap (λ n. c * n) s in omega arith)

current_of-push : (c t : ℕ) (moves : List Move) (m : Move) → current_of c (moves ++ m ∷ []) t ≡ current_of c moves t + c * cond (is_crash_on c t m) 1 0
current_of-push c t moves m =
    (let s : count_by (is_crash_on c t) (moves ++ m ∷ []) ≡ count_by (is_crash_on c t) moves + (0 + cond (is_crash_on c t m) 1 0) = sum_by-append (λ x. cond (is_crash_on c t x) 1 0) moves (m ∷ []) in
    let n : c * count_by (is_crash_on c t) (moves ++ m ∷ []) ≡ c * (count_by (is_crash_on c t) moves + (0 + cond (is_crash_on c t m) 1 0)) = ap (λ n. c * n) s in omega arith)

pub current_of-crashed : (c t : ℕ) (moves : List Move) (m : Move) → is_crash_on c t m ≡ true → current_of c (moves ++ m ∷ []) t ≡ current_of c moves t + c
current_of-crashed c t moves m h =
    current_of-push c t moves m ∙ ap (λ b. current_of c moves t + c * cond b 1 0) h ∙ (let q : current_of c moves t + c * 1 ≡ current_of c moves t + c = omega arith in q)

pub current_of-same : (c t : ℕ) (moves : List Move) (m : Move) → is_crash_on c t m ≡ false → current_of c (moves ++ m ∷ []) t ≡ current_of c moves t
current_of-same c t moves m h =
    current_of-push c t moves m ∙ ap (λ b. current_of c moves t + c * cond b 1 0) h ∙ (let q : current_of c moves t + c * 0 ≡ current_of c moves t = omega arith in q)

-- the thread of a thread's current process
pub thread_of_current : (c t : ℕ) (moves : List Move) → t < c → thread_of c (current_of c moves t) ≡ t
thread_of_current c t moves h = add-mul-mod_self_left t c (count_by (is_crash_on c t) moves) ∙ mod-eq_of_lt h
