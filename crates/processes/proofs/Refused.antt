-- Laws of the rule
use Rattle.std.proofs.Common.{◌≡◌, ◌==◌, ℕ, ◌+◌, ◌*◌, ◌<◌, Bool, true, false, cond, Option, Some, None, List, [], ◌∷◌, ◌++◌, count_by, refl, sym, ap, ◌∙◌, append_assoc, arith}
use Rattle.std.specs.Option.{option_or, option_map_or}
use Rattle.std.proofs.lemmas.Bool.{eq-eqb, eqb-true}
use Rattle.edn.specs.declared.refusal.Refusal.{Refusal}
use Rattle.edn.specs.declared.refusal.Refusal.TheVariants.{Busy, WrongProcess, NotOpen}
use Rattle.processes.specs.MoveRule.{Move, process_of, is_invocation, thread_of, is_crash_on, current_of, last_move_of, is_busy, MayMove, RefusesMove, FollowMoveRule, HasInvoked}
use Rattle.processes.specs.MoveRule.Move.{Invokes, Completes, Crashes}
use Rattle.processes.proofs.Pushing.{last_move_of-append, current_of-append, current_of-crashed}
use Rattle.processes.proofs.Following.{busy_is_current}

-- the number of a thread's current process only grows, and a crash leaves a process behind
pub stays_away : (c p : ℕ) (before after : List Move) → 0 < c → FollowMoveRule c (before ++ Crashes p ∷ after) → ¬ MayMove c (before ++ Crashes p ∷ after) (Invokes p)
stays_away c p before after pos rule may =
    (let t = thread_of c p in
    let front : FollowMoveRule c before = λ b a m cut. rule b (a ++ Crashes p ∷ after) m (ap (λ l. l ++ Crashes p ∷ after) cut ∙ append_assoc b (m ∷ a) (Crashes p ∷ after)) in
    let was : p ≡ current_of c before t = busy_is_current c before front p (rule before after (Crashes p) refl) in
    let next : current_of c (before ++ Crashes p ∷ []) t ≡ current_of c before t + c = current_of-crashed c t before (Crashes p) (eq-eqb t t refl) in
    let later : current_of c ((before ++ Crashes p ∷ []) ++ after) t ≡ current_of c (before ++ Crashes p ∷ []) t + c * count_by (is_crash_on c t) after = current_of-append c t (before ++ Crashes p ∷ []) after in
    let whole : current_of c (before ++ Crashes p ∷ after) t ≡ current_of c ((before ++ Crashes p ∷ []) ++ after) t = ap (λ l. current_of c l t) (sym (append_assoc before (Crashes p ∷ []) after)) in
    let now : p ≡ current_of c (before ++ Crashes p ∷ after) t = may.0 in
    omega arith)

-- the last move of a process, cut out
found : (moves : List Move) (p : ℕ) → is_busy moves p ≡ true → HasInvoked moves p
found [] p h = (let b : false ≡ true = h in cc)
found (x ∷ moves) p h = by_later (last_move_of moves p) refl (λ busy. found moves p busy)
  where
    here : (m : Move) (b : Bool) → (p == process_of m) ≡ b → option_map_or is_invocation (cond b (Some m) None) false ≡ true → last_move_of moves p ≡ None → HasInvoked (m ∷ moves) p
    here m false is q none = (let b : false ≡ true = q in cc)
    here (Invokes q) true is b none = record { before = []; after = moves; cut = ap (λ k. Invokes k ∷ moves) (sym (eqb-true p q is)); still = none }
    here (Completes q) true is b none = (let c : false ≡ true = b in cc)
    here (Crashes q) true is b none = (let c : false ≡ true = b in cc)

    by_later : (o : Option Move) → last_move_of moves p ≡ o → (is_busy moves p ≡ true → HasInvoked moves p) → HasInvoked (x ∷ moves) p
    by_later (Some m) is rest =
        (let busy : is_busy moves p ≡ true = ap (λ o. option_map_or is_invocation o false) is
        ∙ sym (ap (λ o. option_map_or is_invocation (option_or o (cond (p == process_of x) (Some x) None)) false) is) ∙ h in
        let r = rest busy in
        record { before = x ∷ r.before; after = r.after; cut = ap (λ l. x ∷ l) r.cut; still = r.still })
    by_later None is rest =
        here x (p == process_of x) refl (sym (ap (λ o. option_map_or is_invocation (option_or o (cond (p == process_of x) (Some x) None)) false) is) ∙ h) is

invoked : (moves : List Move) (p : ℕ) → HasInvoked moves p → is_busy moves p ≡ true
invoked moves p h =
    ap (λ l. is_busy l p) h.cut
    ∙ ap (λ o. option_map_or is_invocation o false)
    (last_move_of-append h.before (Invokes p ∷ h.after) p
    ∙ ap (λ o. option_or (option_or o (cond (p == p) (Some (Invokes p)) None)) (last_move_of h.before p)) h.still
    ∙ ap (λ b. option_or (cond b (Some (Invokes p)) None) (last_move_of h.before p)) (eq-eqb p p refl))

pub busy_iff : (moves : List Move) (p : ℕ) → (is_busy moves p ≡ true → HasInvoked moves p) × (HasInvoked moves p → is_busy moves p ≡ true)
busy_iff moves p = (found moves p, invoked moves p)

not_both : (b : Bool) → b ≡ true → b ≡ false → ⊥
not_both b x y = cc

pub one : (c : ℕ) (moves : List Move) (m : Move) (why other : Refusal) → RefusesMove c moves m why → RefusesMove c moves m other → why ≡ other
one c moves (Invokes p) WrongProcess WrongProcess a b = refl
one c moves (Invokes p) WrongProcess Busy a b = absurd (a b.0)
one c moves (Invokes p) Busy WrongProcess a b = absurd (b a.0)
one c moves (Invokes p) Busy Busy a b = refl
one c moves (Invokes p) WrongProcess _ a b = absurd b
one c moves (Invokes p) Busy _ a b = absurd b
one c moves (Invokes p) _ other a b = absurd a
one c moves (Completes p) NotOpen NotOpen a b = refl
one c moves (Completes p) NotOpen _ a b = absurd b
one c moves (Completes p) _ other a b = absurd a
one c moves (Crashes p) NotOpen NotOpen a b = refl
one c moves (Crashes p) NotOpen _ a b = absurd b
one c moves (Crashes p) _ other a b = absurd a

pub none : (c : ℕ) (moves : List Move) (m : Move) (why : Refusal) → MayMove c moves m → ¬ RefusesMove c moves m why
none c moves (Invokes p) WrongProcess may h = h may.0
none c moves (Invokes p) Busy may h = not_both (is_busy moves p) h.1 may.1
none c moves (Invokes p) _ may h = h
none c moves (Completes p) NotOpen may h = not_both (is_busy moves p) may h
none c moves (Completes p) _ may h = h
none c moves (Crashes p) NotOpen may h = not_both (is_busy moves p) may h
none c moves (Crashes p) _ may h = h
