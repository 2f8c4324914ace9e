-- The calls of one seat on a tape: if they are no more than it made since then, they are just those.
use Rattle.std.proofs.Common.{◌≡◌, ℕ, ◌+◌, ◌≤◌, Bool, true, false, [], ◌∷◌, ◌++◌, length, refl, sym, ap, subst, ◌∙◌, arith, length-append, append_assoc}
use Rattle.std.specs.Prelude.{◌==◌, ◌&&◌, if◌then◌else◌}
use mathlib.Core.List.{IsPrefix}
use Rattle.machine.specs.declared.command.Command.{Command}
use Rattle.board.specs.declared.tape.TapeEntry.TheVariants.{Opening, Call}
use Rattle.board.specs.CoreTape.{CoreReply, CoreTape}
use Rattle.clients.specs.Calls.{CoreSeat, Calls, HasMade}
use Rattle.clients.specs.Runs.{calls_of}
use Rattle.clients.proofs.Asking.{one_if, asked, AreSuch, asked_by, same_number}

abbrev pub any : Command → Bool
any command = true

pub all_are : (calls : Calls) → AreSuch any calls
all_are [] = tt
all_are (call ∷ calls) = (refl, all_are calls)

length_if : (b : Bool) (x : Command × CoreReply) (xs : Calls) → length (if b then x ∷ xs else xs) ≡ one_if (b && true) + length xs
length_if true x xs = omega arith
length_if false x xs = omega arith

-- they are as many as are asked
pub as_many : (n : ℕ) (tape : CoreTape) → length (calls_of n tape) ≡ asked any n tape
as_many n [] = refl
as_many n (Opening m ∷ rest) = as_many n rest
as_many n (Call k c r ∷ rest) = omega (arith, length_if (k == n) (c, r) (calls_of n rest), as_many n rest)

if_append : (b : Bool) (x : Command × CoreReply) (xs ys : Calls) → (if b then x ∷ (xs ++ ys) else xs ++ ys) ≡ (if b then x ∷ xs else xs) ++ ys
if_append true x xs ys = refl
if_append false x xs ys = refl

calls_append : (n : ℕ) (xs ys : CoreTape) → calls_of n (xs ++ ys) ≡ calls_of n xs ++ calls_of n ys
calls_append n [] ys = refl
calls_append n (Opening m ∷ xs) ys = calls_append n xs ys
calls_append n (Call k c r ∷ xs) ys =
    ap (λ (zs : Calls). if k == n then (c, r) ∷ zs else zs) (calls_append n xs ys) ∙ if_append (k == n) (c, r) (calls_of n xs) (calls_of n ys)

pub calls_front : (n : ℕ) (xs ys : CoreTape) → IsPrefix xs ys → (more : Calls) × (calls_of n ys ≡ calls_of n xs ++ more)
calls_front n xs ys p = (calls_of n p.0, ap (calls_of n) (sym p.1) ∙ calls_append n xs p.0)

last_call : (n : ℕ) (tape before : CoreTape) (c : Command) (r : CoreReply) → tape ≡ before ++ Call n c r ∷ [] → calls_of n tape ≡ calls_of n before ++ (c, r) ∷ []
last_call n tape before c r e =
    let one : calls_of n (Call n c r ∷ []) ≡ (c, r) ∷ [] = rw (same_number n) refl in
    ap (calls_of n) e ∙ (calls_append n before (Call n c r ∷ []) ∙ ap (λ (zs : Calls). calls_of n before ++ zs) one)

nil_right : (xs : Calls) → xs ++ [] ≡ xs
nil_right [] = refl
nil_right (x ∷ xs) = ap (λ (ys : Calls). x ∷ ys) (nil_right xs)

-- a list that adds nothing is empty
pub none_more : (xs ys zs : Calls) → ys ≡ xs ++ zs → length ys ≤ length xs → ys ≡ xs
none_more xs ys [] e few = e ∙ nil_right xs
none_more xs ys (z ∷ zs) e few = absurd (omega (arith, few, ap length e, length-append xs (z ∷ zs)))

pub made_count : (old new : CoreSeat) (calls : Calls) → HasMade old calls new → new.count ≡ old.count + length calls
made_count old new [] made = omega (arith, made.count)
made_count old new (call ∷ calls) made = omega (arith, made.1.count, made_count made.0 new calls made.2)

-- a seat's tape has at least what it made since
pub at_least : (n : ℕ) (old new : CoreSeat) (calls : Calls) → old.number ≡ n → HasMade old calls new
    → length (calls_of n old.tape) + length calls ≤ length (calls_of n new.tape)
at_least n old new calls e made =
    let has = asked_by any old new calls made (all_are calls) in
    let more : new.count + asked any n old.tape ≤ old.count + asked any n new.tape =
    subst (λ (m : ℕ). new.count + asked any m old.tape ≤ old.count + asked any m new.tape) e has.calls in
    omega (arith, more, made_count old new calls made, as_many n old.tape, as_many n new.tape)

pub just_made : (n : ℕ) (old new : CoreSeat) (calls : Calls) → old.number ≡ n → HasMade old calls new
    → length (calls_of n new.tape) ≤ length (calls_of n old.tape) + length calls → calls_of n new.tape ≡ calls_of n old.tape ++ calls
just_made n old new [] e made few =
    let front = calls_front n old.tape new.tape made.seen in
    let same : calls_of n new.tape ≡ calls_of n old.tape = none_more (calls_of n old.tape) (calls_of n new.tape) front.0 front.1 (omega (arith, few)) in
    same ∙ sym (nil_right (calls_of n old.tape))
just_made n old new (call ∷ calls) e made few =
    let mid = made.0 in
    let entry = made.1.entry in
    let tape : mid.tape ≡ entry.0 ++ Call n call.0 call.1 ∷ [] = subst (λ (m : ℕ). mid.tape ≡ entry.0 ++ Call m call.0 call.1 ∷ []) e entry.2 in
    let added : calls_of n mid.tape ≡ calls_of n entry.0 ++ call ∷ [] = last_call n mid.tape entry.0 call.0 call.1 tape in
    let front = calls_front n old.tape entry.0 entry.1 in
    let number : mid.number ≡ n = made.1.number ∙ e in
    let rest = at_least n mid new calls number made.2 in
    let size : length (calls_of n mid.tape) ≡ length (calls_of n entry.0) + 1 = omega (arith, ap length added, length-append (calls_of n entry.0) (call ∷ [])) in
    let longer : length (calls_of n entry.0) ≡ length (calls_of n old.tape) + length front.0 = ap length front.1 ∙ length-append (calls_of n old.tape) front.0 in
    let before : calls_of n entry.0 ≡ calls_of n old.tape = none_more (calls_of n old.tape) (calls_of n entry.0) front.0 front.1 (omega (arith, few, rest, size)) in
    let later : calls_of n new.tape ≡ calls_of n mid.tape ++ calls = just_made n mid new calls number made.2 (omega (arith, few, size, longer)) in
    let at_mid : calls_of n mid.tape ≡ calls_of n old.tape ++ call ∷ [] = added ∙ ap (λ (zs : Calls). zs ++ call ∷ []) before in
    later ∙ (ap (λ (zs : Calls). zs ++ calls) at_mid ∙ append_assoc (calls_of n old.tape) (call ∷ []) calls)
