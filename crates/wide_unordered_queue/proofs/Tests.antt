-- what tests say
use Rattle.std.proofs.Common.{◌≡◌, ◌≢◌, ℕ, ◌-◌, ◌<◌, ◌≤◌, ℤ, ◌⊎◌, inl, inr, ⊎_elim, Bool, true, false, not, ◌&&◌, cond, nat_eq, nat_le, List, [], ◌∷◌, map, refl, sym, ap, ◌∙◌}
use Rattle.std.proofs.lemmas.Bool.{true≢false, cases_Bool, eqb-true, eq-eqb, le-leb, lt-leb, ne_eqb, and_from, and_left, and_right}
use Rattle.values.proofs.Bags.{same_int, other_int}
use Rattle.models.specs.declared.operation.Name.{Name}
use Rattle.models.specs.declared.operation.Name.TheVariants.{Enqueue, Dequeue}
use Rattle.models.specs.declared.operation.Part.{Part}
use Rattle.models.specs.declared.operation.Part.TheVariants.{Nil, Int, Pair, Set}
use Rattle.models.specs.declared.finding.Answer.TheVariants.{Number}
use Rattle.models.specs.Objects.{answer_of}
use Rattle.wide_unordered_queue.specs.declared.pending.Call.TheVariants as calls
use Rattle.wide_unordered_queue.specs.declared.pending.Pending.{Pending}
use Rattle.wide_unordered_queue.specs.Facts.{call_by, is_of, lowered}

pub not_true : (b : Bool) → not b ≡ true → b ≢ true
not_true true e f = true≢false (sym e)
not_true false e f = true≢false (sym f)

pub is_not : (b : Bool) → b ≢ true → not b ≡ true
is_not true n = absurd (n refl)
is_not false n = refl

pub not_same : (a b : ℕ) → not (nat_eq a b) ≡ true → a ≢ b
not_same a b e same = let t : nat_eq a b ≡ true = eq-eqb a b same in true≢false (sym e ∙ ap not t)

pub is_not_same : (a b : ℕ) → a ≢ b → not (nat_eq a b) ≡ true
is_not_same a b ne = ap not (ne_eqb a b ne)

pub same_or_not : (a b : ℕ) → (a ≡ b) ⊎ (a ≢ b)
same_or_not a b = ⊎_elim (λ e. inl (eqb-true a b e)) (λ e. inr (λ same. true≢false (sym (eq-eqb a b same) ∙ e))) (cases_Bool (nat_eq a b))

pub map_same : {X : Type 0} (xs : List X) → map (λ x. x) xs ≡ xs
map_same [] = refl
map_same (x ∷ xs) = ap (λ l. x ∷ l) (map_same xs)

-- calls
pub enqueue_by : (name : Name) (part : Part) (v : ℤ) → call_by name part ≡ calls.Enqueue v → (name ≡ Enqueue) × (part ≡ Int v)
enqueue_by Enqueue (Int w) v e = (refl, (let q : calls.Enqueue w ≡ calls.Enqueue v = e in let s : w ≡ v = cc in ap Int s))
enqueue_by Dequeue Nil v e = cc
enqueue_by _ _ v e = cc

pub by_enqueue : (name : Name) (part : Part) (v : ℤ) → (name ≡ Enqueue) × (part ≡ Int v) → call_by name part ≡ calls.Enqueue v
by_enqueue name part v h = ap (λ n. call_by n part) h.0 ∙ ap (call_by Enqueue) h.1

pub dequeue_by : (name : Name) (part : Part) → call_by name part ≡ calls.Dequeue → (name ≡ Dequeue) × (part ≡ Nil)
dequeue_by Dequeue Nil e = (refl, refl)
dequeue_by Enqueue (Int w) e = cc
dequeue_by _ _ e = cc

pub by_dequeue : (name : Name) (part : Part) → (name ≡ Dequeue) × (part ≡ Nil) → call_by name part ≡ calls.Dequeue
by_dequeue name part h = ap (λ n. call_by n part) h.0 ∙ ap (call_by Dequeue) h.1

pub answer_number : (part : Part) (v : ℤ) → answer_of part ≡ Number v → part ≡ Int v
answer_number Nil v e = cc
answer_number (Int a) v e = let q : Number a ≡ Number v = e in let r : a ≡ v = cc in ap Int r
answer_number (Pair a b) v e = cc
answer_number (Set s) v e = cc

-- an operation that is lowered, or is not
pub lowered_yes : (v : ℤ) (least : ℕ) (p : Pending) → p.call ≡ calls.Enqueue v → least ≤ p.least → lowered v least p ≡ record { id = p.id; call = p.call; least = p.least - 1 }
lowered_yes v least p e le =
    let test : is_of v p.call && nat_le least p.least ≡ true = and_from (is_of v p.call) (nat_le least p.least) (ap (is_of v) e ∙ same_int v v refl) (le-leb least p.least le) in
    ap (λ b. cond b (record { id = p.id; call = p.call; least = p.least - 1 }) p) test

pub lowered_less : (v : ℤ) (least : ℕ) (p : Pending) → p.least < least → lowered v least p ≡ p
lowered_less v least p lt = ap (λ b. cond b (record { id = p.id; call = p.call; least = p.least - 1 }) p) (and_right (is_of v p.call) (nat_le least p.least) (lt-leb least p.least lt))

pub lowered_not : (v : ℤ) (least : ℕ) (p : Pending) → is_of v p.call ≡ false → lowered v least p ≡ p
lowered_not v least p e = ap (λ b. cond b (record { id = p.id; call = p.call; least = p.least - 1 }) p) (and_left (is_of v p.call) (nat_le least p.least) e)

pub lowered_other : (v w : ℤ) (least : ℕ) (p : Pending) → p.call ≡ calls.Enqueue w → w ≢ v → lowered v least p ≡ p
lowered_other v w least p e ne = lowered_not v least p (ap (is_of v) e ∙ other_int w v ne)

pub lowered_id : (v : ℤ) (least : ℕ) (p : Pending) → (lowered v least p).id ≡ p.id
lowered_id v least p = ⊎_elim
    (λ t. ap (λ b. (cond b (record { id = p.id; call = p.call; least = p.least - 1 }) p).id) t)
    (λ f. ap (λ b. (cond b (record { id = p.id; call = p.call; least = p.least - 1 }) p).id) f)
    (cases_Bool (is_of v p.call && nat_le least p.least))

pub lowered_call : (v : ℤ) (least : ℕ) (p : Pending) → (lowered v least p).call ≡ p.call
lowered_call v least p = ⊎_elim
    (λ t. ap (λ b. (cond b (record { id = p.id; call = p.call; least = p.least - 1 }) p).call) t)
    (λ f. ap (λ b. (cond b (record { id = p.id; call = p.call; least = p.least - 1 }) p).call) f)
    (cases_Bool (is_of v p.call && nat_le least p.least))
