-- what a step of a queue may be, and what went in and came out in a run
use Rattle.std.proofs.Common.{◌≡◌, suc, ◌+◌, ◌<◌, ℤ, ◌⊎◌, inl, inr, ⊎_elim, List, [], ◌∷◌, ◌++◌, length, refl, sym, ap, ◌∙◌, subst, arith, append_assoc, append-nil, length-append}
use Rattle.std.specs.List.{Contains}
use Rattle.std.specs.Ordering.{int_eq}
use Rattle.std.proofs.lemmas.Bool.{cases_Bool, true≢false}
use Rattle.std.proofs.lemmas.Bool.Decides.{Decides-int_eq}
use Rattle.models.specs.declared.operation.Name.{Name}
use Rattle.models.specs.declared.operation.Name.TheVariants.{Enqueue, Dequeue}
use Rattle.models.specs.declared.operation.Part.{Part}
use Rattle.models.specs.declared.operation.Part.TheVariants.{Nil, Int}
use Rattle.models.specs.declared.finding.Found.{Found}
use Rattle.models.specs.declared.finding.Found.TheVariants.{Unit as Done, Reg, Item, Elements}
use Rattle.models.specs.declared.finding.Answer.{Answer}
use Rattle.models.specs.declared.finding.Answer.TheVariants.{Nothing, Number, Numbers, Many}
use Rattle.models.specs.Objects.{IsOneOf, queue_apply, fifo_queue, Fits}
use Rattle.models.proofs.Steps.{same_outcome}
use Rattle.linspec.specs.Orders.{Taken, Run}
use Rattle.linspec.proofs.Lists.{Contains-nil, Contains-head, Contains-tail, Contains-cons_cases}
use Rattle.linspec.specs.Twins.{Enqueues}
use Rattle.queue_pairs.specs.Pairs.{Dequeues}
use Rattle.queue_pairs.proofs.Finds.{aligned, cut_long}

abbrev pub PutsIn : Name → Part → List ℤ → Found → List ℤ → Type 0
PutsIn name part s found t = (v : ℤ) × ((name ≡ Enqueue) × (part ≡ Int v)) × (t ≡ s ++ v ∷ []) × (found ≡ Done)

abbrev pub TakesOut : Name → Part → List ℤ → Found → List ℤ → Type 0
TakesOut name part s found t = (v : ℤ) × ((name ≡ Dequeue) × (part ≡ Nil)) × (s ≡ v ∷ t) × (found ≡ Item v)

pub queue_view : (name : Name) (part : Part) (s t : List ℤ) (found : Found) → IsOneOf (queue_apply name part s) (t, found) → PutsIn name part s found t ⊎ TakesOut name part s found t
queue_view Enqueue (Int v) s t found h = let e = same_outcome (s ++ v ∷ [], Done) (t, found) h in inl (v, (refl, refl), sym e.0, sym e.1)
queue_view Dequeue Nil (x ∷ s) t found h = let e = same_outcome (s, Item x) (t, found) h in inr (x, (refl, refl), ap (λ l. x ∷ l) e.0, sym e.1)
queue_view _ _ s t found h = absurd h

pub by_enqueue : (name : Name) (part : Part) (s t : List ℤ) (found : Found) → PutsIn name part s found t → IsOneOf (queue_apply name part s) (t, found)
by_enqueue name part s t found h =
    subst (λ n. IsOneOf (queue_apply n part s) (t, found)) (sym h.1.0)
    (subst (λ p. IsOneOf (queue_apply Enqueue p s) (t, found)) (sym h.1.1)
    (inl (λ i. (sym h.2 i, sym h.3 i))))

pub by_dequeue : (name : Name) (part : Part) (s t : List ℤ) (found : Found) → TakesOut name part s found t → IsOneOf (queue_apply name part s) (t, found)
by_dequeue name part s t found h =
    subst (λ n. IsOneOf (queue_apply n part s) (t, found)) (sym h.1.0)
    (subst (λ p. IsOneOf (queue_apply Dequeue p s) (t, found)) (sym h.1.1)
    (subst (λ l. IsOneOf (queue_apply Dequeue Nil l) (t, found)) (sym h.2)
    (inl (λ i. (t, sym h.3 i)))))

pub no_both : (name : Name) → name ≡ Enqueue → name ≡ Dequeue → ⊥
no_both name e f = let clash : Enqueue ≡ Dequeue = sym e ∙ f in cc

pub same_int_part : (a b : ℤ) (part : Part) → part ≡ Int a → part ≡ Int b → a ≡ b
same_int_part a b part e f = let q : Int a ≡ Int b = sym e ∙ f in cc

pub same_item : (a b : ℤ) (found : Found) → found ≡ Item a → found ≡ Item b → a ≡ b
same_item a b found e f = let q : Item a ≡ Item b = sym e ∙ f in cc

pub fits_number : (v : ℤ) (answer : Answer) → Fits (Item v) answer → answer ≡ Number v
fits_number v Nothing h = absurd h
fits_number v (Number a) h = ap Number (sym h)
fits_number v (Numbers a b) h = absurd h
fits_number v (Many t) h = absurd h

pub enqueues_any : (name : Name) (part : Part) → ((v : ℤ) × ((name ≡ Enqueue) × (part ≡ Int v))) ⊎ ((v : ℤ) → ¬ ((name ≡ Enqueue) × (part ≡ Int v)))
enqueues_any Enqueue (Int v) = inl (v, (refl, refl))
enqueues_any _ _ = inr (λ v h. (let e = h.0 in let f = h.1 in cc))

pub finds_or_not : (v : ℤ) (found : Found) → (found ≡ Item v) ⊎ (¬ (found ≡ Item v))
finds_or_not v (Item w) = ⊎_elim
    (λ e. inl (ap Item ((Decides-int_eq w v).0 e)))
    (λ e. inr (λ h. true≢false (sym ((Decides-int_eq w v).1 (same_item w v (Item w) refl h)) ∙ e)))
    (cases_Bool (int_eq w v))
finds_or_not v Done = inr (λ e. cc)
finds_or_not v (Reg s) = inr (λ e. cc)
finds_or_not v (Elements s) = inr (λ e. cc)

-- what an order puts in, and what it takes out
abbrev in_of : Name → Part → List ℤ
in_of Enqueue (Int v) = v ∷ []
in_of _ _ = []

abbrev out_of : Found → List ℤ
out_of (Item v) = v ∷ []
out_of _ = []

abbrev pub ins : List Taken → List ℤ
ins [] = []
ins (x ∷ order) = in_of x.op.name x.op.part ++ ins order

abbrev pub outs : List Taken → List ℤ
outs [] = []
outs (x ∷ order) = out_of x.found ++ outs order

in_by : (name : Name) (part : Part) (v : ℤ) → (name ≡ Enqueue) × (part ≡ Int v) → in_of name part ≡ v ∷ []
in_by name part v h = λ i. in_of (h.0 i) (h.1 i)

in_none : (name : Name) (part : Part) → ((v : ℤ) → ¬ ((name ≡ Enqueue) × (part ≡ Int v))) → in_of name part ≡ []
in_none Enqueue (Int v) n = absurd (n v (refl, refl))
in_none _ _ n = refl

out_none : (found : Found) → ((v : ℤ) → ¬ (found ≡ Item v)) → out_of found ≡ []
out_none (Item v) n = absurd (n v refl)
out_none Done n = refl
out_none (Reg s) n = refl
out_none (Elements s) n = refl

finds_any : (found : Found) → ((v : ℤ) × (found ≡ Item v)) ⊎ ((v : ℤ) → ¬ (found ≡ Item v))
finds_any (Item v) = inl (v, refl)
finds_any Done = inr (λ v e. cc)
finds_any (Reg s) = inr (λ v e. cc)
finds_any (Elements s) = inr (λ v e. cc)

pub ins-append : (xs ys : List Taken) → ins (xs ++ ys) ≡ ins xs ++ ins ys
ins-append [] ys = refl
ins-append (x ∷ xs) ys = ap (λ l. in_of x.op.name x.op.part ++ l) (ins-append xs ys) ∙ sym (append_assoc (in_of x.op.name x.op.part) (ins xs) (ins ys))

pub outs-append : (xs ys : List Taken) → outs (xs ++ ys) ≡ outs xs ++ outs ys
outs-append [] ys = refl
outs-append (x ∷ xs) ys = ap (λ l. out_of x.found ++ l) (outs-append xs ys) ∙ sym (append_assoc (out_of x.found) (outs xs) (outs ys))

pub ins_at : (x : Taken) (xs : List Taken) (v : ℤ) → Enqueues x.op v → ins (x ∷ xs) ≡ v ∷ ins xs
ins_at x xs v h = ap (λ l. l ++ ins xs) (in_by x.op.name x.op.part v h)

pub outs_at : (x : Taken) (xs : List Taken) (v : ℤ) → x.found ≡ Item v → outs (x ∷ xs) ≡ v ∷ outs xs
outs_at x xs v h = ap (λ f. out_of f ++ outs xs) h

-- what was in and what went in is what came out and what is left
pub in_and_out : (order : List Taken) (s t : List ℤ) → Run fifo_queue s order t → s ++ ins order ≡ outs order ++ t
in_and_out [] s t run = append-nil s ∙ run
in_and_out (x ∷ order) s t run = ⊎_elim
    (λ p.
    let i : ins (x ∷ order) ≡ p.0 ∷ ins order = ins_at x order p.0 p.1 in
    let o : outs (x ∷ order) ≡ outs order = ap (λ f. out_of f ++ outs order) p.3 in
    ap (λ l. s ++ l) i ∙ sym (append_assoc s (p.0 ∷ []) (ins order)) ∙ ap (λ l. l ++ ins order) (sym p.2) ∙ in_and_out order run.0 t run.2 ∙ ap (λ l. l ++ t) (sym o))
    (λ p.
    let i : ins (x ∷ order) ≡ ins order = ap (λ l. l ++ ins order) (in_none x.op.name x.op.part (λ v h. no_both x.op.name h.0 p.1.0)) in
    let o : outs (x ∷ order) ≡ p.0 ∷ outs order = outs_at x order p.0 p.3 in
    ap (λ l. s ++ l) i ∙ ap (λ l. l ++ ins order) p.2 ∙ ap (λ l. p.0 ∷ l) (in_and_out order run.0 t run.2) ∙ ap (λ l. l ++ t) (sym o))
    (queue_view x.op.name x.op.part s run.0 x.found run.1)

-- an operation of a run is an enqueue, or a dequeue that finds a value

pub put_or_get : (order : List Taken) (s t : List ℤ) → Run fifo_queue s order t → (x : Taken) → Contains order x
    → ((v : ℤ) × Enqueues x.op v × (x.found ≡ Done)) ⊎ ((v : ℤ) × Dequeues x.op × (x.found ≡ Item v))
put_or_get [] s t run x h = absurd (Contains-nil x h)
put_or_get (y ∷ order) s t run x h = ⊎_elim
    (λ e. subst (λ (z : Taken). ((v : ℤ) × Enqueues z.op v × (z.found ≡ Done)) ⊎ ((v : ℤ) × Dequeues z.op × (z.found ≡ Item v))) e
    (⊎_elim (λ p. inl (p.0, p.1, p.3)) (λ p. inr (p.0, p.1, p.3)) (queue_view y.op.name y.op.part s run.0 y.found run.1)))
    (λ k. put_or_get order run.0 t run.2 x k)
    (Contains-cons_cases y order x h)

-- the operation that put a value in, and the one that took it out
abbrev pub PutBy : List Taken → List ℤ → ℤ → Type 0
PutBy order p v = (before : List Taken) × (x : Taken) × (after : List Taken) × (before ++ x ∷ after ≡ order) × Enqueues x.op v × (ins before ≡ p)

abbrev pub TakenBy : List Taken → ℤ → Type 0
TakenBy order v = (x : Taken) × Contains order x × (x.found ≡ Item v)

put_behind : (x : Taken) (order : List Taken) (p q : List ℤ) (v : ℤ) → ((b : List Taken) → ins b ≡ p → ins (x ∷ b) ≡ q) → PutBy order p v → PutBy (x ∷ order) q v
put_behind x order p q v f r = (x ∷ r.0, r.1, r.2, ap (λ l. x ∷ l) r.3, r.4, f r.0 r.5)

put_here : (x : Taken) (order : List Taken) (v : ℤ) (q p : List ℤ) (w : ℤ) → Enqueues x.op w → w ∷ ins order ≡ p ++ v ∷ q
    → ((r : List ℤ) → ins order ≡ r ++ v ∷ q → PutBy order r v) → PutBy (x ∷ order) p v
put_here x order v q [] w h same more = let s : w ≡ v = cc in ([], x, order, refl, (h.0, h.1 ∙ ap Int s), refl)
put_here x order v q (y ∷ p) w h same more =
    let s : w ≡ y = cc in
    let t : ins order ≡ p ++ v ∷ q = cc in
    put_behind x order p (y ∷ p) v (λ b e. ins_at x b w h ∙ (λ i. s i ∷ e i)) (more p t)

pub cut_ins : (order : List Taken) (p : List ℤ) (v : ℤ) (q : List ℤ) → ins order ≡ p ++ v ∷ q → PutBy order p v
cut_ins [] [] v q e = cc
cut_ins [] (y ∷ p) v q e = cc
cut_ins (x ∷ order) p v q e = ⊎_elim
    (λ k. put_here x order v q p k.0 k.1 (sym (ins_at x order k.0 k.1) ∙ e) (λ r f. cut_ins order r v q f))
    (λ n.
    let none : (b : List Taken) → ins (x ∷ b) ≡ ins b = λ b. ap (λ l. l ++ ins b) (in_none x.op.name x.op.part n) in
    put_behind x order p p v (λ b f. none b ∙ f) (cut_ins order p v q (sym (none order) ∙ e)))
    (enqueues_any x.op.name x.op.part)

take_behind : (x : Taken) (order : List Taken) (v : ℤ) → TakenBy order v → TakenBy (x ∷ order) v
take_behind x order v r = (r.0, Contains-tail x order r.0 r.1, r.2)

take_here : (x : Taken) (order : List Taken) (v : ℤ) (q p : List ℤ) (w : ℤ) → x.found ≡ Item w → w ∷ outs order ≡ p ++ v ∷ q
    → ((r : List ℤ) → outs order ≡ r ++ v ∷ q → TakenBy order v) → TakenBy (x ∷ order) v
take_here x order v q [] w h same more = let s : w ≡ v = cc in (x, Contains-head x order, h ∙ ap Item s)
take_here x order v q (y ∷ p) w h same more =
    let t : outs order ≡ p ++ v ∷ q = cc in
    take_behind x order v (more p t)

pub cut_outs : (order : List Taken) (p : List ℤ) (v : ℤ) (q : List ℤ) → outs order ≡ p ++ v ∷ q → TakenBy order v
cut_outs [] [] v q e = cc
cut_outs [] (y ∷ p) v q e = cc
cut_outs (x ∷ order) p v q e = ⊎_elim
    (λ k. take_here x order v q p k.0 k.1 (sym (outs_at x order k.0 k.1) ∙ e) (λ r f. cut_outs order r v q f))
    (λ n. take_behind x order v (cut_outs order p v q (sym (ap (λ l. l ++ outs order) (out_none x.found n)) ∙ e)))
    (finds_any x.found)

-- more operations, more of both
pub ins_more : (b m : List Taken) (y : Taken) (v : ℤ) → Enqueues y.op v → length (ins b) < length (ins (b ++ y ∷ m))
ins_more b m y v h =
    let e : length (ins (b ++ y ∷ m)) ≡ length (ins b) + suc (length (ins m)) = ap length (ins-append b (y ∷ m)) ∙ length-append (ins b) (ins (y ∷ m)) ∙ ap (λ l. length (ins b) + length l) (ins_at y m v h) in
    omega (arith, e)

pub outs_more_at : (b m : List Taken) (y : Taken) (v : ℤ) → y.found ≡ Item v → length (outs b) < length (outs (b ++ y ∷ m))
outs_more_at b m y v h =
    let e : length (outs (b ++ y ∷ m)) ≡ length (outs b) + suc (length (outs m)) = ap length (outs-append b (y ∷ m)) ∙ length-append (outs b) (outs (y ∷ m)) ∙ ap (λ l. length (outs b) + length l) (outs_at y m v h) in
    omega (arith, e)

-- a value that went in as the n-th, where more than n came out before a place, came out before it
pub came_out : (order : List Taken) (end : List ℤ) → Run fifo_queue [] order end
    → (b : List Taken) (y : Taken) (a : List Taken) (u : ℤ) → b ++ y ∷ a ≡ order → Enqueues y.op u
    → (before after : List Taken) → before ++ after ≡ order → length (ins b) < length (outs before)
    → (t : Taken) × Contains before t × (t.found ≡ Item u)
came_out order end run b y a u whole h before after cut lt =
    let c = cut_long (outs before) (length (ins b)) lt in
    let all_in : ins order ≡ ins b ++ u ∷ ins a = ap ins (sym whole) ∙ ins-append b (y ∷ a) ∙ ap (λ l. ins b ++ l) (ins_at y a u h) in
    let all_out : outs order ≡ c.0 ++ c.1 ∷ (c.2 ++ outs after) = ap outs (sym cut) ∙ outs-append before after ∙ ap (λ l. l ++ outs after) c.3 ∙ append_assoc c.0 (c.1 ∷ c.2) (outs after) in
    let both : ins b ++ u ∷ ins a ≡ c.0 ++ c.1 ∷ ((c.2 ++ outs after) ++ end) = sym all_in ∙ in_and_out order [] end run ∙ ap (λ l. l ++ end) all_out ∙ append_assoc c.0 (c.1 ∷ (c.2 ++ outs after)) end in
    let same : u ≡ c.1 = aligned (ins b) c.0 u c.1 (ins a) ((c.2 ++ outs after) ++ end) (sym c.4) both in
    let r = cut_outs before c.0 c.1 c.2 c.3 in
    (r.0, r.1, r.2 ∙ ap Item (sym same))
