-- how many operations of an order are of some sort
use Rattle.std.proofs.Common.{◌≡◌, ◌≢◌, ℕ, ◌+◌, ℤ, ⊎_elim, Bool, true, false, cond, List, [], ◌∷◌, map, length, refl, sym, ap, ◌∙◌, arith}
use Rattle.std.specs.Ordering.{int_eq}
use Rattle.std.specs.List.{filter, Contains}
use Rattle.std.proofs.lemmas.Bool.{cases_Bool, true≢false}
use Rattle.std.proofs.lemmas.Bool.Decides.{Decides-int_eq}
use Rattle.models.specs.declared.operation.Name.{Name}
use Rattle.models.specs.declared.operation.Name.TheVariants.{Enqueue, Dequeue}
use Rattle.models.specs.declared.operation.Part.{Part}
use Rattle.models.specs.declared.operation.Part.TheVariants.{Int}
use Rattle.models.specs.declared.finding.Found.{Found}
use Rattle.models.specs.declared.finding.Found.TheVariants.{Item}
use Rattle.models.specs.Runs.{is_enqueue_of, is_dequeue_of}
use Rattle.values.proofs.Bags.{same_int}
use Rattle.linspec.specs.Orders.{Taken, Pairwise}
use Rattle.linspec.proofs.Filters.{filter-yes, filter-no, from_filter, to_filter, from_map, to_map}

-- an enqueue of v, and a dequeue that finds it
abbrev pub puts : ℤ → Taken → Bool
puts v x = is_enqueue_of v x.op.name x.op.part

abbrev pub takes : ℤ → Taken → Bool
takes v x = is_dequeue_of v x.op.name x.found

abbrev pub ids_of : (Taken → Bool) → List Taken → List ℕ
ids_of p order = map (λ (x : Taken). x.id) (filter p order)

pub count : (p : Taken → Bool) (x : Taken) (order : List Taken) → length (ids_of p (x ∷ order)) ≡ cond (p x) 1 0 + length (ids_of p order)
count p x order = ⊎_elim
    (λ yes. ap (λ l. length (map (λ (x : Taken). x.id) l)) (filter-yes p x order yes) ∙ (let one : cond {A = ℕ} (p x) 1 0 ≡ 1 = ap (λ b. cond b 1 0) yes in omega (arith, one)))
    (λ no. ap (λ l. length (map (λ (x : Taken). x.id) l)) (filter-no p x order no) ∙ (let none : cond {A = ℕ} (p x) 1 0 ≡ 0 = ap (λ b. cond b 1 0) no in omega (arith, none)))
    (cases_Bool (p x))

pub puts_is : (v a : ℤ) (x : Taken) → x.op.name ≡ Enqueue → x.op.part ≡ Int a → puts v x ≡ int_eq a v
puts_is v a x e f = λ i. is_enqueue_of v (e i) (f i)

pub takes_is : (v a : ℤ) (x : Taken) → x.op.name ≡ Dequeue → x.found ≡ Item a → takes v x ≡ int_eq a v
takes_is v a x e f = λ i. is_dequeue_of v (e i) (f i)

pub puts_none : (v : ℤ) (x : Taken) → x.op.name ≡ Dequeue → puts v x ≡ false
puts_none v x e = ap (λ n. is_enqueue_of v n x.op.part) e

pub takes_none : (v : ℤ) (x : Taken) → x.op.name ≡ Enqueue → takes v x ≡ false
takes_none v x e = ap (λ n. is_dequeue_of v n x.found) e

pub puts_it : (v : ℤ) (x : Taken) → x.op.name ≡ Enqueue → x.op.part ≡ Int v → puts v x ≡ true
puts_it v x e f = puts_is v v x e f ∙ same_int v v refl

pub takes_it : (v : ℤ) (x : Taken) → x.op.name ≡ Dequeue → x.found ≡ Item v → takes v x ≡ true
takes_it v x e f = takes_is v v x e f ∙ same_int v v refl

-- elements of such a list, each once
pub from_ids : (p : Taken → Bool) (order : List Taken) (id : ℕ) → Contains (ids_of p order) id → (x : Taken) × Contains order x × (p x ≡ true) × (x.id ≡ id)
from_ids p order id h =
    let r = from_map (λ (x : Taken). x.id) (filter p order) id h in
    let q = from_filter p order r.0 r.1 in
    (r.0, q.0, q.1, r.2)

pub to_ids : (p : Taken → Bool) (order : List Taken) (x : Taken) → Contains order x → p x ≡ true → Contains (ids_of p order) x.id
to_ids p order x h e = to_map (λ (x : Taken). x.id) (filter p order) x (to_filter p order x h e)

pub each_once : (xs : List Taken) → Pairwise (λ x y. x.id ≢ y.id) xs → Pairwise (λ a b. a ≢ b) (map (λ (x : Taken). x.id) xs)
each_once [] once = tt
each_once (x ∷ xs) once = (
  (λ id h e. let r = from_map (λ (x : Taken). x.id) xs id h in once.0 r.0 r.1 (e ∙ sym r.2)),
  each_once xs once.1,
)

pub named_enqueue : (v : ℤ) (name : Name) (part : Part) → is_enqueue_of v name part ≡ true → (name ≡ Enqueue) × (part ≡ Int v)
named_enqueue v Enqueue (Int w) e = (refl, ap Int ((Decides-int_eq w v).0 e))
named_enqueue v _ _ e = absurd (true≢false (sym e))

pub named_dequeue : (v : ℤ) (name : Name) (found : Found) → is_dequeue_of v name found ≡ true → (name ≡ Dequeue) × (found ≡ Item v)
named_dequeue v Dequeue (Item w) e = (refl, ap Item ((Decides-int_eq w v).0 e))
named_dequeue v _ _ e = absurd (true≢false (sym e))
