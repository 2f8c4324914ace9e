-- Whether each thread is idle
use Rattle.std.proofs.Common.{◌≡◌, ℕ, zero, suc, ◌+◌, ◌<◌, Bool, true, false, not, Option, is_some, List, [], ◌∷◌, ◌++◌, length, take, refl, sym, ap, ◌∙◌, arith}
use Rattle.std.proofs.Math.ListN.{set}
use Rattle.std.proofs.lemmas.List.{take_more_set}
use Rattle.events.specs.declared.event.Event.{Event}
use Rattle.history.specs.WellFormed.{open_index}
use Rattle.machine.specs.Machine.{idle_from}

-- one thread more
idle_more : (c : ℕ) (events : List Event) (t n k : ℕ) → k ≡ t + n → idle_from c events t (suc n) ≡ idle_from c events t n ++ not (is_some (open_index c events k)) ∷ []
idle_more c events t zero k is = (let same : k ≡ t = omega arith in ap (λ (j : ℕ). not (is_some (open_index c events j)) ∷ []) (sym same))
idle_more c events t (suc n) k is = ap (λ l. not (is_some (open_index c events t)) ∷ l) (idle_more c events (t + 1) n k (omega arith))

pub flags_more : (c : ℕ) (events : List Event) (flags : List Bool) (t : ℕ) (b : Bool) → t < length flags → b ≡ not (is_some (open_index c events t)) → take t flags ≡ idle_from c events 0 t
    → take (t + 1) (set flags t b) ≡ idle_from c events 0 (t + 1)
flags_more c events flags t b l is before =
    take_more_set flags t b l
    ∙ ap (λ (x : Bool). take t flags ++ x ∷ []) is
    ∙ ap (λ (xs : List Bool). xs ++ not (is_some (open_index c events t)) ∷ []) before
    ∙ sym (idle_more c events 0 t t (omega arith))
    ∙ ap (λ (n : ℕ). idle_from c events 0 n) (let e : suc t ≡ t + 1 = omega arith in e)

twice : (b : Bool) → b ≡ not (not b)
twice true = refl
twice false = refl

-- a thread is idle where it has no open operation
pub idle_by : (o opened : Option ℕ) (b : Bool) → o ≡ opened → is_some o ≡ not b → b ≡ not (is_some opened)
idle_by o opened b is h = twice b ∙ ap not (sym h) ∙ ap (λ (x : Option ℕ). not (is_some x)) is
