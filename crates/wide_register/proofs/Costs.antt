-- the cost of an event
use Rattle.std.proofs.Common.{◌≡◌, ◌≢◌, ℕ, ◌+◌, ◌*◌, ◌<◌, ◌≤◌, ◌⊎◌, inl, inr, ⊎_elim, IsTrue, List, [], ◌∷◌, length, map, refl, sym, ap, subst, arith}
use Rattle.std.specs.List.{Contains}
use Rattle.std.proofs.Math.Nat.{mul-le-mul}
use Rattle.models.specs.declared.operation.Op.{Op}
use Rattle.models.specs.declared.finding.Answer.{Answer}
use Rattle.events.specs.Events.{Mark}
use Rattle.events.specs.Events.Mark.{Invoked, Returned, Failed, Crashed}
use Rattle.linspec.specs.Operations.{IsOpen}
use Rattle.linspec.specs.Orders.{Pairwise}
use Rattle.linspec.specs.Ends.{HasCrashedBy, is_no_read, is_no_read_name}
use Rattle.linspec.proofs.Counts.{no_longer_than}
use Rattle.linspec.proofs.Lists.{Contains-nil}
use Rattle.linspec.proofs.Fates.{crashed_or_not}
use Rattle.wide_register.specs.declared.calls.Call.{Call}
use Rattle.wide_register.specs.declared.calls.What.{What}
use Rattle.wide_register.specs.declared.calls.What.TheVariants.{Writes, Reads}
use Rattle.wide_register.specs.declared.next.Effect.{Effect}
use Rattle.wide_register.specs.declared.kept.Kept.{Kept}
use Rattle.wide_register.specs.Counts.{AreTries, IsCounted}
use Rattle.wide_register.specs.Facts.{AreFacts, IsCall, IsEffect}
use Rattle.judging.specs.Meaning.{HasAtMostPending, StepsOfOk}
use Rattle.wide_register.proofs.Others.{map_from}
use Rattle.wide_register.proofs.Pending.{Pairwise-map}

some_length : {X : Type 0} (xs : List X) (x : X) → Contains xs x → 1 ≤ length xs
some_length [] x h = absurd (Contains-nil x h)
some_length (y ∷ xs) x h = omega arith

module _ (k : Kept) (marks : List Mark) (f : AreFacts k marks) where
  may_change : (id : ℕ) (what : What) → IsCall marks id what → IsOpen marks id ⊎ HasCrashedBy is_no_read marks id
  may_change id Reads h = inl h.1
  may_change id (Writes v) w = ⊎_elim
      (λ c. inr (c, (w.write.0, w.write.1, subst (λ n. IsTrue (is_no_read_name n)) (sym w.write.2.0) refl)))
      (λ n. inl (record { invoked = (w.write.0, w.write.1); not_returned = w.not_returned; not_failed = w.not_failed; not_crashed = n }))
      (crashed_or_not marks id)

  pub few_calls : (n : ℕ) → HasAtMostPending marks n → length k.calls.items ≤ n
  few_calls n p =
      let ids : List ℕ = map (λ (c : Call). c.id) k.calls.items in
      let once : Pairwise (λ (i j : ℕ). i ≢ j) ids = Pairwise-map (λ (c : Call). c.id) (λ i j. i ≢ j) k.calls.items f.calls.once in
      let in_ids : (i : ℕ) → Contains ids i → Contains p.ids i = (λ i h. (let c = map_from (λ (x : Call). x.id) k.calls.items i h in
      p.each i (subst (λ z. IsOpen marks z ⊎ HasCrashedBy is_no_read marks z) c.2 (may_change c.0.id c.0.what (f.calls.is c.0 c.1))))) in
      let l : length ids ≤ length p.ids = no_longer_than ids p.ids once in_ids in
      let e : length ids ≡ length k.calls.items = length_ids k.calls.items in
      let m = p.many in
      omega arith
    where
      length_ids : (cs : List Call) → length (map (λ (c : Call). c.id) cs) ≡ length cs
      length_ids [] = refl
      length_ids (c ∷ cs) = let e = length_ids cs in grind arith

few_tries : (calls : List Call) (id : ℕ) (answer : Answer) (effect : Effect) (t : ℕ) → IsEffect calls (Returned id answer) effect → AreTries calls effect t → t ≤ length calls
few_tries calls id answer effect t d a = ⊎_elim
    (λ k. (let e : t ≡ 1 = subst (λ x. AreTries calls x t) k.3 a in let l = some_length calls k.0 k.2.0 in omega arith))
    (λ d1. ⊎_elim
    (λ k. (let e : t ≡ 0 = subst (λ x. AreTries calls x t) k.3 a in omega arith))
    (λ d2. ⊎_elim
    (λ k. subst (λ x. AreTries calls x t) k.4 a)
    (λ k. (let e : t ≡ 0 = subst (λ x. AreTries calls x t) k.0 a in omega arith))
    d2)
    d1)
    d

pub ok_cost : (budget : ℕ) (k : Kept) (id : ℕ) (answer : Answer) (before after : ℕ) → ¬ (budget < length k.rows.items) → IsCounted k (Returned id answer) before after → StepsOfOk budget (AreFacts k) before after
ok_cost budget k id answer before after few c = (
  c.grows,
  λ marks f n p.
      (let t = few_tries k.calls.items id answer c.effect c.tries c.is_effect c.are_tries in
      let l = few_calls k marks f n p in
      let rows : length k.rows.items ≤ budget + 1 = omega arith in
      let tries : c.tries ≤ n = omega arith in
      let product = mul-le-mul rows tries in
      let m = c.most in
      omega (arith, product, m)),
)

none_tried : (k : Kept) (m : Mark) (before after : ℕ) (c : IsCounted k m before after) → c.tries ≡ 0 → after ≡ before
none_tried k m before after c e =
    let m' : after ≤ before + length k.rows.items * 0 = subst (λ t. after ≤ before + length k.rows.items * t) e c.most in
    let g = c.grows in
    grind arith

pub invoke_cost : (k : Kept) (id : ℕ) (op : Op) (before after : ℕ) → IsCounted k (Invoked id op) before after → after ≡ before
invoke_cost k id op before after c = none_tried k (Invoked id op) before after c (subst (λ x. AreTries k.calls.items x c.tries) c.is_effect c.are_tries)

pub fail_cost : (k : Kept) (id : ℕ) (before after : ℕ) → IsCounted k (Failed id) before after → after ≡ before
fail_cost k id before after c = none_tried k (Failed id) before after c (subst (λ x. AreTries k.calls.items x c.tries) c.is_effect c.are_tries)

pub crash_cost : (k : Kept) (id : ℕ) (before after : ℕ) → IsCounted k (Crashed id) before after → after ≡ before
crash_cost k id before after c = none_tried k (Crashed id) before after c (⊎_elim
    (λ d. subst (λ x. AreTries k.calls.items x c.tries) d.2 c.are_tries)
    (λ d. subst (λ x. AreTries k.calls.items x c.tries) d.1 c.are_tries)
    c.is_effect)

pub most_steps : (before rows many tries steps after : ℕ) → many ≡ rows → steps ≤ many * tries → after ≤ before + steps → after ≤ before + rows * tries
most_steps before rows many tries steps after e s a = let p : many * tries ≡ rows * tries = ap (λ n. n * tries) e in omega (arith, p, s, a)
