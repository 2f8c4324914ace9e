-- what an event costs
use Rattle.std.proofs.Common.{◌≡◌, ◌≢◌, ℕ, ◌+◌, ◌*◌, ◌≤◌, ◌⊎◌, inl, inr, ⊎_elim, IsTrue, List, [], ◌∷◌, length, map, refl, sym, subst, arith}
use Rattle.std.specs.List.{Contains}
use Rattle.std.proofs.Math.Nat.{mul-le-mul}
use Rattle.events.specs.Events.{Mark}
use Rattle.linspec.specs.Operations.{IsOpen}
use Rattle.linspec.specs.Orders.{Pairwise}
use Rattle.linspec.specs.Ends.{HasCrashedBy, is_no_read, is_no_read_name}
use Rattle.linspec.proofs.Counts.{no_longer_than}
use Rattle.linspec.proofs.Fates.{crashed_or_not}
use Rattle.wide_cas_register.specs.declared.calls.Call.{Call}
use Rattle.wide_cas_register.specs.declared.calls.What.{What}
use Rattle.wide_cas_register.specs.declared.calls.What.TheVariants.{Writes, Sets, Reads}
use Rattle.wide_cas_register.specs.declared.kept.Kept.{Kept}
use Rattle.wide_cas_register.specs.Counts.{IsCounted}
use Rattle.wide_cas_register.specs.Facts.{AreFacts, IsCall}
use Rattle.judging.specs.Meaning.{HasAtMostPending, StepsOfOk}
use Rattle.wide_cas_register.proofs.Others.{map_from}
use Rattle.wide_cas_register.proofs.Pending.{Pairwise-map}

module _ (k : Kept) (marks : List Mark) (f : AreFacts k marks) where
  may_change : (id : ℕ) (what : What) → IsCall marks id what → IsOpen marks id ⊎ HasCrashedBy is_no_read marks id
  may_change id Reads h = inl h.1
  may_change id (Writes v) w = ⊎_elim
      (λ c. inr (c, (w.write.0, w.write.1, subst (λ n. IsTrue (is_no_read_name n)) (sym w.write.2.0) refl)))
      (λ n. inl (record { invoked = (w.write.0, w.write.1); not_returned = w.not_returned; not_failed = w.not_failed; not_crashed = n }))
      (crashed_or_not marks id)
  may_change id (Sets a b) w = ⊎_elim
      (λ c. inr (c, (w.cas.0, w.cas.1, subst (λ n. IsTrue (is_no_read_name n)) (sym w.cas.2.0) refl)))
      (λ n. inl (record { invoked = (w.cas.0, w.cas.1); not_returned = w.not_returned; not_failed = w.not_failed; not_crashed = n }))
      (crashed_or_not marks id)

  pub few_calls : (n : ℕ) → HasAtMostPending marks n → length k.calls.items ≤ n
  few_calls n p =
      let ids : List ℕ = map (λ (c : Call). c.id) k.calls.items in
      let once : Pairwise (λ (i j : ℕ). i ≢ j) ids = Pairwise-map (λ (c : Call). c.id) (λ i j. i ≢ j) k.calls.items f.calls.once in
      let in_ids : (i : ℕ) → Contains ids i → Contains p.ids i = (λ i h. (let c = map_from (λ (x : Call). x.id) k.calls.items i h in
      p.each i (subst (λ z. IsOpen marks z ⊎ HasCrashedBy is_no_read marks z) c.2 (may_change c.0.id c.0.what (f.calls.is c.0 c.1))))) in
      let l : length ids ≤ length p.ids = no_longer_than ids p.ids once in_ids in
      let e : length ids ≡ length k.calls.items = length_ids k.calls.items in
      let m = p.many in
      omega arith
    where
      length_ids : (cs : List Call) → length (map (λ (c : Call). c.id) cs) ≡ length cs
      length_ids [] = refl
      length_ids (c ∷ cs) = let e = length_ids cs in grind arith

pub ok_cost : (budget tried : ℕ) (k : Kept) (before after : ℕ) → tried ≤ budget → IsCounted k.calls.items tried before after → StepsOfOk budget (AreFacts k) before after
ok_cost budget tried k before after few c = (
  c.grows,
  λ marks f n p.
      (let l = few_calls k marks f n p in
      let most : tried ≤ budget + 1 = omega arith in
      let product = mul-le-mul most l in
      let m = c.most in
      omega (arith, product, m)),
)

-- none is tried at another event
pub none_cost : (k : Kept) (tried before after : ℕ) → tried ≡ 0 → IsCounted k.calls.items tried before after → after ≡ before
none_cost k tried before after none c =
    let m : after ≤ before + 0 * length k.calls.items = subst (λ t. after ≤ before + t * length k.calls.items) none c.most in
    let g = c.grows in
    grind arith
