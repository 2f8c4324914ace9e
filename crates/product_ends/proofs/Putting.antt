-- a widened product that is put with those whose rows say ends that are reached
use Rattle.std.proofs.Common.{◌≡◌, ⊎_elim, ℕ, zero, suc, ◌+◌, ◌-◌, ◌<◌, Some, List, [], ◌∷◌, length, slice_get, get_or, set, drop, refl, sym, ap, ◌∙◌, subst, arith}
use Rattle.std.specs.List.{slice_range}
use Rattle.std.proofs.lemmas.List.{set-get_or}
use Rattle.std.proofs.lemmas.Option.{get_or_from_slice_get, none-some, slice_get-get_or}
use Rattle.models.specs.declared.operation.Op.{Op}
use Rattle.models.specs.declared.finding.Found.{Found}
use Rattle.models.specs.Objects.{Object, of_table}
use Rattle.interner.proofs.Lists.{get_taken, one_of, some_at}
use Rattle.linspec.specs.Ends.{End}
use Rattle.moves.specs.declared.pending_op.PendingOp.{PendingOp}
use Rattle.moves.specs.declared.table.Table.{Table}
use Rattle.moves.specs.Tables.{HasEachOnce, Shows, Widens}
use Rattle.moves.proofs.Showing.{shows_more}
use Rattle.products.specs.Products.{Has, IsIn, IsInAt, IsInOne, Product, Puts}
use Rattle.product_ends.specs.declared.transitions.Transition.{Transition}
use Rattle.product_ends.specs.declared.transitions.Transition.TheVariants.{To}
use Rattle.product_ends.specs.declared.transitions.Transitions.{Transitions}
use Rattle.product_ends.specs.Transitions.{AreTransitions, AreStays, IsTransition, IsTried, transition_at, order_in, stay_at}
use Rattle.product_ends.specs.Growing.{Gains, HoldReached, SaysReached, SayReached, StaysReached}
use Rattle.product_ends.specs.Widening.{AreWidened, TakesIn, TakesOne}
use Rattle.product_ends.proofs.Stepping.{led_reached}
use Rattle.product_ends.proofs.Widening.{widened_from}

-- ---- the known transitions of a state, and the answers that stay in it

get_dropped : {X : Type 0} (xs : List X) (n i : ℕ) (x : X) → slice_get (drop n xs) i ≡ Some x → slice_get xs (n + i) ≡ Some x
get_dropped xs zero i x h = let same : i ≡ 0 + i = omega arith in subst (λ k. slice_get xs k ≡ Some x) same h
get_dropped [] (suc n) i x h = absurd (none-some x h)
get_dropped (y ∷ xs) (suc n) i x h =
    let same : suc (n + i) ≡ suc n + i = omega arith in
    subst (λ k. slice_get (y ∷ xs) k ≡ Some x) same (get_dropped xs n i x h)

get_ranged : {X : Type 0} (xs : List X) (order n i : ℕ) (x : X) → slice_get (slice_range xs order (order + n)) i ≡ Some x → slice_get xs (order + i) ≡ Some x
get_ranged xs order n i x is = get_dropped xs order i x (get_taken (drop order xs) (order + n - order) i x is)

-- the transitions of the state with this number, as they are looked up, and what stays in it
abbrev pub AreThose : {S : Type 0} → Transitions S → ℕ → ℕ → List Transition → Type 0
AreThose d number calls those = (order : ℕ) × (order_in d number ≡ order + 1)
    × (those ≡ slice_range d.transitions.items order (order + calls)) × (length those ≡ calls)

abbrev pub AreStaying : {S : Type 0} → Transitions S → ℕ → ℕ → List ℕ → Type 0
AreStaying d number calls those = (order : ℕ) × (order_in d number ≡ order + 1)
    × (those ≡ slice_range d.stays.items order (order + calls)) × (length those ≡ calls)

-- the transition of the call in the state with this number is its transition in the state of an end whose row has this number
done_in : {S : Type 0} (t : Table S) (calls : List PendingOp) (outcomes : S → List (S × Found)) (number : ℕ) (c : PendingOp) (transition : Transition) → ((s : S) × (slice_get t.states number ≡ Some s) × IsTransition t c (outcomes s) transition)
    → (row : List ℕ) (e : End S) → Shows t calls row e → get_or row 0 0 ≡ number → IsTransition t c (outcomes e.state) transition
done_in t calls outcomes number c transition x row e shows first =
    let same : x.0 ≡ e.state = one_of x.0 e.state (sym x.1 ∙ ap (slice_get t.states) (sym first) ∙ shows.state) in
    subst (λ s. IsTransition t c (outcomes s) transition) same x.2

module _ {S : Type 0} (apply : Op → S → List (S × Found)) (t : Table S) (calls : List PendingOp) (d : Transitions S) (known : AreTransitions apply t calls d)
    (number n : ℕ) where
  -- a transition is what the call does in the state of an end
  pub transition_of : (those : List Transition) → AreThose d number n those → (row : List ℕ) (e : End S) → Shows t calls row e → get_or row 0 0 ≡ number
      → (i : ℕ) (c : PendingOp) (transition : Transition) → slice_get calls i ≡ Some c → slice_get those i ≡ Some transition → IsTransition t c (apply c.op e.state) transition
  transition_of those are row e shows first i c transition here is =
      done_in t calls (apply c.op) number c transition
      (known number are.0 i c transition are.1 here (get_ranged d.transitions.items are.0 n i transition (subst (λ l. slice_get l i ≡ Some transition) are.2 is)))
      row e shows first

  -- and so is what stays
  stay_of : (those : List ℕ) → AreStays d n → AreStaying d number n those → (row : List ℕ) (e : End S) → Shows t calls row e → get_or row 0 0 ≡ number
      → (i slot : ℕ) (c : PendingOp) → i < n → slice_get calls i ≡ Some c → Has (get_or those i 0) slot → IsTransition t c (apply c.op e.state) (To number (get_or those i 0))
  stay_of those stay are row e shows first i slot c lt here has =
      let found = get_or those i 0 in
      let long = are.3 in
      let got : slice_get those i ≡ Some found = slice_get-get_or those i 0 (omega (arith, lt, long)) in
      let same : stay_at d are.0 i ≡ found = get_or_from_slice_get d.stays.items (are.0 + i) found 0 (get_ranged d.stays.items are.0 n i found (subst (λ l. slice_get l i ≡ Some found) are.2 got)) in
      let transition : transition_at d are.0 i ≡ Some (To number found) = subst (λ k. transition_at d are.0 i ≡ Some (To number k)) same (stay.each number are.0 i slot are.1 lt (subst (λ k. Has k slot) (sym same) has)) in
      done_in t calls (apply c.op) number c (To number found) (known number are.0 i c (To number found) are.1 here transition) row e shows first

-- ---- rows that become of others by calls that leave the state

module _ (S : Type 0) (start : S) (apply : Op → S → List (S × Found)) (t : Table S) (calls : List PendingOp) (once : HasEachOnce calls) (d : Transitions S) (known : AreTransitions apply t calls d)
    (stay : AreStays d (length calls)) (number : ℕ) (those : List ℕ) (are : AreStaying d number (length calls) those) (ends : List (End S)) where
  abbrev object : Object
  object = of_table S start apply

  one_reached : (old new : List ℕ) → TakesOne number those old new → SaysReached object t calls ends old → SaysReached object t calls ends new
  one_reached old new one says =
      let e = says.0 in
      let lt : one.at < length calls = (let l = says.1.long in let w = one.within in omega (arith, l, w)) in
      let c = some_at calls one.at lt in
      let found = get_or those one.at 0 in
      let transition : IsTransition t c.0 (apply c.0.op e.state) (To number found) = stay_of apply t calls d known number (length calls) those stay are old e says.1 one.first one.at one.slot c.0 lt c.1 one.has in
      let same : set old 0 number ≡ old = ap (set old 0) (sym one.first) ∙ set-get_or old 0 0 in
      subst (SaysReached object t calls ends) (ap (λ l. set l (one.at + 1) one.slot) same ∙ sym one.made)
      (led_reached S start apply t calls once old e says.1 one.at c.0 c.1 number found one.slot transition one.has ends says.2 one.zero_there)

  many_reached : (n : ℕ) (old new : List ℕ) → TakesIn (TakesOne number those) n old new → SaysReached object t calls ends old → SaysReached object t calls ends new
  many_reached zero old new is says = subst (SaysReached object t calls ends) is says
  many_reached (suc n) old new is says = one_reached is.0 new is.2 (many_reached n old is.0 is.1 says)

  pub widened_reached : (base next : List ℕ) → AreWidened those base next → SayReached object t calls ends (number, base) → SayReached object t calls ends (number, next)
  widened_reached base next are_wide say row is =
      let from = widened_from number those base next are_wide row is in
      many_reached from.2 from.0 row from.3 (say from.0 from.1)

-- ---- tables that widen

module _ (o : Object) (t u : Table o.State) (calls : List PendingOp) (ends : List (End o.State)) (wide : Widens t u) where
  pub says_still : (row : List ℕ) → SaysReached o t calls ends row → SaysReached o u calls ends row
  says_still row says = (says.0, shows_more calls t u row says.0 wide says.1, says.2)

  pub hold_still : (products : List Product) → HoldReached o t calls ends products → HoldReached o u calls ends products
  hold_still products hold = record {
    states_once = wide.states_once hold.states_once;
    founds_once = wide.founds_once hold.founds_once;
    each = λ row is. says_still row (hold.each row is);
  }

-- ---- one product more

module _ (o : Object) (t : Table o.State) (calls : List PendingOp) (start : List (End o.State)) (product : Product) (products : List Product) where
  either : SayReached o t calls start product → HoldReached o t calls start products → (at : ℕ) (row : List ℕ) → IsInAt (product ∷ products) at row → SaysReached o t calls start row
  either say hold zero row is = say row (subst (λ p. IsIn p row) (sym (one_of product is.0 is.1)) is.2)
  either say hold (suc at) row is = hold.each row (at, is)

  pub hold_with : SayReached o t calls start product → HoldReached o t calls start products → HoldReached o t calls start (product ∷ products)
  hold_with say hold = record {
    states_once = hold.states_once;
    founds_once = hold.founds_once;
    each = λ row is. either say hold is.0 row is.1;
  }

  pub hold_rest : HoldReached o t calls start (product ∷ products) → HoldReached o t calls start products
  hold_rest hold = record {
    states_once = hold.states_once;
    founds_once = hold.founds_once;
    each = λ row is. hold.each row (suc is.0, is.1);
  }

  pub say_first : HoldReached o t calls start (product ∷ products) → SayReached o t calls start product
  say_first hold row is = hold.each row (0, (product, refl, is))

-- where the source is one of these products, and is put with others as the target
pub put_itself : (o : Object) (t u v : Table o.State) (calls : List PendingOp) (kept mid new : List Product) (at : ℕ) (product target : Product) → Widens t u → target ≡ product
    → slice_get kept at ≡ Some product → StaysReached o t u calls kept mid → StaysReached o u v calls (target ∷ mid) new → StaysReached o t v calls kept new
put_itself o t u v calls kept mid new at product target wide same there before after once start hold =
    after once start
    (subst (λ p. HoldReached o u calls start (p ∷ mid)) (sym same)
    (hold_with o u calls start product mid (λ row is. says_still o t u calls start wide row (hold.each row (at, (product, there, is)))) (before once start hold)))

-- ---- what is put

pub first_of : (product : Product) (row : List ℕ) → IsIn product row → product.0 ≡ get_or row 0 0
first_of product [] is = absurd is
first_of product (n ∷ row) is = sym is.0

module _ (number from : ℕ) (next : List ℕ) (old new : List Product) (puts : Puts (number, next) from old new) where
  pub put_gains : Gains from old new
  put_gains = record { front = puts.front; long = puts.long; kept = λ row is. (is.0, puts.kept is.0 row is.1) }

  pub put_tried : {S : Type 0} (d : Transitions S) → ((row : List ℕ) → IsInOne old row → IsTried d (get_or row 0 0)) → IsTried d number → (row : List ℕ) → IsInOne new row → IsTried d (get_or row 0 0)
  put_tried d tried now row is =
      ⊎_elim (λ was. tried row (is.0, was)) (λ here. subst (IsTried d) (first_of (number, next) row here) now) (puts.only is.0 row is.1)

  pub put_reached : (o : Object) (t : Table o.State) (calls : List PendingOp) (ends : List (End o.State)) → HoldReached o t calls ends old → SayReached o t calls ends (number, next) → HoldReached o t calls ends new
  put_reached o t calls ends hold say = record {
    states_once = hold.states_once;
    founds_once = hold.founds_once;
    each = λ row is. ⊎_elim (λ was. hold.each row (is.0, was)) (λ here. say row here) (puts.only is.0 row is.1);
  }
