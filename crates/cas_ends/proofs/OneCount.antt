-- the fronts do not depend on how they are found
use Rattle.std.proofs.Common.{◌≡◌, ◌≢◌, ℕ, ⊎_elim, List, [], ◌∷◌, ◌++◌, length, map, ◌<◌, ◌≤◌, sym, ap, ◌∙◌, subst, arith}
use Rattle.std.specs.List.{Contains}
use Rattle.std.proofs.lemmas.List.Elements.{Contains-append_left, Contains-append_right, Contains-append_cases}
use Rattle.models.specs.Objects.{cas_register}
use Rattle.events.specs.Events.{Mark}
use Rattle.linspec.specs.Orders.{IsLinearizable, Pairwise}
use Rattle.linspec.proofs.Counts.{no_longer_than}
use Rattle.linspec.proofs.Lists.{Contains-nil, Contains-head, Contains-cons_cases, Pairwise-append, Pairwise-weaker}
use Rattle.linspec.specs.LeanEnds.{LeanEnd, start}
use Rattle.linspec.specs.CasEnds.{AreCasEnds, Front, IsLess, IsLayer, AreLayers, stays, AreSomeFronts, AreFronts, HasMoreFronts}
use Rattle.cas_ends.proofs.Left.{same_ends, some_is_left, once_by, one_start}
use Rattle.cas_ends.proofs.Layers.{less_itself, less_then, less_each_other, there_still, stays_there, stays_of}

abbrev Apart : List Mark → Front → Front → Type 0
Apart marks e f = (¬ IsLess marks e f) × (¬ IsLess marks f e)

-- of two that stand in the list, where the one is less than the other, they are one
only_itself : (marks : List Mark) (next : List Front) → Pairwise (Apart marks) next → (e f : Front) → Contains next e → Contains next f → IsLess marks e f → e ≡ f
only_itself marks [] p e f h k a = absurd (Contains-nil e h)
only_itself marks (x ∷ next) p e f h k a = ⊎_elim
    (λ q. ⊎_elim
    (λ r. sym q ∙ r)
    (λ j. absurd ((p.0 f j).0 (subst (λ y. IsLess marks y f) (sym q) a)))
    (Contains-cons_cases x next f k))
    (λ i. ⊎_elim
    (λ r. absurd ((p.0 e i).1 (subst (IsLess marks e) (sym r) a)))
    (λ j. only_itself marks next p.1 e f i j a)
    (Contains-cons_cases x next f k))
    (Contains-cons_cases x next e h)

abbrev AreWithin : List Front → List Front → Type 0
AreWithin xs ys = (f : Front) → Contains xs f → Contains ys f

-- the next layer of the same fronts
module _ (marks : List Mark) (there layer next these those then : List Front) (a : IsLayer marks there layer next) (b : IsLayer marks these those then)
    (to : AreWithin layer those) (from : AreWithin those layer) (back : AreWithin these there) where
  next_within : AreWithin next then
  next_within f h =
      let k = a.each f h in
      let g = b.all k.0 f (to k.0 k.1) k.2 in
      let at : Contains then g.0 = ⊎_elim (λ j. absurd (a.new f g.0 h (back g.0 j) g.2)) (λ j. j) (Contains-append_cases these then g.0 g.1) in
      let j = b.each g.0 at in
      let i = a.all j.0 g.0 (from j.0 j.1) j.2 in
      let less : IsLess marks f i.0 = less_then marks f g.0 i.0 g.2 i.2 in
      let here : Contains next i.0 = ⊎_elim (λ m. absurd (a.new f i.0 h m less)) (λ m. m) (Contains-append_cases there next i.0 i.1) in
      let same : f ≡ i.0 = only_itself marks next a.apart f i.0 h here less in
      let one : f ≡ g.0 = less_each_other marks f g.0 g.2 (subst (IsLess marks g.0) (sym same) i.2) in
      subst (Contains then) (sym one) at

append_within : (xs ys zs ws : List Front) → AreWithin xs zs → AreWithin ys ws → AreWithin (xs ++ ys) (zs ++ ws)
append_within xs ys zs ws a b f h = ⊎_elim (λ k. Contains-append_left zs ws f (a f k)) (λ k. Contains-append_right zs ws f (b f k)) (Contains-append_cases xs ys f h)

-- nothing comes of nothing
abbrev IsNone : List Front → Type 0
IsNone xs = (f : Front) → ¬ Contains xs f

empty_on : (marks : List Mark) (there layer : List Front) (layers : List (List Front)) (fronts last : List Front) → IsNone layer → AreLayers marks there layer layers fronts last → AreWithin fronts there
empty_on marks there layer [] fronts last none a f h = subst (λ l. Contains l f) (sym a.0) h
empty_on marks there layer (next ∷ more) fronts last none a f h =
    let no : IsNone next = λ g k. (let e = a.0.each g k in none e.0 e.1) in
    ⊎_elim (λ k. k) (λ k. absurd (no f k)) (Contains-append_cases there next f (empty_on marks (there ++ next) next more fronts last no a.1 f h))

-- the fronts in some layers are among all of them
fronts_within : (marks : List Mark) (there layer : List Front) (layers : List (List Front)) (fronts last these those : List Front) (others : List (List Front)) (found end : List Front)
    → AreLayers marks there layer layers fronts last → AreLayers marks these those others found end → IsLayer marks found end []
    → AreWithin there these → AreWithin these there → AreWithin layer those → AreWithin those layer → AreWithin fronts found
fronts_within marks there layer [] fronts last these those others found end a b none to back out in' f h =
    there_still marks these those others found end b f (to f (subst (λ l. Contains l f) (sym a.0) h))
fronts_within marks there layer (next ∷ more) fronts last these those [] found end a b none to back out in' f h =
    let at : IsLayer marks these those [] = subst (λ l. IsLayer marks l those []) (sym b.0) (subst (λ l. IsLayer marks found l []) (sym b.1) none) in
    let no : IsNone next = λ g k.
    (let e = a.0.each g k in
    let m = at.all e.0 g (out e.0 e.1) e.2 in
    ⊎_elim (λ j. a.0.new g m.0 k (back m.0 j) m.2) (λ j. Contains-nil m.0 j) (Contains-append_cases these [] m.0 m.1)) in
    let k = empty_on marks (there ++ next) next more fronts last no a.1 f h in
    subst (λ l. Contains l f) b.0 (to f (⊎_elim (λ j. j) (λ j. absurd (no f j)) (Contains-append_cases there next f k)))
fronts_within marks there layer (next ∷ more) fronts last these those (then ∷ others) found end a b none to back out in' f h =
    let forth = next_within marks there layer next these those then a.0 b.0 out in' back in
    let home = next_within marks these those then there layer next b.0 a.0 in' out to in
    fronts_within marks (there ++ next) next more fronts last (these ++ then) then others found end a.1 b.1 none
    (append_within there next these then to forth) (append_within these then there next back home) forth home f h

stays_within : (ends others : List LeanEnd) → ((e : LeanEnd) → Contains ends e → Contains others e) → AreWithin (map stays ends) (map stays others)
stays_within ends others to f h = let r = stays_of ends f h in subst (Contains (map stays others)) r.2 (stays_there others r.0 (to r.0 r.1))

-- each once
stays_once : (ends : List LeanEnd) → Pairwise (λ e f. e ≢ f) ends → Pairwise (λ e f. e ≢ f) (map stays ends)
stays_once [] p = tt
stays_once (x ∷ ends) p = ((λ f h q. (let r = stays_of ends f h in p.0 r.0 r.1 (ap (λ (g : Front). g.end) (q ∙ sym r.2)))), stays_once ends p.1)

layers_once : (marks : List Mark) (there layer : List Front) (layers : List (List Front)) (fronts last : List Front) → Pairwise (λ e f. e ≢ f) there → AreLayers marks there layer layers fronts last → Pairwise (λ e f. e ≢ f) fronts
layers_once marks there layer [] fronts last p a = subst (Pairwise (λ e f. e ≢ f)) a.0 p
layers_once marks there layer (next ∷ more) fronts last p a = layers_once marks (there ++ next) next more fronts last
    (Pairwise-append (λ e f. e ≢ f) there next p
    (Pairwise-weaker (Apart marks) (λ e f. e ≢ f) next (λ e f h k n q. n.0 (subst (IsLess marks e) q (less_itself marks e))) a.0.apart)
    (λ e f h k q. a.0.new f e k h (subst (IsLess marks f) (sym q) (less_itself marks f))))
    a.1

-- the fronts in some layers are at most as many as all of them
pub no_more : (marks : List Mark) (ends others : List LeanEnd) (fronts last found : List Front) → AreCasEnds marks ends → AreCasEnds marks others → AreSomeFronts marks ends fronts last → AreFronts marks others found
    → length fronts ≤ length found
no_more marks ends others fronts last found a b f g =
    let first : List Front = map stays ends in
    let second : List Front = map stays others in
    let to : AreWithin first second = stays_within ends others (same_ends marks ends others a b) in
    let back : AreWithin second first = stays_within others ends (same_ends marks others ends b a) in
    no_longer_than fronts found
    (layers_once marks first first f.layers fronts last (stays_once ends (once_by [] marks (start ∷ []) ends one_start a)) f.are)
    (fronts_within marks first first f.layers fronts last second second g.1.layers found g.0 f.are g.1.are g.2 to back to back)

pub as_many_fronts : (marks : List Mark) (ends others : List LeanEnd) (fronts found : List Front) → AreCasEnds marks ends → AreCasEnds marks others → AreFronts marks ends fronts → AreFronts marks others found → length fronts ≡ length found
as_many_fronts marks ends others fronts found a b f g =
    let x : length fronts ≤ length found = no_more marks ends others fronts f.0 found a b f.1 g in
    let y : length found ≤ length fronts = no_more marks others ends found g.0 fronts b a g.1 f in
    omega arith

-- more than n are counted exactly if there are more than n in all
pub more_if_more : (marks : List Mark) (n : ℕ) (ends : List LeanEnd) (fronts : List Front) → AreCasEnds marks ends → AreFronts marks ends fronts → HasMoreFronts marks n → n < length fronts
more_if_more marks n ends fronts a f h =
    let x : length h.fronts ≤ length fronts = no_more marks h.ends ends h.fronts h.last fronts h.are a h.some f in
    let m : n < length h.fronts = h.many in
    omega arith

-- something is counted only for a history that has a legal order, so a dead key is never over budget
pub counted_order : (marks : List Mark) (n : ℕ) → HasMoreFronts marks n → IsLinearizable cas_register marks
counted_order marks n h = by_ends h.ends h.are h.some
  where
    by_none : (fronts : List Front) → AreWithin fronts [] → n < length fronts → IsLinearizable cas_register marks
    by_none [] none many = absurd (omega arith)
    by_none (f ∷ fronts) none many = absurd (Contains-nil f (none f (Contains-head f fronts)))

    by_ends : (ends : List LeanEnd) → AreCasEnds marks ends → AreSomeFronts marks ends h.fronts h.last → IsLinearizable cas_register marks
    by_ends [] are walked = by_none h.fronts (empty_on marks [] [] walked.layers h.fronts h.last (λ f k. Contains-nil f k) walked.are) h.many
    by_ends (e ∷ ends) are walked = (some_is_left marks (e ∷ ends) h.well are).1 (e, Contains-head e ends)
