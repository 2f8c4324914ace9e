-- ends that are at most another one may be left out
use Rattle.std.proofs.Common.{◌≡◌, ◌≢◌, ◌↔◌, ℕ, ℤ, inl, inr, ⊎_elim, Option, List, [], ◌∷◌, ◌++◌, length, ◌≤◌, refl, sym, ap, ◌∙◌, subst, append_assoc, arith}
use Rattle.std.proofs.lemmas.List.{append-nil}
use Rattle.std.specs.List.{Contains}
use Rattle.models.specs.Objects.{cas_register}
use Rattle.events.specs.Events.{Mark}
use Rattle.linspec.specs.MarkRule.{AreWellFormed}
use Rattle.linspec.specs.Operations.{IsOpen}
use Rattle.linspec.specs.Orders.{Taken, IsLinearizable, Pairwise}
use Rattle.linspec.proofs.Counts.{no_longer_than}
use Rattle.linspec.proofs.Lists.{Contains-nil, Contains-head, Contains-cons_cases, Pairwise-weaker}
use Rattle.linspec.specs.LeanEnds.{LeanEnd, start, IsAtMost}
use Rattle.lean_ends.proofs.Covers.{Extra}
use Rattle.lean_ends.proofs.Left.{at_most_each_other, at_most_itself}
use Rattle.linspec.specs.CasEnds.{AreLeftBy, AreLeftByAll, AreCasEnds}
use Rattle.cas_ends.proofs.Covers.{Covers}
use Rattle.cas_ends.proofs.Complete.{AreComplete, complete_after, at_first, cut_behind}
use Rattle.cas_ends.proofs.Stands.{IsLeft}
use Rattle.cas_ends.proofs.Sound.{left_after, left_at_first}

-- the greater end stands for as many orders
module _ (marks : List Mark) (e f : LeanEnd) (order : List Taken) (t : Option ℤ) (most : IsAtMost marks e f) where
  extra_open : (x : ℕ) (v : ℤ) → Extra marks f order x v → IsOpen marks x → Extra marks e order x v
  extra_open x v k o = record { is_in = k.is_in; may = k.may; free = λ n. k.free (most.open_ones x n o) }

  extra_more : (x : ℕ) (v : ℤ) → Extra marks e order x v → Extra marks f order x v
  extra_more x v k = record { is_in = k.is_in; may = k.may; free = λ n. k.free (most.needed x n) }

  pub covers_at_most : Covers marks e order t → Covers marks f order t
  covers_at_most c = record {
    needed = λ i n. c.needed i (most.needed i n);
    sets = λ y a b h s o. most.open_ones y.id (c.sets y a b h s o) o;
    how = ⊎_elim
        (λ s. inl (record {
          state = s.state ∙ most.state;
          placed = λ x v k o. most.door x (s.placed x v (extra_open x v k o) o);
          finds = λ r v m g. ⊎_elim (λ h. inl (most.finds r v h)) (λ j. inr (j.0, extra_more j.0 v j.1, most.door j.0 j.2, most.door r j.3)) (s.finds r v m g);
        }))
        (λ b. inr (record {
          last = (b.last.0, b.last.1, extra_more b.last.0 b.last.1 b.last.2, b.last.3);
          finds = λ r v m g. ⊎_elim (λ h. inl (most.finds r v h)) (λ j. inr (j.0, extra_more j.0 v j.1)) (b.finds r v m g);
        }))
        c.how;
  }

module _ (marks : List Mark) (m : Mark) (ends left : List LeanEnd) (by : AreLeftBy marks m ends left) where
  pub complete_left : AreWellFormed (marks ++ m ∷ []) → AreComplete marks (Contains ends) → AreComplete (marks ++ m ∷ []) (Contains left)
  complete_left well c order t l done =
      let k = complete_after marks (Contains ends) c m well order t l done in
      let g = by.all k.1.0 k.0 k.1.1 k.1.2 in
      (g.0, g.1, covers_at_most (marks ++ m ∷ []) k.0 g.0 order t g.2 k.2)

  pub sound_left : AreWellFormed (marks ++ m ∷ []) → ((e : LeanEnd) → Contains ends e → IsLeft marks e) → (f : LeanEnd) → Contains left f → IsLeft (marks ++ m ∷ []) f
  sound_left well s f h = let k = by.each f h in left_after marks m k.0 f well (s k.0 k.1) k.2

front : (before : List Mark) (m : Mark) (more : List Mark) → AreWellFormed (before ++ m ∷ more) → AreWellFormed (before ++ m ∷ [])
front before m more w xs ys n cut = w xs (ys ++ more) n (sym (append_assoc xs (n ∷ ys) more) ∙ ap (λ l. l ++ more) cut ∙ append_assoc before (m ∷ []) more)

complete_left_by : (before more : List Mark) (ends left : List LeanEnd) → AreWellFormed (before ++ more) → AreLeftByAll before ends more left → AreComplete before (Contains ends) → AreComplete (before ++ more) (Contains left)
complete_left_by before [] ends left well by c = subst (λ ms. AreComplete ms (Contains left)) (sym (append-nil before)) (subst (λ l. AreComplete before (Contains l)) by c)
complete_left_by before (m ∷ more) ends left well by c =
    let e : (before ++ m ∷ []) ++ more ≡ before ++ m ∷ more = append_assoc before (m ∷ []) more in
    subst (λ ms. AreComplete ms (Contains left)) e
    (complete_left_by (before ++ m ∷ []) more by.0 left (subst AreWellFormed (sym e) well) by.2 (complete_left before m ends by.0 by.1 (front before m more well) c))

sound_left_by : (before more : List Mark) (ends left : List LeanEnd) → AreWellFormed (before ++ more) → AreLeftByAll before ends more left → ((e : LeanEnd) → Contains ends e → IsLeft before e)
    → (f : LeanEnd) → Contains left f → IsLeft (before ++ more) f
sound_left_by before [] ends left well by s f h = subst (λ ms. IsLeft ms f) (sym (append-nil before)) (s f (subst (λ l. Contains l f) (sym by) h))
sound_left_by before (m ∷ more) ends left well by s f h =
    let e : (before ++ m ∷ []) ++ more ≡ before ++ m ∷ more = append_assoc before (m ∷ []) more in
    subst (λ ms. IsLeft ms f) e
    (sound_left_by (before ++ m ∷ []) more by.0 left (subst AreWellFormed (sym e) well) by.2 (sound_left before m ends by.0 by.1 (front before m more well) s) f h)

only_start : (e : LeanEnd) → Contains (start ∷ []) e → start ≡ e
only_start e h = ⊎_elim (λ q. q) (λ k. absurd (Contains-nil e k)) (Contains-cons_cases start [] e h)

pub some_is_left : (marks : List Mark) (ends : List LeanEnd) → AreWellFormed marks → AreCasEnds marks ends → IsLinearizable cas_register marks ↔ ((e : LeanEnd) × Contains ends e)
some_is_left marks ends well are = (
  (λ lin. (let o = cut_behind marks lin in
      let k = complete_left_by [] marks (start ∷ []) ends well are
      (λ order t l done. (let f = at_first order t l done in (f.0, subst (Contains (start ∷ [])) (sym f.1) (Contains-head start []), f.2)))
      o.0 o.1 o.2 o.3 in (k.0, k.1))),
  (λ k. (let o = sound_left_by [] marks (start ∷ []) ends well are (λ e h. subst (IsLeft []) (only_start e h) left_at_first) k.0 k.1 in (o.0, o.1, o.2.legal))),
)

-- each stands for an order of the history
pub are_left : (marks : List Mark) (ends : List LeanEnd) → AreWellFormed marks → AreCasEnds marks ends → (e : LeanEnd) → Contains ends e → IsLeft marks e
are_left marks ends well are e h = sound_left_by [] marks (start ∷ []) ends well are (λ f k. subst (IsLeft []) (only_start f k) left_at_first) e h

left_then_by : (before more : List Mark) (m : Mark) (ends left next : List LeanEnd) → AreLeftByAll before ends more left → AreLeftBy (before ++ more) m left next → AreLeftByAll before ends (more ++ m ∷ []) next
left_then_by before [] m ends left next by then' = (next, subst (λ l. AreLeftBy before m l next) (sym by) (subst (λ ms. AreLeftBy ms m left next) (append-nil before) then'), refl)
left_then_by before (n ∷ more) m ends left next by then' = (
  by.0,
  by.1,
  left_then_by (before ++ n ∷ []) more m by.0 left next by.2 (subst (λ ms. AreLeftBy ms m left next) (sym (append_assoc before (n ∷ []) more)) then'),
)

-- and one more mark
pub left_then : (marks : List Mark) (m : Mark) (ends next : List LeanEnd) → AreCasEnds marks ends → AreLeftBy marks m ends next → AreCasEnds (marks ++ m ∷ []) next
left_then marks m ends next are by = left_then_by [] marks m (start ∷ []) ends next are by

pub at_most_then : (marks : List Mark) (e f g : LeanEnd) → IsAtMost marks e f → IsAtMost marks f g → IsAtMost marks e g
at_most_then marks e f g a b = record {
  state = a.state ∙ b.state;
  needed = λ i n. a.needed i (b.needed i n);
  open_ones = λ i n o. b.open_ones i (a.open_ones i n o) o;
  door = λ i d. b.door i (a.door i d);
  finds = λ r w h. b.finds r w (a.finds r w h);
}

abbrev pub Apart : List Mark → LeanEnd → LeanEnd → Type 0
Apart marks e f = (¬ IsAtMost marks e f) × (¬ IsAtMost marks f e)

-- of two that stand in the list, where the one is at most the other, they are one
only_itself : (marks : List Mark) (left : List LeanEnd) → Pairwise (Apart marks) left → (e f : LeanEnd) → Contains left e → Contains left f → IsAtMost marks e f → e ≡ f
only_itself marks [] p e f h k a = absurd (Contains-nil e h)
only_itself marks (x ∷ left) p e f h k a = ⊎_elim
    (λ q. ⊎_elim
    (λ r. sym q ∙ r)
    (λ j. absurd ((p.0 f j).0 (subst (λ y. IsAtMost marks y f) (sym q) a)))
    (Contains-cons_cases x left f k))
    (λ i. ⊎_elim
    (λ r. absurd ((p.0 e i).1 (subst (IsAtMost marks e) (sym r) a)))
    (λ j. only_itself marks left p.1 e f i j a)
    (Contains-cons_cases x left f k))
    (Contains-cons_cases x left e h)

-- the ends that a mark leaves do not depend on how the same ends are listed
within : (marks : List Mark) (m : Mark) (ends others left these : List LeanEnd) → ((e : LeanEnd) → Contains ends e → Contains others e) → ((e : LeanEnd) → Contains others e → Contains ends e)
    → AreLeftBy marks m ends left → AreLeftBy marks m others these → (f : LeanEnd) → Contains left f → Contains these f
within marks m ends others left these to from a b f h =
    let k = a.each f h in
    let g = b.all k.0 f (to k.0 k.1) k.2 in
    let j = b.each g.0 g.1 in
    let i = a.all j.0 g.0 (from j.0 j.1) j.2 in
    let up : IsAtMost (marks ++ m ∷ []) f i.0 = at_most_then (marks ++ m ∷ []) f g.0 i.0 g.2 i.2 in
    let same : f ≡ i.0 = only_itself (marks ++ m ∷ []) left a.apart f i.0 h i.1 up in
    let one : f ≡ g.0 = at_most_each_other (marks ++ m ∷ []) f g.0 g.2 (subst (IsAtMost (marks ++ m ∷ []) g.0) (sym same) i.2) in
    subst (Contains these) (sym one) g.1

within_by : (before more : List Mark) (ends others left these : List LeanEnd) → ((e : LeanEnd) → Contains ends e → Contains others e) → ((e : LeanEnd) → Contains others e → Contains ends e)
    → AreLeftByAll before ends more left → AreLeftByAll before others more these → (f : LeanEnd) → Contains left f → Contains these f
within_by before [] ends others left these to from a b f h = subst (λ l. Contains l f) b (to f (subst (λ l. Contains l f) (sym a) h))
within_by before (m ∷ more) ends others left these to from a b f h =
    within_by (before ++ m ∷ []) more a.0 b.0 left these
    (within before m ends others a.0 b.0 to from a.1 b.1)
    (within before m others ends b.0 a.0 from to b.1 a.1)
    a.2 b.2 f h

pub once_by : (before more : List Mark) (ends left : List LeanEnd) → Pairwise (λ e f. e ≢ f) ends → AreLeftByAll before ends more left → Pairwise (λ e f. e ≢ f) left
once_by before [] ends left p by = subst (Pairwise (λ e f. e ≢ f)) by p
once_by before (m ∷ more) ends left p by = once_by (before ++ m ∷ []) more by.0 left
    (Pairwise-weaker (Apart (before ++ m ∷ [])) (λ e f. e ≢ f) by.0 (λ e f h k n q. n.0 (subst (IsAtMost (before ++ m ∷ []) e) q (at_most_itself (before ++ m ∷ []) e))) by.1.apart)
    by.2

pub one_start : Pairwise (λ (e f : LeanEnd). e ≢ f) (start ∷ [])
one_start = ((λ y h. absurd (Contains-nil y h)), tt)

-- the same ends, however they are found
pub same_ends : (marks : List Mark) (ends others : List LeanEnd) → AreCasEnds marks ends → AreCasEnds marks others → (e : LeanEnd) → Contains ends e → Contains others e
same_ends marks ends others a b = within_by [] marks (start ∷ []) (start ∷ []) ends others (λ e h. h) (λ e h. h) a b

pub as_many : (marks : List Mark) (ends others : List LeanEnd) → AreCasEnds marks ends → AreCasEnds marks others → length ends ≡ length others
as_many marks ends others a b =
    let x : length ends ≤ length others = no_longer_than ends others (once_by [] marks (start ∷ []) ends one_start a) (same_ends marks ends others a b) in
    let y : length others ≤ length ends = no_longer_than others ends (once_by [] marks (start ∷ []) others one_start b) (same_ends marks others ends b a) in
    omega arith
