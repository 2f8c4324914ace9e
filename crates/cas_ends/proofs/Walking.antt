-- from an end that stands for an order a walk leads to one that stands for it with pending operations behind
use Rattle.std.proofs.Common.{◌≡◌, ◌≢◌, ℕ, ℤ, inl, inr, ⊎_elim, Bool, true, false, IsTrue, Option, None, List, [], ◌∷◌, ◌++◌, refl, sym, ◌∙◌, subst, append_assoc, append-nil}
use Rattle.std.specs.List.{Contains}
use Rattle.std.proofs.lemmas.List.Elements.{Contains-append_right}
use Rattle.models.specs.Objects.{cas_register}
use Rattle.events.specs.Events.{Mark}
use Rattle.events.specs.Events.Mark.{Invoked}
use Rattle.linspec.specs.MarkRule.{AreWellFormed}
use Rattle.linspec.specs.Operations.{HasReturned}
use Rattle.linspec.specs.Orders.{Taken, Includes, Run, IsLegalOrder}
use Rattle.linspec.proofs.Lists.{Contains-head, Contains-tail, Pairwise-across}
use Rattle.linspec.proofs.Marks.{Run-append}
use Rattle.linspec.specs.LeanEnds.{MayWrite, LeanEnd}
use Rattle.lean_ends.proofs.Makes.{some_behind}
use Rattle.linspec.specs.CasEnds.{MayCas, SetsBehind, WritesBehind, WalksBy, Walks}
use Rattle.cas_ends.proofs.Steps.{step_view}
use Rattle.cas_ends.proofs.Makes.{some_set}
use Rattle.cas_ends.proofs.Covers.{CoversSame, Covers}
use Rattle.cas_ends.proofs.Puts.{same_behind, covers_put}
use Rattle.cas_ends.proofs.Pushes.{covers_read, covers_hidden, covers_set}

-- walks that follow each other
pub walks_append : (marks : List Mark) (e f g : LeanEnd) (h k l : Bool) (xs ys : List ℕ) → WalksBy marks e h xs f k → WalksBy marks f k ys g l → WalksBy marks e h (xs ++ ys) g l
walks_append marks e f g h k l [] ys a b = subst (λ d. WalksBy marks d h ys g l) (sym a.0) (subst (λ m. WalksBy marks f m ys g l) (sym a.1) b)
walks_append marks e f g h k l (x ∷ xs) ys a b = (
  a.0,
  ⊎_elim
      (λ c. inl (c.0, walks_append marks a.0 f g false k l xs ys c.1 b))
      (λ c. inr (c.0, c.1, walks_append marks a.0 f g true k l xs ys c.2 b))
      a.1,
)

pub stay : (marks : List Mark) (e : LeanEnd) → Walks marks e e false
stay marks e = ([], (refl, refl))

-- one more cas, or write, behind a walk
pub then_sets : (marks : List Mark) (e d g : LeanEnd) (x : ℕ) (w : Bool) → Walks marks e d w → SetsBehind marks d x g → Walks marks e g false
then_sets marks e d g x w walk set = (walk.0 ++ x ∷ [], walks_append marks e d g false w false walk.0 (x ∷ []) walk.1 (g, inl (set, (refl, refl))))

pub then_writes : (marks : List Mark) (e d g : LeanEnd) (x : ℕ) → Walks marks e d false → WritesBehind marks d x g → Walks marks e g true
then_writes marks e d g x walk write = (walk.0 ++ x ∷ [], walks_append marks e d g false false true walk.0 (x ∷ []) walk.1 (g, inr (refl, write, (refl, refl))))

-- where writes were left out behind, the last of them takes place
pub record Settled (marks : List Mark) (e : LeanEnd) (p : List Taken) (u : Option ℤ) : Type 0 where
  pub end : LeanEnd
  pub writes : Bool
  pub walk : Walks marks e end writes
  pub covers : Covers marks end p u
  pub same : CoversSame marks end p u

module _ (marks : List Mark) (well : AreWellFormed marks) where
  pub settled : (e : LeanEnd) (p : List Taken) (u : Option ℤ) → Covers marks e p u → Settled marks e p u
  settled e p u c = ⊎_elim
      (λ s. record { end = e; writes = false; walk = stay marks e; covers = c; same = s })
      (λ b.
      let x : ℕ = b.last.0 in
      let v : ℤ = b.last.1 in
      let k = b.last.2 in
      let g = some_behind marks well e x v in
      let s = same_behind marks well e g.0 p u x v k c g.1 b refl in record {
        end = g.0;
        writes = true;
        walk = then_writes marks e e g.0 x (stay marks e) (k.free, (v, k.may, g.1));
        covers = covers_put marks well e g.0 p u x v k c g.1 (inl s);
        same = s;
      })
      c.how

  abbrev pub Walked : LeanEnd → List Taken → Option ℤ → Type 0
  Walked e order t = (g : LeanEnd) × Walks marks e g false × Covers marks g order t

  pub along : (q p : List Taken) (e : LeanEnd) (u t : Option ℤ) → Covers marks e p u → Run cas_register None p u → Run cas_register u q t
      → IsLegalOrder cas_register marks (p ++ q) t → ((y : Taken) → Contains q y → ¬ HasReturned marks y.id) → Walked e (p ++ q) t
  along [] p e u t c run_p run_q l pending = (e, stay marks e, subst (λ o. Covers marks e o t) (sym (append-nil p)) (subst (Covers marks e p) run_q c))
  along (y ∷ q) p e u t c run_p run_q l pending =
      let again : (g : LeanEnd) → Covers marks g (p ++ y ∷ []) mid → Walked g ((p ++ y ∷ []) ++ q) t = λ g cov. along q (p ++ y ∷ []) g mid t cov (Run-append cas_register None u mid p (y ∷ []) run_p (mid, run_q.1, refl)) run_q.2
      (subst (λ o. IsLegalOrder cas_register marks o t) (sym assoc) l) (λ z h. pending z (Contains-tail y q z h)) in
      ⊎_elim
      (λ r. on again e (stay marks e) (covers_read marks well e p y u mid run_p run_q.1 invoked not_in c (r.0, r.1) r.2))
      (λ o. ⊎_elim
      (λ w.
      let may : MayWrite marks y.id w.0 = record { write = (y.op, invoked, (w.1, w.2)); not_returned = first; not_failed = l.none_failed y here } in
      on again e (stay marks e) (covers_hidden marks well e p y u mid run_p run_q.1 invoked not_in c w.0 may (w.1, w.2) w.3))
      (λ k.
      let may : MayCas marks y.id k.0 k.1 = record { cas = (y.op, invoked, (k.2, k.3)); not_returned = first; not_failed = l.none_failed y here } in
      let d = settled e p u c in
      let g = some_set marks well d.end y.id k.0 k.1 (sym d.same.state ∙ k.4) in
      let free : ¬ IsTrue (d.end.needed y.id) = λ n. not_in (d.covers.needed y.id n).0 in
      on again g.0 (then_sets marks e d.end g.0 y.id d.writes d.walk (free, (k.0, k.1, may, g.1)))
      (covers_set marks well d.end p y u mid run_p run_q.1 invoked not_in d.covers k.0 k.1 may k.5 d.same g.0 g.1))
      o)
      (step_view y.op u mid y.found run_q.1)
    where
      mid : Option ℤ
      mid = run_q.0

      here : Contains (p ++ y ∷ q) y
      here = Contains-append_right p (y ∷ q) y (Contains-head y q)

      invoked : Contains marks (Invoked y.id y.op)
      invoked = l.invoked y here

      first : ¬ HasReturned marks y.id
      first = pending y (Contains-head y q)

      not_in : ¬ Includes p y.id
      not_in h = Pairwise-across (λ a b. a.id ≢ b.id) p (y ∷ q) l.once h.0 y h.1 (Contains-head y q) h.2

      assoc : (p ++ y ∷ []) ++ q ≡ p ++ y ∷ q
      assoc = append_assoc p (y ∷ []) q

      -- the rest of them, from an end that stands for the order with this one
      on : ((g : LeanEnd) → Covers marks g (p ++ y ∷ []) mid → Walked g ((p ++ y ∷ []) ++ q) t) → (g : LeanEnd) → Walks marks e g false → Covers marks g (p ++ y ∷ []) mid → Walked e (p ++ y ∷ q) t
      on again g walk cov =
          let more = again g cov in (
            more.0,
            (walk.0 ++ more.1.0, walks_append marks e g more.0 false false false walk.0 more.1.0 walk.1 more.1.1),
            subst (λ o. Covers marks more.0 o t) assoc more.2,
          )
