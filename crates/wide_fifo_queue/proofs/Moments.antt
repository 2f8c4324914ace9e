-- the moments of marks, and which operations precede which by them
use Rattle.std.proofs.Common.{◌≡◌, ℕ, suc, ◌+◌, ◌<◌, ◌≤◌, ◌⊎◌, inl, inr, ⊎_elim, List, [], ◌∷◌, ◌++◌, length, refl, sym, ap, ◌∙◌, subst, append_assoc, arith, length-append, get_or}
use Rattle.std.specs.List.{Contains}
use Rattle.std.proofs.lemmas.Bool.{cases_lt}
use Rattle.std.proofs.lemmas.List.{append-nil, get_or_at}
use Rattle.std.proofs.lemmas.List.Elements.{Contains-append_left, Contains-append_right, Contains-push}
use Rattle.models.specs.declared.operation.Op.{Op}
use Rattle.models.specs.declared.finding.Answer.{Answer}
use Rattle.events.specs.Events.{Mark, IsPrefixOf}
use Rattle.events.specs.Events.Mark.{Invoked, Returned}
use Rattle.linspec.specs.MarkRule.{AreWellFormed}
use Rattle.linspec.specs.Operations.{Precedes}
use Rattle.linspec.proofs.Lists.{Contains-head, cut_at, snoc_cut}
use Rattle.linspec.proofs.Filters.{two_cuts}
use Rattle.wide_fifo_queue.specs.Facts.{StandsAt}

pub stands_contains : (ms : List Mark) (n : ℕ) (m : Mark) → StandsAt ms n m → Contains ms m
stands_contains ms n m s = subst (λ l. Contains l m) s.cut (Contains-append_right s.before (m ∷ s.after) m (Contains-head m s.after))

pub stands_below : (ms : List Mark) (n : ℕ) (m : Mark) → StandsAt ms n m → n < length ms
stands_below ms n m s =
    let a : length (s.before ++ m ∷ s.after) ≡ length s.before + suc (length s.after) = length-append s.before (m ∷ s.after) in
    let b : length (s.before ++ m ∷ s.after) ≡ length ms = ap length s.cut in
    let h : length s.before ≡ n = s.here in
    omega arith

pub stands_on : (ms : List Mark) (more : List Mark) (n : ℕ) (m : Mark) → StandsAt ms n m → StandsAt (ms ++ more) n m
stands_on ms more n m s = record {
  before = s.before;
  after = s.after ++ more;
  cut = sym (append_assoc s.before (m ∷ s.after) more) ∙ ap (λ l. l ++ more) s.cut;
  here = s.here;
}

pub stands_later : (less : List Mark) (ms : List Mark) (n : ℕ) (m : Mark) → StandsAt ms n m → StandsAt (less ++ ms) (length less + n) m
stands_later less ms n m s = record {
  before = less ++ s.before;
  after = s.after;
  cut = append_assoc less s.before (m ∷ s.after) ∙ ap (λ l. less ++ l) s.cut;
  here = length-append less s.before ∙ ap (λ k. length less + k) s.here;
}

pub stands_last : (ms : List Mark) (m : Mark) → StandsAt (ms ++ m ∷ []) (length ms) m
stands_last ms m = record { before = ms; after = []; cut = refl; here = refl }

pub stands_of : (ms : List Mark) (m : Mark) → Contains ms m → (n : ℕ) × StandsAt ms n m
stands_of ms m h = let c = cut_at ms m h in (length c.0, record { before = c.0; after = c.1; cut = sym c.2; here = refl })

pub last_or_before : (ms : List Mark) (x m : Mark) (before after rest : List Mark) → m ∷ after ≡ rest ++ x ∷ [] → before ++ rest ≡ ms → ((after' : List Mark) × (before ++ m ∷ after' ≡ ms)) ⊎ ((m ≡ x) × (before ≡ ms))
last_or_before ms x m before after [] e f = inr ((let q : m ∷ after ≡ x ∷ [] = e in cc), sym (append-nil before) ∙ f)
last_or_before ms x m before after (r ∷ rest) e f = inl (rest, (let q : m ∷ after ≡ r ∷ (rest ++ x ∷ []) = e in let same : m ≡ r = cc in ap (λ z. before ++ z ∷ rest) same ∙ f))

pub stands_cases : (ms : List Mark) (x : Mark) (n : ℕ) (m : Mark) → StandsAt (ms ++ x ∷ []) n m → StandsAt ms n m ⊎ ((m ≡ x) × (n ≡ length ms))
stands_cases ms x n m s = ⊎_elim
    (λ (e : m ∷ s.after ≡ []). cc)
    (λ k. ⊎_elim
    (λ j. inl (record { before = s.before; after = j.0; cut = j.1; here = s.here }))
    (λ j. inr (j.0, sym s.here ∙ ap length j.1))
    (last_or_before ms x m s.before s.after k.0 k.1 k.2))
    (snoc_cut s.before (m ∷ s.after) ms x s.cut)

-- what stands earlier is before
pub before_it : (ms : List Mark) (n k : ℕ) (m x : Mark) (s : StandsAt ms n m) (u : StandsAt ms k x) → n < k → Contains u.before m
before_it ms n k m x s u lt = ⊎_elim
    (λ (f : IsPrefixOf u.before (s.before ++ m ∷ [])). whole f.0 f.1)
    (λ (f : IsPrefixOf (s.before ++ m ∷ []) u.before). subst (λ l. Contains l m) f.1 (Contains-append_left (s.before ++ m ∷ []) f.0 m (Contains-push s.before m)))
    (two_cuts u.before (x ∷ u.after) (s.before ++ m ∷ []) s.after (u.cut ∙ sym (append_assoc s.before (m ∷ []) s.after ∙ s.cut)))
  where
    whole : (rest : List Mark) → u.before ++ rest ≡ s.before ++ m ∷ [] → Contains u.before m
    whole [] e = subst (λ l. Contains l m) (sym (sym (append-nil u.before) ∙ e)) (Contains-push s.before m)
    whole (r ∷ rest) e =
        let a : length (u.before ++ r ∷ rest) ≡ length u.before + suc (length rest) = length-append u.before (r ∷ rest) in
        let b : length (s.before ++ m ∷ []) ≡ length s.before + 1 = length-append s.before (m ∷ []) in
        let c : length (u.before ++ r ∷ rest) ≡ length (s.before ++ m ∷ []) = ap length e in
        let h : length s.before ≡ n = s.here in
        let g : length u.before ≡ k = u.here in
        absurd (omega arith)

pub precedes_by : (ms : List Mark) (a b t n : ℕ) (answer : Answer) (op : Op) → StandsAt ms t (Returned a answer) → StandsAt ms n (Invoked b op) → t < n → Precedes ms a b
precedes_by ms a b t n answer op s u lt = record {
  before = u.before;
  after = Invoked b op ∷ u.after;
  cut = u.cut;
  returned = (answer, before_it ms t n (Returned a answer) (Invoked b op) s u lt);
  invoked = (op, Contains-head (Invoked b op) u.after);
}

module _ (ms : List Mark) (well : AreWellFormed ms) where
  returned_no_later : (a t u : ℕ) (x y : Answer) → StandsAt ms t (Returned a x) → StandsAt ms u (Returned a y) → t ≤ u
  returned_no_later a t u x y s r = ⊎_elim
      (λ (lt : u < t). absurd ((well s.before s.after (Returned a x) s.cut).not_returned (y, before_it ms u t (Returned a y) (Returned a x) r s lt)))
      (λ (le : t ≤ u). le)
      (cases_lt u t)

  invoked_no_earlier : (b n k : ℕ) (o p : Op) → StandsAt ms n (Invoked b o) → StandsAt ms k (Invoked b p) → k ≤ n
  invoked_no_earlier b n k o p s r = ⊎_elim
      (λ (lt : n < k). absurd (well r.before r.after (Invoked b p) r.cut (Invoked b o) (before_it ms n k (Invoked b o) (Invoked b p) s r lt) refl))
      (λ (le : k ≤ n). le)
      (cases_lt n k)

  pub invoked_at_once : (b n k : ℕ) (o p : Op) → StandsAt ms n (Invoked b o) → StandsAt ms k (Invoked b p) → n ≡ k
  invoked_at_once b n k o p s r =
      let i : k ≤ n = invoked_no_earlier b n k o p s r in
      let j : n ≤ k = invoked_no_earlier b k n p o r s in
      omega arith

  pub not_precedes : (a b t n : ℕ) (answer : Answer) (op : Op) → StandsAt ms t (Returned a answer) → StandsAt ms n (Invoked b op) → n ≤ t → ¬ Precedes ms a b
  not_precedes a b t n answer op s u le p =
      let r = stands_of p.before (Returned a p.returned.0) p.returned.1 in
      let i = stands_of p.after (Invoked b p.invoked.0) p.invoked.1 in
      let r' : StandsAt ms r.0 (Returned a p.returned.0) = subst (λ l. StandsAt l r.0 (Returned a p.returned.0)) p.cut (stands_on p.before p.after r.0 (Returned a p.returned.0) r.1) in
      let i' : StandsAt ms (length p.before + i.0) (Invoked b p.invoked.0) = subst (λ l. StandsAt l (length p.before + i.0) (Invoked b p.invoked.0)) p.cut (stands_later p.before p.after i.0 (Invoked b p.invoked.0) i.1) in
      let below : r.0 < length p.before = stands_below p.before r.0 (Returned a p.returned.0) r.1 in
      let x : t ≤ r.0 = returned_no_later a t r.0 answer p.returned.0 s r' in
      let y : length p.before + i.0 ≤ n = invoked_no_earlier b n (length p.before + i.0) op p.invoked.0 u i' in
      absurd (omega arith)

pub no_later : (ms : List Mark) (a b t n : ℕ) (answer : Answer) (op : Op) → StandsAt ms t (Returned a answer) → StandsAt ms n (Invoked b op) → ¬ Precedes ms a b → n ≤ t
no_later ms a b t n answer op s u none = ⊎_elim (λ (lt : t < n). absurd (none (precedes_by ms a b t n answer op s u lt))) (λ (le : n ≤ t). le) (cases_lt t n)

-- one mark stands at a moment
pub stands_once : (ms : List Mark) (n : ℕ) (m x : Mark) → StandsAt ms n m → StandsAt ms n x → m ≡ x
stands_once ms n m x s u =
    let e : get_or (s.before ++ m ∷ s.after) n m ≡ m = get_or_at s.before m s.after m n s.here in
    let f : get_or (u.before ++ x ∷ u.after) n m ≡ x = get_or_at u.before x u.after m n u.here in
    sym e ∙ ap (λ l. get_or l n m) (s.cut ∙ sym u.cut) ∙ f

pub returned_at_once : (ms : List Mark) → AreWellFormed ms → (a t u : ℕ) (x y : Answer) → StandsAt ms t (Returned a x) → StandsAt ms u (Returned a y) → t ≡ u
returned_at_once ms well a t u x y s r =
    let i : t ≤ u = returned_no_later ms well a t u x y s r in
    let j : u ≤ t = returned_no_later ms well a u t y x r s in
    omega arith
