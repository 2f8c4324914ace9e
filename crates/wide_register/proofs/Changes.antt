-- what is kept once a change is carried out
use Rattle.std.proofs.Common.{◌≡◌, ℕ, ◌+◌, ⊎_elim, Option, Some, None, List, [], ◌∷◌, refl, sym, subst}
use Rattle.std.specs.Global.{Vec}
use Rattle.std.specs.List.{Contains}
use Rattle.events.specs.Events.{Mark}
use Rattle.linspec.proofs.Lists.{Contains-head, Contains-cons_cases, Contains-nil, Pairwise-weaker}
use Rattle.wide_register.specs.declared.calls.Call.{Call}
use Rattle.wide_register.specs.declared.next.Effect.TheVariants.{Keeps}
use Rattle.wide_register.specs.declared.row.Row.{Row}
use Rattle.wide_register.specs.declared.kept.Kept.{Kept}
use Rattle.wide_register.specs.declared.kept.Change.{Change}
use Rattle.wide_register.specs.Facts.{AreApart, AreChanged, FindTheSame, HasLeastGaps, IsAfter, IsAtMostBy, IsSame, calls_after, changed, moments_of, rows_of}
use Rattle.wide_register.proofs.AtMost.{at_most_itself}
use Rattle.wide_register.proofs.Trimming.{of_moments, to_moments}

same_itself : (r : Row) → IsSame r r
same_itself r = record { state = refl; needed = refl; door = refl; passed = refl }

-- rows that are at most one another under more operations are so under these
at_most_with_less : (calls later : List Call) → ((c : Call) → Contains calls c → Contains later c) → (a b : Row) → IsAtMostBy later a b → IsAtMostBy calls a b
at_most_with_less calls later to a b m = record { state = m.state; needed = m.needed; passed = m.passed; fits = λ c h. m.fits c (to c h) }

still_apart : (calls later : List Call) → ((c : Call) → Contains calls c → Contains later c) → (rows : List Row) → AreApart calls rows → AreApart later rows
still_apart calls later to rows p = Pairwise-weaker
    (λ a b. (¬ IsAtMostBy calls a b) × (¬ IsAtMostBy calls b a))
    (λ a b. (¬ IsAtMostBy later a b) × (¬ IsAtMostBy later b a))
    rows
    (λ a b h j n. ((λ m. n.0 (at_most_with_less calls later to a b m)), (λ m. n.1 (at_most_with_less calls later to b a m))))
    p

finds_itself : (moments : List ℕ) (r : Row) → FindTheSame moments r r
finds_itself moments r = record { state = refl; needed = refl; door = refl; finds = λ v t h. ((λ k. k), (λ k. k)) }

still_least : (calls later : List Call) → ((c : Call) → Contains calls c → Contains later c) → (r : Row) → HasLeastGaps (moments_of calls) r → HasLeastGaps (moments_of later) r
still_least calls later to r h p g =
    let l = h p g in
    let c = of_moments calls l.1.0 l.1.1 in
    (l.0, (l.1.0, subst (Contains (moments_of later)) c.3 (to_moments later c.0 (to c.0 c.1) c.2), l.1.2))

pub is_after : (m : Mark) (k : Kept) (c : Change) → c.moment ≡ k.moment + 1 → c.calls.items ≡ calls_after k.calls.items k.moment m → AreChanged m k c.calls.items c.rows → IsAfter m k (changed c k)
is_after m k c moment calls h = by_rows c.rows refl
  where
    by_rows : (rows : Option (Vec Row)) → c.rows ≡ rows → IsAfter m k (changed c k)
    by_rows None e =
        let a = subst (AreChanged m k c.calls.items) e h in
        let same : rows_of c.rows k.rows ≡ k.rows = (λ t. rows_of (e t) k.rows) in
        record {
          moment = moment;
          calls = calls;
          effect = Keeps;
          is_effect = a.0;
          each = λ r g. (r, subst (λ (v : Vec Row). Contains v.items r) same g, r, same_itself r, finds_itself (moments_of c.calls.items) r);
          all = λ row g. (
            row ∷ [],
            (row, Contains-head row [], same_itself row),
            λ r i. (
              r,
              finds_itself (moments_of c.calls.items) r,
              (r, subst (λ (v : Vec Row). Contains v.items r) (sym same) (subst (Contains k.rows.items) (alone row r i) g), at_most_itself c.calls.items r),
            ),
          );
          apart = λ p. subst (λ (v : Vec Row). AreApart c.calls.items v.items) (sym same) (still_apart k.calls.items c.calls.items a.1 k.rows.items p);
          gaps = λ p r g. still_least k.calls.items c.calls.items a.1 r (p r (subst (λ (v : Vec Row). Contains v.items r) same g));
        }
      where
        alone : (row r : Row) → Contains (row ∷ []) r → row ≡ r
        alone row r i = ⊎_elim (λ q. q) (λ n. absurd (Contains-nil r n)) (Contains-cons_cases row [] r i)
    by_rows (Some rows) e =
        let a = subst (AreChanged m k c.calls.items) e h in
        subst (λ (o : Option (Vec Row)). IsAfter m k (record { moment = c.moment; calls = c.calls; rows = rows_of o k.rows })) (sym e) (record {
          moment = moment;
          calls = calls;
          effect = a.0;
          is_effect = a.1;
          each = a.2.each;
          all = a.2.all;
          apart = λ p. a.2.apart;
          gaps = λ p. a.2.gaps;
        })
