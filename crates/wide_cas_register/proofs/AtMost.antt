-- a row is at most another one exactly if its end is
use Rattle.std.proofs.Common.{◌≡◌, ℕ, ◌<◌, ⊎_elim, true, IsTrue, List, refl, sym, ◌∙◌, subst}
use Rattle.std.specs.List.{Contains}
use Rattle.events.specs.Events.{Mark}
use Rattle.linspec.specs.Operations.{IsOpen}
use Rattle.linspec.specs.LeanEnds.{IsAtMost}
use Rattle.cas_ends.proofs.Covers.{IsUpdate}
use Rattle.cas_ends.proofs.Stands.{IsLeft}
use Rattle.wide_cas_register.specs.declared.calls.Call.{Call}
use Rattle.wide_cas_register.specs.declared.calls.What.TheVariants.{Writes, Sets}
use Rattle.wide_cas_register.specs.declared.row.Row.{Row}
use Rattle.wide_cas_register.specs.Facts.{AreCalls, IsAtMostBy, end_of}
use Rattle.wide_cas_register.proofs.Ends.{needed_from, needed_to, door_from, door_to, finds_from, finds_to}
use Rattle.wide_cas_register.proofs.Moves.{same_call}

-- of rows
pub at_most_then : (calls : List Call) (a b c : Row) → IsAtMostBy calls a b → IsAtMostBy calls b c → IsAtMostBy calls a c
at_most_then calls a b c p q = record {
  state = p.state ∙ q.state;
  needed = λ i h. p.needed i (q.needed i h);
  finds = λ f h. q.finds f (p.finds f h);
  fits = λ x h. record {
    needed = λ n o. (q.fits x h).needed ((p.fits x h).needed n o) o;
    door = λ d. (q.fits x h).door ((p.fits x h).door d, (λ n. d.1 (p.needed x.id n)), d.2);
  };
}

pub at_most_itself : (calls : List Call) (a : Row) → IsAtMostBy calls a a
at_most_itself calls a = record { state = refl; needed = λ i h. h; finds = λ f h. h; fits = λ x h. record { needed = λ n o. n; door = λ d. d.0 } }

module _ (marks : List Mark) (calls : List Call) (are : AreCalls calls marks) (row other : Row) where
  call_for : (i : ℕ) → IsOpen marks i → IsUpdate marks i → (c : Call) × Contains calls c × (c.id ≡ i)
  call_for i o u = ⊎_elim
      (λ w. (let c = are.all i (Writes w.0) (record { write = w.1; not_returned = o.not_returned; not_failed = o.not_failed }) in (c.0, c.1, c.2)))
      (λ k. (let c = are.all i (Sets k.0 k.1) (record { cas = k.2; not_returned = o.not_returned; not_failed = o.not_failed }) in (c.0, c.1, c.2)))
      u

  pub end_at_most_by : ((i : ℕ) → IsTrue ((end_of calls row).needed i) → IsUpdate marks i) → IsAtMostBy calls row other → IsAtMost marks (end_of calls row) (end_of calls other)
  end_at_most_by updates a = record {
    state = a.state;
    needed = λ i h. needed_to calls row i (a.needed i (needed_from calls other i h));
    open_ones = λ i h o.
        (let c = call_for i o (updates i h) in
        let same : c.0.id ≡ i = c.2 in
        let n : Contains row.needed.items c.0.id = subst (Contains row.needed.items) (sym same) (needed_from calls row i h) in
        let is_open : c.0.is_open ≡ true = (are.is_open c.0 c.1).1 (subst (IsOpen marks) (sym same) o) in
        needed_to calls other i (subst (Contains other.needed.items) same ((a.fits c.0 c.1).needed n is_open)));
    door = λ i h. (let k = door_from calls row i h in
        door_to calls other i (k.0, k.1, k.2, ((a.fits k.0 k.1).door k.3, (λ n. k.3.1 (a.needed k.0.id n)), k.3.2)));
    finds = λ r v h. finds_to calls other r v (a.finds (record { read = r; value = v }) (finds_from calls row r v h));
  }

  pub end_at_most : IsLeft marks (end_of calls row) → IsAtMostBy calls row other → IsAtMost marks (end_of calls row) (end_of calls other)
  end_at_most left a = end_at_most_by (λ i h. (left.2.needed i h).1) a

  pub row_at_most : IsAtMost marks (end_of calls row) (end_of calls other) → IsAtMostBy calls row other
  row_at_most a = record {
    state = a.state;
    needed = λ i h. needed_from calls row i (a.needed i (needed_to calls other i h));
    finds = λ f h. finds_from calls other f.read f.value (a.finds f.read f.value (finds_to calls row f.read f.value h));
    fits = λ c h. record {
      needed = λ n o. needed_from calls other c.id (a.open_ones c.id (needed_to calls row c.id n) ((are.is_open c h).0 o));
      door = λ d.
          (let k = door_from calls other c.id (a.door c.id (door_to calls row c.id (c, h, refl, d))) in
          subst (λ (x : Call). x.since < other.door) (same_call calls are.once k.0 c k.1 h k.2) k.3.0);
    };
  }
