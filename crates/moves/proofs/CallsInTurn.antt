-- a list whose elements are changed in turn
use Rattle.std.proofs.Common.{◌≡◌, ◌≢◌, ℕ, ◌+◌, ◌<◌, true, List, [], ◌∷◌, ◌++◌, map, length, get_or, set, take, drop, sym, ap, ◌∙◌, arith, append_assoc}
use Rattle.std.proofs.lemmas.Bool.{eq-eqb, ne_eqb}
use Rattle.std.proofs.lemmas.List.{drop_more, set_at, get_or_at, map_more, length-map, length-take-le}
use Rattle.moves.specs.declared.pending_op.PendingOp.{PendingOp}
use Rattle.moves.specs.EndSteps.{crash_call}

module _ {X : Type 0} (f : X → X) (ys xs : List X) (i : ℕ) (x : X) (so_far : xs ≡ map f (take i ys) ++ drop i ys) (within : i < length ys) (here : x ≡ get_or xs i x) where
  long : length (map f (take i ys)) ≡ i
  long = length-map (take i ys) f ∙ length-take-le i ys (omega arith)

  split : xs ≡ map f (take i ys) ++ get_or ys i x ∷ drop (i + 1) ys
  split = so_far ∙ ap (λ l. map f (take i ys) ++ l) (drop_more ys i x within)

  is : x ≡ get_or ys i x
  is = here ∙ ap (λ l. get_or l i x) split ∙ get_or_at (map f (take i ys)) (get_or ys i x) (drop (i + 1) ys) x i long

  pub changed_more : (now : List X) → now ≡ set xs i (f x) → now ≡ map f (take (i + 1) ys) ++ drop (i + 1) ys
  changed_more now e =
      e ∙ ap (λ l. set l i (f x)) split
      ∙ set_at (map f (take i ys)) (get_or ys i x) (drop (i + 1) ys) (f x) i long
      ∙ ap (λ y. map f (take i ys) ++ f y ∷ drop (i + 1) ys) is
      ∙ sym (append_assoc (map f (take i ys)) (f (get_or ys i x) ∷ []) (drop (i + 1) ys))
      ∙ ap (λ l. l ++ drop (i + 1) ys) (sym (map_more f ys i x within))

pub crash_call-same : (call : PendingOp) (id : ℕ) → call.id ≡ id → ◌≡◌ {A = PendingOp} (record { id = call.id; op = call.op; crashed = true }) (crash_call id call)
crash_call-same call id e = rw (eq-eqb call.id id e)

pub crash_call-other : (call : PendingOp) (id : ℕ) → call.id ≢ id → crash_call id call ≡ call
crash_call-other call id ne = rw (ne_eqb call.id id ne)
