-- The kept parts of a history, before any event and after one more
use Rattle.std.proofs.Common.{◌≡◌, ◌≢◌, ℕ, ◌+◌, ◌^◌, ◌<◌, Option, Some, None, List, [], ◌∷◌, ◌++◌, length, slice_get, slice_set, refl, sym, ap, ◌∙◌, subst, length-append, ⊎_elim, ◌⊎◌, inl, inr, arith}
use Rattle.std.proofs.lemmas.Bool.{cases_eq}
use Rattle.std.proofs.lemmas.Option.{slice_get-get_or, get_or_from_slice_get, slice_get_within}
use Rattle.std.proofs.lemmas.List.{length-set, get_or-set_same, get_or-set_other}
use Rattle.std.proofs.Math.Nat.{mod-lt}
use Rattle.models.specs.declared.operation.Op.{Op}
use Rattle.processes.specs.declared.threads.Thread.{Thread}
use Rattle.processes.specs.MoveRule.{thread_of, MayMove, FollowMoveRule}
use Rattle.processes.specs.Threads.{StandAfter}
use Rattle.events.specs.declared.event.EventKind.{EventKind}
use Rattle.events.specs.declared.event.EventKind.TheVariants.{Info}
use Rattle.events.specs.declared.event.Process.{Process}
use Rattle.events.specs.declared.event.Process.TheVariants.{Client, Nemesis}
use Rattle.events.specs.declared.event.Body.{Body}
use Rattle.events.specs.declared.event.Body.TheVariants.{Op as AnOp, Fault as AFault}
use Rattle.events.specs.declared.event.Event.{Event}
use Rattle.history.specs.WellFormed.{IsConcurrency, IsWellFormed, IsHistoryOf, move_by, moves_of, open_index}
use Rattle.history.specs.HistoryInvariant.{open_after, MovesOn, HasNext, IsSoundHistory}
use Rattle.history.proofs.Appending.{moves_of-some, moves_of-none}
use Rattle.history.proofs.Keeping.{by_client, by_nemesis, may_move, has_next, own_open, other_open, nemesis_open}

no_more : {X : Type 0} (xs ys : List X) → xs ++ ys ≡ [] → ys ≡ []
no_more [] ys h = h
no_more (x ∷ xs) ys h = cc

-- a list that ends with e, cut before an element f: f is e and ends it, or the cut is one of the list without e
snoc_cut : {X : Type 0} (before after xs : List X) (e f : X) → xs ++ e ∷ [] ≡ before ++ f ∷ after → ((f ≡ e) × (before ≡ xs)) ⊎ ((rest : List X) × (xs ≡ before ++ f ∷ rest))
snoc_cut [] after [] e f h = inl ((let q : e ≡ f = cc in sym q), refl)
snoc_cut [] after (x ∷ xs) e f h = inr (xs, (let q : x ≡ f = cc in ap (λ y. y ∷ xs) q))
snoc_cut (b ∷ before) after [] e f h = (let none : [] ≡ before ++ f ∷ after = cc in let last : f ∷ after ≡ [] = no_more before (f ∷ after) (sym none) in cc)
snoc_cut (b ∷ before) after (x ∷ xs) e f h =
    (let heads : x ≡ b = cc in let tails : xs ++ e ∷ [] ≡ before ++ f ∷ after = cc in
    ⊎_elim
    (λ s. inl (s.0, (let q : before ≡ xs = s.1 in cc)))
    (λ s. inr (s.0, (let q : xs ≡ before ++ f ∷ s.0 = s.1 in cc)))
    (snoc_cut before after xs e f tails))

history-nil : (c : ℕ) → IsHistoryOf c []
history-nil c before after e h = (let last : e ∷ after ≡ [] = no_more before (e ∷ after) (sym h) in cc)

pub history-push : (c : ℕ) (events : List Event) (e : Event) → IsHistoryOf c events → IsWellFormed c events e → IsHistoryOf c (events ++ e ∷ [])
history-push c events e h well before after f cut =
    ⊎_elim
    (λ s. subst (IsWellFormed c before) (sym s.0) (subst (λ l. IsWellFormed c l e) (sym s.1) well))
    (λ s. h before s.0 f s.1)
    (snoc_cut before after events e f cut)

-- an element after a write
get_set_same : {X : Type 0} (xs : List X) (i : ℕ) (v x : X) → slice_get xs i ≡ Some x → slice_get (slice_set xs i v) i ≡ Some v
get_set_same xs i v x h =
    (let within : i < length xs = slice_get_within xs i x h in let len : length (slice_set xs i v) ≡ length xs = length-set xs i v in
    slice_get-get_or (slice_set xs i v) i v (omega arith) ∙ ap Some (get_or-set_same xs i v v within))

get_set_other : {X : Type 0} (xs : List X) (i j : ℕ) (v x : X) → j ≢ i → slice_get xs j ≡ Some x → slice_get (slice_set xs i v) j ≡ Some x
get_set_other xs i j v x ne h =
    (let within : j < length xs = slice_get_within xs j x h in let len : length (slice_set xs i v) ≡ length xs = length-set xs i v in
    slice_get-get_or (slice_set xs i v) j x (omega arith) ∙ ap Some (get_or-set_other xs i j v x ne ∙ get_or_from_slice_get xs j x x h))

abbrev OpensAre : ℕ → List Event → List (Option ℕ) → Type 0
OpensAre c events opened = (t : ℕ) → t < c → slice_get opened t ≡ Some (open_index c events t)

client_opens : (c : ℕ) (events : List Event) (index : Option ℕ) (kind : EventKind) (p : ℕ) (op : Op) (opened later : List (Option ℕ)) → 0 < c → FollowMoveRule c (moves_of events) → OpensAre c events opened
    → IsWellFormed c events (by_client index kind p op) → later ≡ slice_set opened (thread_of c p) (open_after (length events) kind) → OpensAre c (events ++ by_client index kind p op ∷ []) later
client_opens c events index kind p op opened later pos rule are well is t h =
    ap (λ l. slice_get l t) is ∙ ⊎_elim
    (λ same. ap (slice_get after) same ∙ get_set_same opened (thread_of c p) (open_after (length events) kind) (open_index c events (thread_of c p)) (are (thread_of c p) (mod-lt p pos))
    ∙ ap Some (sym (own_open c events index kind p op pos rule well)) ∙ ap (λ u. Some (open_index c (events ++ by_client index kind p op ∷ []) u)) (sym same))
    (λ ne. get_set_other opened (thread_of c p) t (open_after (length events) kind) (open_index c events t) ne (are t h) ∙ ap Some (sym (other_open c events index kind p op t h (λ q. ne (sym q)))))
    (cases_eq t (thread_of c p))
  where
    after : List (Option ℕ)
    after = slice_set opened (thread_of c p) (open_after (length events) kind)

abbrev Stands : ℕ → List Event → List Thread → List (Option ℕ) → Type 0
Stands c events threads opened = (length threads ≡ c) × StandAfter threads (moves_of events) × (length opened ≡ c) × OpensAre c events opened

client_stands : (c : ℕ) (events : List Event) (index : Option ℕ) (kind : EventKind) (p : ℕ) (op : Op) (threads threads' : List Thread) (opened later : List (Option ℕ)) → 0 < c → Stands c events threads opened
    → IsWellFormed c events (by_client index kind p op) → MovesOn (length events) kind (Client p) threads threads' opened later → Stands c (events ++ by_client index kind p op ∷ []) threads' later
client_stands c events index kind p op threads threads' opened later pos kept well moves = (
  moves.0.0 ∙ kept.0,
  subst (StandAfter threads') (sym (moves_of-some events (by_client index kind p op) (move_by kind p) refl))
      (moves.0.1 (moves_of events) kept.1 (subst (λ k. MayMove k (moves_of events) (move_by kind p)) (sym kept.0) (may_move c events index kind p op well))),
  ap length is ∙ length-set opened (thread_of c p) (open_after (length events) kind) ∙ kept.2,
  client_opens c events index kind p op opened later pos (subst (λ k. FollowMoveRule k (moves_of events)) kept.0 kept.1.rule) kept.3 well is,
)
  where
    is : later ≡ slice_set opened (thread_of c p) (open_after (length events) kind)
    is = moves.1 ∙ ap (λ k. slice_set opened (thread_of k p) (open_after (length events) kind)) kept.2

nemesis_stands : (c : ℕ) (events : List Event) (index : Option ℕ) (body : Body) (threads threads' : List Thread) (opened later : List (Option ℕ)) → Stands c events threads opened → threads' ≡ threads → later ≡ opened
    → Stands c (events ++ by_nemesis index body ∷ []) threads' later
nemesis_stands c events index body threads threads' opened later kept same still = (
  ap length same ∙ kept.0,
  subst (λ l. StandAfter l (moves_of (events ++ by_nemesis index body ∷ []))) (sym same) (subst (StandAfter threads) (sym (moves_of-none events (by_nemesis index body) refl)) kept.1),
  ap length still ∙ kept.2,
  λ t h. ap (λ l. slice_get l t) still ∙ kept.3 t h ∙ ap Some (sym (nemesis_open c events index body t)),
)

-- threads, and what they have open, after one more event
step : (c : ℕ) (events : List Event) (index : Option ℕ) (kind : EventKind) (process : Process) (body : Body) (threads threads' : List Thread) (opened later : List (Option ℕ)) → 0 < c → Stands c events threads opened
    → IsWellFormed c events (record { index = index; kind = kind; process = process; body = body }) → MovesOn (length events) kind process threads threads' opened later
    → Stands c (events ++ record { index = index; kind = kind; process = process; body = body } ∷ []) threads' later
step c events index kind (Client p) (AnOp op) threads threads' opened later pos kept well moves = client_stands c events index kind p op threads threads' opened later pos kept well moves
step c events index Info Nemesis (AFault fault) threads threads' opened later pos kept well moves = nemesis_stands c events index (AFault fault) threads threads' opened later kept moves.0 moves.1
step c events index _ _ _ threads threads' opened later pos kept well moves = absurd well.0

-- one more event
pub kept_after : (c : ℕ) (events : List Event) (threads threads' : List Thread) (opened later : List (Option ℕ)) (e : Event) → IsSoundHistory c events threads opened → IsWellFormed c events e
    → MovesOn (length events) e.kind e.process threads threads' opened later → IsSoundHistory c (events ++ e ∷ []) threads' later
kept_after c events threads threads' opened later e kept well moves = record {
  concurrency = kept.concurrency;
  history = history-push c events e kept.history well;
  limit = (let more : length (events ++ e ∷ []) ≡ length events + 1 = length-append events (e ∷ []) in let room : length events < 2 ^ 20 = well.2 in omega arith);
  number = after.0;
  stand = after.1;
  opens = after.2;
  opens_are = after.3;
}
  where
    after : Stands c (events ++ e ∷ []) threads' later
    after = step c events e.index e.kind e.process e.body threads threads' opened later (let limits : IsConcurrency c = kept.concurrency in omega arith) (kept.number, kept.stand, kept.opens, kept.opens_are) well moves

-- no event
pub kept_at_first : (c : ℕ) (threads : List Thread) (opened : List (Option ℕ)) → IsConcurrency c → length threads ≡ c → StandAfter threads [] → length opened ≡ c → ((t : ℕ) → t < c → slice_get opened t ≡ Some None) → IsSoundHistory c [] threads opened
kept_at_first c threads opened limits number stand opens are = record {
  concurrency = limits;
  history = history-nil c;
  limit = omega arith;
  number = number;
  stand = stand;
  opens = opens;
  opens_are = are;
}

-- the process of a well-formed event has a next one
pub next_of : (c : ℕ) (events : List Event) (threads : List Thread) (opened : List (Option ℕ)) (e : Event) → IsSoundHistory c events threads opened → IsWellFormed c events e → HasNext e.process
next_of c events threads opened e kept well =
    (let limits : IsConcurrency c = kept.concurrency in
    has_next c events e (omega arith) (omega arith) kept.limit (subst (λ k. FollowMoveRule k (moves_of events)) kept.number kept.stand.rule) well)

-- a prepared event, appended
pub committed : (c : ℕ) (events events' : List Event) (threads threads' : List Thread) (opened later : List (Option ℕ)) (n : ℕ) (e : Event) → IsSoundHistory c events threads opened → IsWellFormed c events e → n ≡ length events
    → MovesOn n e.kind e.process threads threads' opened later → events' ≡ events ++ e ∷ [] → IsSoundHistory c events' threads' later
committed c events events' threads threads' opened later n e kept well index moves more =
    subst (λ l. IsSoundHistory c l threads' later) (sym more)
    (kept_after c events threads threads' opened later e kept well (subst (λ k. MovesOn k e.kind e.process threads threads' opened later) index moves))
