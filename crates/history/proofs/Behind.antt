-- The event that stands behind those that are committed
use Rattle.std.proofs.Common.{◌≡◌, ℕ, ◌+◌, Option, None, List, [], ◌∷◌, ◌++◌, length, take, sym, ap, ◌∙◌, subst, length-append, arith}
use Rattle.std.proofs.lemmas.List.{take_all, take-append-le}
use Rattle.processes.specs.declared.threads.Thread.{Thread}
use Rattle.events.specs.declared.event.Event.{Event}
use Rattle.history.specs.declared.history.Prepared.{Prepared}
use Rattle.history.specs.declared.history.Prepared.TheVariants.{Nothing, Push, Cut}
use Rattle.history.specs.WellFormed.{IsWellFormed, IsHistoryOf}
use Rattle.history.specs.HistoryInvariant.{IsSoundHistory, IsReady, brought}
use Rattle.history.proofs.Kept.{history-push}

-- where nothing is prepared, there is none
pub none_behind : (c n : ℕ) (events : List Event) (prepared : Prepared) → brought events prepared ≡ None → IsReady c n events prepared → length events ≡ n
none_behind c n events Nothing h ready = ready
none_behind c n events Push h ready = cc
none_behind c n events (Cut k clients) h ready = cc

-- one that comes there leaves those that are committed as they are
pub take_behind : (n : ℕ) (events : List Event) (e : Event) → length events ≡ n → take n (events ++ e ∷ []) ≡ take n events
take_behind n events e len = take-append-le n events (e ∷ []) (omega arith)

pub ready_push : (c n : ℕ) (events events' : List Event) (threads : List Thread) (opened : List (Option ℕ)) (e : Event) → IsSoundHistory c (take n events) threads opened → length events ≡ n → IsWellFormed c (take n events) e
    → events' ≡ events ++ e ∷ [] → IsSoundHistory c (take n events') threads opened × IsReady c n events' Push
ready_push c n events events' threads opened e sound len well more = (
  subst (λ l. IsSoundHistory c l threads opened) (sym (ap (take n) more ∙ take_behind n events e len)) sound,
  (
    (let one : length (events ++ e ∷ []) ≡ length events + 1 = length-append events (e ∷ []) in let same : length events' ≡ length (events ++ e ∷ []) = ap length more in omega arith),
    subst (IsHistoryOf c) (sym more) (history-push c events e (subst (IsHistoryOf c) all sound.history) (subst (λ l. IsWellFormed c l e) all well)),
  ),
)
  where
    all : take n events ≡ events
    all = take_all n events (omega arith)
