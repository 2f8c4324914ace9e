-- the invariant of a line if its prepared change is carried out, dropped or replaced
use Rattle.std.proofs.Common.{◌≡◌, ℕ, ◌/◌, ◌<◌, ◌≤◌, Option, Some, None, option_map, List, [], ◌∷◌, ◌++◌, length, take, sym, ap, ◌∙◌, subst, arith}
use Rattle.std.proofs.lemmas.List.{take_all, take-map, map-append}
use Rattle.std.specs.declared.boxed.Box.{Box}
use Rattle.std.specs.Global.{Global}
use Rattle.kinds.specs.declared.model_kind.ModelKind.{ModelKind}
use Rattle.events.specs.declared.event.Event.{Event}
use Rattle.events.specs.Events.{entries_of}
use Rattle.events.specs.ProcessRule.{IsHistory}
use Rattle.linspec.specs.declared.verdict.KeyStatus.{KeyStatus}
use Rattle.linspec.specs.Verdicts.{IsKeyStatus}
use Rattle.checkpoints.specs.declared.key_state.KeyState.{KeyState}
use Rattle.checkpoints.specs.declared.key_state.KeyState.TheVariants.{Alive, Dead, Over}
use Rattle.checkpoints.specs.declared.key_line.Change.{Change}
use Rattle.checkpoints.specs.declared.key_line.Prepared.{Prepared}
use Rattle.checkpoints.specs.declared.key_line.Prepared.TheVariants.{Push, Change as ToChange}
use Rattle.checkpoints.specs.declared.ghost_events.GhostEvents.{GhostEvents}
use Rattle.checkpoints.specs.declared.next.Next.{Next}
use Rattle.checkpoints.specs.declared.next.Next.TheVariants.{Stays, Goes, Dies, Blows, Becomes}
use Rattle.checkpoints.specs.KeyState.{IsKeyState, status_of}
use Rattle.checkpoints.specs.Next.{IsNext, status_by}
use Rattle.linspec.specs.KeyHistory.{KeyHistory, IsStatusOf, events_below, with_pushed, cut_at, judged_by}
use Rattle.checkpoints.specs.KeyLineView.{KeyLineView}
use Rattle.checkpoints.specs.Borrowed.{AreBorrowedBy, places_of}
use Rattle.checkpoints.specs.Saved.{AreSaved}
use Rattle.checkpoints.specs.Saves.{saved_by}
use Rattle.checkpoints.specs.SoundLine.{brought, replays_of, IsJudged, IsBrought, IsReady, IsSoundLine}
use Rattle.checkpoints.proofs.Judging.{status_is}
use Rattle.checkpoints.proofs.Cutting.{IsHistory-take, length-places}
use Rattle.checkpoints.proofs.SavedStates.{AreSaved-take}

-- the status of a state is that of the events that it was judged by
pub status_right : (kind : ModelKind) (budget : ℕ) (events : List (ℕ × Event)) (state : KeyState) → IsKeyState kind budget events state → (s : KeyStatus) → s ≡ status_of state → IsKeyStatus kind budget (entries_of events) s
status_right kind budget events state stands s is = subst (IsKeyStatus kind budget (entries_of events)) (sym is) (status_is kind budget events state stands)

-- the status of a state after a change is that of the events that it is judged by then
pub next_right : (kind : ModelKind) (budget : ℕ) (events : List (ℕ × Event)) (state : KeyState) (next : Next) → IsNext kind budget events state next → (s : KeyStatus) → s ≡ status_by state next → IsKeyStatus kind budget (entries_of events) s
next_right kind budget events state Stays is s eq = status_right kind budget events state is s eq
next_right kind budget events (Alive live) Goes is s eq = subst (IsKeyStatus kind budget (entries_of events)) (sym eq) is.0
next_right kind budget events (Dead i) Goes is s eq = absurd is
next_right kind budget events (Over i) Goes is s eq = absurd is
next_right kind budget events state (Dies i) is s eq = status_right kind budget events (Dead i) is s eq
next_right kind budget events state (Blows i) is s eq = status_right kind budget events (Over i) is s eq
next_right kind budget events state (Becomes other) is s eq = status_right kind budget events other.value is s eq

-- all of the places, and one more
all_and : (events : List (ℕ × Event)) (places : List ℕ) → places ≡ places_of events → (x : ℕ × Event) → places ++ x.0 ∷ [] ≡ places_of (events ++ x ∷ [])
all_and events places are x = ap (λ l. l ++ x.0 ∷ []) are ∙ sym (map-append (λ (y : ℕ × Event). y.0) events (x ∷ []))

module _ (kind : ModelKind) (budget : ℕ) (events : List (ℕ × Event)) (places : List ℕ) (state : KeyState) (saved : List KeyState) (now : IsJudged kind budget events places state saved) where
  pub many_places : length places ≡ length events
  many_places = ap length now.places_are ∙ length-places events

  -- an event is added behind all others
  pub pushed : (x : ℕ × Event) (standing : KeyState) (next : Next) (new_saved : List KeyState) → IsHistory (events ++ x ∷ []) → IsNext kind budget (events ++ x ∷ []) standing next → AreSaved kind budget (events ++ x ∷ []) new_saved
      → IsBrought kind budget (events ++ x ∷ []) (places ++ x.0 ∷ []) standing next new_saved
  pushed x standing next new_saved history stands are =
      record { history = history; places_are = all_and events places now.places_are x; stands = stands; saved_are = are }

  -- the first k events are kept
  pub cut_brought : (k : ℕ) → k ≤ length places → (next : Next) → IsNext kind budget (take k events) state next → IsBrought kind budget (take k events) (take k places) state next (take (k / 64) saved)
  cut_brought k le next stands = record {
    history = IsHistory-take k events now.history;
    places_are = ap (take k) now.places_are ∙ take-map (λ (x : ℕ × Event). x.0) k events;
    stands = stands;
    saved_are = AreSaved-take kind budget events saved now.saved_are k (omega (arith, many_places));
  }

  -- all events are kept, and judged by another kind and budget
  pub rebuilt_brought : (k : ℕ) → k ≡ length places → (other : ModelKind) (new_budget : ℕ) (standing : Box KeyState Global) (new_saved : List KeyState) → IsKeyState other new_budget events standing.value → AreSaved other new_budget events new_saved
      → IsBrought other new_budget (take k events) (take k places) state (Becomes standing) new_saved
  rebuilt_brought k all other new_budget standing new_saved stands are =
      let same : take k events ≡ events = take_all k events (omega (arith, many_places)) in
      record {
        history = IsHistory-take k events now.history;
        places_are = ap (take k) now.places_are ∙ take-map (λ (x : ℕ × Event). x.0) k events;
        stands = subst (λ l. IsKeyState other new_budget l standing.value) (sym same) stands;
        saved_are = subst (λ l. AreSaved other new_budget l new_saved) (sym same) are;
      }

  -- the key stands for the first k events if these are all
  pub all_stand : (k : ℕ) → length places ≤ k → IsKeyState kind budget (take k events) state
  all_stand k le = subst (λ l. IsKeyState kind budget l state) (sym (take_all k events (omega (arith, many_places)))) now.stands

-- a fact of the fields is a fact that a caller sees
abbrev pub history_of : ModelKind → ℕ → List (ℕ × Event) → KeyHistory
history_of kind budget events = record { kind = kind; budget = budget; events = events }

abbrev pub seen_as : ModelKind → ℕ → List (ℕ × Event) → Option Prepared → ℕ → KeyLineView
seen_as kind budget events prepared replayed = record {
  now = history_of kind budget events;
  next = option_map (brought kind budget) prepared;
  replayed = replayed;
  prepared_replays = replays_of prepared;
}

module _ (kind : ModelKind) (budget : ℕ) (events : List (ℕ × Event)) (prepared : Option Prepared) (replayed : ℕ) (line : KeyLineView) (seen : seen_as kind budget events prepared replayed ≡ line) where
  pub history_seen : (x : ℕ × Event) → IsHistory (line.now.events ++ x ∷ []) → IsHistory (events ++ x ∷ [])
  history_seen x h = subst (λ (v : KeyLineView). IsHistory (v.now.events ++ x ∷ [])) (sym seen) h

  pub borrowed_seen : (borrowed : List Event) → AreBorrowedBy borrowed line.now.events → AreBorrowedBy borrowed events
  borrowed_seen borrowed are = subst (λ (v : KeyLineView). AreBorrowedBy borrowed v.now.events) (sym seen) are

  pub status_seen : (state : KeyState) → IsKeyState kind budget events state → (s : KeyStatus) → s ≡ status_of state → IsStatusOf line.now s
  status_seen state stands s is = subst (λ (v : KeyLineView). IsStatusOf v.now s) seen (status_right kind budget events state stands s is)

  pub next_seen : (index : ℕ) (event : Event) (s : KeyStatus) → IsKeyStatus kind budget (entries_of (events ++ (index, event) ∷ [])) s → IsStatusOf (with_pushed index event line.now) s
  next_seen index event s h = subst (λ (v : KeyLineView). IsStatusOf (with_pushed index event v.now) s) seen h

  pub cut_seen : (n k : ℕ) → take k events ≡ events_below n events → (s : KeyStatus) → IsKeyStatus kind budget (entries_of (take k events)) s → IsStatusOf (cut_at n line.now) s
  cut_seen n k first s is =
      subst (λ (v : KeyLineView). IsStatusOf (cut_at n v.now) s) seen (subst (λ l. IsKeyStatus kind budget (entries_of l) s) first is)

  pub rebuilt_seen : (other : ModelKind) (new_budget : ℕ) (s : KeyStatus) → IsKeyStatus other new_budget (entries_of events) s → IsStatusOf (judged_by other new_budget line.now) s
  rebuilt_seen other new_budget s is = subst (λ (v : KeyLineView). IsStatusOf (judged_by other new_budget v.now) s) seen is

module _ (kind : ModelKind) (budget : ℕ) (events : List (ℕ × Event)) (places : List ℕ) (state : KeyState) (saved : List KeyState) (room : ℕ) (prepared : Option Prepared) (sound : IsSoundLine kind budget events places state saved room prepared) where
  still : (standing : KeyState) → IsKeyState kind budget events standing → (new : List ℕ) → new ≡ places → (new_saved : List KeyState) → AreSaved kind budget events new_saved → IsJudged kind budget events new standing new_saved
  still standing stands new same new_saved are = record { history = sound.now.history; places_are = same ∙ sound.now.places_are; stands = stands; saved_are = are }

  -- nothing is prepared
  pub IsSoundLine-dropped : (standing : KeyState) → IsKeyState kind budget events standing → (new : List ℕ) → new ≡ places → (new_saved : List KeyState) → AreSaved kind budget events new_saved → (new_room : ℕ) (left : Option Prepared) → left ≡ None
      → IsSoundLine kind budget events new standing new_saved new_room left
  IsSoundLine-dropped standing stands new same new_saved are new_room left none = record {
    now = still standing stands new same new_saved are;
    next = λ q e. (let clash : None ≡ Some q = sym none ∙ e in cc);
  }

  -- a change is prepared
  pub IsSoundLine-prepared : (standing : KeyState) → IsKeyState kind budget events standing → (new : List ℕ) → new ≡ places → (new_saved : List KeyState) → AreSaved kind budget events new_saved → (new_room : ℕ) (p : Prepared) (left : Option Prepared) → left ≡ Some p
      → IsReady kind budget places standing new_saved new_room p → IsSoundLine kind budget events new standing new_saved new_room left
  IsSoundLine-prepared standing stands new same new_saved are new_room p left left_is ready = record {
    now = still standing stands new same new_saved are;
    next = λ q is. (let both : Some p ≡ Some q = sym left_is ∙ is in let eq : p ≡ q = cc in subst (IsReady kind budget new standing new_saved new_room) eq
        (subst (λ l. IsReady kind budget l standing new_saved new_room p) (sym same) ready));
  }

  -- there is room for the event that is added
  pub has_place : (i : ℕ) (told : GhostEvents) (next : Next) → prepared ≡ Some (Push i told next) → length places < room
  has_place i told next is = (sound.next (Push i told next) is).1

  -- the event is added
  pub IsSoundLine-pushed : (i : ℕ) (told : GhostEvents) (next : Next) → prepared ≡ Some (Push i told next) → (left : Option Prepared) → left ≡ None → (after : KeyState) → ((k : ModelKind) (b : ℕ) (es : List (ℕ × Event)) → IsNext k b es state next → IsKeyState k b es after)
      → (new : List ℕ) (new_room : ℕ) → new ≡ places ++ i ∷ []
      → IsSoundLine kind budget told.events new after saved new_room left
  IsSoundLine-pushed i told next is left none after goes new new_room are =
      let brings = (sound.next (Push i told next) is).0 in
      record {
        now = record {
          history = brings.history;
          places_are = are ∙ brings.places_are;
          stands = goes kind budget told.events brings.stands;
          saved_are = brings.saved_are;
        };
        next = λ q e. (let clash : None ≡ Some q = sym none ∙ e in cc);
      }

  -- the other change is carried out
  pub IsSoundLine-changed : (boxed : Box Change Global) → prepared ≡ Some (ToChange boxed) → (c : Change) → c ≡ boxed.value → (left : Option Prepared) → left ≡ None → (after : KeyState) → ((k : ModelKind) (b : ℕ) (es : List (ℕ × Event)) → IsNext k b es state c.next → IsKeyState k b es after)
      → (new : List ℕ) (new_saved : List KeyState) (new_room : ℕ) → new ≡ take c.kept places → new_saved ≡ saved_by c.kept c.saves saved
      → IsSoundLine c.kind c.budget c.told.events new after new_saved new_room left
  IsSoundLine-changed boxed is c same left none after goes new new_saved new_room are are_saved =
      let brings : IsBrought c.kind c.budget c.told.events (take c.kept places) state c.next (saved_by c.kept c.saves saved) =
      subst (λ (d : Change). IsBrought d.kind d.budget d.told.events (take d.kept places) state d.next (saved_by d.kept d.saves saved)) (sym same) (sound.next (ToChange boxed) is) in
      record {
        now = record {
          history = brings.history;
          places_are = are ∙ brings.places_are;
          stands = goes c.kind c.budget c.told.events brings.stands;
          saved_are = subst (AreSaved c.kind c.budget c.told.events) (sym are_saved) brings.saved_are;
        };
        next = λ q e. (let clash : None ≡ Some q = sym none ∙ e in cc);
      }
