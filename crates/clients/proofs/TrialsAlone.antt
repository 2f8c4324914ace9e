-- Where all seats of a board come back from clients and the nemesis, its tape has calls of trials alone: of each client, and of the
-- nemesis, just what it did.
use Rattle.std.proofs.Common.{◌≡◌, ℕ, zero, suc, ◌+◌, ◌-◌, ◌<◌, ◌≤◌, ◌≢◌, ⊎_elim, Bool, true, false, List, [], ◌∷◌, ◌++◌, length, Some, refl, sym, ap, subst, ◌∙◌, arith, length-append}
use Rattle.std.specs.Prelude.{slice_get, nat_lt, not, ◌&&◌, ◌==◌, if◌then◌else◌}
use Rattle.std.proofs.lemmas.Bool.{false≢true, cases_eq, cases_lt}
use Rattle.std.proofs.lemmas.Bool.Decides.{nat_tests}
use Rattle.std.proofs.lemmas.Option.{get_or_from_slice_get}
use mathlib.Core.List.{IsPrefix}
use Rattle.machine.specs.declared.command.Command.{Command}
use Rattle.machine.specs.declared.command.Command.TheVariants.{Append, Rewind, SetModel, SetBudget, Verdict as Ask, Draw, Serve, Finish, Nemesis}
use Rattle.machine.specs.Machine.{Machine, IsOfTrial, AreOfTrial}
use Rattle.board.specs.declared.tape.TapeEntry.{TapeEntry}
use Rattle.board.specs.declared.tape.TapeEntry.TheVariants.{Opening, Call}
use Rattle.board.specs.Tape.{IsTapeOf}
use Rattle.board.specs.Seat.{IsFresh}
use Rattle.board.specs.CoreTape.{CoreReply, CoreTape, opening_tape, calls_on}
use Rattle.board.proofs.Prefixes.{prefix_trans}
use Rattle.clients.specs.Calls.{CoreSeat, Calls, HasMade}
use Rattle.clients.specs.Plays.{Stage, draws, serves, finishes, has_ended, gives_up, IsNext, after_answer, Plays, AreStrikes, HaveRun}
use Rattle.clients.specs.Runs.{calls_of, ArePlayed, IsBegunBy, IsRun}
use Rattle.clients.proofs.Asking.{one_if, asked, HasAskedOnly, AreSuch, asked_by, same_number}
use Rattle.clients.proofs.Counted.{one_at_most, few_calls, such_from, few_such, AreCounted, counted, counted_with, among_later, counted_but}
use Rattle.clients.proofs.Making.{none_then}
use Rattle.clients.proofs.OwnCalls.{any, all_are, as_many, calls_front, none_more, made_count, at_least, just_made}

abbrev is_of_trial : Command → Bool
is_of_trial (Append event) = false
is_of_trial (Rewind n) = false
is_of_trial (SetModel key kind) = false
is_of_trial command = true

trial_is : (c : Command) → is_of_trial c ≡ true → IsOfTrial c
trial_is (Append event) is = absurd (false≢true is)
trial_is (Rewind n) is = absurd (false≢true is)
trial_is (SetModel key kind) is = absurd (false≢true is)
trial_is (SetBudget key n) is = tt
trial_is Ask is = tt
trial_is (Draw thread) is = tt
trial_is (Serve number) is = tt
trial_is (Finish number) is = tt
trial_is Nemesis is = tt

next_is : (thread : ℕ) (stage : Stage) (c : Command) → IsNext thread stage c → is_of_trial c ≡ true
next_is thread draws c e = subst (λ (x : Command). is_of_trial x ≡ true) (sym e) refl
next_is thread (serves ticket) c e = subst (λ (x : Command). is_of_trial x ≡ true) (sym e) refl
next_is thread (finishes ticket) c e = subst (λ (x : Command). is_of_trial x ≡ true) (sym e) refl
next_is thread has_ended c e = absurd e
next_is thread gives_up c e = absurd e

plays_are : (thread : ℕ) (stage end : Stage) (calls : Calls) → Plays thread stage calls end → AreSuch is_of_trial calls
plays_are thread stage end [] p = tt
plays_are thread stage end (call ∷ calls) p =
    (next_is thread stage call.0 p.0, plays_are thread (after_answer stage call.1) end calls p.1)

strikes_are : (calls : Calls) → AreStrikes calls → AreSuch is_of_trial calls
strikes_are [] p = tt
strikes_are (call ∷ calls) p = (subst (λ (x : Command). is_of_trial x ≡ true) (sym p.0) refl, strikes_are calls p.2)

-- where the calls of each seat are of trials, so are all on the tape
first_such : (b : Bool) (call : Command × CoreReply) (calls : Calls) → b ≡ true → AreSuch is_of_trial (if b then call ∷ calls else calls) → is_of_trial call.0 ≡ true
first_such true call calls is p = p.0
first_such false call calls is p = absurd (false≢true is)

rest_such : (b : Bool) (call : Command × CoreReply) (calls : Calls) → AreSuch is_of_trial (if b then call ∷ calls else calls) → AreSuch is_of_trial calls
rest_such true call calls p = p.1
rest_such false call calls p = p

each_of_trial : (tape : CoreTape) → ((seat : ℕ) → AreSuch is_of_trial (calls_of seat tape)) → AreOfTrial (calls_on tape)
each_of_trial [] each = tt
each_of_trial (Opening m ∷ rest) each = each_of_trial rest each
each_of_trial (Call k c r ∷ rest) each = (
  trial_is c (first_such (k == k) (c, r) (calls_of k rest) (same_number k) (each k)),
  each_of_trial rest (λ seat. rest_such (k == seat) (c, r) (calls_of seat rest) (each seat)),
)

-- the tape of a run has calls of trials alone
pub run_of_trial : (threads : ℕ) (first last : Machine) (run : IsRun threads first last) → AreOfTrial (calls_on run.tape)
run_of_trial threads first last run = each_of_trial run.tape each where
  each : (seat : ℕ) → AreSuch is_of_trial (calls_of seat run.tape)
  each seat =
      ⊎_elim
      (λ (below : seat < threads). plays_are seat draws has_ended (calls_of seat run.tape) (run.played seat below))
      (λ (above : threads ≤ seat).
      ⊎_elim
      (λ (last_one : seat ≡ threads). subst (λ (n : ℕ). AreSuch is_of_trial (calls_of n run.tape)) (sym last_one) (strikes_are (calls_of threads run.tape) run.struck))
      (λ (other : seat ≢ threads). subst (λ (calls : Calls). AreSuch is_of_trial calls) (sym (run.others seat (omega arith))) tt)
      (cases_eq seat threads))
      (cases_lt seat threads)

-- the calls of each seat that ran, which belong to trials alone
ran : (seats back : List CoreSeat) (place : ℕ) (old new : CoreSeat) → HaveRun (λ (s : CoreSeat). s) seats back → place < length seats
    → slice_get seats place ≡ Some old → slice_get back place ≡ Some new → (calls : Calls) × HasMade old calls new × AreSuch is_of_trial calls
ran seats back place old new run within at_old at_new = go (nat_lt (place + 1) (length seats)) refl where
  go : (b : Bool) → nat_lt (place + 1) (length seats) ≡ b → (calls : Calls) × HasMade old calls new × AreSuch is_of_trial calls
  go true e =
      let before : place + 1 < length seats = grind (arith, nat_tests) in
      let p = run.clients place old new before at_old at_new in
      (p.3.0, none_then old p.0 new p.3.0 p.1 p.3.1, plays_are place draws has_ended p.3.0 p.3.2)
  go false e =
      let last : place ≡ length seats - 1 = grind (arith, nat_tests) in
      let p = run.nemesis old new (subst (λ (k : ℕ). slice_get seats k ≡ Some old) last at_old) (subst (λ (k : ℕ). slice_get back k ≡ Some new) last at_new) in
      (p.0, p.1, strikes_are p.0 p.2)

both_true : (a b : Bool) → 1 ≤ one_if (a && b) → b ≡ true
both_true false b is = absurd (omega arith)
both_true true false is = absurd (omega arith)
both_true true true is = refl

-- where each call is counted, each is one of a trial
all_trials : (n : ℕ) (tape : CoreTape) → length (calls_on tape) ≤ such_from is_of_trial n tape → AreOfTrial (calls_on tape)
all_trials n [] many = tt
all_trials n (Opening m ∷ rest) many = all_trials n rest many
all_trials n (Call k c r ∷ rest) many = (
  trial_is c (both_true (not (nat_lt k n)) (is_of_trial c) (omega (arith, many, few_such is_of_trial n rest))),
  all_trials n rest (omega (arith, many, one_at_most (not (nat_lt k n) && is_of_trial c))),
)

-- a seat that was new counts what it has asked
from_fresh : (is_such : Command → Bool) (place : ℕ) (m : Machine) (old new : CoreSeat) → (old.number ≡ place) × (old.count ≡ 0) × (old.tape ≡ opening_tape m)
    → HasAskedOnly is_such old new → (new.number ≡ 0 + place) × (new.count ≤ asked is_such new.number new.tape)
from_fresh is_such place m old new fresh has =
    let none : asked is_such old.number old.tape ≡ 0 = rw fresh.2 refl in
    let number : new.number ≡ place = has.number ∙ fresh.0 in
    (omega (arith, number), subst (λ (k : ℕ). new.count ≤ asked is_such k new.tape) (sym has.number) (omega (arith, has.calls, fresh.1, none)))

get_some : {A : Type 0} (xs : List A) (k : ℕ) → k < length xs → (x : A) × (slice_get xs k ≡ Some x)
get_some [] k within = absurd (omega (arith, within))
get_some (x ∷ xs) zero within = (x, refl)
get_some (x ∷ xs) (suc k) within = get_some xs k (omega (arith, within))

get_within : {A : Type 0} (xs : List A) (k : ℕ) (x : A) → slice_get xs k ≡ Some x → k < length xs
get_within [] k x e = absurd (cc e)
get_within (y ∷ ys) zero x e = omega arith
get_within (y ∷ ys) (suc k) x e = omega (arith, get_within ys k x e)

first_of_its : (k : ℕ) (c : Command) (r : CoreReply) (rest : CoreTape) → 1 ≤ length (calls_of k (Call k c r ∷ rest))
first_of_its k c r rest = rw (same_number k) (omega arith)

-- who has seen a call has seen the first
first_seen : (o : Machine) (k : ℕ) (c : Command) (r : CoreReply) (rest front : CoreTape) → IsPrefix front (Opening o ∷ Call k c r ∷ rest) → 2 ≤ length front
    → 1 ≤ length (calls_of k front)
first_seen o k c r rest [] p many = absurd (omega (arith, many))
first_seen o k c r rest (x ∷ []) p many = absurd (omega (arith, many))
first_seen o k c r rest (x ∷ y ∷ more) p many =
    let same_x : x ≡ Opening o = cc p.1 in
    let same_y : y ≡ Call k c r = cc p.1 in
    subst (λ (e : TapeEntry Machine Command CoreReply). 1 ≤ length (calls_of k (e ∷ y ∷ more))) (sym same_x)
    (subst (λ (e : TapeEntry Machine Command CoreReply). 1 ≤ length (calls_of k (Opening o ∷ e ∷ more))) (sym same_y) (first_of_its k c r more))

module _ (m : Machine) (seats back : List CoreSeat) (fresh : IsFresh (opening_tape m) seats) (run : HaveRun (λ (s : CoreSeat). s) seats back) where
  within : (k : ℕ) (s : CoreSeat) → slice_get back k ≡ Some s → k < length seats
  within k s at = omega (arith, get_within back k s at, run.count)

  trials_counted : AreCounted is_of_trial 0 back
  trials_counted = λ k s at.
      let old = get_some seats k (within k s at) in
      let r = ran seats back k old.0 s run (within k s at) old.1 at in
      from_fresh is_of_trial k m old.0 s (fresh k old.0 old.1) (asked_by is_of_trial old.0 s r.0 r.1 r.2)

  all_counted : AreCounted any 0 back
  all_counted = λ k s at.
      let old = get_some seats k (within k s at) in
      let r = ran seats back k old.0 s run (within k s at) old.1 at in
      from_fresh any k m old.0 s (fresh k old.0 old.1) (asked_by any old.0 s r.0 r.1 (all_are r.0))

  pub trials_alone : (tape : CoreTape) → IsTapeOf (opening_tape m) back (length seats) tape → AreOfTrial (calls_on tape)
  trials_alone [] is = absurd (cc is.opens.1)
  trials_alone (Call k c r ∷ rest) is = absurd (cc is.opens.1)
  trials_alone (Opening o ∷ rest) is =
      all_trials 0 (Opening o ∷ rest) (omega (arith, is.calls run.count, counted is_of_trial (Opening o ∷ rest) 0 back trials_counted is.seen, few_calls rest))

  -- of no seat are there more calls on the tape than it counts
  no_more : (tape : CoreTape) → IsTapeOf (opening_tape m) back (length seats) tape → (k : ℕ) (s : CoreSeat) → slice_get back k ≡ Some s
      → length (calls_of k tape) ≤ s.count
  no_more [] is k s at = absurd (cc is.opens.1)
  no_more (Call j c r ∷ rest) is k s at = absurd (cc is.opens.1)
  no_more (Opening o ∷ rest) is k s at =
      let here : asked any (0 + k) (Opening o ∷ rest) ≡ asked any k (Opening o ∷ rest) = ap (λ (n : ℕ). asked any n (Opening o ∷ rest)) (omega arith) in
      omega (arith, is.calls run.count, counted_but any (Opening o ∷ rest) 0 back all_counted is.seen k s at, few_such any 0 (Opening o ∷ rest), few_calls rest, here, as_many k (Opening o ∷ rest))

  -- of each seat the tape has just the calls that it made
  own_calls : (tape : CoreTape) → IsTapeOf (opening_tape m) back (length seats) tape → (k : ℕ) (old new : CoreSeat) → slice_get seats k ≡ Some old → slice_get back k ≡ Some new
      → (calls : Calls) → HasMade old calls new → calls_of k tape ≡ calls
  own_calls tape is k old new at_old at_new calls made =
      let f = fresh k old at_old in
      let count = made_count old new calls made in
      let most = no_more tape is k new at_new in
      let seen : IsPrefix new.tape tape = subst (λ (s : CoreSeat). IsPrefix s.tape tape) (get_or_from_slice_get back k new new at_new) (is.seen k new (get_within back k new at_new)) in
      let front = calls_front k new.tape tape seen in
      let longer : length (calls_of k tape) ≡ length (calls_of k new.tape) + length front.0 = ap length front.1 ∙ length-append (calls_of k new.tape) front.0 in
      let none : calls_of k old.tape ≡ [] = rw f.2 refl in
      let nothing : length (calls_of k old.tape) ≡ 0 = rw none refl in
      let just : calls_of k new.tape ≡ calls_of k old.tape ++ calls = just_made k old new calls f.0 made (omega (arith, most, longer, count, f.1, nothing)) in
      let own : calls_of k new.tape ≡ calls = just ∙ ap (λ (zs : Calls). zs ++ calls) none in
      let whole : calls_of k tape ≡ calls_of k new.tape = none_more (calls_of k new.tape) (calls_of k tape) front.0 front.1 (omega (arith, most, count, f.1, ap length own)) in
      whole ∙ own

  pub all_played : (threads : ℕ) → threads + 1 ≤ length seats → (tape : CoreTape) → IsTapeOf (opening_tape m) back (length seats) tape → ArePlayed threads tape
  all_played threads enough tape is thread below =
      let old = get_some seats thread (omega (arith, below, enough)) in
      let new = get_some back thread (omega (arith, below, enough, run.count)) in
      let p = run.clients thread old.0 new.0 (omega (arith, below, enough)) old.1 new.1 in
      subst (λ (calls : Calls). Plays thread draws calls has_ended) (sym (own_calls tape is thread old.0 new.0 old.1 new.1 p.3.0 (none_then old.0 p.0 new.0 p.3.0 p.1 p.3.1))) p.3.2

  pub all_struck : (threads : ℕ) → length seats ≡ threads + 1 → (tape : CoreTape) → IsTapeOf (opening_tape m) back (length seats) tape → AreStrikes (calls_of threads tape)
  all_struck threads size tape is =
      let old = get_some seats threads (omega (arith, size)) in
      let new = get_some back threads (omega (arith, size, run.count)) in
      let last : threads ≡ length seats - 1 = omega (arith, size) in
      let p = run.nemesis old.0 new.0 (subst (λ (k : ℕ). slice_get seats k ≡ Some old.0) last old.1) (subst (λ (k : ℕ). slice_get back k ≡ Some new.0) last new.1) in
      subst (λ (calls : Calls). AreStrikes calls) (sym (own_calls tape is threads old.0 new.0 old.1 new.1 p.0 p.1)) p.2

  -- no other seat has a call there
  nothing_in : (calls : Calls) → length calls ≤ 0 → calls ≡ []
  nothing_in [] few = refl
  nothing_in (call ∷ calls) few = absurd (omega (arith, few))

  pub no_others : (tape : CoreTape) → IsTapeOf (opening_tape m) back (length seats) tape → (seat : ℕ) → length seats ≤ seat → calls_of seat tape ≡ []
  no_others [] is seat far = absurd (cc is.opens.1)
  no_others (Call k c r ∷ rest) is seat far = absurd (cc is.opens.1)
  no_others (Opening o ∷ rest) is seat far =
      let counts = counted_with any (Opening o ∷ rest) 0 (length back) back (omega arith) all_counted is.seen in
      let few = among_later any (length back) seat (omega (arith, far, run.count)) (Opening o ∷ rest) in
      nothing_in (calls_of seat (Opening o ∷ rest)) (omega (arith, is.calls run.count, counts, few, few_such any 0 (Opening o ∷ rest), few_calls rest, as_many seat (Opening o ∷ rest)))

  -- the nemesis has asked
  has_asked : (threads : ℕ) → length seats ≡ threads + 1 → (tape : CoreTape) → IsTapeOf (opening_tape m) back (length seats) tape → 1 ≤ length (calls_of threads tape)
  has_asked threads size tape is =
      let old = get_some seats threads (omega (arith, size)) in
      let new = get_some back threads (omega (arith, size, run.count)) in
      let last : threads ≡ length seats - 1 = omega (arith, size) in
      let p = run.nemesis old.0 new.0 (subst (λ (k : ℕ). slice_get seats k ≡ Some old.0) last old.1) (subst (λ (k : ℕ). slice_get back k ≡ Some new.0) last new.1) in
      subst (λ (calls : Calls). 1 ≤ length calls) (sym (own_calls tape is threads old.0 new.0 old.1 new.1 p.0 p.1)) p.3

  -- a client's calls all come after one that it has seen
  not_first : (o : Machine) (k : ℕ) (c : Command) (r : CoreReply) (rest : CoreTape) → IsTapeOf (opening_tape m) back (length seats) (Opening o ∷ Call k c r ∷ rest)
      → ¬ (k + 1 < length seats)
  not_first o k c r rest is below =
      let tape : CoreTape = Opening o ∷ Call k c r ∷ rest in
      let old = get_some seats k (omega (arith, below)) in
      let new = get_some back k (omega (arith, below, run.count)) in
      let p = run.clients k old.0 new.0 below old.1 new.1 in
      let f = fresh k old.0 old.1 in
      let number : p.0.number ≡ k = p.1.number ∙ f.0 in
      let seen : IsPrefix new.0.tape tape = subst (λ (s : CoreSeat). IsPrefix s.tape tape) (get_or_from_slice_get back k new.0 new.0 new.1) (is.seen k new.0 (get_within back k new.0 new.1)) in
      let mine = asked_by any p.0 new.0 p.3.0 p.3.1 (all_are p.3.0) in
      let some = first_seen o k c r rest p.0.tape (prefix_trans p.0.tape new.0.tape tape mine.seen seen) p.2 in
      let front = calls_front k new.0.tape tape seen in
      let longer : length (calls_of k tape) ≡ length (calls_of k new.0.tape) + length front.0 = ap length front.1 ∙ length-append (calls_of k new.0.tape) front.0 in
      let most : length (calls_of k tape) ≤ new.0.count = no_more tape is k new.0 new.1 in
      omega (arith, some, longer, most, at_least k p.0 new.0 p.3.0 number p.3.1, made_count p.0 new.0 p.3.0 p.3.1, p.1.count, f.1)

  pub all_begun : (threads : ℕ) → length seats ≡ threads + 1 → (tape : CoreTape) → IsTapeOf (opening_tape m) back (length seats) tape → IsBegunBy threads tape
  all_begun threads size [] is = absurd (cc is.opens.1)
  all_begun threads size (Call k c r ∷ rest) is = absurd (cc is.opens.1)
  all_begun threads size (Opening o ∷ []) is = absurd (omega (arith, has_asked threads size (Opening o ∷ []) is))
  all_begun threads size (Opening o ∷ Opening x ∷ rest) is =
      let tape : CoreTape = Opening o ∷ Opening x ∷ rest in
      absurd (omega (arith, is.calls run.count, counted any tape 0 back all_counted is.seen, few_such any 0 tape, few_calls rest))
  all_begun threads size (Opening o ∷ Call k c r ∷ rest) is =
      ⊎_elim
      (λ (below : k < threads). absurd (not_first o k c r rest is (omega (arith, below, size))))
      (λ (above : threads ≤ k).
      ⊎_elim
      (λ (same : k ≡ threads). same)
      (λ (other : k ≢ threads).
      let none = no_others (Opening o ∷ Call k c r ∷ rest) is k (omega (arith, above, other, size)) in
      absurd (omega (arith, first_of_its k c r rest, ap length none)))
      (cases_eq k threads))
      (cases_lt k threads)
