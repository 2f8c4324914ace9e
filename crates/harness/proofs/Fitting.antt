-- Items that pass both tests are good, and a machine keeps its items good
use Rattle.std.proofs.Common.{◌≡◌, ℕ, ◌%◌, ⊎_elim, Result, Ok, Err, List, [], ◌∷◌, sym, subst}
use Rattle.edn.specs.declared.refusal.Refusal.{Refusal}
use Rattle.events.specs.declared.event.Fault.{Fault}
use Rattle.nemesis.specs.Schedules.{after_first}
use Rattle.generators.specs.declared.item.Item.{Item}
use Rattle.generators.specs.declared.item.Item.TheVariants.{Op as AnOp, Fault as AFault}
use Rattle.generators.specs.declared.item.Asker.{Asker}
use Rattle.generators.specs.declared.item.Asker.TheVariants.{Thread, Nemesis as TheNemesis}
use Rattle.generators.specs.declared.item.Drawn.{Drawn}
use Rattle.generators.specs.declared.item.Drawn.TheVariants.{Op as Gets, Pending, Done}
use Rattle.generators.specs.Generators.{Generator, ops, mix, limit, seq, phases, each_thread, clients, nemesis, Generators, none, more, Each, AllItems, AllItemsOf}
use Rattle.generators.specs.Draws.{ask_of, MayDraw}
use Rattle.generators.specs.Words.{word}
use Rattle.generators.proofs.ItemsStay.{stays}
use Rattle.test_store.specs.Store.{IsCount, MayStrike}
use Rattle.test_store.proofs.Versions.{serve_replicas}
use Rattle.machine.specs.declared.ticket.Ticket.{Ticket}
use Rattle.machine.specs.Trials.{completion}
use Rattle.linspec.specs.JudgedHistory.{with_kind, with_budget}
use Rattle.machine.specs.declared.command.Command.{Command}
use Rattle.machine.specs.declared.command.Command.TheVariants.{Append, Rewind, SetModel, SetBudget, Verdict as Ask, Draw, Serve, Finish, Nemesis}
use Rattle.machine.specs.declared.command.Reply.{Reply}
use Rattle.machine.specs.declared.command.Reply.TheVariants.{Verdict as Says, Drawn as HasDrawn, Pending as IsPending, Done as IsDone, Served, Fault as Struck}
use Rattle.machine.specs.Machine.{Machine, Gives, NextFault, idle_threads, current_process, appended, cut_to, invoked_by, with_served, struck_by, Replies, MayStep}
use Rattle.harness.specs.SoundCore.{IsGood}

-- a fact about each item from two other facts
module _ (P Q R : Item → Type 0) (both : (x : Item) → P x → Q x → R x) where
  each_both : (xs : List Item) → Each P xs → Each Q xs → Each R xs
  each_both [] a b = tt
  each_both (x ∷ xs) a b = (both x a.0 b.0, each_both xs a.1 b.1)

  mutual
    pub all_both : (g : Generator) → AllItems P g → AllItems Q g → AllItems R g
    all_both (ops items) a b = each_both items a b
    all_both (mix gs) a b = each_of_both gs a b
    all_both (limit n g) a b = all_both g a b
    all_both (seq gs) a b = each_of_both gs a b
    all_both (phases gs) a b = each_of_both gs a b
    all_both (each_thread gs) a b = each_of_both gs a b
    all_both (clients g) a b = all_both g a b
    all_both (nemesis g) a b = all_both g a b

    each_of_both : (gs : Generators) → AllItemsOf P gs → AllItemsOf Q gs → AllItemsOf R gs
    each_of_both none a b = tt
    each_of_both (more g gs) a b = (all_both g a.0 b.0, each_of_both gs a.1 b.1)

-- the possible items fit the store
pub record Fits (m : Machine) : Type 0 where
  pub count : IsCount m.store.replicas
  pub items : AllItems (IsGood m.store.replicas) m.generator
  pub faults : Each (λ x. MayStrike m.store.replicas x.1) m.schedule

to : (m new : Machine) → new ≡ m → Fits m → Fits new
to m new is h = subst Fits (sym is) h

without_first : (n : ℕ) (xs : List (ℕ × Fault)) → Each (λ x. MayStrike n x.1) xs → Each (λ x. MayStrike n x.1) (after_first xs)
without_first n [] h = tt
without_first n (x ∷ xs) h = h.1

-- a draw leaves the items good, and gives a good one
drawn_fits : (m : Machine) (asker : Asker) (drawn : Drawn) (g : Generator) (p : ℕ) → MayDraw (word m.seed) (ask_of asker (idle_threads m.judged)) m.generator m.place drawn g p → Fits m → AllItems (IsGood m.store.replicas) g
drawn_fits m asker (Gets x) g p may h = (stays (IsGood m.store.replicas) (word m.seed) (ask_of asker (idle_threads m.judged)) may h.items).1
drawn_fits m asker Pending g p may h = subst (AllItems (IsGood m.store.replicas)) (sym may.1) h.items
drawn_fits m asker Done g p may h = subst (AllItems (IsGood m.store.replicas)) (sym may.1) h.items

pub good_drawn : (m : Machine) (asker : Asker) (x : Item) (g : Generator) (p : ℕ) → MayDraw (word m.seed) (ask_of asker (idle_threads m.judged)) m.generator m.place (Gets x) g p → Fits m → IsGood m.store.replicas x
good_drawn m asker x g p may h = (stays (IsGood m.store.replicas) (word m.seed) (ask_of asker (idle_threads m.judged)) may h.items).0

given : (old after : Machine) (asker : Asker) (drawn : Drawn) → Gives old asker drawn after → Fits old → Fits after
given old after asker drawn gives h =
    to (record old { generator = gives.0; place = gives.1 }) after gives.3
    (record { count = h.count; items = drawn_fits old asker drawn gives.0 gives.1 gives.2 h; faults = h.faults })

next_fits : (old after : Machine) (fault : Fault) → NextFault old fault after → Fits old → Fits after
next_fits old after fault next h =
    ⊎_elim
    (λ due. to (record old { schedule = after_first old.schedule }) after due.1
    (record { count = h.count; items = h.items; faults = without_first old.store.replicas old.schedule h.faults }))
    (λ n. given old after TheNemesis (Gets (AFault fault)) n.1 h)
    next

fits_in_store : (m : Machine) (replicas : ℕ) → replicas ≡ m.store.replicas → Fits m → IsCount replicas × AllItems (IsGood replicas) m.generator × Each (λ x. MayStrike replicas x.1) m.schedule
fits_in_store m replicas is h = subst (λ (n : ℕ). IsCount n × AllItems (IsGood n) m.generator × Each (λ x. MayStrike n x.1) m.schedule) (sym is) (h.count, h.items, h.faults)

fits_reply : (old new : Machine) (command : Command) (reply : Reply) → Replies old command reply new → Fits old → Fits new
fits_reply old new (Append event) (Says v) may h = to (appended event old) new may.1 (record { count = h.count; items = h.items; faults = h.faults })
fits_reply old new (Rewind n) (Says v) may h = to (cut_to n old) new may.1 (record { count = h.count; items = h.items; faults = h.faults })
fits_reply old new (SetModel key kind) (Says v) may h = to (record old { judged = with_kind key kind old.judged }) new may.0 (record { count = h.count; items = h.items; faults = h.faults })
fits_reply old new (SetBudget key n) (Says v) may h = to (record old { judged = with_budget key n old.judged }) new may.1 (record { count = h.count; items = h.items; faults = h.faults })
fits_reply old new Ask (Says v) may h = to old new may.0 h
fits_reply old new (Draw thread) (HasDrawn ticket index) may h =
    (let after : Fits may.3.1 = given old may.3.1 (Thread thread) (Gets (AnOp may.3.0)) may.3.2 h in
    to (invoked_by thread (current_process old thread) may.3.0 may.3.1) new may.3.4
    (record { count = after.count; items = after.items; faults = after.faults }))
fits_reply old new (Draw thread) IsPending may h = given old new (Thread thread) Pending may.1 h
fits_reply old new (Draw thread) IsDone may h = given old new (Thread thread) Done may.1 h
fits_reply old new (Serve number) (Served outcome) may h =
    (let t : Ticket = may.0 in
    let then = fits_in_store old may.2.2.0.replicas (serve_replicas old.store may.2.2.0 (t.thread % old.store.replicas) t.op outcome may.2.2.1) h in
    to (with_served number t outcome may.2.2.0 old) new may.2.2.2
    (record { count = then.0; items = then.1; faults = then.2 }))
fits_reply old new (Finish number) (Says v) may h =
    to (appended (completion may.0.0.process may.0.0.op may.0.2.0) old) new may.0.2.4 (record { count = h.count; items = h.items; faults = h.faults })
fits_reply old new Nemesis (Struck fault index) may h =
    (let after : Fits may.1.0 = next_fits old may.1.0 fault may.1.1 h in
    to (struck_by fault may.1.0) new may.1.3 (record { count = after.count; items = after.items; faults = after.faults }))
fits_reply old new command reply may h = absurd may

pub fits_step : (old new : Machine) (command : Command) (outcome : Result Reply Refusal) → MayStep old command outcome new → Fits old → Fits new
fits_step old new command (Ok reply) may h = fits_reply old new command reply may h
fits_step old new command (Err why) may h = to old new may.1 h
