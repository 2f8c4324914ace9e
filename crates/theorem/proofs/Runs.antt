-- the history of a run, and its report
use Rattle.std.proofs.Common.{◌≡◌, ◌≢◌, ◌∙◌, ℕ, ◌<◌, ◌≤◌, Bool, true, false, List, [], ◌∷◌, Ok, Err, refl, sym, ap, subst, inl, inr, ⊎_elim, arith}
use Rattle.std.specs.Prelude.{◌==◌, if◌then◌else◌}
use Rattle.std.proofs.lemmas.Bool.{false≢true, cases_eq, cases_lt}
use Rattle.events.specs.Events.{marks}
use Rattle.generators.specs.declared.item.Item.TheVariants.{Op as AnOp}
use Rattle.generators.specs.declared.item.Asker.TheVariants.{Thread}
use Rattle.generators.specs.declared.item.Drawn.TheVariants.{Op as Gets, Pending, Done}
use Rattle.linspec.specs.Orders.{IsLinearizable, product}
use Rattle.linspec.specs.JudgedHistory.{JudgedHistory, IsVerdictOn, kind_of, entries_in}
use Rattle.linspec.specs.declared.verdict.Verdict.{Verdict}
use Rattle.linspec.specs.declared.verdict.Verdict.TheVariants.{Legal}
use Rattle.test_store.specs.declared.outcome.Mode.TheVariants.{Strict}
use Rattle.test_store.specs.Store.{IsCount}
use Rattle.machine.specs.Trials.{completion}
use Rattle.machine.specs.declared.command.Command.{Command}
use Rattle.machine.specs.declared.command.Command.TheVariants.{Append, Rewind, SetModel, SetBudget, Verdict as Ask, Draw, Serve, Finish, Nemesis}
use Rattle.machine.specs.declared.command.Reply.{Reply}
use Rattle.machine.specs.declared.command.Reply.TheVariants.{Verdict as Says, Drawn as HasDrawn, Pending as IsPending, Done as IsDone, Served, Fault as Struck}
use Rattle.machine.specs.Machine.{Machine, Setup, Replies, MayStep, appended, current_process, invoked_by, opening, struck_by, with_served}
use Rattle.machine.proofs.HistoryKept.{history_step}
use Rattle.machine.proofs.Moves.{MovedOn, moved_on, given, next_fault}
use Rattle.machine.proofs.Pushes.{no_history}
use Rattle.harness.specs.Setups.{IsSetup}
use Rattle.board.specs.declared.tape.TapeEntry.TheVariants.{Opening, Call}
use Rattle.board.specs.Tape.{Leads, Runs}
use Rattle.board.specs.CoreTape.{CoreReply, CoreTape}
use Rattle.clients.specs.Calls.{Calls}
use Rattle.clients.specs.Plays.{Stage, draws, serves, finishes, has_ended, gives_up, IsNext, after_answer, Plays, AreStrikes}
use Rattle.clients.specs.Runs.{IsRun, calls_of}
use Rattle.clients.proofs.Asking.{AreSuch, same_number}
use Rattle.report.specs.Report.{IsReport}
use Rattle.check_command.specs.ExitStatus.{status_of}
use Rattle.run_command.specs.RunText.{IsRunText, MaySay}
use Rattle.theorem.specs.Theorem.{Means}
use Rattle.theorem.specs.Histories.{recorded}
use Rattle.theorem.specs.Bridges.{IsReportOf, SaysOfRun}
use Rattle.theorem.proofs.Verdicts.{right, last_line, legal_is, illegal_is}
use Rattle.theorem.proofs.Lines.{HasHistory}

-- The calls of a run

-- a client or the nemesis asks so
abbrev is_of_run : Command → Bool
is_of_run (Draw thread) = true
is_of_run (Serve number) = true
is_of_run (Finish number) = true
is_of_run Nemesis = true
is_of_run command = false

next_is : (thread : ℕ) (stage : Stage) (c : Command) → IsNext thread stage c → is_of_run c ≡ true
next_is thread draws c e = subst (λ (x : Command). is_of_run x ≡ true) (sym e) refl
next_is thread (serves ticket) c e = subst (λ (x : Command). is_of_run x ≡ true) (sym e) refl
next_is thread (finishes ticket) c e = subst (λ (x : Command). is_of_run x ≡ true) (sym e) refl
next_is thread has_ended c e = absurd e
next_is thread gives_up c e = absurd e

plays_are : (thread : ℕ) (stage end : Stage) (calls : Calls) → Plays thread stage calls end → AreSuch is_of_run calls
plays_are thread stage end [] p = tt
plays_are thread stage end (call ∷ calls) p =
    (next_is thread stage call.0 p.0, plays_are thread (after_answer stage call.1) end calls p.1)

strikes_are : (calls : Calls) → AreStrikes calls → AreSuch is_of_run calls
strikes_are [] p = tt
strikes_are (call ∷ calls) p = (subst (λ (x : Command). is_of_run x ≡ true) (sym p.0) refl, strikes_are calls p.2)

first_such : (b : Bool) (call : Command × CoreReply) (calls : Calls) → b ≡ true → AreSuch is_of_run (if b then call ∷ calls else calls) → is_of_run call.0 ≡ true
first_such true call calls is p = p.0
first_such false call calls is p = absurd (false≢true is)

rest_such : (b : Bool) (call : Command × CoreReply) (calls : Calls) → AreSuch is_of_run (if b then call ∷ calls else calls) → AreSuch is_of_run calls
rest_such true call calls p = p.1
rest_such false call calls p = p

-- The history of a run

-- nothing but the events differs, and they are a history
abbrev GoesOn : Machine → Machine → Type 0
GoesOn old new = (new.judged ≡ record old.judged { events = new.judged.events }) × HasHistory new

stays : (old m new : Machine) → new ≡ m → m.judged ≡ record old.judged { events = m.judged.events } → new.judged ≡ record old.judged { events = new.judged.events }
stays old m new is same = subst (λ (n : Machine). n.judged ≡ record old.judged { events = n.judged.events }) (sym is) same

moves : (old new : Machine) → MovedOn old new → new.judged ≡ record old.judged { events = new.judged.events }
moves old new m = stays old (moved_on old new m) new m.3 refl

reply_keeps : (old new : Machine) (command : Command) (reply : Reply) → is_of_run command ≡ true → Replies old command reply new → new.judged ≡ record old.judged { events = new.judged.events }
reply_keeps old new (Draw thread) (HasDrawn ticket index) is may =
    let m : MovedOn old may.3.1 = given old may.3.1 (Thread thread) (Gets (AnOp may.3.0)) may.3.2 in
    stays old (invoked_by thread (current_process old thread) may.3.0 (moved_on old may.3.1 m)) new (may.3.4 ∙ ap (invoked_by thread (current_process old thread) may.3.0) m.3) refl
reply_keeps old new (Draw thread) IsPending is may = moves old new (given old new (Thread thread) Pending may.1)
reply_keeps old new (Draw thread) IsDone is may = moves old new (given old new (Thread thread) Done may.1)
reply_keeps old new (Serve number) (Served outcome) is may = stays old (with_served number may.0 outcome may.2.2.0 old) new may.2.2.2 refl
reply_keeps old new (Finish number) (Says v) is may = stays old (appended (completion may.0.0.process may.0.0.op may.0.2.0) old) new may.0.2.4 refl
reply_keeps old new Nemesis (Struck fault index) is may =
    let m : MovedOn old may.1.0 = next_fault old may.1.0 fault may.1.1 in
    stays old (struck_by fault (moved_on old may.1.0 m)) new (may.1.3 ∙ ap (struck_by fault) m.3) refl
reply_keeps old new (Append event) reply is may = absurd (false≢true is)
reply_keeps old new (Rewind n) reply is may = absurd (false≢true is)
reply_keeps old new (SetModel key kind) reply is may = absurd (false≢true is)
reply_keeps old new (SetBudget key n) reply is may = absurd (false≢true is)
reply_keeps old new Ask reply is may = absurd (false≢true is)
reply_keeps old new command reply is may = absurd may

step_keeps : (old new : Machine) (command : Command) (reply : CoreReply) → is_of_run command ≡ true → MayStep old command reply new → new.judged ≡ record old.judged { events = new.judged.events }
step_keeps old new command (Ok reply) is may = reply_keeps old new command reply is may
step_keeps old new command (Err why) is may = stays old old new may.1 refl

goes_on : (old new : Machine) (rest : CoreTape) → ((seat : ℕ) → AreSuch is_of_run (calls_of seat rest)) → HasHistory old → Runs MayStep old rest new → GoesOn old new
goes_on old new [] each h same = (stays old old new (sym same) refl, subst HasHistory same h)
goes_on old new (Opening m ∷ rest) each h r = absurd r
goes_on old new (Call seat command reply ∷ rest) each h r =
    let (next, may, later) = r in
    let is : is_of_run command ≡ true = first_such (seat == seat) (command, reply) (calls_of seat rest) (same_number seat) (each seat) in
    let on : GoesOn next new = goes_on next new rest (λ k. rest_such (seat == k) (command, reply) (calls_of k rest) (each k)) (history_step old next command reply may h) later in
    (on.0 ∙ ap (λ (j : JudgedHistory). record j { events = new.judged.events }) (step_keeps old next command reply is may), on.1)

pub run_history : (setup : Setup) (m : Machine) → IsRun setup.concurrency (opening setup) m → (m.judged ≡ recorded setup.concurrency setup.kind setup.budget m.judged.events) × HasHistory m
run_history setup m run =
    let each : (seat : ℕ) → AreSuch is_of_run (calls_of seat run.tape) = λ seat.
    ⊎_elim
    (λ (below : seat < setup.concurrency). plays_are seat draws has_ended (calls_of seat run.tape) (run.played seat below))
    (λ (above : setup.concurrency ≤ seat).
    ⊎_elim
    (λ (last : seat ≡ setup.concurrency). subst (λ (n : ℕ). AreSuch is_of_run (calls_of n run.tape)) (sym last) (strikes_are (calls_of setup.concurrency run.tape) run.struck))
    (λ (other : seat ≢ setup.concurrency). subst (λ (calls : Calls). AreSuch is_of_run calls) (sym (run.others seat (omega arith))) tt)
    (cases_eq seat setup.concurrency))
    (cases_lt seat setup.concurrency) in
    let calls : (seat : ℕ) → AreSuch is_of_run (calls_of seat run.opens.0) = λ seat. subst (λ (t : CoreTape). AreSuch is_of_run (calls_of seat t)) (sym run.opens.1) (each seat) in
    goes_on (opening setup) m run.opens.0 calls (no_history setup.concurrency) (subst (λ (t : CoreTape). Leads MayStep t m) (sym run.opens.1) run.leads)

-- Its report

-- no run of a strict store is a false alarm
abbrev NoAlarm : Type 0
NoAlarm = (setup : Setup) (threads : ℕ) (m : Machine) → setup.mode ≡ Strict → IsCount setup.replicas → IsRun threads (opening setup) m
    → IsLinearizable (product (kind_of m.judged)) (marks (entries_in m.judged))

report_of : NoAlarm → (setup : Setup) (m : Machine) (text : List ℕ) (status : ℕ) → IsSetup setup → IsRun setup.concurrency (opening setup) m → IsRunText m text status → IsReportOf setup m text status
report_of quiet setup m text status may run is =
    let (settings, history) = run_history setup m run in
    let h : JudgedHistory = recorded setup.concurrency setup.kind setup.budget m.judged.events in
    let well : HasHistory (record m { judged = h }) = subst (λ (j : JudgedHistory). HasHistory (record m { judged = j })) settings history in
    let on : IsVerdictOn h is.verdict = subst (λ (j : JudgedHistory). IsVerdictOn j is.verdict) settings is.judged in
    let report : IsReport h text = subst (λ (j : JudgedHistory). IsReport j text) settings is.report in
    record {
      run = run;
      settings = settings;
      reported = record {
        well_formed = well;
        verdict = is.verdict;
        right = right h well is.verdict on;
        report = report;
        last_line = last_line h text is.verdict report on;
        ends = is.status_is;
        strict = λ strict. subst (λ (j : JudgedHistory). Means j Legal) settings (quiet setup setup.concurrency m strict may.2.0 run);
      };
    }

pub says : NoAlarm → (setup : Setup) (text : List ℕ) (status : ℕ) → MaySay setup text status → SaysOfRun setup text status
says quiet setup text status (inl may) = inl (may.1.0, report_of quiet setup may.1.0 text status may.0 may.1.1 may.1.2)
says quiet setup text status (inr why) = inr why

means : (setup : Setup) (m : Machine) (text : List ℕ) (status : ℕ) → IsRun setup.concurrency (opening setup) m → IsRunText m text status → (v : Verdict) × (status ≡ status_of v) × Means m.judged v
means setup m text status run is = (is.verdict, is.status_is, (right m.judged (run_history setup m run).1 is.verdict is.judged).1)

pub legal : (setup : Setup) (text : List ℕ) → MaySay setup text 0 → (m : Machine) × IsRun setup.concurrency (opening setup) m × Means m.judged Legal
legal setup text (inl may) =
    let m : Machine = may.1.0 in
    let run = may.1.1 in
    let (v, ends, right) = means setup m text 0 run may.1.2 in
    (m, run, subst (λ (w : Verdict). Means m.judged w) (legal_is v ends) right)
legal setup text (inr refused) = absurd (omega (arith, refused.3))

pub illegal : (setup : Setup) (text : List ℕ) → MaySay setup text 1 → (m : Machine) × IsRun setup.concurrency (opening setup) m × ¬ Means m.judged Legal
illegal setup text (inl may) =
    let m : Machine = may.1.0 in
    let run = may.1.1 in
    let (v, ends, right) = means setup m text 1 run may.1.2 in
    (m, run, illegal_is m.judged v ends right)
illegal setup text (inr refused) = absurd (omega (arith, refused.3))
