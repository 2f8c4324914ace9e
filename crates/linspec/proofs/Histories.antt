-- the consequences of the process rule for the entries of a history
use Rattle.std.proofs.Common.{◌≡◌, ◌≢◌, ℕ, ◌+◌, ◌≤◌, ◌<◌, ⊎_elim, cond, nat_eq, Option, Some, None, List, [], ◌∷◌, ◌++◌, refl, sym, ap, ◌∙◌, subst, append_assoc, arith}
use Rattle.std.specs.List.{Contains}
use Rattle.std.proofs.lemmas.Bool.{cases_eq, eq-eqb, ne_eqb}
use Rattle.std.proofs.lemmas.List.{append-nil}
use Rattle.std.proofs.lemmas.List.Elements.{Contains-append_right, Contains-push_cases}
use Rattle.models.specs.declared.operation.Op.{Op}
use Rattle.events.specs.Events.{Act, OpEvent, op_event}
use Rattle.events.specs.Events.Act.{Invokes, Returns, Fails, Crashes}
use Rattle.events.specs.declared.event.Event.{Event}
use Rattle.events.specs.Events.{Mark, Entry, marks, mark_by_act, entry_by, entries_by, last_by, last_after, entries_from, entries_of}
use Rattle.events.specs.Events.Mark.{Invoked, Returned, Failed, Crashed}
use Rattle.events.specs.ProcessRule.{MayAct, MayCome, busy_by, busy_after, MayComeFrom, IsHistory}
use Rattle.linspec.specs.MarkRule.{id_of, IsNew, MayFollow, AreWellFormed, IsKeyed}
use Rattle.linspec.specs.Operations.{IsOpen}
use Rattle.linspec.specs.Verdicts.{IsRising}
use Rattle.linspec.proofs.Lists.{Contains-nil, Contains-head, Contains-cons_cases, snoc_cut, Pairwise-append}
use Rattle.linspec.proofs.Prefixes.{marks-append}
use Rattle.linspec.proofs.Keyed.{from_marks}
use Rattle.linspec.proofs.Open.{IsCompletion, stays_open, open_with_new, new_is_open}

pub cond_same : {X : Type 0} (q p : ℕ) (x y : X) → q ≡ p → cond (nat_eq q p) x y ≡ x
cond_same q p x y e = ap (λ b. cond b x y) (eq-eqb q p e)

pub cond_other : {X : Type 0} (q p : ℕ) (x y : X) → q ≢ p → cond (nat_eq q p) x y ≡ y
cond_other q p x y ne = ap (λ b. cond b x y) (ne_eqb q p ne)

well_snoc : (D : List Entry) (e : Entry) → AreWellFormed (marks D) → MayFollow (marks D) e.mark → AreWellFormed (marks (D ++ e ∷ []))
well_snoc D e well may before after m cut =
    ⊎_elim (λ h. (let q : m ∷ after ≡ [] = h in cc)) (λ c. at_rest c.0 c.1 c.2) (snoc_cut before (m ∷ after) (marks D) e.mark (cut ∙ marks-append D (e ∷ [])))
  where
    at_rest : (rest : List Mark) → m ∷ after ≡ rest ++ e.mark ∷ [] → before ++ rest ≡ marks D → MayFollow before m
    at_rest [] q r =
        let is : e.mark ≡ m = cc in
        subst (MayFollow before) is (subst (λ l. MayFollow l e.mark) (sym (sym (append-nil before) ∙ r)) may)
    at_rest (x ∷ rest) q r = let is : x ≡ m = cc in subst (MayFollow before) is (well before rest x r)

keyed_snoc : (D : List Entry) (e : Entry) → IsKeyed D → ((id : ℕ) (op : Op) → e.mark ≡ Invoked id op → op.key ≡ e.key) → ((f : Entry) → Contains D f → id_of f.mark ≡ id_of e.mark → f.key ≡ e.key) → IsKeyed (D ++ e ∷ [])
keyed_snoc D e keyed op_key one_key = record {
  op_key = λ f id op h q. ⊎_elim (λ k. keyed.op_key f id op k q) (λ s. op_key id op (ap (λ (w : Entry). w.mark) s ∙ q) ∙ ap (λ (w : Entry). w.key) s) (Contains-push_cases D e f h);
  one_key = λ f g h k q. ⊎_elim
      (λ i. ⊎_elim (λ j. keyed.one_key f g i j q) (λ s. one_key f i (q ∙ ap (λ (w : Entry). id_of w.mark) (sym s)) ∙ ap (λ (w : Entry). w.key) s) (Contains-push_cases D e g k))
      (λ s. ⊎_elim (λ j. ap (λ (w : Entry). w.key) (sym s) ∙ sym (one_key g j (sym q ∙ ap (λ (w : Entry). id_of w.mark) (sym s)))) (λ t. ap (λ (w : Entry). w.key) (sym s ∙ t)) (Contains-push_cases D e g k))
      (Contains-push_cases D e f h);
}

-- the facts about the entries so far, before an event of index n or more
record Good (n : ℕ) (last : ℕ → ℕ) (busy : ℕ → Option ℕ) (D : List Entry) : Type 0 where
  keyed : IsKeyed D
  well : AreWellFormed (marks D)
  rising : IsRising D
  index_below : (e : Entry) → Contains D e → e.index < n
  id_below : (e : Entry) → Contains D e → id_of e.mark < n
  has_open : (p k : ℕ) → busy p ≡ Some k → IsOpen (marks D) (last p)
  its_key : (p k : ℕ) → busy p ≡ Some k → (e : Entry) → Contains D e → id_of e.mark ≡ last p → e.key ≡ k
  apart : (p q k j : ℕ) → busy p ≡ Some k → busy q ≡ Some j → last p ≡ last q → p ≡ q

good_up : (n m : ℕ) (last : ℕ → ℕ) (busy : ℕ → Option ℕ) (D : List Entry) → n ≤ m → Good n last busy D → Good m last busy D
good_up n m last busy D le g = record {
  keyed = g.keyed;
  well = g.well;
  rising = g.rising;
  index_below = λ e h. (let b : e.index < n = g.index_below e h in omega arith);
  id_below = λ e h. (let b : id_of e.mark < n = g.id_below e h in omega arith);
  has_open = g.has_open;
  its_key = g.its_key;
  apart = g.apart;
}

rising_snoc : (D : List Entry) (e : Entry) → IsRising D → ((f : Entry) → Contains D f → f.index < e.index) → IsRising (D ++ e ∷ [])
rising_snoc D e rising below = Pairwise-append (λ (e f : Entry). e.index < f.index) D (e ∷ []) rising ((λ y h. absurd (Contains-nil y h)), tt)
    (λ x y h k. ⊎_elim (λ s. subst (λ (w : Entry). x.index < w.index) s (below x h)) (λ j. absurd (Contains-nil y j)) (Contains-cons_cases e [] y k))

-- a completion of the operation of a busy process
completed : (i p key : ℕ) (m : Mark) (last : ℕ → ℕ) (busy busy' : ℕ → Option ℕ) (D : List Entry) → Good i last busy D → busy p ≡ Some key → IsCompletion m → id_of m ≡ last p
    → MayFollow (marks D) m → (busy' p ≡ None) → ((q : ℕ) → q ≢ p → busy' q ≡ busy q) → Good (i + 1) last busy' (D ++ record { index = i; key = key; mark = m } ∷ [])
completed i p key m last busy busy' D g is_busy c is may off on = record {
  keyed = keyed_snoc D e g.keyed (λ id op q. absurd (subst IsCompletion q c)) (λ f h q. g.its_key p key is_busy f h (q ∙ is));
  well = well_snoc D e g.well may;
  rising = rising_snoc D e g.rising g.index_below;
  index_below = λ f h. ⊎_elim (λ k. (let b : f.index < i = g.index_below f k in omega arith)) (λ s. (let b : i ≡ f.index = ap (λ (w : Entry). w.index) s in omega arith)) (Contains-push_cases D e f h);
  id_below = λ f h. ⊎_elim (λ k. (let b : id_of f.mark < i = g.id_below f k in omega arith)) (λ s. (let b : id_of m ≡ id_of f.mark = ap (λ (w : Entry). id_of w.mark) s in let d : id_of m < i = here_below in omega arith)) (Contains-push_cases D e f h);
  has_open = λ q k b. (let ne : q ≢ p = other q k b in subst (λ l. IsOpen l (last q)) (sym (marks-append D (e ∷ [])))
      (stays_open (marks D) m c (last q) (g.has_open q k (sym (on q ne) ∙ b)) (λ s. ne (g.apart q p k key (sym (on q ne) ∙ b) is_busy (s ∙ is)))));
  its_key = λ q k b f h s. (let ne : q ≢ p = other q k b in ⊎_elim (λ j. g.its_key q k (sym (on q ne) ∙ b) f j s)
      (λ t. absurd (ne (g.apart q p k key (sym (on q ne) ∙ b) is_busy (sym s ∙ ap (λ (w : Entry). id_of w.mark) (sym t) ∙ is)))) (Contains-push_cases D e f h));
  apart = λ q r k j b d s. (g.apart q r k j (sym (on q (other q k b)) ∙ b) (sym (on r (other r j d)) ∙ d) s);
}
  where
    e : Entry
    e = record { index = i; key = key; mark = m }

    clash : (o : Option ℕ) (k : ℕ) → o ≡ None → o ≡ Some k → ⊥
    clash o k a b = cc

    other : (q k : ℕ) → busy' q ≡ Some k → q ≢ p
    other q k b s = clash (busy' p) k off (ap busy' (sym s) ∙ b)

    here_below : id_of m < i
    here_below = (let o : IsOpen (marks D) (last p) = g.has_open p key is_busy in let f = from_marks D _ o.invoked.1 in
        let b : id_of f.0.mark < i = g.id_below f.0 f.1 in let q : id_of f.0.mark ≡ last p = ap id_of f.2 in omega (arith, is))

invoked : (i p key : ℕ) (op : Op) (last : ℕ → ℕ) (busy : ℕ → Option ℕ) (D : List Entry) → Good i last busy D → op.key ≡ key
    → Good (i + 1) (last_by i last p (Invokes op)) (busy_by busy p key (Invokes op)) (D ++ record { index = i; key = key; mark = Invoked i op } ∷ [])
invoked i p key op last busy D g is_key = record {
  keyed = keyed_snoc D e g.keyed (λ id o q. (let t : op ≡ o = cc in ap (λ (w : Op). w.key) (sym t) ∙ is_key)) (λ f h q. absurd (far f h q));
  well = well_snoc D e g.well new;
  rising = rising_snoc D e g.rising g.index_below;
  index_below = λ f h. ⊎_elim (λ k. (let b : f.index < i = g.index_below f k in omega arith)) (λ s. (let b : i ≡ f.index = ap (λ (w : Entry). w.index) s in omega arith)) (Contains-push_cases D e f h);
  id_below = λ f h. ⊎_elim (λ k. (let b : id_of f.mark < i = g.id_below f k in omega arith)) (λ s. (let b : i ≡ id_of f.mark = ap (λ (w : Entry). id_of w.mark) s in omega arith)) (Contains-push_cases D e f h);
  has_open = λ q k b. subst (λ l. IsOpen l (last_by i last p (Invokes op) q)) (sym (marks-append D (e ∷ []))) (⊎_elim
      (λ s. subst (IsOpen (marks D ++ Invoked i op ∷ [])) (sym (cond_same q p i (last q) s)) (new_is_open (marks D) i op new))
      (λ ne. subst (IsOpen (marks D ++ Invoked i op ∷ [])) (sym (cond_other q p i (last q) ne)) (open_with_new (marks D) i op new (last q) (g.has_open q k (was q k ne b))))
      (cases_eq q p));
  its_key = λ q k b f h s. ⊎_elim
      (λ t. ⊎_elim
      (λ j. absurd (far f j (s ∙ cond_same q p i (last q) t)))
      (λ u. ap (λ (w : Entry). w.key) (sym u) ∙ key_is q k t b)
      (Contains-push_cases D e f h))
      (λ ne. ⊎_elim
      (λ j. g.its_key q k (was q k ne b) f j (s ∙ cond_other q p i (last q) ne))
      (λ u. (let below : last q < i = last_below q k (was q k ne b) in let same : i ≡ last q = ap (λ (w : Entry). id_of w.mark) u ∙ s ∙ cond_other q p i (last q) ne in absurd (omega arith)))
      (Contains-push_cases D e f h))
      (cases_eq q p);
  apart = λ q r k j b d s. ⊎_elim
      (λ t. ⊎_elim (λ u. t ∙ sym u) (λ nu. (let below : last r < i = last_below r j (was r j nu d) in let same : i ≡ last r = sym (cond_same q p i (last q) t) ∙ s ∙ cond_other r p i (last r) nu in absurd (omega arith))) (cases_eq r p))
      (λ nt. ⊎_elim
      (λ u. (let below : last q < i = last_below q k (was q k nt b) in let same : last q ≡ i = sym (cond_other q p i (last q) nt) ∙ s ∙ cond_same r p i (last r) u in absurd (omega arith)))
      (λ nu. g.apart q r k j (was q k nt b) (was r j nu d) (sym (cond_other q p i (last q) nt) ∙ s ∙ cond_other r p i (last r) nu))
      (cases_eq r p))
      (cases_eq q p);
}
  where
    e : Entry
    e = record { index = i; key = key; mark = Invoked i op }

    far : (f : Entry) → Contains D f → id_of f.mark ≡ i → ⊥
    far f h q = (let b : id_of f.mark < i = g.id_below f h in omega arith)

    new : IsNew (marks D) i
    new m h q = (let f = from_marks D m h in far f.0 f.1 (ap id_of f.2 ∙ q))

    was : (q k : ℕ) → q ≢ p → busy_by busy p key (Invokes op) q ≡ Some k → busy q ≡ Some k
    was q k ne b = sym (cond_other q p (Some key) (busy q) ne) ∙ b

    key_is : (q k : ℕ) → q ≡ p → busy_by busy p key (Invokes op) q ≡ Some k → key ≡ k
    key_is q k t b = (let u : Some key ≡ Some k = sym (cond_same q p (Some key) (busy q) t) ∙ b in let v : key ≡ k = cc in v)

    last_below : (q k : ℕ) → busy q ≡ Some k → last q < i
    last_below q k b = (let o : IsOpen (marks D) (last q) = g.has_open q k b in let f = from_marks D _ o.invoked.1 in
        let c : id_of f.0.mark < i = g.id_below f.0 f.1 in let s : id_of f.0.mark ≡ last q = ap id_of f.2 in omega arith)

record Fine (entries : List Entry) : Type 0 where
  keyed : IsKeyed entries
  well : AreWellFormed (marks entries)
  rising : IsRising entries

-- the entries after an act that may come
acted : (i p key : ℕ) (b : Act) (last : ℕ → ℕ) (busy : ℕ → Option ℕ) (D : List Entry) → MayAct busy p key b → Good i last busy D
    → Good (i + 1) (last_by i last p b) (busy_by busy p key b) (D ++ record { index = i; key = key; mark = mark_by_act i (last p) b } ∷ [])
acted i p key (Invokes op) last busy D may g = invoked i p key op last busy D g may.1
acted i p key (Returns a) last busy D may g =
    completed i p key (Returned (last p) a) last busy (busy_by busy p key (Returns a)) D g may tt refl (g.has_open p key may) (cond_same p p None (busy p) refl) (λ q ne. cond_other q p None (busy q) ne)
acted i p key Fails last busy D may g =
    completed i p key (Failed (last p)) last busy (busy_by busy p key Fails) D g may tt refl (g.has_open p key may) (cond_same p p None (busy p) refl) (λ q ne. cond_other q p None (busy q) ne)
acted i p key Crashes last busy D may g =
    completed i p key (Crashed (last p)) last busy (busy_by busy p key Crashes) D g may tt refl (g.has_open p key may) (cond_same p p None (busy p) refl) (λ q ne. cond_other q p None (busy q) ne)

step : (i : ℕ) (o : Option OpEvent) (last : ℕ → ℕ) (busy : ℕ → Option ℕ) (D : List Entry) (events : List (ℕ × Event)) → MayCome busy o → MayComeFrom (i + 1) (busy_after busy o) events → Good i last busy D
    → ((last' : ℕ → ℕ) (busy' : ℕ → Option ℕ) (D' : List Entry) → MayComeFrom (i + 1) busy' events → Good (i + 1) last' busy' D' → Fine (D' ++ entries_from last' events))
    → Fine (D ++ (entries_by i last o ++ entries_from (last_after i last o) events))
step i None last busy D events may come g next = next last busy D come (good_up i (i + 1) last busy D (omega arith) g)
step i (Some e) last busy D events may come g next =
    subst Fine (append_assoc D (entry_by i last e ∷ []) (entries_from (last_by i last e.process e.act) events))
    (next (last_by i last e.process e.act) (busy_by busy e.process e.key e.act) (D ++ entry_by i last e ∷ []) come (acted i e.process e.key e.act last busy D may g))

-- the entries so far and those of the events to come
all_good : (events : List (ℕ × Event)) (n : ℕ) (last : ℕ → ℕ) (busy : ℕ → Option ℕ) (D : List Entry) → MayComeFrom n busy events → Good n last busy D → Fine (D ++ entries_from last events)
all_good [] n last busy D may g = subst Fine (sym (append-nil D)) (record { keyed = g.keyed; well = g.well; rising = g.rising })
all_good (x ∷ events) n last busy D may g =
    step x.0 (op_event x.1) last busy D events may.1 may.2 (good_up n x.0 last busy D may.0 g)
    (λ last' busy' D' come g'. all_good events (x.0 + 1) last' busy' D' come g')

nothing : Good 0 (λ _. 0) (λ _. None) []
nothing = record {
  keyed = record { op_key = λ e id op h. absurd (Contains-nil e h); one_key = λ e f h. absurd (Contains-nil e h) };
  well = λ before after m cut. absurd (Contains-nil m (subst (λ l. Contains l m) cut (Contains-append_right before (m ∷ after) m (Contains-head m after))));
  rising = tt;
  index_below = λ e h. absurd (Contains-nil e h);
  id_below = λ e h. absurd (Contains-nil e h);
  has_open = λ p k b. cc;
  its_key = λ p k b. cc;
  apart = λ p q k j b. cc;
}

pub of_history : (events : List (ℕ × Event)) → IsHistory events → IsKeyed (entries_of events) × AreWellFormed (marks (entries_of events)) × IsRising (entries_of events)
of_history events may = let f : Fine (entries_of events) = all_good events 0 (λ _. 0) (λ _. None) [] may nothing in (f.keyed, f.well, f.rising)
