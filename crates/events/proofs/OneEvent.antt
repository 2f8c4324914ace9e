-- An element spells at most one event
use Rattle.std.proofs.Common.{◌≡◌, ℕ, ℤ, ◌^◌, pos, Option, Some, None, option_map, List, codes, refl, sym, ap, ◌∙◌, subst}
use Rattle.std.specs.Prelude.{IsSomeAnd, if◌then◌else◌}
use Rattle.std.specs.Str.{bytes_eq}
use Rattle.edn.specs.Value.{Value, int, keyword, nil, vector, none, more}
use Rattle.edn.specs.Parts.{value_in}
use Rattle.models.specs.declared.operation.Name.{Name}
use Rattle.models.specs.declared.operation.Name.TheVariants.{Read, Write, Cas, Acquire, Release, Enqueue, Dequeue, Add}
use Rattle.models.specs.declared.operation.Part.{Part}
use Rattle.models.specs.declared.operation.Part.TheVariants.{Nil, Int, Pair, Set}
use Rattle.models.specs.declared.operation.Op.{Op}
use Rattle.models.specs.Names.{text_of}
use Rattle.events.specs.declared.event.EventKind.{EventKind}
use Rattle.events.specs.declared.event.EventKind.TheVariants.{Invoke, Ok, Fail, Info}
use Rattle.events.specs.declared.event.Process.{Process}
use Rattle.events.specs.declared.event.Process.TheVariants.{Client, Nemesis}
use Rattle.events.specs.declared.event.Body.{Body}
use Rattle.events.specs.declared.event.Body.TheVariants.{Op as AnOp, Fault as AFault}
use Rattle.events.specs.declared.event.Event.{Event}
use Rattle.events.specs.declared.event.Fault.{Fault}
use Rattle.events.specs.declared.fault_kind.FaultKind.{FaultKind}
use Rattle.events.specs.Spelling.{two_in, IsNumber, SpellsIndex, text_of_kind, SpellsKind, SpellsProcess, SpellsName, set_in, SpellsPart, SpellsOp, text_of_fault, fault_by, groups_in, MayTell, SpellsFault, SpellsBody, SpellsHead, SpellsAbout, Spells}
use Rattle.events.specs.declared.event.Fault.TheVariants.{Partition}
use Rattle.events.specs.Replicas.{AreGroups}
use Rattle.events.specs.Tables.{IsPartOf, IsFault, IsInTables}
use Rattle.events.proofs.ReadEach.{some_and}

one_number : (m : ℕ) (v : Value) (n k : ℕ) → IsNumber m v n → IsNumber m v k → n ≡ k
one_number m v n k a b = (let both : int (pos n) ≡ int (pos k) = sym a.0 ∙ b.0 in cc)

one_index : (o : Option Value) (i j : Option ℕ) → SpellsIndex o i → SpellsIndex o j → i ≡ j
one_index (Some v) (Some n) (Some k) a b = ap Some (one_number (2 ^ 32) v n k a b)
one_index (Some v) (Some n) None a b = absurd b
one_index (Some v) None j a b = absurd a
one_index None (Some n) j a b = absurd a
one_index None None (Some k) a b = absurd b
one_index None None None a b = refl

-- two keywords of other names are not one value
two_names : (v : Value) (x y : List ℕ) → v ≡ keyword x → v ≡ keyword y → x ≡ y
two_names v x y a b = (let both : keyword x ≡ keyword y = sym a ∙ b in cc)

-- the kind of a text
kind_at : List ℕ → EventKind
kind_at t =
    if bytes_eq t (codes "invoke") then Invoke
    else if bytes_eq t (codes "ok") then Ok
    else if bytes_eq t (codes "fail") then Fail
    else Info

kind_at-text : (k : EventKind) → kind_at (text_of_kind k) ≡ k
unfolding kind_at
kind_at-text Invoke = refl
kind_at-text Ok = refl
kind_at-text Fail = refl
kind_at-text Info = refl

one_kind : (v : Value) (k j : EventKind) → SpellsKind v k → SpellsKind v j → k ≡ j
one_kind v k j a b = sym (kind_at-text k) ∙ ap kind_at (two_names v (text_of_kind k) (text_of_kind j) a b) ∙ kind_at-text j

one_process : (v : Value) (p q : Process) → SpellsProcess v p → SpellsProcess v q → p ≡ q
one_process v (Client n) (Client k) a b = ap Client (one_number (2 ^ 32) v n k a b)
one_process v (Client n) Nemesis a b = (let both : int (pos n) ≡ keyword (codes "nemesis") = sym a.0 ∙ b in cc)
one_process v Nemesis (Client k) a b = (let both : int (pos k) ≡ keyword (codes "nemesis") = sym b.0 ∙ a in cc)
one_process v Nemesis Nemesis a b = refl

-- the name of a text
name_at : List ℕ → Option Name
name_at t =
    if bytes_eq t (codes "read") then Some Read
    else if bytes_eq t (codes "write") then Some Write
    else if bytes_eq t (codes "cas") then Some Cas
    else if bytes_eq t (codes "acquire") then Some Acquire
    else if bytes_eq t (codes "release") then Some Release
    else if bytes_eq t (codes "enqueue") then Some Enqueue
    else if bytes_eq t (codes "dequeue") then Some Dequeue
    else Some Add

name_at-text_of : (n : Name) → name_at (text_of n) ≡ Some n
unfolding name_at
name_at-text_of Read = refl
name_at-text_of Write = refl
name_at-text_of Cas = refl
name_at-text_of Acquire = refl
name_at-text_of Release = refl
name_at-text_of Enqueue = refl
name_at-text_of Dequeue = refl
name_at-text_of Add = refl

one_name : (v : Value) (n k : Name) → SpellsName v n → SpellsName v k → n ≡ k
one_name v n k a b =
    (let both : Some n ≡ Some k = sym (name_at-text_of n) ∙ ap name_at (two_names v (text_of n) (text_of k) a b) ∙ name_at-text_of k in cc)

one_part : (v : Value) (x y : Part) → SpellsPart v x → SpellsPart v y → x ≡ y
one_part v Nil Nil a b = refl
one_part v Nil (Int y) a b = (let both : nil ≡ int y = sym a ∙ b in cc)
one_part v Nil (Pair y z) a b = (let both : nil ≡ vector (more (int y) (more (int z) none)) = sym a ∙ b in cc)
one_part v (Int x) Nil a b = (let both : int x ≡ nil = sym a ∙ b in cc)
one_part v (Int x) (Int y) a b = (let both : int x ≡ int y = sym a ∙ b in let same : x ≡ y = cc in ap Int same)
one_part v (Int x) (Pair y z) a b = (let both : int x ≡ vector (more (int y) (more (int z) none)) = sym a ∙ b in cc)
one_part v (Pair w x) Nil a b = (let both : vector (more (int w) (more (int x) none)) ≡ nil = sym a ∙ b in cc)
one_part v (Pair w x) (Int y) a b = (let both : vector (more (int w) (more (int x) none)) ≡ int y = sym a ∙ b in cc)
one_part v (Pair w x) (Pair y z) a b =
    (let both : vector (more (int w) (more (int x) none)) ≡ vector (more (int y) (more (int z) none)) = sym a ∙ b in
    let first : w ≡ y = cc in
    let second : x ≡ z = cc in
    ap (λ l. Pair l x) first ∙ ap (Pair y) second)
one_part v (Set x) (Set y) a b = (let both : Some x ≡ Some y = sym a ∙ b in let same : x ≡ y = cc in ap Set same)
one_part v (Set x) Nil a b = (let none : ◌≡◌ {A = Option (List ℤ)} None (Some x) = ap set_in (sym b) ∙ a in cc)
one_part v (Set x) (Int y) a b = (let none : ◌≡◌ {A = Option (List ℤ)} None (Some x) = ap set_in (sym b) ∙ a in cc)
one_part v (Set x) (Pair y z) a b = (let none : ◌≡◌ {A = Option (List ℤ)} None (Some x) = ap set_in (sym b) ∙ a in cc)
one_part v Nil (Set x) a b = (let none : ◌≡◌ {A = Option (List ℤ)} None (Some x) = ap set_in (sym a) ∙ b in cc)
one_part v (Int y) (Set x) a b = (let none : ◌≡◌ {A = Option (List ℤ)} None (Some x) = ap set_in (sym a) ∙ b in cc)
one_part v (Pair y z) (Set x) a b = (let none : ◌≡◌ {A = Option (List ℤ)} None (Some x) = ap set_in (sym a) ∙ b in cc)

op_same : (n m : Name) (k j : ℕ) (x y : Part) → n ≡ m → k ≡ j → x ≡ y → ◌≡◌ {A = Op} (record { name = n; key = k; part = x }) (record { name = m; key = j; part = y })
op_same n m k j x y a b d =
    ap (λ (w : Name). let op : Op = record { name = w; key = k; part = x } in op) a ∙ ap (λ (w : ℕ). let op : Op = record { name = m; key = w; part = x } in op) b
    ∙ ap (λ (w : Part). let op : Op = record { name = m; key = j; part = w } in op) d

one_op : (f v : Value) (x y : Op) → SpellsOp f v x → SpellsOp f v y → x ≡ y
one_op f v x y a b =
    (let names : x.name ≡ y.name = one_name f x.name y.name a.0 b.0 in
    let both : vector (more a.1.0 (more a.1.1 none)) ≡ vector (more b.1.0 (more b.1.1 none)) = sym a.1.2 ∙ b.1.2 in
    let keys : a.1.0 ≡ b.1.0 = cc in
    let parts : a.1.1 ≡ b.1.1 = cc in
    let other : SpellsPart a.1.1 y.part = subst (λ w. SpellsPart w y.part) (sym parts) b.1.4 in
    op_same x.name y.name x.key y.key x.part y.part names (one_number (2 ^ 16) a.1.0 x.key y.key a.1.3 (subst (λ w. IsNumber (2 ^ 16) w y.key) (sym keys) b.1.3)) (one_part a.1.1 x.part y.part a.1.4 other))

-- the kind of fault of a text
fault_at : List ℕ → FaultKind
fault_at t =
    if bytes_eq t (codes "partition") then FaultKind.Partition
    else if bytes_eq t (codes "heal") then FaultKind.Heal
    else if bytes_eq t (codes "pause") then FaultKind.Pause
    else if bytes_eq t (codes "resume") then FaultKind.Resume
    else if bytes_eq t (codes "crash") then FaultKind.Crash
    else if bytes_eq t (codes "restart") then FaultKind.Restart
    else FaultKind.LoseReplies

fault_at-text : (k : FaultKind) → fault_at (text_of_fault k) ≡ k
unfolding fault_at
fault_at-text FaultKind.Partition = refl
fault_at-text FaultKind.Heal = refl
fault_at-text FaultKind.Pause = refl
fault_at-text FaultKind.Resume = refl
fault_at-text FaultKind.Crash = refl
fault_at-text FaultKind.Restart = refl
fault_at-text FaultKind.LoseReplies = refl

pub one_fault_kind : (v : Value) (k j : FaultKind) → v ≡ keyword (text_of_fault k) → v ≡ keyword (text_of_fault j) → k ≡ j
one_fault_kind v k j a b = sym (fault_at-text k) ∙ ap fault_at (two_names v (text_of_fault k) (text_of_fault j) a b) ∙ fault_at-text j

one_fault : (f v : Value) (x y : Fault) → SpellsFault f v x → SpellsFault f v y → x ≡ y
one_fault f v x y a b =
    (let both : Some x ≡ Some y = sym a.2 ∙ ap (λ k. fault_by k v) (one_fault_kind f a.0 b.0 a.1 b.1) ∙ b.2 in cc)

one_body : (p : Process) (f v : Value) (x y : Body) → SpellsBody p f v x → SpellsBody p f v y → x ≡ y
one_body (Client p) f v (AnOp x) (AnOp y) a b = ap AnOp (one_op f v x y a b)
one_body (Client p) f v (AnOp x) (AFault y) a b = absurd b
one_body (Client p) f v (AFault x) y a b = absurd a
one_body Nemesis f v (AFault x) (AFault y) a b = ap AFault (one_fault f v x y a b)
one_body Nemesis f v (AFault x) (AnOp y) a b = absurd b
one_body Nemesis f v (AnOp x) y a b = absurd a

groups_told : (o : Option (List (List ℕ))) (x : Fault) → option_map Partition o ≡ Some x → IsFault x → IsSomeAnd o AreGroups
groups_told (Some groups) x is allowed = (let same : x ≡ Partition groups = cc in subst IsFault same allowed)
groups_told None x is allowed = (let both : ◌≡◌ {A = Option Fault} None (Some x) = is in cc)

kind_told : (v : Value) (kind : FaultKind) (x : Fault) → fault_by kind v ≡ Some x → IsFault x → MayTell kind v
kind_told v FaultKind.Partition x is allowed = groups_told (groups_in v) x is allowed
kind_told v FaultKind.Heal x is allowed = tt
kind_told v FaultKind.Pause x is allowed = tt
kind_told v FaultKind.Resume x is allowed = tt
kind_told v FaultKind.Crash x is allowed = tt
kind_told v FaultKind.Restart x is allowed = tt
kind_told v FaultKind.LoseReplies x is allowed = tt

-- a fault that may be there is spelled by a value that may spell it
pub told_by : (f v : Value) (kind : FaultKind) (x : Fault) → f ≡ keyword (text_of_fault kind) → SpellsFault f v x → IsFault x → MayTell kind v
told_by f v kind x named h allowed = kind_told v kind x (ap (λ k. fault_by k v) (one_fault_kind f kind h.0 named h.1) ∙ h.2) allowed

pub partition_told : (f v : Value) (kind : FaultKind) → f ≡ keyword (text_of_fault kind) → kind ≡ FaultKind.Partition → MayTell kind v → (x : Fault) × SpellsFault f v x × IsFault x
partition_told f v FaultKind.Partition named is told =
    (let s = some_and (groups_in v) AreGroups told in (Partition s.0, (FaultKind.Partition, named, ap (option_map Partition) s.1), s.2))
partition_told f v FaultKind.Heal named is told = cc
partition_told f v FaultKind.Pause named is told = cc
partition_told f v FaultKind.Resume named is told = cc
partition_told f v FaultKind.Crash named is told = cc
partition_told f v FaultKind.Restart named is told = cc
partition_told f v FaultKind.LoseReplies named is told = cc

op_in_tables : (kind : EventKind) (p : ℕ) (op : Op) → IsPartOf kind op.name op.part → IsInTables kind (Client p) (AnOp op)
op_in_tables Invoke p op h = h
op_in_tables Ok p op h = h
op_in_tables Fail p op h = h
op_in_tables Info p op h = h

pub some_client : (kind : EventKind) (p : ℕ) (f v : Value) (process : Process) → process ≡ Client p → (op : Op) × SpellsOp f v op × IsPartOf kind op.name op.part
    → (b : Body) × SpellsBody process f v b × IsInTables kind process b
some_client kind p f v process is m =
    (AnOp m.0, subst (λ q. SpellsBody q f v (AnOp m.0)) (sym is) m.1, subst (λ q. IsInTables kind q (AnOp m.0)) (sym is) (op_in_tables kind p m.0 m.2))

pub some_nemesis : (kind : EventKind) (f v : Value) (process : Process) → kind ≡ Info → process ≡ Nemesis → (x : Fault) × SpellsFault f v x × IsFault x
    → (b : Body) × SpellsBody process f v b × IsInTables kind process b
some_nemesis kind f v process info is m =
    (AFault m.0, subst (λ q. SpellsBody q f v (AFault m.0)) (sym is) m.1, subst (λ k. IsInTables k process (AFault m.0)) (sym info) (subst (λ q. IsInTables Info q (AFault m.0)) (sym is) m.2))

pub is_two : (v k p : Value) → Some (k, p) ≡ two_in v → v ≡ vector (more k (more p none))
is_two (vector (more a (more b none))) k p h =
    (let same : ◌≡◌ {A = Value × Value} (k, p) (a, b) = cc in
    sym (ap (λ (x : Value × Value). vector (more x.0 (more x.1 none))) same))
is_two v k p h = (let both : ◌≡◌ {A = Option (Value × Value)} (Some (k, p)) None = h in cc)

pub some_op : (f v : Value) (name : Name) (k p : Value) (key : ℕ) (part : Part) → SpellsName f name → Some (k, p) ≡ two_in v → IsNumber (2 ^ 16) k key → SpellsPart p part
    → SpellsOp f v (record { name = name; key = key; part = part })
some_op f v name k p key part named are number spelled = (named, (k, p, is_two v k p are, number, spelled))

at_one : {X : Type 0} (P : Value → X → Type 0) → ((v : Value) (x y : X) → P v x → P v y → x ≡ y) → (o : Option Value) (x y : X) → IsSomeAnd o (λ v. P v x) → IsSomeAnd o (λ v. P v y) → x ≡ y
at_one P one (Some v) x y a b = one v x y a b
at_one P one None x y a b = absurd a

at_two : (p : Process) (f v : Option Value) (x y : Body) → IsSomeAnd f (λ g. IsSomeAnd v (λ w. SpellsBody p g w x)) → IsSomeAnd f (λ g. IsSomeAnd v (λ w. SpellsBody p g w y)) → x ≡ y
at_two p (Some g) (Some w) x y a b = one_body p g w x y a b
at_two p (Some g) None x y a b = absurd a
at_two p None v x y a b = absurd a

-- an element spells the event of its body with the process of its head, and the tables have it with the kind
pub process_of_head : (v : Value) (e : Event) (index : Option ℕ) (kind : EventKind) (process : Process) → SpellsHead v index kind process → Spells v e → e.process ≡ process
process_of_head v e index kind process head h = at_one SpellsProcess one_process (value_in (codes "process") v) e.process process h.head.2 head.2

pub about_by_head : (v : Value) (e : Event) (index : Option ℕ) (kind : EventKind) (process : Process) → SpellsHead v index kind process → Spells v e → SpellsAbout v process e.body
about_by_head v e index kind process head h = subst (λ p. SpellsAbout v p e.body) (process_of_head v e index kind process head h) h.body

pub tables_by_head : (v : Value) (e : Event) (index : Option ℕ) (kind : EventKind) (process : Process) (body : Body) → SpellsHead v index kind process → SpellsAbout v process body → Spells v e
    → IsInTables kind process body
tables_by_head v e index kind process body head about h =
    subst (λ b. IsInTables kind process b) (at_two process (value_in (codes "f") v) (value_in (codes "value") v) e.body body (about_by_head v e index kind process head h) about)
    (subst (λ p. IsInTables kind p e.body) (process_of_head v e index kind process head h)
    (subst (λ k. IsInTables k e.process e.body) (at_one SpellsKind one_kind (value_in (codes "type") v) e.kind kind h.head.1 head.1) h.in_tables))

pub spell_one : (v : Value) (e f : Event) → Spells v e → Spells v f → e ≡ f
spell_one v e f a b =
    ap (λ (w : Option ℕ). let g : Event = record { index = w; kind = e.kind; process = e.process; body = e.body } in g) (one_index (value_in (codes "index") v) e.index f.index a.head.0 b.head.0)
    ∙ ap (λ (w : EventKind). let g : Event = record { index = f.index; kind = w; process = e.process; body = e.body } in g) (at_one SpellsKind one_kind (value_in (codes "type") v) e.kind f.kind a.head.1 b.head.1)
    ∙ ap (λ (w : Process). let g : Event = record { index = f.index; kind = f.kind; process = w; body = e.body } in g) same
    ∙ ap (λ (w : Body). let g : Event = record { index = f.index; kind = f.kind; process = f.process; body = w } in g)
    (at_two f.process (value_in (codes "f") v) (value_in (codes "value") v) e.body f.body (subst (λ p. SpellsAbout v p e.body) same a.body) b.body)
  where
    same : e.process ≡ f.process
    same = at_one SpellsProcess one_process (value_in (codes "process") v) e.process f.process a.head.2 b.head.2
