-- A thread is given no fault, and the nemesis no operation
use Rattle.std.proofs.Common.{◌≡◌, ◌∙◌, ℕ, Bool, true, List, true≢false, sym, ap, subst}
use Rattle.std.specs.Prelude.{Result, Ok, Err, OnErr}
use Rattle.models.specs.declared.operation.Op.{Op}
use Rattle.events.specs.declared.event.Fault.{Fault}
use Rattle.generators.specs.declared.item.Item.{Item}
use Rattle.generators.specs.declared.item.Item.TheVariants.{Op as AnOp, Fault as AFault}
use Rattle.generators.specs.declared.item.Asker.TheVariants.{Thread, Nemesis}
use Rattle.generators.specs.declared.item.Drawn.{Drawn}
use Rattle.generators.specs.declared.item.Drawn.TheVariants.{Op as Gets}
use Rattle.generators.specs.Generators.{Generator}
use Rattle.generators.specs.Draws.{ask_of, is_for, Draws, gives, GivesItem, MayDraw}
use Rattle.generators.specs.Sources.{SourceView}
use Rattle.generators.specs.Words.{word}
use Rattle.generators.proofs.ItemsStay.{for_asker}
use Rattle.harness.specs.Asking.{HasOpFor, HasFaultFor}

pub no_fault_for_threads : (words : ℕ → ℕ) (idle : List Bool) (thread : ℕ) (g h : Generator) (p q : ℕ) (drawn : Drawn) (x : Item) (fault : Fault) → drawn ≡ Gets x → x ≡ AFault fault
    → MayDraw words (ask_of (Thread thread) idle) g p drawn h q → ⊥
no_fault_for_threads words idle thread g h p q drawn x fault is that may =
    (let given : MayDraw words (ask_of (Thread thread) idle) g p (Gets x) h q = subst (λ (d : Drawn). MayDraw words (ask_of (Thread thread) idle) g p d h q) is may in
    let e : is_for (Thread thread) x ≡ true = for_asker words (ask_of (Thread thread) idle) given in
    true≢false (sym e ∙ ap (is_for (Thread thread)) that))

pub no_operation_for_the_nemesis : (words : ℕ → ℕ) (idle : List Bool) (g h : Generator) (p q : ℕ) (drawn : Drawn) (x : Item) (op : Op) → drawn ≡ Gets x → x ≡ AnOp op
    → MayDraw words (ask_of Nemesis idle) g p drawn h q → ⊥
no_operation_for_the_nemesis words idle g h p q drawn x op is that may =
    (let given : MayDraw words (ask_of Nemesis idle) g p (Gets x) h q = subst (λ (d : Drawn). MayDraw words (ask_of Nemesis idle) g p d h q) is may in
    let e : is_for Nemesis x ≡ true = for_asker words (ask_of Nemesis idle) given in
    true≢false (sym e ∙ ap (is_for Nemesis) that))

pub on_err : {T E P : Type 0} (r : Result T E) → P → OnErr r P
on_err (Ok x) p = tt
on_err (Err e) p = p

-- so what is found for a thread is an operation, and for the nemesis a fault
op_of : (words : ℕ → ℕ) (idle : List Bool) (thread : ℕ) (g h : Generator) (p q : ℕ) (x : Item) → Draws words (ask_of (Thread thread) idle) g p (gives x h q)
    → (op : Op) × (to : Generator × ℕ) × MayDraw words (ask_of (Thread thread) idle) g p (Gets (AnOp op)) to.0 to.1
op_of words idle thread g h p q (AnOp op) k = (op, (h, q), k)
op_of words idle thread g h p q (AFault fault) k = absurd (true≢false (sym (for_asker words (ask_of (Thread thread) idle) k)))

fault_of : (words : ℕ → ℕ) (idle : List Bool) (g h : Generator) (p q : ℕ) (x : Item) → Draws words (ask_of Nemesis idle) g p (gives x h q)
    → (fault : Fault) × (to : Generator × ℕ) × MayDraw words (ask_of Nemesis idle) g p (Gets (AFault fault)) to.0 to.1
fault_of words idle g h p q (AFault fault) k = (fault, (h, q), k)
fault_of words idle g h p q (AnOp op) k = absurd (true≢false (sym (for_asker words (ask_of Nemesis idle) k)))

pub has_op_for : (source : SourceView) (idle flags : List Bool) (thread : ℕ) → GivesItem (word source.seed) (ask_of (Thread thread) flags) source.generator source.place
    → flags ≡ idle → HasOpFor source idle thread
has_op_for source idle flags thread f same =
    subst (λ (l : List Bool). HasOpFor source l thread) same (op_of (word source.seed) flags thread source.generator f.1 source.place f.2 f.0 f.3)

pub has_fault_for : (source : SourceView) (idle flags : List Bool) → GivesItem (word source.seed) (ask_of Nemesis flags) source.generator source.place
    → flags ≡ idle → HasFaultFor source idle
has_fault_for source idle flags f same =
    subst (λ (l : List Bool). HasFaultFor source l) same (fault_of (word source.seed) flags source.generator f.1 source.place f.2 f.0 f.3)
