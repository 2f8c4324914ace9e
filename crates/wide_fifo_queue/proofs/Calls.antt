-- operations by their effect
use Rattle.std.proofs.Common.{◌≡◌, ℤ, List, refl, sym, ap, ◌∙◌}
use Rattle.std.specs.List.{Contains}
use Rattle.models.specs.declared.operation.Name.{Name}
use Rattle.models.specs.declared.operation.Name.TheVariants.{Enqueue, Dequeue}
use Rattle.models.specs.declared.operation.Part.{Part}
use Rattle.models.specs.declared.operation.Part.TheVariants.{Nil, Int, Pair, Set}
use Rattle.models.specs.declared.operation.Op.{Op}
use Rattle.models.specs.declared.finding.Answer.TheVariants.{Number}
use Rattle.models.specs.Objects.{answer_of}
use Rattle.events.specs.Events.{Mark}
use Rattle.events.specs.Events.Mark.{Invoked}
use Rattle.linspec.specs.Twins.{Enqueues, IsEnqueueOf}
use Rattle.queue_pairs.specs.Pairs.{Dequeues}
use Rattle.wide_fifo_queue.specs.declared.known.Call.TheVariants as calls
use Rattle.wide_fifo_queue.specs.declared.known.Pending.{Pending}
use Rattle.wide_fifo_queue.specs.Facts.{call_by, Facts, AreFacts}
use Rattle.wide_fifo_queue.proofs.Moments.{stands_contains}
use Rattle.queue_pairs.proofs.Once.{one_op}

pub dequeue_by : (name : Name) (part : Part) → call_by name part ≡ calls.Dequeue → (name ≡ Dequeue) × (part ≡ Nil)
dequeue_by Dequeue Nil e = (refl, refl)
dequeue_by Enqueue (Int v) e = cc
dequeue_by _ _ e = cc

pub enqueue_by : (name : Name) (part : Part) (v : ℤ) → call_by name part ≡ calls.Enqueue v → (name ≡ Enqueue) × (part ≡ Int v)
enqueue_by Enqueue (Int w) v e = (refl, (let q : calls.Enqueue w ≡ calls.Enqueue v = e in let s : w ≡ v = cc in ap Int s))
enqueue_by Dequeue Nil v e = cc
enqueue_by _ _ v e = cc

pub by_enqueues : (op : Op) (v : ℤ) → Enqueues op v → call_by op.name op.part ≡ calls.Enqueue v
by_enqueues op v a = ap (λ n. call_by n op.part) a.0 ∙ ap (call_by Enqueue) a.1

pub by_dequeues : (op : Op) → Dequeues op → call_by op.name op.part ≡ calls.Dequeue
by_dequeues op a = ap (λ n. call_by n op.part) a.0 ∙ ap (call_by Dequeue) a.1

-- an operation that enqueues dequeues nothing
pub no_both : (op : Op) (v : ℤ) → Enqueues op v → ¬ Dequeues op
no_both op v a d = let q : calls.Enqueue v ≡ calls.Dequeue = sym (by_enqueues op v a) ∙ by_dequeues op d in cc

pub answer_number : (part : Part) (v : ℤ) → answer_of part ≡ Number v → part ≡ Int v
answer_number Nil v e = cc
answer_number (Int a) v e = let q : Number a ≡ Number v = e in let r : a ≡ v = cc in ap Int r
answer_number (Pair a b) v e = cc
answer_number (Set those) v e = cc

module _ (f : Facts) (ms : List Mark) (facts : AreFacts f ms) (p : Pending) (h : Contains f.pending p) where
  -- the operation of a pending call
  pub op_of : (op : Op) × Contains ms (Invoked p.id op) × (call_by op.name op.part ≡ p.call)
  op_of = let k = (facts.pending.is p h).1 in (k.0, stands_contains ms p.since (Invoked p.id k.0) k.1, k.2)

  pub same_call : (op : Op) → Contains ms (Invoked p.id op) → call_by op.name op.part ≡ p.call
  same_call op i = let same : op ≡ op_of.0 = one_op ms facts.well p.id op op_of.0 i op_of.1 in ap (λ (o : Op). call_by o.name o.part) same ∙ op_of.2

  pub enqueue_of_call : (v : ℤ) → p.call ≡ calls.Enqueue v → IsEnqueueOf ms p.id v
  enqueue_of_call v e = (op_of.0, op_of.1, enqueue_by op_of.0.name op_of.0.part v (op_of.2 ∙ e))

  pub call_of_enqueue : (v : ℤ) → IsEnqueueOf ms p.id v → p.call ≡ calls.Enqueue v
  call_of_enqueue v a = sym (same_call a.0 a.1) ∙ by_enqueues a.0 v a.2

  pub dequeue_of_call : p.call ≡ calls.Dequeue → Dequeues op_of.0
  dequeue_of_call e = dequeue_by op_of.0.name op_of.0.part (op_of.2 ∙ e)

  pub no_enqueue_of_call : p.call ≡ calls.Dequeue → (v : ℤ) → ¬ IsEnqueueOf ms p.id v
  no_enqueue_of_call e v a = let q : calls.Enqueue v ≡ calls.Dequeue = sym (call_of_enqueue v a) ∙ e in cc
