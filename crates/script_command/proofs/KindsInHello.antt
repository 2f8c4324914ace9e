-- The kinds of the hello line
use Rattle.std.proofs.Common.{refl, inl, inr}
use Rattle.models.specs.Objects.{IsOneOf}
use Rattle.kinds.specs.declared.model_kind.ModelKind.{ModelKind}
use Rattle.kinds.specs.declared.model_kind.ModelKind.TheVariants.{Register, CasRegister, Mutex, FifoQueue, Set, UnorderedQueue, WideRegister, WideCasRegister, WideSet, WideFifoQueue, WideUnorderedQueue}
use Rattle.script_command.specs.declared.hello.TheConstants.{KINDS}

-- each kind is in it
pub one_of_kinds : (kind : ModelKind) → IsOneOf KINDS.now kind
one_of_kinds Register = inl refl
one_of_kinds CasRegister = inr (inl refl)
one_of_kinds Mutex = inr (inr (inl refl))
one_of_kinds FifoQueue = inr (inr (inr (inl refl)))
one_of_kinds Set = inr (inr (inr (inr (inl refl))))
one_of_kinds UnorderedQueue = inr (inr (inr (inr (inr (inl refl)))))
one_of_kinds WideRegister = inr (inr (inr (inr (inr (inr (inl refl))))))
one_of_kinds WideCasRegister = inr (inr (inr (inr (inr (inr (inr (inl refl)))))))
one_of_kinds WideSet = inr (inr (inr (inr (inr (inr (inr (inr (inl refl))))))))
one_of_kinds WideFifoQueue = inr (inr (inr (inr (inr (inr (inr (inr (inr (inl refl)))))))))
one_of_kinds WideUnorderedQueue = inr (inr (inr (inr (inr (inr (inr (inr (inr (inr (inl refl))))))))))
