-- Promise: the names of operations, as texts
use Rattle.std.specs.Prelude.{ℕ, List, codes, Option, MatchOption}
use Rattle.models.specs.declared.operation.Name.{Name}
use Rattle.models.specs.declared.operation.Name.TheVariants.{Read, Write, Cas, Acquire, Release, Enqueue, Dequeue, Add}

-- how each name of an operation is spelled
abbrev pub text_of : Name → List ℕ
text_of Read = codes "read"
text_of Write = codes "write"
text_of Cas = codes "cas"
text_of Acquire = codes "acquire"
text_of Release = codes "release"
text_of Enqueue = codes "enqueue"
text_of Dequeue = codes "dequeue"
text_of Add = codes "add"

-- the optional value is such a thing; or there is none
abbrev pub Finds : {X : Type 0} → Option X → (X → Type 0) → Type 0
Finds {X} found P = MatchOption found ((x : X) → ¬ P x) P
