-- the operation is a read exactly if it is one by its name and part
use Rattle.std.proofs.Common.{◌≡◌, Some, refl, ap, ◌∙◌}
use Rattle.models.specs.declared.operation.Name.{Name}
use Rattle.models.specs.declared.operation.Name.TheVariants.{Read, Write, Cas}
use Rattle.models.specs.declared.operation.Part.{Part}
use Rattle.models.specs.declared.operation.Part.TheVariants.{Nil, Int, Pair}
use Rattle.models.specs.declared.operation.Op.{Op}
use Rattle.linspec.specs.LeanEnds.{Reads as ReadsBy}
use Rattle.wide_cas_register.specs.declared.calls.What.TheVariants.{Reads}
use Rattle.wide_cas_register.specs.Facts.{what_by}

pub reads_by : (name : Name) (part : Part) → what_by name part ≡ Some Reads → (name ≡ Read) × (part ≡ Nil)
reads_by Read Nil e = (refl, refl)
reads_by Write (Int v) e = cc
reads_by Cas (Pair a b) e = cc
reads_by _ _ e = cc

pub by_reads : (op : Op) → ReadsBy op → what_by op.name op.part ≡ Some Reads
by_reads op r = ap (λ n. what_by n op.part) r.0 ∙ ap (what_by Read) r.1
