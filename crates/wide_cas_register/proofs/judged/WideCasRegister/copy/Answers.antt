use Rattle.std.proofs.Common.{refl}
use Rattle.wide_cas_register.proofs.Copies.{are_same_back, facts_same}
use Rattle.wide_cas_register.proofs.judged.WideCasRegister.copy.Goals as goal

pub returns : goal.returns
returns c =
    let kept = c.args.self.now.kept in
    let made = c.in_ok-copy.field-0 in
    record {
      same = λ marks. (facts_same made kept (are_same_back kept made c.in_ok-copy.ensures) marks, facts_same kept made c.in_ok-copy.ensures marks);
      budget = refl;
      applied = refl;
    }
