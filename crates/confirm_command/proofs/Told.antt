-- the written line
use Rattle.std.proofs.Common.{◌≡◌, ◌≢◌, ℕ, inl, inr, Bool, Option, Some, None, IfSome, IfOk, Result, Ok, Err, String, string_bytes, List, [], ◌∷◌, refl, sym, ap, ◌∙◌, subst, arith}
use Rattle.std.specs.Prelude.{codes}
use Rattle.std.specs.declared.alloc.AllocError.{AllocError}
use Rattle.std.specs.declared.alloc.Global.{Global}
use Rattle.std.specs.Fmt.{decimal}
use Rattle.std.proofs.lemmas.Fmt.{decimal-digits_of}
use Rattle.edn.specs.declared.refusal.Refusal.TheVariants.{NoMemory, ReadFailed}
use Rattle.line_loop.specs.RefusalLine.{line_of}
use Rattle.check_command.specs.Checks.{IsPut}
use Rattle.confirm_command.specs.declared.found.Found.{Found}
use Rattle.confirm_command.specs.declared.found.Found.TheVariants.{Refused, RefusedOrder}
use Rattle.confirm_command.specs.Found.{found_text, found_status, order_line}
use Rattle.confirm_command.specs.Telling.{PutsLine}
use Rattle.confirm_command.specs.Confirms.{StandsFor, IsTold}

pub if_some_so : {X : Type 0} {P Q : X → Type 0} (o : Option X) → ((x : X) → P x → Q x) → IfSome o P → IfSome o Q
if_some_so (Some x) so p = so x p
if_some_so None so p = tt

twenty : decimal 20 ≡ 50 ∷ 48 ∷ []
twenty = decimal-digits_of 20 (omega arith) (omega arith)

-- the line of an order whose reader failed, spelled out
pub order_failed_line : (bytes : List ℕ) → bytes ≡ codes "refused 20 ReadFailed order\n" → bytes ≡ order_line ReadFailed
order_failed_line bytes is = is ∙ ap (λ d. line_of (codes "refused " ∷ d ∷ codes " " ∷ codes "ReadFailed" ∷ [] ∷ codes " order" ∷ [])) (sym twenty)

-- the line of the finding was put, or that of out of memory
module _ (before after : Option (List ℕ)) (write_failed is_flushed : Bool) (status : ℕ) where
  pub told_line : (found : Found) → found ≢ Refused ReadFailed → found ≢ RefusedOrder ReadFailed → (line : Result (String Global) AllocError) → IfOk line (λ text. string_bytes text ≡ found_text found)
      → (n : ℕ) → n ≡ found_status found → PutsLine line n before after write_failed is_flushed status
      → (told : Found) × StandsFor told found × IsTold told before after write_failed is_flushed status
  told_line found a b (Ok text) is n same put = (
    found,
    inl refl,
    subst (λ l. IsPut l (found_status found) before after write_failed is_flushed status) is
        (subst (λ s. IsPut (string_bytes text) s before after write_failed is_flushed status) same put),
  )
  told_line found a b (Err e) is n same put = (Refused NoMemory, inr (refl, a, b), put)
