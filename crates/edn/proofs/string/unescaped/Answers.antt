use Rattle.std.proofs.Common.{◌≡◌, ℕ, ◌⊎◌, inl, inr, sym, subst}
use Rattle.edn.specs.Bytes.{IsEscape}
use Rattle.edn.specs.Bytes.IsEscape.{tab, carriage_return, line_feed, backslash, quote}
use Rattle.edn.proofs.string.unescaped.Goals as goal

pub returns-in-116-clause-found : goal.returns-in-116-clause-found
returns-in-116-clause-found c = subst (λ l. IsEscape l 9) (sym c.in-116.is) tab

pub returns-in-114-clause-found : goal.returns-in-114-clause-found
returns-in-114-clause-found c = subst (λ l. IsEscape l 13) (sym c.in-114.is) carriage_return

pub returns-in-110-clause-found : goal.returns-in-110-clause-found
returns-in-110-clause-found c = subst (λ l. IsEscape l 10) (sym c.in-110.is) line_feed

itself : (l : ℕ) → (l ≡ 34) ⊎ (l ≡ 92) → IsEscape l l
itself l (inl e) = subst (λ x. IsEscape x x) (sym e) quote
itself l (inr e) = subst (λ x. IsEscape x x) (sym e) backslash

pub returns-in-92-clause-found : goal.returns-in-92-clause-found
returns-in-92-clause-found c = itself _ c.in-92.is
