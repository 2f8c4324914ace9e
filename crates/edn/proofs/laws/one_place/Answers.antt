use Rattle.std.proofs.Common.{◌≡◌, ℕ, ◌<◌, arith}
use Rattle.edn.proofs.laws.one_place.Goals as goal

neither_more : (m n : ℕ) → (m < n → ⊥) → (n < m → ⊥) → m ≡ n
neither_more m n f g = grind arith

pub returns : goal.returns
returns c bytes m n p q = neither_more m n (λ l. p.longest n l q.is_prefix) (λ l. q.longest m l p.is_prefix)
