use Rattle.std.proofs.Common.{◌≡◌, ◌<◌, ℕ, sym, subst, arith}
use Rattle.edn.specs.Bytes.{IsEscape}
use Rattle.edn.specs.Bytes.IsEscape.{tab, carriage_return, line_feed, backslash, quote}
use Rattle.plain_events.proofs.strings.unescaped.Goals as goal

escapes : (letter a b : ℕ) → letter ≡ a → IsEscape a b → b < 128 → IsEscape letter b × (b < 128)
escapes letter a b e i small = (subst (λ l. IsEscape l b) (sym e) i, small)

pub returns-in-116 : goal.returns-in-116
returns-in-116 c = escapes _ 116 9 c.in-116.is tab (omega arith)

pub returns-in-114 : goal.returns-in-114
returns-in-114 c = escapes _ 114 13 c.in-114.is carriage_return (omega arith)

pub returns-in-110 : goal.returns-in-110
returns-in-110 c = escapes _ 110 10 c.in-110.is line_feed (omega arith)

pub returns-in-92 : goal.returns-in-92
returns-in-92 c = escapes _ 92 92 c.in-92.is backslash (omega arith)

pub returns-in-34 : goal.returns-in-34
returns-in-34 c = escapes _ 34 34 c.in-34.is quote (omega arith)
