-- Known bytes of a writer, a part at a time.
use Rattle.std.proofs.Common.{◌≡◌, ℕ, refl, ◌+◌, ◌-◌, List, [], ◌++◌, length, take, drop, sym, subst, ap, ◌∙◌, length-drop, append-nil, append_assoc}
use Rattle.std.proofs.Math.Seq.{take-add, take-length}
use Rattle.std.specs.Prelude.{Option, None, Some}
use Rattle.std.specs.Io.KnownBytes.{Appends, append_known}
use Rattle.std.proofs.KnownBytes.{Appends-trans}

-- a part more
pub Appends-take : (a b c : Option (List ℕ)) (text : List ℕ) (i n m : ℕ) → m ≡ length text - i → Appends a b (take i text) → Appends b c (take n (take m (drop i text))) → Appends a c (take (i + n) text)
Appends-take a b c text i n m e p q =
    let all : take m (drop i text) ≡ drop i text = ap (λ k. take k (drop i text)) (e ∙ sym (length-drop i text)) ∙ take-length (drop i text) in
    let rest = subst (λ l. Appends b c (take n l)) all q in
    subst (Appends a c) (sym (take-add i n text)) (Appends-trans a b c _ _ p rest)

pub Appends-then_nil : (a b c : Option (List ℕ)) (bs : List ℕ) → Appends a b bs → Appends b c [] → Appends a c bs
Appends-then_nil a b c bs p q = subst (Appends a c) (append-nil bs) (Appends-trans a b c bs [] p q)

-- the text to be written grows
pub Appends-more : (a : Option (List ℕ)) (old new bytes : List ℕ) → new ≡ old ++ bytes → Appends (append_known a old) (append_known a new) bytes
Appends-more None old new bytes e = tt
Appends-more (Some x) old new bytes e = ap (λ l. x ++ l) e ∙ sym (append_assoc x old bytes)

-- with nothing to be written
pub Appends-to_none : (a : Option (List ℕ)) → Appends a (append_known a []) []
Appends-to_none None = tt
Appends-to_none (Some x) = refl

pub Appends-of_none : (a : Option (List ℕ)) → Appends (append_known a []) a []
Appends-of_none None = tt
Appends-of_none (Some x) = sym (append-nil _ ∙ append-nil x)

-- nothing is written before what is to be
pub Appends-under : (a b : Option (List ℕ)) (bytes : List ℕ) → Appends a b [] → Appends (append_known a bytes) (append_known b bytes) []
Appends-under None b bytes p = tt
Appends-under (Some x) None bytes p = absurd p
Appends-under (Some x) (Some y) bytes p = ap (λ l. l ++ bytes) (p ∙ append-nil x) ∙ sym (append-nil (x ++ bytes))

-- the text that was to be written has been written
pub Appends-written : (a b c : Option (List ℕ)) (bytes text : List ℕ) → Appends a (append_known b bytes) text → Appends b c bytes → Appends a c text
Appends-written None b c bytes text p q = tt
Appends-written (Some x) None c bytes text p q = absurd p
Appends-written (Some x) (Some y) None bytes text p q = absurd q
Appends-written (Some x) (Some y) (Some z) bytes text p q = q ∙ p
