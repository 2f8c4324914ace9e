-- A set of the numbers of collections
use Rattle.std.proofs.Common.{◌≡◌, ◌≢◌, ℕ, Bool, true, false, Equal, cond, not, inl, inr, refl, sym, ap, ◌∙◌, subst}
use Rattle.std.specs.Ordering.{nat_cmp, is_eq}
use Rattle.std.specs.Cmp.{nat_cmp_is}
use Rattle.std.specs.BTreeMap.{is_at}
use Rattle.std.specs.BTreeSet.{BTreeSet, contains}
use Rattle.edn.specs.Value.{Value, nil, bool, int, text, keyword, vector, pairs, members, Values, none, more, joined, Same, IsNotAmong}
use Rattle.edn.specs.Scalar.{IsCollection}
use Rattle.edn.specs.Digest.{digest, HasDigests}
use Rattle.edn.proofs.Digests.{same_digest}
use Rattle.edn.proofs.Repeats.{Among, not_among}

-- a value that is the same as a collection is one
same_collection : (v w : Value) → IsCollection v → Same v w → IsCollection w
same_collection nil w i s = absurd i
same_collection (bool b) w i s = absurd i
same_collection (int z) w i s = absurd i
same_collection (text t) w i s = absurd i
same_collection (keyword t) w i s = absurd i
same_collection (vector vs) w i s = subst IsCollection (sym s.1) tt
same_collection (pairs ps) w i s = subst IsCollection (sym s.1) tt
same_collection (members vs) w i s = subst IsCollection (sym s.1) tt

-- a collection whose number is not there is the same as none of them
pub new_number : (s : BTreeSet ℕ) (vs : Values) (v : Value) → IsCollection v → HasDigests s vs → contains nat_cmp s (digest v) ≢ true → IsNotAmong v vs
new_number s vs v i told new = not_among v vs (λ a. new (there vs told a))
  where
    there : (ws : Values) → HasDigests s ws → Among v ws → contains nat_cmp s (digest v) ≡ true
    there none t a = absurd a
    there (more w ws) t (inl same) = ap (contains nat_cmp s) (same_digest v w same) ∙ t.0 (same_collection v w i same)
    there (more w ws) t (inr a) = there ws t.1 a

-- one number more
kept : (s t : BTreeSet ℕ) (k q : ℕ) → contains nat_cmp t q ≡ cond (is_at (nat_cmp k) q) true (contains nat_cmp s q) → contains nat_cmp s q ≡ true → contains nat_cmp t q ≡ true
kept s t k q updated had = updated ∙ go (is_at (nat_cmp k) q)
  where
    go : (b : Bool) → cond b true (contains nat_cmp s q) ≡ true
    go true = refl
    go false = had

pub told_kept : (s t : BTreeSet ℕ) (vs : Values) (k : ℕ) → ((q : ℕ) → contains nat_cmp t q ≡ cond (is_at (nat_cmp k) q) true (contains nat_cmp s q)) → HasDigests s vs → HasDigests t vs
told_kept s t none k updated told = tt
told_kept s t (more v vs) k updated told = ((λ i. kept s t k (digest v) (updated (digest v)) (told.0 i)), told_kept s t vs k updated told.1)

pub told_push : (s : BTreeSet ℕ) (vs : Values) (v : Value) → HasDigests s vs → (IsCollection v → contains nat_cmp s (digest v) ≡ true) → HasDigests s (joined vs (more v none))
told_push s none v told one = (one, tt)
told_push s (more u us) v told one = (told.0, told_push s us v told.1 one)

at_itself : (k : ℕ) → is_at (nat_cmp k) k ≡ true
at_itself k = ap is_eq (sym (nat_cmp_is k k Equal refl))

pub number_there : (s t : BTreeSet ℕ) (k : ℕ) → ((q : ℕ) → contains nat_cmp t q ≡ cond (is_at (nat_cmp k) q) true (contains nat_cmp s q)) → contains nat_cmp t k ≡ true
number_there s t k updated = updated k ∙ ap (λ b. cond b true (contains nat_cmp s k)) (at_itself k)

-- whether the number is new
pub is_new_number : (b c : Bool) → b ≡ not c → b ≡ true → c ≢ true
is_new_number b true e f = λ _. cc (e, f)
is_new_number b false e f = λ g. cc g
