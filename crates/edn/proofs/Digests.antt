-- Numbers of values: as they are computed, and that equal values have the same one
use Rattle.std.proofs.Common.{◌≡◌, ℕ, ◌+◌, ◌<◌, ◌%◌, ◌^◌, List, [], ◌∷◌, ◌++◌, inl, inr, refl, sym, ap, ap₂, ◌∙◌, arith, take, length, get_or}
use Rattle.std.proofs.lemmas.List.{take_more}
use Rattle.std.proofs.Math.Nat.{add-mod-mod, mod-add-mod}
use Rattle.edn.specs.declared.value.Edn.{Edn}
use Rattle.edn.specs.Value.{Value, nil, bool, int, text, keyword, vector, pairs, members, Values, none, more, joined, Pairs, no_pairs, pair, TakesOut, TakesPairOut, Same, SameInOrder, SameMembers, SamePairs}
use Rattle.edn.specs.View.{value_of, values_of, entries_of}
use Rattle.edn.specs.Digest.{stirred, digest, digest_bytes, digest_in_order, digest_members, digest_pairs}
use Rattle.edn.proofs.Matching as each
use Rattle.edn.proofs.PairMatching as paired
use Rattle.edn.proofs.PairMatching.{linked}

-- a pair's number
abbrev pub digest_pair : Value → Value → ℕ
digest_pair k v = stirred ((stirred (digest k) + digest v) % 2 ^ 64)

-- one byte more
bytes_push : (told : ℕ) (bytes : List ℕ) (b : ℕ) → digest_bytes told (bytes ++ b ∷ []) ≡ stirred ((digest_bytes told bytes + b) % 2 ^ 64)
bytes_push told [] b = refl
bytes_push told (a ∷ bytes) b = bytes_push (stirred ((told + a) % 2 ^ 64)) bytes b

pub bytes_more : (told : ℕ) (bytes : List ℕ) (i b : ℕ) → i < length bytes → b ≡ get_or bytes i 0
    → stirred ((digest_bytes told (take i bytes) + b) % 2 ^ 64) ≡ digest_bytes told (take (i + 1) bytes)
bytes_more told bytes i b within is =
    sym (ap (digest_bytes told) (take_more bytes i 0 within ∙ ap (λ y. take i bytes ++ y ∷ []) (sym is)) ∙ bytes_push told (take i bytes) b)

-- one element more, in order
order_push : (told : ℕ) (vs : Values) (v : Value) → digest_in_order told (joined vs (more v none)) ≡ stirred ((digest_in_order told vs + digest v) % 2 ^ 64)
order_push told none v = refl
order_push told (more u vs) v = order_push (stirred ((told + digest u) % 2 ^ 64)) vs v

pub order_more : (xs : List Edn) (i : ℕ) (x : Edn) → i < length xs → x ≡ get_or xs i x
    → stirred ((digest_in_order 6 (values_of (take i xs)) + digest (value_of x)) % 2 ^ 64) ≡ digest_in_order 6 (values_of (take (i + 1) xs))
order_more xs i x within is = sym (ap (digest_in_order 6) (each.seen_more xs i x within is) ∙ order_push 6 (values_of (take i xs)) (value_of x))

-- sums are the same in any order
swapped : (a b s : ℕ) → (a + (b + s) % 2 ^ 64) % 2 ^ 64 ≡ (b + (a + s) % 2 ^ 64) % 2 ^ 64
swapped a b s =
    add-mod-mod a (b + s) (2 ^ 64) ∙ ap (λ (n : ℕ). n % 2 ^ 64) (let e : a + (b + s) ≡ b + (a + s) = omega arith in e) ∙ sym (add-mod-mod b (a + s) (2 ^ 64))

further : (a b s : ℕ) → (a + (s + b) % 2 ^ 64) % 2 ^ 64 ≡ ((a + s) % 2 ^ 64 + b) % 2 ^ 64
further a b s =
    add-mod-mod a (s + b) (2 ^ 64) ∙ ap (λ (n : ℕ). n % 2 ^ 64) (let e : a + (s + b) ≡ (a + s) + b = omega arith in e) ∙ sym (mod-add-mod (a + s) (2 ^ 64) b)

turned : (a : ℕ) → (a + 0) % 2 ^ 64 ≡ (0 + a) % 2 ^ 64
turned a = ap (λ (n : ℕ). n % 2 ^ 64) (let e : a + 0 ≡ 0 + a = omega arith in e)

-- one member more
members_push : (vs : Values) (v : Value) → digest_members (joined vs (more v none)) ≡ (digest_members vs + digest v) % 2 ^ 64
members_push none v = turned (digest v)
members_push (more u vs) v = ap (λ n. (digest u + n) % 2 ^ 64) (members_push vs v) ∙ further (digest u) (digest v) (digest_members vs)

pub members_more : (xs : List Edn) (i : ℕ) (x : Edn) → i < length xs → x ≡ get_or xs i x
    → (digest_members (values_of (take i xs)) + digest (value_of x)) % 2 ^ 64 ≡ digest_members (values_of (take (i + 1) xs))
members_more xs i x within is = sym (ap digest_members (each.seen_more xs i x within is) ∙ members_push (values_of (take i xs)) (value_of x))

-- one pair more
pairs_push : (ps : Pairs) (k v : Value) → digest_pairs (linked ps (pair k v no_pairs)) ≡ (digest_pairs ps + digest_pair k v) % 2 ^ 64
pairs_push no_pairs k v = turned (digest_pair k v)
pairs_push (pair l w ps) k v = ap (λ n. (digest_pair l w + n) % 2 ^ 64) (pairs_push ps k v) ∙ further (digest_pair l w) (digest_pair k v) (digest_pairs ps)

pub pairs_more : (xs : List (Edn × Edn)) (i : ℕ) (x : Edn × Edn) → i < length xs → x ≡ get_or xs i x
    → (digest_pairs (entries_of (take i xs)) + digest_pair (value_of x.0) (value_of x.1)) % 2 ^ 64 ≡ digest_pairs (entries_of (take (i + 1) xs))
pairs_more xs i x within is = sym (ap digest_pairs (paired.seen_more xs i x within is) ∙ pairs_push (entries_of (take i xs)) (value_of x.0) (value_of x.1))

-- with one taken out
without_member : (ws rest : Values) (w : Value) → TakesOut ws w rest → digest_members ws ≡ (digest w + digest_members rest) % 2 ^ 64
without_member none rest w t = absurd t
without_member (more u us) rest w (inl t) = ap₂ (λ a b. (digest a + digest_members b) % 2 ^ 64) t.0 t.1
without_member (more u us) rest w (inr t) =
    ap (λ n. (digest u + n) % 2 ^ 64) (without_member us t.0 w t.2) ∙ swapped (digest u) (digest w) (digest_members t.0)
    ∙ ap (λ r. (digest w + digest_members r) % 2 ^ 64) (sym t.1)

without_pair : (qs rest : Pairs) (l w : Value) → TakesPairOut qs l w rest → digest_pairs qs ≡ (digest_pair l w + digest_pairs rest) % 2 ^ 64
without_pair no_pairs rest l w t = absurd t
without_pair (pair j u qs) rest l w (inl t) =
    ap₂ (λ a b. (digest_pair a b + digest_pairs qs) % 2 ^ 64) t.0 t.1 ∙ ap (λ r. (digest_pair l w + digest_pairs r) % 2 ^ 64) t.2
without_pair (pair j u qs) rest l w (inr t) =
    ap (λ n. (digest_pair j u + n) % 2 ^ 64) (without_pair qs t.0 l w t.2) ∙ swapped (digest_pair j u) (digest_pair l w) (digest_pairs t.0)
    ∙ ap (λ r. (digest_pair l w + digest_pairs r) % 2 ^ 64) (sym t.1)

mutual
  pub same_digest : (v w : Value) → Same v w → digest v ≡ digest w
  same_digest nil w s = ap digest (sym s)
  same_digest (bool b) w s = ap digest (sym s)
  same_digest (int z) w s = ap digest (sym s)
  same_digest (text t) w s = ap digest (sym s)
  same_digest (keyword t) w s = ap digest (sym s)
  same_digest (vector vs) w s = same_in_order 6 vs s.0 s.2 ∙ ap digest (sym s.1)
  same_digest (pairs ps) w s = ap (λ n. stirred ((7 + n) % 2 ^ 64)) (same_pairs ps s.0 s.2) ∙ ap digest (sym s.1)
  same_digest (members vs) w s = ap (λ n. stirred ((8 + n) % 2 ^ 64)) (same_members vs s.0 s.2) ∙ ap digest (sym s.1)

  same_in_order : (told : ℕ) (vs ws : Values) → SameInOrder vs ws → digest_in_order told vs ≡ digest_in_order told ws
  same_in_order told none ws s = ap (digest_in_order told) (sym s)
  same_in_order told (more v vs) ws s =
      ap (λ n. digest_in_order (stirred ((told + n) % 2 ^ 64)) vs) (same_digest v s.0 s.3) ∙ same_in_order (stirred ((told + digest s.0) % 2 ^ 64)) vs s.1 s.4
      ∙ ap (digest_in_order told) (sym s.2)

  same_members : (vs ws : Values) → SameMembers vs ws → digest_members vs ≡ digest_members ws
  same_members none ws s = ap digest_members (sym s)
  same_members (more v vs) ws s =
      ap₂ (λ (a b : ℕ). (a + b) % 2 ^ 64) (same_digest v s.0 s.3) (same_members vs s.1 s.4) ∙ sym (without_member ws s.1 s.0 s.2)

  same_pairs : (ps qs : Pairs) → SamePairs ps qs → digest_pairs ps ≡ digest_pairs qs
  same_pairs no_pairs qs s = ap digest_pairs (sym s)
  same_pairs (pair k v ps) qs s =
      ap₂ (λ (a b : ℕ). (a + b) % 2 ^ 64) (ap₂ (λ (a b : ℕ). stirred ((stirred a + b) % 2 ^ 64)) (same_digest k s.0 s.4) (same_digest v s.1 s.5)) (same_pairs ps s.2 s.6)
      ∙ sym (without_pair qs s.2 s.0 s.1 s.3)
