-- states, and an index of their hashes
use Rattle.std.proofs.Common.{◌≡◌, ◌≢◌, ℕ, List, [], ◌∷◌, ◌++◌, Some, map, length, slice_get, get_or, sym, ap, ◌∙◌, subst}
use Rattle.std.specs.Hash.{HashWrites}
use Rattle.std.proofs.lemmas.List.{map_push, length-map}
use Rattle.std.proofs.lemmas.Option.{slice_get_within, get_or_from_slice_get}
use Rattle.interner.specs.Numbers.{IsOnceIn}
use Rattle.buckets.specs.Hashes.{hash_by}
use Rattle.buckets.specs.Index.{Indexes, hash_bucket}
use Rattle.interner.specs.Index.{AreStates}
use Rattle.interner.proofs.Lists.{mapped_at, once_push, place_of}

module _ {S : Type 0} (feeds : S → HashWrites) (items : List S) (hashes : List ℕ) (hashed : hashes ≡ map (hash_by feeds) items) where
  -- the hash of the value at some place
  pub hash_at : (j : ℕ) (s : S) → slice_get items j ≡ Some s → get_or hashes j 0 ≡ hash_by feeds s
  hash_at j s e =
      ap (λ l. get_or l j 0) hashed
      ∙ get_or_from_slice_get (map (hash_by feeds) items) j (hash_by feeds s) 0 (mapped_at (hash_by feeds) items j s (slice_get_within items j s e) (sym (get_or_from_slice_get items j s s e)))

  pub long : length hashes ≡ length items
  long = ap length hashed ∙ length-map items (hash_by feeds)

  -- one more, which is new
  pub with_one : (state : S) (hash : ℕ) (more : List S) (with_its last before : List ℕ) → hash ≡ hash_by feeds state → IsOnceIn items → ((at : ℕ) → slice_get items at ≢ Some state)
      → more ≡ items ++ state ∷ [] → with_its ≡ hashes ++ hash ∷ [] → Indexes hash_bucket with_its last before → AreStates feeds more with_its last before
  with_one state hash more with_its last before is once new push its index = record {
    once = subst IsOnceIn (sym push) (once_push items state (λ h. let p = place_of items state h in new p.0 p.1) once);
    hashed = its ∙ (λ i. hashed i ++ is i ∷ []) ∙ sym (map_push (hash_by feeds) items state) ∙ ap (map (hash_by feeds)) (sym push);
    index = index;
  }
