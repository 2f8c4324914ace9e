-- One read more, over which no reply is held back.
use Rattle.std.proofs.Common.{◌≡◌, ℕ, Bool, true, false, List, [], ◌∷◌, ◌++◌, ap, refl, sym, ◌∙◌, subst, append-nil, append_assoc}
use Rattle.std.specs.Prelude.{Option, None, Some}
use Rattle.std.specs.Io.KnownBytes.{Consumes}
use Rattle.std.proofs.KnownBytes.{Consumes-nil, Consumes-trans}
use Rattle.line_loop.specs.Logs.{Logged, Kept, KeepsRead}
use Rattle.line_loop.specs.Live.{HasAnswered, HoldsNothingBack, IsLive}
use Rattle.line_loop.specs.BetweenReads.{Reading, between, Stands}
use Rattle.line_loop.proofs.Running.{up_to_date}

pub kept_nothing : (a : Option (List Logged)) → Kept a a []
kept_nothing None = tt
kept_nothing (Some xs) = sym (append-nil xs)

pub kept_more : (a b c : Option (List Logged)) (xs ys : List Logged) → Kept a b xs → Kept b c ys → Kept a c (xs ++ ys)
kept_more None b c xs ys p q = tt
kept_more (Some x) None c xs ys p q = absurd p
kept_more (Some x) (Some y) None xs ys p q = absurd q
kept_more (Some x) (Some y) (Some z) xs ys p q = q ∙ ap (λ l. l ++ ys) p ∙ append_assoc x xs ys

module _ {S : Type 0} (may : S → List ℕ → List ℕ → S → Type 0) (is_closed : S → Bool) where
  pub holds_more : (old : S) (before : Option (List ℕ)) (first seen : List ℕ) (reads : List Logged) (one : Logged) → HoldsNothingBack may is_closed old before first reads seen → HasAnswered may is_closed old before seen one
      → HoldsNothingBack may is_closed old before first (reads ++ one ∷ []) (seen ++ one.bytes)
  holds_more old before first seen [] one same here = (subst (λ l. HasAnswered may is_closed old before l one) same here, ap (λ l. l ++ one.bytes) same)
  holds_more old before first seen (read ∷ reads) one p here = (p.0, holds_more old before (first ++ read.bytes) seen reads one p.1 here)

  -- nothing was read yet
  abbrev pub lives_first : (old : S) (before left : Option (List ℕ)) (log : Option (List Logged)) → IsLive may is_closed old before left left log log
  lives_first old before left log = record { seen = []; read = Consumes-nil left; reads = []; kept = kept_nothing log; ready = refl }

  -- a read of these bytes, before which all replies were written and flushed, and the machine was open
  abbrev pub lives_more : {M : Type 0} (state : M → S) (old : S) (before left mid left' : Option (List ℕ)) (log log' log'' : Option (List Logged)) (session : Reading M) (written : Option (List ℕ)) (is_flushed : Bool) (bytes : List ℕ)
      → (live : IsLive may is_closed old before left mid log log') → Stands may old before live.seen (between state session written) → session.replies ≡ [] → is_flushed ≡ true → is_closed (state session.machine) ≡ false
      → Consumes mid left' bytes → KeepsRead log' log'' written is_flushed bytes → IsLive may is_closed old before left left' log log''
  lives_more state old before left mid left' log log' log'' session written is_flushed bytes live stands none flushed is_open took kept = record {
    seen = live.seen ++ bytes;
    read = Consumes-trans left mid left' live.seen bytes live.read took;
    reads = live.reads ++ record { held = written; is_flushed = is_flushed; bytes = bytes } ∷ [];
    kept = kept_more log log' log'' live.reads (record { held = written; is_flushed = is_flushed; bytes = bytes } ∷ []) live.kept kept;
    ready = holds_more old before [] live.seen live.reads (record { held = written; is_flushed = is_flushed; bytes = bytes }) live.ready
        (record { here = state session.machine; answered = up_to_date may state old before live.seen session written none stands; flushed = flushed; is_open = is_open });
  }
