-- The tape that is taken from the copy is the published one.
use Rattle.std.proofs.Common.{◌≡◌, Option, Some, None, ◌∙◌, MatchOption}

pub taken : {A B : Type 0} (writer : Option A) (held : A → B) (published found : B) → MatchOption writer ⊥ (λ w. held w ≡ published)
    → MatchOption writer ⊥ (λ w. found ≡ held w) → found ≡ published
taken (Some w) held published found shows finds = finds ∙ shows
taken None held published found shows finds = absurd shows

pub held_as : {A B : Type 0} (writer : Option A) (held : A → B) (published other : B) → MatchOption writer ⊥ (λ w. held w ≡ published)
    → published ≡ other → MatchOption writer ⊥ (λ w. held w ≡ other)
held_as (Some w) held published other shows same = shows ∙ same
held_as None held published other shows same = shows
