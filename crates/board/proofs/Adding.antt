-- A legal tape goes on by a step of the object.
use Rattle.std.proofs.Common.{◌≡◌, ℕ, List, [], ◌∷◌, ◌++◌, ◌+◌, length, refl, sym, ap, ◌∙◌, subst, length-append}
use Rattle.board.specs.declared.tape.TapeEntry.{TapeEntry}
use Rattle.board.specs.declared.tape.TapeEntry.TheVariants.{Opening, Call}
use Rattle.board.specs.declared.tape.NewEntry.{NewEntry}
use Rattle.board.specs.Tape.{Runs, Leads}
use Rattle.board.specs.TapeRule.{entry_of}

module _ {S C R : Type 0} (replies : S → C → R → S → Type 0) where
  runs_on : (s mid end : S) (ls : List (TapeEntry S C R)) (seat : ℕ) (c : C) (r : R) → Runs replies s ls mid → replies mid c r end → Runs replies s (ls ++ Call seat c r ∷ []) end
  runs_on s mid end [] seat c r run one = (end, subst (λ z. replies z c r end) (sym run) one, refl)
  runs_on s mid end (Call a b d ∷ ls) seat c r run one = (run.0, run.1, runs_on run.0 mid end ls seat c r run.2 one)
  runs_on s mid end (Opening o ∷ ls) seat c r run one = absurd run

  leads_on : (tape : List (TapeEntry S C R)) (mid end : S) (seat : ℕ) (c : C) (r : R) → Leads replies tape mid → replies mid c r end → Leads replies (tape ++ Call seat c r ∷ []) end
  leads_on [] mid end seat c r run one = absurd run
  leads_on (Opening o ∷ ls) mid end seat c r run one = runs_on o mid end ls seat c r run one
  leads_on (Call a b d ∷ ls) mid end seat c r run one = absurd run

  -- a legal tape and a new entry, which says what the object did, lead to where that leads
  pub leads_new : (tape whole new : List (TapeEntry S C R)) (mid end : S) (entry : NewEntry C R) (c : C) (r : R)
      → entry.command.value ≡ c → entry.reply.value ≡ r → whole ≡ tape ++ entry_of entry ∷ [] → new ≡ whole
      → Leads replies tape mid → replies mid c r end → Leads replies new end
  leads_new tape whole new mid end entry c r said kept added same run one =
      let step : replies mid entry.command.value entry.reply.value end =
      subst (λ x. replies mid x entry.reply.value end) (sym said) (subst (λ y. replies mid c y end) (sym kept) one) in
      let leads = leads_on tape mid end entry.seat entry.command.value entry.reply.value run step in
      subst (λ t. Leads replies t end) (sym same) (subst (λ t. Leads replies t end) (sym added) leads)

module _ {S C R : Type 0} where
  -- the new entry is the last of the whole tape
  pub ends_new : (tape whole new : List (TapeEntry S C R)) (entry : NewEntry C R) (seat : ℕ) (c : C) (r : R) → entry.seat ≡ seat
      → entry.command.value ≡ c → entry.reply.value ≡ r → whole ≡ tape ++ entry_of entry ∷ [] → new ≡ whole
      → new ≡ tape ++ Call seat c r ∷ []
  ends_new tape whole new entry seat c r by said kept added same =
      let line : entry_of entry ≡ Call seat c r = λ i. Call (by i) (said i) (kept i) in
      same ∙ (added ∙ ap (λ l. tape ++ l ∷ []) line)

  pub length_new : (tape whole : List (TapeEntry S C R)) (entry : NewEntry C R) → whole ≡ tape ++ entry_of entry ∷ []
      → length whole ≡ length tape + 1
  length_new tape whole entry added = ap length added ∙ length-append tape (entry_of entry ∷ [])
