-- commands with options, as a parse reads them
use Rattle.std.proofs.Common.{◌≡◌, ◌&&◌, Bool, true, false, not, refl, ap, ap₂, ◌∙◌}
use Rattle.clap.specs.Words.{AddsArg, AddsSubcommand, App, Rule, app_of, rule_of, with_rule, with_subcommand}
use Rattle.clap.specs.declared.builder.arg.Arg.{Arg}
use Rattle.clap.specs.declared.builder.command.Command.{Command}

third : (a b c d : Bool) → (a && (b && (not c && d))) ≡ true → c ≡ false
third true true false d h = refl
third true true true d h = cc
third true false c d h = cc
third false b c d h = cc

-- one more argument
pub more_arg : (old new : Command) (a : Arg) (A : App) (r : Rule) → AddsArg old a new → a.global ≡ false
    → app_of old ≡ A → rule_of a ≡ r → app_of new ≡ with_rule A r
more_arg old new a A r h g e f = h.shape g ∙ ap₂ with_rule e f

-- one more command, of which a parse reads no global argument
pub more_command : (old sub new : Command) (A : App) (B : App) → AddsSubcommand old sub new → B.top.is_plain ≡ true
    → app_of old ≡ A → app_of sub ≡ B → app_of new ≡ with_subcommand A B.top
more_command old sub new A B h p e f =
    h.shape (third _ _ _ _ (ap (λ (a : App). a.top.is_plain) f ∙ p)) ∙ ap₂ with_subcommand e (ap (λ (a : App). a.top) f)
