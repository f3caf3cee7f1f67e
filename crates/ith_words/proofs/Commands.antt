-- A program to which commands were added one after the other has them below it, in their order.
use Rattle.std.proofs.Common.{◌≡◌, List, [], ◌∷◌, ◌++◌, All, false, map, sym, ap, ◌∙◌, subst}
use Rattle.std.proofs.lemmas.List.{map-append}
use Rattle.std.proofs.lemmas.List.Elements.{All-head, All-tail, All-push}
use Rattle.clap.specs.Words.{AddsInTurn, AddsSubcommand, App, app_of}
use Rattle.clap.specs.declared.builder.command.Command.{Command}
use Rattle.clap.specs.declared.builder.command.Command.TheViews.{out-Command}
use Rattle.ith_words.specs.Words.{with_commands}

abbrev pub IsLocal : Command → Type 0
IsLocal c = (out-Command c).has_globals ≡ false

pub below_in_turn :
    (old new : Command) (commands : List Command)
    → All IsLocal commands → AddsInTurn AddsSubcommand old commands new
    → app_of new ≡ with_commands (app_of old) (map app_of commands)
below_in_turn old new [] local same = ap app_of (sym same)
below_in_turn old new (command ∷ commands) local (between, adds, rest) =
    below_in_turn between new commands (All-tail IsLocal command commands local) rest
    ∙ ap (λ (app : App). with_commands app (map app_of commands)) (adds.shape (All-head IsLocal command commands local))

-- one more command
pub shapes_push :
    (commands more : List Command) (command : Command) (app : App)
    → more ≡ commands ++ command ∷ [] → app_of command ≡ app
    → map app_of more ≡ map app_of commands ++ app ∷ []
shapes_push commands more command app is one =
    ap (map app_of) is
    ∙ map-append app_of commands (command ∷ [])
    ∙ ap (λ (a : App). map app_of commands ++ a ∷ []) one

pub locals_push :
    (commands more : List Command) (command : Command)
    → more ≡ commands ++ command ∷ [] → All IsLocal commands → IsLocal command → All IsLocal more
locals_push commands more command is local one =
    subst (All IsLocal) (sym is) (All-push IsLocal commands command local one)
