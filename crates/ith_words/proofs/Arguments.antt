-- A command to which arguments were added one after the other has their rules, in their order.
use Rattle.std.proofs.Common.{◌≡◌, List, [], ◌∷◌, ◌++◌, All, false, map, refl, sym, ap, ◌∙◌, subst}
use Rattle.std.proofs.lemmas.List.Elements.{All-head, All-tail, All-push}
use Rattle.clap.specs.Words.{AddsArg, AddsInTurn, App, Rule, Text, app_of, new_app, rule_of}
use Rattle.clap.specs.declared.builder.arg.Arg.{Arg}
use Rattle.clap.specs.declared.builder.command.Command.{Command}
use Rattle.clap.specs.declared.builder.command.Command.TheViews.{out-Command}
use Rattle.ith_words.specs.Arguments.{rule_in}
use Rattle.ith_words.specs.declared.argument.Argument.{Argument}
use Rattle.ith_words.specs.Words.{command, with_rules}

pub shape_in_turn :
    (old new : Command) (args : List Arg)
    → All (λ arg. arg.global ≡ false) args → AddsInTurn AddsArg old args new
    → app_of new ≡ with_rules (app_of old) (map rule_of args)
shape_in_turn old new [] local same = ap app_of (sym same)
shape_in_turn old new (arg ∷ args) local (between, adds, rest) =
    let here = All-head (λ a. a.global ≡ false) arg args local in
    let others = All-tail (λ a. a.global ≡ false) arg args local in
    shape_in_turn between new args others rest
    ∙ ap (λ (app : App). with_rules app (map rule_of args)) (adds.shape here)

-- operands, and options after them, were added to no arguments
pub rules_of_both :
    (none first both : List Arg) (operands options : List Argument)
    → none ≡ [] → map rule_of first ≡ map rule_of none ++ map rule_in operands
    → map rule_of both ≡ map rule_of first ++ map rule_in options
    → map rule_of both ≡ map rule_in operands ++ map rule_in options
rules_of_both none first both operands options empty one two = two ∙ rw (one, empty) refl

-- a new command to which the arguments of these rules were added
pub command_in_turn :
    (blank new : Command) (args : List Arg) (name : Text) (rules : List Rule)
    → app_of blank ≡ new_app name → map rule_of args ≡ rules
    → All (λ arg. arg.global ≡ false) args → AddsInTurn AddsArg blank args new
    → app_of new ≡ command name rules
command_in_turn blank new args name rules empty known local adds =
    shape_in_turn blank new args local adds ∙ ap (λ (app : App). with_rules app (map rule_of args)) empty
    ∙ ap (with_rules (new_app name)) known

pub globals_in_turn :
    (old new : Command) (args : List Arg)
    → All (λ arg. arg.global ≡ false) args → AddsInTurn AddsArg old args new
    → (out-Command old).has_globals ≡ false → (out-Command new).has_globals ≡ false
globals_in_turn old new [] local same none = subst (λ (c : Command). (out-Command c).has_globals ≡ false) same none
globals_in_turn old new (arg ∷ args) local (between, adds, rest) none =
    let here = All-head (λ a. a.global ≡ false) arg args local in
    let others = All-tail (λ a. a.global ≡ false) arg args local in
    globals_in_turn between new args others rest (rw (adds.globals, none, here) refl)

-- one more argument, of this command alone
pub local_push :
    (args more : List Arg) (arg : Arg) → more ≡ args ++ arg ∷ []
    → All (λ (a : Arg). a.global ≡ false) args → arg.global ≡ false → All (λ (a : Arg). a.global ≡ false) more
local_push args more arg is local one =
    subst (All (λ (a : Arg). a.global ≡ false)) (sym is) (All-push (λ (a : Arg). a.global ≡ false) args arg local one)
