-- One more operand or option was added.
use Rattle.std.proofs.Common.{◌≡◌, ◌<◌, ◌+◌, ◌++◌, ℕ, List, [], ◌∷◌, length, get_or, map, take, sym, ap, ◌∙◌, append_assoc, arith}
use Rattle.std.proofs.lemmas.List.{map-append, take_more}
use Rattle.clap.specs.Words.{Rule, rule_of}
use Rattle.clap.specs.declared.builder.arg.Arg.{Arg}
use Rattle.ith_words.specs.Arguments.{rule_in}
use Rattle.ith_words.specs.declared.argument.Argument.{Argument}
use Rattle.ith_words.proofs.Arguments.{local_push}
use Rattle.ith_words.proofs.argument.add_arguments.Goals as goal

-- the rules of arguments, with one more
rules-next :
    (words : List Argument) (args more : List Arg) (arg : Arg) (before : List Rule) (k : ℕ) (d : Argument)
    → k < length words → more ≡ args ++ arg ∷ []
    → map rule_of args ≡ before ++ map rule_in (take k words) → rule_of arg ≡ rule_in (get_or words k d)
    → map rule_of more ≡ before ++ map rule_in (take (k + 1) words)
rules-next words args more arg before k d below pushed known one =
    ap (map rule_of) pushed
    ∙ map-append rule_of args (arg ∷ [])
    ∙ ap (λ (rs : List Rule). rs ++ rule_of arg ∷ []) known
    ∙ append_assoc before (map rule_in (take k words)) (rule_of arg ∷ [])
    ∙ ap (λ (r : Rule). before ++ (map rule_in (take k words) ++ r ∷ [])) one
    ∙ ap (λ (rs : List Rule). before ++ rs)
    (sym (ap (map rule_in) (take_more words k d below) ∙ map-append rule_in (take k words) (get_or words k d ∷ [])))

pub loop-argument-preserved : goal.loop-argument-preserved
loop-argument-preserved c = record {
  rules =
      rules-next c.args.arguments.now c.loop-argument.args.items c.push.new.self.items c.arg_of.result
      (map rule_of c.args.args.now.items) c.loop-argument.argument-index _ (omega arith) c.in_ok-push.ensures.items
      c.loop-argument.invariant.rules c.arg_of.ensures.rule;
  local =
      local_push _ _ _ c.in_ok-push.ensures.items c.loop-argument.invariant.local c.arg_of.ensures.local;
}
