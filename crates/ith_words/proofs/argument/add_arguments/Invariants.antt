-- The arguments so far have the rules of the operands and options so far.
use Rattle.std.proofs.Common.{◌≡◌, ◌++◌, All, false, map, take}
use Rattle.clap.specs.Words.{rule_of}
use Rattle.clap.specs.declared.builder.arg.Arg.{Arg}
use Rattle.ith_words.specs.Arguments.{rule_in}
use Rattle.ith_words.proofs.argument.add_arguments.Given as goal

abbrev pub invariant-loop-argument : goal.invariant-loop-argument
invariant-loop-argument l = record {
  rules : map rule_of l.args.items ≡ map rule_of l.fn.args.items ++ map rule_in (take l.argument-index l.arguments);
  local : All (λ (a : Arg). a.global ≡ false) l.args.items;
}
