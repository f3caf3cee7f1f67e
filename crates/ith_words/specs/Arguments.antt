-- The rule of an operand or option of a command.
use Rattle.clap.specs.Words.{Rule}
use Rattle.ith_words.specs.declared.argument.Argument.{Argument as argument}
use Rattle.ith_words.specs.Words.{operand_rule, number_operand_rule, edits_rule, number_rule, memo_rule, flag_rule}

-- The rule of an operand or option, by its name and its greatest number.
abbrev pub rule_in : argument → Rule
rule_in (argument.Operand id help) = operand_rule id.now
rule_in (argument.NumberOperand id most help) = number_operand_rule id.now most
rule_in argument.Edits = edits_rule
rule_in (argument.Number id most help) = number_rule id.now most
rule_in argument.Memo = memo_rule
rule_in (argument.Flag name help) = flag_rule name.now
