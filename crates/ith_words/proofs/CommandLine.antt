-- The program's command line is of the kind for which the parser promises faults and findings.
use Rattle.std.proofs.Common.{◌≡◌, true, refl}
use Rattle.clap.specs.Simple.{is_simple}
use Rattle.clap.specs.Words.{is_simple_and_free}
use Rattle.ith_words.specs.Words.{command_line, run_command, rerun_command, replay_command, show_command, explain_command, audit_command, races_command, generate_command}

pub simple : is_simple command_line ≡ true
unfolding command_line run_command rerun_command replay_command show_command explain_command audit_command races_command generate_command
simple = refl

pub simple_and_free : is_simple_and_free command_line ≡ true
unfolding command_line run_command rerun_command replay_command show_command explain_command audit_command races_command generate_command
simple_and_free = refl
