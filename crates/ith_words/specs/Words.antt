-- What the arguments of a command line request, as the kit's parser of command lines parses them.
use Rattle.std.specs.Prelude.{ℕ, Bool, true, false, List, [], ◌∷◌, codes, if◌then◌else◌, Option, Some, None, unwrap_or, option_and_then}
use Rattle.std.specs.Option.{option_map_or}
use Rattle.std.specs.Str.{bytes_eq}
use Rattle.std.specs.Str.Parse.{digits_value, without_leading_plus}
use Rattle.machine_spec.specs.declared.TheConstants.{MOST_FUEL, MOST_STEPS}
use Rattle.ith_words.specs.declared.line.TheConstants.{MOST_WORKERS, MOST_NUMBER}
use Rattle.clap.specs.Words.{App, Kinds, Row, Rule, all_of, fault_of, first_of, new_app, new_rule, one_of, subcommand_of, with_rule, with_subcommand}
use Rattle.clap.specs.Simple.{on_top}
use Rattle.clap.specs.ValueTests.{is_unsigned_in}
use Rattle.clap.specs.declared.builder.action.ArgAction.TheVariants.{Set, Append, SetTrue}
use Rattle.clap.specs.declared.builder.value_parser.ValueParser.TheVariants as parser

-- An argument, by its bytes.
abbrev pub Text : Type 0
Text = List ℕ

-- A `run` command line: the names of the executable, of the input and of the edit lists, in order; the number of
-- workers; the limits; the name of the memo to write, if one is requested; and whether the reports state how many steps
-- an edit reaches, and what was read of the progress.
pub record RunLine : Type 0 where
  pub elf : Text
  pub input : Text
  pub edits : List Text
  pub workers : ℕ
  pub fuel : ℕ
  pub limit : ℕ
  pub new_memo : Option Text
  pub reach : Bool
  pub progress : Bool

-- A `rerun` command line: the names of the memo to read and of the edit lists, in order; the number of workers; the
-- fuel and the step limit, which default to the memo's; the name of the memo to write, if one is requested; and whether
-- the reports state how many steps an edit reaches, and what was read of the progress.
pub record RerunLine : Type 0 where
  pub memo : Text
  pub edits : List Text
  pub workers : ℕ
  pub fuel : Option ℕ
  pub limit : Option ℕ
  pub new_memo : Option Text
  pub reach : Bool
  pub progress : Bool

-- A `replay` command line: the names of the executable, of the input and of the schedule, and the limits.
pub record ReplayLine : Type 0 where
  pub elf : Text
  pub input : Text
  pub schedule : Text
  pub fuel : ℕ
  pub limit : ℕ

-- A `show` command line: the name of the memo to read.
pub record ShowLine : Type 0 where
  pub memo : Text

-- A `why` command line: the names of the memo to read and of the edit list.
pub record ExplainLine : Type 0 where
  pub memo : Text
  pub edits : Text

-- An `audit` command line: the name of the memo to read, and the number of workers.
pub record AuditLine : Type 0 where
  pub memo : Text
  pub workers : ℕ

-- A `races` command line: the name of the memo to read.
pub record RacesLine : Type 0 where
  pub memo : Text

-- A `gen` command line: the number that the input and its edit are generated from, and the number of workers.
pub record GenerateLine : Type 0 where
  pub number : ℕ
  pub workers : ℕ

-- The request of a command line.
pub data Line : Type 0 where
  Runs : RunLine → Line
  Reruns : RerunLine → Line
  Replays : ReplayLine → Line
  Shows : ShowLine → Line
  Explains : ExplainLine → Line
  Audits : AuditLine → Line
  FindsRaces : RacesLine → Line
  Generates : GenerateLine → Line

-- The default number of workers.
abbrev pub default_workers : ℕ
default_workers = 4

-- The default for the most turns of a thunk.
abbrev pub default_fuel : ℕ
default_fuel = 1000000

-- The default for the most steps of a run.
abbrev pub default_limit : ℕ
default_limit = 4096

-- An operand, which is required. (POSIX.1-2017, XBD 12.1)
abbrev pub operand_rule : Text → Rule
operand_rule id = record (new_rule id) { required = true }

-- An operand that is a whole number of at most `most`, which is required. (POSIX.1-2017, XBD 12.1)
abbrev pub number_operand_rule : Text → ℕ → Rule
number_operand_rule id most = record (new_rule id) { required = true; parser = Some (parser.Unsigned 0 most) }

-- An option whose argument is a whole number from 1 to `most`.
abbrev pub number_rule : Text → ℕ → Rule
number_rule id most = record (new_rule id) { long = Some id; action = Some Set; parser = Some (parser.Unsigned 1 most) }

-- The operand for edit lists, of which there may be any number. (POSIX.1-2017, XBD 12.1)
abbrev pub edits_rule : Rule
edits_rule = record (new_rule (codes "EDITS")) { action = Some Append }

-- The option for the number of workers.
abbrev pub workers_rule : Rule
workers_rule = number_rule (codes "workers") MOST_WORKERS

-- The option for the most turns of a thunk.
abbrev pub fuel_rule : Rule
fuel_rule = number_rule (codes "fuel") MOST_FUEL

-- The option for the most steps of a run.
abbrev pub steps_rule : Rule
steps_rule = number_rule (codes "steps") MOST_STEPS

-- The option for the memo to write.
abbrev pub memo_rule : Rule
memo_rule = record (new_rule (codes "memo")) { long = Some (codes "memo"); action = Some Set }

-- An option that has no argument.
abbrev pub flag_rule : List ℕ → Rule
flag_rule name = record (new_rule name) { long = Some name; action = Some SetTrue }

-- A command with these arguments added, in their order.
abbrev pub with_rules : App → List Rule → App
with_rules command [] = command
with_rules command (rule ∷ rules) = with_rules (with_rule command rule) rules

-- The command of this name with these arguments, in their order.
abbrev pub command : Text → List Rule → App
command name rules = with_rules (new_app name) rules

-- The options of a command that makes rounds: for workers, limits, the memo to write, and two optional report lines.
abbrev pub round_options : List Rule
round_options =
    workers_rule ∷ fuel_rule ∷ steps_rule ∷ memo_rule ∷ flag_rule (codes "reach") ∷ flag_rule (codes "progress") ∷ []

-- The `run` command: the executable, the input, any number of edit lists, and six options.
unfoldable pub run_command : App
run_command =
    command (codes "run")
    (operand_rule (codes "ELF") ∷ operand_rule (codes "INPUT") ∷ edits_rule ∷ round_options)

-- The `rerun` command: the memo, any number of edit lists, and six options.
unfoldable pub rerun_command : App
rerun_command =
    command (codes "rerun")
    (operand_rule (codes "MEMO") ∷ edits_rule ∷ round_options)

-- The `replay` command: three operands, and two options.
unfoldable pub replay_command : App
replay_command =
    command (codes "replay")
    (operand_rule (codes "ELF") ∷ operand_rule (codes "INPUT") ∷ operand_rule (codes "SCHEDULE") ∷ fuel_rule
    ∷ steps_rule ∷ [])

-- The `show` command: only the memo.
unfoldable pub show_command : App
show_command = command (codes "show") (operand_rule (codes "MEMO") ∷ [])

-- The `why` command: the memo, and an edit list.
unfoldable pub explain_command : App
explain_command = command (codes "why") (operand_rule (codes "MEMO") ∷ operand_rule (codes "EDITS") ∷ [])

-- The `audit` command: the memo, and an option.
unfoldable pub audit_command : App
audit_command = command (codes "audit") (operand_rule (codes "MEMO") ∷ workers_rule ∷ [])

-- The `races` command: only the memo.
unfoldable pub races_command : App
races_command = command (codes "races") (operand_rule (codes "MEMO") ∷ [])

-- The `gen` command: a number, and an option.
unfoldable pub generate_command : App
generate_command = command (codes "gen") (number_operand_rule (codes "NUMBER") MOST_NUMBER ∷ workers_rule ∷ [])

-- The program, which requires one of its commands.
abbrev pub program : App
program = on_top (λ s. record s { subcommand_required = true }) (new_app (codes "ithreads"))

-- The program's commands, in the order in which its help lists them.
abbrev pub commands : List App
commands =
    run_command ∷ rerun_command ∷ replay_command ∷ show_command ∷ explain_command ∷ audit_command ∷ races_command
    ∷ generate_command ∷ []

-- A program with these commands below it, in their order.
abbrev pub with_commands : App → List App → App
with_commands app [] = app
with_commands app (below ∷ others) = with_commands (with_subcommand app below.top) others

-- The program's command line: the program and its commands.
unfoldable pub command_line : App
command_line = with_commands program commands

-- Whether an option that has no argument is given: the parser then has the text `true` for it.
abbrev pub flag_given : Option Text → Bool
flag_given text = option_map_or (λ word. bytes_eq word (codes "true")) text false

-- The number that a text encodes, if it is from `least` to `most`.
abbrev pub number_given : ℕ → ℕ → Option Text → Option ℕ
number_given least most None = None
number_given least most (Some text) =
    if is_unsigned_in least most text then Some (digits_value 10 (without_leading_plus text)) else None

-- The number from 1 to `most` that a text encodes, or else the default.
abbrev pub number_or : ℕ → ℕ → Option Text → ℕ
number_or most default text = unwrap_or (number_given 1 most text) default

-- The text of a required operand.
abbrev pub operand : Text → List Row → Text
operand id rows = unwrap_or (first_of id rows) []

-- The names of the edit lists, in the order of the command line.
abbrev pub edits_named : List Row → List Text
edits_named rows = unwrap_or (all_of (codes "EDITS") rows) []

-- The number of workers.
abbrev pub workers_named : List Row → ℕ
workers_named rows = number_or MOST_WORKERS default_workers (one_of (codes "workers") rows)

-- The most turns of a thunk, if `--fuel` is given.
abbrev pub fuel_given : List Row → Option ℕ
fuel_given rows = number_given 1 MOST_FUEL (one_of (codes "fuel") rows)

-- The most turns of a thunk.
abbrev pub fuel_named : List Row → ℕ
fuel_named rows = unwrap_or (fuel_given rows) default_fuel

-- The most steps of a run, if `--steps` is given.
abbrev pub limit_given : List Row → Option ℕ
limit_given rows = number_given 1 MOST_STEPS (one_of (codes "steps") rows)

-- The most steps of a run.
abbrev pub limit_named : List Row → ℕ
limit_named rows = unwrap_or (limit_given rows) default_limit

-- The name of the memo to write, if `--memo` is given.
abbrev pub memo_named : List Row → Option Text
memo_named rows = first_of (codes "memo") rows

-- Whether this option, which has no argument, is given.
abbrev pub flag_named : List ℕ → List Row → Bool
flag_named name rows = flag_given (one_of name rows)

-- The number to generate from, which is required.
abbrev pub number_named : List Row → ℕ
number_named rows = unwrap_or (number_given 0 MOST_NUMBER (one_of (codes "NUMBER") rows)) 0

-- The `run` command line of the operands and options that were found.
abbrev pub run_line : List Row → RunLine
run_line rows =
    record {
      elf = operand (codes "ELF") rows;
      input = operand (codes "INPUT") rows;
      edits = edits_named rows;
      workers = workers_named rows;
      fuel = fuel_named rows;
      limit = limit_named rows;
      new_memo = memo_named rows;
      reach = flag_named (codes "reach") rows;
      progress = flag_named (codes "progress") rows;
    }

-- The `rerun` command line of the operands and options that were found.
abbrev pub rerun_line : List Row → RerunLine
rerun_line rows =
    record {
      memo = operand (codes "MEMO") rows;
      edits = edits_named rows;
      workers = workers_named rows;
      fuel = fuel_given rows;
      limit = limit_given rows;
      new_memo = memo_named rows;
      reach = flag_named (codes "reach") rows;
      progress = flag_named (codes "progress") rows;
    }

-- The `replay` command line of the operands and options that were found.
abbrev pub replay_line : List Row → ReplayLine
replay_line rows =
    record {
      elf = operand (codes "ELF") rows;
      input = operand (codes "INPUT") rows;
      schedule = operand (codes "SCHEDULE") rows;
      fuel = fuel_named rows;
      limit = limit_named rows;
    }

-- The `show` command line of the operand that was found.
abbrev pub show_line : List Row → ShowLine
show_line rows = record { memo = operand (codes "MEMO") rows }

-- The `why` command line of the operands that were found.
abbrev pub explain_line : List Row → ExplainLine
explain_line rows = record { memo = operand (codes "MEMO") rows; edits = operand (codes "EDITS") rows }

-- The `audit` command line of the operand and the option that were found.
abbrev pub audit_line : List Row → AuditLine
audit_line rows = record { memo = operand (codes "MEMO") rows; workers = workers_named rows }

-- The `races` command line of the operand that was found.
abbrev pub races_line : List Row → RacesLine
races_line rows = record { memo = operand (codes "MEMO") rows }

-- The `gen` command line of the operand and the option that were found.
abbrev pub generate_line : List Row → GenerateLine
generate_line rows = record { number = number_named rows; workers = workers_named rows }

-- The command line of a command's name and of the operands and options that were found for it.
abbrev pub line_named : Text × List Row → Option Line
line_named p =
    if bytes_eq p.0 (codes "run") then Some (Runs (run_line p.1))
    else if bytes_eq p.0 (codes "rerun") then Some (Reruns (rerun_line p.1))
    else if bytes_eq p.0 (codes "replay") then Some (Replays (replay_line p.1))
    else if bytes_eq p.0 (codes "show") then Some (Shows (show_line p.1))
    else if bytes_eq p.0 (codes "why") then Some (Explains (explain_line p.1))
    else if bytes_eq p.0 (codes "audit") then Some (Audits (audit_line p.1))
    else if bytes_eq p.0 (codes "races") then Some (FindsRaces (races_line p.1))
    else if bytes_eq p.0 (codes "gen") then Some (Generates (generate_line p.1))
    else None

-- A command line, if there is no fault.
abbrev pub if_faultless : Kinds → Option Line → Option Line
if_faultless [] line = line
if_faultless (k ∷ ks) line = None

-- The command line of the arguments, or none if they aren't accepted; the first argument is the program's name.
unfoldable pub line_of : List Text → Option Line
line_of words =
    if_faultless (fault_of command_line words) (option_and_then line_named (subcommand_of command_line words))
