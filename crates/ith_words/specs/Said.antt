-- The command lines in code, as those of the definitions.
use Rattle.std.specs.Prelude.{map, option_map}
use Rattle.ith_words.specs.declared.line.Line.{Line as line}
use Rattle.ith_words.specs.declared.line.RunLine.{RunLine as run_line}
use Rattle.ith_words.specs.declared.line.RerunLine.{RerunLine as rerun_line}
use Rattle.ith_words.specs.declared.line.ReplayLine.{ReplayLine as replay_line}
use Rattle.ith_words.specs.declared.line.ShowLine.{ShowLine as show_line}
use Rattle.ith_words.specs.declared.line.ExplainLine.{ExplainLine as explain_line}
use Rattle.ith_words.specs.declared.line.AuditLine.{AuditLine as audit_line}
use Rattle.ith_words.specs.declared.line.GenerateLine.{GenerateLine as generate_line}
use Rattle.ith_words.specs.Words.{Line, Runs, Reruns, Replays, Shows, Explains, Audits, FindsRaces, Generates, RunLine, RerunLine, ReplayLine, ShowLine, ExplainLine, AuditLine, RacesLine, GenerateLine}
use Rattle.ith_words.specs.declared.line.RacesLine.{RacesLine as races_line}

-- A `run` command line in code, as one of the definitions.
abbrev pub run_said : run_line → RunLine
run_said l = record {
  elf = l.elf.now;
  input = l.input.now;
  edits = map (λ name. name.now) l.edits.items;
  workers = l.workers;
  fuel = l.limits.fuel;
  limit = l.limits.steps;
  new_memo = option_map (λ name. name.now) l.new_memo;
  reach = l.reach;
  progress = l.progress;
}

-- A `rerun` command line, in the same way.
abbrev pub rerun_said : rerun_line → RerunLine
rerun_said l = record {
  memo = l.memo.now;
  edits = map (λ name. name.now) l.edits.items;
  workers = l.workers;
  fuel = l.fuel;
  limit = l.steps;
  new_memo = option_map (λ name. name.now) l.new_memo;
  reach = l.reach;
  progress = l.progress;
}

-- A `replay` command line, in the same way.
abbrev pub replay_said : replay_line → ReplayLine
replay_said l = record {
  elf = l.elf.now;
  input = l.input.now;
  schedule = l.schedule.now;
  fuel = l.limits.fuel;
  limit = l.limits.steps;
}

-- A `show` command line, in the same way.
abbrev pub show_said : show_line → ShowLine
show_said l = record { memo = l.memo.now }

-- A `why` command line, in the same way.
abbrev pub explain_said : explain_line → ExplainLine
explain_said l = record { memo = l.memo.now; edits = l.edits.now }

-- An `audit` command line, in the same way.
abbrev pub audit_said : audit_line → AuditLine
audit_said l = record { memo = l.memo.now; workers = l.workers }

-- A `races` command line, in the same way.
abbrev pub races_said : races_line → RacesLine
races_said l = record { memo = l.memo.now }

-- A `gen` command line, in the same way.
abbrev pub generate_said : generate_line → GenerateLine
generate_said l = record { number = l.number; workers = l.workers }

-- A command line of any kind, in the same way.
abbrev pub line_said : line → Line
line_said (line.Run l) = Runs (run_said l)
line_said (line.Rerun l) = Reruns (rerun_said l)
line_said (line.Replay l) = Replays (replay_said l)
line_said (line.Show l) = Shows (show_said l)
line_said (line.Explain l) = Explains (explain_said l)
line_said (line.Audit l) = Audits (audit_said l)
line_said (line.FindRaces l) = FindsRaces (races_said l)
line_said (line.Generate l) = Generates (generate_said l)
