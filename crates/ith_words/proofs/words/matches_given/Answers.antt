-- The parser's findings are those of the definitions, since the command line is a simple one.
use Rattle.std.proofs.Common.{◌≡◌, List, [], ap, subst, ◌∙◌}
use Rattle.std.specs.Prelude.{map, string_bytes}
use Rattle.clap.specs.Simple.{is_simple}
use Rattle.clap.specs.Words.{App, HasKind, Text, fault_of, is_simple_and_free, subcommand_of, subcommand_rows_of}
use Rattle.ith_words.proofs.CommandLine.{simple, simple_and_free}
use Rattle.ith_words.proofs.NoLine.{no_line}
use Rattle.ith_words.proofs.words.matches_given.Goals as goal

pub returns-in-Ok-try_get_matches_from-clause-faultless : goal.returns-in-Ok-try_get_matches_from-clause-faultless
returns-in-Ok-try_get_matches_from-clause-faultless c =
    let given = c.in-Ok-try_get_matches_from in
    let words : List Text = map string_bytes c.args.words.now in
    subst (λ (a : App). fault_of a words ≡ []) c.in-Ok.ensures
    (given.ensures.kinds (ap is_simple_and_free c.in-Ok.ensures ∙ simple_and_free))

pub returns-in-Ok-try_get_matches_from-clause-rows : goal.returns-in-Ok-try_get_matches_from-clause-rows
returns-in-Ok-try_get_matches_from-clause-rows c =
    let given = c.in-Ok-try_get_matches_from in
    let words : List Text = map string_bytes c.args.words.now in
    subst (λ (a : App). subcommand_rows_of given.given ≡ subcommand_of a words) c.in-Ok.ensures
    (given.ensures.matches (ap is_simple c.in-Ok.ensures ∙ simple)).1

pub returns-in-Err-try_get_matches_from-clause-refused : goal.returns-in-Err-try_get_matches_from-clause-refused
returns-in-Err-try_get_matches_from-clause-refused c =
    let refused = c.in-Err-try_get_matches_from in
    let words : List Text = map string_bytes c.args.words.now in
    no_line words refused.error c.fault_by.result
    (subst (λ (a : App). HasKind (fault_of a words) refused.error) c.in-Ok.ensures
    (refused.ensures.kinds (ap is_simple_and_free c.in-Ok.ensures ∙ simple_and_free)))
    c.fault_by.ensures
