-- Answers to the goals that the check of `flag_of` leaves open.
use Rattle.std.proofs.Common.{◌∙◌}
use Rattle.clap.specs.Words.{found_of}
use Rattle.ith_words.proofs.Rows.{flag_read}
use Rattle.ith_words.proofs.given.flag_of.Goals as goal

pub returns : goal.returns
returns c =
    c.unwrap_or.ensures
    ∙ flag_read _ (found_of c.args.given.now) c.args.name.now c.get_one.result
    c.get_one.ensures.none c.get_one.ensures.value
