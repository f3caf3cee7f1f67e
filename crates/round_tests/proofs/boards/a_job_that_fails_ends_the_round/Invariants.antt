-- The ledger and the names of the board of `a_job_that_fails_ends_the_round`.
use Rattle.shared_words.specs.Views.{no_table}
use Rattle.round_tests.proofs.boards.a_job_that_fails_ends_the_round.Given as goal

abbrev pub ghosts-failed-J-Ledger : goal.ghosts-failed-J-Ledger
ghosts-failed-J-Ledger g a = record { name = a.blanks.ledger.name; parts = a.blanks.ledger.parts }

abbrev pub ghosts-failed-J-Naming : goal.ghosts-failed-J-Naming
ghosts-failed-J-Naming g a =
    record { setup = a.round.setup; past = a.round.past; workers = 2; watches = 0; table = no_table; tickets = a.blanks.issuer.book }
