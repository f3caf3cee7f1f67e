-- The ledger and the names of the board of `a_run_that_is_handed_in_twice_is_stale`.
use Rattle.shared_words.specs.Views.{no_table}
use Rattle.round_tests.proofs.boards.a_run_that_is_handed_in_twice_is_stale.Given as goal

abbrev pub ghosts-handed_in_twice-J-Ledger : goal.ghosts-handed_in_twice-J-Ledger
ghosts-handed_in_twice-J-Ledger g a = record { name = a.blanks.ledger.name; parts = a.blanks.ledger.parts }

abbrev pub ghosts-handed_in_twice-J-Naming : goal.ghosts-handed_in_twice-J-Naming
ghosts-handed_in_twice-J-Naming g a =
    record { setup = a.round.setup; past = a.round.past; workers = 1; watches = 0; table = no_table; tickets = a.blanks.issuer.book }
