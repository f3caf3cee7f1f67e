-- The ledger and the names of the board of `run_round`, without a watcher.
use Rattle.shared_words.specs.Views.{no_table}
use Rattle.rerun_workers.proofs.running.run_round.Given as goal

abbrev pub ghosts-run_together-J-Ledger : goal.ghosts-run_together-J-Ledger
ghosts-run_together-J-Ledger g a = record { name = a.blanks.ledger.name; parts = a.blanks.ledger.parts }

abbrev pub ghosts-run_together-J-Naming : goal.ghosts-run_together-J-Naming
ghosts-run_together-J-Naming g a =
    record { setup = a.round.setup; past = a.round.past; workers = a.workers; watches = 0; table = no_table; tickets = a.blanks.issuer.book }
