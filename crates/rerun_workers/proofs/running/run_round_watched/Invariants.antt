-- The ledger and the names of the board of `run_round_watched`, with one watcher.
use Rattle.rerun_workers.proofs.running.run_round_watched.Given as goal

abbrev pub ghosts-run_watched-J-Ledger : goal.ghosts-run_watched-J-Ledger
ghosts-run_watched-J-Ledger g a = record { name = a.blanks.ledger.name; parts = a.blanks.ledger.parts }

abbrev pub ghosts-run_watched-J-Naming : goal.ghosts-run_watched-J-Naming
ghosts-run_watched-J-Naming g a =
    record {
      setup = a.watched.round.setup;
      past = a.watched.round.past;
      workers = a.workers;
      watches = 1;
      table = a.watched.counter.writer.table;
      tickets = a.blanks.issuer.book;
    }
