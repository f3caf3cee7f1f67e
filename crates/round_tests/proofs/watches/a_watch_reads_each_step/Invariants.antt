-- The ledger and the names of the board of `a_watch_reads_each_step`.
use Rattle.round_tests.proofs.watches.a_watch_reads_each_step.Given as goal

abbrev pub ghosts-read-J-Ledger : goal.ghosts-read-J-Ledger
ghosts-read-J-Ledger g a = record { name = a.blanks.ledger.name; parts = a.blanks.ledger.parts }

abbrev pub ghosts-read-J-Naming : goal.ghosts-read-J-Naming
ghosts-read-J-Naming g a =
    record {
      setup = a.round.setup;
      past = a.round.past;
      workers = 1;
      watches = 1;
      table = a.counter.writer.table;
      tickets = a.blanks.issuer.book;
    }
