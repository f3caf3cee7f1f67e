-- Answers to the goals that the check of `each_round_is_from_scratch` leaves open.
use Rattle.std.proofs.Common.{slice_index_or, sym}
use Rattle.rerun_spec.specs.Rounds.{rounds_after}
use Rattle.rerun_spec.specs.Making.{IsAsReported, FollowsTheChoice}
use Rattle.rerun_spec.proofs.Rounds.{each-holds, alone-holds, round-threads, round-permitted, round-complete, round-entries, round-found, round-picked, round-machine, round-records, round-ends, round-lone, round-alone, round-cost}
use Rattle.rerun_spec.proofs.Reports.{round-instructions, report-entries, exit-made}
use Rattle.rerun_spec.proofs.each_round_is_from_scratch.Goals as goal

pub returns-clause-threads : goal.returns-clause-threads
returns-clause-threads c = round-threads

pub returns-clause-rounds : goal.returns-clause-rounds
returns-clause-rounds c = λ b inputs found workers are.
    each-holds IsAsReported
    (λ workers r is.
    record {
      permitted = round-permitted workers r is;
      complete = round-complete workers r is;
      entries = round-entries workers r is;
      marks = round-found workers r is;
      picked = round-picked workers r is;
      machine = round-machine workers r is;
      records = round-records workers r is;
      ends = round-ends workers r is;
      instructions = round-instructions workers r is;
      report = report-entries workers r is;
      exit = sym (exit-made workers r is);
    })
    b inputs found workers are.begin are.short are.made

pub returns-clause-lone : goal.returns-clause-lone
returns-clause-lone c = λ b inputs found made k d below.
    round-lone (slice_index_or (rounds_after b inputs found) k d) (made k d below)

pub returns-clause-alone : goal.returns-clause-alone
returns-clause-alone c = λ b inputs found are.
    alone-holds FollowsTheChoice (λ r is. record { schedule = round-alone r is; executed = round-cost r is }) b inputs found
    are.begin are.short are.made
