-- Answers to the goals that the check of `each_round_may_be_made` leaves open.
use Rattle.history_spec.specs.History.{IsHonest, CanGoBy}
use Rattle.rerun_spec.specs.Rounds.{Round, resulting_history}
use Rattle.rerun_spec.proofs.Rounds.{each-holds, later-round, scratch-begins, memo-begins, last-honest, round-honest, some-made}
use Rattle.rerun_spec.proofs.each_round_may_be_made.Goals as goal

pub returns-clause-scratch : goal.returns-clause-scratch
returns-clause-scratch c = scratch-begins

pub returns-clause-memo : goal.returns-clause-memo
returns-clause-memo c = memo-begins

pub returns-clause-sound : goal.returns-clause-sound
returns-clause-sound c = λ b inputs found workers are.
    each-holds (λ (r : Round). CanGoBy r.past r.setup) (λ workers r is. is.can) b inputs found workers are.begin are.short
    are.made

pub returns-clause-later : goal.returns-clause-later
returns-clause-later c = λ b inputs found workers are. later-round b inputs found workers are.begin are.short are.made

pub returns-clause-honest : goal.returns-clause-honest
returns-clause-honest c = λ b inputs found workers are.
    each-holds (λ r. IsHonest (resulting_history r)) round-honest b inputs found workers are.begin are.short are.made

pub returns-clause-last : goal.returns-clause-last
returns-clause-last c = λ b inputs found workers are. last-honest b inputs found workers are.begin are.short are.made

pub returns-clause-some : goal.returns-clause-some
returns-clause-some c = some-made
