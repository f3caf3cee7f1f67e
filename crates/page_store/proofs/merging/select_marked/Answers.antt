-- Answers to the goals that the check of `select_marked` leaves open.
use Rattle.std.proofs.Common.{arith, ◌∙◌, get_or}
use Rattle.std.proofs.lemmas.Simd.{length-sel_l, get_or-sel_l}
use Rattle.page_store.proofs.Lanes.{length-lanes, lane_chosen, lanes_of}
use Rattle.page_store.proofs.merging.select_marked.Goals as goal

pub returns-clause-lanes : goal.returns-clause-lanes
returns-clause-lanes c =
    length-sel_l (lanes_of c.args.word) c.args.written c.args.page
    (omega (arith, length-lanes c.args.word, c.requires.written)) (omega (arith, length-lanes c.args.word, c.requires.page))
    ∙ length-lanes c.args.word

pub returns-clause-each : goal.returns-clause-each
returns-clause-each c k lt =
    get_or-sel_l (lanes_of c.args.word) c.args.written c.args.page k 0 (omega (arith, length-lanes c.args.word, lt))
    (omega (arith, c.requires.written, lt)) (omega (arith, c.requires.page, lt))
    ∙ lane_chosen c.args.word k c.ranges.word.fits lt (get_or c.args.written k 0) (get_or c.args.page k 0)
