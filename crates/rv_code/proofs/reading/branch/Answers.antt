-- The offset to the word at the target's index leads where the branch's own does.
use Rattle.std.proofs.Common.{arith}
use Rattle.rv_code.proofs.Standing.{branch_stands}
use Rattle.rv_code.proofs.reading.branch.Goals as goal

pub returns-in-Some : goal.returns-in-Some
returns-in-Some c = λ word known.
    branch_stands c.args.address word c.args.test c.args.rs1 c.args.rs2 c.args.offset
    c.branch_kind.result c.in-Some.index known
    (c.branch_kind.ensures.means c.args.address 0 c.args.rs1 c.args.rs2 c.in-Some.index)
    c.branch_kind.ensures.zero (omega arith) c.requires.rs1 c.requires.rs2
    c.in-Some.ensures.found.0 c.in-Some.ensures.found.1
