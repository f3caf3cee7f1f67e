-- A result for x0 is dropped; a sum with x0 is the immediate.
use Rattle.std.proofs.Common.{◌≡◌, refl, arith, rules}
use Rattle.isa_spec.specs.declared.ImmediateOperation.TheVariants as immediate_
use Rattle.rv_code.proofs.Standing.{nothing_stands, stands_for_its_own, sum_with_x0}
use Rattle.rv_code.proofs.reading.immediate.Goals as goal

pub returns-then-rd-eq0 : goal.returns-then-rd-eq0
returns-then-rd-eq0 c = λ address word known.
    nothing_stands address word _ c.args.rd c.if-rd-eq0.true known (λ map memory r at zero. (_, refl))

pub returns-then-rs1-eq0 : goal.returns-then-rs1-eq0
returns-then-rs1-eq0 c =
    let e : c.args.operation ≡ immediate_.Add = search rules in
    λ address word known. c.constant.ensures address _ (λ map memory r at zero.
    rw (e, sum_with_x0 r c.args.rs1 c.args.imm c.if-rs1-eq0.true zero (omega arith)) refl) word known

pub returns : goal.returns
returns c = λ address word known.
    stands_for_its_own address word _ _ known (c.immediate_kind.ensures.means address c.args.rd c.args.rs1 0 c.args.imm)
    record {
      rd = c.requires.rd;
      rs1 = c.requires.rs1;
      rs2 = omega arith;
      writes = λ e. c.if-rd-eq0.false;
      inside = λ e. cc;
    }
