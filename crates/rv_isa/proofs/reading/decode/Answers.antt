-- What a word decodes to has its operands in range, whichever opcode it has.
use Rattle.std.proofs.Common.{◌≡◌, ◌<◌, ◌^◌, ℕ, IfSome, Option, sym, subst, rules}
use Rattle.isa_spec.specs.declared.Instr.{Instr}
use Rattle.isa_spec.specs.Encoding.{InRange}
use Rattle.isa_spec.specs.Table.{decoded, reading_of}
use Rattle.isa_spec.proofs.WordOf.{decoded_in_range}
use Rattle.rv_isa.proofs.reading.decode.Goals as goal

in_range : (w : ℕ) (result : Option Instr) → w < 2 ^ 32 → result ≡ decoded w → IfSome result InRange
in_range w result word is = subst (λ (r : Option Instr). IfSome r InRange) (sym is) (decoded_in_range w word)

pub returns-in-55-clause-in_range : goal.returns-in-55-clause-in_range
returns-in-55-clause-in_range c = in_range c.args.w _ c.ranges.w.fits c.upper.ensures

pub returns-in-23-clause-in_range : goal.returns-in-23-clause-in_range
returns-in-23-clause-in_range c = in_range c.args.w _ c.ranges.w.fits c.upper_from_pc.ensures

pub returns-in-111-clause-in_range : goal.returns-in-111-clause-in_range
returns-in-111-clause-in_range c = in_range c.args.w _ c.ranges.w.fits c.jump.ensures

pub returns-in-103-clause-in_range : goal.returns-in-103-clause-in_range
returns-in-103-clause-in_range c = in_range c.args.w _ c.ranges.w.fits c.jump_to_register.ensures

pub returns-in-99-clause-in_range : goal.returns-in-99-clause-in_range
returns-in-99-clause-in_range c = in_range c.args.w _ c.ranges.w.fits c.branch-w.ensures

pub returns-in-3-clause-in_range : goal.returns-in-3-clause-in_range
returns-in-3-clause-in_range c = in_range c.args.w _ c.ranges.w.fits c.load.ensures

pub returns-in-35-clause-in_range : goal.returns-in-35-clause-in_range
returns-in-35-clause-in_range c = in_range c.args.w _ c.ranges.w.fits c.store.ensures

pub returns-in-19-clause-in_range : goal.returns-in-19-clause-in_range
returns-in-19-clause-in_range c = in_range c.args.w _ c.ranges.w.fits c.immediate.ensures

pub returns-in-51-clause-in_range : goal.returns-in-51-clause-in_range
returns-in-51-clause-in_range c = in_range c.args.w _ c.ranges.w.fits c.register.ensures

pub returns-in-15-clause-in_range : goal.returns-in-15-clause-in_range
returns-in-15-clause-in_range c = in_range c.args.w _ c.ranges.w.fits c.fence.ensures

pub returns-in-115-clause-in_range : goal.returns-in-115-clause-in_range
returns-in-115-clause-in_range c = in_range c.args.w _ c.ranges.w.fits c.system.ensures

-- no row has another opcode
pub returns-in_default-clause-word : goal.returns-in_default-clause-word
unfolding decoded reading_of
returns-in_default-clause-word c = search rules
