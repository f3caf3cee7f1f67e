-- Answers to the goals that the check of `list_of` leaves open.
use Rattle.std.proofs.Common.{◌≡◌, length, ap, ◌∙◌, arith}
use Rattle.guest_gen.specs.declared.TheConstants.{INPUT_BYTES}
use Rattle.guest_gen.proofs.Inputs.{length-input_of}
use Rattle.guest_gen.proofs.making.list_of.Goals as goal

pub bounds-input-place : goal.bounds-input-place
bounds-input-place c =
    let count : length c.args.input.now ≡ INPUT_BYTES = ap length c.requires ∙ length-input_of c.args.number in
    omega arith
