-- The invariant of the loop of `input_of`.
use Rattle.std.proofs.Common.{◌≡◌, ◌-◌, ◌++◌, map}
use Rattle.guest_gen.specs.declared.TheConstants.{INPUT_BYTES}
use Rattle.guest_gen.specs.Generated.{values_after, highest_byte, input_of}
use Rattle.guest_gen.proofs.making.input_of.Given as goal

-- the bytes so far, with those of the remaining values
abbrev pub invariant-loop-made : goal.invariant-loop-made
invariant-loop-made l =
    l.input.items ++ map highest_byte (values_after (INPUT_BYTES - l._made) l.value) ≡ input_of l.fn.number
