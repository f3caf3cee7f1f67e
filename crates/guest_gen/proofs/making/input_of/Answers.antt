-- Answers to the goals that the check of `input_of` leaves open.
use Rattle.std.proofs.Common.{ℕ, ◌-◌, List, ◌++◌, map, refl, ap, arith}
use Rattle.guest_gen.specs.declared.TheConstants.{INPUT_BYTES}
use Rattle.guest_gen.specs.Generated.{values_after, highest_byte, input_of}
use Rattle.guest_gen.proofs.Inputs.{byte_made, all_made}
use Rattle.guest_gen.proofs.making.input_of.Goals as goal

pub loop-made-init : goal.loop-made-init
loop-made-init c =
    ap (λ (l : List ℕ). l ++ map highest_byte (values_after INPUT_BYTES c.args.number)) c.new-input.ensures.items

pub loop-made-preserved : goal.loop-made-preserved
loop-made-preserved c =
    byte_made INPUT_BYTES c.loop-made._made c.loop-made.value c.value_after-value.result _ c.loop-made.input.items
    c.push.new.self.items (input_of c.args.number) (omega arith) c.value_after-value.ensures refl
    c.in_ok-push.ensures.items c.loop-made.invariant

pub returns : goal.returns
returns c =
    all_made (INPUT_BYTES - c.loop-made._made) c.loop-made.value c.loop-made.input.items (input_of c.args.number)
    (omega arith) c.loop-made.invariant
