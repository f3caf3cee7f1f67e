-- The plan of what was generated, which isn't refused.
use Rattle.std.proofs.Common.{rules, ◌≡◌, ◌∷◌, true, false, List, [], ℕ, ap, sym, subst, arith}
use Rattle.elf_load.specs.Load.{Refuses}
use Rattle.elf_load.specs.declared.loader.LoadError.TheVariants.{Refused}
use Rattle.elf_spec.specs.Image.{is_image}
use Rattle.machine_spec.specs.Setup.{Setup}
use Rattle.rerun_spec.specs.Inputs.{AreInputs}
use Rattle.edit_list.specs.NoInputs.{WhyNoInputs, refusal_of}
use Rattle.edit_list.specs.declared.refusal.InputsError.TheVariants as inputs
use Rattle.guest_gen.specs.declared.making.Generated.{Generated}
use Rattle.rerun_spec.specs.Rounds.{nothing_asked}
use Rattle.ith_commands.specs.Contents.{Plan}
use Rattle.ith_commands.specs.Playing.{plan_said}
use Rattle.ith_commands.proofs.Ending.{refused_image}
use Rattle.ith_commands.proofs.Planning.{run_playable, run_encoded}
use Rattle.ith_top.proofs.Generated.{generated-small, generated-unrefused}
use Rattle.ith_top.proofs.generating.prepare.Goals as goal

pub default_setup-requires-clause-input_size : goal.default_setup-requires-clause-input_size
default_setup-requires-clause-input_size c = generated-small c.args.number c.in_ok-elf.field-0 c.in_ok-elf.ensures

pub unreachable-requires : goal.unreachable-requires
unreachable-requires c =
    let g : Generated = c.in_ok-elf.field-0 in
    let why : Refuses g.elf.items (Refused c.in-Err-Refused.field-0-0) =
    subst (Refuses g.elf.items) c.in-Err-Refused.field-0-is c.in-Err-Refused.ensures.refused in
    let refused : is_image g.elf.items ≡ false = refused_image g.elf.items c.in-Err-Refused.field-0-0 why in
    let accepted : is_image g.elf.items ≡ true = c.in_ok-elf.ensures.elf.accepted in
    cc

pub unreachable-requires-in-Err-Refused-inputs_of : goal.unreachable-requires-in-Err-Refused-inputs_of
unreachable-requires-in-Err-Refused-inputs_of c =
    let g : Generated = c.in_ok-elf.field-0 in
    let e = c.in-Err-Refused-inputs_of in
    let copied : c.in_ok-copy.copy.items ≡ g.input.items = search rules in
    let why : WhyNoInputs c.in_ok-copy.copy.items (g.edits.items ∷ [])
    (inputs.Refused e.field-0-0 e.field-0-1 e.field-0-2) =
    subst (WhyNoInputs c.in_ok-copy.copy.items (g.edits.items ∷ [])) e.field-0-is e.ensures.refused in
    generated-unrefused c.args.number g c.in_ok-copy.copy.items e.field-0-0 (refusal_of e.field-0-1 e.field-0-2)
    c.in_ok-elf.ensures copied why

pub returns-in-Ok-inputs_of-clause-encoded : goal.returns-in-Ok-inputs_of-clause-encoded
returns-in-Ok-inputs_of-clause-encoded c =
    let g : Generated = c.in_ok-elf.field-0 in
    let s : Setup = c.in-Ok.setup in
    let p : Plan = plan_said c.from_scratch.result in
    let is_input : s.input ≡ g.input.items = ap (λ (t : Setup). t.input) c.in-Ok.ensures.setup in
    let copied : c.in_ok-copy.copy.items ≡ g.input.items = search rules in
    let edited : AreInputs c.in_ok-copy.copy.items (g.edits.items ∷ []) p.inputs = search rules in
    let same : AreInputs s.input (g.edits.items ∷ []) p.inputs =
    subst (λ (i : List ℕ). AreInputs i (g.edits.items ∷ []) p.inputs) (sym is_input)
    (subst (λ (i : List ℕ). AreInputs i (g.edits.items ∷ []) p.inputs) copied edited) in
    run_encoded s nothing_asked (g.edits.items ∷ []) p c.in-Ok.ensures.sound c.in-Ok.ensures.bytes.0 c.in-Ok.ensures.bytes.1
    c.from_scratch.ensures.beginning same

pub returns-in-Ok-inputs_of-clause-playable : goal.returns-in-Ok-inputs_of-clause-playable
returns-in-Ok-inputs_of-clause-playable c =
    let g : Generated = c.in_ok-elf.field-0 in
    let s : Setup = c.in-Ok.setup in
    let p : Plan = plan_said c.from_scratch.result in
    let is_input : s.input ≡ g.input.items = ap (λ (t : Setup). t.input) c.in-Ok.ensures.setup in
    let copied : c.in_ok-copy.copy.items ≡ g.input.items = search rules in
    let edited : AreInputs c.in_ok-copy.copy.items (g.edits.items ∷ []) p.inputs = search rules in
    let same : AreInputs s.input (g.edits.items ∷ []) p.inputs =
    subst (λ (i : List ℕ). AreInputs i (g.edits.items ∷ []) p.inputs) (sym is_input)
    (subst (λ (i : List ℕ). AreInputs i (g.edits.items ∷ []) p.inputs) copied edited) in
    run_playable s nothing_asked (g.edits.items ∷ []) p c.in-Ok.ensures.sound c.from_scratch.ensures.beginning
    (omega arith) same
