-- Answers to the goals that the check of `all_readable` leaves open.
use Rattle.std.proofs.Common.{◌≡◌, ◌+◌, ◌-◌, ◌&&◌, ℕ, Bool, refl, ap, sym, ◌∙◌, arith}
use Rattle.std.specs.List.{range_with_len, list_all}
use Rattle.memory_spec.specs.Pages.{allows, read_right, permission_at}
use Rattle.thunk_spec.specs.Put.{is_readable}
use Rattle.plain_machine.proofs.Putting.{all-first}
use Rattle.plain_machine.proofs.put.all_readable.Goals as goal

pub loop-k-init : goal.loop-k-init
unfolding is_readable
loop-k-init c =
    let start : c.args.start + 0 ≡ c.args.start = omega arith in
    let count : c.args.count - 0 ≡ c.args.count = omega arith in
    rw (start, count) refl

pub loop-k-preserved : goal.loop-k-preserved
loop-k-preserved c =
    let f : ℕ → Bool = λ a. allows read_right (permission_at c.args.map.now a) in
    let rest : Bool =
    list_all f (range_with_len (c.args.start + (c.loop-k.k + 1)) (c.args.count - (c.loop-k.k + 1))) in
    ap (λ (b : Bool). b && rest) c.if-not-may_read.ensures
    ∙ sym (all-first f c.args.start c.args.count c.loop-k.k (omega arith))
    ∙ c.loop-k.invariant
