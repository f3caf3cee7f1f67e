-- Answers to the goals that the check of `bytes_of` leaves open.
use Rattle.std.proofs.Common.{◌≡◌, ℕ, List, ◌+◌, ◌-◌, ◌++◌, refl, ap, sym, ◌∙◌, arith}
use Rattle.std.specs.List.{range_with_len}
use Rattle.thunk_spec.specs.Put.{bytes_at}
use Rattle.thunk_spec.specs.Delta.{masked}
use Rattle.release_core.proofs.Putting.{bytes_apart}
use Rattle.release_core.proofs.put.bytes_of.Goals as goal
use Rattle.release_core.proofs.put.bytes_of.Goals.{then-first-len+in_ok-push_part-2, else-first-len}

pub returns : goal.returns
returns c =
    let map = c.args.map.now in
    let memory = masked c.args.view.now c.args.rec.now.kept.delta in
    let start = c.args.range.start in
    let count = c.args.range.len in
    let first = c.min-first.result in
    let front : c.push_part.new.bytes.items ≡ bytes_at map memory (range_with_len start first) =
    c.in_ok-push_part.ensures ∙ ap (λ (before : List ℕ). before ++ bytes_at map memory (range_with_len start first))
    c.in_ok-bytes.ensures.items in
    elim c.if-first-len.branch [
      | then-first-len+in_ok-push_part-2 w ↦
          ap (λ b. b.items) w.bytes-is
          ∙ w.in_ok-push_part-2.ensures
          ∙ ap (λ (before : List ℕ). before ++ bytes_at map memory (range_with_len (start + first) (count - first))) front
          ∙ sym (bytes_apart map memory start (start + first) first (count - first) count refl
          (omega (arith, w.if-first-len.true)))
      | else-first-len w ↦
          ap (λ b. b.items) w.bytes-is ∙ front
          ∙ ap (λ n. bytes_at map memory (range_with_len start n)) (omega (arith, c.min-first.ensures, w.if-first-len.false))
    ]
