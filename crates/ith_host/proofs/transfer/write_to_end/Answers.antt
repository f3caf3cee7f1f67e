-- Answers to the goals that the check of `write_to_end` leaves open.
use Rattle.std.proofs.Common.{rules, arith, take, drop, take-add, length, length-take, ◌++◌, ◌+◌, ◌-◌, ◌≤◌, ◌≡◌, ◌∙◌, ap, sym, ℕ, List}
use Rattle.std.proofs.lemmas.List.{take_rest}
use Rattle.std.specs.Io.KnownBytes.{Appends}
use Rattle.ith_host.proofs.Known.{Appends-more}
use Rattle.ith_host.proofs.transfer.write_to_end.Goals as goal

-- the bytes up to a place further on are those up to the place before, and the front of the rest
take_further : (done count : ℕ) (bytes : List ℕ) → take (done + count) bytes ≡ take done bytes ++ take count
    (take (length bytes - done) (drop done bytes))
take_further done count bytes = take-add done count bytes ∙ ap (λ rest. take done bytes ++ take count rest)
    (sym (take_rest bytes done))

pub loop-done-preserved : goal.loop-done-preserved
loop-done-preserved g c =
    let contents = g.S.Write.contents in
    let bytes : List ℕ = c.args.bytes.now in
    let rest : List ℕ = take (length bytes - c.loop-done.done) (drop c.loop-done.done bytes) in
    let bound : c.in-Ok.count ≤ length rest = search rules in
    let wrote : Appends (contents c.loop-done.sink.inner) (contents c.write.new.self.inner) (take c.in-Ok.count rest) =
    search rules in
    let len = length-take (length bytes - c.loop-done.done) (drop c.loop-done.done bytes) in
    let same : c.write.new.self.faults ≡ c.loop-done.sink.faults = search rules in (
      omega arith,
      Appends-more (contents c.args.sink.now.inner) (contents c.loop-done.sink.inner)
          (contents c.write.new.self.inner) (take c.loop-done.done bytes)
          (take c.in-Ok.count rest) _ c.loop-done.invariant.1 wrote (take_further c.loop-done.done c.in-Ok.count bytes),
      same ∙ c.loop-done.invariant.2,
    )
