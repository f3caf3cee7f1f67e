-- Answers to the goals that the check of `read_to_limit` leaves open.
use Rattle.std.proofs.Common.{rules, arith, ◌≡◌, ◌<◌, ℕ, List, Option, take, ◌++◌, length, ◌+◌, ◌≤◌, not, length-append, length-take, append-nil, sym, ap, ◌∙◌}
use Rattle.std.proofs.lemmas.List.{take-append-le}
use Rattle.std.specs.Io.KnownBytes.{Consumes}
use Rattle.ith_host.specs.Transfer.{TakesAtMost}
use Rattle.ith_host.proofs.Known.{Consumes-more, Consumes-both, Consumes-kept, Consumes-all, Consumes-longer}
use Rattle.ith_host.proofs.transfer.read_to_limit.Goals as goal

-- what was taken before, and a piece that is no longer than was requested
takes_more :
    (first second third : Option (List ℕ)) (before buffer piece : List ℕ) (count room limit : ℕ)
    → Consumes first second before → Consumes second third (take count piece)
    → length piece ≡ length (take room buffer) → length before + room ≤ limit + 1
    → TakesAtMost (limit + 1) first third
takes_more first second third before buffer piece count room limit one two size far =
    let whole = length-append before (take count piece) in
    let cut = length-take count piece in
    let most = length-take room buffer in (
      before ++ take count piece,
      Consumes-more first second third before (take count piece) one two,
      omega (arith, whole, cut, most, size, far),
    )

-- what was taken before, and the front of a piece that was appended
took_more :
    (first second third : Option (List ℕ)) (before after piece rest : List ℕ) (count : ℕ)
    → Consumes first second before → Consumes second third (take count piece) → count ≤ length piece
    → after ≡ before ++ take count (piece ++ rest)
    → Consumes first third after
took_more first second third before after piece rest count one two bound is =
    Consumes-both first second third before (take count piece) after one two
    (is ∙ ap (λ s. before ++ s) (take-append-le count piece rest bound))

-- an empty piece adds nothing
none_more : (before piece : List ℕ) (count : ℕ) → count ≡ 0 → before ≡ before ++ take count piece
none_more before piece count none = sym (ap (λ n. before ++ take n piece) none ∙ append-nil before)

pub returns-in-Ok-eq0-clause-all : goal.returns-in-Ok-eq0-clause-all
returns-in-Ok-eq0-clause-all g c = λ _.
    let remaining = g.S.Read.remaining in
    let before = c.loop-count.into.items in
    let gave = c.in-Ok-eq0.ensures.bytes in
    let none = c.in-Ok-eq0.field-0-test in
    let asked : 0 < length c.read.new.piece = search rules in
    Consumes-all (remaining c.args.source.now.inner) (remaining c.read.new.self.inner) before
    (Consumes-both (remaining c.args.source.now.inner) (remaining c.loop-count.source.inner)
    (remaining c.read.new.self.inner) before _ before c.loop-count.invariant.1 gave.0
    (none_more before c.read.new.piece c.in-Ok-eq0.field-0 none))
    (gave.1 none asked)

pub returns-in-Ok-eq0-clause-taken : goal.returns-in-Ok-eq0-clause-taken
returns-in-Ok-eq0-clause-taken g c =
    takes_more (g.S.Read.remaining c.args.source.now.inner) (g.S.Read.remaining c.loop-count.source.inner) _
    c.loop-count.into.items c.loop-count.piece c.read.new.piece c.in-Ok-eq0.field-0 c.room_for-room.result c.args.limit
    c.loop-count.invariant.1 c.in-Ok-eq0.ensures.bytes.0 c.read.auto.piece (omega arith)

pub returns-then-is_err-clause-taken : goal.returns-then-is_err-clause-taken
returns-then-is_err-clause-taken g c =
    takes_more (g.S.Read.remaining c.args.source.now.inner) (g.S.Read.remaining c.loop-count.source.inner) _
    c.loop-count.into.items c.loop-count.piece c.read.new.piece c.in-Ok.count c.room_for-room.result c.args.limit
    c.loop-count.invariant.1 c.in-Ok.ensures.bytes.0 c.read.auto.piece (omega arith)

pub returns-in-Err-clause-taken : goal.returns-in-Err-clause-taken
returns-in-Err-clause-taken g c =
    let remaining = g.S.Read.remaining in (
      c.loop-count.into.items,
      Consumes-kept (remaining c.args.source.now.inner) (remaining c.loop-count.source.inner)
          (remaining c.read.new.self.inner) c.loop-count.into.items c.loop-count.invariant.1 c.in-Err.ensures.bytes,
      omega (arith, c.loop-count.invariant.0),
    )

pub returns-then-len-limit-clause-too_long : goal.returns-then-len-limit-clause-too_long
returns-then-len-limit-clause-too_long g c = λ _.
    let remaining = g.S.Read.remaining in
    let pushed = rw (c.is_err.ensures.negation ∙ ap not c.if-is_err.false) at c.extend_from_slice.ensures.items in
    Consumes-longer (remaining c.args.source.now.inner) (remaining c.read.new.self.inner)
    c.extend_from_slice.new.self.items c.args.limit
    (took_more (remaining c.args.source.now.inner) (remaining c.loop-count.source.inner)
    (remaining c.read.new.self.inner) c.loop-count.into.items _ c.read.new.piece _ c.in-Ok.count
    c.loop-count.invariant.1 c.in-Ok.ensures.bytes.0 c.in-Ok.ensures.bound.0 pushed)
    (omega arith)

pub returns-then-len-limit-clause-taken : goal.returns-then-len-limit-clause-taken
returns-then-len-limit-clause-taken g c =
    takes_more (g.S.Read.remaining c.args.source.now.inner) (g.S.Read.remaining c.loop-count.source.inner) _
    c.loop-count.into.items c.loop-count.piece c.read.new.piece c.in-Ok.count c.room_for-room.result c.args.limit
    c.loop-count.invariant.1 c.in-Ok.ensures.bytes.0 c.read.auto.piece (omega arith)

pub loop-count-preserved : goal.loop-count-preserved
loop-count-preserved g c =
    let remaining = g.S.Read.remaining in
    let pushed = rw (c.is_err.ensures.negation ∙ ap not c.if-is_err.false) at c.extend_from_slice.ensures.items in (
      omega arith,
      took_more (remaining c.args.source.now.inner) (remaining c.loop-count.source.inner)
          (remaining c.read.new.self.inner) c.loop-count.into.items _ c.read.new.piece _ c.in-Ok.count
          c.loop-count.invariant.1 c.in-Ok.ensures.bytes.0 c.in-Ok.ensures.bound.0 pushed,
      c.in-Ok.ensures.quiet ∙ c.loop-count.invariant.2,
    )
