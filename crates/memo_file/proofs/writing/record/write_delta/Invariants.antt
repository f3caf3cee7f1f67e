-- What was written, and the encoding of the remaining stored pages.
use Rattle.std.proofs.Common.{◌≡◌, ◌++◌, drop}
use Rattle.std.specs.List.{flat_map}
use Rattle.memo_spec.specs.Encoding.{stored_page}
use Rattle.memo_file.proofs.writing.record.write_delta.Given as goal

abbrev pub invariant-loop-stored : goal.invariant-loop-stored
invariant-loop-stored l = l.out.items ++ flat_map (stored_page l.slots) (drop l.stored-index l.delta)
    ≡ l.fn.out.items ++ flat_map (stored_page l.slots) l.delta
