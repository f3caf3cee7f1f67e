-- The remaining pages determine the byte as all do.
use Rattle.std.proofs.Common.{◌≡◌, drop}
use Rattle.memo_spec.specs.Old.{read_byte}
use Rattle.memo_file.proofs.age.read_byte.Given as goal

abbrev pub invariant-loop-page : goal.invariant-loop-page
invariant-loop-page l = read_byte (drop l.page-index l.pages) l.slot l.offset ≡ read_byte l.pages l.slot l.offset
