-- The invariants of the loops of `read_lists`.
use Rattle.ith_commands.proofs.Reading.{IsReading}
use Rattle.ith_commands.proofs.files.read_lists.Given as goal

-- the lists of the first names were read
abbrev pub invariant-loop-name : goal.invariant-loop-name
invariant-loop-name g l =
    IsReading (g.H.Host.world l.fn.host) (g.H.Host.world l.host) l.names l.name-index l.lists.items
