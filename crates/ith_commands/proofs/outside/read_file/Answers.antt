-- Why one file wasn't read.
use Rattle.std.proofs.Common.{[], ◌∷◌}
use Rattle.ith_commands.specs.Files.{Named}
use Rattle.ith_commands.proofs.Asking.{one_failed, one_long, unbegun}
use Rattle.ith_commands.proofs.outside.read_file.Goals as goal

pub returns-in-Failed-clause-refused : goal.returns-in-Failed-clause-refused
returns-in-Failed-clause-refused g c =
    let w = g.H.Host.world in let file : Named = record { name = c.args.name.now; most = c.args.most } in
    one_failed file (w c.args.host.now) (w c.read.new.self) (w c.complain.new.self)
    c.read.ensures.asked c.read.ensures.stays (c.read.ensures.failed c.in-Failed.is)
    c.complain.ensures.asked c.complain.ensures.stays c.complain.ensures.counts

pub returns-in-TooLong-clause-refused : goal.returns-in-TooLong-clause-refused
returns-in-TooLong-clause-refused g c =
    let w = g.H.Host.world in let file : Named = record { name = c.args.name.now; most = c.args.most } in
    one_long file (w c.args.host.now) (w c.read.new.self) (w c.complain-in-TooLong.new.self)
    c.read.ensures.asked c.read.ensures.stays (c.read.ensures.too_long c.in-TooLong.is)
    c.complain-in-TooLong.ensures.asked c.complain-in-TooLong.ensures.stays

pub returns-in-NoMemory-clause-refused : goal.returns-in-NoMemory-clause-refused
returns-in-NoMemory-clause-refused g c =
    let w = g.H.Host.world in let file : Named = record { name = c.args.name.now; most = c.args.most } in
    unbegun (file ∷ []) (w c.args.host.now) (w c.read.new.self) c.read.ensures.asked c.read.ensures.stays
