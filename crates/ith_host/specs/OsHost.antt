-- What the operating system's host means.
use Rattle.std.specs.Prelude.{false, None}
use Rattle.ith_host.specs.declared.system.OsHost.{OsHost}
use Rattle.ith_host.specs.World.{World}

-- The world of the operating system's host: nothing is known of its files, and there is one count of each kind for all
-- names.
abbrev pub os_world : {R : Type 0} → OsHost R → World
os_world host = record {
  is_stated = false;
  files = λ _. None;
  printed = None;
  asked = host.asked.names;
  read_faults = λ _. host.read_faults;
  write_faults = λ _. host.write_faults;
  print_faults = host.print_faults;
}
