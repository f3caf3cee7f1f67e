-- What a host in memory means, and which of its calls fail.
use Rattle.std.specs.Prelude.{◌≡◌, ℕ, ◌+◌, ◌-◌, ◌^◌, Bool, true, List, Vec, String, Some, Option, min, nat_eq, option_map}
use Rattle.std.specs.List.{list_any}
use Rattle.std.specs.Global.{Global}
use Rattle.std.specs.BTreeMap.{BTreeMap, get_by_text}
use Rattle.ith_host.specs.declared.memory.MemHost.{MemHost}
use Rattle.ith_host.specs.World.{World}

-- The content of the file of each name, by a map from names.
abbrev pub files_of : BTreeMap (String Global) (Vec ℕ Global) → List ℕ → Option (List ℕ)
files_of files name = option_map (λ content. content.items) (get_by_text files name)

-- The world of a host in memory: all files that it holds and all printed bytes are known, and there is one count of
-- each kind for all names.
abbrev pub memory_world : MemHost → World
memory_world host = record {
  is_stated = true;
  files = files_of host.files;
  printed = Some host.printed.items;
  asked = host.asked.names;
  read_faults = λ _. host.read_faults;
  write_faults = λ _. host.write_faults;
  print_faults = host.print_faults;
}

-- Whether the next call is one that was named to fail.
abbrev pub fails_next : MemHost → Bool
fails_next host = list_any (λ number. nat_eq number host.calls) host.failing.items

-- A call was numbered. The calls that were named to fail are as before, and so is how many bytes of a failing print are
-- still printed.
pub record IsNumbered (before after : MemHost) : Type 0 where
  pub calls : after.calls ≡ min (before.calls + 1) (2 ^ 64 - 1)
  pub failing : after.failing ≡ before.failing
  pub part : after.part ≡ before.part
