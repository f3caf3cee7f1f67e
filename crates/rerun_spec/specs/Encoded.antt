-- The starts of rounds whose history has an encoding.
use Rattle.std.specs.Prelude.{⊤, Option, Some, None}
use Rattle.machine_spec.specs.Setup.{Setup, IsSetup}
use Rattle.history_spec.specs.History.{History, IsSameProgram}
use Rattle.memo_spec.specs.Encoding.{AreBytes, IsEncodable}

-- The round is based on no history, or on one that has an encoding and is of the same program. It needn't be honest or
-- coherent.
abbrev pub IsEncodedPast : Option History → Setup → Type 0
IsEncodedPast None setup = ⊤
IsEncodedPast (Some h) setup = IsEncodable h × IsSameProgram h.setup setup

-- A setup that may be run, whose executable and input are bytes, and the history that its round is based on.
pub record IsEncodedStart (earlier : Option History) (setup : Setup) : Type 0 where
  pub valid : IsSetup setup
  pub elf_bytes : AreBytes setup.elf
  pub input_bytes : AreBytes setup.input
  pub past : IsEncodedPast earlier setup
