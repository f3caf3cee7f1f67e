-- What a setup in code keeps.
use Rattle.machine_spec.specs.Setup.{Setup, IsSetup}
use Rattle.elf_load.specs.declared.loader.Image.{Image}
use Rattle.elf_load.specs.Load.{IsImageOf}

-- The setup may be run, and the image is that of its executable.
pub record IsLoaded (s : Setup) (image : Image) : Type 0 where
  pub sound : IsSetup s
  pub loaded : IsImageOf s.elf image
