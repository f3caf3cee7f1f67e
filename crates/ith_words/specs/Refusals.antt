-- Why arguments are no command line.
use Rattle.std.specs.Prelude.{◌≡◌, ◌≢◌, List, None, ⊤}
use Rattle.clap.specs.Words.{kind_of}
use Rattle.clap.specs.declared.error.Error.{Error}
use Rattle.clap.specs.declared.error.kind.ErrorKind.TheVariants.{OutOfMemory}
use Rattle.ith_words.specs.declared.words.LineFault.{LineFault}
use Rattle.ith_words.specs.declared.words.LineFault.TheVariants as fault
use Rattle.ith_words.specs.Words.{Text, line_of}

-- The fault for an error of the parser: the arguments are refused, unless the host's memory ran out.
abbrev pub WhyFault : Error → LineFault → Type 0
WhyFault error (fault.Refused text) = kind_of error ≢ OutOfMemory
WhyFault error fault.NoMemory = kind_of error ≡ OutOfMemory

-- Why arguments are no command line.
abbrev pub WhyNoLine : List Text → LineFault → Type 0
WhyNoLine words (fault.Refused text) = line_of words ≡ None
WhyNoLine words fault.NoMemory = ⊤
