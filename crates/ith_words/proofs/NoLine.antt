-- Arguments that the parser refuses aren't a command line.
use Rattle.std.proofs.Common.{◌≡◌, List, [], ◌∷◌, Option, None, refl, inl, inr}
use Rattle.clap.specs.Words.{HasKind, IsAmong, Kinds, Text, fault_of, kind_of}
use Rattle.clap.specs.declared.error.Error.{Error}
use Rattle.clap.specs.declared.error.kind.ErrorKind.{ErrorKind}
use Rattle.ith_words.specs.declared.words.LineFault.{LineFault}
use Rattle.ith_words.specs.declared.words.LineFault.TheVariants as fault
use Rattle.ith_words.specs.Words.{Line, command_line, if_faultless, line_of}
use Rattle.ith_words.specs.Refusals.{WhyFault, WhyNoLine}

-- if there is a kind of fault, there is no command line
none-among :
    (kind : ErrorKind) (kinds : Kinds) (line : Option Line)
    → IsAmong kind kinds → if_faultless kinds line ≡ None
none-among kind [] line among = absurd among
none-among kind (k ∷ ks) line among = refl

-- an error of the parser is why there is no command line
pub no_line :
    (words : List Text) (error : Error) (why : LineFault)
    → HasKind (fault_of command_line words) error → WhyFault error why → WhyNoLine words why
unfolding line_of
no_line words error fault.NoMemory has is = tt
no_line words error (fault.Refused text) (inl memory) is = absurd (is memory)
no_line words error (fault.Refused text) (inr among) is =
    none-among (kind_of error) (fault_of command_line words) _ among
