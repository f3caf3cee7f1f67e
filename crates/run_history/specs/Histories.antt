-- What a history in code keeps.
use Rattle.std.specs.Prelude.{◌≡◌, Bool, true}
use Rattle.history_spec.specs.History.{History, is_coherent, IsMapped}

-- The slots of its records are in its page map; and if it is known to be coherent, it is.
pub record IsAsKnown (known : Bool) (h : History) : Type 0 where
  pub mapped : IsMapped h
  pub coherent : known ≡ true → is_coherent h ≡ true
