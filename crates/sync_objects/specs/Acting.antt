-- The objects that a list of at most two names.
use Rattle.std.specs.Prelude.{List, [], ◌∷◌}
use Rattle.guest_call.specs.declared.Object.{Object}
use Rattle.sync_objects.specs.declared.acting.ActedOn.{ActedOn}
use Rattle.sync_objects.specs.declared.acting.ActedOn.TheVariants.{Nothing, One, Two}

-- the objects, in order
abbrev pub objects_in : ActedOn → List Object
objects_in Nothing = []
objects_in (One p) = p ∷ []
objects_in (Two p q) = p ∷ q ∷ []
