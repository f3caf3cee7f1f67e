-- What holds of each element of a list, when lists are read and changed.
use Rattle.std.proofs.Common.{ℕ, zero, suc, List, [], ◌∷◌, ◌++◌, get_or, set, map, replicate, ◌<◌, length, arith}
use Rattle.memory_spec.specs.Pages.{Mapped, on_each}
use Rattle.std.specs.List.{AllByRecursion}

-- an element at any place, if the property holds of the stand-in for no element
pub every-at :
    {X : Type 0} (P : X → Type 0) (xs : List X) (i : ℕ) (d : X)
    → P d → AllByRecursion P xs → P (get_or xs i d)
every-at P [] i d none all = none
every-at P (x ∷ xs) zero d none all = all.0
every-at P (x ∷ xs) (suc i) d none all = every-at P xs i d none all.1

-- the element at a place below the length
pub every-below :
    {X : Type 0} (P : X → Type 0) (xs : List X) (i : ℕ) (d : X)
    → i < length xs → AllByRecursion P xs → P (get_or xs i d)
every-below P [] i d below all = absurd (omega arith)
every-below P (x ∷ xs) zero d below all = all.0
every-below P (x ∷ xs) (suc i) d below all = every-below P xs i d (omega arith) all.1

-- after a write
pub every-set :
    {X : Type 0} (P : X → Type 0) (xs : List X) (i : ℕ) (v : X)
    → P v → AllByRecursion P xs → AllByRecursion P (set xs i v)
every-set P [] i v new all = tt
every-set P (x ∷ xs) zero v new all = (new, all.1)
every-set P (x ∷ xs) (suc i) v new all = (all.0, every-set P xs i v new all.1)

-- after a change of the element at a place, which needn't exist
pub every-changed :
    {X : Type 0} (P : X → Type 0) (f : X → X) (xs : List X) (i : ℕ) (d : X)
    → ((x : X) → P x → P (f x)) → AllByRecursion P xs → AllByRecursion P (set xs i (f (get_or xs i d)))
every-changed P f [] i d keeps all = tt
every-changed P f (x ∷ xs) zero d keeps all = (keeps x all.0, all.1)
every-changed P f (x ∷ xs) (suc i) d keeps all = (all.0, every-changed P f xs i d keeps all.1)

pub every-append :
    {X : Type 0} (P : X → Type 0) (xs ys : List X)
    → AllByRecursion P xs → AllByRecursion P ys → AllByRecursion P (xs ++ ys)
every-append P [] ys all others = others
every-append P (x ∷ xs) ys all others = (all.0, every-append P xs ys all.1 others)

pub every-replicate : {X : Type 0} (P : X → Type 0) (n : ℕ) (x : X) → P x → AllByRecursion P (replicate n x)
every-replicate P zero x here = tt
every-replicate P (suc n) x here = (here, every-replicate P n x here)

pub every-on_each :
    {X : Type 0} (P : X → Type 0) (x : X) (map : List Mapped) → P x → AllByRecursion P (on_each x map)
every-on_each P x [] here = tt
every-on_each P x (page ∷ map) here = (here, every-on_each P x map here)

pub every-map :
    {X Y : Type 0} (P : Y → Type 0) (f : X → Y) (xs : List X)
    → ((x : X) → P (f x)) → AllByRecursion P (map f xs)
every-map P f [] holds = tt
every-map P f (x ∷ xs) holds = (holds x, every-map P f xs holds)
