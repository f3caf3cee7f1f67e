-- One memory over another: its bytes at the places that a mask has, and the other's elsewhere.
use Rattle.std.specs.Prelude.{ℕ, Bool, if◌then◌else◌, List, [], ◌∷◌}
use Rattle.memory_spec.specs.Pages.{Memory}
use Rattle.memory_spec.specs.Workspace.{Masks}

-- A page over another.
abbrev pub merged_page : List Bool → List ℕ → List ℕ → List ℕ
merged_page [] page other = []
merged_page (mark ∷ mask) [] other = []
merged_page (mark ∷ mask) (byte ∷ page) [] = []
merged_page (mark ∷ mask) (byte ∷ page) (below ∷ other) = (if mark then byte else below) ∷ merged_page mask page other

-- A memory over another.
abbrev pub merged : Masks → Memory → Memory → Memory
merged [] memory other = []
merged (mask ∷ masks) [] other = []
merged (mask ∷ masks) (page ∷ memory) [] = []
merged (mask ∷ masks) (page ∷ memory) (below ∷ other) = merged_page mask page below ∷ merged masks memory other
