-- Fetches from addresses of one page are alike.
use Rattle.std.proofs.Common.{◌≡◌, ℕ, suc, ◌/◌, ◌==◌, cond, slice_index_or, List, [], ◌∷◌, refl, ap, ◌∙◌}
use Rattle.memory_spec.specs.Pages.{Mapped, slot_of, permission_at, unmapped}

-- the slot depends on the page's number alone
pub slot_of-same : (map : List Mapped) (a b : ℕ) → a / 4096 ≡ b / 4096 → slot_of map a ≡ slot_of map b
slot_of-same [] a b h = refl
slot_of-same (p ∷ ps) a b h =
    ap (λ number. cond (p.number == number) 0 (suc (slot_of ps a))) h
    ∙ ap (λ rest. cond (p.number == b / 4096) 0 (suc rest)) (slot_of-same ps a b h)

-- and so does the page's permission
pub permission_at-same :
    (map : List Mapped) (a b : ℕ) → a / 4096 ≡ b / 4096 → permission_at map a ≡ permission_at map b
unfolding permission_at
permission_at-same map a b h = ap (λ (k : ℕ). (slice_index_or map k unmapped).permission) (slot_of-same map a b h)
