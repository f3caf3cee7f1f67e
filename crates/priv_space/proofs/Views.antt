-- The pages that slots make of a view, after one of them changed.
use Rattle.std.proofs.Common.{◌≡◌, ℕ, ◌<◌, zero, suc, List, [], ◌∷◌, length, map, get_or, set, replicate, inl, inr, refl, ap, sym, subst, ◌∙◌, arith}
use Rattle.std.proofs.lemmas.Bool.{cases_eq}
use Rattle.std.proofs.lemmas.List.{set-get_or, get_or-set_same, get_or-set_other}
use Rattle.memory_spec.specs.Pages.{Memory, page_of}
use Rattle.priv_space.specs.declared.slot.Slot.{Slot}
use Rattle.priv_space.specs.Slots.{on_view, untouched, slot_bytes}

pub on_view-set :
    (f : List ℕ → Slot → List ℕ) (view : Memory) (slots : List Slot) (i : ℕ) (s : Slot)
    → on_view f view (set slots i s) ≡ set (on_view f view slots) i (f (page_of view i) s)
on_view-set f [] slots i s = refl
on_view-set f (p ∷ ps) [] i s = refl
on_view-set f (p ∷ ps) (q ∷ qs) zero s = refl
on_view-set f (p ∷ ps) (q ∷ qs) (suc i) s = ap (λ rest. f p q ∷ rest) (on_view-set f ps qs i s)

pub get_or-on_view :
    (f : List ℕ → Slot → List ℕ) (view : Memory) (slots : List Slot) (i : ℕ) (d : Slot)
    → i < length view → i < length slots → page_of (on_view f view slots) i ≡ f (page_of view i) (get_or slots i d)
get_or-on_view f [] slots i d lt below = absurd (omega arith)
get_or-on_view f (p ∷ ps) [] i d lt below = absurd (omega arith)
get_or-on_view f (p ∷ ps) (q ∷ qs) zero d lt below = refl
get_or-on_view f (p ∷ ps) (q ∷ qs) (suc i) d lt below = get_or-on_view f ps qs i d (omega arith) (omega arith)

pub length-on_view :
    (f : List ℕ → Slot → List ℕ) (view : Memory) (slots : List Slot)
    → length slots ≡ length view → length (on_view f view slots) ≡ length view
length-on_view f [] slots h = refl
length-on_view f (p ∷ ps) [] h = absurd (omega arith)
length-on_view f (p ∷ ps) (q ∷ qs) h = ap suc (length-on_view f ps qs (omega arith))

-- a slot that makes the same of its page as before changes nothing
pub on_view-set_same :
    (f : List ℕ → Slot → List ℕ) (view : Memory) (slots : List Slot) (i : ℕ) (s d : Slot)
    → i < length view → i < length slots → f (page_of view i) s ≡ f (page_of view i) (get_or slots i d)
    → on_view f view (set slots i s) ≡ on_view f view slots
on_view-set_same f view slots i s d lt below same =
    on_view-set f view slots i s
    ∙ ap (set (on_view f view slots) i) (same ∙ sym (get_or-on_view f view slots i d lt below))
    ∙ set-get_or (on_view f view slots) i []

pub map-replicate : {A B : Type 0} (f : A → B) (n : ℕ) (a : A) → map f (replicate n a) ≡ replicate n (f a)
map-replicate f zero a = refl
map-replicate f (suc n) a = ap (λ rest. f a ∷ rest) (map-replicate f n a)

-- slots that weren't touched have the view's bytes
pub bytes-untouched : (view : Memory) → on_view slot_bytes view (replicate (length view) untouched) ≡ view
unfolding slot_bytes untouched
bytes-untouched [] = refl
bytes-untouched (page ∷ view) = ap (λ rest. page ∷ rest) (bytes-untouched view)

-- what holds of each slot at its place still holds after one was set to a slot of which it holds
pub each-set :
    (Holds : ℕ → Slot → Type 0) (slots : List Slot) (i : ℕ) (s : Slot) → i < length slots
    → ((k : ℕ) → Holds k (get_or slots k untouched)) → Holds i s
    → (k : ℕ) → Holds k (get_or (set slots i s) k untouched)
each-set Holds slots i s lt each here k =
    elim (cases_eq k i) [
      | inl is ↦
          subst (λ n. Holds n (get_or (set slots i s) n untouched)) (sym is)
          (subst (Holds i) (sym (get_or-set_same slots i s untouched lt)) here)
      | inr other ↦ subst (Holds k) (sym (get_or-set_other slots i k s untouched other)) (each k)
    ]

-- what holds of an untouched slot at each place holds of a list of them
pub each-untouched :
    (Holds : ℕ → Slot → Type 0) (n : ℕ) → ((k : ℕ) → Holds k untouched)
    → (k : ℕ) → Holds k (get_or (replicate n untouched) k untouched)
each-untouched Holds zero each k = each k
each-untouched Holds (suc n) each zero = each zero
each-untouched Holds (suc n) each (suc k) = each-untouched (λ j. Holds (suc j)) n (λ j. each (suc j)) k
