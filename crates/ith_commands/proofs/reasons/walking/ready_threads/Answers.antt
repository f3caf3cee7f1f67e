-- Answers to the goals that the check of `ready_threads` leaves open.
use Rattle.std.proofs.Common.{◌≡◌, ◌+◌, ◌<◌, ◌≤◌, ℕ, zero, suc, false, List, refl, sym, ap, subst, ◌∙◌, inl, inr, arith, rules}
use Rattle.std.specs.Prelude.{slice_index_or}
use Rattle.std.specs.Array.{IsFromFnResult, IsFromFnResultFrom}
use Rattle.std.proofs.lemmas.Bool.{cases_eq}
use Rattle.machine_spec.specs.Machine.{hart_of, is_ready}
use Rattle.ith_commands.proofs.reasons.walking.ready_threads.Goals as goal
use denote.Param.Members.{Mut, Called}

-- what calls of a closure gave that stays as it was, one number after the other
given-from :
    {F B : Type 0} (g : Mut F (ℕ × Unit {0}) B) (h : ℕ → B) (f : F) (ys : List B) (end : ℕ)
    → ((x : ℕ) (r : B) (q : F) → x < end → Called g f (x, tt) r q → (q ≡ f) × (r ≡ h x))
    → (n i : ℕ) (p : F) → p ≡ f → i + n ≡ end → IsFromFnResultFrom g p ys i n
    → (k : ℕ) (d : B) → i ≤ k → k < end → slice_index_or ys k d ≡ h k
given-from g h f ys end acts zero i p same sum each k d from below = absurd (omega arith)
given-from {F = F} g h f ys end acts (suc n) i p same sum each k d from below =
    let one = acts i each.1 each.0 (omega arith) (subst (λ (s : F). Called g s (i, tt) each.1 each.0) same each.3) in
    elim (cases_eq i k) [
      | inl at ↦ ap (λ (j : ℕ). slice_index_or ys j d) (sym at) ∙ each.2.1 d ∙ one.1 ∙ ap h at
      | inr other ↦ given-from g h f ys end acts n (i + 1) each.0 one.0 (omega arith) each.4 k d (omega arith) below
    ]

given :
    {F B : Type 0} {g : Mut F (ℕ × Unit {0}) B} {f : F} {ys : List B} {n : ℕ} (h : ℕ → B)
    → IsFromFnResult g f ys n
    → ((x : ℕ) (r : B) (q : F) → x < n → Called g f (x, tt) r q → (q ≡ f) × (r ≡ h x))
    → (k : ℕ) (d : B) → k < n → slice_index_or ys k d ≡ h k
given {g = g} {f = f} {ys = ys} {n = n} h result acts k d below =
    given-from g h f ys n acts n 0 f refl (omega arith) result.each k d (omega arith) below

pub returns : goal.returns
returns c = λ t few.
    given (λ n. is_ready (hart_of c.args.core.now n).status) c.from_fn.ensures.items
    (λ x r q below called. search rules) t false few
