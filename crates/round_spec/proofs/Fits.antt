-- What the marks of a schedule depend on, and one more entry.
use Rattle.std.proofs.Common.{◌≡◌, ℕ, List, [], ◌∷◌, ◌++◌, Option, Some, None, refl, ap, sym, ◌∙◌}
use Rattle.thunk_spec.specs.Thunk.{Frame}
use Rattle.thunk_spec.specs.Record.{Record}
use Rattle.machine_spec.specs.Machine.{Hart, Machine, hart_of}
use Rattle.machine_spec.specs.Step.{step}
use Rattle.machine_spec.specs.Schedule.{scratch_from}
use Rattle.history_spec.specs.History.{History, found}
use Rattle.history_spec.proofs.Truth.{past-of, fits-hart}
use Rattle.report_spec.specs.declared.Entry.{Entry}
use Rattle.report_spec.specs.Report.{threads_of}
use Rattle.round_spec.specs.Marks.{is_fitting, fits_next, marked_from, source_of, sourced_from}

is_fitting-hart :
    (past : Option History) (n m : Machine) (t number : ℕ) (o : Option Record)
    → found past t number ≡ o → n.frame ≡ m.frame → hart_of n t ≡ hart_of m t → is_fitting n o ≡ is_fitting m o
is_fitting-hart past n m t number None there frame same = refl
is_fitting-hart past n m t number (Some r) there frame same =
    let is : r.thread ≡ t = (past-of past t number r there).0 in
    fits-hart m n r (ap (λ (f : Frame). f.fuel) frame) (ap (hart_of n) is ∙ same ∙ ap (hart_of m) (sym is))

-- whether the record of a thread's next step fits depends on the machine's frame and the thread's hart alone
pub fits_next-hart :
    (past : Option History) (n m : Machine) (t : ℕ) → n.frame ≡ m.frame → hart_of n t ≡ hart_of m t
    → fits_next past n t ≡ fits_next past m t
fits_next-hart past n m t frame same =
    ap (λ (h : Hart). is_fitting n (found past t h.number)) same
    ∙ is_fitting-hart past n m t (hart_of m t).number (found past t (hart_of m t).number) refl frame same

pub threads-more : (es : List Entry) (e : Entry) → threads_of (es ++ e ∷ []) ≡ threads_of es ++ e.thread ∷ []
threads-more [] e = refl
threads-more (x ∷ es) e = ap (λ (ts : List ℕ). x.thread ∷ ts) (threads-more es e)

pub marked-more :
    (past : Option History) (m : Machine) (ts : List ℕ) (t : ℕ)
    → marked_from past m (ts ++ t ∷ [])
    ≡ marked_from past m ts ++ record { thread = t; reused = fits_next past (scratch_from m ts) t } ∷ []
marked-more past m [] t = refl
marked-more past m (u ∷ ts) t =
    ap (λ (es : List Entry). record { thread = u; reused = fits_next past m u } ∷ es) (marked-more past (step m u) ts t)

pub sourced-more :
    (past : Option History) (m : Machine) (es : List Entry) (e : Entry)
    → sourced_from past m (es ++ e ∷ [])
    ≡ sourced_from past m es ++ source_of past (scratch_from m (threads_of es)) e ∷ []
sourced-more past m [] e = refl
sourced-more past m (x ∷ es) e =
    ap (λ (rs : List Record). source_of past m x ∷ rs) (sourced-more past (step m x.thread) es e)
