-- Answers to the goals that the check of `Versions::knows_read` leaves open.
use Rattle.std.proofs.Common.{◌≡◌, ◌&&◌, ℕ, Bool, true, false, List, Option, Some, None, length, refl, ap, sym, ◌∙◌}
use Rattle.std.specs.List.{slice_get}
use Rattle.std.proofs.lemmas.Option.{slice_get_past, slice_get_read}
use Rattle.known_pages.specs.declared.times.PageVersion.{PageVersion}
use Rattle.known_pages.specs.declared.versions.StepVersions.{StepVersions}
use Rattle.known_pages.specs.declared.versions.Versions.{Versions}
use Rattle.known_pages.specs.Versions.{is_current, is_of_version, knows_read}
use Rattle.known_pages.proofs.versions.Versions.knows_read.Goals as goal
use Rattle.known_pages.proofs.versions.Versions.knows_read.Goals.{In-Some, In-Some-get}

-- by the history's step at the place, and its page
known-page :
    (v : Versions) (place t k : ℕ) (step : StepVersions) (page : PageVersion) (b : Bool)
    → slice_get v.steps.items place ≡ Some step → slice_get step.read.items k ≡ Some page
    → b ≡ is_current v.times.written.items v.times.viewed t page.slot
    → (b && is_of_version page.version (slice_get v.pages.items page.slot)) ≡ knows_read v place t k
known-page v place t k step page b there at current = rw (there, at, current) refl

no-page :
    (v : Versions) (place t k : ℕ) (step : StepVersions)
    → slice_get v.steps.items place ≡ Some step → slice_get step.read.items k ≡ None → false ≡ knows_read v place t k
no-page v place t k step there at = rw (there, at) refl

no-step : (v : Versions) (place t k : ℕ) → slice_get v.steps.items place ≡ None → false ≡ knows_read v place t k
no-step v place t k there = rw there refl

there : (c : In-Some) → slice_get c.args.self.now.steps.items c.args.place ≡ Some c.in-Some.step.now
there c =
    ap (λ (l : List StepVersions). slice_get l c.args.place) (sym c.deref.ensures.value)
    ∙ slice_get_read c.deref.result.now (length c.deref.result.now) c.args.place c.in-Some.step.now refl
    c.in-Some.ensures.lookup.3.0 c.in-Some.ensures.lookup.1

at :
    (c : In-Some-get) → slice_get c.in-Some.step.now.read.items c.args.k ≡ Some c.in-Some-get.page.now
at c =
    ap (λ (l : List PageVersion). slice_get l c.args.k) (sym c.deref-2.ensures.value)
    ∙ slice_get_read c.deref-2.result.now (length c.deref-2.result.now) c.args.k c.in-Some-get.page.now refl
    c.in-Some-get.ensures.lookup.3.0 c.in-Some-get.ensures.lookup.1

pub returns-then-is_current : goal.returns-then-is_current
returns-then-is_current c =
    let page = c.in-Some-get.page.now in
    c.is_of.ensures
    ∙ ap (λ (l : List (Option ℕ)). is_of_version page.version (slice_get l page.slot)) c.as_slice.ensures.value
    ∙ known-page c.args.self.now c.args.place c.args.t c.args.k c.in-Some.step.now page true
    (there (goal.at.returns-then-is_current c).In-Some) (at (goal.at.returns-then-is_current c).In-Some-get)
    (sym c.if-is_current.true ∙ c.is_current.ensures)

pub returns-else-is_current : goal.returns-else-is_current
returns-else-is_current c =
    c.if-is_current.false
    ∙ known-page c.args.self.now c.args.place c.args.t c.args.k c.in-Some.step.now c.in-Some-get.page.now false
    (there (goal.at.returns-else-is_current c).In-Some) (at (goal.at.returns-else-is_current c).In-Some-get)
    (sym c.if-is_current.false ∙ c.is_current.ensures)

pub returns-in-None : goal.returns-in-None
returns-in-None c =
    no-page c.args.self.now c.args.place c.args.t c.args.k c.in-Some.step.now (there (goal.at.returns-in-None c).In-Some)
    (ap (λ (l : List PageVersion). slice_get l c.args.k) (sym c.deref-2.ensures.value)
    ∙ slice_get_past c.deref-2.result.now c.args.k c.in-None.ensures.lookup.3)

pub returns-in_default : goal.returns-in_default
returns-in_default c =
    no-step c.args.self.now c.args.place c.args.t c.args.k
    (ap (λ (l : List StepVersions). slice_get l c.args.place) (sym c.deref.ensures.value)
    ∙ slice_get_past c.deref.result.now c.args.place c.in_default.ensures.lookup.3)
