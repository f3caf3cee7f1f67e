-- The clocks of threads, objects and pages.
use Rattle.std.specs.Prelude.{◌≡◌, ℕ, zero, suc, max, List, [], ◌∷◌, slice_index, slice_index_or, unwrap_or, if◌then◌else◌}
use Rattle.std.specs.Ordering.{nat_cmp}
use Rattle.std.specs.BTreeMap.{get}
use Rattle.guest_call.specs.declared.Object.{Object}
use Rattle.guest_call.specs.Locality.{same_object}
use Rattle.depend_graph.specs.declared.threads.ThreadClocks.{ThreadClocks}
use Rattle.depend_graph.specs.declared.objects.ObjectClock.{ObjectClock}
use Rattle.depend_graph.specs.declared.objects.ObjectClocks.{ObjectClocks}
use Rattle.depend_graph.specs.declared.pages.PageClocks.{PageClocks}

-- The clocks of a thread, of an object, and of a page. An object or a page without a clock counts no step.
abbrev pub thread_clock : ThreadClocks → ℕ → List ℕ
thread_clock s t = slice_index_or s.clocks t []

abbrev pub object_clock_in : List ObjectClock → Object → List ℕ
object_clock_in [] o = []
object_clock_in (c ∷ cs) o = if same_object o c.object then c.clock else object_clock_in cs o

abbrev pub object_clock : ObjectClocks → Object → List ℕ
object_clock s o = object_clock_in s.clocks.items o

abbrev pub page_clock : PageClocks → ℕ → List ℕ
page_clock s p = unwrap_or (get nat_cmp s.clocks p) []

-- A clock has the larger of each two counts.
abbrev pub IsLargerOf : List ℕ → List ℕ → List ℕ → Type 0
IsLargerOf c a b = (t : ℕ) → slice_index c t ≡ max (slice_index a t) (slice_index b t)

-- The largest count of a thread in the clocks of some things, and in those of the numbers below another.
abbrev pub largest_at : {K : Type 0} → (K → List ℕ) → List K → ℕ → ℕ
largest_at clock [] t = 0
largest_at clock (k ∷ ks) t = max (slice_index (clock k) t) (largest_at clock ks t)

abbrev pub largest_below : (ℕ → List ℕ) → ℕ → ℕ → ℕ
largest_below clock zero t = 0
largest_below clock (suc n) t = max (slice_index (clock n) t) (largest_below clock n t)
