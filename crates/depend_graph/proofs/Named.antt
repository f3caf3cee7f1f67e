-- The clocks of objects, by the place of the first of the object's name.
use Rattle.std.proofs.Common.{◌≡◌, ◌<◌, ◌≢◌, ℕ, zero, suc, Bool, true, false, ltb, cond, Some, None, List, [], ◌∷◌, ◌++◌, length, slice_index, get_or, refl, ap, sym, ◌∙◌, subst, arith}
use Rattle.std.specs.List.{position, position_or_len}
use Rattle.std.proofs.Math.ListN.{set}
use Rattle.std.proofs.lemmas.List.{get_or-set_other, get_or-set_same, length-set}
use Rattle.std.proofs.lemmas.List.Quantifiers.{position-Some}
use Rattle.std.proofs.lemmas.List.Sums.{fails_before_first}
use Rattle.std.proofs.lemmas.Bool.{eq-eqb, ltb-false}
use Rattle.guest_call.specs.declared.Object.{Object}
use Rattle.guest_call.specs.declared.Object.TheVariants.{Output, ThreadTable, Mutex, Semaphore, Barrier, Condition, RwLock}
use Rattle.guest_call.specs.Locality.{same_object}
use Rattle.guest_call.proofs.Locality.{same_is}
use Rattle.depend_graph.specs.declared.objects.ObjectClock.{ObjectClock}
use Rattle.depend_graph.specs.Clocks.{object_clock_in, IsLargerOf}

-- the first of its name
first-is :
    (cs : List ObjectClock) (o : Object) (i : ℕ) (d : ObjectClock)
    → i < length cs
    → ((k : ℕ) → k < i → same_object o (get_or cs k d).object ≡ false)
    → same_object o (get_or cs i d).object ≡ true
    → object_clock_in cs o ≡ (get_or cs i d).clock
first-is [] o i d below before is = absurd (omega arith)
first-is (c ∷ cs) o zero d below before is = rw is refl
first-is (c ∷ cs) o (suc i) d below before is =
    let apart : same_object o c.object ≡ false = before 0 (omega arith) in
    rw apart (first-is cs o i d (omega arith) (λ k low. before (suc k) (omega arith)) is)

none-is :
    (cs : List ObjectClock) (o : Object) (d : ObjectClock)
    → ((k : ℕ) → k < length cs → same_object o (get_or cs k d).object ≡ false) → object_clock_in cs o ≡ []
none-is [] o d none = refl
none-is (c ∷ cs) o d none =
    let apart : same_object o c.object ≡ false = none 0 (omega arith) in
    rw apart (none-is cs o d (λ k low. none (suc k) (omega arith)))

-- another name at a place
pub other-set :
    (cs : List ObjectClock) (o : Object) (i : ℕ) (e d : ObjectClock)
    → same_object o (get_or cs i d).object ≡ false → same_object o e.object ≡ false
    → object_clock_in (set cs i e) o ≡ object_clock_in cs o
other-set [] o i e d was apart = refl
other-set (c ∷ cs) o zero e d was apart = rw (was, apart) refl
other-set (c ∷ cs) o (suc i) e d was apart =
    ap (λ x. cond (same_object o c.object) c.clock x) (other-set cs o i e d was apart)

pub other-push :
    (cs : List ObjectClock) (o : Object) (e : ObjectClock)
    → same_object o e.object ≡ false → object_clock_in (cs ++ e ∷ []) o ≡ object_clock_in cs o
other-push [] o e apart = rw apart refl
other-push (c ∷ cs) o e apart = ap (λ x. cond (same_object o c.object) c.clock x) (other-push cs o e apart)

own-push :
    (cs : List ObjectClock) (o : Object) (e d : ObjectClock)
    → ((k : ℕ) → k < length cs → same_object o (get_or cs k d).object ≡ false) → same_object o e.object ≡ true
    → object_clock_in (cs ++ e ∷ []) o ≡ e.clock
own-push [] o e d none is = rw is refl
own-push (c ∷ cs) o e d none is =
    let apart : same_object o c.object ≡ false = none 0 (omega arith) in
    rw apart (own-push cs o e d (λ k low. none (suc k) (omega arith)) is)

abbrev pub is_named : Object → ObjectClock → Bool
is_named o c = same_object o c.object

pub same-own : (o : Object) → same_object o o ≡ true
same-own Output = refl
same-own ThreadTable = refl
same-own (Mutex k) = eq-eqb k k refl
same-own (Semaphore k) = eq-eqb k k refl
same-own (Barrier k) = eq-eqb k k refl
same-own (Condition k) = eq-eqb k k refl
same-own (RwLock k) = eq-eqb k k refl

-- if no clock has the name
without :
    (cs : List ObjectClock) (o : Object) (d : ObjectClock)
    → position (is_named o) cs ≡ None → (k : ℕ) → k < length cs → same_object o (get_or cs k d).object ≡ false
without cs o d none k below =
    fails_before_first (is_named o) cs k d (here (ltb (position_or_len (is_named o) cs) (length cs)) refl none)
  where
    here :
        (b : Bool) → ltb (position_or_len (is_named o) cs) (length cs) ≡ b
        → cond (ltb (position_or_len (is_named o) cs) (length cs)) (Some (position_or_len (is_named o) cs)) None ≡ None
        → k < position_or_len (is_named o) cs
    here true is none = (let clash = rw is at none in cc)
    here false is none = omega (arith, ltb-false (position_or_len (is_named o) cs) (length cs) is, below)

pub clock-none : (cs : List ObjectClock) (o : Object) → position (is_named o) cs ≡ None → object_clock_in cs o ≡ []
clock-none cs o none =
    let any : ObjectClock = record { object = o; clock = [] } in
    none-is cs o any (without cs o any none)

pub clock-found :
    (cs : List ObjectClock) (o : Object) (i : ℕ) (d : ObjectClock)
    → position (is_named o) cs ≡ Some i → object_clock_in cs o ≡ (get_or cs i d).clock
clock-found cs o i d found =
    let at = position-Some (is_named o) cs i d found in
    first-is cs o i d at.0 at.2 at.1

-- a clock was joined to that of a name that has one
pub larger-set :
    (cs : List ObjectClock) (name o : Object) (i : ℕ) (d : ObjectClock) (joined clock : List ℕ)
    → position (is_named name) cs ≡ Some i → d ≡ get_or cs i d → IsLargerOf joined d.clock clock
    → same_object o name ≡ true
    → IsLargerOf (object_clock_in (set cs i (record { object = d.object; clock = joined })) o)
    (object_clock_in cs o) clock
larger-set cs name o i d joined clock found here larger is =
    subst (λ (x : Object). IsLargerOf (object_clock_in (set cs i e) x) (object_clock_in cs x) clock)
    (sym (same_is o name is))
    (λ t.
    let new = ap (λ (c : List ℕ). slice_index c t) own in
    let old = ap (λ (c : List ℕ). slice_index c t)
    (clock-found cs name i d found ∙ ap (λ (c : ObjectClock). c.clock) (sym here)) in
    let more = larger t in
    omega arith)
  where
    e : ObjectClock
    e = record { object = d.object; clock = joined }

    own : object_clock_in (set cs i e) name ≡ joined
    own =
        let at = position-Some (is_named name) cs i d found in
        let placed : get_or (set cs i e) i d ≡ e = get_or-set_same cs i e d at.0 in
        let long : length (set cs i e) ≡ length cs = length-set cs i e in
        let named : same_object name d.object ≡ true = rw here at.1 in
        first-is (set cs i e) name i d (omega arith)
        (λ k low.
        let apart : k ≢ i = omega arith in
        let kept : get_or (set cs i e) k d ≡ get_or cs k d = get_or-set_other cs i k e d apart in
        rw kept (at.2 k low))
        (rw placed named)
        ∙ ap (λ (c : ObjectClock). c.clock) placed

pub others-set :
    (cs : List ObjectClock) (name o : Object) (i : ℕ) (d : ObjectClock) (joined : List ℕ)
    → position (is_named name) cs ≡ Some i → d ≡ get_or cs i d → same_object o name ≡ false
    → object_clock_in (set cs i (record { object = d.object; clock = joined })) o ≡ object_clock_in cs o
others-set cs name o i d joined found here isnt =
    let at = position-Some (is_named name) cs i d found in
    let same : name ≡ (get_or cs i d).object = same_is name (get_or cs i d).object at.1 in
    let apart : same_object o (get_or cs i d).object ≡ false =
    subst (λ (x : Object). same_object o x ≡ false) same isnt in
    let apart_too : same_object o d.object ≡ false =
    subst (λ (x : ObjectClock). same_object o x.object ≡ false) (sym here) apart in
    other-set cs o i (record { object = d.object; clock = joined }) d apart apart_too

-- a name got its first clock
pub larger-push :
    (cs : List ObjectClock) (name o : Object) (clock : List ℕ)
    → position (is_named name) cs ≡ None → same_object o name ≡ true
    → IsLargerOf (object_clock_in (cs ++ record { object = name; clock = clock } ∷ []) o) (object_clock_in cs o) clock
larger-push cs name o clock none is =
    subst (λ (x : Object). IsLargerOf (object_clock_in (cs ++ e ∷ []) x) (object_clock_in cs x) clock)
    (sym (same_is o name is))
    (λ t.
    let new = ap (λ (c : List ℕ). slice_index c t) (own-push cs name e e (without cs name e none) (same-own name)) in
    let old = ap (λ (c : List ℕ). slice_index c t) (clock-none cs name none) in
    omega arith)
  where
    e : ObjectClock
    e = record { object = name; clock = clock }
