-- When a change of the objects is local to those that it names.
use Rattle.std.proofs.Common.{◌≡◌, Bool, true, false, ◌&&◌, List, [], ◌∷◌, refl, sym, ap, subst, ◌∙◌, true≢false, arith}
use Rattle.guest_call.specs.declared.Object.{Object}
use Rattle.guest_call.specs.declared.Object.TheVariants.{Output, ThreadTable, Mutex as MutexOf, Semaphore as SemaphoreOf, Barrier as BarrierOf, Condition as ConditionOf, RwLock as RwLockOf}
use Rattle.guest_call.specs.Answers.{answer_einval}
use Rattle.guest_call.specs.Effect.{Effect, answers}
use Rattle.guest_call.specs.Tables.{checked}
use Rattle.guest_call.specs.Objects.{Objects, one_of, IsKept}
use Rattle.guest_call.specs.Locality.{Part, part_of, same_object, is_among, Agree, IsLocalBy}

-- a change that changes no object is local to whatever it names
pub nothing_local : (e : Effect) (objects : List Object) (o : Objects) → IsLocalBy (λ x. (e, x)) (λ x. objects) o
nothing_local e objects o = record {
  stays = λ p apart. refl;
  same_objects = λ other alike. refl;
  same_effect = λ other alike. refl;
  same_parts = λ other kept alike. alike;
}

-- a change looks only at a state, which determines its effect and the new parts of its objects, and it keeps all
-- others
pub record IsSeenBy {S : Type 0} (look : Objects → S) (effect : S → Effect) (new : S → Object → Part)
    (objects : List Object) (change : Objects → Effect × Objects) (o : Objects) : Type 0 where
  pub looks : (other : Objects) → Agree objects o other → look other ≡ look o
  pub does : (x : Objects) → (change x).0 ≡ effect (look x)
  pub writes :
      (x : Objects) → IsKept x → (p : Object) → is_among p objects ≡ true → part_of (change x).1 p ≡ new (look x) p
  pub leaves : (p : Object) → is_among p objects ≡ false → part_of (change o).1 p ≡ part_of o p

-- such a change is local to its objects
pub seen_local :
    {S : Type 0} (look : Objects → S) (effect : S → Effect) (new : S → Object → Part) (objects : List Object)
    (change : Objects → Effect × Objects) (o : Objects)
    → IsKept o →
    IsSeenBy look effect new objects change o → IsLocalBy change (λ x. objects) o
seen_local look effect new objects change o kept seen = record {
  stays = seen.leaves;
  same_objects = λ other alike. refl;
  same_effect = λ other alike. seen.does other ∙ ap effect (seen.looks other alike) ∙ sym (seen.does o);
  same_parts =
      λ other kept_too alike p among. seen.writes other kept_too p among ∙ ap (λ s. new s p) (seen.looks other alike)
      ∙ sym (seen.writes o kept p among);
}

-- a change that names its objects by the state is local, if it does what a local change does whenever these objects
-- are alike
pub like_local :
    (change like : Objects → Effect × Objects) (objects : Objects → List Object) (named : List Object) (o : Objects)
    → objects o ≡ named →
    ((other :
    Objects) → Agree named o other → objects other ≡ named)
    → ((other : Objects) → Agree named o other → change other ≡ like other) → IsLocalBy like (λ x. named) o →
    IsLocalBy change objects o
like_local change like objects named o named_o names does local = record {
  stays = λ p apart. ap (λ (r : Effect × Objects). part_of r.1 p) at_o
      ∙ local.stays p (subst (λ (q : List Object). is_among p q ≡ false) named_o apart);
  same_objects = λ other alike. names other (these other alike) ∙ sym named_o;
  same_effect =
      λ other alike. ap (λ (r : Effect × Objects). r.0) (does other (these other alike))
      ∙ local.same_effect other (these other alike) ∙ sym (ap (λ (r : Effect × Objects). r.0) at_o);
  same_parts = λ other kept alike p among.
      ap (λ (r : Effect × Objects). part_of r.1 p) (does other (these other alike))
      ∙ local.same_parts other kept (these other alike) p
      (subst (λ (q : List Object). is_among p q ≡ true) named_o among)
      ∙ sym (ap (λ (r : Effect × Objects). part_of r.1 p) at_o);
}
  where
    these : (other : Objects) → Agree (objects o) o other → Agree named o other
    these other alike = subst (λ (q : List Object). Agree q o other) named_o alike

    at_o : change o ≡ like o
    at_o = does o (λ p among. refl)

-- a change that is refused if its arguments are out of range, and then acts on nothing
pub checked_local :
    (a b : Bool) (change : Objects → Effect × Objects) (q : Object) (o : Objects) → IsLocalBy change (λ x. one_of a q) o
    →
    IsLocalBy (λ x. checked b x (change x)) (λ x. one_of (a && b) q) o
checked_local true true change q o local = local
checked_local true false change q o local = nothing_local (answers answer_einval) [] o
checked_local false true change q o local = local
checked_local false false change q o local = nothing_local (answers answer_einval) [] o

-- two names of one object are the same
pub same_is : (p q : Object) → same_object p q ≡ true → p ≡ q
same_is Output Output is = refl
same_is ThreadTable ThreadTable is = refl
same_is (MutexOf k) (MutexOf m) is = ap MutexOf (grind arith)
same_is (SemaphoreOf k) (SemaphoreOf m) is = ap SemaphoreOf (grind arith)
same_is (BarrierOf k) (BarrierOf m) is = ap BarrierOf (grind arith)
same_is (ConditionOf k) (ConditionOf m) is = ap ConditionOf (grind arith)
same_is (RwLockOf k) (RwLockOf m) is = ap RwLockOf (grind arith)
same_is _ _ is = absurd (true≢false (sym is))

-- an object among one is that one
pub among_one : (p q : Object) → is_among p (q ∷ []) ≡ true → p ≡ q
among_one p q among = same_is p q (grind arith)
