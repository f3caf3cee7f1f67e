-- Answers to the goals that the check of `is_last` leaves open.
use Rattle.std.proofs.Common.{◌≡◌, ◌∙◌, ap, sym, subst, ℕ, zero, suc, eqb, slice_get, get_or, true, is_some, Some, None, List, [], ◌∷◌, Option, refl}
use Rattle.std.specs.Option.{option_eq}
use Rattle.std.proofs.lemmas.Bool.{eqb-true}
use Rattle.thunk_record.specs.declared.job.Job.{Job}
use Rattle.shared_words.proofs.Issuing.{last_job}
use Rattle.shared_words.proofs.issuer.Issuer.is_last.Goals as goal

there_is : (o : Option Job) → is_some o ≡ true → (job : Job) × (o ≡ Some job)
there_is None some = cc
there_is (Some job) some = (job, refl)

number_at :
    (xs : List (Option ℕ)) (k n : ℕ) → option_eq eqb (get_or xs k None) (Some n) ≡ true
    → slice_get xs k ≡ Some (Some n)
number_at [] k n is = cc
number_at (None ∷ xs) zero n is = cc
number_at (Some m ∷ xs) zero n is = ap (λ k. Some (Some k)) (eqb-true m n is)
number_at (x ∷ xs) (suc k) n is = number_at xs k n is

pub returns : goal.returns
returns c same =
    let t = c.args.t in
    let number = c.ticket.inside.number in
    let last = c.self.inside.last in
    let one = there_is c.args.ticket.now.job (subst (λ (o : Option Job). is_some o ≡ true) (ap (λ k. k.job) c.ticket.view_is) c.ticket.invariant) in
    let job : Job = one.0 in
    let there : slice_get last t ≡ Some (Some number) =
    number_at last t number
    (ap (λ k. option_eq eqb (get_or last k None) (Some number)) (sym c.from-2.ensures) ∙ sym c.eq.ensures ∙ same)
    in
    let alike : (other : Job) → slice_get c.self.inside.log.jobs number ≡ Some other → job ≡ other =
    λ other at.
    c.agree.ensures other
    (subst (λ n. slice_get c.self.inside.log.jobs n ≡ Some other) (ap (λ k. k.number) c.ticket.view_is) at) job one.1
    in (
      job,
      one.1,
      subst (λ (jobs : List (Option Job)). slice_get jobs t ≡ Some (Some job)) (ap (λ v. v.jobs) c.self.view_is)
          (last_job c.self.inside.log.jobs last t number job c.self.invariant there alike),
    )
