-- Tickets for the steps of a round that are in flight.
use Rattle.std.specs.Prelude.{◌≡◌, ℕ, ⊤, true, Option, Some, None, IfSome, slice_get}
use Rattle.logbook.specs.Pages.{Book}
use Rattle.thunk_record.specs.declared.job.Job.{Job}
use Rattle.thunk_run.specs.declared.run.Run.{Run}
use Rattle.thunk_run.specs.Running.{IsRunOf}
use Rattle.release_core.specs.Jobs.{IsJobOf}
use Rattle.shared_words.specs.TicketViews.{TicketView, IssuerView, IsForLastJob}
use Rattle.round_spec.specs.Rounds.{RoundState, is_in_flight}
use Rattle.rerun_workers.specs.declared.locked.Task.{Task}
use Rattle.rerun_workers.specs.declared.locked.Task.TheVariants as task

-- The tickets of an issuer are in this book, and the last one of a thread that is in flight is for its next step.
pub record AreIssued (book : Book) (w : RoundState) (issuer : IssuerView) : Type 0 where
  pub named : issuer.book ≡ book
  pub last :
      (t : ℕ) (job : Job) → is_in_flight w t ≡ true → slice_get issuer.jobs t ≡ Some (Some job)
      → IsJobOf w.machine t job

-- A ticket, if there is one, is of this book.
abbrev pub IsNamed : Book → Option TicketView → Type 0
IsNamed book ticket = IfSome ticket (λ (k : TicketView). k.book ≡ book)

-- A ticket, if there is one, is for this job.
abbrev pub IsTicketOf : Option TicketView → Job → Type 0
IsTicketOf ticket job = IfSome ticket (λ (k : TicketView). k.job ≡ Some job)

-- If a worker is assigned a step, a ticket, if there is one, is for its job.
abbrev pub IsTicketFor : Option TicketView → Task → Type 0
IsTicketFor ticket (task.Begin job) = IsTicketOf ticket job
IsTicketFor ticket task.Hold = ⊤
IsTicketFor ticket task.Over = ⊤
IsTicketFor ticket task.NoMemory = ⊤

-- There is a ticket, and it is for the job of the last ticket of a thread.
abbrev pub IsLastOf : IssuerView → ℕ → Option TicketView → Type 0
IsLastOf issuer t None = ⊥
IsLastOf issuer t (Some ticket) = IsForLastJob issuer t ticket

-- A run is of the job that a ticket is for, if there is a ticket.
abbrev pub IsRunOfTicket : Option TicketView → Run → Type 0
IsRunOfTicket ticket run = IfSome ticket (λ (k : TicketView). (job : Job) → k.job ≡ Some job → IsRunOf job run)
