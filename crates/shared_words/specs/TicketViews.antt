-- What contracts see of tickets, of their log, and of an issuer.
use Rattle.std.specs.Prelude.{ℕ, ◌≡◌, ◌<◌, true, List, [], ◌∷◌, ◌++◌, length, Option, Some, None, replicate, slice_get}
use Rattle.logbook.specs.Pages.{Book, Named}
use Rattle.thunk_record.specs.declared.job.Job.{Job}

-- A ticket: the book whose log has its job, the number of the job there, and the job.
pub record TicketView : Type 0 where
  pub book : Book
  pub number : ℕ
  pub job : Option Job

-- A log: its book, and the jobs that were seen of it.
pub record LogView : Type 0 where
  pub book : Book
  pub jobs : List Job

-- An issuer: the book of its log, and the job of the last ticket of each of the 32 threads, if it has one.
pub record IssuerView : Type 0 where
  pub book : Book
  pub jobs : List (Option Job)

-- The first word of a book.
abbrev pub head_of : Book → Named
head_of b = record { tracked = true; key = 0; book = b }

-- The name of no book.
abbrev pub no_book : Book
no_book = record { number = 0; log_name = 0; cells_name = 0 }

-- The job at a number in a log, if there is a number.
abbrev pub job_at : List Job → Option ℕ → Option Job
job_at jobs None = None
job_at jobs (Some n) = slice_get jobs n

-- The job, and the number, of a ticket, if there is one.
abbrev pub job_of : Option TicketView → Option Job
job_of None = None
job_of (Some ticket) = ticket.job

abbrev pub number_of : Option TicketView → Option ℕ
number_of None = None
number_of (Some ticket) = Some ticket.number

-- A ticket is for the job of the last ticket of a thread.
abbrev pub IsForLastJob : IssuerView → ℕ → TicketView → Type 0
IsForLastJob issuer t ticket =
    (job : Job) × (ticket.job ≡ Some job) × (slice_get issuer.jobs t ≡ Some (Some job))

-- No thread has a number.
unfoldable pub no_numbers : List (Option ℕ)
no_numbers = replicate 32 None

-- Each number is below the length of the log.
abbrev pub AreBelow : ℕ → List (Option ℕ) → Type 0
AreBelow count last = (t n : ℕ) → slice_get last t ≡ Some (Some n) → n < count

-- What appending a job gave: a ticket for it, at the end of the log; or none, and the log is as before.
abbrev pub Appended : LogView → LogView → Job → Option TicketView → Type 0
Appended old new job None = new ≡ old
Appended old new job (Some ticket) =
    (ticket.number ≡ length old.jobs) × (new.jobs ≡ old.jobs ++ job ∷ []) × (ticket.job ≡ Some job)
