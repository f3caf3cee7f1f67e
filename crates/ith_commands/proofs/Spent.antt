-- If a command line isn't done, no claim is made of the turns that were executed.
use Rattle.std.proofs.Common.{ℕ, Bool, List, Option, inl, inr}
use Rattle.machine_spec.specs.Setup.{Setup}
use Rattle.ith_host.specs.World.{World}
use Rattle.ith_words.specs.Words.{Text}
use Rattle.ith_commands.specs.declared.status.Status.{Status}
use Rattle.ith_commands.specs.declared.status.Status.TheVariants as status
use Rattle.ith_commands.specs.Statuses.{IfDone}
use Rattle.ith_commands.specs.Files.{Named}
use Rattle.ith_commands.specs.Contents.{Plan}
use Rattle.ith_commands.specs.Counting.{Work}
use Rattle.ith_commands.specs.Ends.{EndsBy}
use Rattle.ith_commands.specs.Refusals.{WhyUnreplayed, WhyUnprinted, WhyUndone}

pub early_unspent :
    (files : List Named) (image memo list : Type 0) (a b : World) (s : Status) (fact : Bool → Type 0)
    → EndsBy files image memo list a b s → IfDone s fact
early_unspent files image memo list a b status.Finished fact ends = absurd ends
early_unspent files image memo list a b status.Unfinished fact ends = absurd ends
early_unspent files image memo list a b _ fact ends = tt

pub unprinted_unspent : (text : List ℕ) (a b : World) (s : Status) (fact : Bool → Type 0) → WhyUnprinted text a b s
    → IfDone s fact
unprinted_unspent text a b status.Finished fact why = absurd why
unprinted_unspent text a b status.Unfinished fact why = absurd why
unprinted_unspent text a b _ fact why = tt

pub unreplayed_unspent : (setup : Setup) (text : List ℕ) (s : Status) (fact : Bool → Type 0) → WhyUnreplayed setup text s
    → IfDone s fact
unreplayed_unspent setup text status.Finished fact why = absurd why
unreplayed_unspent setup text status.Unfinished fact why = absurd why
unreplayed_unspent setup text _ fact why = tt

pub rounds_unspent :
    (name : Option Text) (workers : ℕ) (p : Plan) (a b : World) (earlier later : Work) (s : Status) (fact : Bool → Type 0)
    → WhyUndone name workers p a b earlier later s → IfDone s fact
rounds_unspent name workers p a b earlier later status.Finished fact why =
    elim why [ inl part ↦ absurd part.why | inr after ↦ absurd after.why ]
rounds_unspent name workers p a b earlier later status.Unfinished fact why =
    elim why [ inl part ↦ absurd part.why | inr after ↦ absurd after.why ]
rounds_unspent name workers p a b earlier later _ fact why = tt
