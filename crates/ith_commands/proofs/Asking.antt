-- Files whose reads are requested one after the other, and where that stops.
use Rattle.std.proofs.Common.{◌≡◌, ◌<◌, ◌≤◌, ℕ, zero, suc, List, [], ◌∷◌, ◌++◌, length, take, map, get_or, Option, Some, None, refl, ap, sym, subst, ◌∙◌, append_assoc, arith}
use Rattle.std.specs.Prelude.{All, IfSome}
use Rattle.std.proofs.lemmas.List.{append-nil, map-append}
use Rattle.std.proofs.lemmas.List.Elements.{All-append, All-cons, All-nil}
use Rattle.edit_spec.specs.declared.TheConstants.{MOST_LIST_BYTES}
use Rattle.ith_host.specs.World.{World, NoneFell, Stays, AsksFor, AsksNothing}
use Rattle.ith_commands.specs.declared.status.Status.{Status}
use Rattle.ith_commands.specs.declared.status.Status.TheVariants as status
use Rattle.ith_words.specs.Words.{Text}
use Rattle.ith_commands.specs.Files.{Named, lists_named, AsksForFiles, Reads, StopsAt, FailedToRead, IsLong, IsWithin}
use Rattle.ith_commands.specs.Ends.{SomeRead}
use Rattle.ith_commands.specs.Contents.{AreLists}
use Rattle.ith_commands.specs.Refusals.{WhyUnread}
use Rattle.ith_commands.proofs.Worlds.{stays_trans, none_fell_trans, rose_before, rose_then, long_before, within_before}

-- reads of names were requested, and then of others
pub asked_both : (xs ys : List Text) (a b c : World) → AsksFor xs a b → AsksFor ys b c → AsksFor (xs ++ ys) a c
asked_both xs ys a b c one other = other ∙ ap (λ (l : List Text). l ++ ys) one ∙ append_assoc a.asked xs ys

-- reads of files were requested, and then of others
pub files_both : (xs ys : List Named) (a b c : World) → AsksForFiles xs a b → AsksForFiles ys b c
    → AsksForFiles (xs ++ ys) a c
files_both xs ys a b c one other =
    let name = λ (f : Named). f.name in
    subst (λ (names : List Text). AsksFor names a c) (sym (map-append name xs ys))
    (asked_both (map name xs) (map name ys) a b c one other)

-- files were read, and then others
pub reads_both : (xs ys : List Named) (a b c : World) → Reads xs a b → Reads ys b c → Reads (xs ++ ys) a c
reads_both xs ys a b c one other =
    record {
      asked = files_both xs ys a b c one.asked other.asked;
      stays = stays_trans a b c one.stays other.stays;
      counts = none_fell_trans a b c one.counts other.counts;
    }

names-named : (names : List Text) → map (λ (f : Named). f.name) (lists_named names) ≡ names
names-named [] = refl
names-named (name ∷ names) = ap (λ (l : List Text). name ∷ l) (names-named names)

-- reads of edit lists of some names were requested
pub lists_asked : (names : List Text) (a b : World) → AsksFor names a b → AsksForFiles (lists_named names) a b
lists_asked names a b asked = subst (λ (ns : List Text). AsksFor ns a b) (sym (names-named names)) asked

-- a file is within a limit, if its content is and the host states it
pub within_reported : (reported : Option (List ℕ)) (bytes : List ℕ) (most : ℕ) → IfSome reported (λ t. t ≡ bytes)
    → length bytes ≤ most → IfSome reported (λ t. length t ≤ most)
within_reported None bytes most is within = tt
within_reported (Some t) bytes most is within = rw is within

pub lists_within : (a : World) (names : List Text) (lists : List (List ℕ)) → AreLists a names lists
    → All (IsWithin a) (lists_named names)
lists_within a [] [] are = All-nil (IsWithin a)
lists_within a [] (list ∷ lists) are = absurd are
lists_within a (name ∷ names) [] are = absurd are
lists_within a (name ∷ names) (list ∷ lists) are =
    All-cons (IsWithin a) (record { name = name; most = MOST_LIST_BYTES }) (lists_named names)
    (within_reported (a.files name) list MOST_LIST_BYTES are.0.0 are.0.1) (lists_within a names lists are.1)

-- the read of one file was requested, and a cause stops the reads there
one_stops : (cause : Named → Type 0) (file : Named) (a b : World) → AsksForFiles (file ∷ []) a b → cause file
    → StopsAt cause (file ∷ []) a b
one_stops cause file a b asked is =
    record {
      earlier = [];
      file = file;
      later = [];
      are = refl;
      asked = asked;
      within = All-nil (IsWithin a);
      cause = is;
    }

-- reading it failed
pub one_failed :
    (file : Named) (a b c : World)
    → AsksForFiles (file ∷ []) a b → Stays a b → FailedToRead a b file
    → AsksNothing b c → Stays b c → NoneFell b c → WhyUnread (file ∷ []) a c status.ReadFault
one_failed file a b c asked stays rose none then fell =
    record {
      stops = one_stops (FailedToRead a c) file a c (none ∙ asked) (rose_then _ _ _ rose (fell.reads file.name));
      stays = stays_trans a b c stays then;
    }

-- it is longer than its limit
pub one_long :
    (file : Named) (a b c : World)
    → AsksForFiles (file ∷ []) a b → Stays a b → IsLong a file
    → AsksNothing b c → Stays b c → WhyUnread (file ∷ []) a c status.TooLarge
one_long file a b c asked stays long none then =
    record { stops = one_stops (IsLong a) file a c (none ∙ asked) long; stays = stays_trans a b c stays then }

-- reads of all of some files were requested when the host's memory ran out
pub unbegun : (files : List Named) (a b : World) → AsksForFiles files a b → Stays a b → SomeRead files a b
unbegun files a b asked stays =
    record {
      asked = record { first = files; later = []; are = sym (append-nil files); asked = asked };
      stays = stays;
    }

stops_front : (cause : Named → Type 0) (files more : List Named) (a b : World) → StopsAt cause files a b
    → StopsAt cause (files ++ more) a b
stops_front cause files more a b stops =
    record {
      earlier = stops.earlier;
      file = stops.file;
      later = stops.later ++ more;
      are = ap (λ (l : List Named). l ++ more) stops.are ∙ append_assoc stops.earlier (stops.file ∷ stops.later) more;
      asked = stops.asked;
      within = stops.within;
      cause = stops.cause;
    }

-- a file that stops a call among the first files stops it among all of them
pub unread_front : (files more : List Named) (a b : World) (s : Status) → WhyUnread files a b s
    → WhyUnread (files ++ more) a b s
unread_front files more a b status.ReadFault why =
    record { stops = stops_front (FailedToRead a b) files more a b why.stops; stays = why.stays }
unread_front files more a b status.NoMemory why =
    let some = why.asked in
    record {
      asked = record {
        first = some.first;
        later = some.later ++ more;
        are = ap (λ (l : List Named). l ++ more) some.are ∙ append_assoc some.first some.later more;
        asked = some.asked;
      };
      stays = why.stays;
    }
unread_front files more a b status.TooLarge why =
    record { stops = stops_front (IsLong a) files more a b why.stops; stays = why.stays }
unread_front files more a b _ why = absurd why

stops_more :
    (cause other : Named → Type 0) (done files : List Named) (a b c : World)
    → ((f : Named) → cause f → other f) → Stays a b → AsksForFiles done a b → All (IsWithin a) done
    → StopsAt cause files b c → StopsAt other (done ++ files) a c
stops_more cause other done files a b c gives stays asked within stops =
    let earlier : All (IsWithin a) stops.earlier = λ k d below. within_before a b _ stays (stops.within k d below) in
    record {
      earlier = done ++ stops.earlier;
      file = stops.file;
      later = stops.later;
      are = ap (λ (l : List Named). done ++ l) stops.are
          ∙ sym (append_assoc done stops.earlier (stops.file ∷ stops.later));
      asked = subst (λ (l : List Named). AsksForFiles l a c) (sym (append_assoc done stops.earlier (stops.file ∷ [])))
          (files_both done (stops.earlier ++ stops.file ∷ []) a b c asked stops.asked);
      within = All-append (IsWithin a) done stops.earlier within earlier;
      cause = gives stops.file stops.cause;
    }

-- a file that stops a call after some files were read
pub unread_more :
    (done files : List Named) (a b c : World) (s : Status)
    → Reads done a b → All (IsWithin a) done → WhyUnread files b c s → WhyUnread (done ++ files) a c s
unread_more done files a b c status.ReadFault reads within why =
    record {
      stops = stops_more (FailedToRead b c) (FailedToRead a c) done files a b c
          (λ f it. rose_before _ _ _ (reads.counts.reads f.name) it) reads.stays reads.asked within why.stops;
      stays = stays_trans a b c reads.stays why.stays;
    }
unread_more done files a b c status.NoMemory reads within why =
    let some = why.asked in
    record {
      asked = record {
        first = done ++ some.first;
        later = some.later;
        are = ap (λ (l : List Named). done ++ l) some.are ∙ sym (append_assoc done some.first some.later);
        asked = files_both done some.first a b c reads.asked some.asked;
      };
      stays = stays_trans a b c reads.stays why.stays;
    }
unread_more done files a b c status.TooLarge reads within why =
    record {
      stops = stops_more (IsLong b) (IsLong a) done files a b c (λ f it. long_before a b f reads.stays it)
          reads.stays reads.asked within why.stops;
      stays = stays_trans a b c reads.stays why.stays;
    }
unread_more done files a b c _ reads within why = absurd why

-- the names before a place, the one there, and those after it
pub split_at : (names : List Text) (place : ℕ) (name : Text) → place < length names → name ≡ get_or names place name
    → (later : List Text) × (names ≡ take place names ++ name ∷ later)
split_at [] place name within at = let no : ⊥ = omega arith in absurd no
split_at (first ∷ names) zero name within at = (names, ap (λ (n : Text). n ∷ names) (sym at))
split_at (first ∷ names) (suc place) name within at =
    let rest = split_at names place name (omega arith) at in
    (rest.0, ap (λ (l : List Text). first ∷ l) rest.1)
