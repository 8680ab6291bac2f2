-- THE WHOLE DAY AT ONCE, on one page: document 02, request Fourteen, sentence by sentence, over the calls (specs/Day). `days` (specs/laws/Days) proves it.
-- "Take any list of header and frame calls from a fresh session": s is the first record and picture, `fresh` on either glass over any picture, and t the
-- last. Nothing else
-- is asked of the calls: a frame before the headers, a picture too short and a wrong work list are answers like others. All of it holds from any record s.
-- (01 is this project's scope document, 02 its change requests, 001 is MS-RDPRFX: README, "What 01 is".)
use Rattle.std.specs.Prelude.{ℕ, ◌≡◌, List, [], map, length, get_or}
use Rattle.wire.specs.declared.Refusal.{Refusal}
use Rattle.wire.specs.Le.{le16}
use Rattle.session.specs.Header.{record_of, kept_glass}
use Rattle.collect.specs.declared.Collected.TheVariants.{Refused}
use Rattle.collect.specs.Collect.{Part, collect_of, parts_of}
use Rattle.collect.specs.Collect as Collect
use Rattle.calls.specs.Calls.{ReadHeader}
use Rattle.day.specs.Day.{State, Call, header, Step, Day, number, struck, Strikes, NoneRefused}
use Rattle.day.specs.Day.{accepted, drawn_over, last_put, or_first, Asked, asked, answered}
use Rattle.day.specs.ForC.{CallC, DayC, number_c, as_call}
use Rattle.day.specs.Front.{Gathered, SameBytes, AllBytes, Gathers, lists_of, CollectedDay, Collects}

-- a day on which this is asked
pub record Made (s : State) (ls : List Asked) : Type 0 where
  pub calls : List Call
  pub end : State
  pub day : Day s calls end
  pub are : map asked calls ≡ ls

pub record Days : Type 0 where
  -- "The picture at the end is the first picture with the accepted frames drawn over it in order"
  pub drawn : {s t : State} {cs : List Call} → Day s cs t → t.picture ≡ drawn_over (accepted cs) s.picture
  -- ", by 01's pixel rule": every word is that of the last accepted frame whose rule changes its place, else the first picture's
  pub pixel : {s t : State} {cs : List Call} → Day s cs t → (i : ℕ) → get_or t.picture i 0 ≡ or_first (last_put (accepted cs) i) (get_or s.picture i 0)
  pub long : {s t : State} {cs : List Call} → Day s cs t → length t.picture ≡ length s.picture
  -- "striking out every refused call leaves all other answers, the record and the picture as they are": what is left is a day of the other calls themselves,
  -- from the same record and picture to the same record and picture
  pub all_struck : {s t : State} {cs : List Call} → Day s cs t → Day s (struck cs) t
  pub none_left : (cs : List Call) → NoneRefused (struck cs)
  -- and so it is if only some of them are struck out
  pub some_struck : {s t : State} {cs ds : List Call} → Day s cs t → Strikes cs ds → Day s ds t
  -- whoever makes the other calls again, on that record and picture, gets all their answers again, that record and that picture
  pub again :
      {s t u : State} {cs ds es : List Call}
      → Day s cs t
      → Strikes cs ds
      → Day s es u
      → map asked es ≡ map asked ds
      → (map answered es ≡ map answered ds) × (u ≡ t)
  -- "A sync in the middle is one of the calls": wherever it stands, a taken one starts the session over on its glass and leaves the picture
  pub sync :
      {s t : State} (c : ReadHeader)
      → Step s (header c) t
      → le16 c.message 0 ≡ 0xCCC0
      → number (header c) ≡ 0
      → (t.session ≡ record_of (kept_glass s.session.glass) 1 0 0 0) × (t.picture ≡ s.picture)
  -- what is asked makes the day, and whatever is asked there is a day
  pub once : {s t u : State} {cs ds : List Call} → Day s cs t → Day s ds u → map asked cs ≡ map asked ds → (map answered cs ≡ map answered ds) × (t ≡ u)
  pub can_be_made : (s : State) (ls : List Asked) → Made s ls
  -- the calls for C: a day of them is a day of the panel's own, so all this is said of it, and each returns the number of its own
  pub for_c : {s t : State} {cs : List CallC} → DayC s cs t → Day s (map as_call cs) t
  pub number-c : (c : CallC) → number_c c ≡ number (as_call c)
  -- "With request One in front, the same is said of the blocks that it hands on"
  pub collected :
      {k : Collect.State} {pss : List (List (List ℕ))} {s t : State} {cs : List Call}
      → CollectedDay k pss s cs t
      → (t.picture ≡ drawn_over (accepted cs) s.picture) × Day s (struck cs) t
  -- "resets of the collector are not calls" (`Gathered`), and no more is a refusal of the collector, which hands nothing on
  pub refusal_no_call : (k : Collect.State) (bs : List ℕ) (r : Refusal) → (collect_of k bs).step.answer ≡ Refused r → parts_of (collect_of k bs).step ≡ []
  -- however the bytes of the day are cut between resets: the same parts, and the same collector and store at the end
  pub however_cut :
      {k l m : Collect.State} {pss qss : List (List (List ℕ))} {hs ks : List Part}
      → Gathered k pss hs l
      → Gathered k qss ks m
      → SameBytes pss qss
      → AllBytes pss
      → (hs ≡ ks) × (l ≡ m)
  pub can_be_gathered : (k : Collect.State) (pss : List (List (List ℕ))) → AllBytes pss → Gathers k pss
  -- hence, if the calls are lent lists of the same lengths, the same day; and there is one for any bytes
  pub same_day :
      {k : Collect.State} {pss qss : List (List (List ℕ))} {s t u : State} {cs ds : List Call}
      → CollectedDay k pss s cs t
      → CollectedDay k qss s ds u
      → SameBytes pss qss
      → AllBytes pss
      → map lists_of (map asked cs) ≡ map lists_of (map asked ds)
      → (map asked cs ≡ map asked ds) × (map answered cs ≡ map answered ds) × (t ≡ u)
  pub can_be_collected : (k : Collect.State) (pss : List (List (List ℕ))) (s : State) → AllBytes pss → Collects k pss s
