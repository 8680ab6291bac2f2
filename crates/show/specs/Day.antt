-- What `show` draws is a day (02, request Fourteen): the calls that are made, one after the other, on one record and one picture, of words of 16 or 32 bits. So
-- all that `Days` (day/specs/Days) says of a day holds of it: the picture at the end is the first with the accepted frames drawn over it, and the refused calls
-- can be struck out. `shown_day` (laws/Day) gives one for every stream that is shown, on either glass.
-- (01 is this project's scope document, 02 its change requests, 001 is MS-RDPRFX: README, "What 01 is".)
use Rattle.std.specs.Prelude.{◌≡◌, ℕ, List}
use Rattle.app_calls.specs.Given.{Scene}
use Rattle.day.specs.Day.{State, state, Asked}
use Rattle.day.specs.Days.{Made}

-- record and picture of a scene
abbrev pub state_of : ℕ → Scene → State
state_of word t = state t.desk.s word t.picture

-- a day from where the stream began to where the program stands: what was asked, the calls, and their end
pub record DayShown (word : ℕ) (s t : Scene) : Type 0 where
  pub asked : List Asked
  pub made : Made (state_of word s) asked
  pub ends : made.end ≡ state_of word t
