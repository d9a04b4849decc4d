-- FOR PRIVATE CONTRACTS ONLY: no public contract cites these definitions, and they need not be believed.
use Rattle.std.specs.Prelude.{◌≡◌, ℕ, ◌+◌, ◌-◌, ◌<◌, ◌≤◌, true, Option, MatchOption, List, ◌++◌, length, take, drop}
use Rattle.format.specs.declared.Format.TheVariants.{Extended}
use Rattle.format.specs.Refusals.{Returned, value}
use Rattle.frame.specs.declared.Head.{Head}
use Rattle.frame.specs.Judge.{judge}
use Rattle.frame.specs.Claims.{Bytes}
use Rattle.stream.specs.declared.Answer.{Answer}
use Rattle.stream.specs.Answers.{meaning}
use Rattle.slot.specs.declared.Key.{Key}
use Rattle.slot.specs.Slots.{has_key, place}
use Rattle.station.specs.declared.Station.{Station}
use Rattle.station.specs.Receive.{After}
use Rattle.station.specs.Open.{opening}
use Rattle.station.specs.Parts.{frame_of}
use Rattle.trace.specs.declared.Line.{Line}
use Rattle.trace.specs.Lines.{line_text, line_in_range}
use Rattle.lister.specs.Listing.{heard, line_for}

-- a head that an image of bytes is judged to have
pub record Heads (head : Head) (image : List ℕ) : Type 0 where
  pub judged : value (record { frame = frame_of head image; start = head.start }) ≡ judge Extended image
  pub bytes : Bytes image
  pub start : head.start ≤ length image
  pub most : length image - head.start ≤ 8

-- a key is opened, and where it is open then
pub record Opens (before : Station) (key : Key) (r : Option ℕ) (now : Station) : Type 0 where
  pub station : now ≡ (opening before key).station
  pub at : MatchOption r (16 ≤ place (has_key key) now.slots) (λ i. (i ≡ place (has_key key) now.slots) × (i < 16))

-- the answer, the station and the store that are handed on
abbrev pub handed_on : Returned Answer → Station → List ℕ → After
handed_on answer station store = record { answer = meaning answer; station = station; store = store }

-- a record of that ordinal, received and told
pub record Tells (before : Station) (store : List ℕ) (ordinal bus : ℕ) (image : List ℕ) (r : Line) (now : Station) (last : List ℕ) : Type 0 where
  pub station : now ≡ (heard before store bus image).station
  pub store' : last ≡ (heard before store bus image).store
  pub text : line_text r ≡ line_for ordinal bus (judge Extended image) (heard before store bus image).answer
  pub range : line_in_range r ≡ true

-- a text written at a place of the output, and where it ends
pub record Adds (text output : List ℕ) (at r : ℕ) (last : List ℕ) : Type 0 where
  pub place : r ≡ at + length text
  pub head : take r last ≡ take at output ++ text
  pub tail : drop r last ≡ drop r output
  pub size : length last ≡ length output
