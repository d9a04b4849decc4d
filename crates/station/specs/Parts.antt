-- What the private functions of this crate promise one another. Nothing here need be believed: the public contracts are proved
-- from it.
use Rattle.std.specs.Prelude.{ℕ, ◌≡◌, Option, position, Ok, Err, List, drop}
use Rattle.format.specs.Refusals.{Returned, value, refused, number}
use Rattle.frame.specs.declared.Head.{Head}
use Rattle.frame.specs.Judge.{Frame}
use Rattle.slot.specs.Slots.{has_key}
use Rattle.station.specs.declared.Station.{Station}
use Rattle.station.specs.Receive.{key_of, let_in, framed}

-- the frame that a sound head and its image are
abbrev pub frame_of : Head → List ℕ → Frame
frame_of head image = framed head (drop head.start image)

-- what is let in, and where its key is open
abbrev pub LetIn : Station → List ℕ → (bus : ℕ) → List ℕ → Returned (Head × Option ℕ) → Type 0
LetIn station store bus image (Ok found) =
    (value (record { frame = frame_of found.0 image; start = found.0.start }) ≡ let_in station store bus image)
    × (found.1 ≡ position (has_key (key_of bus (frame_of found.0 image))) station.slots)
LetIn station store bus image (Err name) = refused (number name) ≡ let_in station store bus image
