-- What stands at the head of a trace's bytes, when more of them arrive.
use Prim.Native.Nat.{ℕ, ◌+◌, ◌-◌, ◌*◌, ◌≤◌, ◌<◌}
use mathlib.Core.Path.{◌≡◌, refl}
use mathlib.Core.Logic.{◌≢◌}
use mathlib.Core.Bool.{Bool, true, false}
use mathlib.Core.List.{List, ◌++◌}
use native.Mathlib.Omega.{arith}
use lib.Dec.{ltb}
use lib.ListN.{length, get_or, drop, length-append, length-drop, get_or-append}
use lib.Seq.{take-append-le, drop-append-le}
use borrow.Author.Tests.{ltb-true, ltb-false}
use Rattle.std.proofs.lemmas.Grind.{common_steps}
use Rattle.trace.specs.Records.{cut, none, image_in, found_by, record_at}
use Rattle.trace.specs.Claims.{Arriving, Sized, OneEntry}

abbrev follows : List ℕ → ℕ
follows input = get_or input 0 0 * 256 + get_or input 1 0

module _ (input more : List ℕ) where
  same : (i : ℕ) → i < length input → get_or (input ++ more) i 0 ≡ get_or input i 0
  same i h = get_or-append input more 0 i h

  same_image : (size : ℕ) → 4 ≤ size → size ≤ length input → image_in size (input ++ more) ≡ image_in size input
  same_image size four h =
      rw (drop-append-le 4 input more (omega arith)) (take-append-le (size - 4) (drop 4 input) more (omega (arith, length-drop 4 input)))

  -- the first two bytes are there, or not; and all that follows them, or not
  too_few : length input < 2 → record_at input ≢ cut → record_at input ≢ none → record_at (input ++ more) ≡ record_at input
  unfolding record_at found_by
  too_few h nc nn = grind arith

  too_long : 2 ≤ length input → length input < 2 + follows input → record_at input ≢ cut → record_at (input ++ more) ≡ record_at input
  unfolding record_at found_by
  too_long h l nc = grind (arith, same 0, same 1, length-append input more)

  too_short : 2 ≤ length input → follows input < 2 → record_at (input ++ more) ≡ record_at input
  unfolding record_at found_by
  too_short h l = grind (arith, same 0, same 1, length-append input more)

  all_there : 2 ≤ follows input → 2 + follows input ≤ length input → record_at (input ++ more) ≡ record_at input
  unfolding record_at found_by
  all_there h l =
      let zero = same 0 (omega arith) in
      let one = same 1 (omega arith) in
      let two = same 2 (omega arith) in
      let three = same 3 (omega arith) in
      let image = same_image (2 + follows input) (omega arith) l in
      let longer = length-append input more in
      rw (zero, one, two, three, image) (grind arith)

  arrive : (two right all : Bool) → ltb (length input) 2 ≡ two → ltb (follows input) 2 ≡ right → ltb (length input) (2 + follows input) ≡ all
      → record_at input ≢ cut → record_at input ≢ none → record_at (input ++ more) ≡ record_at input
  arrive true r b e g f nc nn = too_few (ltb-true _ _ e) nc nn
  arrive false r true e g f nc nn = too_long (ltb-false _ _ e) (ltb-true _ _ f) nc
  arrive false true false e g f nc nn = too_short (ltb-false _ _ e) (ltb-true _ _ g)
  arrive false false false e g f nc nn = all_there (ltb-false _ _ g) (ltb-false _ _ f)

pub arriving : Arriving
unfolding Arriving
arriving input more nc nn = arrive input more _ _ _ refl refl refl nc nn

pub sized : Sized
unfolding Sized record_at found_by
sized input bus image size e = grind (arith, common_steps)

pub one_entry : OneEntry
unfolding OneEntry
one_entry a b input e = grind (arith, common_steps)
