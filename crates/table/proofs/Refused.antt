-- A table that is not sound is refused with 21, and one of another length is not sound.
use Prim.Native.Nat.{ℕ}
use mathlib.Core.Path.{◌≡◌, refl}
use mathlib.Core.Logic.{◌≢◌}
use mathlib.Core.Bool.{false}
use mathlib.Core.List.{List}
use lib.ListN.{length}
use borrow.Author.Tests.{ne_eqb}
use Rattle.format.specs.declared.Format.{Format}
use Rattle.format.specs.declared.Refusal.TheVariants.{State}
use Rattle.format.specs.Refusals.{refused, number, checked_then}
use Rattle.format.specs.Tests.{all_true}
use Rattle.slot.specs.declared.Slot.{Slot}
use Rattle.slot.specs.Sound.{sound}
use Rattle.station.specs.Stations.{station_of}
use Rattle.station.specs.Receive.{receive}
use Rattle.table.specs.Front.{after_in}

pub unsound_length : (format : Format) (table : List Slot) → length table ≢ 16 → sound format table ≡ false
unfolding sound all_true
unsound_length format table h = rw (ne_eqb (length table) 16 h) refl

pub unsound_refused : (format : Format) (table : List Slot) (store : List ℕ) (bus : ℕ) (image : List ℕ) → sound format table ≡ false
    → after_in format (refused (number State)) table store ≡ receive (station_of format table) store bus image
unfolding receive checked_then
unsound_refused format table store bus image e = rw e refl

pub other_length : (format : Format) (table : List Slot) (store : List ℕ) (bus : ℕ) (image : List ℕ) → length table ≢ 16
    → after_in format (refused (number State)) table store ≡ receive (station_of format table) store bus image
other_length format table store bus image h = unsound_refused format table store bus image (unsound_length format table h)
