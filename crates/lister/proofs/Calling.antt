-- The call: refused, or all that can be listed.
use Rattle.std.proofs.Common.{◌≡◌, ℕ, ◌+◌, ◌<◌, ◌≤◌, true, false, not, ◌≢◌, List, length, sym, ap, ◌∙◌, arith, eq-eqb, ne_eqb, leb-false, leb-true}
use borrow.Author.Tests.{not-true, not-false}
use Rattle.format.specs.declared.Format.TheVariants.{Extended}
use Rattle.format.specs.declared.Refusal.TheVariants.{State, Store}
use Rattle.format.specs.Refusals.{Result, value, refused}
use Rattle.format.proofs.Checks.{stop, pass, none_left}
use Rattle.copying.specs.Copy.{within, copied}
use Rattle.copying.proofs.Copying.{head_copied, none_copied}
use Rattle.format.specs.Outputs.{Writes}
use Rattle.format.proofs.Outputs.{no_room, has_room, not_written, written_over}
use Rattle.slot.specs.Sound.{sound}
use Rattle.trace.specs.declared.Entry.{Entry}
use Rattle.trace.specs.Records as records
use Rattle.trace.specs.Records.{record_at}
use Rattle.lister.specs.declared.Listing.{Listing}
use Rattle.std.specs.Prelude.{Err}
use Rattle.lister.specs.Listing as room
use Rattle.lister.specs.Listing.{Reached, listed, handed_back, begun, listing, listing_after, stops_at, last_lines, ending}

module _ (l : Listing) (store taken output : List ℕ) where
  abbrev all_of_it : Reached
  all_of_it = listed (length taken) (room.has_room output) (begun l store taken)

  pub at_state : not (sound Extended l.slots) ≡ true
      → listing_after (record { listing = l; why = Err State; used = 0; written = 0 }) store output ≡ listing l store taken output
  unfolding listing
  at_state h = ap (handed_back l store taken output) (stop State _ all_of_it (not-true _ h))

  module _ (ok : not (sound Extended l.slots) ≡ false) where
    pub at_store : length store ≢ 32768
        → listing_after (record { listing = l; why = Err Store; used = 0; written = 0 }) store output ≡ listing l store taken output
    unfolding listing
    at_store h = ap (handed_back l store taken output) (pass State _ all_of_it (not-false _ ok) (stop Store _ all_of_it (ne_eqb _ _ h)))

    pub at_all : length store ≡ 32768 → handed_back l store taken output (value all_of_it) ≡ listing l store taken output
    unfolding listing
    at_all h =
        ap (handed_back l store taken output) (pass State _ all_of_it (not-false _ ok) (pass Store _ all_of_it (eq-eqb _ _ h) (none_left all_of_it)))

-- ---- the end

module _ (l : Listing) (rest output : List ℕ) (n : ℕ) (bytes : List ℕ) (eb : bytes ≡ last_lines l rest) (en : n ≡ length (last_lines l rest)) where
  abbrev ends : Result ℕ → List ℕ → Type 0
  ends = Writes (ending l rest (length output)) output

  pub within_room : within output 0 bytes ≡ true → (last : List ℕ) → last ≡ copied output 0 bytes → ends (value n) last
  unfolding ending within
  within_room h last el =
      let m : 0 + length bytes ≤ length output = leb-true _ _ h in
      let s = ap length eb in
      written_over _ output (last_lines l rest) n last (has_room (last_lines l rest) output n en (omega arith)) en
      (el ∙ rw eb (head_copied output (last_lines l rest) (omega arith)))

  pub too_long : within output 0 bytes ≡ false → (last : List ℕ) → last ≡ copied output 0 bytes → ends (refused 12) last
  unfolding ending within
  too_long h last el =
      let m : length output < 0 + length bytes = leb-false _ _ h in
      let s = ap length eb in
      let none : last ≡ output = el ∙ none_copied output 0 bytes m in
      rw none (not_written _ output 12 (no_room (last_lines l rest) output n en (omega arith)))
