-- What a call keeps, and what it hands back, where it is not refused.
use Rattle.std.proofs.Common.{◌≡◌, ℕ, zero, suc, ◌+◌, ◌-◌, ◌≤◌, Bool, true, false, cond, not, ◌≢◌, List, length, take, drop, sym, refl, ap, ◌∙◌, arith, length-drop, drop-drop, eq-eqb, eqb-true}
use lib.Seq.{take-append_seam}
use Rattle.format.specs.declared.Format.TheVariants.{Extended}
use Rattle.format.specs.Refusals.{Result, value, refused}
use Rattle.slot.specs.Sound.{sound}
use Rattle.station.specs.Stations.{full_size}
use Rattle.station.proofs.Soundness.{met}
use Rattle.trace.specs.Records.{Found, whole, damaged, cut, none, record_at}
use Rattle.trace.specs.Claims.{Sized}
use Rattle.trace.proofs.Arriving.{sized}
use Rattle.lister.specs.declared.Listing.{Listing}
use Rattle.lister.specs.Listing.{extended_station, Stand, listed_one, Reason, room, Reached, reached, listed_by, listed, has_room, AfterListing, handed_back, begun, listing}
use Rattle.lister.specs.Claims.{sound_listing, ListingStaysSound}
use Rattle.lister.proofs.Hearing.{kept}
use Rattle.lister.proofs.Calling.{at_all}

-- ---- where a listing stands

pub record Good (s : Stand) : Type 0 where
  pub slots : sound Extended s.slots ≡ true
  pub store : length s.store ≡ 32768

one_good : (s : Stand) (bus : ℕ) (image : List ℕ) (size : ℕ) → Good s → Good (listed_one s bus image size)
unfolding listed_one
one_good s bus image size g =
    let k = kept (extended_station s.slots) refl g.slots s.store bus image g.store in record { slots = rw k.format at k.sound; store = k.store }

-- so much of what was left has been taken, and what is left is what follows it
pub record Taken (rest : List ℕ) (s : Stand) : Type 0 where
  pub size : ℕ
  pub inside : size ≤ length rest
  pub left : s.rest ≡ drop size rest

none_taken : (s : Stand) → Taken s.rest s
none_taken s = record { size = 0; inside = omega arith; left = refl }

one_taken : (s : Stand) (bus : ℕ) (image : List ℕ) (size : ℕ) → record_at s.rest ≡ whole bus image size → (r : Stand) → Taken (listed_one s bus image size).rest r → Taken s.rest r
unfolding listed_one Sized
one_taken s bus image size e r t =
    let z = sized s.rest bus image size e in
    record {
      size = size + t.size;
      inside = omega (arith, z.1, t.inside, length-drop size s.rest);
      left = t.left ∙ drop-drop t.size size s.rest;
    }

-- a call keeps what is good, and takes some of the input
pub listed_good : (n : ℕ) (space : ℕ → Bool) (s : Stand) → Good s → (Good (listed n space s).stand) × (Taken s.rest (listed n space s).stand)
unfolding listed
listed_good zero space s g = (g, none_taken s)
listed_good (suc n) space s g = go (record_at s.rest) refl (λ s' h. listed_good n space s' h)
  where
    at-space : (b : Bool) (bus : ℕ) (image : List ℕ) (size : ℕ) → record_at s.rest ≡ whole bus image size
        → ((s' : Stand) → Good s' → (Good (listed n space s').stand) × (Taken s'.rest (listed n space s').stand))
        → (Good (cond b (listed n space (listed_one s bus image size)) (reached room s)).stand)
        × (Taken s.rest (cond b (listed n space (listed_one s bus image size)) (reached room s)).stand)
    at-space true bus image size e ih =
        let i = ih (listed_one s bus image size) (one_good s bus image size g) in (i.0, one_taken s bus image size e _ i.1)
    at-space false bus image size e ih = (g, none_taken s)

    go : (f : Found) → record_at s.rest ≡ f
        → ((s' : Stand) → Good s' → (Good (listed n space s').stand) × (Taken s'.rest (listed n space s').stand))
        → (Good (listed_by space s f (listed n space)).stand) × (Taken s.rest (listed_by space s f (listed n space)).stand)
    go none e ih = (g, none_taken s)
    go cut e ih = (g, none_taken s)
    go damaged e ih = (g, none_taken s)
    go (whole bus image size) e ih = at-space (space (length s.text)) bus image size e ih

-- ---- a call that is not refused

module _ (l : Listing) (store taken output : List ℕ) (ok : sound_listing l ≡ true) (full : full_size store ≡ true) where
  abbrev done : Reached
  done = listed (length taken) (has_room output) (begun l store taken)

  pub is_listed : handed_back l store taken output (value done) ≡ listing l store taken output
  is_listed = at_all l store taken output (ap not ok) (eqb-true _ _ full)

  still : (Good done.stand) × (Taken taken done.stand)
  still = listed_good (length taken) (has_room output) (begun l store taken) (record { slots = ok; store = eqb-true _ _ full })

  pub keeps_sound : sound_listing (listing l store taken output).listing ≡ true
  keeps_sound = rw (← is_listed) still.0.slots

  pub keeps_full : full_size (listing l store taken output).store ≡ true
  keeps_full = rw (← is_listed) (eq-eqb _ _ still.0.store)

  never_refused : (n : ℕ) → (listing l store taken output).why ≢ refused n
  never_refused n e =
      let q : ◌≡◌ {A = Result Reason} (value done.why) (refused n) = ap (λ (x : AfterListing). x.why) is_listed ∙ e in
      let z : ◌≡◌ {A = ℕ} 0 1 = cc in
      omega arith

  -- what is left, and what was written
  pub rest_is : drop (listing l store taken output).used taken ≡ done.stand.rest
  rest_is =
      let t = still.1 in
      let n : length taken - length done.stand.rest ≡ t.size =
      omega (arith, ap length t.left, length-drop t.size taken, t.inside) in
      rw (← is_listed) (ap (λ (k : ℕ). drop k taken) n ∙ sym t.left)

  pub text_is : take (listing l store taken output).written (listing l store taken output).output ≡ done.stand.text
  text_is = rw (← is_listed) (take-append_seam done.stand.text (drop (length done.stand.text) output))

pub stays_sound : ListingStaysSound
unfolding ListingStaysSound
stays_sound = (
  met.new Extended,
  λ l store taken output ok full. (
    keeps_sound l store taken output ok full,
    keeps_full l store taken output ok full,
    never_refused l store taken output ok full,
  ),
)
