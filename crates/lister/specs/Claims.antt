-- What is proved of listings, and document 01's listing program as a whole. The proofs stand in proofs/Soundness.antt (the first claim),
-- proofs/InParts.antt and proofs/Answers.antt (the last).
use Rattle.std.specs.Prelude.{◌≡◌, ℕ, Bool, true, ◌≢◌, List, [], ◌∷◌, ◌++◌, length, take, drop}
use Rattle.format.specs.Refusals.{Result, value, refused}
use Rattle.format.specs.Outputs.{answer, output_after}
use Rattle.station.specs.Stations.{sound_station, full_size}
use Rattle.trace.specs.Records.{whole, record_at}
use Rattle.trace.specs.Lines.{header_line}
use Rattle.lister.specs.declared.Listing.{Listing}
use Rattle.format.specs.Refusals.{Returned}
use Rattle.lister.specs.declared.Why.{Why}
use Rattle.lister.specs.Listing.{new_listing, extended_station, Stand, Reached, listed, begun, AfterListing, listing, last_lines, ending, meaning}

-- ---- the program

abbrev pub sound_listing : Listing → Bool
sound_listing l = sound_station (extended_station l.slots)

abbrev pub listing_at : Stand → Listing
listing_at s = record { slots = s.slots; count = s.count }

-- all records of what is left, whatever room their lines take
abbrev pub everything : Stand → Reached
everything s = listed (length s.rest) (λ n. true) s

-- "It prints the header, one line a record, and the count", and of a damaged record "its number and "stopped""
abbrev pub printed : Stand → List ℕ
printed s = header_line ++ (s.text ++ last_lines (listing_at s) s.rest)

-- the whole output for a whole input; the store is a full-size one, whose bytes no line shows
unfoldable pub program : (store taken : List ℕ) → List ℕ
program store taken = printed (everything (begun new_listing store taken)).stand

-- ---- a listing stays sound

-- with sound slots and a full-size store no call is refused, and what it hands back is sound and full-size again; so is a new listing
unfoldable pub ListingStaysSound : Type 0
ListingStaysSound =
    (sound_listing new_listing ≡ true)
    × ((l : Listing) (store taken output : List ℕ) → sound_listing l ≡ true → full_size store ≡ true
    → let r = listing l store taken output in
    (sound_listing r.listing ≡ true) × (full_size r.store ≡ true) × ((n : ℕ) → r.why ≢ refused n))

-- ---- the input arrives in parts

-- a part of the input, and the output lent to the call that lists it
pub record Part : Type 0 where
  pub bytes : List ℕ
  pub output : List ℕ

abbrev pub arrived : List Part → List ℕ
arrived [] = []
arrived (part ∷ parts) = part.bytes ++ arrived parts

-- a call on what was left of the input, with the next part behind it: what it did not use is left, what it wrote is added to the text
unfoldable pub called : Stand → Part → Stand
called s part =
    let taken : List ℕ = s.rest ++ part.bytes in
    let r : AfterListing = listing (listing_at s) s.store taken part.output in
    record {
      slots = r.listing.slots;
      store = r.store;
      count = r.listing.count;
      rest = drop r.used taken;
      text = s.text ++ take r.written r.output;
    }

-- the calls one after the other: each gets the listing and the store that the last one handed back
unfoldable pub in_parts : Stand → List Part → Stand
in_parts s [] = s
in_parts s (part ∷ parts) = in_parts (called s part) parts

-- what is left has no whole record at its head
abbrev pub NoWhole : Stand → Type 0
NoWhole s = (bus : ℕ) (image : List ℕ) (size : ℕ) → record_at s.rest ≢ whole bus image size

-- the call that ends the listing where it stands, in an output of `space` bytes
abbrev pub ended_at : Stand → (space : ℕ) → Result (List ℕ)
ended_at s space = ending (listing_at s) s.rest space

-- whatever parts the input arrives in, and whatever outputs are lent: what was written, followed by what is still to be listed of what
-- is left, is what would have been written had all of it been there at once; and where no whole record is left, the listing ends as it
-- would have ended then
unfoldable pub InParts : Type 0
InParts =
    (s : Stand) (parts : List Part) → sound_listing (listing_at s) ≡ true → full_size s.store ≡ true
    → let arrivedAtOnce : Stand =
    record { slots = s.slots; store = s.store; count = s.count; rest = s.rest ++ arrived parts; text = s.text } in
    let last : Stand = in_parts s parts in
    (everything arrivedAtOnce ≡ everything last)
    × (NoWhole last → (space : ℕ) → ended_at (everything arrivedAtOnce).stand space ≡ ended_at last space)

-- so when no whole record is left, the program's output is the header, what the calls wrote, and what the call that ends the listing
-- writes to an output that has room for it
unfoldable pub Printed : Type 0
Printed =
    (store : List ℕ) (parts : List Part) (output : List ℕ) (n : ℕ) → full_size store ≡ true
    → let last : Stand = in_parts (begun new_listing store []) parts in
    let ends : Result (List ℕ) = ended_at last (length output) in
    NoWhole last
    → answer ends ≡ value n
    → program store (arrived parts) ≡ header_line ++ (last.text ++ take n (output_after ends output))

-- ---- the answer

-- its meaning leaves no doubt which answer it is, so the contract of listing determines the answer
unfoldable pub OneWhy : Type 0
OneWhy = (a b : Returned Why) → meaning a ≡ meaning b → a ≡ b
