-- What a call of the lister, on a part of the bytes and of the output, says of the request.
use Rattle.std.proofs.Common.{◌≡◌, ℕ, ◌+◌, ◌-◌, ◌≤◌, List, ◌++◌, length, take, drop, replicate, sym, arith, le-ltb}
use borrow.Rule.Slice.PartMut.{mid_of, put_mid}
use Rattle.copying.specs.Copy.{copied}
use Rattle.lister.specs.declared.Listed.{Listed}
use Rattle.lister.specs.declared.Listing.{Listing}
use Rattle.lister.specs.Listing.{listing, listing_after}
use Rattle.lister.specs.Listing as listings
use Rattle.calls_program.specs.declared.stations.Desk.{Desk}
use Rattle.calls_program.specs.Requests.{number2_at, bytes_from}
use Rattle.calls_program.specs.Responses.{reason_bytes, number2_bytes, number8_bytes}
use Rattle.calls_program.specs.Desks.{as_done, lent_size, listing_of, with_listing, with_bytes, part_listed}
use Rattle.calls_program.proofs.Parts.{part_size, part_back}

-- what `put_listed` writes
abbrev sizes_in : Listed → List ℕ → List ℕ
sizes_in r out =
    let counted = copied (copied out 0 (reason_bytes (listings.meaning r.why))) 4 (number8_bytes r.listing.count) in
    copied (copied counted 12 (number2_bytes r.used)) 14 (number2_bytes r.written)

pub list_done : (desk desk' : Desk) (args out store part input out' : List ℕ) (n room : ℕ) (r : Listed) (given : Listing)
    → 16 + room ≤ length out
    → n ≡ lent_size desk
    → room ≡ number2_at args 0
    → given ≡ listing_of desk
    → input ≡ bytes_from args 2
    → length part ≡ length (mid_of 16 (16 + room - 16) out)
    → listing_after r store part ≡ listing given (take n desk.bytes) input (replicate (length (mid_of 16 (16 + room - 16) out)) 45)
    → out' ≡ sizes_in r (put_mid 16 (16 + room - 16) out part)
    → desk' ≡ with_listing (with_bytes desk (store ++ drop n desk.bytes)) r.listing
    → as_done desk' (16 + room) out' ≡ part_listed args desk out
list_done desk desk' args out store part input out' n room r given h n-is room-is given-is input-is length_is after_is out'-is desk-is =
    let m : 16 + room - 16 ≡ room = omega arith in
    let s : length (mid_of 16 (16 + room - 16) out) ≡ room = rw m (part_size out 16 room h) in
    let b = part_back out 16 room part (omega arith) in
    rw (sym room-is, le-ltb _ _ h, sym n-is, sym given-is, sym input-is, sym (rw s at after_is), desk-is, out'-is, m, b)
