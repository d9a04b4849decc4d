-- What is listed does not depend on the parts that the input arrives in.
use Rattle.std.proofs.Common.{◌≡◌, ℕ, zero, suc, ◌-◌, ◌≤◌, Bool, true, false, cond, leb, ◌≢◌, List, [], ◌∷◌, ◌++◌, length, take, drop, sym, refl, ap, ◌∙◌, append_assoc, append-nil, arith, length-drop, take_at, eq-eqb, eqb-true}
use lib.Seq.{drop-append-le}
use Rattle.format.specs.declared.Format.TheVariants.{Extended}
use Rattle.format.specs.Refusals.{value, refused, guarded}
use Rattle.frame.specs.Judge.{judge}
use Rattle.format.specs.Outputs.{fitting, answer, output_after}
use Rattle.station.specs.Stations.{full_size}
use Rattle.station.proofs.Soundness.{met}
use Rattle.trace.specs.Records.{Found, whole, damaged, cut, none, record_at}
use Rattle.trace.specs.Claims.{Sized, Arriving}
use Rattle.trace.proofs.Arriving.{sized, arriving}
use Rattle.trace.specs.Lines.{header_line}
use Rattle.lister.specs.declared.Listing.{Listing}
use Rattle.lister.specs.Listing.{new_listing, extended_station, heard, line_for, next, Stand, listed_one, room, Reached, reached, listed_by, listed, has_room, begun, last_lines, ending}
use Rattle.lister.specs.Claims.{sound_listing, listing_at, everything, program, printed, Part, arrived, called, in_parts, NoWhole, ended_at, InParts, Printed}
use Rattle.lister.proofs.Rounds.{enough, unrolled}
use Rattle.lister.proofs.Soundness.{listed_good, is_listed, rest_is, text_is}

abbrev always : ℕ → Bool
always n = true

-- with more of the input; with a text in front
abbrev plus : Stand → List ℕ → Stand
plus s more = record { slots = s.slots; store = s.store; count = s.count; rest = s.rest ++ more; text = s.text }

abbrev behind : List ℕ → Stand → Stand
behind t s = record { slots = s.slots; store = s.store; count = s.count; rest = s.rest; text = t ++ s.text }

abbrev all_behind : List ℕ → Reached → Reached
all_behind t r = reached r.why (behind t r.stand)

-- ---- what has been written plays no part

one_behind : (t : List ℕ) (s : Stand) (bus : ℕ) (image : List ℕ) (size : ℕ) → listed_one (behind t s) bus image size ≡ behind t (listed_one s bus image size)
unfolding listed_one
one_behind t s bus image size =
    let r = heard (extended_station s.slots) s.store bus image in
    ap (λ (x : List ℕ). record { slots = r.station.slots; store = r.store; count = next s.count; rest = drop size s.rest; text = x })
    (append_assoc t s.text (line_for (next s.count) bus (judge Extended image) r.answer))

listed_behind : (t : List ℕ) (n : ℕ) (s : Stand) → listed n always (behind t s) ≡ all_behind t (listed n always s)
unfolding listed
listed_behind t zero s = refl
listed_behind t (suc n) s = go (record_at s.rest) (λ s'. listed_behind t n s')
  where
    go : (f : Found) → ((s' : Stand) → listed n always (behind t s') ≡ all_behind t (listed n always s'))
        → listed_by always (behind t s) f (listed n always) ≡ all_behind t (listed_by always s f (listed n always))
    go none ih = refl
    go cut ih = refl
    go damaged ih = refl
    go (whole bus image size) ih = ap (listed n always) (one_behind t s bus image size) ∙ ih (listed_one s bus image size)

-- ---- a record that is whole is listed first

once : (s : Stand) (bus : ℕ) (image : List ℕ) (size : ℕ) → record_at s.rest ≡ whole bus image size → everything s ≡ everything (listed_one s bus image size)
unfolding listed_one Sized
once s bus image size e =
    let z = sized s.rest bus image size e in
    let n = length-drop size s.rest in
    unrolled (length s.rest) always s (omega arith)
    ∙ ap (λ (f : Found). listed_by always s f (listed (length s.rest - 1) always)) e
    ∙ enough (length s.rest - 1) (length (drop size s.rest)) always (listed_one s bus image size) (omega (arith, z.0, z.1)) (omega arith)

one_plus : (s : Stand) (more : List ℕ) (bus : ℕ) (image : List ℕ) (size : ℕ) → size ≤ length s.rest
    → listed_one (plus s more) bus image size ≡ plus (listed_one s bus image size) more
unfolding listed_one
one_plus s more bus image size h =
    let r = heard (extended_station s.slots) s.store bus image in
    ap (λ (x : List ℕ). record {
      slots = r.station.slots;
      store = r.store;
      count = next s.count;
      rest = x;
      text = s.text ++ line_for (next s.count) bus (judge Extended image) r.answer;
    }) (drop-append-le size s.rest more h)

whole_stays : (s : Stand) (more : List ℕ) (bus : ℕ) (image : List ℕ) (size : ℕ) → record_at s.rest ≡ whole bus image size
    → record_at (s.rest ++ more) ≡ whole bus image size
unfolding Arriving
whole_stays s more bus image size e = arriving s.rest more not-cut not_none ∙ e
  where
    not-cut : record_at s.rest ≢ cut
    not-cut q = let y : ◌≡◌ {A = ℕ} 0 1 = cc in omega arith

    not_none : record_at s.rest ≢ none
    not_none q = let y : ◌≡◌ {A = ℕ} 0 1 = cc in omega arith

-- ---- what a call has listed, and then the rest, is everything

at_whole : (b : Bool) (n : ℕ) (space : ℕ → Bool) (s : Stand) (more : List ℕ) (bus : ℕ) (image : List ℕ) (size : ℕ) → record_at s.rest ≡ whole bus image size
    → ((s' : Stand) → everything (plus s' more) ≡ everything (plus (listed n space s').stand more))
    → everything (plus s more) ≡ everything (plus (cond b (listed n space (listed_one s bus image size)) (reached room s)).stand more)
unfolding Sized
at_whole true n space s more bus image size e ih =
    once (plus s more) bus image size (whole_stays s more bus image size e)
    ∙ ap everything (one_plus s more bus image size (sized s.rest bus image size e).1)
    ∙ ih (listed_one s bus image size)
at_whole false n space s more bus image size e ih = refl

go_on : (n : ℕ) (space : ℕ → Bool) (s : Stand) (more : List ℕ) → everything (plus s more) ≡ everything (plus (listed n space s).stand more)
unfolding listed
go_on zero space s more = refl
go_on (suc n) space s more = go (record_at s.rest) refl (λ s'. go_on n space s' more)
  where
    go : (f : Found) → record_at s.rest ≡ f → ((s' : Stand) → everything (plus s' more) ≡ everything (plus (listed n space s').stand more))
        → everything (plus s more) ≡ everything (plus (listed_by space s f (listed n space)).stand more)
    go none e ih = refl
    go cut e ih = refl
    go damaged e ih = refl
    go (whole bus image size) e ih = at_whole (space (length s.text)) n space s more bus image size e ih

-- a call hands back where it stopped
called_is : (s : Stand) (part : Part) → sound_listing (listing_at s) ≡ true → full_size s.store ≡ true
    → called s part ≡ behind s.text (listed (length (s.rest ++ part.bytes)) (has_room part.output) (begun (listing_at s) s.store (s.rest ++ part.bytes))).stand
unfolding called
called_is s part ok full =
    let taken = s.rest ++ part.bytes in
    let q = sym (is_listed (listing_at s) s.store taken part.output ok full) in
    let r = rest_is (listing_at s) s.store taken part.output ok full in
    let t = text_is (listing_at s) s.store taken part.output ok full in
    λ i. record {
      slots = (q i).listing.slots;
      store = (q i).store;
      count = (q i).listing.count;
      rest = r i;
      text = s.text ++ t i;
    }

all_parts : (s : Stand) (parts : List Part) → sound_listing (listing_at s) ≡ true → full_size s.store ≡ true
    → everything (plus s (arrived parts)) ≡ everything (in_parts s parts)
unfolding in_parts
all_parts s [] ok full = ap (λ (l : List ℕ). everything (record { slots = s.slots; store = s.store; count = s.count; rest = l; text = s.text })) (append-nil s.rest)
all_parts s (part ∷ parts) ok full =
    let taken = s.rest ++ part.bytes in
    let first = begun (listing_at s) s.store taken in
    let r = (listed (length taken) (has_room part.output) first).stand in
    let more = arrived parts in
    let good = (listed_good (length taken) (has_room part.output) first (record { slots = ok; store = eqb-true _ _ full })).0 in
    ap (λ (l : List ℕ). everything (record { slots = s.slots; store = s.store; count = s.count; rest = l; text = s.text })) (sym (append_assoc s.rest part.bytes more))
    ∙ ap (λ (l : List ℕ). everything (record { slots = s.slots; store = s.store; count = s.count; rest = taken ++ more; text = l })) (sym (append-nil s.text))
    ∙ listed_behind s.text (length (taken ++ more)) (plus first more)
    ∙ ap (all_behind s.text) (go_on (length taken) (has_room part.output) first more)
    ∙ sym (listed_behind s.text (length (r.rest ++ more)) (plus r more))
    ∙ all_parts (behind s.text r) parts good.slots (eq-eqb _ _ good.store)
    ∙ ap (λ (x : Stand). everything (in_parts x parts)) (sym (called_is s part ok full))

-- ---- when no whole record is left

at_end : (s : Stand) → NoWhole s → (everything s).stand ≡ s
at_end s h = ap (λ (x : Reached). x.stand) (unrolled (length s.rest) always s (omega arith)) ∙ go (record_at s.rest) refl
  where
    go : (f : Found) → record_at s.rest ≡ f → (listed_by always s f (listed (length s.rest - 1) always)).stand ≡ s
    go none e = refl
    go cut e = refl
    go damaged e = refl
    go (whole bus image size) e = absurd (h bus image size e)

pub in_parts_lem : InParts
unfolding InParts
in_parts_lem s parts ok full =
    let e = all_parts s parts ok full in
    (e, λ h space. ap (λ (x : Reached). ended_at x.stand space) e ∙ ap (λ (x : Stand). ended_at x space) (at_end (in_parts s parts) h))

-- the call that ends the listing writes the last lines, where it has room
at_last : (l : Listing) (rest output : List ℕ) (n : ℕ) → answer (ending l rest (length output)) ≡ value n
    → take n (output_after (ending l rest (length output)) output) ≡ last_lines l rest
unfolding ending fitting guarded
at_last l rest output n = go (leb (length (last_lines l rest)) (length output))
  where
    go : (b : Bool) → answer (cond b (value (last_lines l rest)) (refused 12)) ≡ value n
        → take n (output_after (cond b (value (last_lines l rest)) (refused 12)) output) ≡ last_lines l rest
    go true e =
        let q : length (last_lines l rest) ≡ n = cc in
        take_at (last_lines l rest) (drop (length (last_lines l rest)) output) n q
    go false e = let y : ◌≡◌ {A = ℕ} 0 1 = cc in absurd (omega arith)

pub printed_so : Printed
unfolding Printed program
printed_so store parts output n full h e =
    let s = in_parts (begun new_listing store []) parts in
    ap (λ (x : Reached). printed x.stand) (all_parts (begun new_listing store []) parts (met.new Extended) full)
    ∙ ap printed (at_end s h)
    ∙ ap (λ (x : List ℕ). header_line ++ (s.text ++ x)) (sym (at_last (listing_at s) s.rest output n e))
