-- One record after the other.
use Rattle.std.proofs.Common.{◌≡◌, ℕ, zero, suc, ◌+◌, ◌-◌, ◌<◌, ◌≤◌, Bool, true, cond, List, ◌++◌, length, take, drop, sym, refl, ap, ◌∙◌, subst, sub-one, arith, length-drop, take-append-drop, length-take-le, drop-drop, le-leb}
use native.Mathlib.Nat.{sub-zero}
use borrow.Author.Tests.{lt-leb}
use Rattle.format.specs.declared.Format.TheVariants.{Extended}
use Rattle.format.specs.Refusals.{value}
use Rattle.frame.specs.Judge.{judge}
use Rattle.slot.specs.declared.Slot.{Slot}
use Rattle.slot.specs.Sound.{sound}
use Rattle.station.specs.declared.Station.{Station}
use Rattle.station.specs.Stations.{sound_station}
use Rattle.station.proofs.Turning.{rest_is}
use Rattle.trace.specs.declared.Entry.{Entry}
use Rattle.trace.specs.Records as records
use Rattle.trace.specs.Records.{Found, whole, damaged, cut, none, image_in, found_by, record_at}
use Rattle.trace.specs.Lines.{line_text}
use Rattle.trace.specs.Claims.{Sized, RoomForLine}
use Rattle.trace.proofs.Arriving.{sized}
use Rattle.trace.proofs.LineRoom.{room_for_line}
use Rattle.lister.specs.declared.Listing.{Listing}
use Rattle.trace.specs.declared.Line.{Line}
use Rattle.format.specs.declared.Format.{Format}
use Rattle.lister.proofs.Hearing.{kept}
use Rattle.format.specs.Refusals.{Returned}
use Rattle.lister.specs.declared.Why.{Why}
use Rattle.lister.specs.declared.Why.TheVariants as why
use Rattle.std.specs.Prelude.{Ok}
use Rattle.lister.specs.Listing.{extended_station, heard, line_for, next, Stand, listed_one, Reason, input, room, damage, Reached, reached, listed_by, listed, has_room, handed_back, begun, meaning, listing_after}
use Rattle.lister.specs.Parts.{Tells, Adds}

-- ---- rounds

-- a record takes some of what is left
taken : (rest : List ℕ) (bus : ℕ) (image : List ℕ) (size n : ℕ) → record_at rest ≡ whole bus image size → length rest ≤ suc n → length (drop size rest) ≤ n
unfolding Sized
taken rest bus image size n e h = omega (arith, (sized rest bus image size e).0, length-drop size rest)

-- nothing is left
none_left : (rest : List ℕ) → length rest ≡ 0 → record_at rest ≡ none
unfolding record_at found_by
none_left rest e = rw (lt-leb 1 (length rest) (omega arith))

-- more rounds than there are bytes left change nothing
pub enough : (a b : ℕ) (space : ℕ → Bool) (s : Stand) → length s.rest ≤ a → length s.rest ≤ b → listed a space s ≡ listed b space s
unfolding listed listed_one
enough zero zero space s ha hb = refl
enough zero (suc b) space s ha hb = rw (none_left s.rest (omega arith))
enough (suc a) zero space s ha hb = rw (none_left s.rest (omega arith))
enough (suc a) (suc b) space s ha hb = go (record_at s.rest) refl (λ bus image size e. enough a b space (listed_one s bus image size) (left e ha) (left e hb))
  where
    left : {bus : ℕ} {image : List ℕ} {size n : ℕ} → record_at s.rest ≡ whole bus image size → length s.rest ≤ suc n → length (listed_one s bus image size).rest ≤ n
    left {bus} {image} {size} {n} e h = taken s.rest bus image size n e h

    go : (f : Found) → record_at s.rest ≡ f
        → ((bus : ℕ) (image : List ℕ) (size : ℕ) → record_at s.rest ≡ whole bus image size → listed a space (listed_one s bus image size) ≡ listed b space (listed_one s bus image size))
        → listed_by space s f (listed a space) ≡ listed_by space s f (listed b space)
    go none e ih = refl
    go cut e ih = refl
    go damaged e ih = refl
    go (whole bus image size) e ih = ap (λ (x : Reached). cond (space (length s.text)) x (reached room s)) (ih bus image size e)

-- as many rounds as there are bytes left, one by one
pub unrolled : (n : ℕ) (space : ℕ → Bool) (s : Stand) → length s.rest ≤ n → listed n space s ≡ listed_by space s (record_at s.rest) (listed (n - 1) space)
unfolding listed
unrolled zero space s h = sym (rw (none_left s.rest (omega arith)))
unrolled (suc n) space s h = rw (sub-one (suc n))

-- ---- in the midst of the input

abbrev stand : List Slot → (store : List ℕ) (count : ℕ) (taken : List ℕ) (used : ℕ) (output : List ℕ) (written : ℕ) → Stand
stand slots store count taken used output written =
    record { slots = slots; store = store; count = count; rest = drop used taken; text = take written output }

abbrev beginning : List Slot → ℕ → Listing
beginning slots count = record { slots = slots; count = count }

pub record Midst (slots₀ : List Slot) (count₀ : ℕ) (store₀ taken output₀ : List ℕ) (slots : List Slot) (count : ℕ) (store output : List ℕ) (used written : ℕ) : Type 0 where
  pub ok : sound_station (extended_station slots) ≡ true
  pub full : length store ≡ 32768
  pub in_input : used ≤ length taken
  pub in_output : written ≤ length output₀
  pub size : length output ≡ length output₀
  pub tail : drop written output ≡ drop written output₀
  pub going : listed (length taken) (has_room output₀) (begun (beginning slots₀ count₀) store₀ taken)
      ≡ listed (length taken - used) (has_room output₀) (stand slots store count taken used output written)

pub midst : (slots : List Slot) (count : ℕ) (store taken output : List ℕ) → sound Extended slots ≡ true → length store ≡ 32768
    → Midst slots count store taken output slots count store output 0 0
midst slots count store taken output s w =
    record { ok = s; full = w; in_input = omega arith; in_output = omega arith; size = refl; tail = refl; going = rw (sub-zero (length taken)) }

module _ {slots₀ : List Slot} {count₀ : ℕ} {store₀ taken output₀ : List ℕ} {slots : List Slot} {count : ℕ} {store output : List ℕ} {used written : ℕ}
    (m : Midst slots₀ count₀ store₀ taken output₀ slots count store output used written) where
  abbrev here : Stand
  here = stand slots store count taken used output written

  left : length (drop used taken) ≡ length taken - used
  left = length-drop used taken

  -- what the next round does
  next_round : listed (length taken - used) (has_room output₀) here
      ≡ listed_by (has_room output₀) here (record_at (drop used taken)) (listed (length taken - used - 1) (has_room output₀))
  next_round = unrolled (length taken - used) (has_room output₀) here (omega (arith, left))

  text_size : length (take written output) ≡ written
  text_size = length-take-le written output (omega (arith, m.in_output, m.size))

  abbrev Ends : Returned Why → Type 0
  Ends w =
      listing_after (record { listing = beginning slots count; why = w; used = used; written = written }) store output
      ≡ handed_back (beginning slots₀ count₀) store₀ taken output₀ (value (listed (length taken) (has_room output₀) (begun (beginning slots₀ count₀) store₀ taken)))

  -- it stops
  stops : (w : Returned Why) (why : Reason) → meaning w ≡ value why
      → listed_by (has_room output₀) here (record_at (drop used taken)) (listed (length taken - used - 1) (has_room output₀)) ≡ reached why here → Ends w
  stops w why e q =
      let used-is : length taken - length (drop used taken) ≡ used = omega (arith, left, m.in_input) in
      let output_is : take written output ++ drop (length (take written output)) output₀ ≡ output =
      rw (text_size, ← m.tail) (take-append-drop written output) in
      sym (ap (λ (x : Reached). handed_back (beginning slots₀ count₀) store₀ taken output₀ (value x)) (m.going ∙ next_round ∙ q)
      ∙ (λ i. record { why = sym e i; listing = beginning slots count; store = store; used = used-is i; written = text_size i; output = output_is i }))

  pub stops_empty : none ≡ record_at (drop used taken) → Ends (Ok why.Input)
  stops_empty e = stops (Ok why.Input) input refl (rw (← e))

  pub stops_cut : cut ≡ record_at (drop used taken) → Ends (Ok why.Input)
  stops_cut e = stops (Ok why.Input) input refl (rw (← e))

  pub stops_damaged : damaged ≡ record_at (drop used taken) → Ends (Ok why.Damaged)
  stops_damaged e = stops (Ok why.Damaged) damage refl (rw (← e))

  module _ (bus size : ℕ) (image : List ℕ) (e : whole bus image size ≡ record_at (drop used taken)) where
    pub fits : (4 ≤ size) × (size ≤ length (drop used taken)) × (bus ≤ 1)
    unfolding Sized
    fits = sized (drop used taken) bus image size (sym e)

    pub stops-room : length output - written < 96 → Ends (Ok why.Room)
    stops-room h =
        let n : length output₀ < length (take written output) + 96 = omega (arith, text_size, m.size, m.in_output, h) in
        stops (Ok why.Room) room refl (rw (← e, lt-leb (length (take written output) + 96) (length output₀) n))

    -- its line has room
    this : 96 ≤ length output - written
        → listed_by (has_room output₀) here (record_at (drop used taken)) (listed (length taken - used - 1) (has_room output₀))
        ≡ listed (length taken - used - 1) (has_room output₀) (listed_one here bus image size)
    this h =
        let n : length (take written output) + 96 ≤ length output₀ = omega (arith, text_size, m.size, m.in_output, h) in
        rw (← e, le-leb (length (take written output) + 96) (length output₀) n)

    rest-left : length (listed_one here bus image size).rest ≡ length taken - (used + size)
    unfolding listed_one
    rest-left = omega (arith, length-drop size (drop used taken), left)

    further : (r n : ℕ) → r ≡ written + n → drop r output ≡ drop r output₀
    further r n er = rw (er, ← drop-drop n written output, m.tail) (drop-drop n written output₀)

    -- it lists the record
    pub goes_on : 96 ≤ length output - written → (ordinal : ℕ) → ordinal ≡ next count → (line : Line) (now : Station) (last : List ℕ)
        → Tells (extended_station slots) store ordinal bus image line now last → (r : ℕ) (final : List ℕ) → Adds (line_text line) output written r final
        → Midst slots₀ count₀ store₀ taken output₀ now.slots ordinal last final (used + size) r
    unfolding listed_one RoomForLine
    goes_on h ordinal eo line now last tell r final add =
        let k = kept (extended_station slots) refl m.ok store bus image m.full in
        let short = room_for_line line tell.range in
        let rest_is : drop (used + size) taken ≡ drop size (drop used taken) = sym (drop-drop size used taken) in
        let text_is : take r final ≡ take written output ++ line_for (next count) bus (judge Extended image) (heard (extended_station slots) store bus image).answer =
        add.head ∙ ap (λ (x : List ℕ). take written output ++ x) (rw eo at tell.text) in
        let slots' : now.slots ≡ (heard (extended_station slots) store bus image).station.slots = ap (λ (s : Station). s.slots) tell.station in
        let extended : (heard (extended_station slots) store bus image).station ≡ extended_station (heard (extended_station slots) store bus image).station.slots =
        ap (λ (f : Format). record { format = f; slots = (heard (extended_station slots) store bus image).station.slots }) k.format in
        record {
          ok = ap sound_station (ap extended_station slots' ∙ sym extended) ∙ k.sound;
          full = rw tell.store' k.store;
          in_input = omega (arith, fits.1, left, m.in_input);
          in_output = omega (arith, add.place, short, h, m.size);
          size = add.size ∙ m.size;
          tail = add.tail ∙ further r (length (line_text line)) add.place;
          going = m.going ∙ next_round ∙ this h ∙ enough _ _ _ _ (omega (arith, rest-left, fits.0)) (omega (arith, rest-left))
              ∙ ap (listed (length taken - (used + size)) (has_room output₀)) (λ i. record { slots = sym slots' i; store = sym tell.store' i; count = sym eo i; rest = sym rest_is i; text = sym text_is i });
        }

-- ---- what the code reads

-- what stands at the head of what is left
pub seen : (taken : List ℕ) (used : ℕ) (entry x : Entry) → records.meaning entry (take (length taken - used) (drop used taken)) ≡ record_at (take (length taken - used) (drop used taken))
    → entry ≡ x → records.meaning x (drop used taken) ≡ record_at (drop used taken)
seen taken used entry x e ex =
    ap (λ (y : Entry). records.meaning y (drop used taken)) (sym ex)
    ∙ subst (λ (l : List ℕ). records.meaning entry l ≡ record_at l) (rest_is taken used) e

-- the image
image_is : (taken : List ℕ) (used size : ℕ) → take (used + size - (used + 4)) (drop (used + 4) taken) ≡ image_in size (drop used taken)
image_is taken used size =
    let n : used + size - (used + 4) ≡ size - 4 = omega arith in
    rw (n, drop-drop 4 used taken)

pub told_of : (taken : List ℕ) (used size : ℕ) {before : Station} {slots : List Slot} {store : List ℕ} {ordinal bus : ℕ} {line : Line} {now : Station} {last : List ℕ}
    → before ≡ extended_station slots → Tells before store ordinal bus (take (used + size - (used + 4)) (drop (used + 4) taken)) line now last
    → Tells (extended_station slots) store ordinal bus (image_in size (drop used taken)) line now last
told_of taken used size {before} {slots} {store} {ordinal} {bus} {line} {now} {last} x t =
    subst (λ (image : List ℕ). Tells (extended_station slots) store ordinal bus image line now last) (image_is taken used size)
    (subst (λ (station : Station). Tells station store ordinal bus (take (used + size - (used + 4)) (drop (used + 4) taken)) line now last) x t)

pub as_extended : (station : Station) → station.format ≡ Extended → station ≡ extended_station station.slots
as_extended station x = ap (λ (f : Format). record { format = f; slots = station.slots }) x
