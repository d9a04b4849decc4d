-- One record heard: what the code does to the station is what opening the key, if it is new, and receiving the image do to it.
use Rattle.std.proofs.Common.{◌≡◌, ℕ, ◌-◌, ◌<◌, ◌≤◌, true, false, List, length, replicate, set, take, drop, sym, refl, ap, ◌∙◌, arith, length-drop, get_or-set_same, eqb-true, eq-eqb, le-leb}
use Rattle.std.specs.Prelude.{Option, None, Some, is_some, position, Ok}
use Rattle.format.specs.declared.Format.{Format}
use Rattle.format.specs.declared.Format.TheVariants.{Extended}
use Rattle.format.specs.declared.Fields.{Fields}
use Rattle.format.specs.declared.Fields.TheVariants as fields
use Rattle.format.specs.declared.Refusal.{Refusal}
use Rattle.format.specs.Formats.{format_of, in_range}
use Rattle.format.specs.Refusals.{Returned, Result, value, refused, number}
use Rattle.format.proofs.Tests.{from_each}
use Rattle.frame.specs.declared.Head.{Head}
use Rattle.frame.specs.Judge.{Frame, Judged, judge}
use Rattle.frame.specs.Judge as verdicts
use Rattle.frame.specs.Claims.{Bytes}
use Rattle.frame.proofs.Judged.{sound_image, FrameInRange, frame_in_range}
use Rattle.stream.specs.declared.Answer.{Answer}
use Rattle.stream.specs.declared.Answer.TheVariants.{Filtered}
use Rattle.stream.specs.Answers.{meaning}
use Rattle.stream.specs.declared.Progress.TheVariants.{Idle}
use Rattle.slot.specs.declared.Key.{Key}
use Rattle.slot.specs.declared.Slot.{Slot}
use Rattle.slot.specs.Slots.{closed_slot, open_slot, slot_at, is_closed, has_key, place}
use Rattle.slot.specs.Sound.{same_format, key_in_range}
use Rattle.slot.proofs.Keys.{same_key_refl}
use Rattle.slot.proofs.Places.{position_some}
use Rattle.station.specs.declared.Station.{Station}
use Rattle.station.specs.declared.turn.Turn.{Turn}
use Rattle.station.specs.declared.turn.Change.{Change}
use Rattle.station.specs.Stations.{sound_station, with_slots}
use Rattle.station.specs.Receive.{After, unchanged, key_of, step_at, receive, let_in, changed, after_turn, framed, stepping, stepped}
use Rattle.station.specs.Open.{changed_at, vacancy, opening}
use Rattle.station.specs.Parts.{frame_of}
use Rattle.station.proofs.Calls.{good, is_found, stays_sound}
use Rattle.station.proofs.Isolation.{after_call}
use Rattle.station.proofs.Soundness.{stays}
use Rattle.station.proofs.Turning.{in_judged, by_refusal, by_none, by_slot, rest_is, steps_there}
use Rattle.station.proofs.Handing.{sixteen, somewhere, nowhere, open-taken, open_full, open-lowest}
use Rattle.trace.specs.declared.Line.TheVariants as line
use Rattle.trace.specs.Lines.{extended_in_range, line_text, line_in_range}
use Rattle.lister.specs.Listing.{opened_for, heard}
use Rattle.lister.specs.Parts.{Heads, Opens, Tells, handed_on}

-- ---- what a head says of the frame

module _ (bus : ℕ) (b : bus ≤ 1) (head : Head) (image : List ℕ) (h : Heads head image) where
  abbrev judged : Judged
  judged = record { frame = frame_of head image; start = head.start }

  ranged : FrameInRange Extended judged
  ranged = frame_in_range Extended image h.bytes judged (sym h.judged)

  pub key_in_range_lem : key_in_range Extended (key_of bus (frame_of head image)) ≡ true
  unfolding key_in_range
  key_in_range_lem = from_each _ (le-leb bus 1 b, (ap (same_format Extended) ranged.of_format, (ranged.fields, tt)))

  are_listed : (fs : Fields) → format_of fs ≡ Extended → in_range fs ≡ true → extended_in_range fs ≡ true
  are_listed (fields.Extended p s g d f) e r = r
  are_listed (fields.Standard p a s) e r = let z : ◌≡◌ {A = ℕ} 0 1 = cc in absurd (omega arith)

  pub line_in_range_lem : (ordinal count : ℕ) (answer : Returned Answer) → count ≡ length image - head.start
      → line_in_range (line.Frame ordinal bus head.fields head.flag head.number count answer) ≡ true
  unfolding line_in_range
  line_in_range_lem ordinal count answer e =
      let n : head.number < 64 = ranged.number in
      from_each _ (le-leb bus 1 b, (are_listed head.fields ranged.of_format ranged.fields, (le-leb head.number 63 (omega arith), (le-leb count 8 (omega (arith, e, h.most)), tt))))

-- ---- the key is opened, if it is new

module _ (station : Station) (x : station.format ≡ Extended) (s : sound_station station ≡ true) (key : Key) (range : key_in_range Extended key ≡ true) where
  r : key_in_range station.format key ≡ true
  r = ap (λ (f : Format). key_in_range f key) x ∙ range

  -- by what the vacancy for it is
  as-opening : (v : Result ℕ) → v ≡ vacancy station key → (changed_at station (open_slot key Idle) v).station ≡ (opening station key).station
  unfolding opening
  as-opening v e = ap (λ (v : Result ℕ). (changed_at station (open_slot key Idle) v).station) e

  pub opens_found : (o : Option ℕ) → o ≡ position (has_key key) station.slots → is_some o ≡ true → Opens station key o station
  opens_found None e q = cc
  opens_found (Some i) e q =
      let at = position_some (has_key key) station.slots i e in
      let n = sixteen station.format station.slots is_closed s in
      record {
        station = as-opening _ (open-taken station key s r (somewhere station.format station.slots (has_key key) s (Some i) e q));
        at = (at.0, omega (arith, at.1, n));
      }

  module _ (o : Option ℕ) (e : o ≡ position (has_key key) station.slots) (q : is_some o ≡ false) where
    far : 16 ≤ place (has_key key) station.slots
    far = nowhere station.format station.slots (has_key key) s o e q

    pub opens_none : None ≡ position is_closed station.slots → Opens station key None station
    opens_none f =
        record { station = as-opening _ (open_full station key s r far (nowhere station.format station.slots is_closed s None f refl)); at = far }

    module _ (i : ℕ) (f : Some i ≡ position is_closed station.slots) where
      abbrev now : Station
      now = with_slots station (set station.slots i (open_slot key Idle))

      inside : i < length station.slots
      inside = (position_some is_closed station.slots i f).1

      pub below : i < 16
      below = omega (arith, inside, sixteen station.format station.slots is_closed s)

      now-is : now ≡ (opening station key).station
      now-is = as-opening (value i) (open-lowest station key s r far i (position_some is_closed station.slots i f).0 below)

      pub still-sound : sound_station now ≡ true
      still-sound = ap sound_station now-is ∙ stays.opens station s key

      is-there : slot_at now.slots i ≡ open_slot key Idle
      is-there = get_or-set_same station.slots i (open_slot key Idle) closed_slot inside

      placed : (store : List ℕ) → length store ≡ 32768 → place (has_key key) now.slots ≡ i
      placed store w =
          eqb-true _ _ (sym (is_found now store (good now store still-sound (eq-eqb _ _ w)) key i below)
          ∙ ap (has_key key) is-there ∙ same_key_refl key)

      pub opens_lowest : Opens station key (Some i) now
      opens_lowest = record { station = now-is; at = (sym (placed (replicate 32768 0) refl), below) }

-- ---- what hearing a record keeps

handed_format : (station : Station) (slot : Slot) (r : Result ℕ) → (changed_at station slot r).station.format ≡ station.format
handed_format station slot (refused n) = refl
handed_format station slot (value i) = refl

opening_format : (station : Station) (key : Key) → (opening station key).station.format ≡ station.format
unfolding opening
opening_format station key = handed_format station (open_slot key Idle) (vacancy station key)

opened_format : (station : Station) (bus : ℕ) (j : Result Judged) → (opened_for station bus j).format ≡ station.format
opened_format station bus (refused n) = refl
opened_format station bus (value judged) = opening_format station (key_of bus judged.frame)

opened_sound : (station : Station) (bus : ℕ) (j : Result Judged) → sound_station station ≡ true → sound_station (opened_for station bus j) ≡ true
opened_sound station bus (refused n) s = s
opened_sound station bus (value judged) s = stays.opens station s (key_of bus judged.frame)

pub record Keeps (r : After) : Type 0 where
  pub format : r.station.format ≡ Extended
  pub sound : sound_station r.station ≡ true
  pub store : length r.store ≡ 32768

pub kept : (before : Station) → before.format ≡ Extended → sound_station before ≡ true → (store : List ℕ) (bus : ℕ) (image : List ℕ) → length store ≡ 32768
    → Keeps (heard before store bus image)
unfolding heard
kept before x s store bus image w =
    let j = judge Extended image in
    let station = opened_for before bus j in
    let c = after_call station store (good station store (opened_sound before bus j s) (eq-eqb _ _ w)) bus image in
    record { format = c.1 ∙ opened_format before bus j ∙ x; sound = stays_sound _ _ c.0; store = c.0.whole }

-- ---- what is heard

module _ (before : Station) (x : before.format ≡ Extended) (s : sound_station before ≡ true) (store : List ℕ) (bus : ℕ) (image : List ℕ) (w : length store ≡ 32768) (b : bus ≤ 1) where
  -- an image refused by 1 to 5 or 25
  pub at_refused : (own : Refusal) → refused (number own) ≡ judge Extended image → unchanged before store (refused (number own)) ≡ heard before store bus image
  unfolding heard
  at_refused own e =
      let judged : refused (number own) ≡ judge before.format image = e ∙ ap (λ (f : Format). judge f image) (sym x) in
      by_refusal before store bus image (number own) (judged ∙ in_judged before store bus image s w b)
      ∙ ap (λ (j : Result Judged). receive (opened_for before bus j) store bus image) e

  -- it keeps the station sound and extended, and the store's size
  pub heard_keeps : (r : After) → r ≡ heard before store bus image → (r.station.format ≡ Extended) × (sound_station r.station ≡ true) × (length r.store ≡ 32768)
  unfolding heard
  heard_keeps r e = let k = kept before x s store bus image w in rw e (k.format, k.sound, k.store)

  module _ (head : Head) (h : Heads head image) where
    abbrev frame : Frame
    frame = frame_of head image

    abbrev key : Key
    key = key_of bus frame

    module _ (o : Option ℕ) (now : Station) (opens : Opens before key o now) where
      as-heard : receive now store bus image ≡ heard before store bus image
      unfolding heard
      as-heard =
          ap (λ (station : Station). receive station store bus image) opens.station
          ∙ ap (λ (j : Result Judged). receive (opened_for before bus j) store bus image) h.judged

      now-sound : sound_station now ≡ true
      now-sound = ap sound_station opens.station ∙ stays.opens before s key

      now-extended : now.format ≡ Extended
      now-extended = ap (λ (station : Station). station.format) opens.station ∙ opening_format before key ∙ x

      let-in : value (record { frame = frame; start = head.start }) ≡ let_in now store bus image
      let-in = h.judged ∙ ap (λ (f : Format). judge f image) (sym now-extended) ∙ in_judged now store bus image now-sound w b

    -- no slot is left for it
    pub at-full : (now : Station) → Opens before key None now → handed_on (Ok Filtered) now store ≡ heard before store bus image
    at-full now opens = by_none now store bus image _ (let-in None now opens) opens.at ∙ as-heard None now opens

    -- the stream of its slot steps
    abbrev lent : List ℕ
    lent = take (length image - head.start) (drop head.start image)

    pub at_open : (i : ℕ) (now : Station) → Opens before key (Some i) now → (turn : Turn) (last : List ℕ)
        → after_turn now turn last ≡ stepped now store key (framed head lent) (stepping store i lent) → after_turn now turn last ≡ heard before store bus image
    at_open i now opens turn last e =
        let few : length lent ≤ 8 = rw rest_is (omega (arith, h.most, length-drop head.start image)) in
        let there = steps_there store i lent opens.at.1 w few in
        e ∙ ap (stepped now store key (framed head lent)) (sym there)
        ∙ ap (λ (bytes : List ℕ). step_at now store i key (framed head bytes)) (rest_is image head.start)
        ∙ by_slot now store bus image _ (let-in (Some i) now opens) i opens.at.0 opens.at.1 ∙ as-heard (Some i) now opens

-- what a turn changes
pub turn_none : (now : Station) (turn : Turn) (last : List ℕ) → turn.change ≡ None → handed_on turn.answer now last ≡ after_turn now turn last
turn_none now turn last e =
    ap (λ (c : Option Change). record { answer = meaning turn.answer; station = with_slots now (changed now.slots c); store = last }) (sym e)

pub turn_some : (now : Station) (turn : Turn) (last : List ℕ) (change : Change) → turn.change ≡ Some change
    → handed_on turn.answer (with_slots now (set now.slots change.at change.slot)) last ≡ after_turn now turn last
turn_some now turn last change e =
    ap (λ (c : Option Change). record { answer = meaning turn.answer; station = with_slots now (changed now.slots c); store = last }) (sym e)

-- ---- what is told

-- a verdict that is sound has such a head
pub heads : (image : List ℕ) → Bytes image → (head : Head) → verdicts.meaning (Ok head) image ≡ judge Extended image → Heads head image
heads image bytes head j =
    let n = sound_image Extended image (record { frame = frame_of head image; start = head.start }) (sym j) in
    record { judged = j; bytes = bytes; start = n.starts; most = n.most }

module _ (before : Station) (x : before.format ≡ Extended) (s : sound_station before ≡ true) (store : List ℕ) (ordinal bus : ℕ) (image : List ℕ) (w : length store ≡ 32768) (b : bus ≤ 1) where
  pub tells_refused : (own : Refusal) → refused (number own) ≡ judge Extended image → Tells before store ordinal bus image (line.Refused ordinal bus own) before store
  unfolding line_text line_in_range
  tells_refused own j =
      let h = at_refused before x s store bus image w b own j in
      record {
        station = ap (λ (r : After). r.station) h;
        store' = ap (λ (r : After). r.store) h;
        text = rw (← j);
        range = le-leb bus 1 b;
      }

  pub tells_frame : (head : Head) → Heads head image → (answer : Returned Answer) (now : Station) (last : List ℕ) → handed_on answer now last ≡ heard before store bus image
      → (count : ℕ) → count ≡ length image - head.start
      → Tells before store ordinal bus image (line.Frame ordinal bus head.fields head.flag head.number count answer) now last
  unfolding line_text
  tells_frame head h answer now last e count ec =
      let n : length (frame_of head image).bytes ≡ count = length-drop head.start image ∙ sym ec in
      record {
        station = ap (λ (r : After). r.station) e;
        store' = ap (λ (r : After). r.store) e;
        text = rw (← h.judged, ← e, n);
        range = line_in_range_lem bus b head image h ordinal count answer ec;
      }
