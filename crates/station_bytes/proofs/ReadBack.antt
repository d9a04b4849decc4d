-- The bytes of a sound station, read back; bytes that no sound station writes.
use Prim.Native.Nat.{ℕ, ◌+◌, ◌*◌, ◌/◌, ◌%◌, ◌^◌, ◌≤◌, ◌<◌}
use native.Mathlib.Omega.{arith}
use native.Mathlib.Nat.{div-eq_of_lt, add-mul-div_right, add-mul-mod_self_right, mod-eq_of_lt}
use mathlib.Core.Path.{◌≡◌, refl, ◌∙◌, sym, ap}
use mathlib.Core.Logic.{◌≢◌}
use mathlib.Core.Bool.{Bool, true, false, cond, false≢true}
use mathlib.Core.List.{List, [], ◌∷◌, ◌++◌, append_assoc}
use lib.Dec.{eqb, leb}
use lib.ListN.{length, get_or, length-append}
use lib.Seq.{get_or-append-add}
use borrow.Author.Tests.{eq-eqb, ne_eqb, eqb-true, leb-true}
use Rattle.format.specs.declared.Format.{Format}
use Rattle.format.specs.declared.Format.TheVariants.{Extended, Standard}
use Rattle.format.specs.declared.Fields.{Fields}
use Rattle.format.specs.declared.Fields.TheVariants as fields
use Rattle.format.specs.declared.Refusal.TheVariants.{State}
use Rattle.format.specs.Refusals.{refused, number, guarded}
use Rattle.format.specs.Formats.{in_range}
use Rattle.format.specs.Tests.{all_true}
use Rattle.format.proofs.Tests.{each, from_each}
use Rattle.frame.specs.Claims.{Bytes}
use Rattle.stream.specs.declared.Progress.{Progress}
use Rattle.stream.specs.declared.Progress.TheVariants.{Idle, Collecting, Done}
use Rattle.slot.specs.declared.Key.{Key}
use Rattle.std.specs.Prelude.{Option}
use Rattle.slot.specs.declared.Stream.{Stream}
use Rattle.std.specs.Prelude.{None, Some}
use Rattle.slot.specs.declared.Slot.{Slot}
use Rattle.slot.specs.Sound.{key_in_range, fits, slot_sound, slots_sound, sound}
use Rattle.slot.specs.Codes.{key_code}
use Rattle.station.specs.declared.Station.{Station}
use Rattle.station.specs.Stations.{station_of, sound_station}
use Rattle.stream.specs.Step.{held}
use Rattle.station.specs.Read.{reading}
use Rattle.words.specs.Words.{word_bytes, word_at}
use Rattle.words.proofs.Laws.{read_after, four}
use Rattle.format.specs.Numbers.{format_number}
use Rattle.station_bytes.specs.States.{layout_number, end_bytes, format_in, format_at, progress_number, progress_from, key_in, first_of, second_of, slot_bytes, slots_bytes, state_bytes, slot_in, slots_from, slot_written, slots_written, station_in, is_state}
use Rattle.station_bytes.specs.Calls.{read_in}
use Rattle.station_bytes.specs.Parts.{NoStation}
use Rattle.station_bytes.specs.Claims.{ReadBack, WrittenBack, NotWritten}
use Rattle.station_bytes.proofs.Bytes.{same_bytes, eight, slots_size}
use Rattle.station_bytes.proofs.Calling.{receive_state}
use Rattle.station_bytes.proofs.Handing.{open_state, close_state}

-- ---- keys

-- the high and the low part of a number
parts : (m n low high : ℕ) → low < m → n ≡ low + high * m → (n / m ≡ high) × (n % m ≡ low)
parts m n low high h e =
    let some : 0 < m = omega arith in
    let none = div-eq_of_lt h in (
      ap (λ (n : ℕ). n / m) e ∙ add-mul-div_right low high some ∙ ap (λ (k : ℕ). k + high) none ∙ (omega arith),
      ap (λ (n : ℕ). n % m) e ∙ add-mul-mod_self_right low high m ∙ mod-eq_of_lt h,
    )

-- the digits of a key's number
extended_back : (n p s g d f b : ℕ) → p ≤ 3 → s ≤ 63 → g ≤ 3 → d ≤ 63 → f ≤ 31 → b ≤ 1
    → n ≡ p + s * 256 + g * 65536 + d * 16777216 + f * 4 + b * 128
    → key_in Extended n ≡ record { bus = b; fields = fields.Extended p s g d f }
extended_back n p s g d f b hp hs hg hd hf hb e =
    let q16 = g + d * 256 in
    let q8 = s + q16 * 256 in
    let q7 = b + q8 * 2 in
    let q4 = f + q7 * 32 in
    let at4 = parts 4 n p q4 (omega arith) (omega arith) in
    let at7 = parts 128 n (p + f * 4) q7 (omega arith) (omega arith) in
    let at8 = parts 256 n (p + f * 4 + b * 128) q8 (omega arith) (omega arith) in
    let at16 = parts 65536 n (p + f * 4 + b * 128 + s * 256) q16 (omega arith) (omega arith) in
    let at24 = parts 16777216 n (p + f * 4 + b * 128 + s * 256 + g * 65536) d (omega arith) (omega arith) in
    let function = parts 32 (n / 4) f q7 (omega arith) at4.0 in
    let bus = parts 2 (n / 128) b q8 (omega arith) at7.0 in
    let source = parts 256 (n / 256) s q16 (omega arith) at8.0 in
    let group = parts 256 (n / 65536) g d (omega arith) at16.0 in
    cc

standard_back : (n p a s b : ℕ) → p ≤ 3 → a ≤ 63 → s ≤ 1 → b ≤ 1 → n ≡ p + a * 256 + s * 65536 + 16384 + b * 128
    → key_in Standard n ≡ record { bus = b; fields = fields.Standard p a s }
standard_back n p a s b hp ha hs hb e =
    let q14 = 1 + s * 4 in
    let q8 = a + q14 * 64 in
    let q7 = b + q8 * 2 in
    let at4 = parts 4 n p (q7 * 32) (omega arith) (omega arith) in
    let at7 = parts 128 n p q7 (omega arith) (omega arith) in
    let at8 = parts 256 n (p + b * 128) q8 (omega arith) (omega arith) in
    let at16 = parts 65536 n (p + b * 128 + a * 256 + 16384) s (omega arith) (omega arith) in
    let bus = parts 2 (n / 128) b q8 (omega arith) at7.0 in
    let address = parts 64 (n / 256) a q14 (omega arith) at8.0 in
    cc

-- a key in range: its number is one of 32 bits, and is read as that key
record Back (format : Format) (key : Key) : Type 0 where
  pub below : key_code key < 2 ^ 32
  pub key' : key_in format (key_code key) ≡ key

key_back : (format : Format) (bus : ℕ) (own : Fields) → key_in_range format (record { bus = bus; fields = own }) ≡ true
    → Back format (record { bus = bus; fields = own })
unfolding key_in_range in_range
key_back Extended bus (fields.Extended p s g d f) e =
    let t = each _ e in
    let u = each _ t.1.1.0 in
    let hb = leb-true bus 1 t.0 in
    let hp = leb-true p 3 u.0 in
    let hs = leb-true s 63 u.1.0 in
    let hg = leb-true g 3 u.1.1.0 in
    let hd = leb-true d 63 u.1.1.1.0 in
    let hf = leb-true f 31 u.1.1.1.1.0 in
    record { below = omega arith; key' = extended_back _ p s g d f bus hp hs hg hd hf hb refl }
key_back Standard bus (fields.Standard p a s) e =
    let t = each _ e in
    let u = each _ t.1.1.0 in
    let hb = leb-true bus 1 t.0 in
    let hp = leb-true p 3 u.0 in
    let ha = leb-true a 63 u.1.0 in
    let hs = leb-true s 1 u.1.1.0 in
    record { below = omega arith; key' = standard_back _ p a s bus hp ha hs hb refl }
key_back Extended bus (fields.Standard p a s) e = absurd (false≢true (each _ e).1.0)
key_back Standard bus (fields.Extended p s g d f) e = absurd (false≢true (each _ e).1.0)

-- ---- progress

-- a number of the kind k, with h
module _ (k h : ℕ) (l : h ≤ 2048) where
  kind : (k * 65536 + h) / 65536 ≡ k
  kind = (parts 65536 (k * 65536 + h) h k (omega arith) (omega arith)).0

  bytes : (k * 65536 + h) % 65536 ≡ h
  bytes = (parts 65536 (k * 65536 + h) h k (omega arith) (omega arith)).1

within : (format : Format) (progress : Progress) → fits format progress ≡ true → held progress ≤ 2048
unfolding fits
within format Idle e = omega arith
within Extended (Collecting h) e = leb-true h 2048 (each _ e).1.1.0
within Standard (Collecting h) e = let l = leb-true h 1785 (each _ e).1.1.0 in omega arith
within Extended (Done h) e = leb-true h 2048 e
within Standard (Done h) e = let l = leb-true h 1792 e in omega arith

-- its number is one of 32 bits and not 0, and is read as that progress
record Reached (progress : Progress) : Type 0 where
  pub below : progress_number progress < 2 ^ 32
  pub some : eqb (progress_number progress) 0 ≡ false
  pub progress' : progress_from (progress_number progress) ≡ progress

progress_back : (progress : Progress) → held progress ≤ 2048 → Reached progress
progress_back Idle l = record { below = omega arith; some = refl; progress' = refl }
progress_back (Collecting h) l =
    record { below = omega arith; some = ne_eqb (131072 + h) 0 (λ z. omega arith); progress' = rw (kind 2 h l, bytes 2 h l) refl }
progress_back (Done h) l =
    record { below = omega arith; some = ne_eqb (196608 + h) 0 (λ z. omega arith); progress' = rw (kind 3 h l, bytes 3 h l) refl }

-- ---- records

record Record (format : Format) (o : Option Stream) : Type 0 where
  pub first : first_of o < 2 ^ 32
  pub second : second_of o < 2 ^ 32
  pub slot : slot_in format (first_of o) (second_of o) ≡ record { occupancy = o }
  pub written : slot_written format (first_of o) (second_of o) ≡ true

record_back : (format : Format) (o : Option Stream) → slot_sound format o ≡ true → Record format o
unfolding slot_sound
record_back format None e = record { first = omega arith; second = omega arith; slot = refl; written = refl }
record_back format (Some stream) e =
    let t = each _ e in
    let k = key_back format stream.key.bus stream.key.fields t.0 in
    let p = progress_back stream.progress (within format stream.progress t.1.0) in
    record {
      first = k.below;
      second = p.below;
      slot = rw (p.some, k.key', p.progress') refl;
      written = rw p.some (from_each _ (eq-eqb _ _ (ap key_code k.key'), (eq-eqb _ _ (ap progress_number p.progress'), tt)));
    }

-- ---- all of them, behind the bytes of those before

record Records (format : Format) (state : List ℕ) (i : ℕ) (slots : List Slot) : Type 0 where
  pub slots' : slots_from format state i (length slots) ≡ slots
  pub written : slots_written format state i (length slots) ≡ true

records_back : (format : Format) (state r : List ℕ) (slots : List Slot) (i : ℕ) (front : List ℕ) → length front ≡ 8 * i → state ≡ front ++ (slots_bytes slots ++ r)
    → slots_sound format slots ≡ true → Records format state i slots
unfolding slots_from slots_written slots_sound
records_back format state r [] i front l e s = record { slots' = refl; written = refl }
records_back format state r (slot ∷ slots) i front l e s =
    let t = each _ s in
    let o = slot.occupancy in
    let here = record_back format o t.0 in
    let a = word_bytes (first_of o) in
    let rest = slots_bytes slots ++ r in
    let split = e ∙ ap (λ (l : List ℕ). front ++ l) (append_assoc (slot_bytes slot) (slots_bytes slots) r) in
    let past-slot = split ∙ sym (append_assoc front (slot_bytes slot) rest) in
    let past_first = split ∙ ap (λ (l : List ℕ). front ++ l) (append_assoc a (word_bytes (second_of o)) rest) in
    let at_second = past_first ∙ sym (append_assoc front a (word_bytes (second_of o) ++ rest)) in
    let size : length (front ++ slot_bytes slot) ≡ 8 * (i + 1) = length-append front (slot_bytes slot) ∙ omega (arith, eight slot) in
    let size4 : length (front ++ a) ≡ 8 * i + 4 = length-append front a ∙ omega (arith, four (first_of o)) in
    let further = records_back format state r slots (i + 1) (front ++ slot_bytes slot) size past-slot t.1.0 in
    let first : word_at state (8 * i) ≡ first_of o =
    ap (λ (l : List ℕ). word_at l (8 * i)) past_first ∙ read_after front (first_of o) (word_bytes (second_of o) ++ rest) (8 * i) l here.first in
    let second : word_at state (8 * i + 4) ≡ second_of o =
    ap (λ (l : List ℕ). word_at l (8 * i + 4)) at_second ∙ read_after (front ++ a) (second_of o) rest (8 * i + 4) size4 here.second in
    record {
      slots' = rw (first, second, here.slot, further.slots') refl;
      written = rw (first, second) (from_each _ (here.written, (further.written, tt)));
    }

-- ---- the station

format_read : (format : Format) → format_in (format_number format) ≡ format
format_read Extended = refl
format_read Standard = refl

format_small : (format : Format) → leb (format_number format) 1 ≡ true
format_small Extended = refl
format_small Standard = refl

pub read_back : ReadBack
unfolding ReadBack sound is_state
read_back station s =
    let t = each _ s in
    let slots = station.slots in
    let format = station.format in
    let state = state_bytes station in
    let sixteen : length slots ≡ 16 = eqb-true (length slots) 16 t.0 in
    let all-size : length (slots_bytes slots) ≡ 128 = slots_size slots ∙ omega arith in
    let size : length state ≡ 130 = length-append (slots_bytes slots) (end_bytes format) ∙ omega arith in
    let behind : (k : ℕ) → get_or state (128 + k) 0 ≡ get_or (end_bytes format) k 0 =
    λ k. ap (λ (n : ℕ). get_or state (n + k) 0) (sym all-size) ∙ get_or-append-add (slots_bytes slots) (end_bytes format) k 0 in
    let same : format_at state ≡ format = ap format_in (behind 0) ∙ format_read format in
    let r = records_back format state (end_bytes format) slots 0 [] refl refl t.1.0 in
    let slots_read : slots_from format state 0 16 ≡ slots = ap (slots_from format state 0) (sym sixteen) ∙ r.slots' in
    let slots-are : slots_written format state 0 16 ≡ true = ap (slots_written format state 0) (sym sixteen) ∙ r.written in (
      from_each _ (
        eq-eqb (length state) 130 size,
        (
          ap (λ (n : ℕ). leb n 1) (behind 0) ∙ format_small format,
          (eq-eqb (get_or state 129 0) layout_number (behind 1), (ap (λ (f : Format). slots_written f state 0 16) same ∙ slots-are, tt)),
        ),
      ),
      ap (λ (f : Format). station_of f (slots_from f state 0 16)) same ∙ ap (station_of format) slots_read,
    )

pub written_back : WrittenBack
unfolding WrittenBack
written_back state bytes e = same_bytes state bytes e

-- ---- bytes that no sound station writes

module _ (state : List ℕ) (bytes : Bytes state) (none : (station : Station) → sound_station station ≡ true → state_bytes station ≢ state) where
  -- if they are a state's, that of a station that is not sound
  unsound : is_state state ≡ true → sound_station (station_in state) ≡ false
  unsound e = go (sound_station (station_in state)) refl
    where
      go : (b : Bool) → sound_station (station_in state) ≡ b → b ≡ false
      go false s = refl
      go true s = absurd (none (station_in state) s (same_bytes state bytes e))

  no_station : NoStation state
  unfolding all_true
  no_station = record { told = go (is_state state) refl; same = same_bytes state bytes }
    where
      go : (b : Bool) → is_state state ≡ b → all_true (b ∷ sound_station (station_in state) ∷ []) ≡ false
      go false e = refl
      go true e = unsound e

pub not_written : NotWritten
unfolding NotWritten read_in reading guarded
not_written state bytes none =
    let t = no_station state bytes none in
    record {
      receives = λ store bus image. sym (receive_state state t store bus image);
      opens = λ key. sym (open_state state t key);
      closes = λ i. sym (close_state state t i);
      reads = λ store i. go store i (is_state state) refl;
    }
  where
    go : (store : List ℕ) (i : ℕ) (b : Bool) → is_state state ≡ b
        → cond b (reading (station_in state) store i) (refused (number State)) ≡ refused (number State)
    go store i false e = refl
    go store i true e = rw (unsound state bytes none e) refl
