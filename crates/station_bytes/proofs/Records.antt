-- The two numbers of a record: which of them are those of a sound slot, and what its code is.
use Prim.Native.Nat.{ℕ, zero, suc, ◌+◌, ◌*◌, ◌/◌, ◌%◌, ◌<◌, ◌≤◌}
use native.Mathlib.Omega.{arith}
use mathlib.Core.Path.{◌≡◌, refl, ◌∙◌, sym, ap}
use mathlib.Core.Bool.{Bool, true, false, cond, ◌&&◌, ◌||◌}
use mathlib.Core.List.{[], ◌∷◌}
use lib.Dec.{leb, eqb}
use borrow.Author.Tests.{eq-eqb, ne_eqb, eqb-true, le-leb}
use Rattle.stream.specs.declared.Progress.TheVariants.{Idle, Collecting, Done}
use Rattle.format.specs.declared.Format.{Format}
use Rattle.format.specs.declared.Format.TheVariants.{Extended, Standard}
use Rattle.format.specs.Formats.{piece_size, packet_limit, in_range}
use Rattle.format.specs.Tests.{all_true}
use Rattle.slot.specs.Sound.{most_held, key_in_range, fits, slot_sound}
use Rattle.slot.specs.Slots.{closed_slot, open_slot}
use Rattle.slot.specs.Codes.{key_code, slot_code}
use Rattle.format.proofs.Tables.{and_true}
use Rattle.format.proofs.Tests.{each}
use Rattle.station_bytes.specs.States.{key_in, progress_from, progress_number, slot_in, slot_written}
use Rattle.station_bytes.specs.Parts.{key_fits, progress_fits, record_good, record_code}

pub alike : (x y : Bool) → (x ≡ true → y ≡ true) → (y ≡ true → x ≡ true) → x ≡ y
alike true y h g = sym (h refl)
alike false true h g = g refl
alike false false h g = refl

both_true : (a b : Bool) → a ≡ true → b ≡ true → (a && b) ≡ true
both_true a b e q = rw (e, q)

-- ---- keys

-- the digits of a key's number, by the quotients between them
extended_digits : (n p q4 f q7 b q8 s q16 g d : ℕ) → n ≡ p + q4 * 4 → q4 ≡ f + q7 * 32 → q7 ≡ b + q8 * 2 → q8 ≡ s + q16 * 256 → q16 ≡ g + d * 256
    → p + s * 256 + g * 65536 + d * 16777216 + f * 4 + b * 128 ≡ n
extended_digits n p q4 f q7 b q8 s q16 g d h4 h7 h8 h16 h24 = omega arith

tidy_extended : (s g d : Bool) → all_true (true ∷ all_true (true ∷ true ∷ all_true (true ∷ s ∷ g ∷ d ∷ true ∷ []) ∷ []) ∷ []) ≡ ((s && g) && d)
unfolding all_true
tidy_extended true true true = refl
tidy_extended true true false = refl
tidy_extended true false d = refl
tidy_extended false g d = refl

pub key_extended : (n : ℕ) → ((leb (n / 256 % 256) 63 && leb (n / 65536 % 256) 3) && leb (n / 16777216) 63) ≡ key_fits Extended n
unfolding key_fits key_in_range in_range
key_extended n =
    let digits = extended_digits n (n % 4) (n / 4) (n / 4 % 32) (n / 128) (n / 128 % 2) (n / 256) (n / 256 % 256) (n / 65536) (n / 65536 % 256) (n / 16777216)
    (omega arith) (omega arith) (omega arith) (omega arith) (omega arith) in
    let same = eq-eqb (n % 4 + n / 256 % 256 * 256 + n / 65536 % 256 * 65536 + n / 16777216 * 16777216 + n / 4 % 32 * 4 + n / 128 % 2 * 128) n digits in
    let bus = le-leb (n / 128 % 2) 1 (omega arith) in
    let priority = le-leb (n % 4) 3 (omega arith) in
    let function = le-leb (n / 4 % 32) 31 (omega arith) in
    rw (same, bus, priority, function) (sym (tidy_extended (leb (n / 256 % 256) 63) (leb (n / 65536 % 256) 3) (leb (n / 16777216) 63)))

module _ (n p q4 f q7 b q8 a q14 x q16 : ℕ) (h4 : n ≡ p + q4 * 4) (h7 : q4 ≡ f + q7 * 32) (h8 : q7 ≡ b + q8 * 2) (h14 : q8 ≡ a + q14 * 64) (h16 : q14 ≡ x + q16 * 4) (f31 : f ≤ 31) where
  code : ℕ
  code = p + a * 256 + q16 * 65536 + 16384 + b * 128

  standard_digits : (eqb f 0 && eqb x 1) ≡ eqb code n
  unfolding code
  standard_digits =
      alike (eqb f 0 && eqb x 1) (eqb code n)
      (λ e. let t = and_true (eqb f 0) (eqb x 1) e in
      let zf = eqb-true f 0 t.0 in
      let zx = eqb-true x 1 t.1 in
      eq-eqb code n (omega arith))
      (λ e. let q = eqb-true code n e in
      let most : x ≤ 1 = omega arith in
      let least : 1 ≤ x = omega arith in
      let zx : x ≡ 1 = omega arith in
      both_true (eqb f 0) (eqb x 1) (eq-eqb f 0 (omega arith)) (eq-eqb x 1 zx))

tidy_standard : (w s : Bool) → all_true (w ∷ all_true (true ∷ true ∷ all_true (true ∷ true ∷ s ∷ []) ∷ []) ∷ []) ≡ (w && s)
unfolding all_true
tidy_standard true s = refl
tidy_standard false s = refl

pub key_standard : (n : ℕ) → ((eqb (n / 4 % 32) 0 && eqb (n / 16384 % 4) 1) && leb (n / 65536) 1) ≡ key_fits Standard n
unfolding key_fits key_in_range in_range code
key_standard n =
    let same = standard_digits n (n % 4) (n / 4) (n / 4 % 32) (n / 128) (n / 128 % 2) (n / 256) (n / 256 % 64) (n / 16384) (n / 16384 % 4) (n / 65536)
    (omega arith) (omega arith) (omega arith) (omega arith) (omega arith) (omega arith) in
    let bus = le-leb (n / 128 % 2) 1 (omega arith) in
    let priority = le-leb (n % 4) 3 (omega arith) in
    let address = le-leb (n / 256 % 64) 63 (omega arith) in
    rw (same, bus, priority, address) (sym (tidy_standard _ (leb (n / 65536) 1)))

-- ---- progress

-- the code's test, of the kind k and the bytes held h
abbrev pub tested : Format → (k h : ℕ) → Bool
tested format k h =
    ((eqb k 1 && eqb h 0)
    || (((eqb k 2 && eqb (h % piece_size format) 0) && leb (piece_size format) h) && leb h (most_held format)))
    || (eqb k 3 && leb h (packet_limit format))

tidy_idle : (b : Bool) → all_true (b ∷ true ∷ []) ≡ ((b || false) || false)
unfolding all_true
tidy_idle true = refl
tidy_idle false = refl

tidy_collecting : (a b c : Bool) → all_true (true ∷ all_true (a ∷ b ∷ c ∷ []) ∷ []) ≡ ((false || ((a && b) && c)) || false)
unfolding all_true
tidy_collecting true true true = refl
tidy_collecting true true false = refl
tidy_collecting true false c = refl
tidy_collecting false b c = refl

progress_parts : (format : Format) (n k h : ℕ) → n ≡ k * 65536 + h → h < 65536
    → tested format k h
    ≡ all_true
    (eqb (progress_number (cond (eqb k 1) Idle (cond (eqb k 2) (Collecting h) (Done h)))) n
    ∷ fits format (cond (eqb k 1) Idle (cond (eqb k 2) (Collecting h) (Done h)))
    ∷ [])
unfolding fits all_true
progress_parts format n zero h e l = rw (ne_eqb (196608 + h) n (λ q. omega arith))
progress_parts format n (suc zero) h e l =
    let same : eqb 65536 n ≡ eqb h 0 = alike (eqb 65536 n) (eqb h 0) (λ q. let w = eqb-true 65536 n q in eq-eqb h 0 (omega arith)) (λ q. let w = eqb-true h 0 q in eq-eqb 65536 n (omega arith)) in
    rw same (sym (tidy_idle (eqb h 0)))
progress_parts format n (suc (suc zero)) h e l =
    rw (eq-eqb (131072 + h) n (omega arith))
    (sym (tidy_collecting (eqb (h % piece_size format) 0) (leb (piece_size format) h) (leb h (most_held format))))
progress_parts format n (suc (suc (suc zero))) h e l = rw (eq-eqb (196608 + h) n (omega arith))
progress_parts format n (suc (suc (suc (suc k)))) h e l =
    let k4 = suc (suc (suc (suc k))) in
    rw (ne_eqb k4 1 (λ q. omega arith), ne_eqb k4 2 (λ q. omega arith), ne_eqb k4 3 (λ q. omega arith), ne_eqb (196608 + h) n (λ q. omega arith))

pub progress_fits_lem : (format : Format) (n : ℕ) → tested format (n / 65536) (n % 65536) ≡ progress_fits format n
unfolding progress_fits
progress_fits_lem format n = progress_parts format n (n / 65536) (n % 65536) (omega arith) (omega arith)

-- ---- both

tidy_closed : (f k : Bool) → (f || (k && false)) ≡ all_true (f ∷ true ∷ [])
unfolding all_true
tidy_closed true k = refl
tidy_closed false true = refl
tidy_closed false false = refl

pub tidy_open : (kw kr pw pf : Bool) → (all_true (kw ∷ kr ∷ []) && all_true (pw ∷ pf ∷ [])) ≡ all_true (all_true (kw ∷ pw ∷ []) ∷ all_true (kr ∷ pf ∷ []) ∷ [])
unfolding all_true
tidy_open true true pw pf = cases pw
  where
    cases : (pw : Bool) → (true && ((true && pw) && pf)) ≡ ((true && ((true && true) && pw)) && ((true && true) && pf))
    cases true = refl
    cases false = refl
tidy_open true false true pf = refl
tidy_open true false false pf = refl
tidy_open false kr pw pf = refl

-- the code's test of a record
pub record_good_lem : (format : Format) (first second : ℕ)
    → ((eqb second 0 && eqb first 0) || (key_fits format first && progress_fits format second)) ≡ record_good format first second
unfolding record_good slot_sound key_fits progress_fits
record_good_lem format first second = go (eqb second 0) refl
  where
    go : (b : Bool) → eqb second 0 ≡ b
        → ((b && eqb first 0) || (key_fits format first && progress_fits format second))
        ≡ all_true
        (cond b (eqb first 0) (all_true (eqb (key_code (key_in format first)) first ∷ eqb (progress_number (progress_from second)) second ∷ []))
        ∷ slot_sound format (cond b closed_slot (open_slot (key_in format first) (progress_from second))).occupancy
        ∷ [])
    go true e =
        let none : progress_fits format second ≡ false = ap (progress_fits format) (eqb-true second 0 e) ∙ sym (progress_fits_lem format 0) in
        rw none (tidy_closed (eqb first 0) (key_fits format first))
    go false e =
        tidy_open (eqb (key_code (key_in format first)) first) (key_in_range format (key_in format first)) (eqb (progress_number (progress_from second)) second)
        (fits format (progress_from second))

-- the code of a slot that is written
pub record_code_lem : (format : Format) (i first second : ℕ) → slot_written format first second ≡ true
    → slot_code (slot_in format first second).occupancy i ≡ record_code i first second
record_code_lem format i first second = go (eqb second 0)
  where
    go : (b : Bool)
        → cond b (eqb first 0) (all_true (eqb (key_code (key_in format first)) first ∷ eqb (progress_number (progress_from second)) second ∷ [])) ≡ true
        → slot_code (cond b closed_slot (open_slot (key_in format first) (progress_from second))).occupancy i ≡ cond b (1073741824 + i) first
    go true e = refl
    go false e = eqb-true (key_code (key_in format first)) first (each _ e).0
