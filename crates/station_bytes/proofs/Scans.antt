-- All records of a state: what the scan finds out, turn by turn, and what that says of the station.
use Prim.Native.Nat.{ℕ, zero, suc, ◌+◌, ◌-◌, ◌*◌, ◌<◌, ◌≤◌}
use native.Mathlib.Omega.{arith}
use mathlib.Core.Path.{◌≡◌, refl, ◌∙◌, sym, ap}
use mathlib.Core.Bool.{Bool, true, false, ◌&&◌, not}
use mathlib.Core.List.{List, [], ◌∷◌}
use lib.Dec.{leb, eqb}
use lib.ListN.{length, get_or, set}
use lib.Seq.{paste}
use borrow.Author.Tests.{eq-eqb, ne_eqb, le-leb, lt-leb}
use Rattle.format.specs.declared.Format.{Format}
use Rattle.format.specs.Tests.{all_true}
use Rattle.format.proofs.Tests.{each}
use mathlib.Core.Logic.{◌≢◌}
use Rattle.slot.specs.declared.Slot.{Slot}
use Rattle.slot.specs.Slots.{slot_at}
use Rattle.slot.specs.Sound.{slot_sound, slots_sound, keys_differ, sound}
use Rattle.slot.specs.Codes.{codes_from, clashing}
use Rattle.slot.proofs.CodeLaws.{sound_codes}
use Rattle.slot.proofs.Rows.{row_next, row_full}
use Rattle.station.specs.Stations.{sound_station}
use Rattle.words.specs.Words.{word_at}
use Rattle.station_bytes.specs.States.{layout_number, format_at, slot_in, slots_from, slot_written, slots_written, station_in, is_state}
use Rattle.station_bytes.specs.Parts.{record_good, records_good, record_code, record_codes, is_station}
use Rattle.station_bytes.proofs.Records.{tidy_open, record_code_lem}

-- ---- one more turn of the scan

and_assoc : (a b c : Bool) → (a && (b && c)) ≡ ((a && b) && c)
and_assoc true b c = refl
and_assoc false b c = refl

module _ (format : Format) (state : List ℕ) (i : ℕ) where
  abbrev good_at : Bool
  good_at = record_good format (word_at state (8 * i)) (word_at state (8 * i + 4))

  pub good_turn : (good : Bool) → i < 16
      → (good && records_good format state i (16 - i)) ≡ ((good && good_at) && records_good format state (i + 1) (16 - (i + 1)))
  unfolding records_good all_true
  good_turn good h =
      let e : 16 - i ≡ suc (16 - (i + 1)) = omega arith in
      ap (λ (n : ℕ). good && records_good format state i n) e
      ∙ and_assoc good good_at (records_good format state (i + 1) (16 - (i + 1)))

  pub good_end : (good : Bool) → 16 ≤ i → (good && records_good format state i (16 - i)) ≡ good
  unfolding records_good
  good_end good h = let e : 16 - i ≡ 0 = omega arith in ap (λ (n : ℕ). good && records_good format state i n) e ∙ and_true good
    where
      and_true : (b : Bool) → (b && true) ≡ b
      and_true true = refl
      and_true false = refl

-- ---- the codes, the slots

module _ (state : List ℕ) where
  abbrev coded : ℕ → ℕ
  coded i = record_code i (word_at state (8 * i)) (word_at state (8 * i + 4))

  pub codes_length : (i n : ℕ) → length (record_codes state i n) ≡ n
  unfolding record_codes
  codes_length i zero = refl
  codes_length i (suc n) = ap suc (codes_length (i + 1) n)

  pub code_at : (m n i : ℕ) → i < n → get_or (record_codes state m n) i 0 ≡ coded (m + i)
  unfolding record_codes
  code_at m zero i h = absurd (omega arith)
  code_at m (suc n) zero h = let e : m ≡ m + 0 = omega arith in ap coded e
  code_at m (suc n) (suc i) h = let e : m + 1 + i ≡ m + suc i = omega arith in code_at (m + 1) n i (omega arith) ∙ ap coded e

module _ (format : Format) (state : List ℕ) where
  abbrev slot_of : ℕ → Slot
  slot_of i = slot_in format (word_at state (8 * i)) (word_at state (8 * i + 4))

  pub slots_length : (i n : ℕ) → length (slots_from format state i n) ≡ n
  unfolding slots_from
  slots_length i zero = refl
  slots_length i (suc n) = ap suc (slots_length (i + 1) n)

  pub slot_at_lem : (m n i : ℕ) → i < n → slot_at (slots_from format state m n) i ≡ slot_of (m + i)
  unfolding slots_from
  slot_at_lem m zero i h = absurd (omega arith)
  slot_at_lem m (suc n) zero h = let e : m ≡ m + 0 = omega arith in ap slot_of e
  slot_at_lem m (suc n) (suc i) h = let e : m + 1 + i ≡ m + suc i = omega arith in slot_at_lem (m + 1) n i (omega arith) ∙ ap slot_of e

  -- good records are written, and of sound slots
  pub records : (i n : ℕ) → records_good format state i n ≡ (slots_written format state i n && slots_sound format (slots_from format state i n))
  unfolding records_good record_good slots_written slots_from slots_sound all_true
  records i zero = refl
  records i (suc n) =
      let first = word_at state (8 * i) in
      let second = word_at state (8 * i + 4) in
      ap (λ (b : Bool). all_true (all_true (slot_written format first second ∷ slot_sound format (slot_in format first second).occupancy ∷ []) ∷ b ∷ [])) (records (i + 1) n)
      ∙ sym (tidy_open (slot_written format first second) (slots_written format state (i + 1) n) (slot_sound format (slot_in format first second).occupancy) (slots_sound format (slots_from format state (i + 1) n)))

  -- the codes of written records are those of their slots
  pub codes_same : (i n : ℕ) → slots_written format state i n ≡ true → record_codes state i n ≡ codes_from (slots_from format state i n) i
  unfolding record_codes slots_from slots_written
  codes_same i zero e = refl
  codes_same i (suc n) e =
      let t = each _ e in
      let here = record_code_lem format i (word_at state (8 * i)) (word_at state (8 * i + 4)) t.0 in
      let rest = codes_same (i + 1) n t.1.0 in
      cc

-- ---- what the test of a state says

and_both : (a b : Bool) → (a && b) ≡ true → (a ≡ true) × (b ≡ true)
and_both true b e = (refl, e)
and_both false b e = let z : false ≡ true = e in (z, cc)

module _ (state : List ℕ) where
  abbrev slots : List Slot
  slots = slots_from (format_at state) state 0 16

  none_after : (b : Bool) → is_state state ≡ false → all_true (is_state state ∷ b ∷ []) ≡ false
  unfolding all_true
  none_after b e = rw e

  pub not_length : length state ≢ 130 → is_state state ≡ false
  unfolding is_state all_true
  not_length h = rw (ne_eqb (length state) 130 h)

  pub not_format : 1 < get_or state 128 0 → is_state state ≡ false
  unfolding is_state all_true
  not_format h = rw (lt-leb (get_or state 128 0) 1 h) (go (eqb (length state) 130))
    where
      go : (n : Bool) → (((n && false) && eqb (get_or state 129 0) layout_number) && slots_written (format_at state) state 0 16) ≡ false
      go true = refl
      go false = refl

  pub not_layout : get_or state 129 0 ≢ layout_number → is_state state ≡ false
  unfolding is_state all_true
  not_layout h = rw (ne_eqb (get_or state 129 0) layout_number h) (go (eqb (length state) 130 && leb (get_or state 128 0) 1))
    where
      go : (b : Bool) → ((b && false) && slots_written (format_at state) state 0 16) ≡ false
      go true = refl
      go false = refl

  pub not_tested : is_state state ≡ false → is_station state ≡ false
  not_tested e = none_after (sound_station (station_in state)) e

  module _ (n : length state ≡ 130) (f : get_or state 128 0 ≤ 1) (l : get_or state 129 0 ≡ layout_number) where
    is_written : is_state state ≡ slots_written (format_at state) state 0 16
    unfolding is_state all_true
    is_written = rw (eq-eqb (length state) 130 n, le-leb (get_or state 128 0) 1 f, eq-eqb (get_or state 129 0) layout_number l)

    pub not_good : records_good (format_at state) state 0 16 ≡ false → is_station state ≡ false
    unfolding all_true sound
    not_good e =
        rw is_written (go (slots_written (format_at state) state 0 16) (slots_sound (format_at state) slots) (eqb (length slots) 16) (keys_differ slots) (sym (records (format_at state) state 0 16) ∙ e))
      where
        go : (w s l d : Bool) → (w && s) ≡ false → (w && ((l && s) && d)) ≡ false
        go false s l d e = refl
        go true s true d e = let z : s ≡ false = e in rw z
        go true s false d e = refl

    module _ (e : records_good (format_at state) state 0 16 ≡ true) where
      both : (slots_written (format_at state) state 0 16 ≡ true) × (slots_sound (format_at state) slots ≡ true)
      both = and_both _ _ (sym (records (format_at state) state 0 16) ∙ e)

      pub its-codes : record_codes state 0 16 ≡ codes_from slots 0
      its-codes = codes_same (format_at state) state 0 16 both.0

      pub good-tested : not (clashing (record_codes state 0 16)) ≡ is_station state
      unfolding all_true
      good-tested =
          sym (sound_codes (format_at state) slots (slots_length (format_at state) state 0 16) (record_codes state 0 16) both.1 its-codes)
          ∙ sym (rw (is_written, both.0))

-- ---- the loop's own turn: the two numbers of record i are read, tested and coded

module _ (format : Format) (state : List ℕ) (i k p : ℕ) (h : i < 16) (ek : k ≡ word_at state (8 * i)) (ep : p ≡ word_at state (8 * i + 4)) where
  pub good_next : (good is_good : Bool) → is_good ≡ record_good format k p
      → (good && records_good format state i (16 - i)) ≡ ((good && is_good) && records_good format state (i + 1) (16 - (i + 1)))
  good_next good is_good e = let turn = good_turn format state i good h in cc

  pub code_next : (d : List ℕ) (v : ℕ) → length d ≡ 16 → v ≡ record_code i k p
      → set (paste d 0 (record_codes state 0 16) i) i v ≡ paste d 0 (record_codes state 0 16) (i + 1)
  code_next d v l ev =
      let z : 0 + i ≡ i = omega arith in
      let there = code_at state 0 16 i h in
      let size = codes_length state 0 16 in
      row_next d (record_codes state 0 16) i (omega arith) v (omega arith) (cc)

pub codes_end : (state d : List ℕ) (i : ℕ) → length d ≡ 16 → 16 ≤ i → paste d 0 (record_codes state 0 16) i ≡ record_codes state 0 16
codes_end state d i l h =
    let size = codes_length state 0 16 in row_full d (record_codes state 0 16) i (omega arith) (omega arith)
