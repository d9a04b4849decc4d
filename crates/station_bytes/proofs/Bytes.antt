-- The bytes of a state as a list: those of a station that is read from them, and what is written over them.
use Prim.Native.Nat.{ℕ, zero, suc, ◌+◌, ◌*◌, ◌≤◌, ◌<◌}
use native.Mathlib.Omega.{arith}
use mathlib.Core.Path.{◌≡◌, refl, ◌∙◌, sym, ap}
use mathlib.Core.Logic.{◌≢◌}
use mathlib.Core.Bool.{Bool, true, false, cond, not}
use mathlib.Core.List.{List, [], ◌∷◌, ◌++◌, append_assoc}
use lib.Dec.{eqb}
use lib.ListN.{length, get_or, set, take, drop, length-append, drop_of_length-le, take-append-drop}
use lib.Seq.{split_at, set_split, take-add, drop-drop, drop-cons, take_at, drop_at, length-take-le}
use borrow.Author.Tests.{ne_eqb, eqb-true, leb-true}
use Rattle.copying.specs.Copy.{written, copied}
use Rattle.copying.proofs.Copying.{all_copied}
use Rattle.format.specs.declared.Format.{Format}
use Rattle.format.specs.declared.Format.TheVariants.{Extended, Standard}
use Rattle.format.specs.Tests.{all_true}
use Rattle.format.proofs.Tests.{each}
use Rattle.slot.specs.declared.Slot.{Slot}
use Rattle.slot.specs.Slots.{closed_slot, open_slot, slot_at}
use Rattle.slot.specs.Codes.{key_code, codes_from, clashing}
use Rattle.std.specs.Prelude.{None, Some, Result, Ok, Err}
use Rattle.std.specs.Result.{result_unwrap_or}
use Rattle.format.specs.Numbers.{Reads}
use Rattle.format.specs.declared.NoSuch.{NoSuch}
use Rattle.std.specs.Bool.{then_some}
use Rattle.words.specs.Words.{word_bytes, word_at}
use Rattle.words.proofs.Laws.{written_at, four}
use Rattle.format.specs.Numbers.{format_number}
use Rattle.station_bytes.specs.States.{layout_number, format_in, format_at, progress_number, progress_from, key_in, first_of, second_of, slot_bytes, slots_bytes, state_bytes, slot_in, slots_from, slot_written, slots_written, station_in, is_state}
use Rattle.station_bytes.specs.Parts.{records_good, record_codes, is_station, NoStation}
use Rattle.station_bytes.proofs.Scans.{not_length, not_format, not_layout, not_tested, not_good, its-codes, good-tested}

-- ---- a number that stands where it is to be written

pub there : (state : List ℕ) → ((i : ℕ) → get_or state i 0 < 256) → (at : ℕ) → at + 4 ≤ length state → (number : ℕ) → number ≡ word_at state at
    → state ≡ copied state at (word_bytes number)
unfolding written
there state bytes at h number e =
    let is : word_bytes number ≡ take 4 (drop at state) = ap word_bytes e ∙ written_at state bytes at h in
    let put = all_copied state at (word_bytes number) (omega (arith, h, four number)) in
    sym
    (put ∙ ap (λ (n : ℕ). take at state ++ (word_bytes number ++ drop (at + n) state)) (four number)
    ∙ ap (λ (x : List ℕ). take at state ++ (x ++ drop (at + 4) state)) is
    ∙ ap (λ (x : List ℕ). take at state ++ (take 4 (drop at state) ++ x)) (sym (drop-drop 4 at state))
    ∙ ap (λ (x : List ℕ). take at state ++ x) (take-append-drop 4 (drop at state))
    ∙ take-append-drop at state)

-- ---- what is read back is what was written

-- the numbers of a slot that is written are those that it was read from
pub numbers : (format : Format) (first second : ℕ) → slot_written format first second ≡ true
    → (first_of (slot_in format first second).occupancy ≡ first) × (second_of (slot_in format first second).occupancy ≡ second)
numbers format first second = go (eqb second 0) refl
  where
    go : (b : Bool) → eqb second 0 ≡ b
        → cond b (eqb first 0) (all_true (eqb (key_code (key_in format first)) first ∷ eqb (progress_number (progress_from second)) second ∷ [])) ≡ true
        → (first_of (cond b closed_slot (open_slot (key_in format first) (progress_from second))).occupancy ≡ first)
        × (second_of (cond b closed_slot (open_slot (key_in format first) (progress_from second))).occupancy ≡ second)
    go true z e = (sym (eqb-true first 0 e), sym (eqb-true second 0 z))
    go false z e =
        let t = each _ e in (eqb-true (key_code (key_in format first)) first t.0, eqb-true (progress_number (progress_from second)) second t.1.0)

module _ (state : List ℕ) (bytes : (k : ℕ) → get_or state k 0 < 256) where
  slot_bytes_lem : (format : Format) (i : ℕ) → 8 * i + 8 ≤ length state → slot_written format (word_at state (8 * i)) (word_at state (8 * i + 4)) ≡ true
      → slot_bytes (slot_in format (word_at state (8 * i)) (word_at state (8 * i + 4))) ≡ take 8 (drop (8 * i) state)
  slot_bytes_lem format i h w =
      let n = numbers format (word_at state (8 * i)) (word_at state (8 * i + 4)) w in
      let first = ap word_bytes n.0 ∙ written_at state bytes (8 * i) (omega arith) in
      let second = ap word_bytes n.1 ∙ written_at state bytes (8 * i + 4) (omega arith) in
      let parts = take-add 4 4 (drop (8 * i) state) in
      let further = drop-drop 4 (8 * i) state in
      cc

  slots_bytes_lem : (format : Format) (n i : ℕ) → 8 * i + 8 * n ≤ length state → slots_written format state i n ≡ true
      → slots_bytes (slots_from format state i n) ≡ take (8 * n) (drop (8 * i) state)
  unfolding slots_from slots_written
  slots_bytes_lem format zero i h w = refl
  slots_bytes_lem format (suc n) i h w =
      let t = each _ w in
      let here = slot_bytes_lem format i (omega arith) t.0 in
      let rest = slots_bytes_lem format n (i + 1) (omega arith) t.1.0 in
      let next : 8 * (i + 1) ≡ 8 * i + 8 = omega arith in
      let all_of : 8 * suc n ≡ 8 + 8 * n = omega arith in
      let further = drop-drop 8 (8 * i) state in
      let parts = take-add 8 (8 * n) (drop (8 * i) state) in
      cc

  format_back : get_or state 128 0 ≤ 1 → format_number (format_at state) ≡ get_or state 128 0
  format_back h = go (get_or state 128 0) h
    where
      go : (n : ℕ) → n ≤ 1 → format_number (format_in n) ≡ n
      go zero h = refl
      go (suc zero) h = refl
      go (suc (suc n)) h = absurd (omega arith)

  pub same_bytes : is_state state ≡ true → state_bytes (station_in state) ≡ state
  unfolding is_state
  same_bytes e =
      let t = each _ e in
      let n : length state ≡ 130 = eqb-true (length state) 130 t.0 in
      let slots = slots_bytes_lem (format_at state) 16 0 (omega arith) t.1.1.1.0 in
      let format = format_back (leb-true (get_or state 128 0) 1 t.1.0) in
      let number : get_or state 129 0 ≡ layout_number = eqb-true (get_or state 129 0) layout_number t.1.1.0 in
      let end : drop 128 state ≡ get_or state 128 0 ∷ drop 129 state = drop-cons state 128 0 (omega arith) in
      let last : drop 129 state ≡ get_or state 129 0 ∷ drop 130 state = drop-cons state 129 0 (omega arith) in
      let none : drop 130 state ≡ [] = drop_of_length-le state {i = 130} (omega arith) in
      let whole : take 128 state ++ drop 128 state ≡ state = sym (split state 128) in
      cc
    where
      split : (l : List ℕ) (n : ℕ) → l ≡ take n l ++ drop n l
      split l zero = refl
      split [] (suc n) = refl
      split (x ∷ l) (suc n) = ap (λ (r : List ℕ). x ∷ r) (split l n)

-- ---- writing a record

pub eight : (slot : Slot) → length (slot_bytes slot) ≡ 8
eight slot = simp (length-append, four)

slots_append : (a b : List Slot) → slots_bytes (a ++ b) ≡ slots_bytes a ++ slots_bytes b
slots_append [] b = refl
slots_append (slot ∷ a) b = ap (λ (r : List ℕ). slot_bytes slot ++ r) (slots_append a b) ∙ sym (append_assoc (slot_bytes slot) (slots_bytes a) (slots_bytes b))

pub slots_size : (slots : List Slot) → length (slots_bytes slots) ≡ 8 * length slots
slots_size [] = refl
slots_size (slot ∷ slots) = length-append (slot_bytes slot) (slots_bytes slots) ∙ omega (arith, eight slot, slots_size slots)

-- some bytes in the middle are replaced by as many others
replaced : (p t b u : List ℕ) (n : ℕ) → length p ≡ n → length t ≡ length u → copied (p ++ (t ++ b)) n u ≡ p ++ (u ++ b)
unfolding written
replaced p t b u n l m =
    let before = take_at p (t ++ b) n l in
    let from = drop_at p (t ++ b) n l in
    let behind = drop_at t b (length u) m in
    let further = drop-drop (length u) n (p ++ (t ++ b)) in
    let sizes = length-append p (t ++ b) in
    let size = length-append t b in
    all_copied (p ++ (t ++ b)) n u (omega arith) ∙ (cc)

-- the slots before slot i, that slot and those after it
module _ (slots : List Slot) (i : ℕ) (h : i < length slots) (r : List ℕ) where
  abbrev front : List ℕ
  front = slots_bytes (take i slots)

  abbrev back : List ℕ
  back = slots_bytes (drop (suc i) slots) ++ r

  cut : (l : List Slot) (x : Slot) → l ≡ take i slots ++ x ∷ drop (suc i) slots
      → slots_bytes l ++ r ≡ front ++ (word_bytes (first_of x.occupancy) ++ (word_bytes (second_of x.occupancy) ++ back))
  cut l x e =
      let a = ap (λ (l : List Slot). slots_bytes l ++ r) e in
      let b = slots_append (take i slots) (x ∷ drop (suc i) slots) in
      let c = append_assoc front (slot_bytes x ++ slots_bytes (drop (suc i) slots)) r in
      let d = append_assoc (slot_bytes x) (slots_bytes (drop (suc i) slots)) r in
      let f = append_assoc (word_bytes (first_of x.occupancy)) (word_bytes (second_of x.occupancy)) back in
      cc

  front_size : length front ≡ 8 * i
  front_size = slots_size (take i slots) ∙ ap (λ (n : ℕ). 8 * n) (length-take-le i slots (omega arith))

  same_size : (a b : ℕ) → length (word_bytes a) ≡ length (word_bytes b)
  same_size a b = four a ∙ sym (four b)

  -- the first number of slot i is written, and the second
  first_over : (a b w : ℕ) → copied (front ++ (word_bytes a ++ (word_bytes b ++ back))) (8 * i) (word_bytes w) ≡ front ++ (word_bytes w ++ (word_bytes b ++ back))
  first_over a b w = replaced front (word_bytes a) (word_bytes b ++ back) (word_bytes w) (8 * i) front_size (same_size a w)

  second_over : (a b w : ℕ) → copied (front ++ (word_bytes a ++ (word_bytes b ++ back))) (8 * i + 4) (word_bytes w) ≡ front ++ (word_bytes a ++ (word_bytes w ++ back))
  second_over a b w =
      let x = append_assoc front (word_bytes a) (word_bytes b ++ back) in
      let y = append_assoc front (word_bytes a) (word_bytes w ++ back) in
      let size : length (front ++ word_bytes a) ≡ 8 * i + 4 = simp length-append (omega (arith, front_size, four a)) in
      let z = replaced (front ++ word_bytes a) (word_bytes b) back (word_bytes w) (8 * i + 4) size (same_size b w) in
      cc

  module _ (x : Slot) where
    now-cut : slots_bytes slots ++ r ≡ front ++ (word_bytes (first_of (slot_at slots i).occupancy) ++ (word_bytes (second_of (slot_at slots i).occupancy) ++ back))
    now-cut = cut slots (slot_at slots i) (split_at slots i closed_slot h)

    then-cut : slots_bytes (set slots i x) ++ r ≡ front ++ (word_bytes (first_of x.occupancy) ++ (word_bytes (second_of x.occupancy) ++ back))
    then-cut = cut (set slots i x) x (set_split slots i x h)

    pub put_second : first_of x.occupancy ≡ first_of (slot_at slots i).occupancy
        → copied (slots_bytes slots ++ r) (8 * i + 4) (word_bytes (second_of x.occupancy)) ≡ slots_bytes (set slots i x) ++ r
    put_second e =
        let a = now-cut in
        let b = then-cut in
        let c = second_over (first_of (slot_at slots i).occupancy) (second_of (slot_at slots i).occupancy) (second_of x.occupancy) in
        cc

    pub put_both : copied (copied (slots_bytes slots ++ r) (8 * i) (word_bytes (first_of x.occupancy))) (8 * i + 4) (word_bytes (second_of x.occupancy))
        ≡ slots_bytes (set slots i x) ++ r
    put_both =
        let a = now-cut in
        let b = then-cut in
        let c = first_over (first_of (slot_at slots i).occupancy) (second_of (slot_at slots i).occupancy) (first_of x.occupancy) in
        let d = second_over (first_of x.occupancy) (second_of (slot_at slots i).occupancy) (second_of x.occupancy) in
        cc

-- ---- what the test of a state gives

pub format_in_number : (format : Format) (n : ℕ) → format_number format ≡ n → (n ≤ 1) × (format ≡ format_in n)
format_in_number Extended n e = (omega (arith, e), rw (← e))
format_in_number Standard n e = (omega (arith, e), rw (← e))

pub none_above_1 : (n : ℕ) → ((format : Format) → ¬ (format_number format ≡ n)) → 1 < n
none_above_1 zero h = absurd (h Extended refl)
none_above_1 (suc zero) h = absurd (h Standard refl)
none_above_1 (suc (suc n)) h = omega arith

-- what is no format's number stands for standard
pub format_or_standard : (n : ℕ) (r : Result Format NoSuch) → Reads format_number n r → result_unwrap_or r Standard ≡ format_in n
format_or_standard n (Ok format) h = (format_in_number format n h).1
format_or_standard zero (Err e) h = absurd (h.1 Extended refl)
format_or_standard (suc n) (Err e) h = rw (ne_eqb (suc n) 0 (λ q. omega arith))

module _ (state : List ℕ) (bytes : (k : ℕ) → get_or state k 0 < 256) where
  abbrev refuses : is_station state ≡ false → NoStation state
  refuses e = record { told = e; same = same_bytes state bytes }

  -- the bytes are no state
  pub tested-length : length state ≢ 130 → NoStation state
  tested-length h = refuses (not_tested state (not_length state h))

  pub tested-format : ((format : Format) → ¬ (format_number format ≡ get_or state 128 0)) → NoStation state
  tested-format h = refuses (not_tested state (not_format state (none_above_1 (get_or state 128 0) h)))

  pub tested-layout : get_or state 129 0 ≢ layout_number → NoStation state
  tested-layout h = refuses (not_tested state (not_layout state h))

  module _ (n : length state ≡ 130) (l : get_or state 129 0 ≡ layout_number) (format : Format) (is : format_number format ≡ get_or state 128 0) (codes : List ℕ) where
    f : get_or state 128 0 ≤ 1
    f = (format_in_number format _ is).0

    pub tested-its_format : format ≡ format_at state
    tested-its_format = (format_in_number format _ is).1

    -- a record is not good
    pub tested-bad : None ≡ then_some (records_good format state 0 16) codes → NoStation state
    tested-bad e = refuses (not_good state n f l (ap (λ (format : Format). records_good format state 0 16) (sym tested-its_format) ∙ go (records_good format state 0 16) e))
      where
        go : (b : Bool) → None ≡ then_some b codes → b ≡ false
        go true e = cc
        go false e = refl

    -- all are
    module _ (e : Some codes ≡ then_some (records_good format state 0 16) (record_codes state 0 16)) where
      all_good : (records_good format state 0 16 ≡ true) × (codes ≡ record_codes state 0 16)
      all_good = go (records_good format state 0 16) e
        where
          go : (b : Bool) → Some codes ≡ then_some b (record_codes state 0 16) → (b ≡ true) × (codes ≡ record_codes state 0 16)
          go true e = (refl, (cc))
          go false e = cc

      good : records_good (format_at state) state 0 16 ≡ true
      good = ap (λ (format : Format). records_good format state 0 16) (sym tested-its_format) ∙ all_good.0

      told : not (clashing codes) ≡ is_station state
      told = ap (λ (codes : List ℕ). not (clashing codes)) all_good.1 ∙ good-tested state n f l good

      pub tested-clash : true ≡ clashing codes → NoStation state
      tested-clash h = refuses (sym told ∙ ap not (sym h))

      pub tested-good : false ≡ clashing codes → is_station state ≡ true
      tested-good h = sym told ∙ ap not (sym h)

      pub tested-codes : codes ≡ codes_from (slots_from (format_at state) state 0 16) 0
      tested-codes = all_good.1 ∙ its-codes state n f l good
