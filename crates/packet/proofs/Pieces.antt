-- The pieces of a packet: how many, how filled, and that they are sound frames which hold the packet.
use Prim.Native.Nat.{ℕ, zero, suc, ◌+◌, ◌-◌, ◌*◌, ◌%◌, ◌≤◌, ◌<◌, min}
use mathlib.Core.Path.{◌≡◌, refl, sym, ap, ◌∙◌}
use mathlib.Core.Bool.{Bool, true, false, cond, not, ◌||◌}
use mathlib.Core.List.{List, ◌∷◌, append-nil}
use native.Mathlib.Nat.{zero-add, add-zero, mul-suc, mul-zero, mod-lt}
use native.Mathlib.Omega.{arith}
use lib.Dec.{leb, eqb}
use lib.ListN.{length, drop, get_or, length-take, length-drop, take-append-drop, drop_of_length-le}
use lib.Seq.{drop-drop}
use borrow.Author.Tests.{leb-true, leb-false, eqb-true, eqb-false, le-leb, lt-ltb, eq-eqb, ne_eqb}
use Rattle.format.specs.declared.Format.{Format}
use Rattle.format.specs.declared.Format.TheVariants as format
use Rattle.format.specs.declared.Fields.{Fields}
use Rattle.format.specs.declared.Flag.{Flag}
use Rattle.format.specs.declared.Flag.TheVariants.{Middle, Start, End, Single}
use Rattle.format.specs.declared.Refusal.TheVariants.{Size}
use Rattle.format.specs.Formats.{packet_limit, piece_size, number_range, numbered, format_of, in_range, packet_start}
use Rattle.format.specs.Refusals.{value}
use Rattle.format.proofs.Tests.{from_each, tests}
use Rattle.format.proofs.Checks.{pass, none_left}
use Rattle.format.proofs.Limits.{some_bytes, eight_bytes, some_numbers}
use Rattle.frame.specs.Judge.{Frame, piece_rule, judge}
use Rattle.frame.specs.Image.{image_of, sound_frame}
use Rattle.frame.specs.Claims.{ImageIsJudged}
use Rattle.frame.proofs.Images.{image_is_judged}
use Rattle.packet.specs.Split.{count_of, piece_flag, piece_bytes, piece, pieces_from, pieces}
use Rattle.packet.specs.Send.{piece_count}
use Rattle.packet.specs.Claims.{joined, Splitting}
use Rattle.packet.proofs.Counts.{Several, several, bytes_single, bytes_several}

-- ---- how many bytes a piece carries, over the piece size z

module _ (z : ℕ) (pos : 0 < z) (small : z ≤ 8) (packet : List ℕ) (long : 8 < length packet) (k : ℕ) where
  m : Several z (length packet) (count_of z (length packet))
  m = several z (length packet) pos small long

  size : length (piece_bytes z packet k) ≡ min z (length packet - z * k)
  size = ap length (bytes_several z packet k long) ∙ simp (length-take, length-drop)

  pub filled_size : suc k < count_of z (length packet) → length (piece_bytes z packet k) ≡ z
  filled_size h = omega (arith, size, mul-suc z k, m.within (suc k) h)

  pub last_size : suc k ≡ count_of z (length packet) → z * k + length (piece_bytes z packet k) ≡ length packet
  last_size h =
      let enough : length packet ≤ z * suc k = rw h m.enough in
      let l : k < count_of z (length packet) = omega arith in
      omega (arith, size, mul-suc z k, m.within k l)

  pub most_size : length (piece_bytes z packet k) ≤ z
  most_size = omega (arith, size)

-- ---- joined they are the packet

module _ (fields : Fields) (packet : List ℕ) where
  pub count_pieces : (n k : ℕ) → length (pieces_from fields packet k n) ≡ n
  unfolding pieces_from
  count_pieces zero k = refl
  count_pieces (suc n) k = ap suc (count_pieces n (suc k))

  pub nth_piece : (n k j : ℕ) → j < n → (other : Frame) → get_or (pieces_from fields packet k n) j other ≡ piece fields packet (k + j)
  unfolding pieces_from
  nth_piece zero k j h other = absurd (omega arith)
  nth_piece (suc n) k zero h other = rw add-zero
  nth_piece (suc n) k (suc j) h other =
      let s : suc k + j ≡ k + suc j = omega arith in nth_piece n (suc k) j (omega arith) other ∙ ap (piece fields packet) s

  module _ (long : 8 < length packet) where
    rest : (n k : ℕ) → k + n ≡ count_of (piece_size (format_of fields)) (length packet)
        → joined (pieces_from fields packet k n) ≡ drop (piece_size (format_of fields) * k) packet
    unfolding joined pieces_from piece
    rest zero k e =
        let z = piece_size (format_of fields) in
        let m = several z (length packet) (some_bytes (format_of fields)) (eight_bytes (format_of fields)) long in
        let c : k ≡ count_of z (length packet) = omega arith in
        sym (drop_of_length-le packet {i = z * k} (rw c m.enough))
    rest (suc n) k e =
        let z = piece_size (format_of fields) in
        rw (rest n (suc k) (omega arith), bytes_several z packet k long, mul-suc, ← drop-drop z (z * k) packet)
        (take-append-drop z (drop (z * k) packet))

-- ---- each keeps the piece rules

unless : (x y : Bool) → (x ≡ true → y ≡ true) → (not x || y) ≡ true
unless true y h = h refl
unless false y h = refl

-- n bytes in `count` pieces, of which piece k carries l
rule : (fm : Format) (n count k l : ℕ) → 8 < n → n ≤ packet_limit fm → Several (piece_size fm) n count → k < count → l ≤ piece_size fm
    → (suc k < count → l ≡ piece_size fm) → (suc k ≡ count → piece_size fm * k + l ≡ n)
    → (b c : Bool) → eqb k 0 ≡ b → eqb (k + 1) count ≡ c
    → piece_rule fm (cond b Start (cond c End Middle)) (cond (numbered fm (cond b Start (cond c End Middle))) (suc l) l) (k % number_range fm) ≡ true
unfolding piece_rule
rule format.Extended n count k l long small m h s full last true c eb ec =
    let z = eqb-true k 0 eb in let f = full (omega (arith, m.two)) in from_each _ (omega tests)
rule format.Standard n count k l long small m h s full last true c eb ec =
    let z = eqb-true k 0 eb in let f = full (omega (arith, m.two)) in from_each _ (omega tests)
rule format.Extended n count k l long small m h s full last false true eb ec =
    let t = last (omega (arith, eqb-true (k + 1) count ec)) in from_each _ (omega (tests, m.within k h))
rule format.Standard n count k l long small m h s full last false true eb ec =
    let t = last (omega (arith, eqb-true (k + 1) count ec)) in
    let z = eqb-false k 0 eb in
    let w = m.within k h in
    from_each _ (
      omega tests,
      (omega tests, (omega tests, (omega tests, (unless (eqb (k % 256) 1) (leb 3 (suc l)) (λ x. omega (tests, eqb-true (k % 256) 1 x)), tt)))),
    )
rule format.Extended n count k l long small m h s full last false false eb ec =
    let f = full (omega (arith, eqb-false (k + 1) count ec)) in omega tests
rule format.Standard n count k l long small m h s full last false false eb ec =
    let z = eqb-false k 0 eb in
    let o = eqb-false (k + 1) count ec in
    let i : suc k < count = omega arith in
    let f = full i in
    from_each _ (omega (tests, m.within (suc k) i))

data_length : (b : Bool) (n : ℕ) (bytes : List ℕ) → length (cond b (n ∷ bytes) bytes) ≡ cond b (suc (length bytes)) (length bytes)
data_length true n bytes = refl
data_length false n bytes = refl

no_number : (fm : Format) → numbered fm Single ≡ false
no_number format.Extended = refl
no_number format.Standard = refl

first_number : (fm : Format) → 0 % number_range fm ≡ 0
first_number format.Extended = refl
first_number format.Standard = refl

count_single : (z n : ℕ) → n ≤ 8 → count_of z n ≡ 1
unfolding count_of
count_single z n h = rw (le-leb n 8 h)

pub flag_single : piece_flag 1 0 ≡ Single
unfolding piece_flag
flag_single = refl

pub flag_several : (count k : ℕ) → 2 ≤ count → piece_flag count k ≡ cond (eqb k 0) Start (cond (eqb (k + 1) count) End Middle)
unfolding piece_flag
flag_several count k h = rw (ne_eqb count 1 (λ e. omega arith))

module _ (fm : Format) (packet : List ℕ) (k : ℕ) where
  -- the rule of piece k
  Ruled : Type 0
  Ruled =
      let z : ℕ = piece_size fm in
      let flag : Flag = piece_flag (count_of z (length packet)) k in
      let bytes : List ℕ = piece_bytes z packet k in
      let n : ℕ = k % number_range fm in
      piece_rule fm flag (length (cond (numbered fm flag) (n ∷ bytes) bytes)) n ≡ true

  ruled_single : length packet ≤ 8 → k < count_of (piece_size fm) (length packet) → Ruled
  unfolding Ruled piece_rule
  ruled_single h i =
      let one = count_single (piece_size fm) (length packet) h in
      let z : k ≡ 0 = omega arith in
      rw (z, one, flag_single, no_number fm, bytes_single (piece_size fm) packet 0 h, first_number fm)
      (from_each _ (omega tests))

  ruled_several : 8 < length packet → length packet ≤ packet_limit fm → k < count_of (piece_size fm) (length packet) → Ruled
  unfolding Ruled
  ruled_several long small i =
      let z : ℕ = piece_size fm in
      let some = some_bytes fm in
      let eight = eight_bytes fm in
      let m = several z (length packet) some eight long in
      rw (data_length, flag_several (count_of z (length packet)) k m.two)
      (rule fm (length packet) (count_of z (length packet)) k (length (piece_bytes z packet k)) long small m i
      (most_size z some eight packet long k) (filled_size z some eight packet long k) (last_size z some eight packet long k) _ _ refl refl)

  ruled : length packet ≤ packet_limit fm → k < count_of (piece_size fm) (length packet) → Ruled
  ruled small i = go (leb (length packet) 8) refl
    where
      go : (b : Bool) → leb (length packet) 8 ≡ b → Ruled
      go true e = ruled_single (leb-true (length packet) 8 e) i
      go false e = ruled_several (leb-false (length packet) 8 e) small i

few_several : (fm : Format) (n count : ℕ) → Several (piece_size fm) n count → n ≤ packet_limit fm → count ≤ 256
few_several format.Extended n count m h = let i : count - 1 < count = omega (arith, m.two) in omega (arith, m.within (count - 1) i)
few_several format.Standard n count m h = let i : count - 1 < count = omega (arith, m.two) in omega (arith, m.within (count - 1) i)

few_pieces : (fm : Format) (n : ℕ) → n ≤ packet_limit fm → count_of (piece_size fm) n ≤ 256
few_pieces fm n h = go (leb n 8) refl
  where
    go : (b : Bool) → leb n 8 ≡ b → count_of (piece_size fm) n ≤ 256
    go true e = rw (count_single (piece_size fm) n (leb-true n 8 e)) (omega arith)
    go false e = few_several fm n (count_of (piece_size fm) n) (several (piece_size fm) n (some_bytes fm) (eight_bytes fm) (leb-false n 8 e)) h

-- ---- the claim

module _ (fields : Fields) (packet : List ℕ) (range : in_range fields ≡ true) (small : length packet ≤ packet_limit (format_of fields)) where
  count : length (pieces fields packet) ≡ count_of (piece_size (format_of fields)) (length packet)
  unfolding pieces
  count = count_pieces fields packet (count_of (piece_size (format_of fields)) (length packet)) 0

  listed_piece : (k : ℕ) → k < length (pieces fields packet) → (other : Frame) → get_or (pieces fields packet) k other ≡ piece fields packet k
  unfolding pieces
  listed_piece k h other =
      let i : k < count_of (piece_size (format_of fields)) (length packet) = rw count at h in
      nth_piece fields packet (count_of (piece_size (format_of fields)) (length packet)) 0 k i other ∙ ap (piece fields packet) (zero-add k)

  one_piece : length packet ≤ 8 → length (pieces fields packet) ≡ 1
  one_piece h = count ∙ count_single (piece_size (format_of fields)) (length packet) h

  more_pieces : 8 < length packet → 2 ≤ length (pieces fields packet)
  more_pieces h =
      let fm = format_of fields in
      rw count (several (piece_size fm) (length packet) (some_bytes fm) (eight_bytes fm) h).two

  flag_of_piece : (k : ℕ) → (piece fields packet k).flag ≡ piece_flag (length (pieces fields packet)) k
  unfolding piece
  flag_of_piece k = rw count

  single_flag : length (pieces fields packet) ≡ 1 → (piece fields packet 0).flag ≡ Single
  single_flag e = flag_of_piece 0 ∙ rw e flag_single

  start_flag : 2 ≤ length (pieces fields packet) → (piece fields packet 0).flag ≡ Start
  start_flag h = flag_of_piece 0 ∙ flag_several (length (pieces fields packet)) 0 h

  -- after the start, the end or a middle
  later_flag : (k : ℕ) → 0 < k → k + 1 ≤ length (pieces fields packet) → (last : Bool) → eqb (k + 1) (length (pieces fields packet)) ≡ last
      → (piece fields packet k).flag ≡ cond last End Middle
  later_flag k p h last e =
      let two : 2 ≤ length (pieces fields packet) = omega arith in
      flag_of_piece k ∙ flag_several (length (pieces fields packet)) k two ∙ rw (ne_eqb k 0 (λ z. omega arith), e)

  middle_flag : (k : ℕ) → 0 < k → k + 1 < length (pieces fields packet) → (piece fields packet k).flag ≡ Middle
  middle_flag k p h = later_flag k p (omega arith) false (ne_eqb (k + 1) (length (pieces fields packet)) (λ e. omega arith))

  end_flag : (k : ℕ) → 0 < k → k + 1 ≡ length (pieces fields packet) → (piece fields packet k).flag ≡ End
  end_flag k p h = later_flag k p (omega arith) true (eq-eqb _ _ h)

  number_of_piece : (k : ℕ) → (piece fields packet k).number ≡ k % number_range (format_of fields)
  unfolding piece
  number_of_piece k = refl

  sound_piece : (k : ℕ) → k < length (pieces fields packet) → sound_frame (piece fields packet k) ≡ true
  unfolding sound_frame piece Ruled
  sound_piece k h =
      from_each _ (
        range,
        (lt-ltb _ _ (mod-lt k (some_numbers (format_of fields))), (ruled (format_of fields) packet k small (rw count at h), tt)),
      )

  single : length packet ≤ 8 → joined (pieces_from fields packet 0 1) ≡ packet
  unfolding joined pieces_from piece
  single h = rw (bytes_single (piece_size (format_of fields)) packet 0 h, append-nil)

  whole_packet : joined (pieces fields packet) ≡ packet
  unfolding pieces
  whole_packet = go (leb (length packet) 8) refl
    where
      go : (b : Bool) → leb (length packet) 8 ≡ b → joined (pieces_from fields packet 0 (count_of (piece_size (format_of fields)) (length packet))) ≡ packet
      go true e = let h = leb-true (length packet) 8 e in rw (count_single (piece_size (format_of fields)) (length packet) h) (single h)
      go false e =
          rest fields packet (leb-false (length packet) 8 e) (count_of (piece_size (format_of fields)) (length packet)) 0 (omega arith)
          ∙ rw mul-zero

  filled_piece : (k : ℕ) → k + 1 < length (pieces fields packet) → length (piece fields packet k).bytes ≡ piece_size (format_of fields)
  unfolding piece
  filled_piece k h = go (leb (length packet) 8) refl
    where
      go : (b : Bool) → leb (length packet) 8 ≡ b → length (piece_bytes (piece_size (format_of fields)) packet k) ≡ piece_size (format_of fields)
      go true e =
          absurd (omega (arith, count, count_single (piece_size (format_of fields)) (length packet) (leb-true (length packet) 8 e)))
      go false e =
          filled_size (piece_size (format_of fields)) (some_bytes (format_of fields)) (eight_bytes (format_of fields)) packet (leb-false (length packet) 8 e) k (omega (arith, count))

  counted_pieces : piece_count (format_of fields) (length packet) ≡ value (length (pieces fields packet))
  unfolding piece_count
  counted_pieces = sym (pass Size _ _ (le-leb _ _ small) (none_left _)) ∙ ap value (sym count)

  own_fields : (k : ℕ) → (piece fields packet k).fields ≡ fields
  unfolding piece
  own_fields k = refl

  judged_piece : (k : ℕ) → k < length (pieces fields packet)
      → judge (format_of fields) (image_of (piece fields packet k))
      ≡ value (record { frame = piece fields packet k; start = packet_start (format_of fields) (piece fields packet k).flag })
  unfolding ImageIsJudged piece
  judged_piece k h = image_is_judged (piece fields packet k) (sound_piece k h)

pub splitting : Splitting
unfolding Splitting
splitting fields packet range small =
    record {
      counted = counted_pieces fields packet range small;
      few = rw (count fields packet range small) (few_pieces (format_of fields) (length packet) small);
      one = one_piece fields packet range small;
      more = more_pieces fields packet range small;
      in_order = listed_piece fields packet range small;
      single = single_flag fields packet range small;
      start = start_flag fields packet range small;
      middle = middle_flag fields packet range small;
      end = end_flag fields packet range small;
      number = number_of_piece fields packet range small;
      sound = sound_piece fields packet range small;
      of_packet = own_fields fields packet range small;
      judged = judged_piece fields packet range small;
      whole = whole_packet fields packet range small;
      filled = filled_piece fields packet range small;
    }
