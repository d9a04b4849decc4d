-- The pieces of a packet, fed in order to a stream alone, end in that packet: one proof for both formats.
use Prim.Native.Nat.{ℕ, zero, suc, ◌+◌, ◌-◌, ◌*◌, ◌%◌, ◌≤◌, ◌<◌}
use mathlib.Core.Path.{◌≡◌, refl, sym, ap, ◌∙◌}
use mathlib.Core.Bool.{Bool, true, false, cond}
use mathlib.Core.List.{List, [], ◌∷◌, ◌++◌, append_assoc}
use native.Mathlib.Nat.{mul-suc, mul-div_cancel_left, mul-zero}
use native.Mathlib.Omega.{arith}
use lib.Dec.{leb, eqb}
use lib.ListN.{length, take, drop, replicate, length-append}
use lib.Seq.{length-take-le, take_at, drop-append-add, drop-drop, take-add, take_all}
use borrow.Author.Tests.{leb-false, le-leb, lt-leb, eq-eqb, ne_eqb}
use Rattle.copying.specs.Copy.{written}
use Rattle.format.specs.declared.Format.{Format}
use Rattle.format.specs.declared.Fields.{Fields}
use Rattle.format.specs.declared.Flag.TheVariants.{Middle, Start, End, Single}
use Rattle.format.specs.Formats.{piece_size, number_range, format_of}
use Rattle.format.specs.Refusals.{Result, value, guarded}
use Rattle.format.proofs.Limits.{some_bytes, eight_bytes}
use Rattle.frame.specs.Judge.{Frame}
use Rattle.packet.specs.Split.{count_of, piece_flag, piece_bytes, piece, pieces_from, pieces}
use Rattle.packet.proofs.Counts.{Several, several, bytes_several}
use Rattle.packet.proofs.Pieces.{flag_several, count_pieces}
use Rattle.stream.specs.declared.Progress.{Progress}
use Rattle.stream.specs.declared.Progress.TheVariants.{Collecting, Done}
use Rattle.stream.specs.Answers.{Reply, packet, kept}
use Rattle.stream.specs.Step.{Next, collecting, awaited, follows, followed, stepped, step}
use Rattle.stream.specs.OneStream.{Alone, one_stream}
use Rattle.station.specs.Demands.{answers_to}

-- ---- writing after what was written

then_written : (a x y : List ℕ) (n : ℕ) → length x ≡ n → written (written a 0 x) n y ≡ written a 0 (x ++ y)
unfolding written
then_written a x y n e =
    let sum : 0 + length x + length y ≡ 0 + length (x ++ y) = omega (arith, length-append x y) in
    rw (take_at x (drop (0 + length x) a) n e)
    (ap (λ (r : List ℕ). x ++ (y ++ r))
    (ap (λ (k : ℕ). drop (k + length y) (x ++ drop (0 + length x) a)) (sym e) ∙ drop-append-add x (drop (0 + length x) a) (length y)
    ∙ drop-drop (length y) (0 + length x) a
    ∙ ap (λ (k : ℕ). drop k a) sum)
    ∙ sym (append_assoc x y (drop (0 + length (x ++ y)) a)))

-- ---- one step at a piece

module _ (format : Format) (h : ℕ) (a : List ℕ) (f : Frame) (n : f.number ≡ awaited (piece_size format) (number_range format) h) (room : h + length f.bytes ≤ 2048) where
  step_middle : f.flag ≡ Middle
      → step format (Collecting h) a f ≡ record { answer = value (kept false); progress = Collecting (h + length f.bytes); area = written a h f.bytes }
  unfolding step stepped followed follows guarded
  step_middle e = rw (e, eq-eqb _ _ n, le-leb _ _ room)

  step_end : f.flag ≡ End
      → step format (Collecting h) a f ≡ record { answer = value (packet (h + length f.bytes) false); progress = Done (h + length f.bytes); area = written a h f.bytes }
  unfolding step stepped followed follows guarded
  step_end e = rw (e, eq-eqb _ _ n, le-leb _ _ room)

module _ (format : Format) (p : Progress) (a : List ℕ) (f : Frame) where
  step_single : (b : List ℕ) → f.flag ≡ Single → f.bytes ≡ b
      → step format p a f ≡ record { answer = value (packet (length b) (collecting p)); progress = Done (length b); area = written a 0 b }
  unfolding step stepped
  step_single b e q = rw (e, q)

  step_start : (b : List ℕ) → f.flag ≡ Start → f.bytes ≡ b
      → step format p a f ≡ record { answer = value (kept (collecting p)); progress = Collecting (length b); area = written a 0 b }
  unfolding step stepped
  step_start b e q = rw (e, q)

-- the answers at the pieces after the first
abbrev following : ℕ → ℕ → List (Result Reply)
following n middles = replicate middles (value (kept false)) ++ (value (packet n false) ∷ [])

-- ---- a packet of several pieces

module _ (fields : Fields) (bytes a : List ℕ) (long : 8 < length bytes) (small : length bytes ≤ 2048) where
  abbrev fm : Format
  fm = format_of fields

  abbrev z : ℕ
  z = piece_size (format_of fields)

  abbrev count : ℕ
  count = count_of (piece_size (format_of fields)) (length bytes)

  m : Several z (length bytes) count
  m = several z (length bytes) (some_bytes fm) (eight_bytes fm) long

  -- the first k parts, and the part that piece k carries
  parts : ℕ → List ℕ
  parts k = take (z * k) bytes

  carried : (k : ℕ) → parts k ++ (piece fields bytes k).bytes ≡ parts (suc k)
  unfolding piece parts
  carried k = rw (bytes_several z bytes k long, mul-suc) (sym (take-add (z * k) z bytes))

  module _ (k : ℕ) (inside : z * k ≤ length bytes) where
    parts-length : length (parts k) ≡ z * k
    unfolding parts
    parts-length = length-take-le (z * k) bytes inside

    sum : (l : ℕ) → length (parts (suc k)) ≡ l → z * k + length (piece fields bytes k).bytes ≡ l
    sum l e = omega (arith, e, parts-length, length-append (parts k) (piece fields bytes k).bytes, ap length (carried k))

    onto : written (written a 0 (parts k)) (z * k) (piece fields bytes k).bytes ≡ written a 0 (parts (suc k))
    onto = then_written a (parts k) (piece fields bytes k).bytes (z * k) parts-length ∙ ap (written a 0) (carried k)

    as-awaited : (piece fields bytes k).number ≡ awaited z (number_range fm) (z * k)
    unfolding piece
    as-awaited = ap (λ (x : ℕ). x % number_range fm) (sym (mul-div_cancel_left k (some_bytes fm)))

  flag_of_lem : (k : ℕ) → 0 < k → (b : Bool) → eqb (k + 1) count ≡ b → (piece fields bytes k).flag ≡ cond b End Middle
  unfolding piece
  flag_of_lem k pos b e = rw (flag_several count k m.two, ne_eqb k 0 (λ q. omega arith), e)

  all_parts : (k : ℕ) → k ≡ count → parts k ≡ bytes
  unfolding parts
  all_parts k e = rw e (take_all _ bytes m.enough)

  begins : (k : ℕ) → suc k ≤ count → z * k ≤ length bytes
  begins k h = omega (arith, m.within k h)

  goes_on : (r k : ℕ) → 0 < k → k + suc r ≡ count
      → one_stream fm (Collecting (z * k)) (written a 0 (parts k)) (pieces_from fields bytes k (suc r))
      ≡ record { answers = following (length bytes) r; progress = Done (length bytes); area = written a 0 bytes }
  unfolding one_stream pieces_from
  goes_on zero k pos e =
      let last : suc k ≡ count = omega arith in
      let is_last : k + 1 ≡ count = omega arith in
      let inside = begins k (omega arith) in
      let all = all_parts (suc k) last in
      let total = sum k inside (length bytes) (ap length all) in
      ap (λ (s : Next). record { answers = s.answer ∷ []; progress = s.progress; area = s.area })
      (step_end fm (z * k) (written a 0 (parts k)) (piece fields bytes k) (as-awaited k inside) (omega arith) (flag_of_lem k pos true (eq-eqb _ _ is_last))
      ∙ (λ i. record { answer = value (packet (total i) false); progress = Done (total i); area = (onto k inside ∙ ap (written a 0) all) i }))
  goes_on (suc r) k pos e =
      let more : k + 1 ≡ count → ⊥ = λ q. omega arith in
      let inside = begins k (omega arith) in
      let next = begins (suc k) (omega arith) in
      let total = sum k inside (z * suc k) (parts-length (suc k) next) in
      ap (λ (s : Next).
      let rest = one_stream fm s.progress s.area (pieces_from fields bytes (suc k) (suc r)) in
      record { answers = s.answer ∷ rest.answers; progress = rest.progress; area = rest.area })
      (step_middle fm (z * k) (written a 0 (parts k)) (piece fields bytes k) (as-awaited k inside) (omega arith) (flag_of_lem k pos false (ne_eqb _ _ more))
      ∙ (λ i. record { answer = value (kept false); progress = Collecting (total i); area = onto k inside i }))
      ∙ ap (λ (x : Alone). record { answers = value (kept false) ∷ x.answers; progress = x.progress; area = x.area }) (goes_on r (suc k) (omega arith) (omega arith))

  -- the first piece
  first_bytes_lem : (piece fields bytes 0).bytes ≡ parts 1
  unfolding parts
  first_bytes_lem = ap (λ (x : ℕ). take x bytes ++ (piece fields bytes 0).bytes) (sym (mul-zero z)) ∙ carried 0

  first_flag : (piece fields bytes 0).flag ≡ Start
  unfolding piece
  first_flag = flag_several count 0 m.two

  in_pieces : (p : Progress) → one_stream fm p a (pieces fields bytes)
      ≡ record { answers = value (kept (collecting p)) ∷ following (length bytes) (count - 2); progress = Done (length bytes); area = written a 0 bytes }
  unfolding pieces one_stream pieces_from
  in_pieces p =
      let d = count - 2 in
      let c : count ≡ suc (suc d) = omega (arith, m.two) in
      let one = parts-length 1 (begins 1 (omega (arith, m.two))) in
      ap (λ (n : ℕ). one_stream fm p a (pieces_from fields bytes 0 n)) c
      ∙ ap (λ (s : Next).
      let rest = one_stream fm s.progress s.area (pieces_from fields bytes 1 (suc d)) in
      record { answers = s.answer ∷ rest.answers; progress = rest.progress; area = rest.area })
      (step_start fm p a (piece fields bytes 0) (parts 1) first_flag first_bytes_lem
      ∙ (λ i. record { answer = value (kept (collecting p)); progress = Collecting (one i); area = written a 0 (parts 1) }))
      ∙ ap (λ (x : Alone). record { answers = value (kept (collecting p)) ∷ x.answers; progress = x.progress; area = x.area }) (goes_on d 1 (omega arith) (omega arith))

  several_answers : (broke : Bool) → answers_to (length (pieces fields bytes)) (length bytes) broke ≡ value (kept broke) ∷ following (length bytes) (count - 2)
  unfolding answers_to pieces
  several_answers broke = rw (count_pieces fields bytes count 0, lt-leb count 1 m.two)

-- ---- a packet of one piece

one_piece : (fields : Fields) (bytes : List ℕ) → leb (length bytes) 8 ≡ true → pieces fields bytes ≡ piece fields bytes 0 ∷ []
unfolding pieces count_of pieces_from
one_piece fields bytes e = rw e

in_one : (fields : Fields) (bytes a : List ℕ) (p : Progress) → leb (length bytes) 8 ≡ true
    → one_stream (format_of fields) p a (piece fields bytes 0 ∷ [])
    ≡ record { answers = value (packet (length bytes) (collecting p)) ∷ []; progress = Done (length bytes); area = written a 0 bytes }
unfolding count_of piece piece_flag piece_bytes one_stream
in_one fields bytes a p e =
    ap (λ (s : Next). record { answers = s.answer ∷ []; progress = s.progress; area = s.area })
    (step_single (format_of fields) p a (piece fields bytes 0) bytes (rw e) (rw e))

single_answers : (n : ℕ) (broke : Bool) → answers_to 1 n broke ≡ value (packet n broke) ∷ []
unfolding answers_to
single_answers n broke = refl

-- ---- a whole packet

-- fed to a stream of any progress, the pieces leave the packet done at the head of the area, and the rest of the area as it was
pub fed_alone : (fields : Fields) (bytes a : List ℕ) (p : Progress) → length bytes ≤ 2048
    → one_stream (format_of fields) p a (pieces fields bytes)
    ≡ record { answers = answers_to (length (pieces fields bytes)) (length bytes) (collecting p); progress = Done (length bytes); area = written a 0 bytes }
fed_alone fields bytes a p small = go (leb (length bytes) 8) refl
  where
    go : (b : Bool) → leb (length bytes) 8 ≡ b → one_stream (format_of fields) p a (pieces fields bytes)
        ≡ record { answers = answers_to (length (pieces fields bytes)) (length bytes) (collecting p); progress = Done (length bytes); area = written a 0 bytes }
    go true e = rw (one_piece fields bytes e, single_answers) (in_one fields bytes a p e)
    go false e = rw (several_answers fields bytes a (leb-false _ _ e) small (collecting p)) (in_pieces fields bytes a (leb-false _ _ e) small p)
