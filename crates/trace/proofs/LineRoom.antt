-- No line has more than 96 bytes.
use Prim.Native.Nat.{ℕ, ◌≤◌}
use mathlib.Core.Path.{◌≡◌}
use mathlib.Core.Bool.{true}
use native.Mathlib.Omega.{arith}
use lib.ListN.{length, length-append}
use borrow.Author.Tests.{leb-true}
use Rattle.format.specs.declared.Fields.{Fields}
use Rattle.format.specs.declared.Fields.TheVariants.{Extended, Standard}
use Rattle.format.specs.declared.Flag.{Flag}
use Rattle.format.specs.Formats.{in_range, flag_bits}
use Rattle.format.specs.Refusals.{Result, number}
use Rattle.format.proofs.Tests.{each}
use Rattle.frame.proofs.Flags.{bits_small}
use Rattle.stream.specs.Answers.{Reply, meaning}
use Rattle.trace.specs.declared.Line.TheVariants as line
use Rattle.trace.specs.Lines.{fields_text, columns, header_line, frame_line, refused_line, stopped_line, count_line, line_text, extended_in_range, line_in_range}
use Rattle.trace.specs.Claims.{RoomForLine}
use Rattle.trace.proofs.Texts.{decimal_length, field_short, field_byte, answer_short, bus_short}

-- the eight fields
columns_short : (id : Fields) (flag : Flag) (n count : ℕ) → extended_in_range id ≡ true → n ≤ 63 → count ≤ 8
    → length (fields_text (columns id (flag_bits flag) n count)) ≤ 32
unfolding fields_text in_range
columns_short (Extended p s g d f) flag n count r hn hc =
    let t = each _ r in
    let p4 = field_byte p (omega (arith, leb-true p 3 t.0)) in
    let s4 = field_byte s (omega (arith, leb-true s 63 t.1.0)) in
    let g4 = field_byte g (omega (arith, leb-true g 3 t.1.1.0)) in
    let d4 = field_byte d (omega (arith, leb-true d 63 t.1.1.1.0)) in
    let f4 = field_byte f (omega (arith, leb-true f 31 t.1.1.1.1.0)) in
    let b4 = field_byte (flag_bits flag) (omega (arith, bits_small flag)) in
    let n4 = field_byte n (omega arith) in
    let c4 = field_byte count (omega arith) in
    simp length-append (omega arith)
columns_short (Standard p a s) flag n count r hn hc = omega arith

frame_short : (r bus : ℕ) (id : Fields) (flag : Flag) (n count : ℕ) (answer : Result Reply) → extended_in_range id ≡ true → n ≤ 63 → count ≤ 8
    → length (frame_line r bus id flag n count answer) ≤ 96
unfolding frame_line
frame_short r bus id flag n count answer l hn hc =
    let c = columns_short id flag n count l hn hc in
    let b = bus_short bus in
    simp length-append (omega (arith, decimal_length r, answer_short answer))

pub room_for_line : RoomForLine
unfolding RoomForLine line_text line_in_range header_line refused_line stopped_line count_line
room_for_line line.Header h = omega arith
room_for_line (line.Frame r bus id flag n count answer) h =
    let t = each _ h in
    frame_short r bus id flag n count (meaning answer) t.1.0 (leb-true n 63 t.1.1.0) (leb-true count 8 t.1.1.1.0)
room_for_line (line.Refused r bus name) h =
    let b = bus_short bus in
    simp length-append (omega (arith, decimal_length r, field_short (number name)))
room_for_line (line.Stopped r) h = simp length-append (omega (arith, decimal_length r))
room_for_line (line.Records n) h = simp length-append (omega (arith, field_short n))
