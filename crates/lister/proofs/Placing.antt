-- A line written at a place of the output that has room for any line.
use Rattle.std.proofs.Common.{◌≡◌, ℕ, ◌+◌, ◌-◌, ◌≤◌, true, List, [], ◌++◌, length, take, drop, sym, refl, ap, ◌∙◌, subst, append_assoc, append-nil, arith, length-append, length-drop, drop_of_length-le, length-take, length-take-le, take_all, drop-drop, take_at, drop_at}
use borrow.Rule.Slice.PartMut.{put_mid}
use Rattle.copying.specs.Copy.{written}
use Rattle.copying.proofs.Copying.{written_length}
use Rattle.format.specs.declared.Refusal.TheVariants.{Field}
use Rattle.format.specs.Refusals.{Result, value, refused}
use Rattle.format.proofs.Checks.{pass_then, none_left_then}
use Rattle.format.proofs.Outputs.{has_room}
use Rattle.format.specs.Outputs.{answer, output_after}
use Rattle.trace.specs.declared.Line.{Line}
use Rattle.trace.specs.Lines.{line_text, line_in_range, writing}
use Rattle.trace.specs.Claims.{RoomForLine}
use Rattle.trace.proofs.LineRoom.{room_for_line}
use Rattle.lister.specs.Parts.{Adds}

-- a text written over an output from a place on
adds : (text output : List ℕ) (at : ℕ) → at + length text ≤ length output → Adds text output at (at + length text) (written output at text)
unfolding written
adds text output at h =
    let n : length (take at output ++ text) ≡ at + length text = rw (length-append, length-take-le at output (omega arith)) in
    record {
      place = refl;
      head = rw (← append_assoc (take at output) text) (take_at (take at output ++ text) _ (at + length text) n);
      tail = rw (← append_assoc (take at output) text) (drop_at (take at output ++ text) _ (at + length text) n);
      size = written_length output at text h;
    }

module _ (line : Line) (output : List ℕ) (at : ℕ) (ok : line_in_range line ≡ true) (h : at + 96 ≤ length output) where
  abbrev part : List ℕ
  part = take (length output - at) (drop at output)

  short : length (line_text line) ≤ 96
  unfolding RoomForLine
  short = room_for_line line ok

  part_is : part ≡ drop at output
  part_is = take_all (length output - at) (drop at output) (omega (arith, length-drop at output))

  size : length part ≡ length output - at
  size = ap length part_is ∙ length-drop at output

  fits : writing line (length part) ≡ value (line_text line)
  unfolding writing
  fits =
      let room = has_room (line_text line) part (length (line_text line)) refl (omega (arith, size, short)) in
      sym (pass_then Field _ _ ok (room ∙ none_left_then _))

  pub never_refused : (n : ℕ) → refused n ≡ answer (writing line (length part)) → ⊥
  never_refused n e =
      let q : ◌≡◌ {A = Result ℕ} (refused n) (value (length (line_text line))) = e ∙ ap answer fits in
      let z : ◌≡◌ {A = ℕ} 0 1 = cc in
      omega arith

  pub length_is : (n : ℕ) → value n ≡ answer (writing line (length part)) → n ≡ length (line_text line)
  length_is n e = let q : ◌≡◌ {A = Result ℕ} (value n) (value (length (line_text line))) = e ∙ ap answer fits in cc

  whole_is : put_mid at (length output - at) output (line_text line ++ drop (length (line_text line)) part) ≡ written output at (line_text line)
  unfolding written
  whole_is =
      let none : drop (length output - at) (drop at output) ≡ [] = drop_of_length-le (drop at output) {i = length output - at} (omega (arith, length-drop at output)) in
      rw (none, append-nil, part_is, drop-drop)

  pub line_added : (n : ℕ) (last : List ℕ) → value n ≡ answer (writing line (length part)) → last ≡ output_after (writing line (length part)) part
      → Adds (line_text line) output at (at + n) (put_mid at (length output - at) output last)
  line_added n last e el =
      rw (length_is n e, el, fits, whole_is) (adds (line_text line) output at (omega (arith, short)))

-- one text after the other
pub adds_then : {a b output mid last : List ℕ} {at m r : ℕ} → Adds a output at m mid → Adds b mid m r last → Adds (a ++ b) output at r last
adds_then {a} {b} {output} {mid} {last} {at} {m} {r} p q =
    record {
      place = rw (q.place, p.place, length-append) (omega arith);
      head = q.head ∙ ap (λ (l : List ℕ). l ++ b) p.head ∙ append_assoc (take at output) a b;
      tail = q.tail ∙ further;
      size = q.size ∙ p.size;
    }
  where
    further : drop r mid ≡ drop r output
    further = rw (q.place, ← drop-drop (length b) m mid, p.tail) (drop-drop (length b) m output)

-- the same text, named otherwise
pub adds_as : {a b output last : List ℕ} {at r : ℕ} → Adds a output at r last → a ≡ b → Adds b output at r last
adds_as {a} {b} {output} {last} {at} {r} p e = subst (λ (x : List ℕ). Adds x output at r last) e p

-- a whole text: where it ends, and that it stands in the buffer
module _ {bytes text last : List ℕ} {r : ℕ} (p : Adds bytes text 0 r last) where
  pub all_of : take r last ≡ bytes
  all_of = p.head

  pub size_of : r ≡ length bytes
  size_of = omega (arith, p.place)

  pub within : r ≤ length last
  within = omega (arith, size_of, ap length all_of, length-take r last)
