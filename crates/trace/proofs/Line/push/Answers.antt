-- `trace::Line::push`, line by line: what each push appends, one behind the other.
use Rattle.std.proofs.Common.{append_assoc}
use Rattle.trace.specs.Lines.{line_text, header_line, frame_line, refused_line, stopped_line, count_line}
use Rattle.trace.proofs.Line.push.Goals.{in-Header, in-Frame, in-Refused, in-Stopped, in-Records}
use Rattle.trace.proofs.Line.push.Goals as goal

pub returns : goal.returns
unfolding line_text header_line frame_line refused_line stopped_line count_line
returns c =
    elim c.match-self.branch [
      | in-Header w ↦ rw (c.push_byte.ensures, w.text-is, w.push_str.ensures, c.requires, w.in-Header.is)
      | in-Frame w ↦ rw (c.push_byte.ensures, w.text-is, w.push_answer.ensures, w.push_columns.ensures.pushed, w.push_start.ensures, c.requires, w.in-Frame.is) (simp append_assoc)
      | in-Refused w ↦ rw (c.push_byte.ensures, w.text-is, w.push_refusal.ensures, w.push_start-in-Refused.ensures, c.requires, w.in-Refused.is) (simp append_assoc)
      | in-Stopped w ↦ rw (c.push_byte.ensures, w.text-is, w.push_str-in-Stopped.ensures, w.push_number.ensures, c.requires, w.in-Stopped.is)
      | in-Records w ↦ rw (c.push_byte.ensures, w.text-is, w.push_field.ensures, w.push_str-in-Records.ensures, c.requires, w.in-Records.is)
    ]
