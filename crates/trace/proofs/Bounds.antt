-- The tables at the bounds, computed.
use mathlib.Core.Path.{refl}
use Rattle.format.specs.Tests.{all_true, all_after}
use Rattle.format.specs.Formats.{in_range}
use Rattle.format.specs.Refusals.{guarded, checked_then}
use Rattle.format.specs.Outputs.{fitting}
use Rattle.trace.specs.Records.{found_by, record_at}
use Rattle.trace.specs.Lines.{digits, decimal, field_text, fields_text, header_line, frame_line, refused_line, stopped_line, count_line, line_text, line_in_range, writing}
use Rattle.trace.specs.Bounds.{results, expected, RecordBounds, LineTexts, LinesRefused}

pub record_bounds : RecordBounds
unfolding RecordBounds results expected record_at found_by
record_bounds = refl

pub line_texts : LineTexts
unfolding LineTexts results expected line_text header_line frame_line refused_line stopped_line count_line field_text fields_text decimal digits
line_texts = refl

pub lines_refused : LinesRefused
unfolding LinesRefused results expected line_in_range in_range all_true all_after writing checked_then fitting guarded line_text refused_line count_line field_text decimal digits
lines_refused = (refl, refl, refl)
