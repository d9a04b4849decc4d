-- `trace::promised`: each claim with its proof, in the order of the contract.
use Rattle.trace.proofs.LineRoom.{room_for_line}
use Rattle.trace.proofs.Decimals.{in_decimals}
use Rattle.trace.proofs.Arriving.{arriving, sized, one_entry}
use Rattle.trace.proofs.Bounds.{record_bounds, line_texts, lines_refused}
use Rattle.trace.proofs.promised.Goals as goal

pub returns-clause-room_for_line : goal.returns-clause-room_for_line
returns-clause-room_for_line c = room_for_line

pub returns-clause-decimal : goal.returns-clause-decimal
returns-clause-decimal c = in_decimals

pub returns-clause-arriving : goal.returns-clause-arriving
returns-clause-arriving c = arriving

pub returns-clause-sized : goal.returns-clause-sized
returns-clause-sized c = sized

pub returns-clause-one_entry : goal.returns-clause-one_entry
returns-clause-one_entry c = one_entry

pub returns-clause-record_bounds : goal.returns-clause-record_bounds
returns-clause-record_bounds c = record_bounds

pub returns-clause-line_texts : goal.returns-clause-line_texts
returns-clause-line_texts c = line_texts

pub returns-clause-lines_refused : goal.returns-clause-lines_refused
returns-clause-lines_refused c = lines_refused
