use Rattle.master.proofs.Claims.{new_is_sound, stays_sound, refused_keeps, refused_play_no_part, unanswered, latest_send, late_reply}
use Rattle.master.proofs.Replies.{answered, functions, buses_kept}
use Rattle.master.proofs.Answers.{one_answer}
use Rattle.master.proofs.Examples.{examples}
use Rattle.master.proofs.promised.Goals as goal

pub returns-clause-new_is_sound : goal.returns-clause-new_is_sound
returns-clause-new_is_sound c = new_is_sound

pub returns-clause-stays_sound : goal.returns-clause-stays_sound
returns-clause-stays_sound c = stays_sound

pub returns-clause-refused_keeps : goal.returns-clause-refused_keeps
returns-clause-refused_keeps c = refused_keeps

pub returns-clause-refused_play_no_part : goal.returns-clause-refused_play_no_part
returns-clause-refused_play_no_part c = refused_play_no_part

pub returns-clause-unanswered : goal.returns-clause-unanswered
returns-clause-unanswered c = unanswered

pub returns-clause-answered : goal.returns-clause-answered
returns-clause-answered c = answered

pub returns-clause-functions : goal.returns-clause-functions
returns-clause-functions c = functions

pub returns-clause-buses_kept : goal.returns-clause-buses_kept
returns-clause-buses_kept c = buses_kept

pub returns-clause-latest_send : goal.returns-clause-latest_send
returns-clause-latest_send c = latest_send

pub returns-clause-late_reply : goal.returns-clause-late_reply
returns-clause-late_reply c = late_reply

pub returns-clause-one_answer : goal.returns-clause-one_answer
returns-clause-one_answer c = one_answer

pub returns-clause-examples : goal.returns-clause-examples
returns-clause-examples c = examples
