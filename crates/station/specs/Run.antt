-- Document 01, "Streams and receiving", the paragraph on runs: a run, and a stream's frames in it. The one-stream receiver, which the
-- paragraph after it defines, stands in crate `stream` (OneStream).
use Rattle.std.specs.Prelude.{ℕ, cond, List, [], ◌∷◌}
use Rattle.format.specs.declared.Format.{Format}
use Rattle.format.specs.Refusals.{Result, value, refused}
use Rattle.frame.specs.Judge.{Frame, Judged}
use Rattle.stream.specs.Answers.{Reply}
use Rattle.slot.specs.declared.Key.{Key}
use Rattle.slot.specs.Slots.{same_key}
use Rattle.station.specs.declared.Station.{Station}
use Rattle.station.specs.Receive.{After, key_of, examined, receive}

-- "a run is a list of receiving calls [..], each a bus number and an image given beforehand"
pub record Call : Type 0 where
  pub bus : ℕ
  pub image : List ℕ

pub record Ran : Type 0 where
  pub answers : List (Result Reply)
  pub station : Station
  pub store : List ℕ

-- a front: what a receiving call on a station and a store gives for a bus and an image
abbrev pub Front : Type 0
Front = Station → List ℕ → (bus : ℕ) → List ℕ → After

-- a run on a front: "each call gets the station that the last handed back and the store as it left it"
unfoldable pub run_on : Front → Station → List ℕ → List Call → Ran
run_on front station store [] = record { answers = []; station = station; store = store }
run_on front station store (call ∷ calls) =
    let first : After = front station store call.bus call.image in
    let rest : Ran = run_on front first.station first.store calls in
    record { answers = first.answer ∷ rest.answers; station = rest.station; store = rest.store }

-- "on the first front"
abbrev pub run : Station → List ℕ → List Call → Ran
run station store calls = run_on receive station store calls

-- "Its frames are the images received on its key's bus, with its key's fields, that 1 to 5 and 9 don't refuse", nor 25 (document
-- 02, L4: "Demand 3 and the listing treat 25 as 4"): x is added in front of xs if the examined image is a frame of the key
unfoldable pub add_if_of : {A : Type 0} → Key → (bus : ℕ) → Result Judged → (Frame → A) → List A → List A
add_if_of key bus (refused n) x xs = xs
add_if_of key bus (value judged) x xs = cond (same_key key (key_of bus judged.frame)) (x judged.frame ∷ xs) xs

unfoldable pub frames_of : Format → Key → List Call → List Frame
frames_of format key [] = []
frames_of format key (call ∷ calls) =
    add_if_of key call.bus (examined format call.bus call.image) (λ frame. frame) (frames_of format key calls)

-- the answers at its frames, of the answers given in a run
unfoldable pub answers_of : Format → Key → List Call → List (Result Reply) → List (Result Reply)
answers_of format key [] answers = []
answers_of format key (call ∷ calls) [] = []
answers_of format key (call ∷ calls) (answer ∷ answers) =
    add_if_of key call.bus (examined format call.bus call.image) (λ frame. answer) (answers_of format key calls answers)
