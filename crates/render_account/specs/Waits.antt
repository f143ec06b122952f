-- The account of requests that wait (document 02, T-08): each that is left or withdrawn, and how many left the line in the frames of a record. Assumes nothing.
use Rattle.std.specs.Prelude.{ℕ, ◌+◌, ◌-◌, ◌*◌, cond, List, [], ◌++◌, eqb, leb, length, None, Option, Some}
use Rattle.error.specs.Numbers.{number_of}
use Rattle.hex_digits.specs.Hex.{byte_at, wide_at}
use Rattle.render_texts.specs.Texts.{words, decimal, things, time_text}
use Rattle.render_texts.specs.declared.Clock.{Clock}
use Rattle.replay_box.specs.Boxes.{waiting_in, kept_in}
use Rattle.replay_box.specs.declared.OpenBox.{OpenBox}
use Rattle.render_account.specs.Account.{why_text, end_text, number_in}
use Rattle.error.specs.declared.AudioError.{AudioError}

unfoldable pub leave_text : List ℕ → List ℕ → Clock → List ℕ
leave_text l answer c =
    time_text c ++ words "leave " ++ decimal (wide_at l 4) ++ words " at priority " ++ decimal (byte_at l 13) ++ words " under label " ++ decimal (wide_at l 1)
    ++ end_text (number_in answer)

unfoldable pub withdraw_text : List ℕ → List ℕ → Clock → List ℕ
withdraw_text l answer c = time_text c ++ words "withdraw label " ++ decimal (wide_at l 1) ++ end_text (number_in answer)

-- "the latest such refusal is kept for reading with its label": 0 and 0 where there is none
abbrev pub kept_number : Option (AudioError × ℕ) → ℕ
kept_number None = 0
kept_number (Some (error, label)) = number_of error

abbrev pub kept_label : Option (AudioError × ℕ) → ℕ
kept_label None = 0
kept_label (Some (error, label)) = label

-- both as one number
abbrev pub kept_key : Option (AudioError × ℕ) → ℕ
kept_key k = 65536 * kept_number k + kept_label k

-- the one that was dropped last, where it is another than before
unfoldable pub dropped_text : Option (AudioError × ℕ) → Option (AudioError × ℕ) → List ℕ
dropped_text before after =
    cond (eqb (kept_key before) (kept_key after)) (words "\n")
    (words ", the last dropped: label " ++ decimal (kept_label after) ++ words ", " ++ decimal (kept_number after) ++ words ": " ++ why_text (kept_number after) ++ words "\n")

abbrev pub waiting_count : OpenBox → ℕ
waiting_count b = length (waiting_in b)

-- how many left the line in the frames of a record: the box before it and after it
unfoldable pub moved_text : OpenBox → OpenBox → Clock → List ℕ
moved_text before after c =
    let n = waiting_count before in
    let m = waiting_count after in
    cond (leb n m) []
    (time_text c ++ things (n - m) (words " request") ++ words " out of the line, " ++ decimal m ++ words " waiting" ++ dropped_text (kept_in before) (kept_in after))

unfoldable pub wait_text : List ℕ → List ℕ → Clock → List ℕ
wait_text l answer c =
    let code = byte_at l 0 in
    cond (eqb code 0x74) (leave_text l answer c) (cond (eqb code 0x75) (withdraw_text l answer c) [])
