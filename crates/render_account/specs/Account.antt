-- The account of a run: a line of text for each record that does something, and for each that is turned down. Assumes nothing.
use Rattle.std.specs.Prelude.{ℕ, ◌*◌, Bool, cond, List, [], ◌++◌, eqb, None, Option, Some}
use Rattle.config.specs.Config.{rounded_up, fade_step}
use Rattle.frame.specs.Lasting.{fade_count}
use Rattle.render_texts.specs.Texts.{words, decimal, things, time_text, seconds_text, tenths_text, milliseconds_of}
use Rattle.render_texts.specs.declared.Clock.{Clock}
use Rattle.hex_digits.specs.Hex.{byte_at, wide_at, long_at}
use Rattle.voice.specs.Voices.{audible}
use Rattle.mixer.specs.Mixers.{voice_read}
use Rattle.replay_box.specs.Boxes.{is_present, mixer_of}
use Rattle.replay_box.specs.declared.OpenBox.{OpenBox}
use Rattle.replay_fields.specs.Read.{tone_waveform, poly_blep_waveform}
use Rattle.voice.specs.declared.Voice.{Voice}
use Rattle.tone.specs.declared.Waveform.{Waveform}
use Rattle.tone.specs.declared.Waveform.TheVariants as W
use Rattle.polyblep.specs.declared.PolyBlepWaveform.{PolyBlepWaveform}
use Rattle.polyblep.specs.declared.PolyBlepWaveform.TheVariants as B

-- "Numbers that requests add" (document 02), in words
unfoldable pub added_text : ℕ → List ℕ
added_text n =
    cond (eqb n 12) (words "a rate below 20 Hz")
    (cond (eqb n 13) (words "the entries do not make a bank")
    (cond (eqb n 14) (words "the buffer is too short")
    (cond (eqb n 15) (words "its offset is past the end of the bank")
    (cond (eqb n 16) (words "it runs past the end of the bank")
    (cond (eqb n 17) (words "32 requests are waiting")
    (cond (eqb n 18) (words "its label is waiting already")
    (cond (eqb n 19) (words "no request is waiting under this label")
    (cond (eqb n 22) (words "the site is past what is counted")
    (words "a number without words")))))))))

-- document 01's numbers, in words
unfoldable pub why_text : ℕ → List ℕ
why_text n =
    cond (eqb n 1) (words "more than 16 voices")
    (cond (eqb n 2) (words "a rate above 65,537 Hz")
    (cond (eqb n 3) (words "a period below 2")
    (cond (eqb n 4) (words "the bank ends before what is asked of it")
    (cond (eqb n 5) (words "there is no voice for it")
    (cond (eqb n 6) (words "no bank is set")
    (cond (eqb n 7) (words "the bytes lent are not as many as the bank that was set")
    (cond (eqb n 8) (words "no entry has this id")
    (cond (eqb n 9) (words "an entry is of no known kind")
    (cond (eqb n 10) (words "the entry is of a kind that is not carried")
    (cond (eqb n 11) (words "a sum outside the limiter's range")
    (added_text n)))))))))))

-- the end of a line: nothing more where a call was accepted
unfoldable pub end_text : ℕ → List ℕ
end_text n = cond (eqb n 0) (words "\n") (words ": refused, " ++ decimal n ++ words ": " ++ why_text n ++ words "\n")

-- the number that an answer begins with, and the voice after it
abbrev pub number_in : List ℕ → ℕ
number_in answer = byte_at answer 0

abbrev pub voice_in : List ℕ → ℕ
voice_in answer = byte_at answer 1

-- so many things at a rate: opening, and setting a bank
unfoldable pub count_text : List ℕ → ℕ → List ℕ → ℕ → List ℕ → Clock → List ℕ
count_text head n name hz answer c =
    time_text c ++ head ++ things n name ++ words " at " ++ decimal hz ++ words " Hz" ++ end_text (number_in answer)

abbrev pub open_text : List ℕ → List ℕ → Clock → List ℕ
open_text l answer c = count_text (words "open ") (byte_at l 1) (words " voice") (long_at l 2) answer c

-- and one of the present rules
abbrev pub present_text : List ℕ → List ℕ → Clock → List ℕ
present_text l answer c = count_text (words "open a box of the present rules, ") (byte_at l 1) (words " voice") (long_at l 2) answer c

abbrev pub bank_text : List ℕ → List ℕ → Clock → List ℕ
bank_text l answer c = count_text (words "set a bank of ") (wide_at l 5) (words " sound") (long_at l 1) answer c

-- "Among voices of equal lowest priority the oldest goes": true for a box of the present rules
unfoldable pub from_text : Bool → ℕ → List ℕ
from_text present priority = cond present (words ", taken from the oldest at priority ") (words ", taken from priority ") ++ decimal priority

-- whose voice it was, where it was audible
abbrev pub taken_text : Bool → Option Voice → List ℕ
taken_text present None = []
taken_text present (Some v) = cond (audible v) (from_text present v.priority) []

-- the voice that a request got
unfoldable pub voice_text : OpenBox → ℕ → List ℕ
voice_text e voice = words ": voice " ++ decimal voice ++ taken_text (is_present e) (voice_read (mixer_of e) voice)

-- what came of a request
abbrev pub outcome_text : List ℕ → OpenBox → List ℕ
outcome_text answer e = cond (eqb (number_in answer) 0) (voice_text e (voice_in answer) ++ words "\n") (end_text (number_in answer))

unfoldable pub play_text : List ℕ → List ℕ → OpenBox → Clock → List ℕ
play_text l answer e c = time_text c ++ words "play " ++ decimal (wide_at l 1) ++ words " at priority " ++ decimal (byte_at l 10) ++ outcome_text answer e

-- when a fade that begins now will be over: its count of frames, in tenths of a millisecond, rounded up so that it is over by then; at rate 0 it
-- takes one frame, and there is no time
unfoldable pub over_text : ℕ → ℕ → List ℕ
over_text ms rate =
    cond (eqb rate 0) (words ": over in 1 frame") (words ": over in " ++ tenths_text (rounded_up (10_000 * fade_count (fade_step ms rate)) rate) ++ words " ms")

-- a fade, by the call that is asked for
abbrev pub fade_words : List ℕ
fade_words = words "fade to "

abbrev pub fade_on_words : List ℕ
fade_on_words = words "fade that sounds on to "

unfoldable pub fade_text : List ℕ → List ℕ → List ℕ → OpenBox → Clock → List ℕ
fade_text call l answer e c =
    time_text c ++ call ++ decimal (wide_at l 1) ++ words " over " ++ decimal (wide_at l 3) ++ words " ms"
    ++ cond (eqb (number_in answer) 0) (over_text (wide_at l 3) (mixer_of e).config.sample_rate_hz ++ words "\n") (end_text (number_in answer))

-- a tone of 0 ms never ends
unfoldable pub lasting_text : ℕ → List ℕ
lasting_text ms = cond (eqb ms 0) (words " without end") (words " for " ++ decimal ms ++ words " ms")

-- a box of no voices has none to sound a tone
abbrev pub voices_text : ℕ → List ℕ
voices_text n = cond (eqb n 0) (words ": there are no voices\n") (words "\n")

-- a frequency and how long
unfoldable pub sounding_text : List ℕ → OpenBox → List ℕ
sounding_text l e = decimal (long_at l 1) ++ words " Hz" ++ lasting_text (wide_at l 5) ++ voices_text (mixer_of e).n

abbrev pub tone_name : Waveform → List ℕ
tone_name W.Square = words "square"
tone_name W.Sine = words "sine"
tone_name W.Triangle = words "triangle"

unfoldable pub tone_text : List ℕ → OpenBox → Clock → List ℕ
tone_text l e c = time_text c ++ tone_name (tone_waveform (byte_at l 7)) ++ words " tone of " ++ sounding_text l e

abbrev pub polyblep_name : PolyBlepWaveform → List ℕ
polyblep_name B.Sine = words "sine"
polyblep_name B.Sawtooth = words "sawtooth"
polyblep_name B.Square = words "square"
polyblep_name B.Triangle = words "triangle"

unfoldable pub polyblep_text : List ℕ → OpenBox → Clock → List ℕ
polyblep_text l e c = time_text c ++ words "PolyBLEP " ++ polyblep_name (poly_blep_waveform (byte_at l 7)) ++ words " of " ++ sounding_text l e

unfoldable pub stop_text : Clock → List ℕ
stop_text c = time_text c ++ words "stop\n"

-- a question has a line where it is turned down
unfoldable pub ask_text : List ℕ → List ℕ → Clock → List ℕ
ask_text question answer c = cond (eqb (number_in answer) 0) [] (time_text c ++ question ++ end_text (number_in answer))

abbrev pub search_question : List ℕ → List ℕ
search_question l = words "search for " ++ decimal (wide_at l 1)

abbrev pub payload_question : List ℕ
payload_question = words "look a payload up"

abbrev pub voice_question : List ℕ → List ℕ
voice_question l = words "find a voice at priority " ++ decimal (byte_at l 1)

-- a record of the box that is open, as it was before it; frames, pans and gains have no line
unfoldable pub call_text : List ℕ → List ℕ → OpenBox → Clock → List ℕ
call_text l answer e c =
    let code = byte_at l 0 in
    cond (eqb code 0x11) (bank_text l answer c)
    (cond (eqb code 0x13) (play_text l answer e c)
    (cond (eqb code 0x14) (fade_text fade_words l answer e c)
    (cond (eqb code 0x15) (tone_text l e c)
    (cond (eqb code 0x16) (polyblep_text l e c)
    (cond (eqb code 0x19) (stop_text c)
    (cond (eqb code 0x1A) (ask_text (search_question l) answer c)
    (cond (eqb code 0x1B) (ask_text payload_question answer c)
    (cond (eqb code 0x1C) (ask_text (voice_question l) answer c)
    (cond (eqb code 0x73) (fade_text fade_on_words l answer e c)
    [])))))))))

abbrev pub held_text : List ℕ → List ℕ → Option OpenBox → Clock → List ℕ
held_text l answer None c = []
held_text l answer (Some e) c = call_text l answer e c

-- a line of the script, its answer, the box before it and the time
unfoldable pub line_text : List ℕ → List ℕ → Option OpenBox → Clock → List ℕ
line_text l answer held c =
    let code = byte_at l 0 in
    cond (eqb code 0x10) (open_text l answer c) (cond (eqb code 0x70) (present_text l answer c) (held_text l answer held c))

-- the account's last line; a frame has 4 bytes
unfoldable pub total_text : Clock → List ℕ
total_text c = seconds_text (milliseconds_of c) ++ words " of sound at " ++ decimal c.rate ++ words " Hz, " ++ decimal (4 * c.frames) ++ words " bytes of samples\n"
