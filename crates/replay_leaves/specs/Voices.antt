-- A voice alone (61): how it starts, its frames, and the fields of its state. Assumes nothing.
use Rattle.std.specs.Prelude.{ℕ, cond, List, ◌++◌, leb, eqb, None, Option, Some, ℤ}
use Rattle.std.specs.Int.{w8}
use Rattle.std.proofs.Common.{of_z}
use Rattle.error.specs.Numbers.{number_of}
use Rattle.error.specs.declared.AudioError.TheVariants as E
use Rattle.fixed.specs.declared.Step.{Step}
use Rattle.voice.specs.Voices.{silent_voice, sounding, with_gain, with_pan, triggered_voice, released_voice, audible, ticked_voice, stepped_voice, stereo_step}
use Rattle.voice.specs.declared.Voice.{Voice}
use Rattle.hex_digits.specs.Hex.{byte_at, three_at, long_at, hex_of, newline}
use Rattle.replay_fields.specs.Read.{spec_at}
use Rattle.replay_leaves.specs.Runs.{stepped, texts, number_line}
use Rattle.replay_fields.specs.States.{flag_number, voice_fields}
use Rattle.replay_leaves.specs.Sounds.{source_at, printed_at, given_number}

-- "starts a silent voice with that source, gain and pan, and triggers the envelope"
unfoldable pub voice_at : List ℕ → Voice
voice_at l =
    let silent = silent_voice (long_at l 9) in
    let started = sounding silent (source_at l) silent.adsr in
    triggered_voice (with_pan (with_gain started (byte_at l 20)) (byte_at l 21)) (spec_at l 13)

-- "A frame ticks the envelope and requests a sample"
abbrev pub mono_frame : Step Voice (Option ℤ) → Step Voice (Option ℤ)
mono_frame s = stepped_voice (ticked_voice s.voice)

abbrev pub stereo_frame : Step Voice (Option (ℤ × ℤ)) → Step Voice (Option (ℤ × ℤ))
stereo_frame s = stereo_step (ticked_voice s.voice)

-- a frame that is not printed, "in mono": what it leaves of the voice
abbrev pub passed_frame : Voice → Voice
passed_frame v = (stepped_voice (ticked_voice v)).voice

-- before the first printed frame
abbrev pub no_frame : Voice → Step Voice (Option ℤ)
no_frame v = record { voice = v; given = None }

abbrev pub no_pair : Voice → Step Voice (Option (ℤ × ℤ))
no_pair v = record { voice = v; given = None }

-- "The release, if any, stands between the frames not printed and those printed"
abbrev pub let_go_if : ℕ → Voice → Voice
let_go_if release v = cond (eqb release 1) (released_voice v) v

unfoldable pub held_at : List ℕ → Voice
held_at l = let_go_if (byte_at l 26) (stepped passed_frame (three_at l 23) (voice_at l))

-- "each printed frame as 00 and the sample, in stereo left and right, or 0100 (010000) where none is given"
abbrev pub frame_text : Step Voice (Option ℤ) → List ℕ
frame_text s = hex_of 4 (given_number s.given)

abbrev pub left_number : Option (ℤ × ℤ) → ℕ
left_number (Some (left, right)) = of_z w8 left
left_number None = 0x100

abbrev pub right_number : Option (ℤ × ℤ) → ℕ
right_number (Some (left, right)) = of_z w8 right
right_number None = 0

abbrev pub pair_of : Option (ℤ × ℤ) → List ℕ
pair_of g = hex_of 4 (left_number g) ++ hex_of 2 (right_number g)

abbrev pub pair_text : Step Voice (Option (ℤ × ℤ)) → List ℕ
pair_text s = pair_of s.given

-- n printed frames of v and the voice after them, in stereo where it is 1
abbrev pub frames_text : ℕ → ℕ → Voice → List ℕ
frames_text stereo n v = cond (eqb stereo 1) (texts stereo_frame pair_text n (no_pair v)) (texts mono_frame frame_text n (no_frame v))

abbrev pub frames_last : ℕ → ℕ → Voice → Voice
frames_last stereo n v = cond (eqb stereo 1) (stepped stereo_frame n (no_pair v)).voice (stepped mono_frame n (no_frame v)).voice

-- the printed frames, the state they leave, "whether it is audible (2 digits)"
abbrev pub voice_run : List ℕ → List ℕ
voice_run l =
    let last = frames_last (byte_at l 22) (printed_at l 27) (held_at l) in
    number_line 0
    ++ frames_text (byte_at l 22) (printed_at l 27) (held_at l)
    ++ voice_fields last
    ++ hex_of 2 (flag_number (audible last))
    ++ newline

-- 61, voice alone: "number; if 00, a second line"
unfoldable pub voice_text : List ℕ → List ℕ
voice_text l = cond (leb (long_at l 9) 65537) (voice_run l) (number_line (number_of E.BadRate))
