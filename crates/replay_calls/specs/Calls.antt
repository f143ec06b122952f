-- The records 11, 13 to 1D, 2B, 2C, 30, 62 to 69, 73, 79 and 7A: the length and the fields that each allows, the call that it makes, and the reply. Fields count
-- from byte 1 on. Assumes nothing.
use Rattle.std.specs.Prelude.{ℕ, ◌+◌, ◌*◌, Bool, cond, ◌&&◌, List, leb, eqb, length, ℤ, None, Option, Result, Some}
use Rattle.std.specs.Int.{w8, w16}
use Rattle.std.proofs.Common.{of_z}
use Rattle.error.specs.Told.{told, Told, value, refused, number_in}
use Rattle.bank.specs.Search.{found_given}
use Rattle.bank.specs.declared.EffectEntry.{EffectEntry}
use Rattle.mixer.specs.Mixers as M
use Rattle.frame.specs.Lasting.{frames_left}
use Rattle.sounder.specs.Calls as C
use Rattle.sounder.specs.Sounders.{request_of}
use Rattle.replay_box.specs.Boxes.{Gave, mixer_of, place_in, banked, played, faded, sounder_gave, toned, poly_bleped, panned, with_master_gain, stopped}
use Rattle.replay_box.specs.Frames.{sampled, dutied, sided, wide_sided}
use Rattle.replay_box.specs.declared.OpenBox.{OpenBox}
use Rattle.replay_box.specs.declared.OpenBox.TheVariants.{Engine, Sounder}
use Rattle.hex_digits.specs.Hex.{byte_at, wide_at, long_at}
use Rattle.replay_fields.specs.Read.{spec_at, tone_waveform, poly_blep_waveform}
use Rattle.replay_fields.specs.States.{flag_number}
use Rattle.replay_calls.specs.declared.Record.{Record}
use Rattle.replay_calls.specs.declared.Record.TheVariants as K
use Rattle.replay_calls.specs.declared.Reply.{Reply}
use Rattle.replay_calls.specs.declared.Reply.TheVariants as R
use Rattle.error.specs.declared.AudioError.{AudioError}

-- the record of a code
unfoldable pub record_of : ℕ → Option Record
record_of code =
    cond (eqb code 0x11) (Some K.Bank)
    (cond (eqb code 0x13) (Some K.Play)
    (cond (eqb code 0x14) (Some K.Fade)
    (cond (eqb code 0x15) (Some K.Tone)
    (cond (eqb code 0x16) (Some K.PolyBlep)
    (cond (eqb code 0x17) (Some K.Pan)
    (cond (eqb code 0x18) (Some K.Gain)
    (cond (eqb code 0x19) (Some K.Stop)
    (cond (eqb code 0x1A) (Some K.Search)
    (cond (eqb code 0x1B) (Some K.Payload)
    (cond (eqb code 0x1C) (Some K.Allocate)
    (cond (eqb code 0x1D) (Some K.Audible)
    (cond (eqb code 0x2B) (Some K.Stereo)
    (cond (eqb code 0x2C) (Some K.Duty)
    (cond (eqb code 0x30) (Some K.Dump)
    (cond (eqb code 0x62) (Some K.PlainPlay)
    (cond (eqb code 0x63) (Some K.PanRead)
    (cond (eqb code 0x64) (Some K.Policy)
    (cond (eqb code 0x65) (Some K.Configuration)
    (cond (eqb code 0x66) (Some K.Sample)
    (cond (eqb code 0x67) (Some K.Pwm)
    (cond (eqb code 0x68) (Some K.WideStereo)
    (cond (eqb code 0x69) (Some K.Voice)
    (cond (eqb code 0x73) (Some K.FadeOn)
    (cond (eqb code 0x79) (Some K.FadeLeft)
    (cond (eqb code 0x7A) (Some K.Ranks) None)))))))))))))))))))))))))

-- a line of so many bytes after its code
abbrev pub sized_as : ℕ → List ℕ → Bool
sized_as bytes l = eqb (length l) (2 + 2 * bytes)

-- "A line with another code, length .. or with a field that the record does not allow, prints FFFF". "Tone waveforms: 0 square, 1
-- sine, 2 triangle. PolyBLEP waveforms: 0 sine, 1 sawtooth, 2 square, 3 triangle."
unfoldable pub allowed : Record → List ℕ → Bool
allowed K.Bank l = sized_as 6 l
allowed K.Play l = sized_as 10 l
allowed K.Fade l = sized_as 11 l
allowed K.Tone l = sized_as 7 l && leb (byte_at l 7) 2
allowed K.PolyBlep l = sized_as 7 l && leb (byte_at l 7) 3
allowed K.Pan l = sized_as 2 l
allowed K.Gain l = sized_as 1 l
allowed K.Stop l = sized_as 0 l
allowed K.Search l = sized_as 2 l
allowed K.Payload l = sized_as 6 l
allowed K.Allocate l = sized_as 1 l
allowed K.Audible l = sized_as 0 l
allowed K.Stereo l = sized_as 0 l
allowed K.Duty l = sized_as 0 l
allowed K.Dump l = sized_as 0 l
allowed K.PlainPlay l = sized_as 9 l
allowed K.PanRead l = sized_as 1 l
allowed K.Policy l = sized_as 0 l
allowed K.Configuration l = sized_as 0 l
allowed K.Sample l = sized_as 0 l
allowed K.Pwm l = sized_as 0 l
allowed K.WideStereo l = sized_as 0 l
allowed K.Voice l = sized_as 1 l
allowed K.FadeOn l = sized_as 11 l
allowed K.FadeLeft l = sized_as 0 l
allowed K.Ranks l = sized_as 0 l

-- a call's reply, by what it gave
abbrev pub replied : {A : Type 0} → (A → Reply) → Gave A → Gave Reply
replied reply c = record { held = c.held; gave = reply c.gave }

-- a call that prints nothing, and one that changes nothing
abbrev pub silent_call : OpenBox → Gave Reply
silent_call e = record { held = e; gave = R.Nothing }

abbrev pub asked : Reply → OpenBox → Gave Reply
asked r e = record { held = e; gave = r }

-- "number: two digits, 00 where accepted, else the refusal number"
abbrev pub outcome_reply : Result (Unit {0}) AudioError → Reply
outcome_reply o = R.Number (number_in (told o))

-- "voice: two digits, FF where refused"
abbrev pub place_reply : Told ℕ → Reply
place_reply (value i) = R.Two 0 i
place_reply (refused n) = R.Two n 0xFF

abbrev pub play_reply : Result ℕ AudioError → Reply
play_reply o = place_reply (told o)

-- 11, set bank: "rate (4), count (2); its bytes are the ones lent | number"
unfoldable pub bank_call : List ℕ → List ℕ → OpenBox → Gave Reply
bank_call l bytes e = replied outcome_reply (banked e (long_at l 1) (wide_at l 5) (length bytes))

-- 13, play: "id (2), E, priority (1) | number, voice"
unfoldable pub play_call : List ℕ → List ℕ → OpenBox → Gave Reply
play_call l bytes e = replied play_reply (played e bytes (request_of (wide_at l 1) (spec_at l 3) (byte_at l 10)))

-- 14, fade: "id (2), ms (2), E | number"
unfoldable pub fade_call : List ℕ → List ℕ → OpenBox → Gave Reply
fade_call l bytes e = replied outcome_reply (faded e bytes (wide_at l 1) (wide_at l 3) (spec_at l 5))

-- 15, tone: "Hz (4), ms (2), waveform (1) | nothing"
unfoldable pub tone_call : List ℕ → OpenBox → Gave Reply
tone_call l e = silent_call (toned e (long_at l 1) (wide_at l 5) (tone_waveform (byte_at l 7)))

-- 16, PolyBLEP: "Hz (4), ms (2), waveform (1) | nothing"
unfoldable pub poly_blep_call : List ℕ → OpenBox → Gave Reply
poly_blep_call l e = silent_call (poly_bleped e (long_at l 1) (wide_at l 5) (poly_blep_waveform (byte_at l 7)))

-- 17, pan: "voice (1), pan (1) | nothing"
unfoldable pub pan_call : List ℕ → OpenBox → Gave Reply
pan_call l e = silent_call (panned e (byte_at l 1) (byte_at l 2))

-- 18, master gain: "gain (1) | nothing"
unfoldable pub gain_call : List ℕ → OpenBox → Gave Reply
gain_call l e = silent_call (with_master_gain e (byte_at l 1))

-- 19, stop all: "nothing"
unfoldable pub stop_call : OpenBox → Gave Reply
stop_call e = silent_call (stopped e)

-- 1A, entry search: "id (2) | number; if 00 also .." the entry
abbrev pub entry_reply : Told EffectEntry → Reply
entry_reply (value entry) = R.Entry entry
entry_reply (refused n) = R.Number n

unfoldable pub search_reply : List ℕ → List ℕ → OpenBox → Reply
search_reply l bytes e = entry_reply (found_given (mixer_of e).bank bytes (wide_at l 1))

-- 1C, allocate: "priority (1) | number (5 where there is none), voice"
unfoldable pub allocate_reply : List ℕ → OpenBox → Reply
allocate_reply l e = place_reply (place_in e (byte_at l 1))

-- 1D, is playing, audible count: "two numbers of 2 digits"
unfoldable pub audible_reply : OpenBox → Reply
audible_reply e = R.Two (flag_number (M.playing (mixer_of e))) (M.audible_count (mixer_of e))

-- 2B, one stereo frame, i8: "left, right (2 digits each)"
abbrev pub sides_reply : ℤ × ℤ → Reply
sides_reply s = R.Two (of_z w8 s.0) (of_z w8 s.1)

unfoldable pub stereo_call : List ℕ → OpenBox → Gave Reply
stereo_call bytes e = replied sides_reply (sided bytes e)

-- 2C, one duty: "4 digits"
abbrev pub width_reply : ℕ → Reply
width_reply duty = R.Wide duty

unfoldable pub duty_call : List ℕ → OpenBox → Gave Reply
duty_call bytes e = replied width_reply (dutied bytes e)

-- 62, play: "id (2), E | number, voice", at the priority of a play request that names none
unfoldable pub plain_play_call : List ℕ → List ℕ → OpenBox → Gave Reply
plain_play_call l bytes e = replied play_reply (played e bytes (request_of (wide_at l 1) (spec_at l 3) 128))

-- 63, pan of a voice: "voice (1) | 01 and the pan, or 00 where there is no such voice"
abbrev pub pan_reply : Option ℕ → Reply
pan_reply (Some pan) = R.Two 1 pan
pan_reply None = R.Number 0

unfoldable pub pan_read_reply : List ℕ → OpenBox → Reply
pan_read_reply l e = pan_reply (M.pan_read (mixer_of e) (byte_at l 1))

-- 66, one PCM sample: "2 digits"
abbrev pub pcm_reply : ℤ → Reply
pcm_reply pcm = R.Number (of_z w8 pcm)

unfoldable pub sample_call : List ℕ → OpenBox → Gave Reply
sample_call bytes e = replied pcm_reply (sampled bytes e)

-- 68, one stereo frame, i16: "left, right (4 digits each)"
abbrev pub wide_sides_reply : ℤ × ℤ → Reply
wide_sides_reply s = R.WideTwo (of_z w16 s.0) (of_z w16 s.1)

unfoldable pub wide_stereo_call : List ℕ → OpenBox → Gave Reply
wide_stereo_call bytes e = replied wide_sides_reply (wide_sided bytes e)

-- 73, fade that keeps sounding: "as 14 | number"; a bad line on document 01's box
unfoldable pub fade_on_call : List ℕ → List ℕ → OpenBox → Gave Reply
fade_on_call l bytes (Engine m) = asked R.Bad (Engine m)
fade_on_call l bytes (Sounder s) = replied outcome_reply (sounder_gave (C.faded_on s bytes (wide_at l 1) (wide_at l 3) (spec_at l 5)))

-- 79, frames that the fade has left: "2 digits"
unfoldable pub fade_left_reply : OpenBox → Reply
fade_left_reply e = R.Number (frames_left (mixer_of e))

-- 7A, ranks: "2 digits for each of the N voices, FF for one that has none"; a bad line on document 01's box
unfoldable pub ranks_reply : OpenBox → Reply
ranks_reply (Engine m) = R.Bad
ranks_reply (Sounder s) = R.Ranks

-- by the record. 1B, 30, 64, 65 and 69 print what the box holds; 67 is one duty, as 2C is.
unfoldable pub call_for : Record → List ℕ → List ℕ → OpenBox → Gave Reply
call_for K.Bank l bytes e = bank_call l bytes e
call_for K.Play l bytes e = play_call l bytes e
call_for K.Fade l bytes e = fade_call l bytes e
call_for K.Tone l bytes e = tone_call l e
call_for K.PolyBlep l bytes e = poly_blep_call l e
call_for K.Pan l bytes e = pan_call l e
call_for K.Gain l bytes e = gain_call l e
call_for K.Stop l bytes e = stop_call e
call_for K.Search l bytes e = asked (search_reply l bytes e) e
call_for K.Payload l bytes e = asked R.Payload e
call_for K.Allocate l bytes e = asked (allocate_reply l e) e
call_for K.Audible l bytes e = asked (audible_reply e) e
call_for K.Stereo l bytes e = stereo_call bytes e
call_for K.Duty l bytes e = duty_call bytes e
call_for K.Dump l bytes e = asked R.Dump e
call_for K.PlainPlay l bytes e = plain_play_call l bytes e
call_for K.PanRead l bytes e = asked (pan_read_reply l e) e
call_for K.Policy l bytes e = asked R.Policy e
call_for K.Configuration l bytes e = asked R.Configuration e
call_for K.Sample l bytes e = sample_call bytes e
call_for K.Pwm l bytes e = duty_call bytes e
call_for K.WideStereo l bytes e = wide_stereo_call bytes e
call_for K.Voice l bytes e = asked (R.Voice (byte_at l 1)) e
call_for K.FadeOn l bytes e = fade_on_call l bytes e
call_for K.FadeLeft l bytes e = asked (fade_left_reply e) e
call_for K.Ranks l bytes e = asked (ranks_reply e) e

-- the bytes are those lent; a bad line asks nothing of the box
unfoldable pub called : Record → List ℕ → List ℕ → OpenBox → Gave Reply
called r l bytes e = cond (allowed r l) (call_for r l bytes e) (asked R.Bad e)
