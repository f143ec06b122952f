-- A source alone (60), and an oscillator from its bits (6A): how it starts, its requests, and the fields of its state. Assumes nothing.
use Rattle.std.specs.Prelude.{ℕ, min, true, cond, List, ◌++◌, leb, eqb, None, Option, Some, ℤ}
use Rattle.std.specs.Option.{unwrap_or}
use Rattle.std.specs.Int.{w8}
use Rattle.std.proofs.Common.{of_z}
use Rattle.error.specs.Numbers.{number_of}
use Rattle.error.specs.declared.AudioError.TheVariants as E
use Rattle.tone.specs.Duration.{forever}
use Rattle.fixed.specs.declared.Step.{Step}
use Rattle.polyblep.specs.Restores.{restored_voice}
use Rattle.polyblep.specs.declared.PolyBlepVoice.{PolyBlepVoice}
use Rattle.voice.specs.Sources.{carrier_given, stepped_source, tone_source, poly_blep_source, fm_source}
use Rattle.voice.specs.declared.source.VoiceSource.{VoiceSource}
use Rattle.voice.specs.declared.source.VoiceSource.TheVariants as S
use Rattle.hex_digits.specs.Hex.{byte_at, wide_at, three_at, long_at, hex_of, newline}
use Rattle.replay_fields.specs.Read.{tone_waveform, poly_blep_waveform}
use Rattle.replay_fields.specs.States.{source_fields}
use Rattle.replay_leaves.specs.Runs.{stepped, texts, number_line}

unfoldable pub source_at : List ℕ → VoiceSource
source_at l =
    let hz = long_at l 2 in
    let parameter = wide_at l 6 in
    let waveform = byte_at l 8 in
    let rate = long_at l 9 in
    cond (eqb (byte_at l 1) 1) (tone_source hz parameter (tone_waveform waveform) rate)
    (cond (eqb (byte_at l 1) 2) (poly_blep_source hz parameter (poly_blep_waveform waveform) rate)
    (fm_source hz parameter rate))

-- how many are printed; where it is more than 16,000 the line is bad
abbrev pub printed_at : List ℕ → ℕ → ℕ
printed_at l k = min (wide_at l k) 16000

-- a request that is not printed: what it leaves of the source
abbrev pub passed_over : VoiceSource → VoiceSource
passed_over s = (stepped_source s).voice

-- a request that is printed, and before the first
abbrev pub no_request : VoiceSource → Step VoiceSource (Option ℤ)
no_request s = record { voice = s; given = None }

abbrev pub request : Step VoiceSource (Option ℤ) → Step VoiceSource (Option ℤ)
request s = stepped_source s.voice

-- "each printed request as 00 and the sample, or 0100 where none is given"
abbrev pub given_number : Option ℤ → ℕ
given_number (Some s) = of_z w8 s
given_number None = 0x100

abbrev pub given_text : Step VoiceSource (Option ℤ) → List ℕ
given_text s = hex_of 4 (given_number s.given)

-- "the carrier's Hz (8 digits, 0 for none)"
abbrev pub carrier_number : Option ℕ → ℕ
carrier_number c = unwrap_or c 0

-- the requests not printed, those printed, the state they leave
abbrev pub source_run : List ℕ → List ℕ
source_run l =
    let from = no_request (stepped passed_over (three_at l 13) (source_at l)) in
    let last = (stepped request (printed_at l 16) from).voice in
    number_line 0
    ++ texts request given_text (printed_at l 16) from
    ++ source_fields last
    ++ hex_of 8 (carrier_number (carrier_given last (long_at l 9)))
    ++ newline

-- 60, source alone: "number (rate above 65,537 is 2); if 00, a second line"
unfoldable pub source_text : List ℕ → List ℕ
source_text l = cond (leb (long_at l 9) 65537) (source_run l) (number_line (number_of E.BadRate))

-- the voice of 6A sounds without end; its Hz and rate are a new voice's
abbrev pub restored_at : List ℕ → Option PolyBlepVoice
restored_at l = restored_voice (long_at l 1) (long_at l 5) (poly_blep_waveform (byte_at l 9)) 440 48000 forever true

-- requests of a source, and the state that they leave
abbrev pub requests_line : ℕ → VoiceSource → List ℕ
requests_line n s =
    number_line 0 ++ texts request given_text n (no_request s) ++ source_fields (stepped request n (no_request s)).voice ++ newline

abbrev pub restored_lines : ℕ → Option PolyBlepVoice → List ℕ
restored_lines n (Some v) = requests_line n (S.PolyBlep v)
restored_lines n None = number_line 1

-- 6A, oscillator from its bits: "01 where the phase or the step is out of its range; else 00 and a second line"
unfoldable pub restored_text : List ℕ → List ℕ
restored_text l = restored_lines (printed_at l 10) (restored_at l)
