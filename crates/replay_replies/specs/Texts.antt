-- The text of each reply. Assumes nothing.
use Rattle.std.specs.Prelude.{ℕ, Bool, List, [], ◌++◌, map, length, take, None, Option, Some}
use Rattle.error.specs.Told.{number_in}
use Rattle.tier.specs.Kinds.{byte_of}
use Rattle.bank.specs.Banks.{payload_under, payload_part}
use Rattle.bank.specs.declared.EffectEntry.{EffectEntry}
use Rattle.hex_digits.specs.Hex.{wide_at, long_at, hex_of, newline}
use Rattle.replay_cells.specs.Cells.{byte_text, wide_text, numbered_text}
use Rattle.mixer.specs.Mixers.{voice_read}
use Rattle.config.specs.declared.AudioConfig.{AudioConfig}
use Rattle.replay_dump.specs.Dumps.{policy_number, mode_number, voice_line, dump_text}
use Rattle.replay_box.specs.Boxes.{is_present, mixer_of, ranks_of, waiting_in}
use Rattle.replay_box.specs.declared.OpenBox.{OpenBox}
use Rattle.replay_calls.specs.declared.Reply.{Reply}
use Rattle.replay_calls.specs.declared.Reply.TheVariants as R
use Rattle.waiting.specs.Lines.{label_of}
use Rattle.waiting.specs.declared.Waiting.{Waiting}
use Rattle.bank.specs.declared.SoundBank.{SoundBank}
use Rattle.voice.specs.declared.Voice.{Voice}

-- a bad line "prints FFFF"
abbrev pub bad_text : List ℕ
bad_text = hex_of 4 0xFFFF ++ newline

-- "number; if 00 also kind, flags, gain (2 digits each), param0, param1 (4 each), offset (8), length (8)"
abbrev pub entry_text : EffectEntry → List ℕ
entry_text e =
    hex_of 2 0
    ++ hex_of 2 (byte_of e.kind)
    ++ hex_of 2 e.flags
    ++ hex_of 2 e.default_gain_q8
    ++ hex_of 4 e.param0
    ++ hex_of 4 e.param1
    ++ hex_of 8 e.offset
    ++ hex_of 8 e.len
    ++ newline

-- "offset (4), length (2) | number, then the part's bytes"
unfoldable pub payload_text : Bool → Option SoundBank → List ℕ → List ℕ → List ℕ
payload_text parted bank l bytes =
    numbered_text 2 (number_in (payload_under parted bank bytes (long_at l 1) (wide_at l 5)))
    byte_text
    (payload_part bank bytes (long_at l 1) (wide_at l 5))

-- two numbers of two digits each
abbrev pub two_text : ℕ → ℕ → List ℕ
two_text a b = hex_of 2 a ++ hex_of 2 b ++ newline

-- or of four
abbrev pub wide_two_text : ℕ → ℕ → List ℕ
wide_two_text a b = hex_of 4 a ++ hex_of 4 b ++ newline

-- a number of two digits and a label of four
abbrev pub labelled_text : ℕ → ℕ → List ℕ
labelled_text a b = hex_of 2 a ++ hex_of 4 b ++ newline

-- 65: "sample rate (8 digits), period (4), duty mode (2), master gain (2)"
abbrev pub config_text : AudioConfig → List ℕ
config_text c =
    hex_of 8 c.sample_rate_hz
    ++ hex_of 4 c.pwm_period
    ++ hex_of 2 (mode_number c.duty_mode)
    ++ hex_of 2 c.master_gain_q8
    ++ newline

-- 69: "the voice's line as in a dump, or an empty line where there is no such voice"
abbrev pub voice_text : Option Voice → List ℕ
voice_text (Some v) = voice_line v
voice_text None = newline

-- 7A: "2 digits for each of the N voices"
abbrev pub ranks_text : OpenBox → List ℕ
ranks_text b = numbered_text 0 0 byte_text (take (mixer_of b).n (ranks_of b))

-- 76: "count (2 digits), then the labels in line, 4 digits each, next first"
abbrev pub waiting_text : List Waiting → List ℕ
waiting_text ws = numbered_text 2 (length ws) wide_text (map label_of ws)

-- "Each record that prints prints one line, unless said otherwise, its parts without a space between."
abbrev pub reply_text : Reply → List ℕ → List ℕ → OpenBox → List ℕ
reply_text R.Bad l bytes b = bad_text
reply_text R.Nothing l bytes b = []
reply_text (R.Number n) l bytes b = hex_of 2 n ++ newline
reply_text (R.Two x y) l bytes b = two_text x y
reply_text (R.Wide n) l bytes b = hex_of 4 n ++ newline
reply_text (R.WideTwo x y) l bytes b = wide_two_text x y
reply_text (R.Labelled x y) l bytes b = labelled_text x y
reply_text (R.Entry e) l bytes b = entry_text e
reply_text R.Payload l bytes b = payload_text (is_present b) (mixer_of b).bank l bytes
reply_text R.Dump l bytes b = dump_text (mixer_of b)
reply_text R.Policy l bytes b = hex_of 2 (policy_number (mixer_of b).stealing_policy) ++ newline
reply_text R.Configuration l bytes b = config_text (mixer_of b).config
reply_text (R.Voice i) l bytes b = voice_text (voice_read (mixer_of b) i)
reply_text R.Ranks l bytes b = ranks_text b
reply_text R.Waiting l bytes b = waiting_text (waiting_in b)
