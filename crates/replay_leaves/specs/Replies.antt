-- The records of the replay format: for each its fields, from byte 1 on, and what it prints. Assumes nothing.
use Rattle.std.specs.Prelude.{ℕ, ◌+◌, ◌*◌, ◌/◌, ◌%◌, ◌^◌, Bool, true, false, cond, ◌&&◌, List, leb, ltb, eqb, length, ℤ, pos, ◌*ℤ◌}
use Rattle.std.specs.Float.{binary32}
use Rattle.std.specs.Float.Ieee.{of_bits, to_bits}
use Rattle.std.specs.Int.{w8, w16, w32}
use Rattle.std.proofs.Common.{to_z, of_z}
use Rattle.laws.specs.Whole.{neg, held_to}
use Rattle.error.specs.Told.{Told, value, refused, and_then}
use Rattle.fixed.specs.Fixed.{increment, index_of, fraction_of, sine, toward, gained_by, pan_gains}
use Rattle.fixed.specs.Decibels.{gain_of_db, db_of_gain}
use Rattle.output.specs.Levels.{limited_bus, raised}
use Rattle.output.specs.Duty.{duty, period_read}
use Rattle.config.specs.Config.{fade_step}
use Rattle.lengths.specs.Lengths.{length_of, carrying}
use Rattle.lengths.specs.declared.Length.{Length}
use Rattle.tier.specs.Kinds.{kind_of, byte_of}
use Rattle.tier.specs.declared.EffectKind.{EffectKind}
use Rattle.hex_digits.specs.Hex.{all_digits, byte_at, wide_at, long_at}
use Rattle.replay_leaves.specs.declared.Reply.{Reply}
use Rattle.replay_leaves.specs.declared.Reply.TheVariants.{Bad, Word, Levels, State, Duties, Source, Voice, Restored, Pattern, Recording, Bank, Counts}

-- fields with a sign, in two's complement
abbrev pub sample_at : List ℕ → ℕ → ℤ
sample_at l k = to_z w8 (byte_at l k)

abbrev pub sum_at : List ℕ → ℕ → ℤ
sum_at l k = to_z w32 (long_at l k)

-- a number of 2 digits, then a value in so many: 00 and the value, or the refusal's and 0
abbrev pub numbered : ℕ → Told ℕ → Reply
numbered digits (value n) = Word n (2 + digits)
numbered digits (refused n) = Word (n * 16 ^ digits) (2 + digits)

-- 40, gain: "sample i8 (1), gain (1) | 2 digits"; 82, "gain, present rule | as 40"
unfoldable pub gain_reply : Bool → List ℕ → Reply
gain_reply present l = Word (of_z w8 (gained_by present (sample_at l 1) (byte_at l 2))) 2

-- 41, lerp: "a i8 (1), b i8 (1), fraction (1) | 2 digits"
unfoldable pub lerp_reply : List ℕ → Reply
lerp_reply l = Word (of_z w8 (toward (sample_at l 1) (sample_at l 2) (byte_at l 3))) 2

-- 42, bus limiter: "sum i32 (4) | number, then 2 digits"
abbrev pub limited_answer : Told ℤ → Reply
limited_answer t = numbered 2 (and_then t (λ s. value (of_z w8 s)))

unfoldable pub limiter_reply : List ℕ → Reply
limiter_reply l = limited_answer (limited_bus (sum_at l 1))

-- 43, pan gains: "pan (1) | left, right, 2 digits each"
unfoldable pub pan_reply : List ℕ → Reply
pan_reply l = let g = pan_gains (byte_at l 1) in Word (256 * g.left + g.right) 4

-- 44, phase increment: "Hz (4), rate (4) | 8 digits"
unfoldable pub increment_reply : List ℕ → Reply
increment_reply l = Word (increment (long_at l 1) (long_at l 5)) 8

-- 45, sine: "index (1) | 2 digits"
unfoldable pub sine_reply : List ℕ → Reply
sine_reply l = Word (of_z w8 (sine (byte_at l 1))) 2

-- 46, duty of a sample: "sample i8 (1), period (2) | number, then 4 digits"
abbrev pub duty_answer : ℤ → Told ℕ → Reply
duty_answer s t = numbered 4 (and_then t (λ p. value (duty s p)))

unfoldable pub duty_reply : List ℕ → Reply
duty_reply l = duty_answer (sample_at l 1) (period_read (wide_at l 2))

-- 47, fade step: "ms (2), rate (4) | 00, then 2 digits"
unfoldable pub fade_reply : List ℕ → Reply
fade_reply l = Word (fade_step (wide_at l 1) (long_at l 3)) 4

-- 50, decibels to gain: "binary32 by its bits (4) | 2 digits"
unfoldable pub to_gain_reply : List ℕ → Reply
to_gain_reply l = Word (gain_of_db (of_bits binary32 (long_at l 1))) 2

-- 51, gain to decibels: "gain (1) | 8 digits, the binary32's bits"
unfoldable pub to_decibels_reply : List ℕ → Reply
to_decibels_reply l = Word (to_bits binary32 (db_of_gain (byte_at l 1))) 8

-- 52, phase: "phase (4) | index, fraction, 2 digits each"
unfoldable pub phase_reply : List ℕ → Reply
phase_reply l = Word (256 * index_of (long_at l 1) + fraction_of (long_at l 1)) 4

-- 53, crossfade: "a i8 (1), b i8 (1), t (1) | 2 digits"
unfoldable pub crossfade_reply : List ℕ → Reply
crossfade_reply l = Word (of_z w8 (toward (sample_at l 1) (sample_at l 2) (byte_at l 3))) 2

-- 54, clamp: "sum i32 (4) | 2 digits"
unfoldable pub clamp_reply : List ℕ → Reply
clamp_reply l = Word (of_z w8 (held_to (neg 128) (pos 127) (sum_at l 1))) 2

-- 55, kind byte: "kind (1) | number (9 above 5), then the kind's byte (00 where refused)"
abbrev pub kind_answer : Told EffectKind → Reply
kind_answer t = numbered 2 (and_then t (λ k. value (byte_of k)))

unfoldable pub kind_reply : List ℕ → Reply
kind_reply l = kind_answer (kind_of (byte_at l 1))

-- 56, conversions: "sample i8 (1) | i16 (4 digits), DAC u8 (2), u12 (4), u16 (4)"
unfoldable pub conversions_reply : List ℕ → Reply
conversions_reply l =
    let s = sample_at l 1 in
    let d = raised s in
    Word (((of_z w16 (s *ℤ pos 256) * 256 + d) * 65536 + d * 4095 / 255) * 65536 + d * 256) 14

-- 59, conversion to i32: "sample i8 (1) | 8 digits"
unfoldable pub conversion32_reply : List ℕ → Reply
conversion32_reply l = Word (of_z w32 (sample_at l 1 *ℤ pos 0x100_0000)) 8

-- 84, length in samples: "ms (2), rate (4) | number, samples (8 digits), remainder (4 digits); zeros where refused"
abbrev pub length_answer : Told Length → Reply
length_answer t = numbered 12 (and_then t (λ n. value (n.samples * 65536 + n.remainder)))

unfoldable pub length_reply : List ℕ → Reply
length_reply l = length_answer (length_of (wide_at l 1) (long_at l 3))

-- 85, the same, carrying: "ms (2), rate (4), remainder (4)"
unfoldable pub carrying_reply : List ℕ → Reply
carrying_reply l = length_answer (carrying (wide_at l 1) (long_at l 3) (long_at l 7))

-- a record of so many bytes after its code: "another .. length .. prints FFFF"
abbrev pub sized : ℕ → ℕ → Reply → Reply
sized digits bytes r = cond (eqb digits (2 + 2 * bytes)) r Bad

-- 57, duty mapper: mode (1), period (2), integrator (4), then any number of samples. "A mode above 2 makes the line bad."
unfoldable pub duties_reply : List ℕ → Reply
duties_reply l =
    cond (ltb (length l) 16) Bad (cond (eqb (length l % 2) 1) Bad (cond (leb (byte_at l 1) 2) Duties Bad))

-- "kind (1: 1 tone, 2 PolyBLEP, 3 FM)": how many waveforms it has; of any other kind none is allowed
abbrev pub waveforms_of : ℕ → ℕ
waveforms_of kind = cond (eqb kind 1) 3 (cond (eqb kind 2) 4 (cond (eqb kind 3) 1 0))

-- 60, source alone: kind (1), Hz (4), ms or ratio (2), waveform (1), rate (4), requests not printed (3), "requests printed (2, at most 16,000)"
unfoldable pub source_reply : List ℕ → Reply
source_reply l = cond (ltb (byte_at l 8) (waveforms_of (byte_at l 1)) && leb (wide_at l 16) 16000) Source Bad

-- 61, voice alone: as 60 up to the rate; E (7), gain (1), pan (1), "stereo (1: 0 or 1)", frames not printed (3), "release (1: 0 or
-- 1), frames printed (2, at most 16,000)"
unfoldable pub voice_reply : List ℕ → Reply
voice_reply l =
    cond (ltb (byte_at l 8) (waveforms_of (byte_at l 1)) && (leb (byte_at l 22) 1 && (leb (byte_at l 26) 1 && leb (wide_at l 27) 16000))) Voice Bad

-- 6A, oscillator from its bits: phase (4), step (4), "waveform (1: 0 to 3), requests printed (2, at most 16,000)"
unfoldable pub restored_reply : List ℕ → Reply
restored_reply l = cond (ltb (byte_at l 9) 4 && leb (wide_at l 10) 16000) Restored Bad

-- 80, evacuation pattern: rate (4), first sample (4), "samples (2, at most 2,048)"
unfoldable pub pattern_reply : List ℕ → Reply
pattern_reply l = cond (leb (wide_at l 9) 2048) Pattern Bad

-- 81, evacuation reader: rate (4), then any number of bytes
unfoldable pub recording_reply : List ℕ → Reply
recording_reply l = cond (ltb (length l) 10) Bad (cond (eqb (length l % 2) 1) Bad Recording)

-- 83, write a bank: header (10), "room (2, at most 4,096)", count (1), count times thirteen bytes, then any number of bytes
unfoldable pub bank_reply : List ℕ → Reply
bank_reply l =
    cond (ltb (length l) (28 + 26 * byte_at l 13)) Bad (cond (eqb (length l % 2) 1) Bad (cond (leb (wide_at l 11) 4096) Bank Bad))

-- The records by their code, each with its length. Document 02's; any other code is bad:
unfoldable pub added_reply : ℕ → List ℕ → Reply
added_reply code l =
    let n = length l in
    cond (eqb code 0x80) (sized n 10 (pattern_reply l))
    (cond (eqb code 0x81) (recording_reply l)
    (cond (eqb code 0x82) (sized n 2 (gain_reply true l))
    (cond (eqb code 0x83) (bank_reply l)
    (cond (eqb code 0x84) (sized n 6 (length_reply l))
    (cond (eqb code 0x85) (sized n 10 (carrying_reply l))
    (cond (eqb code 0x86) (sized n 4 Counts)
    Bad))))))

-- our own, of document 01's box
unfoldable pub own_reply : ℕ → List ℕ → Reply
own_reply code l =
    let n = length l in
    cond (eqb code 0x50) (sized n 4 (to_gain_reply l))
    (cond (eqb code 0x51) (sized n 1 (to_decibels_reply l))
    (cond (eqb code 0x52) (sized n 4 (phase_reply l))
    (cond (eqb code 0x53) (sized n 3 (crossfade_reply l))
    (cond (eqb code 0x54) (sized n 4 (clamp_reply l))
    (cond (eqb code 0x55) (sized n 1 (kind_reply l))
    (cond (eqb code 0x56) (sized n 1 (conversions_reply l))
    (cond (eqb code 0x57) (duties_reply l)
    (cond (eqb code 0x58) (sized n 15 State)
    (cond (eqb code 0x59) (sized n 1 (conversion32_reply l))
    (cond (eqb code 0x60) (sized n 17 (source_reply l))
    (cond (eqb code 0x61) (sized n 28 (voice_reply l))
    (cond (eqb code 0x6A) (sized n 11 (restored_reply l))
    (added_reply code l)))))))))))))

-- the replay format's
abbrev pub reply_for : ℕ → List ℕ → Reply
reply_for code l =
    let n = length l in
    cond (eqb code 0x40) (sized n 2 (gain_reply false l))
    (cond (eqb code 0x41) (sized n 3 (lerp_reply l))
    (cond (eqb code 0x42) (sized n 4 (limiter_reply l))
    (cond (eqb code 0x43) (sized n 1 (pan_reply l))
    (cond (eqb code 0x44) (sized n 8 (increment_reply l))
    (cond (eqb code 0x45) (sized n 1 (sine_reply l))
    (cond (eqb code 0x46) (sized n 3 (duty_reply l))
    (cond (eqb code 0x47) (sized n 6 (fade_reply l))
    (cond (eqb code 0x48) (sized n 15 Levels)
    (own_reply code l)))))))))

-- "No good line is longer than 8,194 digits"; the first byte is the code
unfoldable pub reply_of : List ℕ → Reply
reply_of l = cond (leb (length l) 8194 && all_digits l) (reply_for (byte_at l 0) l) Bad
