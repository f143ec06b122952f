-- FM: the sine plus 128, the sample between two neighbours, and what each call makes of the oscillator. Assumes nothing.
use Rattle.std.specs.Prelude.{ℕ, ◌+◌, ◌*◌, ◌/◌, ◌%◌, ◌^◌, true, false, cond, ℤ, pos, ◌+ℤ◌, ◌*ℤ◌, unsigned_abs, Option, Some, None}
use Rattle.std.specs.Int.{w8}
use Rattle.std.proofs.Common.{to_z}
use Rattle.laws.specs.Whole.{floor_div, modulo}
use Rattle.fixed.specs.Fixed.{increment, index_of, fraction_of, sine, toward}
use Rattle.fixed.specs.declared.Step.{Step}
use Rattle.fm.specs.declared.FmVoice.{FmVoice}

-- "The 256-entry FM table holds that value plus 128": the sine, which lies above −128
abbrev pub table_entry : ℕ → ℕ
table_entry x = unsigned_abs (sine x +ℤ pos 128)

-- "FM reads the byte as two's complement, so 128 counts as −128"
unfoldable pub table_sine : ℕ → ℤ
table_sine x = to_z w8 (table_entry x)

-- "between neighbours a and b (255 is followed by 0) the sample is a + truncated((b − a) × f ÷ 256)"
unfoldable pub table_sample : ℕ → ℕ → ℤ
table_sample x f = toward (table_sine x) (table_sine ((x + 1) % 256)) f

-- "Modulator Hz = floor(carrier × ratio ÷ 100) modulo 2^32", the ratio in hundredths
abbrev pub modulator_hz : ℕ → ℕ → ℕ
modulator_hz carrier ratio = carrier * ratio / 100 % 2 ^ 32

-- "the offset .. is floor(m × depth ÷ 256) modulo 256, m being the modulator's sample, found alike from its own phase"
unfoldable pub offset_of : ℕ → ℕ → ℕ
offset_of phase depth =
    let m = table_sample (index_of phase) (fraction_of phase) in
    modulo (floor_div (m *ℤ pos depth) 256) 256

-- a new oscillator gives no sample; the source's depth is 64
abbrev pub silent_fm : FmVoice
silent_fm = record { carrier_phase = 0; carrier_inc = 0; mod_phase = 0; mod_inc = 0; mod_depth_q8 = 64; active = false }

unfoldable pub started_fm : ℕ → ℕ → ℕ → ℕ → FmVoice
started_fm carrier ratio depth rate =
    record {
      carrier_phase = 0;
      carrier_inc = increment carrier rate;
      mod_phase = 0;
      mod_inc = increment (modulator_hz carrier ratio) rate;
      mod_depth_q8 = depth;
      active = true;
    }

unfoldable pub stopped_fm : FmVoice → FmVoice
stopped_fm v =
    record {
      carrier_phase = v.carrier_phase;
      carrier_inc = v.carrier_inc;
      mod_phase = v.mod_phase;
      mod_inc = v.mod_inc;
      mod_depth_q8 = v.mod_depth_q8;
      active = false;
    }

-- "Phases are 32-bit and wrap"
abbrev pub advanced_fm : FmVoice → FmVoice
advanced_fm v =
    record {
      carrier_phase = (v.carrier_phase + v.carrier_inc) % 2 ^ 32;
      carrier_inc = v.carrier_inc;
      mod_phase = (v.mod_phase + v.mod_inc) % 2 ^ 32;
      mod_inc = v.mod_inc;
      mod_depth_q8 = v.mod_depth_q8;
      active = v.active;
    }

-- "the offset, added to the carrier's index modulo 256 .. f being bits 16 to 23 of the unmodulated phase"
abbrev pub sample_at : ℕ → ℕ → ℕ → ℤ
sample_at carrier modulator depth = table_sample ((index_of carrier + offset_of modulator depth) % 256) (fraction_of carrier)

unfoldable pub fm_sample : FmVoice → ℤ
fm_sample v = sample_at v.carrier_phase v.mod_phase v.mod_depth_q8

-- a request: none while inactive; "FM never ends"
unfoldable pub stepped_fm : FmVoice → Step FmVoice (Option ℤ)
stepped_fm v =
    cond v.active
    (record { voice = advanced_fm v; given = Some (fm_sample v) })
    (record { voice = v; given = None })
