-- Document 01, "Bank": "Kinds: 0 Tone, 1 Wavetable, 2 Fm, 3 Pcm8, 4 Adpcm, 5 SigmaDeltaBits." Assumes nothing.
use Rattle.std.specs.Prelude.{ℕ, cond, eqb}
use Rattle.error.specs.Told.{Told, value, refused}
use Rattle.tier.specs.declared.EffectKind.{EffectKind}
use Rattle.tier.specs.declared.EffectKind.TheVariants as K
use Rattle.tier.specs.declared.flags.Bits.{Bits}

-- the kind of a byte; a byte above 5 is none, which a bank's entry is refused for with 9
unfoldable pub kind_of : ℕ → Told EffectKind
kind_of n =
    cond (eqb n 0) (value K.Tone)
    (cond (eqb n 1) (value K.Wavetable)
    (cond (eqb n 2) (value K.Fm)
    (cond (eqb n 3) (value K.Pcm8)
    (cond (eqb n 4) (value K.Adpcm)
    (cond (eqb n 5) (value K.SigmaDeltaBits) (refused 9))))))

abbrev pub byte_of : EffectKind → ℕ
byte_of K.Tone = 0
byte_of K.Wavetable = 1
byte_of K.Fm = 2
byte_of K.Pcm8 = 3
byte_of K.Adpcm = 4
byte_of K.SigmaDeltaBits = 5

-- tier.rs: bits 0, 1 and 2 of the flags byte
abbrev pub flag_bits : Bits
flag_bits = record { looped = 1; one_shot = 2; signed = 4 }
