-- "dump: the engine's line, then a line for each of the N voices. Every field has 16 digits, negatives in two's complement at 64
-- bits, a bool 0 or 1, floats by their 32 bits, nothing as −1 (FFFFFFFFFFFFFFFF; no bank is three of them), a choice as its number
-- from 0". Assumes nothing.
use Rattle.std.specs.Prelude.{ℕ, List, [], ◌∷◌, ◌++◌, None, Option, Some}
use Rattle.std.specs.Int.{w64}
use Rattle.std.proofs.Common.{of_z}
use Rattle.mixer.specs.Mixers.{voices_of}
use Rattle.mixer.specs.declared.Mixer.{Mixer}
use Rattle.mixer.specs.declared.VoiceStealingPolicy.{VoiceStealingPolicy}
use Rattle.mixer.specs.declared.VoiceStealingPolicy.TheVariants as P
use Rattle.output.specs.declared.DutyMode.{DutyMode}
use Rattle.output.specs.declared.DutyMode.TheVariants as M
use Rattle.voice.specs.declared.Voice.{Voice}
use Rattle.hex_digits.specs.Hex.{four_of, newline}
use Rattle.replay_fields.specs.States.{flag_number, voice_fields}
use Rattle.bank.specs.declared.SoundBank.{SoundBank}

-- "Policies: 0 LowestPriorityOldest, 1 FreeChannelOnly."
abbrev pub policy_number : VoiceStealingPolicy → ℕ
policy_number P.LowestPriorityOldest = 0
policy_number P.FreeChannelOnly = 1

-- "Duty modes: 0 Linear, 1 SigmaDelta, 2 SigmaDelta2ndOrder."
abbrev pub mode_number : DutyMode → ℕ
mode_number M.Linear = 0
mode_number M.SigmaDelta = 1
mode_number M.SigmaDelta2ndOrder = 2

-- "nothing as −1"
abbrev pub nothing : ℕ
nothing = 0xFFFF_FFFF_FFFF_FFFF

abbrev pub bank_count : Option SoundBank → ℕ
bank_count None = nothing
bank_count (Some b) = b.effect_count

abbrev pub bank_length : Option SoundBank → ℕ
bank_length None = nothing
bank_length (Some b) = b.len

abbrev pub bank_rate : Option SoundBank → ℕ
bank_rate None = nothing
bank_rate (Some b) = b.sample_rate_hz

-- "Engine: N, policy, the bank's count, length and rate; sample rate, period, duty mode,
abbrev pub setting_fields : Mixer → List ℕ
setting_fields m =
    four_of m.n (policy_number m.stealing_policy) (bank_count m.bank) (bank_length m.bank)
    ++ four_of (bank_rate m.bank) m.config.sample_rate_hz m.config.pwm_period (mode_number m.config.duty_mode)

-- master gain; the mapper's mode, integrator, e1, e2; fade t, fade step, fade active."
abbrev pub running_fields : Mixer → List ℕ
running_fields m =
    four_of m.config.master_gain_q8 (mode_number m.mapper.mode) (of_z w64 m.mapper.sigma_delta.integrator) (of_z w64 m.mapper.sigma_delta_2nd.e1)
    ++ four_of (of_z w64 m.mapper.sigma_delta_2nd.e2) m.crossfade_t_q8 m.crossfade_step_q8 (flag_number m.crossfade_active)

abbrev pub voice_line : Voice → List ℕ
voice_line v = voice_fields v ++ newline

unfoldable pub voice_lines : List Voice → List ℕ
voice_lines [] = []
voice_lines (v ∷ vs) = voice_line v ++ voice_lines vs

unfoldable pub dump_text : Mixer → List ℕ
dump_text m = setting_fields m ++ running_fields m ++ newline ++ voice_lines (voices_of m)
