-- One mono frame, its duty, and one stereo frame. Assumes nothing.
use Rattle.std.specs.Prelude.{ℕ, suc, false, cond, List, [], ◌∷◌, ltb, ℤ, pos, ◌+ℤ◌, None, Option, Some}
use Rattle.fixed.specs.Fixed.{toward, gained_by, limited}
use Rattle.laws.specs.Lists.{map_first}
use Rattle.frame.specs.Places.{map_at}
use Rattle.laws.specs.Whole.{trunc_div}
use Rattle.mixer.specs.Mixers.{Valid, voices_of, with_voices}
use Rattle.mixer.specs.declared.Mixer.{Mixer}
use Rattle.output.specs.Duty.{mapped}
use Rattle.output.specs.declared.PwmMapper.{PwmMapper}
use Rattle.voice.specs.Voices.{ticked_voice, stepped_voice, sample_by, pair_by}
use Rattle.voice.specs.declared.Voice.{Voice}
use Rattle.frame.specs.Fades.{advanced_by, voice_at, marks_advanced}
use Rattle.marks.specs.Marks.{no_marks, rule_at}
use Rattle.marks.specs.declared.Marks.{Marks}
use Rattle.frame.specs.declared.MonoFrame.{MonoFrame}
use Rattle.frame.specs.declared.StereoFrame.{StereoFrame}
use Rattle.frame.specs.declared.DutyFrame.{DutyFrame}

-- "tick all envelopes (a voice then inaudible gets the idle source)"
unfoldable pub enveloped : Mixer → Mixer
enveloped m = with_voices m (map_first ticked_voice m.n m.voices)

-- "take samples": the first k voices have given theirs
unfoldable pub sampled : ℕ → Mixer → Mixer
sampled k m = with_voices m (map_first (λ v. (stepped_voice v).voice) k m.voices)

-- document 01's rule of gain 255, for each voice and the master, and of a fade's end
abbrev pub old_marks : Marks
old_marks = no_marks false false

-- "limit, apply master gain"
abbrev pub leveled : Marks → Mixer → ℤ → ℤ
leveled r m sum = gained_by r.master (limited sum) m.config.master_gain_q8

-- ---- mono

-- the sum of the samples given, and how many were
unfoldable pub total : List (Option ℤ) → ℤ
total [] = pos 0
total (Some s ∷ gs) = s +ℤ total gs
total (None ∷ gs) = total gs

unfoldable pub given_count : List (Option ℤ) → ℕ
given_count [] = 0
given_count (Some s ∷ gs) = suc (given_count gs)
given_count (None ∷ gs) = given_count gs

-- "Mono divides the sum, truncated, by the number of samples given when that exceeds 1."
unfoldable pub averaged : List (Option ℤ) → ℤ
averaged gs = cond (ltb 1 (given_count gs)) (trunc_div (total gs) (given_count gs)) (total gs)

-- "a + truncated((b − a) × t ÷ 256), or the one that gave a sample"
unfoldable pub crossed : ℕ → Option ℤ → Option ℤ → ℤ
crossed t (Some a) (Some b) = toward a b t
crossed t (Some a) None = a
crossed t None (Some b) = b
crossed t None None = pos 0

-- voices' samples, each by the rule of its place
abbrev pub samples_of : Marks → List Voice → List (Option ℤ)
samples_of r vs = map_at (λ i v. sample_by (rule_at r i) v) 0 vs

-- "During a fade only voices 0 and 1 are sampled"
abbrev pub sampled_count : Mixer → ℕ
sampled_count m = cond m.crossfade_active 2 m.n

unfoldable pub mono_mix : Marks → Mixer → ℤ
mono_mix r m =
    cond m.crossfade_active
    (crossed m.crossfade_t_q8 (sample_by (rule_at r 0) (voice_at m 0)) (sample_by (rule_at r 1) (voice_at m 1)))
    (averaged (samples_of r (voices_of m)))

-- "take samples, limit, apply master gain"
abbrev pub mono_given : Marks → Mixer → MonoFrame
mono_given r m = record { mixer = sampled (sampled_count m) m; pcm = leveled r m (mono_mix r m) }

-- "Every mono frame: advance the fade, tick all envelopes .., take samples, limit, apply master gain."
unfoldable pub mono_frame_by : Marks → Mixer → MonoFrame
mono_frame_by r m = mono_given (marks_advanced m r) (enveloped (advanced_by r.sounds_on m))

-- document 01's
abbrev pub mono_frame : Mixer → MonoFrame
mono_frame m = mono_frame_by old_marks m

-- m with another mapper
abbrev pub with_mapper : Mixer → PwmMapper → Mixer
with_mapper m mapper =
    record {
      n = m.n;
      voices = m.voices;
      bank = m.bank;
      config = m.config;
      mapper = mapper;
      crossfade_t_q8 = m.crossfade_t_q8;
      crossfade_step_q8 = m.crossfade_step_q8;
      crossfade_active = m.crossfade_active;
      stealing_policy = m.stealing_policy;
    }

-- the duty of a mono frame's sample: the mapper takes it
unfoldable pub duty_frame_by : Marks → Mixer → DutyFrame
duty_frame_by r m =
    let f = mono_frame_by r m in
    let d = mapped f.mixer.mapper f.pcm f.mixer.config.pwm_period in
    record { mixer = with_mapper f.mixer d.mapper; duty = d.duty }

-- document 01's
abbrev pub duty_frame : Mixer → DutyFrame
duty_frame m = duty_frame_by old_marks m

abbrev pub ValidMono : MonoFrame → Type 0
ValidMono f = Valid f.mixer

abbrev pub ValidDuty : DutyFrame → Type 0
ValidDuty f = Valid f.mixer

abbrev pub ValidStereo : StereoFrame → Type 0
ValidStereo f = Valid f.mixer

-- ---- stereo

abbrev pub left_of : Option (ℤ × ℤ) → ℤ
left_of (Some (l, r)) = l
left_of None = pos 0

abbrev pub right_of : Option (ℤ × ℤ) → ℤ
right_of (Some (l, r)) = r
right_of None = pos 0

-- the sum of a side over the voices, undivided
unfoldable pub side_total : (Option (ℤ × ℤ) → ℤ) → List (Option (ℤ × ℤ)) → ℤ
side_total side [] = pos 0
side_total side (g ∷ gs) = side g +ℤ side_total side gs

-- voices' samples on both sides, each by the rule of its place
abbrev pub pairs_of : Marks → List Voice → List (Option (ℤ × ℤ))
pairs_of r vs = map_at (λ i v. pair_by (rule_at r i) v) 0 vs

abbrev pub stereo_given : Marks → Mixer → StereoFrame
stereo_given r m =
    record {
      mixer = sampled m.n m;
      left = leveled r m (side_total left_of (pairs_of r (voices_of m)));
      right = leveled r m (side_total right_of (pairs_of r (voices_of m)));
    }

-- "Stereo goes through the same steps but ignores t and sums all voices undivided, after pan; each side is limited, given master gain"
unfoldable pub stereo_frame_by : Marks → Mixer → StereoFrame
stereo_frame_by r m = stereo_given (marks_advanced m r) (enveloped (advanced_by r.sounds_on m))

-- document 01's
abbrev pub stereo_frame : Mixer → StereoFrame
stereo_frame m = stereo_frame_by old_marks m
