-- Each call that lets a fade go on leaves its fields; a fade is turned down, or has begun. Assumes nothing.
use Rattle.std.specs.Prelude.{None, Option, Some}
use Prim.Native.Nat.{ℕ}
use mathlib.Core.Path.{◌≡◌, refl, sym, ◌∙◌}
use mathlib.Core.Bool.{Bool, true, false, cond}
use mathlib.Core.List.{List}
use lib.Dec.{eqb, ltb}
use lib.ListN.{set}
use Rattle.bank.specs.Banks.{bank_of}
use Rattle.bank.specs.Search.{found_given}
use Rattle.bank.specs.declared.EffectEntry.{EffectEntry}
use Rattle.bank.specs.declared.SoundBank.{SoundBank}
use Rattle.config.specs.Config.{fade_step}
use Rattle.envelope.specs.declared.AdsrSpec.{AdsrSpec}
use Rattle.error.specs.Told.{told, Told, value, refused}
use Rattle.frame.specs.Lasting.{SameFade}
use Rattle.laws.proofs.Bools.{never}
use Rattle.mixer.specs.Mixers.{with_voices, unchanged, voice_read, panned_at, panned, with_master_gain, banked_by, banked}
use Rattle.mixer.specs.declared.Changed.{Changed}
use Rattle.mixer.specs.declared.Mixer.{Mixer}
use Rattle.play.specs.Fades.{first_released, begun, faded_by, faded_to, faded_under, faded}
use Rattle.play.specs.Plays.{first_sounding, toned, poly_bleped}
use Rattle.requests.proofs.One.{rest-one}
use Rattle.start.specs.Starts.{entry_start}
use Rattle.voice.specs.declared.Voice.{Voice}
use Rattle.steps.specs.Steps.{Call, play, tone, poly_blep, bank, pan, master_gain, stop, fade, look, called_mixer, turned_down, goes_on_from}

pub same : (m : Mixer) → SameFade m m
same m = record { active = refl; t = refl; step = refl }

same-voices : (m : Mixer) (vs : List Voice) → SameFade (with_voices m vs) m
same-voices m vs = record { active = refl; t = refl; step = refl }

first-leaves : (m : Mixer) (v : Voice) → SameFade (first_sounding m v) m
unfolding first_sounding
first-leaves m v = by_count (eqb m.n 0)
  where
    by_count : (t : Bool) → SameFade (cond t m (with_voices m (set m.voices 0 v))) m
    by_count true = same m
    by_count false = same-voices m (set m.voices 0 v)

bank-leaves : (m : Mixer) (b : Told SoundBank) → SameFade (banked_by m b).mixer m
bank-leaves m (refused n) = same m
bank-leaves m (value b) = record { active = refl; t = refl; step = refl }

pan-leaves : (m : Mixer) (i q : ℕ) (v : Option Voice) → SameFade (panned_at m i q v) m
pan-leaves m i q (Some v) = record { active = refl; t = refl; step = refl }
pan-leaves m i q None = same m

gain-leaves : (m : Mixer) (gain : ℕ) → SameFade (with_master_gain m gain) m
unfolding with_master_gain
gain-leaves m gain = record { active = refl; t = refl; step = refl }

-- a fade is turned down, and leaves the fade's fields, or it has begun
pub data Fading (m : Mixer) (ms : ℕ) (c : Changed) : Type 0 where
  down : turned_down (told c.outcome) ≡ true → SameFade c.mixer m → Fading m ms c
  begins : turned_down (told c.outcome) ≡ false → (v : Voice) → c.mixer ≡ begun (first_released m) v (fade_step ms m.config.sample_rate_hz) → Fading m ms c

released-leaves : (m : Mixer) → SameFade (first_released m) m
unfolding first_released
released-leaves m = record { active = refl; t = refl; step = refl }

pub fading-by : (m : Mixer) (bytes : List ℕ) (id ms : ℕ) (adsr : AdsrSpec) → Fading m ms (faded m bytes id ms adsr)
unfolding faded_under faded_by first_released
fading-by m bytes id ms adsr = by_count (ltb m.n 2)
  where
    by-start : (s : Told Voice) → Fading m ms (faded_by (first_released m) ms s)
    by-start (refused n) = down refl (released-leaves m)
    by-start (value v) = begins refl v refl

    by-entry : (r : Told EffectEntry) → Fading m ms (faded_to false m bytes ms adsr r)
    by-entry (refused n) = down refl (same m)
    by-entry (value entry) = by-start (entry_start m.bank bytes entry adsr 128)

    by_count : (t : Bool) → Fading m ms (cond t (unchanged m 5) (faded_to false m bytes ms adsr (found_given m.bank bytes id)))
    by_count true = down refl (same m)
    by_count false = by-entry (found_given m.bank bytes id)

-- one that is turned down may have released voice 0, and no more
fade-leaves : (m : Mixer) (ms : ℕ) (c : Changed) → Fading m ms c → turned_down (told c.outcome) ≡ true → SameFade c.mixer m
fade-leaves m ms c (down d f) g = f
fade-leaves m ms c (begins d v e) g = never (sym d ∙ g)

-- ---- every call
pub leaves : (c : Call) (m : Mixer) → goes_on_from c m ≡ true → SameFade (called_mixer c m) m
unfolding toned poly_bleped panned banked
leaves (play bytes r) m g = rw (rest-one m bytes r) (same-voices m _)
leaves (tone hz ms waveform) m g = first-leaves m _
leaves (poly_blep hz ms waveform) m g = first-leaves m _
leaves (bank rate count len) m g = bank-leaves m (bank_of rate count len)
leaves (pan i q) m g = pan-leaves m i q (voice_read m i)
leaves (master_gain gain) m g = gain-leaves m gain
leaves stop m g = never g
leaves (fade bytes id ms adsr) m g = fade-leaves m ms (faded m bytes id ms adsr) (fading-by m bytes id ms adsr) g
leaves look m g = same m
