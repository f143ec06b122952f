-- Requests that go in at a frame do not move the fade. Assumes nothing.
use Prim.Native.Nat.{ℕ, ◌+◌, min}
use mathlib.Core.Path.{◌≡◌, refl, ap, ◌∙◌}
use mathlib.Core.Bool.{Bool, true, false, cond}
use mathlib.Core.List.{List}
use lib.Dec.{eqb}
use Rattle.allocate.specs.Allocation.{place_of}
use Rattle.entering.specs.Entering.{entered_in}
use Rattle.entering.specs.declared.Lined.{Lined}
use Rattle.entering.proofs.Laws.{enter-keeps}
use Rattle.frame.specs.Fades.{fade_ended_with, fade_ended_by, fade_at, next_t, advanced_by, advanced}
use Rattle.frame.specs.Lasting.{SameFade}
use Rattle.marks.specs.Marks.{settled}
use Rattle.marks.specs.declared.Present.{Present}
use Rattle.mixer.specs.Mixers.{with_voices}
use Rattle.mixer.specs.declared.Mixer.{Mixer}
use Rattle.requests.specs.Presents.{played_present}
use Rattle.requests.proofs.One.{rest-by}
use Rattle.requests.proofs.Presents.{lawful}
use Rattle.start.specs.Starts.{request_start}
use Rattle.start.specs.declared.Request.{Request}
use Rattle.steps.specs.Steps.{Frame, mono, duty, stereo}
use Rattle.frame.proofs.Fades.{mono-fade, stereo-fade}
use Rattle.steps.proofs.Frames.{duty-fade}
use Rattle.voice.specs.declared.Voice.{Voice}
use Rattle.spans.specs.Frames.{frame_step, framed_lined}

both : {a b c : Mixer} → SameFade a b → SameFade b c → SameFade a c
both f g = record { active = f.active ∙ g.active; t = f.t ∙ g.t; step = f.step ∙ g.step }

-- an advance depends on the fade's fields alone
advanced-same : {a b : Mixer} → SameFade a b → SameFade (advanced a) (advanced b)
unfolding advanced_by fade_ended_with fade_at
advanced-same {a} {b} f =
    let n : next_t a ≡ next_t b = ap (λ (t : ℕ). min 255 (t + a.crossfade_step_q8)) f.t ∙ ap (λ (s : ℕ). min 255 (b.crossfade_t_q8 + s)) f.step in
    alike f.active (ap (λ (t : ℕ). eqb t 255) n) n
  where
    by-case : (x y : Bool) (t : ℕ) → SameFade (cond x (cond y (fade_ended_by false a) (fade_at a t)) a) (cond x (cond y (fade_ended_by false b) (fade_at b t)) b)
    by-case true true t = record { active = refl; t = refl; step = f.step }
    by-case true false t = record { active = f.active; t = refl; step = f.step }
    by-case false y t = f

    alike : {x x' y y' : Bool} {t t' : ℕ} → x ≡ x' → y ≡ y' → t ≡ t'
        → SameFade (cond x (cond y (fade_ended_by false a) (fade_at a t)) a) (cond x' (cond y' (fade_ended_by false b) (fade_at b t')) b)
    alike {x} {x'} {y} {y'} {t} {t'} e g n = rw (e, g, n) (by-case x' y' t')

-- whichever voice a request gets, nothing but voices changes
pub voices-fade : {m a : Mixer} {vs : List Voice} → a ≡ with_voices m vs → SameFade a m
voices-fade e =
    record {
      active = ap (λ (x : Mixer). x.crossfade_active) e;
      t = ap (λ (x : Mixer). x.crossfade_t_q8) e;
      step = ap (λ (x : Mixer). x.crossfade_step_q8) e;
    }

pub played-fade : (p : Present) (bytes : List ℕ) (r : Request) → SameFade (played_present p bytes r).present.mixer p.mixer
played-fade p bytes r =
    let l = lawful true in
    voices-fade (l.leaves p bytes r ∙ rest-by p.mixer (place_of (l.choice p r.priority)) (request_start p.mixer.bank bytes r))

pub enter-fade : (bytes : List ℕ) (s : Lined) → SameFade (entered_in bytes s).present.mixer s.present.mixer
enter-fade bytes s =
    enter-keeps bytes (λ p. SameFade p.mixer s.present.mixer) (λ p r e h. both (played-fade p bytes r) h) s (record { active = refl; t = refl; step = refl })

step-fade : (f : Frame) (p : Present) → SameFade (frame_step f p).mixer (advanced p.mixer)
unfolding settled
step-fade mono p = mono-fade p.marks p.mixer
step-fade duty p = duty-fade p.marks p.mixer
step-fade stereo p = stereo-fade p.marks p.mixer

-- a frame advances the fade, whoever goes in before it
pub framed-fade : (f : Frame) (bytes : List ℕ) (s : Lined) → SameFade (framed_lined (frame_step f) bytes s).present.mixer (advanced s.present.mixer)
framed-fade f bytes s = both (step-fade f (entered_in bytes s).present) (advanced-same (enter-fade bytes s))
