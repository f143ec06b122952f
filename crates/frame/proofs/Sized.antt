-- What settling asks of a state, and that every frame keeps it. Assumes nothing.
use Prim.Native.Nat.{ℕ, ◌≤◌}
use native.Mathlib.Omega.{arith}
use mathlib.Core.Path.{◌≡◌, refl, ◌∙◌}
use mathlib.Core.Bool.{Bool, true, false, cond}
use mathlib.Core.List.{map}
use lib.Dec.{eqb}
use lib.ListN.{length, length-set}
use Rattle.laws.proofs.Bools.{never}
use Rattle.laws.proofs.Lists.{length-map_first}
use Rattle.marks.specs.Marks as K
use Rattle.marks.specs.declared.Present.{Present}
use Rattle.mixer.specs.declared.Mixer.{Mixer}
use Rattle.voice.specs.Voices.{audible, ticked_voice}
use Rattle.frame.specs.Fades.{fade_ended_with, fade_ended_by, fade_at, next_t, advanced_by, marks_advanced}
use Rattle.frame.specs.Frames.{enveloped, sampled, sampled_count, mono_frame_by, duty_frame_by, stereo_frame_by}
use Rattle.frame.specs.Presents.{mono_next, duty_next, stereo_next}
use Rattle.frame.proofs.Alike.{marks-full, framed-full, advanced-order, framed-order}

pub record Sized (m : Mixer) : Type 0 where
  pub few : m.n ≤ 16
  pub full : length m.voices ≡ 16
  pub fade : m.crossfade_active ≡ true → 2 ≤ m.n

pub sized-advanced : (on : Bool) {m : Mixer} → Sized m → Sized (advanced_by on m)
unfolding advanced_by fade_ended_with fade_at
sized-advanced on {m} h = by-active m.crossfade_active
  where
    ended : Sized (fade_ended_by on m)
    ended = record { few = h.few; full = rw (length-set, length-set) h.full; fade = λ e. never e }

    by_end : (e : Bool) → Sized (cond e (fade_ended_by on m) (fade_at m (next_t m)))
    by_end true = ended
    by_end false = record { few = h.few; full = h.full; fade = h.fade }

    by-active : (a : Bool) → Sized (cond a (cond (eqb (next_t m) 255) (fade_ended_by on m) (fade_at m (next_t m))) m)
    by-active true = by_end (eqb (next_t m) 255)
    by-active false = h

pub sized-enveloped : {m : Mixer} → Sized m → Sized (enveloped m)
unfolding enveloped
sized-enveloped {m} h = record { few = h.few; full = length-map_first ticked_voice m.n m.voices ∙ h.full; fade = h.fade }

pub sampled-few : {m : Mixer} → Sized m → sampled_count m ≤ m.n
sampled-few {m} h = go m.crossfade_active refl
  where
    go : (a : Bool) → m.crossfade_active ≡ a → cond a 2 m.n ≤ m.n
    go true e = h.fade e
    go false e = omega arith

-- of a state of the present rules
pub record Ready (p : Present) : Type 0 where
  pub sized : Sized p.mixer
  pub marked : length p.marks.voices ≡ 16
  pub order : K.Ordered (K.heard_of p) p.marks.voices

pub valid-ready : (p : Present) → K.Valid p → Ready p
valid-ready p v =
    record { sized = record { few = v.inside.few; full = v.inside.full; fade = λ a. (v.inside.fade a).0 }; marked = v.full; order = v.order }

module _ (p : Present) (h : Ready p) where
  abbrev next : Mixer
  next = advanced_by p.marks.sounds_on p.mixer

  next-sized : Sized next
  next-sized = sized-advanced p.marks.sounds_on h.sized

  sampled-sized : (c : ℕ) → Sized (sampled c (enveloped next))
  unfolding sampled enveloped
  sampled-sized c =
      let a = next-sized in
      record { few = a.few; full = framed-full c next ∙ a.full; fade = a.fade }

  framed-ordered : (c : ℕ) → c ≤ next.n
      → K.Ordered (map audible (sampled c (enveloped next)).voices) (marks_advanced p.mixer p.marks).voices
  framed-ordered c l =
      framed-order c next (marks_advanced p.mixer p.marks).voices l (advanced-order p.marks.sounds_on p.mixer p.marks h.sized.full h.marked h.order)

  few : sampled_count (enveloped next) ≤ next.n
  unfolding enveloped
  few = sampled-few (sized-enveloped next-sized)

  pub mono-ready : Ready (mono_next p)
  unfolding mono_frame_by
  mono-ready =
      let c = sampled_count (enveloped next) in
      record { sized = sampled-sized c; marked = marks-full p.mixer p.marks ∙ h.marked; order = framed-ordered c few }

  pub duty-ready : Ready (duty_next p)
  unfolding duty_frame_by mono_frame_by
  duty-ready =
      let c = sampled_count (enveloped next) in
      let s = sampled-sized c in
      record {
        sized = record { few = s.few; full = s.full; fade = s.fade };
        marked = marks-full p.mixer p.marks ∙ h.marked;
        order = framed-ordered c few;
      }

  pub stereo-ready : Ready (stereo_next p)
  unfolding stereo_frame_by enveloped
  stereo-ready =
      let c = next.n in
      record { sized = sampled-sized c; marked = marks-full p.mixer p.marks ∙ h.marked; order = framed-ordered c (omega arith) }
