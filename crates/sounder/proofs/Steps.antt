-- Each of document 01's calls of the box does to its fade what document 01's does, and the second fade call begins one or does nothing; so a fade of
-- either call takes its count of frames. Assumes nothing.
use Rattle.std.specs.Prelude.{Result}
use Prim.Native.Nat.{ℕ}
use mathlib.Core.Path.{◌≡◌, refl, ap, sym, ◌∙◌}
use mathlib.Core.Bool.{true, false}
use mathlib.Core.List.{List, [], map}
use lib.ListN.{replicate}
use Rattle.config.specs.Config.{fade_step}
use Rattle.entering.specs.Lined.{Valid}
use Rattle.entering.specs.declared.Lined.{Lined}
use Rattle.envelope.specs.declared.AdsrSpec.{AdsrSpec}
use Rattle.error.specs.Told.{told, passed}
use Rattle.frame.specs.Fades.{advanced}
use Rattle.frame.specs.Lasting.{frames_left, SameFade, Step, frame, call, Lawful, after_all, unbroken, Lasts}
use Rattle.laws.specs.Runs.{after}
use Rattle.laws.proofs.Bools.{never}
use Rattle.marks.specs.Marks.{settled}
use Rattle.mixer.specs.declared.Changed.{Changed}
use Rattle.mixer.specs.declared.Mixer.{Mixer}
use Rattle.play.specs.Fades as F
use Rattle.play.specs.Fades.{faded_under}
use Rattle.play.specs.Plays.{played}
use Rattle.play.proofs.Laws.{OnOrNot, turned, began, on-or-not}
use Rattle.play.proofs.Parted.{same-fade, fade-accepted}
use Rattle.requests.proofs.One.{rest-one}
use Rattle.spans.proofs.Fades.{voices-fade, played-fade, framed-fade}
use Rattle.start.specs.declared.Request.{Request}
use Rattle.steps.specs.Steps as S01
use Rattle.steps.specs.Steps.{Frame, mono, duty, stereo, play, tone, poly_blep, bank, pan, master_gain, stop, fade, look, turned_down, called_mixer, ByRule}
use Rattle.steps.proofs.Calls.{same}
use Rattle.steps.proofs.Steps as S
use Rattle.sounder.specs.Calls.{faded, faded_on}
use Rattle.sounder.specs.Requests.{player, played_all}
use Rattle.sounder.specs.Steps.{frame_step, Lent, framed, Call, by01, fade_on, leave, withdraw, called01, called, goes_on, box, FadeTakes, FadeOnTakes}
use Rattle.error.specs.declared.AudioError.{AudioError}

-- a frame advances the fade, whoever goes in before it
by_kind : (f : Frame) (bytes : List ℕ) (s : Lined) → SameFade (frame_step f bytes s).present.mixer (advanced s.present.mixer)
by_kind mono bytes s = framed-fade mono bytes s
by_kind duty bytes s = framed-fade duty bytes s
by_kind stereo bytes s = framed-fade stereo bytes s

advances : (f : Lent) (s : Lined) → SameFade (framed f s).present.mixer (advanced s.present.mixer)
advances f s = by_kind f.kind f.bytes s

-- whichever voice a request gets, the fade's fields stay
plays : (s : Lined) (bytes : List ℕ) (r : Request) → SameFade (called01 (play bytes r) s).present.mixer (played s.present.mixer bytes r).mixer
plays s bytes r =
    let f = played-fade s.present bytes r in
    let g = voices-fade {m = s.present.mixer} (rest-one s.present.mixer bytes r) in
    record { active = f.active ∙ sym g.active; t = f.t ∙ sym g.t; step = f.step ∙ sym g.step }

-- document 01's calls of the box; its frames by those that are lent no bytes, which no law of a call looks at
abbrev stepper : S01.Stepper Lined
stepper = record { mixer = λ s. s.present.mixer; framed = λ f s. framed (record { kind = f; bytes = [] }) s; called = called01 }

calls : (c : S01.Call) (s : Lined) → SameFade (called01 c s).present.mixer (called_mixer c s.present.mixer)
unfolding settled
calls (play bytes r) s = plays s bytes r
calls (tone hz ms waveform) s = same _
calls (poly_blep hz ms waveform) s = same _
calls (bank rate count len) s = same _
calls (pan i q) s = same _
calls (master_gain gain) s = same _
calls stop s = same _
calls (fade bytes id ms adsr) s = rw (same-fade true false s.present.mixer bytes id ms adsr).mixer (same _)
calls look s = same _

by-rule : ByRule stepper
by-rule = record { advances = λ f s. by_kind f [] s; calls = calls }

-- the second fade call: turned down it changes nothing, else it begins a fade
on-leaves : (bytes : List ℕ) (id ms : ℕ) (adsr : AdsrSpec) (s : Lined) → goes_on (fade_on bytes id ms adsr) s ≡ true
    → SameFade (called (fade_on bytes id ms adsr) s).present.mixer s.present.mixer
unfolding settled
on-leaves bytes id ms adsr s g = by_call (on-or-not s.present.mixer bytes id ms adsr)
  where
    by_call : OnOrNot s.present.mixer (faded_under true s.present.mixer bytes id ms adsr) (F.faded_on s.present.mixer bytes id ms adsr)
        → SameFade (F.faded_on s.present.mixer bytes id ms adsr).mixer s.present.mixer
    by_call (turned n e o) = rw e (same _)
    by_call (began d e) = never (sym (ap (λ (o : Result (Unit {0}) AudioError). turned_down (told o)) d) ∙ g)

leaves : (c : Call) (s : Lined) → goes_on c s ≡ true → SameFade (called c s).present.mixer s.present.mixer
leaves (by01 c) s g = (S.lawful stepper by-rule).leaves c s g
leaves (fade_on bytes id ms adsr) s g = on-leaves bytes id ms adsr s g
leaves (leave label r) s g = same _
leaves (withdraw label) s g = same _

pub box-lawful : Lawful box
box-lawful = record { advances = advances; leaves = leaves }

-- ---- T-02
module _ (s : Lined) (bytes : List ℕ) (id ms : ℕ) (adsr : AdsrSpec) where
  abbrev Begun : Mixer → Type 0
  Begun after = S.Begins after (F.first_released s.present.mixer) (fade_step ms s.present.mixer.config.sample_rate_hz)

  old-begins : told (faded_under true s.present.mixer bytes id ms adsr).outcome ≡ passed → Begun (faded_under true s.present.mixer bytes id ms adsr).mixer
  unfolding settled
  old-begins a = S.fade-begins stepper by-rule s bytes id ms adsr (fade-accepted true false s.present.mixer bytes id ms adsr a)

  on-begins : told (F.faded_on s.present.mixer bytes id ms adsr).outcome ≡ passed → Begun (F.faded_on s.present.mixer bytes id ms adsr).mixer
  on-begins a = by_call (on-or-not s.present.mixer bytes id ms adsr)
    where
      by_call : OnOrNot s.present.mixer (faded_under true s.present.mixer bytes id ms adsr) (F.faded_on s.present.mixer bytes id ms adsr)
          → Begun (F.faded_on s.present.mixer bytes id ms adsr).mixer
      by_call (turned n e o) = never (sym (ap turned_down a) ∙ ap (λ (c : Changed). turned_down (told c.outcome)) e)
      by_call (began d e) = rw e (old-begins (rw e at a))

  pub fade-takes : told (faded s bytes id ms adsr).gave ≡ passed → FadeTakes s bytes id ms adsr
  unfolding settled
  fade-takes a = let f = old-begins a in S.begun-takes box box-lawful s _ ms _ f.voice f.same

  pub fade-on-takes : told (faded_on s bytes id ms adsr).gave ≡ passed → FadeOnTakes s bytes id ms adsr
  unfolding settled
  fade-on-takes a = let f = on-begins a in S.begun-takes box box-lawful s _ ms _ f.voice f.same

-- of a fade under way, what is left of it
pub fade-lasts : (s : Lined) (ss : List (Step Lent Call)) → Valid s → unbroken box ss s ≡ true → Lasts box (frames_left s.present.mixer) s ss
fade-lasts s ss h u = S.fade-lasts box box-lawful s ss h.present.inside u

-- ---- a buffer call is so many frames (`Frames` Fills, Levels), a list of requests so many plays (`Requests` played_all)
pub frame-run : (f : Lent) (n : ℕ) (s : Lined) → after_all box (replicate n (frame f)) s ≡ after (frame_step f.kind f.bytes) n s
frame-run f n s = S.frame-run box (λ s. s) f (frame_step f.kind f.bytes) (λ i. refl) n s

pub play-run : (bytes : List ℕ) (rs : List Request) (s : Lined) → after_all box (map (λ r. call (by01 (play bytes r))) rs) s ≡ played_all s bytes rs
play-run bytes rs s = S.play-run box player (λ bytes r. by01 (play bytes r)) (λ bytes r s. refl) bytes rs s
