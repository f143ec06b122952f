-- What stands beside the voices after a stop and a bank is what settling leaves, and a fade that is refused before its entry start changes
-- nothing. Assumes nothing.
use Rattle.std.specs.Prelude.{Err, Ok}
use Prim.Native.Nat.{ℕ, zero, suc}
use mathlib.Core.Path.{◌≡◌, refl, ap, sym, ◌∙◌}
use mathlib.Core.Bool.{Bool, true, false, cond}
use lib.Dec.{ltb}
use mathlib.Core.List.{List, [], ◌∷◌}
use lib.ListN.{drop, replicate}
use Rattle.bank.specs.Banks.{bank_of}
use Rattle.bank.specs.declared.SoundBank.{SoundBank}
use Rattle.config.specs.declared.AudioConfig.{AudioConfig}
use Rattle.entering.specs.declared.Lined.{Lined}
use Rattle.envelope.specs.Adsrs as A
use Rattle.envelope.specs.declared.AdsrSpec.{AdsrSpec}
use Rattle.error.specs.Told.{told, Told, value, refused, refusal}
use Rattle.laws.specs.Lists.{All, map_first}
use Rattle.laws.proofs.Bools.{never}
use Rattle.laws.proofs.Lists.{length-map_first, all_replicate}
use Rattle.marks.specs.Marks.{Valid, beside, settled}
use Rattle.marks.specs.declared.Present.{Present}
use Rattle.marks.proofs.Laws.{silent-settled}
use Rattle.mixer.specs.Mixers as M
use Rattle.mixer.specs.declared.Mixer.{Mixer}
use Rattle.mixer.specs.declared.VoiceStealingPolicy.{VoiceStealingPolicy}
use Rattle.play.specs.Fades as F
use Rattle.play.proofs.Laws.{OnOrNot, turned, began, on-or-not}
use Rattle.steps.specs.Steps.{turned_down}
use Rattle.voice.specs.Sources.{active_source}
use Rattle.voice.specs.Voices.{audible, silent_voice, stopped_voice}
use Rattle.voice.specs.declared.Voice.{Voice}
use Rattle.sounder.specs.Calls.{changed, stopped, bank_marks, banked, faded, faded_on}
use Rattle.sounder.specs.Sounders.{with_present}

abbrev Silent : Voice → Type 0
Silent v = audible v ≡ false

pub silent : (rate : ℕ) → Silent (silent_voice rate)
unfolding audible silent_voice active_source A.active
silent rate = refl

quiet : (v : Voice) → Silent (stopped_voice v)
unfolding audible stopped_voice active_source A.active
quiet v = refl

all_drop : (n : ℕ) (vs : List Voice) → All Silent vs → All Silent (drop n vs)
all_drop zero vs a = a
all_drop (suc n) [] a = tt
all_drop (suc n) (v ∷ vs) a = all_drop n vs a.1

pub all-stopped : (n : ℕ) (vs : List Voice) → All Silent (drop n vs) → All Silent (map_first stopped_voice n vs)
all-stopped zero vs a = a
all-stopped (suc n) [] a = tt
all-stopped (suc n) (v ∷ vs) a = (quiet v, all-stopped n vs a)

-- no voice is audible after an opening, a stop or a bank
pub opened-silent : (n : ℕ) (config : AudioConfig) (policy : VoiceStealingPolicy) → All Silent (M.opened n config policy).mixer.voices
unfolding M.opened M.fresh
opened-silent n config policy = go (ltb 16 n) (ltb 65537 config.sample_rate_hz) (ltb config.pwm_period 2)
  where
    all : (rate : ℕ) → All Silent (replicate 16 (silent_voice rate))
    all rate = all_replicate Silent 16 (silent_voice rate) (silent rate)

    go : (a b c : Bool)
        → All Silent (cond a (M.not_opened 1) (cond b (M.not_opened 2) (cond c (M.not_opened 3) (record { outcome = (Ok tt); mixer = M.fresh n config policy })))).mixer.voices
    go true b c = all 0
    go false true c = all 0
    go false false true = all 0
    go false false false = all config.sample_rate_hz

pub stopped-silent : (m : Mixer) → M.Valid m → All Silent (M.stopped m).voices
unfolding M.stopped
stopped-silent m h =
    let rate = m.config.sample_rate_hz in
    let rest : All Silent (drop m.n m.voices) = rw h.rest (all_drop m.n (replicate 16 (silent_voice rate)) (all_replicate Silent 16 (silent_voice rate) (silent rate))) in
    all-stopped m.n m.voices rest

pub stopped-settled : (s : Lined) → Valid s.present
    → (stopped s).present
    ≡ settled (beside (M.stopped s.present.mixer) (record { voices = s.present.marks.voices; master = true; sounds_on = s.present.marks.sounds_on }))
unfolding M.stopped
stopped-settled s h =
    let m = s.present.mixer in
    sym (silent-settled (M.stopped m) _ (length-map_first stopped_voice m.n m.voices ∙ h.inside.full) h.full (stopped-silent m h.inside))

bank-settled : (p : Present) (b : Told SoundBank) → Valid p
    → beside (M.banked_by p.mixer b).mixer (bank_marks (M.banked_by p.mixer b).outcome p.marks) ≡ settled (beside (M.banked_by p.mixer b).mixer p.marks)
bank-settled p (refused n) h = sym h.quiet
bank-settled p (value b) h =
    let v = silent_voice b.sample_rate_hz in
    sym (silent-settled (M.holding_bank p.mixer b) p.marks refl h.full (all_replicate Silent 16 v (silent b.sample_rate_hz)))

pub banked-settled : (s : Lined) (rate count len : ℕ) → Valid s.present
    → (banked s rate count len).lined.present ≡ settled (beside (M.banked s.present.mixer rate count len).mixer s.present.marks)
unfolding M.banked
banked-settled s rate count len h = bank-settled s.present (bank_of rate count len) h

-- "A refusal changes nothing": 5 to 9, which come before voice 0 is released (`play` refused-before)
pub faded-unchanged : (s : Lined) (bytes : List ℕ) (id ms : ℕ) (adsr : AdsrSpec) (n : ℕ) → Valid s.present
    → F.faded_under true s.present.mixer bytes id ms adsr ≡ M.unchanged s.present.mixer n → faded s bytes id ms adsr ≡ changed (Err (refusal n)) s
faded-unchanged s bytes id ms adsr n h e = rw e (ap (λ (p : Present). changed (Err (refusal n)) (with_present s p)) h.quiet)

-- 10, 15 and 16, which come at its entry start (`play` refused-there): voice 0 is released, and nothing stands beside it where it is inaudible then
pub faded-released : (s : Lined) (bytes : List ℕ) (id ms : ℕ) (adsr : AdsrSpec) (n : ℕ)
    → F.faded_under true s.present.mixer bytes id ms adsr ≡ M.unchanged (F.first_released s.present.mixer) n
    → faded s bytes id ms adsr ≡ changed (Err (refusal n)) (with_present s (settled (beside (F.first_released s.present.mixer) s.present.marks)))
faded-released s bytes id ms adsr n e = rw e

-- the second fade call: "being turned down changes nothing at all", whatever the number
pub on-refused : (s : Lined) (bytes : List ℕ) (id ms : ℕ) (adsr : AdsrSpec) (n : ℕ) → Valid s.present → told (faded_on s bytes id ms adsr).gave ≡ refused n
    → (faded_on s bytes id ms adsr).lined ≡ s
on-refused s bytes id ms adsr n h e = by_call (on-or-not s.present.mixer bytes id ms adsr)
  where
    m : Mixer
    m = s.present.mixer

    by_call : OnOrNot m (F.faded_under true m bytes id ms adsr) (F.faded_on m bytes id ms adsr) → (faded_on s bytes id ms adsr).lined ≡ s
    by_call (turned k f o) = rw f (ap (with_present s) h.quiet)
    by_call (began d f) = never (ap turned_down (sym (ap told d) ∙ e))
