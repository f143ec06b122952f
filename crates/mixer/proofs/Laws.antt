-- Each definition keeps a state valid, and what a turn of each loop over the voices does. Assumes nothing.
use Rattle.std.specs.Prelude.{None, Some}
use Prim.Native.Nat.{ℕ, zero, suc, ◌+◌, ◌≤◌, ◌<◌}
use native.Mathlib.Omega.{arith}
use mathlib.Core.Path.{◌≡◌, refl, ap}
use mathlib.Core.Bool.{true, false}
use mathlib.Core.List.{List, [], ◌∷◌, ◌++◌}
use borrow.Author.Tests.{lt-ltb, le-ltb}
use lib.ListN.{length, get_or, take, drop, set, length-set}
use lib.Seq.{drop-set-lt}
use Rattle.bank.specs.Banks as B
use Rattle.bank.specs.declared.SoundBank.{SoundBank}
use Rattle.config.specs.declared.AudioConfig.{AudioConfig}
use Rattle.laws.specs.Lists.{All, map_first, only}
use Rattle.laws.proofs.Bools.{never}
use Rattle.laws.proofs.Lists.{map_first-step, length-map_first, drop-map_first, drop-take-cons, drop-take-end, get_d_any, all_set, all-get, all-map_first, all_replicate}
use Rattle.output.proofs.Laws as O
use Rattle.output.specs.declared.DutyMode.TheVariants as D
use Rattle.voice.specs.Voices as S
use Rattle.voice.specs.declared.Voice.{Voice}
use Rattle.voice.proofs.Laws as L
use Rattle.mixer.specs.declared.Mixer.{Mixer}
use Rattle.mixer.specs.declared.VoiceStealingPolicy.{VoiceStealingPolicy}
use Rattle.mixer.specs.declared.VoiceStealingPolicy.TheVariants as P
use Rattle.mixer.specs.Mixers.{Valid, with_voices, holding_bank, fresh, closed, with_master_gain, voice_read, pan_read, panned, stopped}

-- a voice of a valid state is valid
pub valid-voice : {m : Mixer} (i : ℕ) (d : Voice) → Valid m → i < m.n → S.Valid (get_or m.voices i d)
valid-voice {m} i d h k = all-get S.Valid m.voices i d h.each (omega (arith, h.few, h.full))

-- a valid voice stored at a place below n
pub valid-stored : {m : Mixer} (i : ℕ) (v : Voice) → Valid m → i < m.n → S.Valid v → Valid (with_voices m (set m.voices i v))
valid-stored {m} i v h k g =
    record {
      few = h.few;
      full = rw (length-set, h.full);
      each = all_set S.Valid m.voices i v h.each g;
      rest = rw (drop-set-lt m.n m.voices i v k, h.rest);
      bank = h.bank;
      tuned = h.tuned;
      rate = h.rate;
      period = h.period;
      mapper = h.mapper;
      fade = h.fade;
    }

-- the voice that is read at a place, under any default
pub read-there : (m : Mixer) (i : ℕ) (d : Voice) → Valid m → i < m.n → voice_read m i ≡ Some (get_or m.voices i d)
unfolding voice_read
read-there m i d h k =
    let b : i < length m.voices = omega (arith, h.few, h.full) in
    rw (lt-ltb i m.n k, get_d_any m.voices i (S.silent_voice 0) d b)

pub read_none : (m : Mixer) (i : ℕ) → m.n ≤ i → voice_read m i ≡ None
unfolding voice_read
read_none m i h = rw (le-ltb i m.n h)

pub pan-there : (m : Mixer) (i : ℕ) (d : Voice) → Valid m → i < m.n → pan_read m i ≡ Some (get_or m.voices i d).pan_q8
unfolding pan_read
pan-there m i d h k = rw (read-there m i d h k)

pub panned-there : (m : Mixer) (i pan : ℕ) (d : Voice) → Valid m → i < m.n
    → panned m i pan ≡ with_voices m (set m.voices i (S.with_pan (get_or m.voices i d) pan))
unfolding panned
panned-there m i pan d h k = rw (read-there m i d h k)

valid-pan : (v : Voice) (pan : ℕ) → S.Valid v → S.Valid (S.with_pan v pan)
unfolding S.with_pan
valid-pan v pan h = record { rate = h.rate; source = h.source; adsr = h.adsr }

pub valid-panned : (m : Mixer) (i pan : ℕ) → Valid m → i < m.n → Valid (panned m i pan)
valid-panned m i pan h k =
    let d = S.silent_voice 0 in
    rw (panned-there m i pan d h k) (valid-stored i (S.with_pan (get_or m.voices i d) pan) h k (valid-pan (get_or m.voices i d) pan (valid-voice i d h k)))

-- a configuration that opening accepts
pub valid-fresh : (n : ℕ) (config : AudioConfig) (policy : VoiceStealingPolicy) → n ≤ 16 → config.sample_rate_hz ≤ 65537 → 2 ≤ config.pwm_period
    → Valid (fresh n config policy)
unfolding fresh
valid-fresh n config policy h k p =
    record {
      few = h;
      full = refl;
      each = all_replicate S.Valid 16 (S.silent_voice config.sample_rate_hz) (L.valid-silent k);
      rest = refl;
      bank = tt;
      tuned = tt;
      rate = k;
      period = p;
      mapper = O.valid-fresh;
      fade = λ e. never e;
    }

pub valid-gain : {m : Mixer} (gain : ℕ) → Valid m → Valid (with_master_gain m gain)
unfolding with_master_gain
valid-gain gain h =
    record {
      few = h.few;
      full = h.full;
      each = h.each;
      rest = h.rest;
      bank = h.bank;
      tuned = h.tuned;
      rate = h.rate;
      period = h.period;
      mapper = h.mapper;
      fade = h.fade;
    }

pub valid-stopped : {m : Mixer} → Valid m → Valid (stopped m)
unfolding stopped
valid-stopped {m} h =
    record {
      few = h.few;
      full = rw (length-map_first S.stopped_voice m.n m.voices, h.full);
      each = all-map_first S.Valid S.stopped_voice (λ v k. L.valid-stopped {v = v} k) m.n m.voices h.each;
      rest = rw (drop-map_first S.stopped_voice m.n m.n m.voices (omega arith), h.rest);
      bank = h.bank;
      tuned = h.tuned;
      rate = h.rate;
      period = h.period;
      mapper = O.valid-fresh;
      fade = λ e. never e;
    }

-- how many are audible; a turn of the loop that counts them, and its end
abbrev pub heard : List Voice → ℕ
heard vs = length (only S.audible vs)

module _ (n i : ℕ) (vs : List Voice) (d : Voice) (h : i < n) (k : n ≤ length vs) where
  pub count-one : S.audible (get_or vs i d) ≡ true → heard (drop i (take n vs)) ≡ suc (heard (drop (i + 1) (take n vs)))
  unfolding only
  count-one e = rw (drop-take-cons n i vs d h k, e)

  pub count_none : S.audible (get_or vs i d) ≡ false → heard (drop i (take n vs)) ≡ heard (drop (i + 1) (take n vs))
  unfolding only
  count_none e = rw (drop-take-cons n i vs d h k, e)

pub count-end : (n : ℕ) (vs : List Voice) → heard (drop n (take n vs)) ≡ 0
unfolding only
count-end n vs = rw (drop-take-end n vs)

-- a turn of a loop that replaces each voice by f of it; what is replaced and what is not yet is valid
module _ (f : Voice → Voice) where
  pub map-step : (out m : Mixer) (i : ℕ) (w d : Voice) → out ≡ with_voices m (map_first f i m.voices) → w ≡ f (get_or out.voices i d)
      → with_voices out (set out.voices i w) ≡ with_voices m (map_first f (i + 1) m.voices)
  map-step out m i w d h k = rw (k, h, map_first-step f d m.voices i)

  pub map-valid : ((v : Voice) → S.Valid v → S.Valid (f v)) → (out m : Mixer) (i j : ℕ) (d : Voice) → out ≡ with_voices m (map_first f i m.voices)
      → All S.Valid m.voices → length m.voices ≡ 16 → j < 16 → S.Valid (get_or out.voices j d)
  map-valid k out m i j d h a e l =
      let b : j < length (map_first f i m.voices) = omega (arith, length-map_first f i m.voices) in
      rw h (all-get S.Valid (map_first f i m.voices) j d (all-map_first S.Valid f k i m.voices a) b)

pub valid-closed : Valid closed
unfolding fresh
valid-closed =
    valid-fresh 0 (record { sample_rate_hz = 0; pwm_period = 2; duty_mode = D.Linear; master_gain_q8 = 0 }) P.LowestPriorityOldest (omega arith) (omega arith) (omega arith)

pub valid-holding : {m : Mixer} (b : SoundBank) → Valid m → B.Valid b → Valid (holding_bank m b)
valid-holding b h k =
    record {
      few = h.few;
      full = refl;
      each = all_replicate S.Valid 16 (S.silent_voice b.sample_rate_hz) (L.valid-silent k.rate);
      rest = refl;
      bank = k;
      tuned = refl;
      rate = k.rate;
      period = h.period;
      mapper = h.mapper;
      fade = h.fade;
    }

pub ruleset valid_states = (valid-closed, valid-fresh, valid-gain, valid-stopped, valid-holding, valid-panned)

-- the first n of a list, by themselves
pub all-front : {A : Type 0} (P : A → Type 0) (n : ℕ) (l : List A) → All P l → All P (take n l)
all-front P zero l a = tt
all-front P (suc n) [] a = tt
all-front P (suc n) (x ∷ l) a = (a.0, all-front P n l a.1)

pub first-front : {A : Type 0} (f : A → A) (n : ℕ) (l : List A) → map_first f n (take n l) ++ drop n l ≡ map_first f n l
first-front f zero l = refl
first-front f (suc n) [] = refl
first-front f (suc n) (x ∷ l) = ap (λ (r : List _). f x ∷ r) (first-front f n l)
