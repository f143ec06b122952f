-- Each definition keeps a state valid. Assumes nothing.
use Rattle.std.specs.Prelude.{Ok}
use Prim.Native.Nat.{ℕ, zero, suc, ◌≤◌, ◌<◌}
use native.Mathlib.Omega.{arith}
use mathlib.Core.Path.{◌≡◌, refl}
use mathlib.Core.Bool.{Bool, true, false, cond}
use mathlib.Core.List.{List}
use borrow.Author.Tests.{eq-eqb, ne_eqb, le-ltb}
use lib.Dec.{eqb, ltb}
use lib.ListN.{length, get_or, set, length-set}
use lib.Seq.{drop-set-lt}
use Rattle.laws.proofs.Lists.{get_d_any, all_set}
use Rattle.bank.specs.Search.{found_given}
use Rattle.bank.specs.declared.EffectEntry.{EffectEntry}
use Rattle.envelope.specs.declared.AdsrSpec.{AdsrSpec}
use Rattle.error.specs.Told.{Told, value, refused, and_then}
use Rattle.start.specs.Starts.{entry_start_under, request_start_under}
use Rattle.voice.specs.Voices as S
use Rattle.voice.specs.declared.Voice.{Voice}
use Rattle.voice.proofs.Laws as L
use Rattle.mixer.specs.declared.Changed.{Changed}
use Rattle.mixer.specs.declared.Mixer.{Mixer}
use Rattle.mixer.specs.Mixers.{Valid, with_voices, unchanged}
use Rattle.error.proofs.Told.{refusal-number, value-is, not-refused}
use Rattle.start.proofs.Laws.{at-rate}
use Rattle.config.proofs.Laws.{step-least}
use Rattle.mixer.proofs.Laws.{valid-voice, valid-stored}
use Rattle.allocate.proofs.Choice.{allocated-below}
use Rattle.play.specs.Plays.{first_sounding}
use Rattle.play.specs.Fades.{first_released, begun, faded_by, faded_to, faded_under, faded_on_by, faded_on}

pub valid-first : {m : Mixer} (v : Voice) → Valid m → S.Valid v → Valid (first_sounding m v)
unfolding first_sounding
valid-first {m} v h k = by_count m.n refl
  where
    by_count : (n : ℕ) → m.n ≡ n → Valid (cond (eqb n 0) m (with_voices m (set m.voices 0 v)))
    by_count zero e = h
    by_count (suc n) e = rw (ne_eqb (suc n) 0 (λ z. omega arith)) (valid-stored 0 v h (omega arith) k)

pub first-there : (m : Mixer) (v : Voice) → 0 < m.n → first_sounding m v ≡ with_voices m (set m.voices 0 v)
unfolding first_sounding
first-there m v h = rw (ne_eqb m.n 0 (λ e. omega arith))

pub first-none : (m : Mixer) (v : Voice) → m.n ≤ 0 → first_sounding m v ≡ m
unfolding first_sounding
first-none m v h = rw (eq-eqb m.n 0 (omega arith))

-- ---- beginning a fade
pub valid-released : {m : Mixer} → Valid m → 2 ≤ m.n → Valid (first_released m)
unfolding first_released
valid-released {m} h k =
    let d = S.silent_voice 0 in
    valid-stored 0 (S.released_voice (get_or m.voices 0 d)) h (omega arith) (L.valid-released (valid-voice 0 d h (omega arith)))

pub released-there : (m : Mixer) (d : Voice) → Valid m → 2 ≤ m.n → first_released m ≡ with_voices m (set m.voices 0 (S.released_voice (get_or m.voices 0 d)))
unfolding first_released
released-there m d h k =
    let b : 0 < length m.voices = omega (arith, h.full) in
    rw (get_d_any m.voices 0 (S.silent_voice 0) d b)

pub released-count : (m : Mixer) → (first_released m).n ≡ m.n
unfolding first_released
released-count m = refl

pub valid-begun : {m : Mixer} (v : Voice) (step : ℕ) → Valid m → 2 ≤ m.n → 1 ≤ step → S.Valid v → Valid (begun m v step)
unfolding begun
valid-begun {m} v step h k l g =
    record {
      few = h.few;
      full = rw (length-set, h.full);
      each = all_set S.Valid m.voices 1 v h.each g;
      rest = rw (drop-set-lt m.n m.voices 1 v (omega arith), h.rest);
      bank = h.bank;
      tuned = h.tuned;
      rate = h.rate;
      period = h.period;
      mapper = h.mapper;
      fade = λ e. (k, l);
    }

-- a fade that is turned down before its entry start has changed nothing; one that is turned down there has released voice 0, and no more
module _ (parted : Bool) (m : Mixer) (bytes : List ℕ) (id ms : ℕ) (adsr : AdsrSpec) (n : ℕ) (two : 2 ≤ m.n) where
  pub refused-before : found_given m.bank bytes id ≡ refused n → faded_under parted m bytes id ms adsr ≡ unchanged m n
  unfolding faded_under
  refused-before e = rw (le-ltb m.n 2 two, e)

  pub refused-there : (entry : EffectEntry) → found_given m.bank bytes id ≡ value entry → entry_start_under parted m.bank bytes entry adsr 128 ≡ refused n
      → faded_under parted m bytes id ms adsr ≡ unchanged (first_released m) n
  unfolding faded_under faded_by
  refused-there entry e s = rw (le-ltb m.n 2 two, e, s)

-- ---- the second fade call: it is turned down, by the old call's number, and has changed nothing, or it does what the old call does
pub data OnOrNot (m : Mixer) (old on : Changed) : Type 0 where
  turned : (n : ℕ) → on ≡ unchanged m n → old.outcome ≡ on.outcome → OnOrNot m old on
  began : on.outcome ≡ (Ok tt) → on ≡ old → OnOrNot m old on

pub on-or-not : (m : Mixer) (bytes : List ℕ) (id ms : ℕ) (adsr : AdsrSpec) → OnOrNot m (faded_under true m bytes id ms adsr) (faded_on m bytes id ms adsr)
unfolding faded_under faded_on faded_by request_start_under
on-or-not m bytes id ms adsr = by_count (ltb m.n 2)
  where
    by-start : (s : Told Voice) → OnOrNot m (faded_by (first_released m) ms s) (faded_on_by m ms s)
    by-start (refused n) = turned n refl refl
    by-start (value v) = began refl refl

    by-entry : (t : Told EffectEntry)
        → OnOrNot m (faded_to true m bytes ms adsr t) (faded_on_by m ms (and_then t (λ entry. entry_start_under true m.bank bytes entry adsr 128)))
    by-entry (refused n) = turned n refl refl
    by-entry (value entry) = by-start (entry_start_under true m.bank bytes entry adsr 128)

    by_count : (t : Bool)
        → OnOrNot m (cond t (unchanged m 5) (faded_to true m bytes ms adsr (found_given m.bank bytes id)))
        (cond t (unchanged m 5)
        (faded_on_by m ms (and_then (found_given m.bank bytes id) (λ entry. entry_start_under true m.bank bytes entry adsr 128))))
    by_count true = turned 5 refl refl
    by_count false = by-entry (found_given m.bank bytes id)

pub ruleset placing = (valid-stored, allocated-below, refusal-number)

-- what the tactics of a voice put first, and of a fade that begins, apply
pub ruleset sounding = (valid-first, first-there, first-none)

pub ruleset started = (at-rate, value-is, not-refused)

pub ruleset fading = (valid-voice, valid-released, released-there, released-count, valid-begun, step-least, refusal-number)
