-- Each definition keeps an envelope valid, and an idle envelope stays as it is. Assumes nothing.
use Prim.Native.Nat.{ℕ, ◌+◌, ◌*◌, ◌≤◌, ◌<◌}
use mathlib.Core.Path.{◌≡◌, refl, sym, ap, ◌∙◌}
use mathlib.Core.Bool.{Bool, true, false, cond}
use mathlib.Core.Logic.{◌⊎◌, inl, inr}
use native.Mathlib.Nat.{le_trans, mul-le-mul_left, mul-le-mul_right}
use native.Mathlib.Omega.{arith}
use borrow.Author.Tests.{ltb-true, eqb-false, lt-ltb, le-ltb}
use lib.Dec.{ltb, eqb}
use Rattle.laws.proofs.Bools.{never}
use Rattle.envelope.specs.declared.AdsrSpec.{AdsrSpec}
use Rattle.envelope.specs.declared.Adsr.{Adsr}
use Rattle.envelope.specs.declared.AdsrPhase.{AdsrPhase}
use Rattle.envelope.specs.declared.AdsrPhase.TheVariants as P
use Rattle.envelope.specs.Adsrs.{Valid, idle_adsr, in_phase, attack_length, decay_length, release_length, began_decay, began_release, triggered, released, advanced_toward, or_at_end, ticked, ticked_in, active, active_in, running}

-- ---- 65,535 × 65,537 = 2^32 − 1
pub product-fits : {ms rate : ℕ} → ms ≤ 65535 → rate ≤ 65537 → ms * rate ≤ 4294967295
product-fits {ms} {rate} h k = le_trans (mul-le-mul_right rate h) (mul-le-mul_left 65535 k)

first : {n : ℕ} → (n ≡ 0 → ⊥) → 0 < n
first d = omega arith

pub valid-idle : {spec : AdsrSpec} {rate : ℕ} → rate ≤ 65537 → Valid (idle_adsr spec rate)
valid-idle h = record { rate = h; counts = λ e. never e }

module _ (a : Adsr) (h : a.sample_rate_hz ≤ 65537) where
  -- a phase of length n begins, or is passed over at length 0
  begun : (n : ℕ) (p q : AdsrPhase) (l m : ℕ) → running q ≡ false → Valid (cond (eqb n 0) (in_phase a q m 0 0) (in_phase a p l 0 n))
  begun n p q l m r = by-test (eqb n 0) refl
    where
      by-test : (b : Bool) → eqb n 0 ≡ b → Valid (cond b (in_phase a q m 0 0) (in_phase a p l 0 n))
      by-test true e = record { rate = h; counts = λ i. never (sym r ∙ i) }
      by-test false e = record { rate = h; counts = λ i. first (eqb-false n 0 e) }

  pub valid-began_decay : Valid (began_decay a)
  unfolding began_decay
  valid-began_decay = begun (decay_length a) P.Decay P.Sustain _ _ refl

  valid-began_release : Valid (began_release a)
  valid-began_release = begun (release_length a) P.Release P.Idle _ _ refl

pub valid-triggered : {a : Adsr} → Valid a → Valid (triggered a)
unfolding triggered
valid-triggered {a} h = by-test (eqb (attack_length a) 0) refl
  where
    b : Adsr
    b = in_phase a P.Attack 0 0 (attack_length a)

    by-test : (t : Bool) → eqb (attack_length a) 0 ≡ t → Valid (cond t (began_decay b) b)
    by-test true e = valid-began_decay b h.rate
    by-test false e = record { rate = h.rate; counts = λ i. first (eqb-false _ 0 e) }

-- a triggered envelope is not idle, whatever its lengths
pub triggered-active : (a : Adsr) → active (triggered a) ≡ true
unfolding triggered began_decay active
triggered-active a = by-test (eqb (attack_length a) 0) (eqb (decay_length a) 0)
  where
    by-test : (t u : Bool) → active_in
        (cond t (cond u (in_phase a P.Sustain a.spec.sustain_q8 0 0) (in_phase a P.Decay 0 0 (decay_length a))) (in_phase a P.Attack 0 0 (attack_length a))).phase
        ≡ true
    by-test true true = refl
    by-test true false = refl
    by-test false u = refl

-- "Release from idle does nothing"
pub released-inactive : {a : Adsr} → active a ≡ false → released a ≡ a
unfolding released
released-inactive e = rw e

pub valid-released : {a : Adsr} → Valid a → Valid (released a)
unfolding released
valid-released {a} h = by-test (active a)
  where
    by-test : (b : Bool) → Valid (cond b (began_release a) a)
    by-test true = valid-began_release a h.rate
    by-test false = h

-- the count goes on, or the phase ends
valid-or_at_end : (b after : Adsr) → (b.samples_in_phase < b.phase_length_samples → Valid b) → Valid after → Valid (or_at_end b after)
valid-or_at_end b after f h = by-test (ltb b.samples_in_phase b.phase_length_samples) refl
  where
    by-test : (t : Bool) → ltb b.samples_in_phase b.phase_length_samples ≡ t → Valid (cond t b after)
    by-test true e = f (ltb-true _ _ e)
    by-test false e = h

valid-advanced : (t : ℕ) (a : Adsr) → running a.phase ≡ true → Valid a → a.samples_in_phase + 1 < a.phase_length_samples → Valid (advanced_toward t a)
unfolding advanced_toward
valid-advanced t a r h k =
    record { rate = h.rate; counts = λ i. k }

stopped : (b : Adsr) (q : AdsrPhase) (l c n : ℕ) → running q ≡ false → b.sample_rate_hz ≤ 65537 → Valid (in_phase b q l c n)
stopped b q l c n r h = record { rate = h; counts = λ i. never (sym r ∙ i) }

valid-ticked_in : (p : AdsrPhase) (a : Adsr) → a.phase ≡ p → Valid a → Valid (ticked_in p a)
unfolding advanced_toward
valid-ticked_in P.Attack a e h =
    let b = advanced_toward 255 a in
    valid-or_at_end b (began_decay b) (valid-advanced 255 a (rw e refl) h) (valid-began_decay b h.rate)
valid-ticked_in P.Decay a e h =
    let b = advanced_toward a.spec.sustain_q8 a in
    valid-or_at_end b _ (valid-advanced _ a (rw e refl) h) (stopped b P.Sustain _ _ _ refl h.rate)
valid-ticked_in P.Release a e h =
    let b = advanced_toward 0 a in
    valid-or_at_end b _ (valid-advanced 0 a (rw e refl) h) (stopped b P.Idle _ _ _ refl h.rate)
valid-ticked_in P.Sustain a e h = h
valid-ticked_in P.Idle a e h = h

pub valid-ticked : {a : Adsr} → Valid a → Valid (ticked a)
unfolding ticked
valid-ticked {a} h = valid-ticked_in a.phase a refl h

-- a tick in phase p, by the test of count and length: `ends p a t after refl e d`
module _ (p : AdsrPhase) (a : Adsr) {b : Adsr} (t : ℕ) (after : Adsr → Adsr)
    (form : ticked_in p a ≡ or_at_end (advanced_toward t a) (after (advanced_toward t a))) (e : a.phase ≡ p) (d : b ≡ advanced_toward t a) where
  whole : or_at_end b (after b) ≡ ticked a
  unfolding ticked
  whole = ap (λ (x : Adsr). or_at_end x (after x)) d ∙ sym form ∙ ap (λ (q : AdsrPhase). ticked_in q a) (sym e)

  pub goes_on : b.samples_in_phase < b.phase_length_samples → b ≡ ticked a
  goes_on h = ap (λ (x : Bool). cond x b (after b)) (sym (lt-ltb _ _ h)) ∙ whole

  pub ends : b.phase_length_samples ≤ b.samples_in_phase → after b ≡ ticked a
  ends h = ap (λ (x : Bool). cond x b (after b)) (sym (le-ltb _ _ h)) ∙ whole

-- ---- an idle envelope
pub idle-inactive : (spec : AdsrSpec) (rate : ℕ) → active (idle_adsr spec rate) ≡ false
unfolding active
idle-inactive spec rate = refl

pub active_unless_idle : (p : AdsrPhase) → (p ≡ P.Idle → ⊥) → active_in p ≡ true
active_unless_idle P.Attack d = refl
active_unless_idle P.Decay d = refl
active_unless_idle P.Sustain d = refl
active_unless_idle P.Release d = refl
active_unless_idle P.Idle d = absurd (d refl)

inactive-idle : (p : AdsrPhase) → active_in p ≡ false → p ≡ P.Idle
inactive-idle P.Attack e = never (sym e)
inactive-idle P.Decay e = never (sym e)
inactive-idle P.Sustain e = never (sym e)
inactive-idle P.Release e = never (sym e)
inactive-idle P.Idle e = refl

pub ticked-inactive : {a : Adsr} → active a ≡ false → ticked a ≡ a
unfolding active ticked
ticked-inactive {a} e = rw (inactive-idle a.phase e)

-- a tick leaves what counts nothing as it is
pub ticked-still : {a : Adsr} → (a.phase ≡ P.Sustain) ⊎ (a.phase ≡ P.Idle) → ticked a ≡ a
unfolding ticked
ticked-still (inl e) = rw e
ticked-still (inr e) = rw e
