-- Where ticks alone lead an envelope: from attack and decay to sustain, from release to idle, and when. Assumes nothing.
use Prim.Native.Nat.{ℕ, zero, suc, ◌+◌, ◌≤◌, ◌<◌}
use native.Mathlib.Omega.{arith}
use mathlib.Core.Path.{◌≡◌, refl, sym, ap, ◌∙◌}
use mathlib.Core.Bool.{Bool, true, false, cond}
use lib.Dec.{ltb, eqb}
use borrow.Author.Tests.{ltb-true, ltb-false, eqb-true, eqb-false}
use Rattle.laws.specs.Runs.{after}
use Rattle.laws.proofs.Bools.{never}
use Rattle.envelope.specs.declared.AdsrSpec.{AdsrSpec}
use Rattle.envelope.specs.declared.Adsr.{Adsr}
use Rattle.envelope.specs.declared.AdsrPhase.{AdsrPhase}
use Rattle.envelope.specs.declared.AdsrPhase.TheVariants as P
use Rattle.envelope.specs.Adsrs.{click_spec, idle_adsr, in_phase, active, active_in, attack_length, decay_length, release_length, began_decay, began_release, triggered, released, advanced_toward, or_at_end, sustained, ended, ticked, ticked_in}
use Rattle.envelope.specs.Rests.{Resting}
use Rattle.laws.specs.Durations.{samples_of}
use Rattle.envelope.proofs.Ticks.{after-within}

-- what holds of both holds of either
either : (P : Adsr → Type 0) (b : Bool) (x y : Adsr) → P x → P y → P (cond b x y)
either P true x y h k = h
either P false x y h k = k

or-end : (P : Adsr → Type 0) (b x : Adsr) → P b → P x → P (or_at_end b x)
or-end P b x h k = either P (ltb b.samples_in_phase b.phase_length_samples) b x h k

-- ---- durations and rate stay
pub record Alike (a b : Adsr) : Type 0 where
  pub spec : b.spec ≡ a.spec
  pub rate : b.sample_rate_hz ≡ a.sample_rate_hz

same : (a : Adsr) (p : AdsrPhase) (l c n : ℕ) → Alike a (in_phase a p l c n)
same a p l c n = record { spec = refl; rate = refl }

then : {a b c : Adsr} → Alike a b → Alike b c → Alike a c
then h k = record { spec = k.spec ∙ h.spec; rate = k.rate ∙ h.rate }

alike-decay : (a : Adsr) → Alike a (began_decay a)
unfolding began_decay
alike-decay a = either (Alike a) (eqb (decay_length a) 0) _ _ (same a P.Sustain _ _ _) (same a P.Decay _ _ _)

alike-advanced : (t : ℕ) (a : Adsr) → Alike a (advanced_toward t a)
unfolding advanced_toward
alike-advanced t a = record { spec = refl; rate = refl }

alike-in : (p : AdsrPhase) (a : Adsr) → Alike a (ticked_in p a)
alike-in P.Attack a =
    let b = advanced_toward 255 a in
    or-end (Alike a) b (began_decay b) (alike-advanced 255 a) (then (alike-advanced 255 a) (alike-decay b))
alike-in P.Decay a =
    let t = a.spec.sustain_q8 in
    let b = advanced_toward t a in
    or-end (Alike a) b (sustained b) (alike-advanced t a) (then (alike-advanced t a) (same b P.Sustain _ _ _))
alike-in P.Release a =
    let b = advanced_toward 0 a in
    or-end (Alike a) b (ended b) (alike-advanced 0 a) (then (alike-advanced 0 a) (same b P.Idle _ _ _))
alike-in P.Sustain a = record { spec = refl; rate = refl }
alike-in P.Idle a = record { spec = refl; rate = refl }

alike-after : (n : ℕ) (a : Adsr) → Alike a (after ticked n a)
unfolding after ticked
alike-after zero a = record { spec = refl; rate = refl }
alike-after (suc n) a = then (alike-in a.phase a) (alike-after n (ticked_in a.phase a))

alike-triggered : (a : Adsr) → Alike a (triggered a)
unfolding triggered
alike-triggered a =
    let b = in_phase a P.Attack 0 0 (attack_length a) in
    either (Alike a) (eqb (attack_length a) 0) (began_decay b) b (then (same a P.Attack _ _ _) (alike-decay b)) (same a P.Attack _ _ _)

-- a release is as long as it was at the trigger
pub release_length_lem : (n : ℕ) (a : Adsr) → release_length (after ticked n (triggered a)) ≡ release_length a
release_length_lem n a = let h = then (alike-triggered a) (alike-after n (triggered a)) in rw (h.spec, h.rate)

-- ---- where: sustain from attack and decay, idle from release
abbrev upheld : AdsrPhase → Bool
upheld P.Attack = true
upheld P.Decay = true
upheld P.Sustain = true
upheld P.Release = false
upheld P.Idle = false

abbrev Leads : Bool → Adsr → Type 0
Leads b a = upheld a.phase ≡ b

leads-decay : (a : Adsr) → Leads true (began_decay a)
unfolding began_decay
leads-decay a = either (Leads true) (eqb (decay_length a) 0) _ _ refl refl

leads-in : (p : AdsrPhase) (a : Adsr) → a.phase ≡ p → Leads (upheld p) (ticked_in p a)
unfolding advanced_toward
leads-in P.Attack a e = let b = advanced_toward 255 a in or-end (Leads true) b (began_decay b) (ap upheld e) (leads-decay b)
leads-in P.Decay a e = let b = advanced_toward a.spec.sustain_q8 a in or-end (Leads true) b (sustained b) (ap upheld e) refl
leads-in P.Release a e = let b = advanced_toward 0 a in or-end (Leads false) b (ended b) (ap upheld e) refl
leads-in P.Sustain a e = ap upheld e
leads-in P.Idle a e = ap upheld e

leads-after : (n : ℕ) (a : Adsr) → Leads (upheld a.phase) (after ticked n a)
unfolding after ticked
leads-after zero a = refl
leads-after (suc n) a = leads-after n (ticked_in a.phase a) ∙ leads-in a.phase a refl

leads-triggered : (a : Adsr) → Leads true (triggered a)
unfolding triggered
leads-triggered a = let b = in_phase a P.Attack 0 0 (attack_length a) in either (Leads true) (eqb (attack_length a) 0) (began_decay b) b (leads-decay b) refl

-- ---- when: k ticks are enough
abbrev Due : AdsrPhase → ℕ → Adsr → Type 0
Due P.Attack k a = (a.samples_in_phase < a.phase_length_samples) × (a.phase_length_samples + decay_length a ≤ a.samples_in_phase + k)
Due P.Decay k a = (a.samples_in_phase < a.phase_length_samples) × (a.phase_length_samples ≤ a.samples_in_phase + k)
Due P.Sustain k a = a.level_q8 ≡ a.spec.sustain_q8
Due P.Release k a = (a.samples_in_phase < a.phase_length_samples) × (a.phase_length_samples ≤ a.samples_in_phase + k)
Due P.Idle k a = a.level_q8 ≡ 0

-- a phase that begins, or is passed over at length 0
due-begun : (k n : ℕ) (x y : Adsr) → Due x.phase k x → ((n ≡ 0 → ⊥) → Due y.phase k y)
    → Due (cond (eqb n 0) x y).phase k (cond (eqb n 0) x y)
due-begun k n x y f g = by-test (eqb n 0) refl
  where
    by-test : (t : Bool) → eqb n 0 ≡ t → Due (cond t x y).phase k (cond t x y)
    by-test true e = f
    by-test false e = g (eqb-false n 0 e)

due-decay : (k : ℕ) (a : Adsr) → decay_length a ≤ k → Due (began_decay a).phase k (began_decay a)
unfolding began_decay
due-decay k a h = due-begun k (decay_length a) (in_phase a P.Sustain a.spec.sustain_q8 0 0) (in_phase a P.Decay a.level_q8 0 (decay_length a)) refl (λ d. (omega arith, omega arith))

due-triggered : (k : ℕ) (a : Adsr) → attack_length a + decay_length a ≤ k → Due (triggered a).phase k (triggered a)
unfolding triggered
due-triggered k a h =
    let b = in_phase a P.Attack 0 0 (attack_length a) in
    due-begun k (attack_length a) (began_decay b) b (due-decay k b (omega arith)) (λ d. (omega arith, omega arith))

due-release : (k : ℕ) (a : Adsr) → release_length a ≤ k → Due (began_release a).phase k (began_release a)
due-release k a h = due-begun k (release_length a) (in_phase a P.Idle 0 0 0) (in_phase a P.Release a.level_q8 0 (release_length a)) refl (λ d. (omega arith, omega arith))

-- a tick is one of them
due-end : (k : ℕ) (b x : Adsr) → (b.samples_in_phase < b.phase_length_samples → Due b.phase k b)
    → (b.phase_length_samples ≤ b.samples_in_phase → Due x.phase k x) → Due (or_at_end b x).phase k (or_at_end b x)
due-end k b x f g = by-test (ltb b.samples_in_phase b.phase_length_samples) refl
  where
    by-test : (t : Bool) → ltb b.samples_in_phase b.phase_length_samples ≡ t → Due (cond t b x).phase k (cond t b x)
    by-test true e = f (ltb-true _ _ e)
    by-test false e = g (ltb-false _ _ e)

due_in : (p : AdsrPhase) (k : ℕ) (a : Adsr) → a.phase ≡ p → Due p (suc k) a → Due (ticked_in p a).phase k (ticked_in p a)
unfolding advanced_toward
due_in P.Attack k a e h = let b = advanced_toward 255 a in due-end k b (began_decay b) (λ l. rw e (l, omega arith)) (λ l. due-decay k b (omega arith))
due_in P.Decay k a e h = let b = advanced_toward a.spec.sustain_q8 a in due-end k b (sustained b) (λ l. rw e (l, omega arith)) (λ l. refl)
due_in P.Release k a e h = let b = advanced_toward 0 a in due-end k b (ended b) (λ l. rw e (l, omega arith)) (λ l. refl)
due_in P.Sustain k a e h = rw e h
due_in P.Idle k a e h = rw e h

due-after : (n : ℕ) (a : Adsr) → Due a.phase n a → Due (after ticked n a).phase 0 (after ticked n a)
unfolding after ticked
due-after zero a h = h
due-after (suc n) a h = due-after n (ticked_in a.phase a) (due_in a.phase n a refl h)

-- none left
came : (p : AdsrPhase) (a : Adsr) → Due p 0 a → p ≡ cond (upheld p) P.Sustain P.Idle
came P.Attack a h = absurd (omega arith)
came P.Decay a h = absurd (omega arith)
came P.Release a h = absurd (omega arith)
came P.Sustain a h = refl
came P.Idle a h = refl

-- ---- from a trigger
active-upheld : (p : AdsrPhase) → upheld p ≡ true → active_in p ≡ true
active-upheld P.Attack e = refl
active-upheld P.Decay e = refl
active-upheld P.Sustain e = refl
active-upheld P.Release e = never e
active-upheld P.Idle e = never e

-- no number of ticks makes a triggered envelope idle
pub stays-active : (n : ℕ) (a : Adsr) → active (after ticked n (triggered a)) ≡ true
unfolding active
stays-active n a = active-upheld (after ticked n (triggered a)).phase (leads-after n (triggered a) ∙ leads-triggered a)

ticked-sustain : (a : Adsr) → a.phase ≡ P.Sustain → ticked a ≡ a
unfolding ticked
ticked-sustain a e = rw e

-- after attack and decay it rests in sustain
pub rests : (n : ℕ) (a : Adsr) → attack_length a + decay_length a ≤ n
    → Resting a.spec a.sample_rate_hz a.spec.sustain_q8 (after ticked n (triggered a))
rests n a h = record { phase = e; level = l ∙ ap (λ (s : AdsrSpec). s.sustain_q8) k.spec; spec = k.spec; rate = k.rate; still = ticked-sustain x e }
  where
    x : Adsr
    x = after ticked n (triggered a)

    k : Alike a x
    k = then (alike-triggered a) (alike-after n (triggered a))

    d : Due x.phase 0 x
    d = due-after n (triggered a) (due-triggered n a h)

    e : x.phase ≡ P.Sustain
    e = came x.phase x d ∙ ap (λ (b : Bool). cond b P.Sustain P.Idle) (leads-after n (triggered a) ∙ leads-triggered a)

    l : x.level_q8 ≡ x.spec.sustain_q8
    l = rw e at d

-- "A click envelope rests in sustain at level 0": 2 ms of attack and 40 of decay on
pub click-rests : (n rate : ℕ) → samples_of 2 rate + samples_of 40 rate ≤ n
    → Resting click_spec rate 0 (after ticked n (triggered (idle_adsr click_spec rate)))
click-rests n rate h = rests n (idle_adsr click_spec rate) h

-- ---- from a release
pub released-active : (a : Adsr) → active a ≡ true → released a ≡ began_release a
unfolding released
released-active a e = rw e

leads-release : (a : Adsr) → Leads false (began_release a)
leads-release a = either (Leads false) (eqb (release_length a) 0) (in_phase a P.Idle 0 0 0) (in_phase a P.Release a.level_q8 0 (release_length a)) refl refl

-- it has run out after its length, at once where that is 0
pub release-out : (k : ℕ) (a : Adsr) → active a ≡ true → release_length a ≤ k
    → ((after ticked k (released a)).phase ≡ P.Idle) × ((after ticked k (released a)).level_q8 ≡ 0)
release-out k a q h = rw (released-active a q) (e, l)
  where
    x : Adsr
    x = after ticked k (began_release a)

    d : Due x.phase 0 x
    d = due-after k (began_release a) (due-release k a h)

    e : x.phase ≡ P.Idle
    e = came x.phase x d ∙ ap (λ (b : Bool). cond b P.Sustain P.Idle) (leads-after k (began_release a) ∙ leads-release a)

    l : x.level_q8 ≡ 0
    l = rw e at d

phase-kept : (t n : ℕ) (a : Adsr) → (after (advanced_toward t) n a).phase ≡ a.phase
unfolding after advanced_toward
phase-kept t zero a = refl
phase-kept t (suc n) a = phase-kept t n (advanced_toward t a)

-- and not before
pub release-lasts : (k : ℕ) (a : Adsr) → active a ≡ true → k < release_length a → (after ticked k (released a)).phase ≡ P.Release
release-lasts k a q h = rw (released-active a q) (by-test (eqb (release_length a) 0) refl)
  where
    y : Adsr
    y = in_phase a P.Release a.level_q8 0 (release_length a)

    by-test : (t : Bool) → eqb (release_length a) 0 ≡ t → (after ticked k (cond t (in_phase a P.Idle 0 0 0) y)).phase ≡ P.Release
    by-test true e = absurd (omega (arith, eqb-true (release_length a) 0 e))
    by-test false e = ap (λ (x : Adsr). x.phase) (sym (after-within P.Release a.spec 0 ended (λ b f. refl) k y refl refl (omega arith))) ∙ phase-kept 0 k y

-- both at once
pub release-active : (k : ℕ) (a : Adsr) → active a ≡ true → active (after ticked k (released a)) ≡ ltb k (release_length a)
unfolding active
release-active k a q = by-test (ltb k (release_length a)) refl
  where
    by-test : (t : Bool) → ltb k (release_length a) ≡ t → active_in (after ticked k (released a)).phase ≡ t
    by-test true e = ap active_in (release-lasts k a q (ltb-true k (release_length a) e))
    by-test false e = ap active_in (release-out k a q (ltb-false k (release_length a) e)).0
