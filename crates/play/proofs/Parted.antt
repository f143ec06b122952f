-- The two rules of a payload's refusal (document 02, T-06) differ in its number alone: a fade leaves the same state. Assumes nothing.
use Prim.Native.Nat.{ℕ}
use mathlib.Core.Path.{◌≡◌, refl, sym}
use mathlib.Core.Option.{some}
use mathlib.Core.Bool.{Bool, true, false, cond}
use mathlib.Core.List.{List}
use lib.Dec.{ltb}
use Rattle.bank.specs.Search.{found_given}
use Rattle.bank.specs.declared.EffectEntry.{EffectEntry}
use Rattle.envelope.specs.declared.AdsrSpec.{AdsrSpec}
use Rattle.error.specs.Told.{told, Told, value, refused, value_in, passed}
use Rattle.mixer.specs.Mixers.{unchanged}
use Rattle.mixer.specs.declared.Changed.{Changed}
use Rattle.mixer.specs.declared.Mixer.{Mixer}
use Rattle.start.proofs.Laws.{entry_value}
use Rattle.voice.specs.declared.Voice.{Voice}
use Rattle.play.specs.Fades.{faded_by, faded_to, faded_under, first_released}

-- what a fade did is the same but for a refusal's number
pub record SameCall (c d : Changed) : Type 0 where
  pub done : value_in (told c.outcome) ≡ value_in (told d.outcome)
  pub mixer : c.mixer ≡ d.mixer

by-start : (m : Mixer) (ms : ℕ) (s t : Told Voice) → value_in s ≡ value_in t → SameCall (faded_by m ms s) (faded_by m ms t)
unfolding faded_by
by-start m ms (value x) (value y) e = let same : x ≡ y = cc in record { done = refl; mixer = rw same }
by-start m ms (value x) (refused n) e = record { done = cc; mixer = cc }
by-start m ms (refused k) (value y) e = record { done = cc; mixer = cc }
by-start m ms (refused k) (refused n) e = record { done = refl; mixer = refl }

pub same-fade : (a b : Bool) (m : Mixer) (bytes : List ℕ) (id ms : ℕ) (adsr : AdsrSpec) → SameCall (faded_under a m bytes id ms adsr) (faded_under b m bytes id ms adsr)
unfolding faded_under
same-fade a b m bytes id ms adsr = by_count (ltb m.n 2)
  where
    by-entry : (t : Told EffectEntry) → SameCall (faded_to a m bytes ms adsr t) (faded_to b m bytes ms adsr t)
    by-entry (refused n) = record { done = refl; mixer = refl }
    by-entry (value entry) = by-start (first_released m) ms _ _ (entry_value a b m.bank bytes entry adsr 128)

    by_count : (t : Bool)
        → SameCall (cond t (unchanged m 5) (faded_to a m bytes ms adsr (found_given m.bank bytes id)))
        (cond t (unchanged m 5) (faded_to b m bytes ms adsr (found_given m.bank bytes id)))
    by_count true = record { done = refl; mixer = refl }
    by_count false = by-entry (found_given m.bank bytes id)

-- a fade that one rule accepts, the other does
pub fade-accepted : (a b : Bool) (m : Mixer) (bytes : List ℕ) (id ms : ℕ) (adsr : AdsrSpec) → told (faded_under a m bytes id ms adsr).outcome ≡ passed
    → told (faded_under b m bytes id ms adsr).outcome ≡ passed
fade-accepted a b m bytes id ms adsr e = is-passed _ (rw e at (sym (same-fade a b m bytes id ms adsr).done))
  where
    is-passed : (t : Told (Unit {0})) → value_in t ≡ some tt → t ≡ passed
    is-passed (value tt) h = refl
    is-passed (refused n) h = cc
