-- What a request's place and voice make of the state is what the play request makes. Assumes nothing.
use Prim.Native.Nat.{ℕ, ◌<◌}
use mathlib.Core.Path.{◌≡◌, ap, sym, ◌∙◌}
use mathlib.Core.Bool.{Bool}
use mathlib.Core.List.{List}
use lib.ListN.{take, set}
use Rattle.error.specs.Told.{told, Told, value, refused}
use Rattle.error.proofs.Told.{value-is, not-refused, refusal-number}
use Rattle.error.specs.Numbers.{number_of}
use Rattle.error.specs.declared.AudioError.{AudioError}
use Rattle.voice.specs.declared.Voice.{Voice}
use Rattle.start.specs.Starts.{request_start_under}
use Rattle.start.specs.declared.Request.{Request}
use Rattle.mixer.specs.Mixers.{with_voices}
use Rattle.mixer.specs.declared.Mixer.{Mixer}
use Rattle.allocate.specs.Allocation.{allocated_in}
use Rattle.allocate.specs.Keys.{keys_of, bound_of, lowest_key}
use Rattle.allocate.proofs.Choice.{given_below}
use Rattle.allocate.proofs.Keyed.{keyed}
use Rattle.marks.specs.Marks.{ValidIn}
use Rattle.marks.specs.declared.Present.{Present}
use Rattle.play.specs.Plays.{played_under, placed_by}
use Rattle.play.specs.declared.Played.{Played}

-- a place and a voice are given where both are
both : (a : Told ℕ) (s : Told Voice) (i : ℕ) (v : Voice) → placed_by a s ≡ value (i, v) → a ≡ value i
both (refused n) s i v e = not-refused (sym e)
both (value j) (refused n) i v e = not-refused (sym e)
both (value j) (value w) i v e = ap (λ (p : ℕ × Voice). value p.0) (value-is e)

-- a request that got voice i, and one that was turned down
pub record Stored (m : Mixer) (p : Played) (i : ℕ) (v : Voice) : Type 0 where
  pub mixer : p.mixer ≡ with_voices m (set m.voices i v)
  pub told : told p.outcome ≡ value i
  pub place : i < m.n

pub record Kept (m : Mixer) (p : Played) (x : AudioError) : Type 0 where
  pub mixer : p.mixer ≡ m
  pub told : told p.outcome ≡ refused (number_of x)

module _ (present : Bool) (p : Present) (bytes : List ℕ) (r : Request) where
  -- the request's place and voice, by the keys of the state's voices
  abbrev pub placed : List ℕ → Told (ℕ × Voice)
  placed keys = placed_by (lowest_key (take p.mixer.n keys) (bound_of p.mixer.stealing_policy r.priority)) (request_start_under present p.mixer.bank bytes r)

  module _ (h : ValidIn present p) (keys : List ℕ) (e : keys ≡ keys_of present p.mixer.voices p.marks.voices) where
    by-allocation : placed keys ≡ placed_by (allocated_in present p r.priority) (request_start_under present p.mixer.bank bytes r)
    by-allocation = rw (e, keyed present p r.priority h)

    pub placed-stored : (i : ℕ) (v : Voice) → placed keys ≡ value (i, v) → Stored p.mixer (played_under present p bytes r) i v
    unfolding played_under
    placed-stored i v f =
        let g = sym by-allocation ∙ f in
        record {
          mixer = rw g;
          told = rw g;
          place = given_below present p r.priority i (both (allocated_in present p r.priority) (request_start_under present p.mixer.bank bytes r) i v g);
        }

    pub placed-kept : (x : AudioError) → placed keys ≡ refused (number_of x) → Kept p.mixer (played_under present p bytes r) x
    unfolding played_under
    placed-kept x f =
        let g = sym by-allocation ∙ f in
        record { mixer = rw g; told = rw (g, refusal-number x) }
