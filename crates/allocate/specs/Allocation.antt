-- Document 01, `allocate_voice`, in the engine's types, and the same by document 02. Assumes nothing.
use Rattle.std.specs.Prelude.{ℕ, Bool, true, false, List, [], ◌∷◌}
use Rattle.std.specs.Prelude as R
use Rattle.std.proofs.Math.Option.{Option, none, some}
use Rattle.error.specs.Told.{Told, value, refused}
use Rattle.ranking.specs.Rule.{lowest_priority, lowest_oldest, free_only}
use Rattle.marks.specs.declared.Mark.{Mark}
use Rattle.marks.specs.declared.Present.{Present}
use Rattle.voice.specs.Voices.{audible}
use Rattle.voice.specs.declared.Voice.{Voice}
use Rattle.mixer.specs.declared.Mixer.{Mixer}
use Rattle.mixer.specs.declared.VoiceStealingPolicy.{VoiceStealingPolicy}
use Rattle.mixer.specs.declared.VoiceStealingPolicy.TheVariants as P
use Rattle.mixer.specs.Mixers.{voices_of}

abbrev pub priority_of : Voice → ℕ
priority_of v = v.priority

-- "allocation finds none | 5"
abbrev pub place_of : Option ℕ → Told ℕ
place_of none = refused 5
place_of (some i) = value i

abbrev pub told_place : R.Option ℕ → Told ℕ
told_place (R.Some i) = value i
told_place R.None = refused 5

-- "the first inaudible voice; else, under LowestPriorityOldest, the first voice of lowest priority if that is strictly below the
-- request; else none. FreeChannelOnly never takes one."
abbrev pub chosen : VoiceStealingPolicy → List Voice → ℕ → Option ℕ
chosen P.LowestPriorityOldest vs priority = lowest_priority audible priority_of vs priority
chosen P.FreeChannelOnly vs priority = free_only audible vs priority

unfoldable pub allocated : Mixer → ℕ → Told ℕ
allocated m priority = place_of (chosen m.stealing_policy (voices_of m) priority)

-- ---- document 02

-- each voice with its rank, 0 the oldest; 255 where no mark is
unfoldable pub with_ranks : List Voice → List Mark → List (Voice × ℕ)
with_ranks [] ks = []
with_ranks (v ∷ vs) [] = (v, 255) ∷ with_ranks vs []
with_ranks (v ∷ vs) (k ∷ ks) = (v, k.rank) ∷ with_ranks vs ks

-- "Among voices of equal lowest priority the oldest goes"; else as in document 01
abbrev pub chosen_oldest : VoiceStealingPolicy → List (Voice × ℕ) → ℕ → Option ℕ
chosen_oldest P.LowestPriorityOldest vs priority = lowest_oldest (λ x. audible x.0) (λ x. priority_of x.0) (λ x. x.1) vs priority
chosen_oldest P.FreeChannelOnly vs priority = free_only (λ x. audible x.0) vs priority

-- the place in a state of the present rules
abbrev pub oldest_in : Present → ℕ → Option ℕ
oldest_in p priority = chosen_oldest p.mixer.stealing_policy (with_ranks (voices_of p.mixer) p.marks.voices) priority

abbrev pub allocated_oldest : Present → ℕ → Told ℕ
allocated_oldest p priority = place_of (oldest_in p priority)

-- by the box whose state it is; true for the present one's
abbrev pub allocated_in : Bool → Present → ℕ → Told ℕ
allocated_in true p priority = allocated_oldest p priority
allocated_in false p priority = allocated p.mixer priority
