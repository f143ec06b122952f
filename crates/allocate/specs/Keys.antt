-- Inner: the allocation by keys (Keyed.allocated-keyed and oldest-keyed say that it is the boxes'). Assumes nothing.
use Rattle.std.specs.Prelude.{ℕ, suc, ◌+◌, ◌-◌, ◌*◌, ◌%◌, Bool, cond, List, map, ltb, eqb, get_or, set}
use Rattle.error.specs.Told.{Told}
use Rattle.ranking.specs.Rule.{first_lowest}
use Rattle.voice.specs.Voices.{audible}
use Rattle.voice.specs.declared.Voice.{Voice}
use Rattle.marks.specs.declared.Mark.{Mark}
use Rattle.mixer.specs.declared.VoiceStealingPolicy.{VoiceStealingPolicy}
use Rattle.mixer.specs.declared.VoiceStealingPolicy.TheVariants as P
use Rattle.allocate.specs.Allocation.{place_of, with_ranks}

-- 0 for an inaudible voice, else by priority and then by age, 0 the oldest
abbrev pub key_of : ℕ → Voice → ℕ
key_of age v = cond (audible v) (suc (v.priority * 32 + age)) 0

-- by document 01 all voices are of one age
abbrev pub age_of : Bool → ℕ → ℕ
age_of present rank = cond present rank 0

abbrev pub aged_key : Bool → Voice × ℕ → ℕ
aged_key present x = key_of (age_of present x.1) x.0

abbrev pub keys_of : Bool → List Voice → List Mark → List ℕ
keys_of present vs ks = map (aged_key present) (with_ranks vs ks)

-- a key's rank by the present rules; 255, which is none, where the voice is inaudible
abbrev pub rank_in : ℕ → ℕ
rank_in key = (key % 32 + 255) % 256

-- a voice may be taken where its key is below this
abbrev pub bound_of : VoiceStealingPolicy → ℕ → ℕ
bound_of P.LowestPriorityOldest priority = suc (priority * 32)
bound_of P.FreeChannelOnly priority = 1

-- the first of lowest key, if that is below the bound
abbrev pub lowest_key : List ℕ → ℕ → Told ℕ
lowest_key keys bound = place_of (first_lowest (λ r. r) keys bound)

-- ---- a voice started by the present rules: those younger than it was move down

-- a key's age, one up; above every age where the voice was inaudible
abbrev pub limit_of : ℕ → ℕ
limit_of key = suc ((key % 32 + 31) % 32)

abbrev pub lowered : ℕ → ℕ → ℕ
lowered limit key = cond (ltb limit (key % 32)) (key - 1) key

-- by the box whose keys they are
abbrev pub moved_keys : Bool → ℕ → List ℕ → List ℕ
moved_keys present i keys = cond present (map (lowered (limit_of (get_or keys i 0))) keys) keys

-- how many voices sound after one was started where this key stood, of n that did; document 01's box does not count them
abbrev pub sounding_after : Bool → ℕ → ℕ → ℕ
sounding_after present n key = cond present (cond (eqb key 0) (suc n) n) 1

-- the keys after a voice of this priority was started at i, of a rank one below `above`
abbrev pub rekeyed : Bool → ℕ → ℕ → ℕ → List ℕ → List ℕ
rekeyed present i priority above keys = set (moved_keys present i keys) i (32 * priority + above)
