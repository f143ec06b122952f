-- What a list of requests does to one box, it does to another that follows it. Assumes nothing.
use Prim.Native.Nat.{ℕ}
use mathlib.Core.Path.{◌≡◌, refl, ap, sym, ◌∙◌}
use mathlib.Core.List.{List, [], ◌∷◌, map}
use mathlib.Core.Option.{Option}
use Rattle.laws.specs.Lists.{only}
use Rattle.mixer.specs.declared.Mixer.{Mixer}
use Rattle.start.specs.Starts.{sound_request}
use Rattle.start.specs.declared.Request.{Request}
use Rattle.voice.specs.declared.Voice.{Voice}
use Rattle.requests.specs.Players.{Player, asks, played_all, last_got, StartedBy, Demand3}
use Rattle.requests.specs.Slices.{requests_of, outcomes_of, PlaysAll, PlaysEach}

-- the states of b that f gives do as those of a
pub record Follows {S T : Type 0} (a : Player S) (b : Player T) (f : S → T) : Type 0 where
  pub mixer : (s : S) → b.mixer (f s) ≡ a.mixer s
  pub told : (s : S) (bytes : List ℕ) (r : Request) → b.told (f s) bytes r ≡ a.told s bytes r
  pub next : (s : S) (bytes : List ℕ) (r : Request) → b.next (f s) bytes r ≡ f (a.next s bytes r)

module _ {S T : Type 0} (a : Player S) (b : Player T) (f : S → T) (along : Follows a b f) (bytes : List ℕ) where
  pub played-along : (s : S) (rs : List Request) → played_all b (f s) bytes rs ≡ f (played_all a s bytes rs)
  unfolding played_all
  played-along s [] = refl
  played-along s (r ∷ rs) = rw (along.next s bytes r) (played-along (a.next s bytes r) rs)

  pub last-along : (i : ℕ) (s : S) (rs : List Request) → last_got b i (f s) bytes rs ≡ last_got a i s bytes rs
  unfolding last_got
  last-along i s [] = refl
  last-along i s (r ∷ rs) = rw (along.next s bytes r, along.told s bytes r, last-along i (a.next s bytes r) rs)

  pub outcomes-along : (s : S) (rs : List Request) → outcomes_of b (f s) bytes rs ≡ outcomes_of a s bytes rs
  unfolding outcomes_of
  outcomes-along s [] = refl
  outcomes-along s (r ∷ rs) = rw (along.next s bytes r, along.told s bytes r, outcomes-along (a.next s bytes r) rs)

  started-along : (s : S) (r : Request) (v : Option Voice) → StartedBy a s bytes r v → StartedBy b (f s) bytes r v
  started-along s r v h = record { voice = h.voice; start = rw (along.mixer s) h.start; same = h.same }

  asks-along : (s : S) (rs : List Request) → asks b (f s) bytes rs ≡ asks a s bytes rs
  asks-along s rs = ap (λ (m : Mixer). map (λ (r : Request). r.priority) (only (sound_request m.bank bytes) rs)) (along.mixer s)

  pub demand-along : (s : S) (rs : List Request) (after : S) → Demand3 a s bytes rs after → Demand3 b (f s) bytes rs (f after)
  demand-along s rs after d =
      record {
        ranked = rw (asks-along s rs, along.mixer s, along.mixer after) d.ranked;
        unchanged = λ i k. rw (along.mixer s, along.mixer after) (d.unchanged i (sym (last-along i s rs) ∙ k));
        last = λ i r k. started-along s r _ (rw (along.mixer after) (d.last i r (sym (last-along i s rs) ∙ k)));
        any_order = λ rs' k. rw (played-along s rs', along.mixer (played_all a s bytes rs'), along.mixer after) (d.any_order rs' k);
        rest = rw (along.mixer s, along.mixer after) d.rest;
      }

  module _ (ValidA : S → Type 0) (ValidB : T → Type 0) (keeps : (s : S) → ValidA s → ValidB (f s)) where
    pub all-along : (s : S) (requests : List ℕ) (after : S) → PlaysAll a ValidA s bytes requests after → PlaysAll b ValidB (f s) bytes requests (f after)
    all-along s requests after h =
        record {
          same = ap f h.same ∙ sym (played-along s (requests_of requests));
          valid = keeps after h.valid;
          demand = λ p. demand-along s (requests_of requests) after (h.demand (sym (ap (λ (m : Mixer). m.stealing_policy) (along.mixer s)) ∙ p));
        }

    pub each-along : (s : S) (requests cells : List ℕ) (after : S) (told : List ℕ) → PlaysEach a ValidA s bytes requests cells after told
        → PlaysEach b ValidB (f s) bytes requests cells (f after) told
    each-along s requests cells after told h =
        record { plays = all-along s requests after h.plays; outcomes = rw (outcomes-along s (requests_of requests)) h.outcomes }
