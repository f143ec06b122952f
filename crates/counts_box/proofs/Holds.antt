-- Trying every list gives the counts, by demand 3. Assumes nothing.
use Prim.Native.Nat.{ℕ, ◌≤◌, ◌<◌, min}
use native.Mathlib.Omega.{arith}
use mathlib.Core.Path.{◌≡◌, refl, ap, sym, ◌∙◌}
use mathlib.Core.Logic.{⊎_elim}
use mathlib.Core.Bool.{Bool, true, false, cond, not}
use mathlib.Core.List.{List, [], ◌∷◌, ◌++◌, map}
use mathlib.Core.Option.{none}
use lib.Dec.{leb}
use lib.ListN.{length, length-set}
use lib.Seq.{length-take-le}
use borrow.Author.Tests.{le-leb, lt-leb}
use Rattle.allocate.specs.Allocation.{priority_of, place_of}
use Rattle.counts.specs.Counts.{how_many, turned_away, counted_by}
use Rattle.counts.proofs.Laws.{Within, counted-within, counted_same}
use Rattle.error.specs.Told.{Told, value, refused}
use Rattle.laws.specs.Lists.{All, only}
use Rattle.mixer.specs.Mixers as M
use Rattle.mixer.specs.declared.Mixer.{Mixer}
use Rattle.play.specs.Plays.{played_at, placed_by}
use Rattle.ranking.proofs.Falling.{le-or-gt}
use Rattle.ranking.proofs.Ranks.{ranks-all}
use Rattle.requests.specs.Players.{Player, Lawful, Ranks, Demand3, voices, sound, accepted, is_place, played_all, priorities, asks}
use Rattle.requests.proofs.Demand3.{demand-3}
use Rattle.requests.proofs.One.{handed-by}
use Rattle.sounder.specs.Requests.{player}
use Rattle.sounder.proofs.Requests.{lawful}
use Rattle.start.specs.Starts.{request_start, sound_request}
use Rattle.start.specs.declared.Request.{Request}
use Rattle.voice.specs.Voices.{audible}
use Rattle.voice.specs.declared.Voice.{Voice}
use Rattle.counts_box.specs.Tried.{Silent, Asks, refused_after, tried, Tried, CountsTried}
use Rattle.counts_box.proofs.Highest.{many-falling, falling-first}
use Rattle.counts_box.proofs.Places.{holds, many-holds, allowed-place}

not-not : (t : Bool) → not (not t) ≡ t
not-not true = refl
not-not false = refl

-- at least n of the first n is at least n of all
least_first : (n c : ℕ) → leb n (min n c) ≡ leb n c
least_first n c =
    ⊎_elim
    (λ (h : n ≤ c). rw (le-leb n (min n c) (omega arith), le-leb n c h))
    (λ (h : c < n). rw (lt-leb n (min n c) (omega arith), lt-leb n c h))
    (le-or-gt n c)

only_none : {A : Type 0} (test : A → Bool) (l : List A) → All (λ x. test x ≡ false) l → only test l ≡ []
unfolding only
only_none test [] h = refl
only_none test (x ∷ l) h = rw (h.0, only_none test l h.1)

-- a request leaves as many voices as there were
length-by : (m : Mixer) (t : Told (ℕ × Voice)) → length (played_at m t).mixer.voices ≡ length m.voices
length-by m (value x) = length-set m.voices x.0 x.1
length-by m (refused n) = refl

module _ {State : Type 0} (b : Player State) (laws : Lawful b) (bytes : List ℕ) where
  length-all : (s : State) (rs : List Request) → length (b.mixer (played_all b s bytes rs)).voices ≡ length (b.mixer s).voices
  unfolding played_all
  length-all s [] = refl
  length-all s (r ∷ rs) =
      length-all (b.next s bytes r) rs
      ∙ ap (λ (m : Mixer). length m.voices) (laws.leaves s bytes r)
      ∙ length-by (b.mixer s) (placed_by (place_of (laws.choice s r.priority)) (request_start (b.mixer s).bank bytes r))

  -- a sound request is accepted where the rule gives a voice
  accepted-place : (s : State) (r : Request) → sound b s bytes r ≡ true → accepted b s bytes r ≡ is_place (laws.choice s r.priority)
  unfolding sound_request
  accepted-place s r h =
      ap is_place
      (laws.hands s bytes r
      ∙ handed-by (b.mixer s) (laws.choice s r.priority) (request_start (b.mixer s).bank bytes r)
      ∙ ap (λ (t : Bool). cond t (laws.choice s r.priority) none) h)

  module _ (s : State) (rs : List Request) (r : Request) (valid : M.Valid (b.mixer s)) (ranks : Ranks b s) (silent : Silent b s)
      (sounds : All (λ q. sound b s bytes q ≡ true) rs) (one : sound b s bytes r ≡ true) where
    abbrev after : State
    after = played_all b s bytes rs

    demand : Demand3 b s bytes rs after
    demand = demand-3 b laws bytes s rs valid ranks

    same-n : (b.mixer after).n ≡ (b.mixer s).n
    same-n = ap (λ (m : Mixer). m.n) demand.rest

    ranks-after : Ranks b after
    ranks-after = ap (λ (m : Mixer). m.stealing_policy) demand.rest ∙ ranks

    sound-after : sound b after bytes r ≡ true
    sound-after = ap (λ (m : Mixer). sound_request m.bank bytes r) demand.rest ∙ one

    length-after : length (voices b after) ≡ (b.mixer s).n
    length-after =
        length-take-le (b.mixer after).n (b.mixer after).voices (omega (arith, same-n, length-all s rs, valid.few, valid.full)) ∙ same-n

    -- by demand 3 the voices have the N highest of the list
    many-after : how_many (holds audible priority_of r.priority) (voices b after) ≡ min (b.mixer s).n (how_many (leb r.priority) (map (λ q. q.priority) rs))
    many-after =
        let p = r.priority in
        let e : priorities b s ++ asks b s bytes rs ≡ map (λ q. q.priority) rs =
        rw (only_none audible (voices b s) silent) (ranks-all (sound b s bytes) (λ q. q.priority) rs sounds) in
        sym (many-holds audible priority_of p (voices b after))
        ∙ sym (many-falling (leb p) (priorities b after))
        ∙ rw (demand.ranked, e) (falling-first p (b.mixer s).n (map (λ q. q.priority) rs))

    -- "refused exactly if at least N of the n have a priority of p or above"
    pub refused-exactly : refused_after b s bytes rs r ≡ turned_away (b.mixer s).n r.priority (map (λ q. q.priority) rs)
    unfolding turned_away
    refused-exactly =
        ap not
        (accepted-place after r sound-after
        ∙ allowed-place audible priority_of r.priority (laws.allows after r.priority ranks-after))
        ∙ not-not (leb (length (voices b after)) (how_many (holds audible priority_of r.priority) (voices b after)))
        ∙ rw (length-after, many-after) (least_first (b.mixer s).n (how_many (leb r.priority) (map (λ q. q.priority) rs)))

module _ {State : Type 0} (b : Player State) (laws : Lawful b) (s : State) (valid : M.Valid (b.mixer s)) (ranks : Ranks b s) (silent : Silent b s) where
  tried_same : (bytes : List ℕ) (k n : ℕ) (ask : List ℕ → List Request) (r : Request) → Asks b s bytes k ask → sound b s bytes r ≡ true
      → tried b s bytes ask k n r ≡ counted_by (turned_away (b.mixer s).n r.priority) k n
  tried_same bytes k n ask r a h =
      counted_same
      (λ l. refused_after b s bytes (ask l) r)
      (turned_away (b.mixer s).n r.priority)
      k
      n
      (λ l g.
      refused-exactly b laws bytes s (ask l) r valid ranks silent (a.sound l g.each) h
      ∙ ap (turned_away (b.mixer s).n r.priority) (a.priorities l g.each))

  -- of every lawful box
  pub tried-all : Tried b s
  tried-all =
      record {
        same = tried_same;
        call =
            λ bytes k n ask r a h few short below.
            let w : Within (b.mixer s).n k n r.priority =
            record { some = omega (arith, below); few = few; short = short; box = valid.few; one = below } in
            counted-within w ∙ ap value (sym (tried_same bytes k n ask r a h));
      }

pub counts-tried : CountsTried
counts-tried = record { each = λ s v ranks silent. tried-all player lawful s v.present.inside ranks silent }

-- one request for each priority, asked as often as the list has it
pub same-each : {State : Type 0} (b : Player State) (s : State) (bytes : List ℕ) (k : ℕ) (request : ℕ → Request)
    → ((q : ℕ) → q < k → ((request q).priority ≡ q) × (sound b s bytes (request q) ≡ true)) → Asks b s bytes k (map request)
same-each b s bytes k request h = record { priorities = goes; sound = sounds }
  where
    goes : (l : List ℕ) → All (λ q. q < k) l → map (λ r. r.priority) (map request l) ≡ l
    goes [] g = refl
    goes (q ∷ l) g = rw ((h q g.0).0, goes l g.1)

    sounds : (l : List ℕ) → All (λ q. q < k) l → All (λ r. sound b s bytes r ≡ true) (map request l)
    sounds [] g = tt
    sounds (q ∷ l) g = ((h q g.0).1, sounds l g.1)
