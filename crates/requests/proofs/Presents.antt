-- The state of a box is a lawful box, by the rules of either, and a request keeps it valid. Assumes nothing.
use Rattle.std.specs.Prelude.{Err, Ok, Result}
use Prim.Native.Nat.{ℕ, ◌-◌, ◌<◌}
use native.Mathlib.Omega.{arith}
use mathlib.Core.Path.{◌≡◌, refl, ap, sym, ◌∙◌}
use mathlib.Core.Bool.{Bool, true, false, cond, ◌&&◌}
use lib.Dec.{ltb}
use mathlib.Core.List.{List}
use lib.ListN.{get_or, take, set}
use Rattle.allocate.specs.Allocation.{allocated_in, oldest_in, place_of}
use Rattle.allocate.specs.Keys.{keys_of, bound_of, lowest_key}
use Rattle.allocate.proofs.Choice.{oldest-lawful, given_below}
use Rattle.error.specs.Told.{told, Told, value, refused, refusal}
use Rattle.error.specs.Numbers.{number_of}
use Rattle.error.specs.declared.AudioError.{AudioError}
use Rattle.error.proofs.Told.{value-is, not-refused, refusal-number}
use Rattle.laws.specs.Made.{Made}
use Rattle.marks.specs.Marks.{Valid, ValidIn, beside, nothing, rank_at, ranked, settled}
use Rattle.marks.specs.Steps.{aged}
use Rattle.marks.specs.declared.Mark.{Mark}
use Rattle.marks.specs.declared.Marks.{Marks}
use Rattle.marks.specs.declared.Present.{Present}
use Rattle.marks.proofs.Starts.{stored-valid, stored-settled}
use Rattle.marks.proofs.Steps.{renewed-other}
use Rattle.mixer.specs.Mixers as M
use Rattle.mixer.specs.declared.Mixer.{Mixer}
use Rattle.mixer.proofs.Laws.{valid-stored}
use Rattle.play.specs.Plays.{placed_by, played_at, played_under, played}
use Rattle.play.specs.declared.Played.{Played}
use Rattle.play.proofs.Placing.{placed, placed-stored, placed-kept}
use Rattle.start.specs.Starts.{request_start, request_start_under}
use Rattle.start.specs.declared.Request.{Request}
use Rattle.start.proofs.Laws.{Heard, request-heard, request-value}
use Rattle.voice.specs.Voices as S
use Rattle.voice.specs.Voices.{audible}
use Rattle.voice.specs.declared.Voice.{Voice}
use Rattle.requests.specs.Players.{Lawful}
use Rattle.requests.specs.Presents.{started_in, left_by, player_by, played_present, ValidPresentPlayed, RanksAlone}
use Rattle.requests.specs.Steps.{renewed_by}
use Rattle.requests.specs.declared.PresentPlayed.{PresentPlayed}
use Rattle.requests.proofs.Demand3.{by-rule}
use Rattle.requests.proofs.One.{SamePlay, same_start}

-- ---- demand 3
started-mixer : (m : Mixer) (k : Marks) (t : Told ℕ) → (started_in m k t).mixer ≡ m
unfolding settled
started-mixer m k (value i) = refl
started-mixer m k (refused n) = refl

plain-played : (p : Present) (bytes : List ℕ) (r : Request) → played_under false p bytes r ≡ played p.mixer bytes r
unfolding played_under played
plain-played p bytes r = refl

-- whichever number a refusal has, the present box hands out what its rule chooses
pub oldest-played : (p : Present) (bytes : List ℕ) (r : Request)
    → SamePlay (played_under true p bytes r) (played_at p.mixer (placed_by (place_of (oldest_in p r.priority)) (request_start p.mixer.bank bytes r)))
unfolding played_under
oldest-played p bytes r =
    same_start p.mixer (place_of (oldest_in p r.priority)) (request_start_under true p.mixer.bank bytes r) (request_start p.mixer.bank bytes r)
    (request-value true false p.mixer.bank bytes r)

pub lawful : (present : Bool) → Lawful (player_by present)
lawful false =
    by-rule (player_by false)
    (record { hands = λ p bytes r. rw (plain-played p bytes r); leaves = λ p bytes r. rw (plain-played p bytes r) })
lawful true =
    record {
      choice = λ p priority. oldest_in p priority;
      allows = λ p priority k. oldest-lawful p priority k;
      hands = λ p bytes r. (oldest-played p bytes r).place;
      leaves =
          λ p bytes r.
          started-mixer (played_under true p bytes r).mixer p.marks (told (played_under true p bytes r).outcome) ∙ (oldest-played p bytes r).mixer;
    }

-- ---- a voice that a request got
-- the voice is one that sounds
pub placed-audible : (present : Bool) (p : Present) (bytes : List ℕ) (r : Request) (keys : List ℕ) (i : ℕ) (v : Voice) → placed present p bytes r keys ≡ value (i, v)
    → audible v ≡ true
placed-audible present p bytes r keys i v e =
    by_both (lowest_key (take p.mixer.n keys) (bound_of p.mixer.stealing_policy r.priority)) (request_start_under present p.mixer.bank bytes r)
    (request-heard present p.mixer.bank bytes r) e
  where
    by_both : (a : Told ℕ) (s : Told Voice) → Heard r.priority s → placed_by a s ≡ value (i, v) → audible v ≡ true
    by_both (refused n) s h e = not-refused (sym e)
    by_both (value j) (refused n) h e = not-refused (sym e)
    by_both (value j) (value w) h e = rw (← ap (λ (p : ℕ × Voice). p.1) (value-is e)) h.0

-- the state after it
abbrev pub stored_in : Bool → Present → ℕ → Voice → Present
stored_in present p i v = beside (M.with_voices p.mixer (set p.mixer.voices i v)) (renewed_by present i p.marks)

pub left-stored : (present : Bool) (p : Present) (q : Played) (i : ℕ) (v : Voice) → ValidIn present p → i < 16 → audible v ≡ true
    → q.mixer ≡ M.with_voices p.mixer (set p.mixer.voices i v) → told q.outcome ≡ value i → left_by present p q ≡ stored_in present p i v
left-stored true p q i v h l a e f = rw (f, e) (stored-settled h i l v a)
left-stored false p q i v h l a e f = rw e

pub stored-valid-in : (present : Bool) (p : Present) (i : ℕ) (v : Voice) → ValidIn present p → i < p.mixer.n → S.Valid v → audible v ≡ true
    → ValidIn present (stored_in present p i v)
stored-valid-in true p i v h l w a =
    let b : i < 16 = omega (arith, h.inside.few) in
    rw (← stored-settled h i b v a) (stored-valid h i b v (valid-stored i v h.inside l w))
stored-valid-in false p i v h l w a = valid-stored i v h l w

-- ---- the play request as a call
told-voice : (o : Result ℕ AudioError) (i : ℕ) → told o ≡ value i → o ≡ Ok i
told-voice (Ok j) i e = ap Ok (value-is e)
told-voice (Err x) i e = not-refused (sym e)

told-refused : (o : Result ℕ AudioError) (x : AudioError) → told o ≡ refused (number_of x) → o ≡ Err x
told-refused (Ok j) x e = not-refused e
told-refused (Err y) x e = let n : number_of y ≡ number_of x = cc in ap Err (sym (refusal-number y) ∙ ap refusal n ∙ refusal-number x)

same_answer : {o u : Result ℕ AudioError} {s t : Present} → o ≡ u → s ≡ t → ◌≡◌ {A = PresentPlayed} (record { outcome = o; present = s }) (record { outcome = u; present = t })
same_answer e f = rw (e, f)

module _ (p : Present) (bytes : List ℕ) (r : Request) (h : Valid p) (keys : List ℕ) (e : keys ≡ keys_of true p.mixer.voices p.marks.voices) where
  pub made-stored : (i : ℕ) (v : Voice) (k : Marks) → placed true p bytes r keys ≡ value (i, v) → S.Valid v → k ≡ renewed_by true i p.marks
      → Made ValidPresentPlayed (played_present p bytes r) (record { outcome = Ok i; present = beside (M.with_voices p.mixer (set p.mixer.voices i v)) k })
  made-stored i v k f w g =
      let q = played_under true p bytes r in
      let s = placed-stored true p bytes r h keys e i v f in
      let a = placed-audible true p bytes r keys i v f in
      record {
        same =
            same_answer (sym (told-voice q.outcome i s.told))
            (rw g (sym (left-stored true p q i v h (omega (arith, s.place, h.inside.few)) a s.mixer s.told)));
        valid = rw g (stored-valid-in true p i v h s.place w a);
      }

  pub made_kept : (x : AudioError) → placed true p bytes r keys ≡ refused (number_of x)
      → Made ValidPresentPlayed (played_present p bytes r) (record { outcome = Err x; present = p })
  made_kept x f =
      let q = played_under true p bytes r in
      let s = placed-kept true p bytes r h keys e x f in
      record { same = same_answer (sym (told-refused q.outcome x s.told)) (rw (s.told, s.mixer)); valid = h }

-- ---- "An accepted request may change the rank, and nothing else, of a voice that it doesn't get"
-- a request that got voice i
record Handed (p : Present) (bytes : List ℕ) (r : Request) (i : ℕ) : Type 0 where
  voice : Voice
  heard : audible voice ≡ true
  place : i < p.mixer.n
  mixer : (played_under true p bytes r).mixer ≡ M.with_voices p.mixer (set p.mixer.voices i voice)

handed : (p : Present) (bytes : List ℕ) (r : Request) (i : ℕ) → told (played_under true p bytes r).outcome ≡ value i → Handed p bytes r i
unfolding played_under
handed p bytes r i e =
    by_both (allocated_in true p r.priority) (given_below true p r.priority) (request_start_under true p.mixer.bank bytes r) refl refl
    (request-heard true p.mixer.bank bytes r) e
  where
    by_both : (a : Told ℕ) → ((n : ℕ) → allocated_in true p r.priority ≡ value n → n < p.mixer.n) → (s : Told Voice) → allocated_in true p r.priority ≡ a
        → request_start_under true p.mixer.bank bytes r ≡ s → Heard r.priority s → told (played_at p.mixer (placed_by a s)).outcome ≡ value i → Handed p bytes r i
    by_both (refused n) l s f g k e = not-refused (sym e)
    by_both (value n) l (refused m) f g k e = not-refused (sym e)
    by_both (value n) l (value v) f g k e =
        let z : n ≡ i = value-is e in
        record { voice = v; heard = k.0; place = rw z at (l n f); mixer = rw (f, g, z) }

pub aged-rule : (old : ℕ) (k : Mark) → (aged old k).whole ≡ k.whole
aged-rule old k = go (ltb old k.rank && ltb k.rank 16)
  where
    go : (t : Bool) → (cond t (ranked (k.rank - 1) k) k).whole ≡ k.whole
    go true = refl
    go false = refl

pub ranks-alone : (p : Present) (bytes : List ℕ) (r : Request) (i : ℕ) → Valid p → told (played_present p bytes r).outcome ≡ value i → RanksAlone p bytes r i
ranks-alone p bytes r i h e =
    let q = played_under true p bytes r in
    let s = handed p bytes r i e in
    let b : i < 16 = omega (arith, s.place, h.inside.few) in
    let f = left-stored true p q i s.voice h b s.heard s.mixer e in
    record {
      master = ap (λ (x : Present). x.marks.master) f;
      fade = ap (λ (x : Present). x.marks.sounds_on) f;
      rule =
          λ j n.
          ap (λ (x : Present). (get_or x.marks.voices j nothing).whole) f
          ∙ ap (λ (k : Mark). k.whole) (renewed-other i p.marks.voices j n)
          ∙ aged-rule (rank_at p.marks.voices i) (get_or p.marks.voices j nothing);
    }
