-- The loop over a list of requests: what is left to play gives what all gives. Assumes nothing.
use Prim.Native.Nat.{ℕ, suc, ◌+◌, ◌-◌, ◌*◌, ◌≤◌, ◌<◌}
use mathlib.Core.Path.{◌≡◌, sym, ◌∙◌}
use mathlib.Core.Bool.{Bool, true, false}
use mathlib.Core.List.{List, ◌∷◌}
use native.Mathlib.Omega.{arith}
use native.Mathlib.Numerals.{add-one}
use lib.ListN.{set}
use lib.Seq.{sets}
use Rattle.allocate.specs.Keys.{age_of, keys_of, rekeyed}
use Rattle.allocate.proofs.Rekeyed.{plain-rekeyed, rekeyed-keys}
use Rattle.error.specs.Numbers.{number_of}
use Rattle.error.specs.Told.{told, Told, value, refused}
use Rattle.error.specs.declared.AudioError.{AudioError}
use Rattle.marks.specs.Marks.{ValidIn, rank_at}
use Rattle.marks.specs.declared.Present.{Present}
use Rattle.marks.proofs.Laws.{valid-inside, valid-quiet}
use Rattle.play.specs.Plays.{played_under}
use Rattle.play.specs.declared.Played.{Played}
use Rattle.play.proofs.Placing.{placed, placed-stored, placed-kept}
use Rattle.start.specs.declared.Request.{Request}
use Rattle.voice.specs.Voices as S
use Rattle.voice.specs.Voices.{audible}
use Rattle.voice.specs.declared.Voice.{Voice}
use Rattle.requests.specs.Players.{played_all}
use Rattle.requests.specs.Presents.{left_by, player_by}
use Rattle.requests.specs.Slices.{request_at, requests_from, outcome_cell, outcomes_of}
use Rattle.requests.specs.Steps.{renewed_by}
use Rattle.requests.proofs.Presents.{placed-audible, stored_in, left-stored, stored-valid-in}

-- the state p, of which the requests from i on are left to play, the keys of its voices, and the cells told so far
pub record Playing (present : Bool) (start : Present) (bytes requests cells₀ : List ℕ) (count i : ℕ) (p : Present) (keys cells : List ℕ) : Type 0 where
  pub within : i ≤ count
  pub valid : ValidIn present p
  pub keyed : keys ≡ keys_of present p.mixer.voices p.marks.voices
  pub same : played_all (player_by present) start bytes (requests_from requests 0 count) ≡ played_all (player_by present) p bytes (requests_from requests i (count - i))
  pub told : sets cells₀ 0 (outcomes_of (player_by present) start bytes (requests_from requests 0 count)) ≡ sets cells i (outcomes_of (player_by present) p bytes (requests_from requests i (count - i)))

pub playing-start : (present : Bool) (p : Present) (bytes requests cells : List ℕ) (count : ℕ) (keys : List ℕ) → ValidIn present p → keys ≡ keys_of present p.mixer.voices p.marks.voices
    → Playing present p bytes requests cells count 0 p keys cells
playing-start present p bytes requests cells count keys h k =
    let e : count - 0 ≡ count = omega arith in
    record { within = omega arith; valid = h; keyed = k; same = rw e; told = rw e }

left-kept : (present : Bool) (p : Present) (q : Played) (x : AudioError) → q.mixer ≡ p.mixer → told q.outcome ≡ refused (number_of x) → left_by present p q ≡ p
left-kept true p q x e f = rw (f, e)
left-kept false p q x e f = rw e

stored-keys : (present : Bool) (p : Present) (j : ℕ) (v : Voice) (above : ℕ) → ValidIn present p → j < 16 → audible v ≡ true
    → above ≡ suc (age_of present (rank_at (renewed_by present j p.marks).voices j))
    → rekeyed present j v.priority above (keys_of present p.mixer.voices p.marks.voices)
    ≡ keys_of present (set p.mixer.voices j v) (renewed_by present j p.marks).voices
stored-keys true p j v above h b a f =
    rw f (rekeyed-keys p.mixer.voices p.marks.voices j h.inside.full h.full (valid-quiet h) b v a)
stored-keys false p j v above h b a f = rw f (plain-rekeyed p.mixer.voices p.marks.voices p.marks.voices j v a)

module _ (present : Bool) (start : Present) (bytes requests cells₀ : List ℕ) (count i : ℕ) where
  left_step : i < count → requests_from requests i (count - i) ≡ request_at requests (10 * i) ∷ requests_from requests (i + 1) (count - (i + 1))
  unfolding requests_from
  left_step h = let e : count - i ≡ suc (count - (i + 1)) = omega arith in rw (e, add-one)

  module _ (p : Present) (keys cells : List ℕ) (r : Request) (l : Playing present start bytes requests cells₀ count i p keys cells) (h : i < count) (k : r ≡ request_at requests (10 * i)) where
    playing-step : (after : Present) → (player_by present).next p bytes r ≡ after
        → played_all (player_by present) start bytes (requests_from requests 0 count) ≡ played_all (player_by present) after bytes (requests_from requests (i + 1) (count - (i + 1)))
    unfolding played_all
    playing-step after g = l.same ∙ rw (left_step h, ← g, k)

    telling-step : (after : Present) (t : Told ℕ) → (player_by present).next p bytes r ≡ after → (player_by present).told p bytes r ≡ t
        → sets cells₀ 0 (outcomes_of (player_by present) start bytes (requests_from requests 0 count))
        ≡ sets (set cells i (outcome_cell t)) (i + 1) (outcomes_of (player_by present) after bytes (requests_from requests (i + 1) (count - (i + 1))))
    unfolding outcomes_of
    telling-step after t g o = l.told ∙ rw (left_step h, ← g, ← o, k, add-one)

    -- a request that is turned down
    pub playing-kept : (x : AudioError) → placed present p bytes r keys ≡ refused (number_of x)
        → Playing present start bytes requests cells₀ count (i + 1) p keys (set cells i (256 * number_of x + 255))
    playing-kept x e =
        let g = placed-kept present p bytes r l.valid keys l.keyed x e in
        let n : (player_by present).next p bytes r ≡ p = left-kept present p (played_under present p bytes r) x g.mixer g.told in
        record {
          within = omega arith;
          valid = l.valid;
          keyed = l.keyed;
          same = playing-step p n;
          told = telling-step p (refused (number_of x)) n g.told;
        }

    -- one that gets a voice
    pub playing-stored : (j : ℕ) (v : Voice) (above : ℕ) → placed present p bytes r keys ≡ value (j, v) → S.Valid v
        → above ≡ suc (age_of present (rank_at (renewed_by present j p.marks).voices j))
        → Playing present start bytes requests cells₀ count (i + 1) (stored_in present p j v) (rekeyed present j v.priority above keys) (set cells i j)
    playing-stored j v above e w f =
        let g = placed-stored present p bytes r l.valid keys l.keyed j v e in
        let a = placed-audible present p bytes r keys j v e in
        let b : j < 16 = omega (arith, g.place, (valid-inside present p l.valid).few) in
        let after = stored_in present p j v in
        let n : (player_by present).next p bytes r ≡ after = left-stored present p (played_under present p bytes r) j v l.valid b a g.mixer g.told in
        record {
          within = omega arith;
          valid = stored-valid-in present p j v l.valid g.place w a;
          keyed = rw l.keyed (stored-keys present p j v above l.valid b a f);
          same = playing-step after n;
          told = telling-step after (value j) n g.told;
        }

  pub playing-end : (p : Present) (keys cells : List ℕ) → Playing present start bytes requests cells₀ count i p keys cells → count ≤ i
      → (p ≡ played_all (player_by present) start bytes (requests_from requests 0 count)) × (cells ≡ sets cells₀ 0 (outcomes_of (player_by present) start bytes (requests_from requests 0 count)))
  unfolding played_all outcomes_of requests_from
  playing-end p keys cells l h = let e : count - i ≡ 0 = omega arith in (sym (l.same ∙ rw e), sym (l.told ∙ rw e))
