-- Demand 3 holds of every lawful box, by the theorem on boxes of voices. Assumes nothing.
use Rattle.std.specs.Prelude.{Option as OptionOf}
use Prim.Native.Nat.{ℕ}
use native.Mathlib.Omega.{arith}
use mathlib.Core.Path.{◌≡◌, refl, ap, sym, ◌∙◌}
use mathlib.Core.Bool.{true}
use mathlib.Core.List.{List, [], ◌∷◌}
use mathlib.Core.Option.{Option, some}
use lib.ListN.{length}
use lib.Seq.{length-take-le}
use Rattle.error.specs.Told.{told, Told, value, refused}
use Rattle.allocate.specs.Allocation.{priority_of, place_of, chosen, allocated}
use Rattle.laws.proofs.Bools.{never}
use Rattle.mixer.specs.Mixers as M
use Rattle.mixer.specs.declared.Mixer.{Mixer}
use Rattle.play.specs.Plays.{placed_by, played_at, played}
use Rattle.play.specs.declared.Played.{Played}
use Rattle.ranking.specs.Box as B
use Rattle.ranking.specs.Demand as Q
use Rattle.ranking.proofs.Demand.{demand}
use Rattle.ranking.proofs.Rule.{lowest-allowed}
use Rattle.start.specs.Starts.{starts, request_start, sound_request}
use Rattle.start.specs.declared.Request.{Request}
use Rattle.voice.specs.Voices.{audible}
use Rattle.voice.specs.declared.Voice.{Voice}
use Rattle.requests.specs.Players.{Player, Lawful, voices, sound, place_given, handed_out, is_place, accepted, played_all, last_got, StartedBy, Demand3, Ranks, played_in, ByRule}
use Rattle.requests.proofs.One.{voice_or, sounding, handed-by, after-by, rest-by}
use Rattle.bank.specs.declared.SoundBank.{SoundBank}

same_rest : (m after : Mixer) (ws vs : List Voice) → after ≡ M.with_voices m ws → M.with_voices after vs ≡ M.with_voices m vs
same_rest m after ws vs h = rw h

module _ {State : Type 0} (b : Player State) (laws : Lawful b) (bytes : List ℕ) where
  -- what the theorem asks, of a bank
  unfoldable box : OptionOf SoundBank → B.Box State Voice Request
  box bank =
      record {
        audible = audible;
        priority = priority_of;
        asked = λ r. r.priority;
        sound = sound_request bank bytes;
        started = λ r. voice_or (request_start bank bytes r);
        voices = voices b;
        choice = laws.choice;
        next = λ s r. b.next s bytes r;
      }

  record Kept (bank : OptionOf SoundBank) (s : State) : Type 0 where
    ranks : Ranks b s
    same : (b.mixer s).bank ≡ bank

  -- ---- one request
  module _ (s : State) (r : Request) where
    abbrev made : Played
    made = played_in b s bytes r (laws.choice s r.priority)

    rest-next : b.mixer (b.next s bytes r) ≡ M.with_voices (b.mixer s) made.mixer.voices
    rest-next = laws.leaves s bytes r ∙ rest-by (b.mixer s) (place_of (laws.choice s r.priority)) (request_start (b.mixer s).bank bytes r)

    module _ (bank : OptionOf SoundBank) (k : Kept bank s) where
      kept_next : Kept bank (b.next s bytes r)
      kept_next =
          record {
            ranks = ap (λ (m : Mixer). m.stealing_policy) rest-next ∙ k.ranks;
            same = ap (λ (m : Mixer). m.bank) rest-next ∙ k.same;
          }

      handed-next : handed_out b s bytes r ≡ B.handed (box bank) s r
      unfolding B.handed box sound_request
      handed-next =
          rw (← k.same) (laws.hands s bytes r ∙ handed-by (b.mixer s) (laws.choice s r.priority) (request_start (b.mixer s).bank bytes r))

      after_next : voices b (b.next s bytes r) ≡ B.stored (voices b s) (B.handed (box bank) s r) (voice_or (request_start bank bytes r))
      unfolding B.handed box sound_request
      after_next =
          rw (← k.same)
          (ap M.voices_of (laws.leaves s bytes r)
          ∙ after-by (b.mixer s) r.priority (laws.choice s r.priority) (request_start (b.mixer s).bank bytes r) (laws.allows s r.priority k.ranks))

  lawful : (bank : OptionOf SoundBank) → Q.Lawful (box bank) (Kept bank)
  unfolding box
  lawful bank =
      record {
        allows = λ s p k. laws.allows s p k.ranks;
        stores = λ s r k. after_next s r bank k;
        stays = λ s r k. kept_next s r bank k;
        sounds = λ r h. (sounding bank bytes r h).0;
        keeps = λ r h. (sounding bank bytes r h).1;
      }

  -- ---- all requests
  all_after : (bank : OptionOf SoundBank) (s : State) (rs : List Request) → played_all b s bytes rs ≡ B.after_all (box bank) s rs
  unfolding played_all B.after_all box
  all_after bank s [] = refl
  all_after bank s (r ∷ rs) = all_after bank (b.next s bytes r) rs

  all-last : (i : ℕ) (bank : OptionOf SoundBank) (s : State) (rs : List Request) → Kept bank s → last_got b i s bytes rs ≡ B.last_got (box bank) i s rs
  unfolding last_got B.last_got box
  all-last i bank s [] k = refl
  all-last i bank s (r ∷ rs) k = rw (all-last i bank (b.next s bytes r) rs (kept_next s r bank k), handed-next s r bank k)

  all_rest : (s : State) (rs : List Request) → b.mixer (played_all b s bytes rs) ≡ M.with_voices (b.mixer s) (b.mixer (played_all b s bytes rs)).voices
  unfolding played_all
  all_rest s [] = refl
  all_rest s (r ∷ rs) =
      all_rest (b.next s bytes r) rs
      ∙ same_rest (b.mixer s) (b.mixer (b.next s bytes r)) (made s r).mixer.voices (b.mixer (played_all b s bytes (r ∷ rs))).voices (rest-next s r)

  -- a sound request's start gives its voice
  started-by : (s : State) (r : Request) (v : Option Voice) → sound b s bytes r ≡ true
      → v ≡ some (voice_or (request_start (b.mixer s).bank bytes r)) → StartedBy b s bytes r v
  unfolding sound_request voice_or
  started-by s r v h k = by-start (request_start (b.mixer s).bank bytes r) refl h k
    where
      by-start : (t : Told Voice) → request_start (b.mixer s).bank bytes r ≡ t → starts t ≡ true → v ≡ some (voice_or t) → StartedBy b s bytes r v
      by-start (value w) g h k = record { voice = w; start = g; same = k }
      by-start (refused f) g h k = never h

  pub demand-3 : (s : State) (rs : List Request) → M.Valid (b.mixer s) → Ranks b s → Demand3 b s bytes rs (played_all b s bytes rs)
  unfolding box
  demand-3 s rs h p =
      let m = b.mixer s in
      let k : Kept m.bank s = record { ranks = p; same = refl } in
      let d = demand (box m.bank) (lawful m.bank) s rs k in
      let n : length (voices b s) ≡ m.n = length-take-le m.n m.voices (omega (arith, h.few, h.full)) in
      let e = all_after m.bank s rs in
      record {
        ranked = rw e (rw n at d.ranked);
        unchanged = λ i g. rw e (d.unchanged i (sym (all-last i m.bank s rs k) ∙ g));
        last =
            λ i r g.
            let l = sym (all-last i m.bank s rs k) ∙ g in
            started-by s r _ (d.got i r l).0 (rw e (d.last i r l));
        any_order = λ rs' g. rw (e, all_after m.bank s rs') (sym (d.any_order rs' g));
        rest = all_rest s rs;
      }

  -- "A request is sound if the same bank and a free voice would accept it": where the rule gives a voice, to be accepted is to be sound
  pub sound-accepted : (s : State) (r : Request) (i : ℕ) → laws.choice s r.priority ≡ some i → accepted b s bytes r ≡ sound b s bytes r
  unfolding sound_request
  sound-accepted s r i h = rw (laws.hands s bytes r, h) (by-start (request_start (b.mixer s).bank bytes r))
    where
      by-start : (t : Told Voice) → is_place (place_given (told (played_at (b.mixer s) (placed_by (value i) t)).outcome)) ≡ starts t
      by-start (value v) = refl
      by-start (refused f) = refl

-- document 01's rule is allowed
pub by-rule : {State : Type 0} (b : Player State) → ByRule b → Lawful b
unfolding played allocated
by-rule b h =
    record {
      choice = λ s p. chosen (b.mixer s).stealing_policy (voices b s) p;
      allows = λ s p k. rw k (lowest-allowed audible priority_of (voices b s) p);
      hands = h.hands;
      leaves = λ s bytes r. h.leaves s bytes r;
    }
