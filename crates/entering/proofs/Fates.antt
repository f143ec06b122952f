-- What becomes of the requests in line at the start of a frame. Assumes nothing.
use Rattle.std.specs.Prelude.{Option}
use Prim.Native.Nat.{ℕ, zero, suc, ◌≤◌}
use native.Mathlib.Omega.{arith}
use mathlib.Core.Path.{◌≡◌, refl, ap, sym, ◌∙◌}
use mathlib.Core.Bool.{true, false}
use mathlib.Core.List.{List, [], ◌∷◌, ◌++◌, map}
use mathlib.Core.Logic.{◌⊎◌, inl, inr}
use mathlib.Core.Option.{some}
use lib.ListN.{length, get_elem?, set, take, length-set}
use Rattle.error.specs.Told.{Told, value, refused}
use Rattle.laws.proofs.Bools.{never}
use Rattle.marks.specs.Marks.{started_mark, marked_at, beside, settled}
use Rattle.marks.specs.declared.Present.{Present}
use Rattle.mixer.specs.Mixers.{voices_of, with_voices}
use Rattle.mixer.specs.declared.Mixer.{Mixer}
use Rattle.play.specs.Plays.{played_under}
use Rattle.ranking.specs.Rule.{first_free}
use Rattle.ranking.proofs.Places.{set_same, set_other}
use Rattle.requests.specs.Presents.{played_present}
use Rattle.start.specs.Starts.{request_start_under}
use Rattle.start.proofs.Laws.{request-heard}
use Rattle.voice.specs.Voices.{audible}
use Rattle.voice.specs.declared.Voice.{Voice}
use Rattle.waiting.specs.Lines.{in_line}
use Rattle.waiting.specs.declared.Waiting.{Waiting}
use Rattle.waiting.proofs.Lists.{by-test}
use Rattle.waiting.proofs.Laws.{in-line-of}
use Rattle.entering.specs.Lined.{Valid}
use Rattle.entering.specs.Entering.{voice_free, kept_after, entered, entered_in}
use Rattle.entering.specs.Fates.{WentIn, Fate, Tried, Tries, over, next, noted, latest, Enters}
use Rattle.entering.specs.declared.Lined.{Lined}
use Rattle.entering.proofs.Free.{FirstFree, is-first, first-free, free-given}
use Rattle.entering.proofs.Laws.{entered-none, entered-free, entered-busy}
use Rattle.error.specs.declared.AudioError.{AudioError}

-- ---- one request
-- what it is told, and what it leaves
record Fated (bytes : List ℕ) (p : Present) (w : Waiting) (k : Option (AudioError × ℕ)) : Type 0 where
  told : Told ℕ
  fate : Fate bytes p w told (played_present p bytes w.request).present
  kept : kept_after (played_present p bytes w.request).outcome w.label k ≡ noted k w.label told

fated : (bytes : List ℕ) (p : Present) (w : Waiting) (k : Option (AudioError × ℕ)) (i : ℕ) → first_free audible (voices_of p.mixer) ≡ some i → Fated bytes p w k
unfolding played_under
fated bytes p w k i e = go (request_start_under true p.mixer.bank bytes w.request) refl
  where
    go : (s : Told Voice) → request_start_under true p.mixer.bank bytes w.request ≡ s → Fated bytes p w k
    go (value v) f =
        record {
          told = value i;
          fate = record { voice = v; start = f; place = e; state = rw (free-given p w.request.priority i e, f) };
          kept = rw (free-given p w.request.priority i e, f);
        }
    go (refused n) f =
        record {
          told = refused n;
          fate = record { fails = f; state = rw (free-given p w.request.priority i e, f) };
          kept = rw (free-given p w.request.priority i e, f);
        }

-- ---- one after another
settled-mixer : (p : Present) → (settled p).mixer ≡ p.mixer
unfolding settled
settled-mixer p = refl

-- of the mixer's state nothing but voices changes
record Alike (p q : Present) : Type 0 where
  mixer : q.mixer ≡ with_voices p.mixer q.mixer.voices
  long : length q.mixer.voices ≡ length p.mixer.voices
  master : q.marks.master ≡ p.marks.master

alike_both : {p q r : Present} → Alike p q → Alike q r → Alike p r
alike_both {p} {q} {r} a b =
    record {
      mixer = b.mixer ∙ ap (λ (m : Mixer). with_voices m r.mixer.voices) a.mixer;
      long = b.long ∙ a.long;
      master = b.master ∙ a.master;
    }

fate-alike : (bytes : List ℕ) (p q : Present) (w : Waiting) (t : Told ℕ) → Fate bytes p w t q → Alike p q
unfolding settled
fate-alike bytes p q w (value i) f =
    rw f.state (record { mixer = refl; long = length-set p.mixer.voices i f.voice; master = refl })
fate-alike bytes p q w (refused n) f = rw f.state (record { mixer = refl; long = refl; master = refl })

get_take : (n : ℕ) (vs : List Voice) (i : ℕ) (v : Voice) → get_elem? (take n vs) i ≡ some v → get_elem? vs i ≡ some v
get_take zero vs i v e = let z : ◌≡◌ {A = ℕ} 0 1 = cc in absurd (omega arith)
get_take (suc n) [] i v e = e
get_take (suc n) (u ∷ vs) zero v e = e
get_take (suc n) (u ∷ vs) (suc i) v e = get_take n vs i v e

-- a voice that is audible is at no place that is given
pub not-given : (m : Mixer) (i j : ℕ) (v : Voice) → FirstFree m i → get_elem? m.voices j ≡ some v → audible v ≡ true → j ≡ i → ⊥
not-given m i j v f g a e =
    let k : get_elem? m.voices i ≡ some f.voice = get_take m.n m.voices i f.voice f.there in
    let s : f.voice ≡ v = (let h = rw e at g in cc) in
    never (sym f.silent ∙ ap audible s ∙ a)

fate-ringing : (bytes : List ℕ) (p q : Present) (w : Waiting) (t : Told ℕ) → Fate bytes p w t q → (j : ℕ) (v : Voice)
    → get_elem? p.mixer.voices j ≡ some v → audible v ≡ true → get_elem? q.mixer.voices j ≡ some v
unfolding settled
fate-ringing bytes p q w (value i) f j v g a =
    rw f.state (set_other p.mixer.voices j i f.voice (not-given p.mixer i j v (is-first p.mixer i f.place) g a) ∙ g)
fate-ringing bytes p q w (refused n) f j v g a = rw f.state g

module _ (bytes : List ℕ) where
  tries-alike : {p after : Present} {ts : List Tried} → Tries bytes p ts after → Alike p after
  tries-alike over = record { mixer = refl; long = refl; master = refl }
  tries-alike {p} (next {q = q} {t = t} e f r) = alike_both (fate-alike bytes p q t.who t.told f) (tries-alike r)

  pub tries-ringing : {p after : Present} {ts : List Tried} → Tries bytes p ts after → (j : ℕ) (v : Voice)
      → get_elem? p.mixer.voices j ≡ some v → audible v ≡ true → get_elem? after.mixer.voices j ≡ some v
  tries-ringing over j v g a = g
  tries-ringing {p} (next {q = q} {t = t} e f r) j v g a = tries-ringing r j v (fate-ringing bytes p q t.who t.told f j v g a) a

  -- a request that went in is at its voice when the frame begins
  pub went-in-stays : {p q after : Present} {ts : List Tried} {w : Waiting} {i : ℕ} (f : WentIn bytes p w i q) → Tries bytes q ts after
      → get_elem? after.mixer.voices i ≡ some f.voice
  went-in-stays {p} {q} {after} {ts} {w} {i} f r =
      let k = is-first p.mixer i f.place in
      let g : get_elem? q.mixer.voices i ≡ some f.voice =
      ap (λ (x : Present). get_elem? x.mixer.voices i) f.state
      ∙ ap (λ (m : Mixer). get_elem? m.voices i) (settled-mixer (beside (with_voices p.mixer (set p.mixer.voices i f.voice)) (marked_at i started_mark p.marks)))
      ∙ set_same p.mixer.voices i k.voice f.voice (get_take p.mixer.n p.mixer.voices i k.voice k.there) in
      let h = rw f.start at (request-heard true p.mixer.bank bytes w.request) in
      tries-ringing r i f.voice g h.0

-- ---- all of them
record Goes (bytes : List ℕ) (p : Present) (k : Option (AudioError × ℕ)) (ws : List Waiting) (after : Lined) : Type 0 where
  tried : List Tried
  tries : Tries bytes p tried after.present
  line : map (λ t. t.who) tried ++ in_line after.line ≡ ws
  kept : after.kept ≡ latest k tried
  ends : (in_line after.line ≡ []) ⊎ (voice_free after.present ≡ false)

goes : (bytes : List ℕ) (ws : List Waiting) (p : Present) (k : Option (AudioError × ℕ)) → p.mixer.n ≤ length p.mixer.voices → Goes bytes p k ws (entered bytes p k ws)
goes bytes [] p k h =
    rw (entered-none bytes p k) (record { tried = []; tries = over; line = in-line-of []; kept = refl; ends = inl (in-line-of []) })
goes bytes (w ∷ ws) p k h =
    by-test voice_free p
    (λ e.
    let f = first-free p h e in
    let g = fated bytes p w k f.0 f.1 in
    let q = played_present p bytes w.request in
    let a = fate-alike bytes p q.present w g.told g.fate in
    let r = goes bytes ws q.present (noted k w.label g.told) (let n = ap (λ (m : Mixer). m.n) a.mixer in omega (arith, a.long)) in
    rw (entered-free bytes p k w ws e, g.kept)
    (record {
      tried = record { who = w; told = g.told } ∷ r.tried;
      tries = next e g.fate r.tries;
      line = ap (λ (l : List Waiting). w ∷ l) r.line;
      kept = r.kept;
      ends = r.ends;
    }))
    (λ e.
    rw (entered-busy bytes p k (w ∷ ws) e)
    (record { tried = []; tries = over; line = in-line-of (w ∷ ws); kept = refl; ends = inr e }))

-- the theorem, of a state that has its voices
pub enters-in : (bytes : List ℕ) (s : Lined) → s.present.mixer.n ≤ length s.present.mixer.voices → Enters bytes s (entered_in bytes s)
enters-in bytes s h =
    let g = goes bytes (in_line s.line) s.present s.kept h in
    let a = tries-alike bytes g.tries in
    record {
      tried = g.tried;
      tries = g.tries;
      line = g.line;
      kept = g.kept;
      ends = g.ends;
      rest = a.mixer;
      master = a.master;
      ringing = λ j v e f. tries-ringing bytes g.tries j v e f;
    }

pub enters : (bytes : List ℕ) (s : Lined) → Valid s → Enters bytes s (entered_in bytes s)
enters bytes s h = enters-in bytes s (omega (arith, h.present.inside.few, h.present.inside.full))
