-- What is left to play gives what all gives. Assumes nothing.
use Prim.Native.Nat.{ℕ, ◌+◌, ◌<◌}
use mathlib.Core.Path.{◌≡◌, ap, sym, ◌∙◌}
use native.Mathlib.Omega.{arith}
use lib.ListN.{length, length-map}
use lib.Seq.{length-sets}
use Rattle.allocate.proofs.Keyed.{ranks-length}
use Rattle.error.specs.Told.{told, value}
use Rattle.marks.specs.Marks.{beside}
use Rattle.marks.specs.declared.Present.{Present}
use Rattle.marks.proofs.Laws.{valid-inside}
use Rattle.voice.specs.declared.Voice.{Voice}
use Rattle.mixer.specs.Mixers as M
use Rattle.play.proofs.Placing.{placed-stored}
use Rattle.requests.specs.Presents.{player_by}
use Rattle.requests.proofs.Demand3.{demand-3}
use Rattle.requests.proofs.Beside.{going_start, going-few, going-kept, going-stored, going-marks}
use Rattle.requests.proofs.Playing.{playing-end}
use Rattle.requests.proofs.Presents.{lawful}
use Rattle.requests.proofs.play_each.Goals.{At-loop-i, In-loop-i, After-place}
use Rattle.requests.proofs.play_each.Lts as lts
use Rattle.requests.proofs.play_each.Reads as reads
use Rattle.requests.proofs.play_each.Tie as tie
use Rattle.requests.proofs.play_each.Goals as goal

abbrev At-After-place : Type 0
At-After-place = lts.After-place tie.the-claims reads.Pre reads.Post goal.the-invariant-loop-i goal.the-decreases-loop-i

abbrev At-At-loop-i : Type 0
At-At-loop-i = lts.At-loop tie.the-claims reads.Pre reads.Post goal.the-invariant-loop-i goal.the-decreases-loop-i

abbrev At-In-loop-i : Type 0
At-In-loop-i = lts.In-loop tie.the-claims reads.Pre reads.Post goal.the-invariant-loop-i goal.the-decreases-loop-i

-- the state that the loop has come to
abbrev state : At-At-loop-i → Present
state c = beside c.loop-i.mixer c.loop-i.invariant.marks

-- a slice's length fits, so one more request does
more : (c : At-In-loop-i) → c.loop-i.i + 1 < 18446744073709551616
more c = omega arith

inside : (c : At-At-loop-i) → M.Valid c.loop-i.mixer
inside c = valid-inside c.args.present (state c) c.loop-i.invariant.playing.valid

-- there are as many keys as voices
sixteen : (c : At-At-loop-i) → length c.loop-i.keys ≡ 16
sixteen c = rw (c.loop-i.invariant.playing.keyed, length-map) (ranks-length _ _ ∙ (inside c).full)

-- the voice that is given is one of the sixteen
given_below : (s : At-After-place) (k : ℕ) (v : Voice) → told s.place.result ≡ value (k, v) → k < 16
given_below s k v e =
    let l = s.loop-i.invariant.playing in
    let g = placed-stored s.args.present (state s.before.before.before.before) _ _ l.valid s.loop-i.keys l.keyed k v (sym s.place.ensures.same ∙ e) in
    omega (arith, g.place, (inside s.before.before.before.before).few)

pub loop-i-init : goal.loop-i-init
loop-i-init c = going_start _ _ _ _ _ _ _ _ c.requires c.keys_of-keys.ensures c.below-sounding.ensures

pub loop-i-preserved : goal.loop-i-preserved
loop-i-preserved c =
    let l = c.loop-i in
    let h = c.loop-i-test.true in
    let q = c.request_at-request.ensures in
    let p = c.place.ensures in
    elim c.match-place.branch [
      | goal.in-Err w ↦
          rw (w.outcomes-is, w.mixer-is, w.rules-is, w.keys-is, w.sounding-is, w.tell.ensures, w.from.ensures)
          (going-kept _ _ _ _ _ _ l.i l.mixer l.rules l.keys l.sounding l.outcomes l.invariant _ h q w.in-Err.e
          (sym p.same ∙ ap told w.in-Err.is))
      | goal.in-Ok w ↦
          rw (w.outcomes-is, w.mixer-is, w.rules-is, w.keys-is, w.sounding-is, w.rekey.ensures, w.tell-in-Ok.ensures)
          (going-stored _ _ _ _ _ _ l.i l.mixer l.rules l.keys l.sounding l.outcomes l.invariant _ h q _ _ w.sounding_after-sounding.result
          (sym p.same ∙ ap told w.in-Ok.is) (rw w.in-Ok.is at p.valid) w.sounding_after-sounding.ensures)
    ]

pub shape_of-outcomes : goal.shape_of-outcomes
shape_of-outcomes c =
    let l = c.loop-i in
    ap length (playing-end _ _ _ _ _ _ l.i _ l.keys l.outcomes l.invariant.playing c.loop-i-test.false).1 ∙ simp length-sets

pub returns : goal.returns
returns c =
    let g = c.loop-i.invariant in
    let e = playing-end _ _ _ _ _ _ c.loop-i.i _ c.loop-i.keys c.loop-i.outcomes g.playing c.loop-i-test.false in
    let m : c.marks_after-marks.result ≡ g.marks = c.marks_after-marks.ensures ∙ going-marks _ _ _ _ _ _ _ _ _ _ _ _ g in
    record {
      plays =
          rw m
          (record {
            same = e.0;
            valid = g.playing.valid;
            demand = λ p. rw e.0 (demand-3 (player_by c.args.present) (lawful c.args.present) _ c.args.p _ (valid-inside c.args.present c.args.p c.requires) p);
          });
      outcomes = e.1;
    }

pub slice_bounds-place-end : goal.slice_bounds-place-end
slice_bounds-place-end c = sym (sixteen (goal.at.slice_bounds-place-end c).At-loop-i.before)

pub place-requires : goal.place-requires
place-requires c = (inside (goal.at.place-requires c).At-loop-i.before).bank

pub offset_bounds-keys-k : goal.offset_bounds-keys-k
offset_bounds-keys-k c = omega (arith, given_below (goal.at.offset_bounds-keys-k c).After-place.before _ _ (ap told c.in-Ok.is))

pub bounds-keys-k : goal.bounds-keys-k
bounds-keys-k c = given_below (goal.at.bounds-keys-k c).After-place.before _ _ (ap told c.in-Ok.is)

pub sounding_after-sounding-requires : goal.sounding_after-sounding-requires
sounding_after-sounding-requires c = λ t. omega (arith, going-few _ _ _ _ _ _ _ _ _ _ _ _ c.loop-i.invariant t)

pub rekey-requires : goal.rekey-requires
rekey-requires c = (given_below (goal.at.rekey-requires c).After-place.before _ _ (ap told c.in-Ok.is), sixteen (goal.at.rekey-requires c).At-loop-i.before)

pub offset_bounds-rules-k : goal.offset_bounds-rules-k
offset_bounds-rules-k c = omega (arith, given_below (goal.at.offset_bounds-rules-k c).After-place.before _ _ (ap told c.in-Ok.is))

pub bounds-rules-k : goal.bounds-rules-k
bounds-rules-k c = given_below (goal.at.bounds-rules-k c).After-place.before _ _ (ap told c.in-Ok.is)

pub offset_bounds-mixer-k : goal.offset_bounds-mixer-k
offset_bounds-mixer-k c = omega (arith, given_below (goal.at.offset_bounds-mixer-k c).After-place.before _ _ (ap told c.in-Ok.is))

pub bounds-mixer-k : goal.bounds-mixer-k
bounds-mixer-k c = given_below (goal.at.bounds-mixer-k c).After-place.before _ _ (ap told c.in-Ok.is)

pub overflow_cast-k : goal.overflow_cast-k
overflow_cast-k c = record { fits = omega (arith, given_below (goal.at.overflow_cast-k c).After-place.before _ _ (ap told c.in-Ok.is)) }

pub overflow_step-i : goal.overflow_step-i
overflow_step-i c = omega (arith, more (goal.at.overflow_step-i c).In-loop-i.before)

pub loop-i-smaller : goal.loop-i-smaller
loop-i-smaller c = omega (arith, c.loop-i-test.true)
