-- A run, as a loop goes through its lines. Assumes nothing.
use Prim.Native.Nat.{ℕ, ◌+◌, ◌≤◌}
use mathlib.Core.Path.{◌≡◌, refl, ◌∙◌}
use mathlib.Core.Bool.{Bool, true, false, cond}
use mathlib.Core.List.{List, [], ◌∷◌, ◌++◌}
use native.Mathlib.Nat.{zero-add}
use native.Mathlib.Omega.{arith}
use lib.IntN.{ℤ}
use Rattle.std.proofs.lemmas.List.{nil_from_length}
use lib.ListN.{length, take, drop, length-append}
use lib.Seq.{sets, length-sets, take-append_seam}
use Rattle.laws.proofs.Lists.{sets-append}
use Rattle.replay_leaves.specs.declared.Answered.{Answered}
use Rattle.replay_session.specs.Runs.{Run}
use Rattle.replay_session.specs.Sessions.{Answer, Answers, started, session_answer}
use Rattle.render_sounds.specs.Sounds.{Sounds}
use Rattle.exports_replay.specs.Lines.{lines_of}
use Rattle.exports_replay.specs.Runs.{told, all_good, told_by, is_good, capped, Poured}
use Rattle.exports_replay.proofs.Room.{sets-capped, capped-sum, poured}

-- whether a run that is good so far stays so
abbrev stays_good : Bool → Run → List (List ℕ) → Bool
stays_good good s ls = cond good (all_good s ls) false

module _ {A : Type 0} (tells : Run → List ℕ → List A) where
  -- what is left to tell
  abbrev rest : Bool → Run → List (List ℕ) → List A
  rest good s ls = cond good (told tells s ls) []

  -- what is left to do, from where the loop stands, is what there was to do
  pub record Going (script : List ℕ) (before now : List A) (len : ℕ) (good : Bool) (s : Run) (left : List ℕ) : Type 0 where
    pub laid : sets now len (rest good s (lines_of left)) ≡ sets before 0 (told_by tells script)
    pub count : capped (len + length (rest good s (lines_of left))) ≡ capped (length (told_by tells script))
    pub goes : stays_good good s (lines_of left) ≡ is_good script
    pub room : length now ≡ length before

  pub going_start : (script : List ℕ) (before : List A) {s : Run} → s ≡ started → Going script before before 0 true s script
  going_start script before e =
      record { laid = rw e; count = rw (e, zero-add (length (told_by tells script))); goes = rw e; room = refl }

  pub going-turn : {script : List ℕ} {before now new : List A} {len place : ℕ} {s r : Run} {l left next : List ℕ} {more : Bool}
      → length before ≤ 18446744073709551615
      → lines_of left ≡ l ∷ lines_of next
      → r ≡ (session_answer s l).run → more ≡ (session_answer s l).more
      → new ≡ sets now len (tells s l) → place ≡ capped (len + length (tells s l))
      → Going script before now len true s left → Going script before new place more r next
  unfolding told all_good
  going-turn {script} {before} {now} {new} {len} {place} {s} {r} {l} {left} {next} {more} fits cut er em en ep g =
      let x = tells s l in
      let y = rest more r (lines_of next) in
      let e : told tells s (lines_of left) ≡ x ++ y = rw (cut, er, em) in
      let k : length new ≡ length now = rw en (length-sets now len x) in
      record {
        laid = rw (ep, sets-capped new (len + length x) y (omega (arith, g.room)), en, sets-append now len x y, ← e) g.laid;
        count = rw (ep, capped-sum (len + length x) (length y)) (rw (e, length-append x y) (omega arith) ∙ g.count);
        goes = rw (er, em) (rw cut at g.goes);
        room = k ∙ g.room;
      }

  pub going-bad : {script : List ℕ} {before now : List A} {len : ℕ} {s : Run} {left : List ℕ}
      → len ≤ 18446744073709551615 → Going script before now len false s left
      → Poured (told_by tells script) (is_good script) before now (record { len = len; good = false })
  going-bad {script} {before} {len = len} h g =
      record { content = g.laid ∙ poured before (told_by tells script); len = omega (arith, g.count); good = g.goes }

  pub going_end : {script : List ℕ} {before now : List A} {len : ℕ} {s : Run} {left : List ℕ}
      → len ≤ 18446744073709551615 → length left ≡ 0 → Going script before now len true s left
      → Poured (told_by tells script) (is_good script) before now (record { len = len; good = true })
  unfolding told all_good lines_of
  going_end {script} {before} {len = len} {left = left} h e g =
      let z : left ≡ [] = nil_from_length left e in
      record { content = rw z at g.laid ∙ poured before (told_by tells script); len = let k = rw z at g.count in omega arith; good = rw z at g.goes }

-- what stands at the front of a buffer
module _ {A : Type 0} (x rest : List A) {after : List A} {n : ℕ} (stands : after ≡ x ++ rest) (len : n ≡ length x) where
  front : take n after ≡ x
  front = rw (stands, len) (take-append_seam x rest)

  front_fits : n ≤ length after
  front_fits = rw (stands, len, length-append x rest) (omega arith)

-- the text of an answer, and the cells of a sound
pub text_of : {a : Answer} {before after : List ℕ} {s : Run} {r : Answered} → Answers a before after s r → take r.len after ≡ a.text
text_of {a} {before} w = front a.text (drop (length a.text) before) w.text w.len

pub text-fits : {a : Answer} {before after : List ℕ} {s : Run} {r : Answered} → Answers a before after s r → r.len ≤ length after
text-fits {a} {before} w = front_fits a.text (drop (length a.text) before) w.text w.len

pub sound-of : {cells before after : List ℤ} {n : ℕ} → Sounds cells before after n → take n after ≡ cells
sound-of {cells} {before} w = front cells (drop (length cells) before) w.content w.count

pub sound-fits : {cells before after : List ℤ} {n : ℕ} → Sounds cells before after n → n ≤ length after
sound-fits {cells} {before} w = front_fits cells (drop (length cells) before) w.content w.count
