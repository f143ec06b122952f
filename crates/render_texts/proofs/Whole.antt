-- How long a text is at most, so that none is cut. Assumes nothing.
use Prim.Native.Nat.{ℕ, zero, suc, ◌+◌, ◌/◌, ◌≤◌}
use mathlib.Core.Path.{◌≡◌, ◌∙◌}
use mathlib.Core.Bool.{Bool, true, false, cond}
use mathlib.Core.List.{List, []}
use native.Mathlib.Omega.{arith}
use borrow.Author.Tests.{leb-true}
use lib.Dec.{leb, ltb, eqb}
use lib.ListN.{length, length-append}
use lib.Seq.{take_all}
use Rattle.render_texts.specs.Texts.{words, spelled, decimal, things, seconds_text, tenths_text, indent, time_text, milliseconds_of, Says, Tells}
use Rattle.render_texts.specs.declared.Text.{Text}
use Rattle.render_texts.specs.declared.Clock.{Clock}

pub either-within : (n : ℕ) (t : Bool) (x y : List ℕ) → length x ≤ n → length y ≤ n → length (cond t x y) ≤ n
either-within n true x y h k = h
either-within n false x y h k = k

-- words have their length
pub words-within : (n : ℕ) (t : Bool) (x y : List ℕ) → leb (length x) n ≡ true → length y ≤ n → length (cond t x y) ≤ n
words-within n t x y h k = either-within n t x y (leb-true (length x) n h) k

spelled-within : (k n : ℕ) → length (spelled k n) ≤ k
unfolding spelled
spelled-within zero n = omega arith
spelled-within (suc k) n =
    let front = either-within k (ltb n 10) [] (spelled k (n / 10)) (omega arith) (spelled-within k (n / 10)) in
    simp length-append (omega (arith, front))

pub decimal-within : (n : ℕ) → length (decimal n) ≤ 20
decimal-within n = spelled-within 20 n

pub things-within : (n : ℕ) (name : List ℕ) → length (things n name) ≤ 21 + length name
unfolding things
things-within n name =
    let plural = either-within 1 (eqb n 1) [] (words "s") (omega arith) (omega arith) in
    simp length-append (omega (arith, decimal-within n, plural))

pub seconds-within : (ms : ℕ) → length (seconds_text ms) ≤ 26
unfolding seconds_text
seconds-within ms = simp length-append (omega (arith, decimal-within (ms / 1000)))

pub tenths-within : (n : ℕ) → length (tenths_text n) ≤ 22
unfolding tenths_text
tenths-within n = simp length-append (omega (arith, decimal-within (n / 10)))

pub time-within : (c : Clock) → length (time_text c) ≤ 32
unfolding time_text
time-within c =
    let ms = milliseconds_of c in
    let front : length (indent ms) ≤ 4 = search (words-within, leb-true) in
    simp length-append (omega (arith, front, seconds-within ms))

-- a text that has room is whole
pub whole : {l : List ℕ} {t : Text} → length l ≤ 256 → Says l t → Tells l t
whole {l} h s = record { text = s.text ∙ take_all 256 l h; short = s.short }
