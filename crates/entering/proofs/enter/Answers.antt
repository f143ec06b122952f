-- What all would leave is what those left in line leave of what is there. Assumes nothing.
use Prim.Native.Nat.{◌+◌}
use mathlib.Core.Path.{◌≡◌, refl, sym, ap, ◌∙◌}
use mathlib.Core.List.{◌∷◌}
use native.Mathlib.Numerals.{add-one}
use lib.ListN.{drop, get_or, drop_of_length-le}
use lib.Seq.{drop-cons}
use Rattle.waiting.specs.Lines.{in_line, nobody}
use Rattle.entering.specs.Entering.{entered_in}
use Rattle.entering.specs.declared.Lined.{Lined}
use Rattle.entering.proofs.Laws.{no-voice-free, none_left, tried-line, tried-turn}
use Rattle.entering.proofs.enter.Goals as goal

pub loop-w-init : goal.loop-w-init
loop-w-init c = (c.requires, refl, refl)

pub returns-then-not-voice_free : goal.returns-then-not-voice_free
returns-then-not-voice_free c =
    let bytes = c.args.bytes.now in
    record {
      same = sym (c.loop-w.invariant.2 ∙ no-voice-free bytes c.loop-w.out c.loop-w.invariant.0.line (sym c.voice_free.ensures ∙ c.if-not-voice_free.true));
      valid = c.loop-w.invariant.0;
    }

pub loop-w-preserved : goal.loop-w-preserved
loop-w-preserved c =
    let a = c.args in
    let l = in_line a.s.line in
    let w = get_or l c.loop-w.w-index nobody in
    let ws = drop (c.loop-w.w-index + 1) l in
    let f : in_line c.loop-w.out.line ≡ w ∷ ws = c.loop-w.invariant.1 ∙ rw add-one (drop-cons l c.loop-w.w-index nobody c.loop-w-test.true) in
    let free = sym c.voice_free.ensures ∙ c.if-not-voice_free.false in
    let e = c.tried-out.ensures in (
      e.valid,
      ap (λ (x : Lined). in_line x.line) e.same ∙ tried-line a.bytes.now c.loop-w.out c.loop-w.invariant.0.line w ws f,
      c.loop-w.invariant.2 ∙ tried-turn a.bytes.now c.loop-w.out c.loop-w.invariant.0.line w ws f free ∙ ap (entered_in a.bytes.now) (sym e.same),
    )

pub returns : goal.returns
returns c =
    let a = c.args in
    let f = c.loop-w.invariant.1 ∙ drop_of_length-le (in_line a.s.line) c.loop-w-test.false in
    record { same = sym (c.loop-w.invariant.2 ∙ none_left a.bytes.now c.loop-w.out c.loop-w.invariant.0.line f); valid = c.loop-w.invariant.0 }
