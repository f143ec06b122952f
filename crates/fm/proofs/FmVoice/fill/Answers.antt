-- `fm::FmVoice::fill` meets its contract: an active oscillator gives a sample at each request, another none.
use Rattle.std.proofs.Common.{◌≡◌, ◌≤◌, min, length, sym, ap, ◌∙◌, arith, rules}
use native.Mathlib.Nat.{min-le_right}
use lib.Seq.{sets, length-take-le}
use Rattle.laws.specs.Runs.{after}
use Rattle.laws.proofs.Parts.{front-sets}
use Rattle.laws.proofs.Stores.{length-cells}
use Rattle.fm.specs.Fm.{advanced_fm, fm_sample}
use Rattle.fm.specs.Blocks.{fm_samples}
use Rattle.fm.proofs.Requests.{fm-after, fm-stays, filled-active, filled-silent}
use Rattle.fm.proofs.FmVoice.fill.Goals as goal

pub returns-then-self : goal.returns-then-self
returns-then-self c =
    let a = c.args in
    let full : length a.out.now ≡ 256 = search rules in
    let h : c.min-n.result ≤ length a.out.now = omega (arith, c.min-n.ensures, min-le_right a.len 256) in
    let n = c.min-n.result in
    let l = length-take-le n a.out.now h in
    let v : c.samples-voice.result ≡ after advanced_fm n a.self = rw l at c.samples-voice.ensures.value in
    let f : c.samples-voice.new.out ≡ fm_samples n a.self = rw l at c.samples-voice.ensures.out_after in
    let s = front-sets a.out.now n h c.samples-voice.new.out (ap length f ∙ length-cells advanced_fm fm_sample n a.self) ∙ ap (sets a.out.now 0) f in
    rw (← c.min-n.ensures) (record {
      voice_value = v ∙ sym (fm-after n a.self c.if-self.true);
      filled = filled-active n a.self a.out.now c.if-self.true h s;
    })

pub returns-else-self : goal.returns-else-self
returns-else-self c =
    let a = c.args in
    record {
      voice_value = sym (fm-stays (min a.len 256) a.self c.if-self.false);
      filled = filled-silent (min a.len 256) a.self a.out.now c.if-self.false;
    }
