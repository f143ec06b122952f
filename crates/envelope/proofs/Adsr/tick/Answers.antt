-- Each arm is the definition's clause at that phase; the end of a phase is the test of count and length. Assumes nothing.
use mathlib.Core.Path.{refl, sym, ◌∙◌}
use Rattle.envelope.specs.declared.AdsrPhase.TheVariants as P
use Rattle.envelope.specs.Adsrs.{advanced_toward, began_decay, sustained, ended}
use Rattle.laws.proofs.Made.{made}
use Rattle.envelope.proofs.Laws.{valid-ticked, ticked-still, goes_on, ends}
use Rattle.envelope.proofs.Adsr.tick.Goals as goal

pub advance_toward-a-requires : goal.advance_toward-a-requires
advance_toward-a-requires c = c.requires.counts (rw c.in-Attack.is)

pub begin_decay-requires : goal.begin_decay-requires
unfolding advanced_toward
begin_decay-requires c = rw c.advance_toward-a.ensures c.requires.rate

pub advance_toward-a-requires-in-Decay : goal.advance_toward-a-requires-in-Decay
advance_toward-a-requires-in-Decay c = c.requires.counts (rw c.in-Decay.is)

pub advance_toward-a-requires-in-Release : goal.advance_toward-a-requires-in-Release
advance_toward-a-requires-in-Release c = c.requires.counts (rw c.in-Release.is)

pub returns-then-a : goal.returns-then-a
returns-then-a c =
    let a = c.args.self in
    made (c.begin_decay.ensures ∙ ends P.Attack a 255 began_decay refl c.in-Attack.is c.advance_toward-a.ensures c.if-a.true)
    (valid-ticked c.requires)

pub returns-else-a : goal.returns-else-a
returns-else-a c =
    let a = c.args.self in
    made (goes_on P.Attack a 255 began_decay refl c.in-Attack.is c.advance_toward-a.ensures c.if-a.false)
    (valid-ticked c.requires)

pub returns-then-a-2 : goal.returns-then-a-2
returns-then-a-2 c =
    let a = c.args.self in
    made (c.end_decay.ensures ∙ ends P.Decay a a.spec.sustain_q8 sustained refl c.in-Decay.is c.advance_toward-a-in-Decay.ensures c.if-a-2.true)
    (valid-ticked c.requires)

pub returns-else-a-2 : goal.returns-else-a-2
returns-else-a-2 c =
    let a = c.args.self in
    made (goes_on P.Decay a a.spec.sustain_q8 sustained refl c.in-Decay.is c.advance_toward-a-in-Decay.ensures c.if-a-2.false)
    (valid-ticked c.requires)

pub returns-then-a-3 : goal.returns-then-a-3
returns-then-a-3 c =
    let a = c.args.self in
    made (c.end_release.ensures ∙ ends P.Release a 0 ended refl c.in-Release.is c.advance_toward-a-in-Release.ensures c.if-a-3.true)
    (valid-ticked c.requires)

pub returns-else-a-3 : goal.returns-else-a-3
returns-else-a-3 c =
    let a = c.args.self in
    made (goes_on P.Release a 0 ended refl c.in-Release.is c.advance_toward-a-in-Release.ensures c.if-a-3.false)
    (valid-ticked c.requires)

pub returns-in-Sustain : goal.returns-in-Sustain
returns-in-Sustain c = made (sym (ticked-still c.in-Sustain.is)) (valid-ticked c.requires)
