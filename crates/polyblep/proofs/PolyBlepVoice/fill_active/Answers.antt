-- `polyblep::PolyBlepVoice::fill_active` meets its contract: a block of a source that counts down.
use Rattle.std.proofs.Common.{◌≡◌, ◌≤◌, length, ap, arith, rules}
use Rattle.laws.proofs.Made.{made}
use Rattle.tone.specs.Duration.{forever}
use Rattle.tone.proofs.Loops.{waved_front}
use Rattle.tone.proofs.Sounding.{block, given-most}
use Rattle.polyblep.proofs.Runs.{blep_at, blep-counted, valid-after}
use Rattle.polyblep.proofs.PolyBlepVoice.fill_active.Goals.{Start}
use Rattle.polyblep.proofs.PolyBlepVoice.fill_active.Goals as goal

left : (s : Start) → s.args.self.samples_left ≤ forever
left s = omega arith

pub slice_bounds-fill_wave-end : goal.slice_bounds-fill_wave-end
slice_bounds-fill_wave-end c =
    let few : c.given_of-given.result ≤ 256 = omega (arith, c.given_of-given.ensures, given-most c.args.self.samples_left c.args.len, c.requires.few) in
    search rules

pub returns : goal.returns
returns c =
    let v = c.args.self in
    let full : length c.args.out.now ≡ 256 = search rules in
    let few : c.given_of-given.result ≤ length c.args.out.now = omega (arith, full, c.given_of-given.ensures, given-most v.samples_left c.args.len, c.requires.few) in
    let b = block (blep-counted v) c.args.len v.osc.phase v.samples_left (omega (arith, c.requires.few))
    (ap (blep_at v v.osc.phase v.samples_left) c.requires.sounds) (left (goal.at.returns c).Start) (omega (arith, c.requires.few))
    c.given_of-given.ensures c.less.ensures (waved_front c.given_of-given.result c.args.out.now few c.fill_wave-phase.ensures) in
    record { voice = made b.same (valid-after c.args.len v c.requires.valid); given = b.given }
