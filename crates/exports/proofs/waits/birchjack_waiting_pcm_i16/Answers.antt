-- The refusal's number, or what the box's calls give one after another.
use Rattle.exports.specs.Waits.{lent}
use Rattle.exports.proofs.Leaving.{waited}
use Rattle.exports.proofs.waits.birchjack_waiting_pcm_i16.Goals as goal

pub returns-in-Ok : goal.returns-in-Ok
returns-in-Ok c =
    let a = c.args in
    let ready = rw (c.settings-config.ensures, c.in-Ok.is) at c.ready.ensures in
    let cells = lent a.numbers.now a.out.now a.labels.now a.count.now a.dropped.now in
    let w = waited a.bytes.now a.left.now cells c.fill_pcm_i16_buffer.new.self _ c.play_all.ensures.same c.leave_each.ensures c.fill_pcm_i16_buffer.ensures
    c.waiting_labels.ensures
    c.waiting_count.ensures.count
    (rw c.kept_refusal.ensures at c.dropped_cells.ensures) in
    record { number = rw (← ready); cells = rw (← ready) w }
