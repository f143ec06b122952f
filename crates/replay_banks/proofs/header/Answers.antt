-- `replay_banks::header` meets its contract: ten bytes, one after another.
use Rattle.laws.specs.Runs.{given}
use Rattle.replay_banks.proofs.header.Goals as goal

pub returns : goal.returns
unfolding given
returns c =
    rw (c.byte_at-10.ensures, c.byte_at-9.ensures, c.byte_at-8.ensures, c.byte_at-7.ensures, c.byte_at-6.ensures, c.byte_at-5.ensures, c.byte_at-4.ensures, c.byte_at-3.ensures, c.byte_at-2.ensures, c.byte_at.ensures)
