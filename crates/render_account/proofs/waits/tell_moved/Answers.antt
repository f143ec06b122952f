-- `render_account::waits::tell_moved` meets its contract: the test is the definition's, then piece after piece.
use mathlib.Core.Path.{sym}
use borrow.Author.Tests.{le-leb, lt-leb}
use Rattle.render_texts.proofs.Laws.{then}
use Rattle.render_texts.proofs.Whole.{whole}
use Rattle.render_account.proofs.Laws.{moved-within}
use Rattle.render_account.specs.Waits.{moved_text}
use Rattle.render_account.proofs.waits.tell_moved.Goals as goal

pub returns-then-n-m : goal.returns-then-n-m
unfolding moved_text
returns-then-n-m c = whole (moved-within c.args.before.now c.args.after.now c.args.c) (rw (sym c.waiting_count-n.ensures, sym c.waiting_count-m.ensures, le-leb _ _ c.if-n-m.true) (c.empty.ensures))

pub returns : goal.returns
unfolding moved_text
returns c = whole (moved-within c.args.before.now c.args.after.now c.args.c) (rw (sym c.waiting_count-n.ensures, sym c.waiting_count-m.ensures, lt-leb _ _ c.if-n-m.false, sym c.kept_refusal-old.ensures, sym c.kept_refusal-new.ensures) (then (then (then (then (then c.at_time.ensures c.things-gone.ensures) c.say.ensures) c.count-left.ensures) c.say-2.ensures) c.dropped.ensures))
