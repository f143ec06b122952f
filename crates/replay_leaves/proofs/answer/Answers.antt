-- `replay_leaves::answer` meets its contract: each reply's text was written from place 0 on.
use borrow.Author.Rules.{rules}
use mathlib.Core.Path.{sym, ◌∙◌}
use Rattle.replay_leaves.proofs.Done.{done, short}
use Rattle.replay_leaves.proofs.answer.Goals as goal

pub duties-len-requires : goal.duties-len-requires
duties-len-requires c = short c.args.line.now (sym c.reply_of.ensures ∙ c.in-Duties.is)

pub returns-in-Bad : goal.returns-in-Bad
returns-in-Bad c = done (search rules) (sym c.reply_of.ensures ∙ c.in-Bad.is) c.put_line-len.ensures.0

pub returns-in-Word : goal.returns-in-Word
returns-in-Word c = done (search rules) (sym c.reply_of.ensures ∙ c.in-Word.is) c.put_line-len-in-Word.ensures.0

pub returns-in-Levels : goal.returns-in-Levels
returns-in-Levels c = done (search rules) (sym c.reply_of.ensures ∙ c.in-Levels.is) c.levels-len.ensures

pub returns-in-State : goal.returns-in-State
returns-in-State c = done (search rules) (sym c.reply_of.ensures ∙ c.in-State.is) c.state-len.ensures

pub returns-in-Duties : goal.returns-in-Duties
returns-in-Duties c = done (search rules) (sym c.reply_of.ensures ∙ c.in-Duties.is) c.duties-len.ensures

pub returns-in-Source : goal.returns-in-Source
returns-in-Source c = done (search rules) (sym c.reply_of.ensures ∙ c.in-Source.is) c.source-len.ensures

pub returns-in-Voice : goal.returns-in-Voice
returns-in-Voice c = done (search rules) (sym c.reply_of.ensures ∙ c.in-Voice.is) c.voice-len.ensures

pub returns-in-Restored : goal.returns-in-Restored
returns-in-Restored c = done (search rules) (sym c.reply_of.ensures ∙ c.in-Restored.is) c.restored-len.ensures

pub returns-in-Pattern : goal.returns-in-Pattern
returns-in-Pattern c = done (search rules) (sym c.reply_of.ensures ∙ c.in-Pattern.is) c.pattern-len.ensures

pub returns-in-Recording : goal.returns-in-Recording
returns-in-Recording c = done (search rules) (sym c.reply_of.ensures ∙ c.in-Recording.is) c.reader-len.ensures

pub returns-in-Bank : goal.returns-in-Bank
returns-in-Bank c = done (search rules) (sym c.reply_of.ensures ∙ c.in-Bank.is) c.bank-len.ensures

pub returns-in-Counts : goal.returns-in-Counts
returns-in-Counts c = done (search rules) (sym c.reply_of.ensures ∙ c.in-Counts.is) c.counts-len.ensures
