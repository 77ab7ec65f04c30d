-- `text::words::say` meets its contract. Assumes nothing.
use Rattle.text.proofs.Writing.{copied}
use Rattle.text.proofs.words.say.Goals as goal

pub returns : goal.returns
returns c = copied c.args.out.now c.args.at c.args.w.now c.copy_from_slice.new.self c.requires c.copy_from_slice.ensures.after
