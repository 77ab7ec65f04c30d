-- `fingers::keys::key_step` meets its contract. Assumes nothing.
use mathlib.Core.Path.{sym}
use Rattle.fingers.proofs.KeyMasks.{same-masks}
use borrow.Author.Rules.{rules}
use Rattle.fingers.proofs.keys.key_step.Goals as goal

pub returns-then-keys-want : goal.returns-then-keys-want
returns-then-keys-want c = sym (same-masks c.args.keys c.args.want (search rules) c.if-keys-want.true)
