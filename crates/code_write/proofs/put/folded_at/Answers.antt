-- A place of the folded list is the place folded (`read_fold`); the list's range gives the number's (`read_mag`).
use mathlib.Core.Path.{◌∙◌}
use Rattle.code_write.specs.laws.Signed.{read_mag, read_fold}
use Rattle.code_write.proofs.put.folded_at.Goals as goal

pub folded-requires : goal.folded-requires
folded-requires c = read_mag c.args.xs.now c.args.i c.requires.1

pub returns : goal.returns
returns c = c.folded.ensures ∙ read_fold c.args.xs.now c.args.i c.requires.1
